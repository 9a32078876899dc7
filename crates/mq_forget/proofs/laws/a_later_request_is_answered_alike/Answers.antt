use Rattle.mq_forget.proofs.Growing.{Ledgers}
use Rattle.mq_forget.proofs.Replying.{later_reply, later_arrival}
use Rattle.mq_forget.proofs.laws.a_later_request_is_answered_alike.Goals as goal

pub returns : goal.returns
returns c = λ day default D H r legal late.
    let laws : Ledgers day default = record {
      builds = record { legal = c.built_is_legal.ensures day default; arrived = c.one_more_arrival.ensures.arrived day default; again = c.one_more_arrival.ensures.again day default };
      more = c.one_more_arrival.ensures.legal day default;
      least = c.over_is_least.ensures.least day;
      only_least = c.over_is_least.ensures.only day;
      first = c.page_is_first.ensures.first day;
      only_first = c.page_is_first.ensures.only day;
    } in
    (later_reply day default laws D H r legal late, later_arrival day default laws D H r legal late)
