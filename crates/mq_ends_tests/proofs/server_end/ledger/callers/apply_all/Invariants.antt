use Rattle.std.proofs.Common.{◌≡◌, ◌++◌, take, drop}
use Rattle.mq_ledger.specs.Answer.{history_of, replies_after}
use Rattle.mq_ledger.specs.Day.{day_of}
use Rattle.mq_ledger.specs.History.{requests}
use Rattle.mq_ends_tests.proofs.server_end.ledger.callers.apply_all.Given as goal

abbrev pub invariant-loop-request : goal.invariant-loop-request
invariant-loop-request g l =
    let book = g.L.Ledger.book in
    let kept = g.L.Ledger.has_kept in
    let sound = g.L.Ledger.is_sound in
    let day = day_of (book l.fn.ledger).zone in
    let default = (book l.fn.ledger).default in
    let before = requests (book l.fn.ledger).history in
    record {
      was_kept : kept l.ledger → kept l.fn.ledger;
      stays_sound : kept l.ledger → sound l.fn.ledger → sound l.ledger;
      same_zone : (book l.ledger).zone ≡ (book l.fn.ledger).zone;
      same_default : (book l.ledger).default ≡ default;
      history_so_far : kept l.ledger → sound l.fn.ledger → (book l.ledger).history ≡ history_of day default (before ++ take l.request-index l.requests);
      replies_so_far : kept l.ledger → sound l.fn.ledger → l.replies.items ++ replies_after day default (before ++ take l.request-index l.requests) (drop l.request-index l.requests) ≡ replies_after day default before l.requests;
    }
