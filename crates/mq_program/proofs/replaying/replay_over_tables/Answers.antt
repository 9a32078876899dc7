use Rattle.std.proofs.Common.{◌≡◌, ℕ, List, refl, sym, ap, ap₂, subst₂, ◌∙◌}
use Rattle.sqlite.specs.Held.{state}
use Rattle.sqlite.specs.Steps.{over_memory}
use Rattle.sqlite.proofs.Callers.{memory_is_clean}
use Rattle.mq_request.specs.declared.message.Request.{Request}
use Rattle.mq_ledger.specs.declared.zone.Zone.{Zone}
use Rattle.mq_ledger.specs.Answer.{build}
use Rattle.mq_ledger.specs.Day.{day_of}
use Rattle.mq_ledger.specs.Legal.{Book}
use Rattle.mq_store.specs.Soundness.{book_in, HasKept, IsSound}
use Rattle.mq_replay.specs.Replay.{empty_book}
use Rattle.mq_program.proofs.replaying.replay_over_tables.Goals as goal

abbrev made_of : Zone → ℕ → List Request → Book
made_of zone default rs = record { zone = zone; default = default; history = build (day_of zone) default rs }

pub returns-in-Ok-clause-replays : goal.returns-in-Ok-clause-replays
returns-in-Ok-clause-replays g c =
    let at = state over_memory c.in-Ok.ledger.connection in
    let (zone_is, default_is) = c.in-Ok.ensures.lent in
    let kept : HasKept (state over_memory c.replay_over.new.ledger.connection) = record { clean = memory_is_clean c.replay_over.new.ledger.connection; is_open = refl } in
    let sound : IsSound c.in-Ok.ledger.zone c.in-Ok.ledger.default at = subst₂ (λ z d. IsSound z d at) (sym zone_is) (sym default_is) c.in-Ok.ensures.new.sound in
    let made : book_in c.args.zone c.args.default at.now ≡ empty_book c.args.zone c.args.default = ap (made_of c.args.zone c.args.default) c.in-Ok.ensures.new.blank in
    c.replay_over.ensures.replays kept sound c.args.zone c.args.default (ap₂ (λ z d. book_in z d at.now) zone_is default_is ∙ made)
