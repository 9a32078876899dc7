use Rattle.std.proofs.Common.{[], ap, rules, subst, sym, take, ◌+◌, ◌++◌, ◌∙◌, ◌∷◌, ◌≡◌}
use Rattle.std.specs.Prelude.{All}
use Rattle.std.proofs.lemmas.List.{take_more}
use Rattle.std.proofs.lemmas.List.Elements.{All-push}
use Rattle.mq_request.specs.declared.message.Request.{Request}
use Rattle.mq_ledger.specs.Day.{day_of}
use Rattle.mq_watch.specs.Ahead.{MayBePutWithOthers}
use Rattle.mq_watch.proofs.ahead.may_be_put_together.Goals as goal

pub loop-request-preserved : goal.loop-request-preserved
loop-request-preserved c =
    let rs = c.args.requests.now in
    let at = c.loop-request.request-index in
    let r = c.request-item.result in
    let place : take (at + 1) rs ≡ take at rs ++ r ∷ [] = take_more rs at r c.loop-request-test.true ∙ ap (λ (x : Request). take at rs ++ x ∷ []) (sym c.request-item.is) in
    let May : Request → Type 0 = MayBePutWithOthers (day_of c.args.zone.now) c.args.now in
    let may : May r = search rules in
    record { all = subst (All May) (sym place) (All-push May (take at rs) r c.loop-request.invariant.all may) }
