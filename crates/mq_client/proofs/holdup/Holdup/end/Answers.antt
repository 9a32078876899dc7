use Rattle.std.proofs.Common.{rules, ◌≡◌, ℕ, List, [], Option, ap, ◌∙◌, subst, not}
use Rattle.mq_client.proofs.Words.{FullLogin, Holding, Spans, filter, is_over, still}
use Rattle.std.proofs.lemmas.Fn.{filter_same}
use Rattle.mq_client.proofs.holdup.Holdup.end.Goals as goal

pub returns : goal.returns
returns c =
    let i = c.self.inside in
    let kept : c.retain.new.self.items ≡ filter (λ (f : FullLogin). not (is_over i.spans.hold f.since c.args.seconds)) i.full.items =
    filter_same _ _ _ (λ x b f' k. search rules) _ _ c.retain.ensures.filtered in
    let A : Option ℕ → Spans × Holding = λ o. (i.spans, record { paused = o; full = c.retain.new.self.items }) in
    let B : List FullLogin → Spans × Holding = λ l. (i.spans, record { paused = (still i.spans c.args.seconds (record { paused = i.paused; full = [] })).paused; full = l }) in
    subst (λ (v : Spans × Holding). (i.spans, record { paused = c.still_paused-self-inside.result; full = c.retain.new.self.items }) ≡ (v.0, still v.0 c.args.seconds v.1)) c.self.view_is (ap A c.still_paused-self-inside.ensures ∙ ap B kept)
