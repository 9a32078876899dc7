use Rattle.std.proofs.Common.{rules, ◌≡◌, List, ap, subst, not}
use Rattle.mq_client.proofs.Words.{FullLogin, Holding, Spans, filter, same_text}
use Rattle.std.proofs.lemmas.Fn.{filter_same}
use Rattle.mq_client.proofs.holdup.Holdup.free.Goals as goal

pub returns : goal.returns
returns c =
    let i = c.self.inside in
    let kept : c.retain.new.self.items ≡ filter (λ (f : FullLogin). not (same_text f.login c.args.login.now)) i.full.items =
    filter_same _ _ _ (λ x b f' k. search rules) _ _ c.retain.ensures.filtered in
    let A : List FullLogin → Spans × Holding = λ l. (i.spans, record { paused = i.paused; full = l }) in
    subst (λ (v : Spans × Holding). (i.spans, record { paused = i.paused; full = c.retain.new.self.items }) ≡ (v.0, record { paused = v.1.paused; full = filter (λ (f : FullLogin). not (same_text f.login c.args.login.now)) v.1.full })) c.self.view_is (ap A kept)
