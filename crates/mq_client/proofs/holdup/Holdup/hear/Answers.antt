use Rattle.std.proofs.Common.{◌≡◌, ℕ, sym, ap, ◌∙◌, arith}
use Rattle.mq_client.proofs.Words.{Holding}
use Rattle.mq_client.specs.Freeing.{heard}
use Rattle.mq_client.specs.TriesOutcome.{given_by}
use Rattle.mq_client.proofs.Freeing.{heard_none, heard_other}
use Rattle.mq_client.proofs.holdup.Holdup.hear.Goals as goal

-- nobody was given back
pub returns-else-given_back-gt0 : goal.returns-else-given_back-gt0
returns-else-given_back-gt0 c =
    let h = c.args.self.now in
    let q = c.args.closing.now in
    let none : given_by c.args.sent ≡ 0 = omega (arith, c.if-given_back-gt0.false, c.given_back.ensures) in
    sym (ap (λ (n : ℕ). (h.0, heard q n h.1)) none ∙ ap (λ (k : Holding). (h.0, k)) (heard_none q h.1))

pub returns-in_default : goal.returns-in_default
returns-in_default c =
    let h = c.args.self.now in
    sym (ap (λ (k : Holding). (h.0, k)) (heard_other c.args.closing.now (given_by c.args.sent) h.1 c.in_default.not-Release))
