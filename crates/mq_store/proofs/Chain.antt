-- One call after another inside a transaction, and one reading after another outside of one.
use Rattle.std.proofs.Common.{◌∙◌}
use Rattle.mq_store.proofs.Words.{Spares, State, leaves_both, was_clean}
use Rattle.mq_store.specs.Taking.{Stays}

pub stays_both : (a b c : State) → Stays a b → Stays b c → Stays a c
stays_both a b c one two = record { now = two.now ∙ one.now; inside = two.inside ∙ one.inside }

pub ruleset calls = (leaves_both, was_clean, stays_both)

pub spares_both : (a b c : State) → Spares a b → Spares b c → Spares a c
spares_both a b c p q = record {
  was_open = λ o. p.was_open (q.was_open o);
  now = λ o. q.now o ∙ p.now (q.was_open o);
  committed = λ o. q.committed o ∙ p.committed (q.was_open o);
  crash = λ db may. p.crash db (q.crash db may);
}
