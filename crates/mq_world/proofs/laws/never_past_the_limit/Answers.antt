-- Where nothing is forgotten: no day is before day 0.
use Rattle.mq_world.proofs.Words.{HeldTransaction, Some, Transaction, ap, arith, inl, inr, option_cases, ℕ, ◌≡◌, ◌≤◌}
use Rattle.mq_world.specs.World.{Site, World, Reaches}
use Rattle.mq_world.specs.Law.{standing_of, counting, granted_of, let_by}
use Rattle.mq_world.specs.Forgetting.{ReachesForgetting, FromStart}
use Rattle.mq_world.proofs.Ways.{with_steps}
use Rattle.mq_world.proofs.laws.never_past_the_limit.Goals as goal

forgets_nothing : (site : Site) (start w : World) → Reaches site start w → ReachesForgetting site start 0 w
forgets_nothing site start w r = with_steps site 0 start start w FromStart r

-- what counts not, lets nothing through
none_or : (w : World) (t : Transaction) (n : ℕ) → ((h : HeldTransaction) → counting (standing_of w t) ≡ Some h → let_by (standing_of w t) ≤ n) → let_by (standing_of w t) ≤ n
none_or w t n each = elim (option_cases (counting (standing_of w t))) [
  | inl none ↦ (let z : let_by (standing_of w t) ≡ 0 = ap granted_of none in omega (arith, z))
  | inr p ↦ each p.0 p.1
]

pub returns : goal.returns
returns c =
    let law = c.never_past_the_limit_over_a_forgetting.ensures in
    record {
      one = λ site start w z r t. none_or w t _ (λ h is. law.one site start w 0 z (forgets_nothing site start w r) t h is (omega arith));
      together = λ site start w z r l d ts distinct. law.together site start w 0 z (forgets_nothing site start w r) l d ts distinct (omega arith);
      limit = λ site start w z r l d ts distinct. law.limit site start w 0 z (forgets_nothing site start w r) l d ts distinct (omega arith);
      pasts = λ site start w z r. law.pasts site start w 0 z (forgets_nothing site start w r);
      bounded = λ site start w z r. law.bounded site start w 0 z (forgets_nothing site start w r);
    }
