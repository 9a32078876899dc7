-- One server alone.
use Rattle.mq_world.proofs.Words.{Book, [], all_filter, arith, day_of, stays, sum_by, sum_by-cons, ℕ, ◌∷◌, ◌≤◌}
use Rattle.mq_world.specs.World.{Site, World, IsStart, IsOfOthers}
use Rattle.mq_world.specs.Forgetting.{forgotten, ReachesForgetting, FromStart, Steps, Forgets}
use Rattle.mq_world.specs.Together.{Together, IsStartTogether, ReachesTogether, kept_of, used_of, cap_of}
use Rattle.mq_world.specs.Together as servers
use Rattle.mq_world.proofs.Forgetting.{OfForgetting}
use Rattle.mq_world.proofs.Ways.{alone}
use Rattle.mq_world.proofs.laws.never_past_the_limit_over_a_forgetting.Goals as goal

start_alone : (site : Site) (w : World) → IsStart site w → IsStartTogether site (alone w)
start_alone site w z = record { first = z; standby = tt; zones = tt }

reaches_alone : (site : Site) (F : ℕ) (start w : World) → ReachesForgetting site start F w → ReachesTogether site (alone start) F (alone w)
reaches_alone site F start w FromStart = servers.FromStart
reaches_alone site F start w (Steps v later r n) = servers.Steps (alone v) later (reaches_alone site F start v r) n
reaches_alone site F start w (Forgets v D r below) = servers.Forgets (alone v) D (reaches_alone site F start v r) below

-- a sum over one ledger
of_one : (f : Book → ℕ) (b : Book) (n : ℕ) → n ≤ sum_by f (b ∷ []) → n ≤ f b
of_one f b n le = omega (arith, le, sum_by-cons f b [])

-- a start that has forgotten some days is one
start_forgotten : OfForgetting → (site : Site) (w : World) (D : ℕ) → IsStart site w → IsStart site (forgotten D w)
start_forgotten R site w D z = record {
  hosts = z.hosts;
  runs = z.runs;
  ledger = record { zone = z.ledger.zone; default = z.ledger.default; legal = R (day_of w.ledger.zone) w.ledger.default D w.ledger.history z.ledger.legal };
  entries = all_filter (λ e. IsOfOthers site e.request) (stays (day_of w.ledger.zone) D w.ledger.history) w.ledger.history z.entries;
  sent = z.sent;
  written = z.written;
}

pub returns : goal.returns
returns c =
    let law = c.never_past_the_limits_together.ensures in
    record {
      start = start_forgotten c.remembered_is_legal.ensures.legal;
      one = λ site start w F z r t h is on. of_one (kept_of t) w.ledger _ (law.one site (alone start) (alone w) F (start_alone site start z) (reaches_alone site F start w r) t h is on);
      together = λ site start w F z r l d ts distinct from. of_one (used_of l d) w.ledger _ (law.together site (alone start) (alone w) F (start_alone site start z) (reaches_alone site F start w r) l d ts distinct from);
      limit = λ site start w F z r l d ts distinct from. of_one (cap_of l d) w.ledger _ (law.limit site (alone start) (alone w) F (start_alone site start z) (reaches_alone site F start w r) l d ts distinct from);
      pasts = λ site start w F z r. law.pasts site (alone start) (alone w) F (start_alone site start z) (reaches_alone site F start w r);
      bounded = λ site start w F z r. law.bounded site (alone start) (alone w) F (start_alone site start z) (reaches_alone site F start w r);
    }
