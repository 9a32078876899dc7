-- Without spans nothing is held back.
use Rattle.std.proofs.Common.{◌≡◌, ℕ, ◌-◌, true, false, List, [], ◌∷◌, refl, ap, ◌∙◌, sym, subst, Option, None, Some, is_some, arith, not, if◌then◌else◌}
use Rattle.mq_client.proofs.Words.{AllByRecursion, Answers, Asks, Closes, Closing, Decision, FilterLine, Filters, FullLogin, Holding, Meaning, Query, ReportLine, Spans, Step, Takes, at_line, closing, filter, held_back, is_full, is_over, nat_le, nat_lt, or_second, push, query, still, still_paused}
use Rattle.std.proofs.lemmas.Bool.Decides.{nat_tests}
use Rattle.mq_client.specs.Holding.{minute_of}
use Rattle.mq_line.specs.declared.results.Decision.TheVariants.{RejectLimit, RejectService}

at_once : (since seconds : ℕ) → is_over 0 since seconds ≡ true
at_once since seconds = or_second (nat_lt seconds since) (nat_le 0 (seconds - since)) (grind (arith, nat_tests))

no_pause : (seconds : ℕ) (paused : Option ℕ) → still_paused 0 seconds paused ≡ None
no_pause seconds None = refl
no_pause seconds (Some since) = rw (at_once since seconds) refl

none_full : (seconds : ℕ) (full : List FullLogin) → filter (λ (f : FullLogin). not (is_over 0 f.since seconds)) full ≡ []
none_full seconds [] = refl
none_full seconds (f ∷ full) = rw (at_once f.since seconds) (none_full seconds full)

pub without_pause : (spans : Spans) (seconds : ℕ) (h : Holding) → spans.pause ≡ 0 → (still spans seconds h).paused ≡ None
without_pause spans seconds h e = ap (λ n. still_paused n seconds h.paused) e ∙ no_pause seconds h.paused

pub without_hold : (spans : Spans) (seconds : ℕ) (h : Holding) → spans.hold ≡ 0 → (still spans seconds h).full ≡ []
without_hold spans seconds h e = ap (λ n. filter (λ (f : FullLogin). not (is_over n f.since seconds)) h.full) e ∙ none_full seconds h.full

-- ---- no step is quiet then

-- a step, where there is one, that isn't quiet
abbrev IsLoud : Option Step → Type 0
IsLoud None = Unit {0}
IsLoud (Some x) = x.quiet ≡ false

-- nothing is held back
record IsFree (h : Holding) : Type 0 where
  paused : h.paused ≡ None
  full : h.full ≡ []

none_held : (h : Holding) (login : List ℕ) (moment : ℕ) → IsFree h → held_back h login moment ≡ None
none_held h login moment f =
    subst (λ (l : List FullLogin). (if is_full login (minute_of moment) l then Some RejectLimit else (if is_some h.paused then Some RejectService else None)) ≡ None) (sym f.full) (subst (λ (o : Option ℕ). (if is_some o then Some RejectService else None) ≡ None) (sym f.paused) refl)

loud_none : (step : Option Step) → step ≡ None → IsLoud step
loud_none step e = subst IsLoud (sym e) tt

loud_answers : (h : Holding) (q : Query) (step : Option Step) (d : Decision) → IsFree h → Answers h q step d → IsLoud step
loud_answers h (Asks txn moment login) step d f (group, is, answer) = subst IsLoud (sym is) (ap is_some (none_held h login moment f))
loud_answers h q step d f a = loud_none step a.0

loud_closes : (h : Holding) (c : Option Closing) (step : Option Step) → IsFree h → Closes (is_some h.paused) c step → IsLoud step
loud_closes h None step f is = loud_none step is
loud_closes h (Some c) step f (group, is) = subst IsLoud (sym is) (ap is_some f.paused)

free : (spans : Spans) (seconds : ℕ) (h : Holding) → spans.pause ≡ 0 → spans.hold ≡ 0 → IsFree (still spans seconds h)
free spans seconds h e f = record { paused = without_pause spans seconds h e; full = without_hold spans seconds h f }

loud_takes : (spans : Spans) (h : Holding) (L : List Meaning) (m : Meaning) (step : Option Step) (text : List ℕ) → spans.pause ≡ 0 → spans.hold ≡ 0 → Takes (at_line spans m h) L m step text → IsLoud step
loud_takes spans h L (FilterLine seconds subsystem phase session token rest) step text e f (d, a, is) = loud_answers (still spans seconds h) (query L subsystem phase session) step d (free spans seconds h e f) a
loud_takes spans h L (ReportLine seconds subsystem name session params) step text e f t = loud_closes (still spans seconds h) (closing L (ReportLine seconds subsystem name session params)) step (free spans seconds h e f) t.1
loud_takes spans h L m step text e f t = loud_none step t.1

all_push : (step : Option Step) (steps : List Step) → IsLoud step → AllByRecursion (λ (x : Step). x.quiet ≡ false) steps → AllByRecursion (λ (x : Step). x.quiet ≡ false) (push step steps)
all_push None steps l all = all
all_push (Some x) steps l all = (l, all)

pub none_quiet : (spans : Spans) (L : List Meaning) (steps : List Step) (text : List ℕ) (h : Holding) → spans.pause ≡ 0 → spans.hold ≡ 0 → Filters spans L steps text h → AllByRecursion (λ (x : Step). x.quiet ≡ false) steps
none_quiet spans [] steps text h e f r = subst (AllByRecursion (λ (x : Step). x.quiet ≡ false)) (sym r.0) tt
none_quiet spans (m ∷ L) steps text h e f (step, before, written, next, held, r, takes, is, whole, after) =
    subst (AllByRecursion (λ (x : Step). x.quiet ≡ false)) (sym is) (all_push step before (loud_takes spans held L m step next e f takes) (none_quiet spans L before written held e f r))
