-- Why recipients are answered by the limit with no question.
use Rattle.std.proofs.Common.{◌≡◌, ℕ, ◌+◌, ◌-◌, ◌<◌, ◌≤◌, ◌==◌, Bool, true, false, List, [], ◌∷◌, ◌++◌, ◌||◌, ◌&&◌, length, refl, sym, ap, ◌∙◌, subst, arith, not, cond, inl, inr, Option, None, Some, is_some, if◌then◌else◌}
use Rattle.mq_client.proofs.Words.{Action, AllByRecursion, Answers, Ask, Asks, Close, Decision, Drain, Exchange, FilterLine, Filters, FullLogin, Holding, Meaning, Passes, Query, Refuses, Spans, Step, Takes, action_of, after_line, at_line, decision_by, eqb-true, filter, held_back, is_full, is_over, leb-false, ltb-false, nat_le, nat_lt, neither_first, neither_second, push, query, same_text, seconds_in, still, weaker}
use Rattle.mq_lemmas.proofs.Booleans.{either, first_so, second_so}
use Rattle.mq_lemmas.proofs.Lists.{all_filter, all_push}
use Rattle.std.proofs.lemmas.Slice.Eq.{bytes_eq-Decides}
use Rattle.mq_line.specs.declared.results.Decision.TheVariants.{RejectLimit, RejectService}
use Rattle.mq_client.specs.Reading.{has_exchange}
use Rattle.mq_client.specs.Holding.{full_in, freed_by, freed_in, minute_of, noted_by, with_full, is_freed}
use Rattle.mq_client.specs.Reasons.{AreReasoned, HasReason, IsReasoned, Turn, WasFull, frees_at, frees_by, own_step, steps_before, turns}
use Rattle.mq_client.specs.Run.{HasReasons}
use Rattle.mq_client.proofs.Sameness.{kind_of, taken_kind}

-- ---- turns

-- a line and its step
abbrev turn_of : Meaning → Option Step → Turn
turn_of m step = record { line = m; step = step }

own : (o : Option Action) (step : Option Step) (before : List Step) → kind_of step ≡ o → (own_step o (push step before) ≡ step) × (steps_before o (push step before) ≡ before)
own None None before e = (refl, refl)
own (Some a) (Some x) before e = (refl, refl)
own None (Some x) before e = absurd (cc (e))
own (Some a) None before e = absurd (cc (e))

turns_push : (L : List Meaning) (m : Meaning) (step : Option Step) (before : List Step) → kind_of step ≡ action_of L m → turns (m ∷ L) (push step before) ≡ turn_of m step ∷ turns L before
turns_push L m step before e =
    let (mine, rest) = own (action_of L m) step before e in
    ap (λ (s : Option Step). turn_of m s ∷ turns L (steps_before (action_of L m) (push step before))) mine ∙ ap (λ (l : List Step). turn_of m step ∷ turns L l) rest

-- ---- what a full login says

-- one of these turns found the login full, and none of it was given back since
record Known (T : List Turn) (f : FullLogin) : Type 0 where
  later : List Turn
  turn : Turn
  before : List Turn
  whole : T ≡ later ++ turn ∷ before
  at : seconds_in turn.line ≡ Some f.since
  begun : ℕ
  full : full_in turn.step ≡ Some (f.login, begun)
  minute : f.minute ≡ minute_of begun
  none_freed : AllByRecursion (λ (t : Turn). frees_at f.login t.step ≡ false) later

known_later : (T : List Turn) (t : Turn) (f : FullLogin) → Known T f → frees_at f.login t.step ≡ false → Known (t ∷ T) f
known_later T t f k e = record {
  later = t ∷ k.later;
  turn = k.turn;
  before = k.before;
  whole = ap (λ (l : List Turn). t ∷ l) k.whole;
  at = k.at;
  begun = k.begun;
  full = k.full;
  minute = k.minute;
  none_freed = (e, k.none_freed);
}

known_now : (T : List Turn) (t : Turn) (seconds : ℕ) (login : List ℕ) (moment : ℕ) → seconds_in t.line ≡ Some seconds → full_in t.step ≡ Some (login, moment) → Known (t ∷ T) (record { since = seconds; minute = minute_of moment; login = login })
known_now T t seconds login moment at full = record {
  later = [];
  turn = t;
  before = T;
  whole = refl;
  at = at;
  begun = moment;
  full = full;
  minute = refl;
  none_freed = tt;
}

-- what passes a filter
all_passing : {X : Type 0} (P Q : X → Type 0) (p : X → Bool) (xs : List X) → AllByRecursion P xs → ((x : X) → p x ≡ true → P x → Q x) → AllByRecursion Q (filter p xs)
all_passing P Q p [] all h = tt
all_passing P Q p (x ∷ xs) all h = elim (either (p x)) [
  | inl t ↦ rw t (h x t all.0, all_passing P Q p xs all.1 h)
  | inr f ↦ rw f (all_passing P Q p xs all.1 h)
]

not_true : (b : Bool) → not b ≡ true → b ≡ false
not_true true e = absurd cc
not_true false e = refl

-- after a step all that is held back is known still
known_freed : (T : List Turn) (m : Meaning) (step : Option Step) (h : Holding) → AllByRecursion (Known T) h.full → AllByRecursion (Known (turn_of m step ∷ T)) (freed_in step h).full
known_freed T m None h all = weaker (Known T) (Known (turn_of m None ∷ T)) (λ f k. known_later T (turn_of m None) f k refl) h.full all
known_freed T m (Some x) h all = by_action x.action x.group (turn_of m (Some x)) (λ login. refl)
  where
    by_action : (a : Action) (group : List Exchange) (t : Turn) → ((login : List ℕ) → frees_at login t.step ≡ frees_by login a group) → AllByRecursion (Known (t ∷ T)) (freed_by a group h).full
    by_action (Close txn end) group t is = all_passing (Known T) (Known (t ∷ T)) (λ f. not (is_freed f.login group)) h.full all (λ f p k. known_later T t f k (is f.login ∙ not_true (is_freed f.login group) p))
    by_action (Ask txn moment login) group t is = weaker (Known T) (Known (t ∷ T)) (λ f k. known_later T t f k (is f.login)) h.full all
    by_action Drain group t is = weaker (Known T) (Known (t ∷ T)) (λ f k. known_later T t f k (is f.login)) h.full all

known_with : (T : List Turn) (t : Turn) (spans : Spans) (seconds : ℕ) (found : Option (List ℕ × ℕ)) (full : List FullLogin) → seconds_in t.line ≡ Some seconds → full_in t.step ≡ found → AllByRecursion (Known (t ∷ T)) full → AllByRecursion (Known (t ∷ T)) (with_full spans seconds found full)
known_with T t spans seconds None full at is all = all
known_with T t spans seconds (Some (login, moment)) full at is all = by_room ((spans.hold == 0) || nat_le 1000 (length full))
  where
    by_room : (b : Bool) → AllByRecursion (Known (t ∷ T)) (if b then full else full ++ record { since = seconds; minute = minute_of moment; login = login } ∷ [])
    by_room true = all
    by_room false = all_push (Known (t ∷ T)) full _ all (known_now T t seconds login moment at is)

known_after : (T : List Turn) (spans : Spans) (m : Meaning) (step : Option Step) (h : Holding) → AllByRecursion (Known T) h.full → AllByRecursion (Known (turn_of m step ∷ T)) (after_line spans m step h).full
known_after T spans m step h all = by_second (seconds_in m) refl
  where
    by_second : (o : Option ℕ) → seconds_in m ≡ o → AllByRecursion (Known (turn_of m step ∷ T)) (noted_by spans o step h).full
    by_second None e = known_freed T m step h all
    by_second (Some seconds) e = known_with T (turn_of m step) spans seconds (full_in step) (freed_in step h).full e refl (known_freed T m step h all)

known_at : (T : List Turn) (spans : Spans) (m : Meaning) (h : Holding) → AllByRecursion (Known T) h.full → AllByRecursion (Known T) (at_line spans m h).full
known_at T spans m h all = by_second (seconds_in m) refl
  where
    by_second : (o : Option ℕ) → seconds_in m ≡ o → AllByRecursion (Known T) (at_line spans m h).full
    by_second None e = rw e all
    by_second (Some seconds) e = rw e (all_filter (Known T) (λ f. not (is_over spans.hold f.since seconds)) h.full all)

known : (spans : Spans) (L : List Meaning) (steps : List Step) (text : List ℕ) (h : Holding) → Filters spans L steps text h → AllByRecursion (Known (turns L steps)) h.full
known spans [] steps text h r = subst (λ (k : Holding). AllByRecursion (Known []) k.full) (sym r.2) tt
known spans (m ∷ L) steps text h (step, before, written, next, held, r, takes, is, whole, after) =
    let T : List Turn = turns L before in
    let k : Holding = at_line spans m held in
    let now : AllByRecursion (Known (turn_of m step ∷ T)) (after_line spans m step k).full = known_after T spans m step k (known_at T spans m held (known spans L before written held r)) in
    let same : turns (m ∷ L) steps ≡ turn_of m step ∷ T = ap (turns (m ∷ L)) is ∙ turns_push L m step before (taken_kind k L m step next takes) in
    subst (λ (j : Holding). AllByRecursion (Known (turns (m ∷ L) steps)) j.full) (sym after) (subst (λ (U : List Turn). AllByRecursion (Known U) (after_line spans m step k).full) (sym same) now)

-- ---- the reason

in_time : (hold since seconds : ℕ) → is_over hold since seconds ≡ false → (since ≤ seconds) × (seconds < since + hold)
in_time hold since seconds e =
    let a : nat_lt seconds since ≡ false = neither_first (nat_lt seconds since) (nat_le hold (seconds - since)) e in
    let b : nat_le hold (seconds - since) ≡ false = neither_second (nat_lt seconds since) (nat_le hold (seconds - since)) e in
    let le : since ≤ seconds = ltb-false seconds since a in
    let lt : seconds - since < hold = leb-false hold (seconds - since) b in
    (le, omega (arith, le, lt))

was_full : (hold seconds : ℕ) (login : List ℕ) (moment : ℕ) (T : List Turn) (full : List FullLogin) → AllByRecursion (Known T) full
    → is_full login (minute_of moment) (filter (λ f. not (is_over hold f.since seconds)) full) ≡ true → WasFull hold login moment seconds T
was_full hold seconds login moment T [] all e = absurd cc
was_full hold seconds login moment T (f ∷ full) all e = by_over (λ e'. was_full hold seconds login moment T full all.1 e') (is_over hold f.since seconds) refl e
  where
    this_one : is_over hold f.since seconds ≡ false → ((f.minute == minute_of moment) && same_text f.login login) ≡ true → WasFull hold login moment seconds T
    this_one over is =
        let k = all.0 in
        let same : f.login ≡ login = (bytes_eq-Decides f.login login).0 (second_so (f.minute == minute_of moment) (same_text f.login login) is) in
        let minute : f.minute ≡ minute_of moment = eqb-true f.minute (minute_of moment) (first_so (f.minute == minute_of moment) (same_text f.login login) is) in
        let (le, lt) = in_time hold f.since seconds over in
        record {
          later = k.later;
          turn = k.turn;
          before = k.before;
          whole = k.whole;
          since = f.since;
          at = k.at;
          begun = k.begun;
          full = k.full ∙ ap (λ (l : List ℕ). Some (l, k.begun)) same;
          minute = sym k.minute ∙ minute;
          not_before = le;
          recent = lt;
          none_freed = subst (λ (l : List ℕ). AllByRecursion (λ (t : Turn). frees_at l t.step ≡ false) k.later) same k.none_freed;
        }

    by_this : (is_full login (minute_of moment) (filter (λ (g : FullLogin). not (is_over hold g.since seconds)) full) ≡ true → WasFull hold login moment seconds T) → (b : Bool) → ((f.minute == minute_of moment) && same_text f.login login) ≡ b → is_over hold f.since seconds ≡ false
        → (b || is_full login (minute_of moment) (filter (λ (g : FullLogin). not (is_over hold g.since seconds)) full)) ≡ true → WasFull hold login moment seconds T
    by_this later true is over e = this_one over is
    by_this later false is over e = later e

    by_over : (is_full login (minute_of moment) (filter (λ (g : FullLogin). not (is_over hold g.since seconds)) full) ≡ true → WasFull hold login moment seconds T) → (b : Bool) → is_over hold f.since seconds ≡ b
        → is_full login (minute_of moment) (cond (not b) (f ∷ filter (λ (g : FullLogin). not (is_over hold g.since seconds)) full) (filter (λ (g : FullLogin). not (is_over hold g.since seconds)) full)) ≡ true → WasFull hold login moment seconds T
    by_over later true over e = later e
    by_over later false over e = by_this later ((f.minute == minute_of moment) && same_text f.login login) refl over e

no_group : (group : List Exchange) → has_exchange group ≡ false → group ≡ []
no_group [] e = refl
no_group (x ∷ group) e = absurd cc

-- answered by the limit with no exchange is who is held back so
by_limit : (h : Holding) (login : List ℕ) (moment : ℕ) → RejectLimit ≡ decision_by (held_back h login moment) [] → is_full login (minute_of moment) h.full ≡ true
by_limit h login moment e = by_full (is_full login (minute_of moment) h.full) refl e
  where
    by_paused : (b : Bool) → RejectLimit ≡ decision_by (if b then Some RejectService else None) [] → ⊥
    by_paused true e = cc (e)
    by_paused false e = cc (e)

    by_full : (b : Bool) → is_full login (minute_of moment) h.full ≡ b → RejectLimit ≡ decision_by (if b then Some RejectLimit else (if is_some h.paused then Some RejectService else None)) [] → is_full login (minute_of moment) h.full ≡ true
    by_full true is e = is
    by_full false is e = absurd (by_paused (is_some h.paused) e)

reason : (spans : Spans) (seconds : ℕ) (T : List Turn) (h : Holding) (q : Query) (step : Option Step) (d : Decision) → AllByRecursion (Known T) h.full → Answers (still spans seconds h) q step d → d ≡ RejectLimit → HasReason spans.hold seconds T step
reason spans seconds T h Passes step d all a e = absurd (cc (a.1, e))
reason spans seconds T h Refuses step d all a e = absurd (cc (a.1, e))
reason spans seconds T h (Asks txn moment login) step d all (group, is, answer) e =
    subst (HasReason spans.hold seconds T) (sym is) (λ none. (
      txn,
      moment,
      login,
      refl,
      was_full spans.hold seconds login moment T h.full all
          (by_limit (still spans seconds h) login moment (sym e ∙ answer ∙ ap (decision_by (held_back (still spans seconds h) login moment)) (no_group group none))),
    ))

reasoned_line : (spans : Spans) (L : List Meaning) (steps : List Step) (m : Meaning) (h : Holding) (step : Option Step) (next : List ℕ) → AllByRecursion (Known (turns L steps)) h.full → Takes (at_line spans m h) L m step next → IsReasoned spans.hold (turns L steps) m step next
reasoned_line spans L steps (FilterLine seconds subsystem phase session token rest) h step next all (d, answers, is) =
    (d, is, λ e. reason spans seconds (turns L steps) h (query L subsystem phase session) step d all answers e)
reasoned_line spans L steps m h step next all takes = takes.2

-- whatever line comes next
pub reasoned_next : (spans : Spans) (L : List Meaning) (steps : List Step) (text : List ℕ) (h : Holding) → Filters spans L steps text h
    → (m : Meaning) (step : Option Step) (next : List ℕ) → Takes (at_line spans m h) L m step next → IsReasoned spans.hold (turns L steps) m step next
reasoned_next spans L steps text h r m step next takes = reasoned_line spans L steps m h step next (known spans L steps text h r) takes

-- and each before
pub reasoned : (spans : Spans) (L : List Meaning) (steps : List Step) (text : List ℕ) (h : Holding) → Filters spans L steps text h → AreReasoned spans.hold L steps text
reasoned spans [] steps text h r = (r.0, r.1)
reasoned spans (m ∷ L) steps text h (step, before, written, next, held, r, takes, is, whole, after) = (
  step,
  before,
  written,
  next,
  reasoned spans L before written held r,
  taken_kind (at_line spans m held) L m step next takes,
  reasoned_next spans L before written held r m step next takes,
  is,
  whole,
)

pub reasons : (spans : Spans) (L : List Meaning) (steps : List Step) (text : List ℕ) (h : Holding) → Filters spans L steps text h → HasReasons spans h L steps text
reasons spans L steps text h r = record { so_far = reasoned spans L steps text h r; next = reasoned_next spans L steps text h r }
