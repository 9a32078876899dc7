-- What is kept of a clock that shows days in turn.
use Rattle.std.proofs.Common.{◌≡◌, ℕ, ◌+◌, ◌<◌, ◌≤◌, List, [], ◌∷◌, true, false, refl, ◌∙◌, Some, inl, inr, arith}
use Rattle.std.specs.Prelude.{All, nat_lt}
use Rattle.std.proofs.lemmas.Bool.{lt-ltb, ltb-true, false_from_ne_true}
use Rattle.std.proofs.lemmas.List.Elements.{All-head, All-tail}
use Rattle.mq_lemmas.proofs.Booleans.{either}
use Rattle.mq_watch.specs.Today.{calendar_after, calendar_after_all, lag_at, today_of}
use Rattle.mq_watch.specs.declared.calendar.Calendar.{Calendar}

-- the ledger's first day stays
first_stays : (c : Calendar) (day : ℕ) → (calendar_after c day).first ≡ c.first
first_stays c day = elim (either (nat_lt day c.first)) [ inl t ↦ rw t refl | inr f ↦ rw f refl ]

first_of_all : (c : Calendar) (days : List ℕ) → (calendar_after_all c days).first ≡ c.first
first_of_all c [] = refl
first_of_all c (day ∷ days) = first_of_all (calendar_after c day) days ∙ first_stays c day

not_before : (first day : ℕ) → first ≤ day → nat_lt day first ≡ false
not_before first day le = false_from_ne_true (nat_lt day first) (λ t. omega (arith, ltb-true day first t, le))

-- a clock that isn't behind counts by itself
pub right_now : (c : Calendar) (days : List ℕ) (day : ℕ) → c.first ≤ day → today_of (calendar_after_all c days) day ≡ day
right_now c days day le =
    let is : nat_lt day (calendar_after_all c days).first ≡ false = rw (first_of_all c days) (not_before c.first day le) in
    rw is refl

-- what is kept of one that is behind stays
stuck : (c : Calendar) (n : ℕ) (days : List ℕ) → c.lag ≡ Some n → All (λ d. d < c.first) days → calendar_after_all c days ≡ c
stuck c n [] lag all = refl
stuck c n (day ∷ days) lag all =
    let is : nat_lt day c.first ≡ true = lt-ltb day c.first (All-head (λ d. d < c.first) day days all) in
    let same : calendar_after c day ≡ c = rw (is, lag) refl in
    rw same (stuck c n days lag (All-tail (λ d. d < c.first) day days all))

-- as many days pass as by the clock
pub days_pass : (c : Calendar) (days : List ℕ) (before day : ℕ) → All (λ d. d < c.first) (before ∷ days) → day < c.first
    → today_of (calendar_after_all c (before ∷ days)) day + before ≡ today_of c before + day
days_pass c days before day all below =
    let P : ℕ → Type 0 = λ d. d < c.first in
    let was : nat_lt before c.first ≡ true = lt-ltb before c.first (All-head P before days all) in
    let now : nat_lt day c.first ≡ true = lt-ltb day c.first below in
    let n : ℕ = lag_at c before in
    let then : Calendar = record c { lag = Some n } in
    let kept : calendar_after c before ≡ then = rw was refl in
    let all_after : calendar_after_all c (before ∷ days) ≡ then = rw kept (stuck then n days refl (All-tail P before days all)) in
    let today : today_of then day ≡ day + n = rw now refl in
    let it : today_of c before ≡ before + n = rw was refl in
    rw (all_after, today, it) (omega arith)
