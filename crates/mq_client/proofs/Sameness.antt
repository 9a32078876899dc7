-- A run depends on the bytes that were read, on what stood before it, and on how its exchanges ended.
use Rattle.std.proofs.Common.{◌≡◌, ℕ, Bool, true, List, [], ◌∷◌, ◌++◌, refl, sym, ap, ◌∙◌, subst, append_assoc, Option, None, Some, is_some}
use Rattle.mq_client.proofs.Words.{some_is, Action, AllByRecursion, Answers, ArePlayed, AreRead, Ask, Asks, Closes, Closing, ComeInTurn, Decision, Exchange, FilterLine, Filters, Holding, IsEarly, IsReady, Meaning, ExchangeOutcome, Plays, Query, Reads, ReadyLine, Request, Source, Spans, Step, Takes, action_of, actions, after_line, all_outcomes, append_cancel_right, asking_of, at_line, close_of, closing, decision_by, held_back, held_for, is_early, next_of, none_some, option_map, outcomes, push, query, queue_of, quiets, result_text, tries_in, view, same_from_push}
use Rattle.mq_client.proofs.Turning.{OneReply, IsOver, over, same_turns}
use Rattle.mq_client.proofs.Basics.{nil_cons, cons_head, cons_tail}

-- ---- the lines

pub early_apart : (U : (line : List ℕ) (m n : Meaning) → Reads line m → Reads line n → m ≡ n) (line : List ℕ) → IsEarly line → Reads line ReadyLine → ⊥
early_apart U line (m, reads, early) ready =
    let same : m ≡ ReadyLine = U line m ReadyLine reads ready in
    let no_early : is_early ReadyLine ≡ true = subst (λ (x : Meaning). is_early x ≡ true) same early in
    cc (no_early)

-- what stands after the first ready line
pub same_after : (U : (line : List ℕ) (m n : Meaning) → Reads line m → Reads line n → m ≡ n) (b c : List (List ℕ)) (r q : List ℕ) (xs ys : List (List ℕ)) → AllByRecursion IsEarly b → AllByRecursion IsEarly c → Reads r ReadyLine → Reads q ReadyLine → b ++ r ∷ xs ≡ c ++ q ∷ ys → xs ≡ ys
same_after U [] [] r q xs ys eb ec hr hq e = cons_tail r q xs ys e
same_after U [] (y ∷ c) r q xs ys eb ec hr hq e = absurd (early_apart U y ec.0 (subst (λ (l : List ℕ). Reads l ReadyLine) (cons_head r y xs (c ++ q ∷ ys) e) hr))
same_after U (x ∷ b) [] r q xs ys eb ec hr hq e = absurd (early_apart U x eb.0 (subst (λ (l : List ℕ). Reads l ReadyLine) (sym (cons_head x q (b ++ r ∷ xs) ys e)) hq))
same_after U (x ∷ b) (y ∷ c) r q xs ys eb ec hr hq e = same_after U b c r q xs ys eb.1 ec.1 hr hq (cons_tail x y (b ++ r ∷ xs) (c ++ q ∷ ys) e)

pub push_not_nil : (xs : List (List ℕ)) (x : List ℕ) → [] ≡ xs ++ x ∷ [] → ⊥
push_not_nil [] x e = nil_cons x [] e
push_not_nil (y ∷ xs) x e = nil_cons y (xs ++ x ∷ []) e

pub same_read : (U : (line : List ℕ) (m n : Meaning) → Reads line m → Reads line n → m ≡ n) (ls ms : List (List ℕ)) (L M : List Meaning) → ls ≡ ms → AreRead ls L → AreRead ms M → L ≡ M
same_read U ls ms [] [] e h i = refl
same_read U ls ms [] (n ∷ M) e h (before, line, whole, reads, rest) = absurd (push_not_nil before line (sym h ∙ e ∙ whole))
same_read U ls ms (m ∷ L) [] e (before, line, whole, reads, rest) i = absurd (push_not_nil before line (sym i ∙ sym e ∙ whole))
same_read U ls ms (m ∷ L) (n ∷ M) e (before, line, whole, reads, rest) (before', line', whole', reads', rest') =
    let (f, g) = same_from_push before before' line line' (sym whole ∙ e ∙ whole') in
    let same : m ≡ n = U line' m n (subst (λ (l : List ℕ). Reads l m) g reads) reads' in
    ap (λ x. x ∷ L) same ∙ ap (λ l. n ∷ l) (same_read U before before' L M f rest rest')

pub same_lines : (U : (line : List ℕ) (m n : Meaning) → Reads line m → Reads line n → m ≡ n) (ls ms : List (List ℕ)) (L M : List Meaning) → ls ≡ ms → IsReady ls L → IsReady ms M → L ≡ M
same_lines U ls ms L M e h i =
    same_read U h.after i.after L M (same_after U h.before i.before h.ready i.ready h.after i.after h.early i.early h.reads_ready i.reads_ready (sym h.whole ∙ e ∙ i.whole)) h.read i.read

-- ---- what the lines ask for and write

abbrev pub kind_of : Option Step → Option Action
kind_of step = option_map (λ x. x.action) step

-- whether it is quiet
abbrev pub quiet_of : Option Step → Option Bool
quiet_of step = option_map (λ x. x.quiet) step

-- a line makes one kind of step, and its text follows from the step
record Alike (s t : Option Step) (text more : List ℕ) : Type 0 where
  kind : kind_of s ≡ kind_of t
  quiet : quiet_of s ≡ quiet_of t
  text_is : s ≡ t → text ≡ more

same_answers : (k : Holding) (q : Query) (session token : List ℕ) (s t : Option Step) (d c : Decision) (text more : List ℕ) → Answers k q s d → Answers k q t c → text ≡ result_text session token d → more ≡ result_text session token c → Alike s t text more
same_answers k (Asks txn moment login) session token s t d c text more (g, step, answer) (h, step', answer') e f = record {
  kind = ap kind_of step ∙ sym (ap kind_of step');
  quiet = ap quiet_of step ∙ sym (ap quiet_of step');
  text_is = λ same.
      let q : Bool = is_some (held_back k login moment) in
      let both = some_is (record { action = Ask txn moment login; group = g; quiet = q }) (record { action = Ask txn moment login; group = h; quiet = q }) (sym step ∙ same ∙ step') in
      let group : g ≡ h = ap (λ (x : Step). x.group) both in
      e ∙ ap (result_text session token) (answer ∙ ap (λ l. decision_by (held_back k login moment) l) group ∙ sym answer') ∙ sym f;
}
same_answers k q session token s t d c text more h i e f = record { kind = ap kind_of (h.0 ∙ sym i.0); quiet = ap quiet_of (h.0 ∙ sym i.0); text_is = λ same. e ∙ ap (result_text session token) (h.1 ∙ sym i.1) ∙ sym f }

same_closes : (k : Bool) (c : Option Closing) (s t : Option Step) (text more : List ℕ) → Closes k c s → Closes k c t → text ≡ [] → more ≡ [] → Alike s t text more
same_closes k None s t text more h i e f = record { kind = ap kind_of (h ∙ sym i); quiet = ap quiet_of (h ∙ sym i); text_is = λ same. e ∙ sym f }
same_closes k (Some c) s t text more (g, step) (h, step') e f = record { kind = ap kind_of step ∙ sym (ap kind_of step'); quiet = ap quiet_of step ∙ sym (ap quiet_of step'); text_is = λ same. e ∙ sym f }

same_takes : (k : Holding) (L : List Meaning) (m : Meaning) (s t : Option Step) (text more : List ℕ) → Takes k L m s text → Takes k L m t more → Alike s t text more
same_takes k L (FilterLine seconds subsystem phase session token rest) s t text more (d, h, e) (c, i, f) = same_answers k (query L subsystem phase session) session token s t d c text more h i e f
same_takes k L m s t text more h i = same_closes (is_some k.paused) (closing L m) s t text more h.1 i.1 h.2 i.2

pub actions_push : (step : Option Step) (steps : List Step) → actions (push step steps) ≡ push (kind_of step) (actions steps)
actions_push None steps = refl
actions_push (Some x) steps = refl

-- ---- the steps

pub same_step : (x y : Step) → x.action ≡ y.action → x.quiet ≡ y.quiet → x.group ≡ y.group → x ≡ y
same_step x y e q f = ap (λ (a : Action). record x { action = a }) e ∙ ap (λ (g : List Exchange). record x { action = y.action; group = g }) f ∙ ap (λ (k : Bool). record y { quiet = k }) q

-- no exchange comes in turn after the last one
no_more : OneReply → (n : ℕ) (queue : List Request) (g h : List Exchange) (b : ExchangeOutcome) (D : List ExchangeOutcome) → ComeInTurn n queue g → ComeInTurn n queue h → next_of n queue h ≡ None → outcomes g ≡ b ∷ (D ++ outcomes h) → ⊥
no_more U n queue [] h b D c d last e = nil_cons b (D ++ outcomes h) e
no_more U n queue (x ∷ g) h b [] c d last e =
    let same = same_turns U n queue g h c.2 d (cons_tail x.outcome b (outcomes g) (outcomes h) e) in
    none_some x.request (sym last ∙ sym (ap (next_of n queue) same) ∙ c.0)
no_more U n queue (x ∷ g) h b (z ∷ D) c d last e = no_more U n queue g h z D c.2 d last (cons_tail x.outcome b (outcomes g) (z ∷ D ++ outcomes h) e)

same_groups : OneReply → (n : ℕ) (queue : List Request) (g h : List Exchange) (A B : List ExchangeOutcome) → ComeInTurn n queue g → ComeInTurn n queue h → next_of n queue g ≡ None → next_of n queue h ≡ None → A ++ outcomes g ≡ B ++ outcomes h → g ≡ h
same_groups U n queue g h [] [] c d last last' e = same_turns U n queue g h c d e
same_groups U n queue g h [] (b ∷ B) c d last last' e = absurd (no_more U n queue g h b B c d last' e)
same_groups U n queue g h (a ∷ A) [] c d last last' e = absurd (no_more U n queue h g a A d c last (sym e))
same_groups U n queue g h (a ∷ A) (b ∷ B) c d last last' e = same_groups U n queue g h A B c d last last' (cons_tail a b (A ++ outcomes g) (B ++ outcomes h) e)

-- two steps that could come next after the same steps, of the same action and both quiet or not, whose exchanges ended
-- alike, before more that ended alike
same_next : OneReply → (s : Source) (n : ℕ) (P : List Step) (x y : Step) (xs ys : List Step) (A B : List ExchangeOutcome) → Plays s n (xs ++ P) x → Plays s n (ys ++ P) y → x.action ≡ y.action → x.quiet ≡ y.quiet → xs ≡ ys
    → (A ++ outcomes x.group) ++ all_outcomes xs ≡ (B ++ outcomes y.group) ++ all_outcomes ys → x ≡ y
same_next U s n P x y xs ys A B h i action quiet same ends =
    let F : Action → Bool → Type 0 = λ a k. IsOver (tries_in n k) (queue_of s (view s (ys ++ P)) (held_for (view s (ys ++ P)) a) a) x.group in
    let first = over s n (ys ++ P) x (subst (λ (l : List Step). Plays s n (l ++ P) x) same h) in
    let mine : F y.action y.quiet = subst (F y.action) quiet (subst (λ (a : Action). F a x.quiet) action first) in
    let theirs = over s n (ys ++ P) y i in
    let ended = append_cancel_right (A ++ outcomes x.group) (B ++ outcomes y.group) (all_outcomes ys) (subst (λ (l : List Step). (A ++ outcomes x.group) ++ all_outcomes l ≡ (B ++ outcomes y.group) ++ all_outcomes ys) same ends) in
    same_step x y action quiet (same_groups U (tries_in n y.quiet) _ x.group y.group A B mine.0 theirs.0 mine.1 theirs.1 ended)

-- steps of the same actions, of which the same are quiet, whose exchanges ended alike one after another, are the same
same_from : OneReply → (s : Source) (n : ℕ) (P steps others : List Step) (A B : List ExchangeOutcome) → ArePlayed s n P steps → ArePlayed s n P others → actions steps ≡ actions others → quiets steps ≡ quiets others
    → A ++ all_outcomes steps ≡ B ++ all_outcomes others → steps ≡ others
same_from U s n P [] [] A B h i e q f = refl
same_from U s n P [] (y ∷ others) A B h i e q f = absurd (nil_cons y.action (actions others) e)
same_from U s n P (x ∷ steps) [] A B h i e q f = absurd (nil_cons x.action (actions steps) (sym e))
same_from U s n P (x ∷ steps) (y ∷ others) A B h i e q f =
    let ends = append_assoc A (outcomes x.group) (all_outcomes steps) ∙ f ∙ sym (append_assoc B (outcomes y.group) (all_outcomes others)) in
    let rest : steps ≡ others = same_from U s n P steps others (A ++ outcomes x.group) (B ++ outcomes y.group) h.1 i.1 (cons_tail x.action y.action (actions steps) (actions others) e) (cons_tail x.quiet y.quiet (quiets steps) (quiets others) q) ends in
    let next = same_next U s n P x y steps others A B h.0 i.0 (cons_head x.action y.action (actions steps) (actions others) e) (cons_head x.quiet y.quiet (quiets steps) (quiets others) q) rest ends in
    ap (λ z. z ∷ steps) next ∙ ap (λ l. y ∷ l) rest

pub same_played : OneReply → (s : Source) (n : ℕ) (P steps others : List Step) → ArePlayed s n P steps → ArePlayed s n P others → actions steps ≡ actions others → quiets steps ≡ quiets others → all_outcomes steps ≡ all_outcomes others → steps ≡ others
same_played U s n P steps others h i e q f = same_from U s n P steps others [] [] h i e q f

-- ---- what the lines have the client do

-- the steps of some lines, their text and what is held back after them are the same
pub record Told (xs ys : List Step) (text more : List ℕ) (k j : Holding) : Type 0 where
  pub steps : xs ≡ ys
  pub text_is : text ≡ more
  pub held_is : k ≡ j

-- and so is the step of one more line, with its text
record One (a b : Option Step) (next next' : List ℕ) (xs ys : List Step) (text more : List ℕ) (k j : Holding) : Type 0 where
  step : a ≡ b
  next_is : next ≡ next'
  before : Told xs ys text more k j

asked_kind : (h : Holding) (q : Query) (step : Option Step) (d : Decision) → Answers h q step d → kind_of step ≡ asking_of q
asked_kind k (Asks txn moment login) step d (group, is, answer) = ap kind_of is
asked_kind k q step d h = ap kind_of h.0

closed_kind : (k : Bool) (c : Option Closing) (step : Option Step) → Closes k c step → kind_of step ≡ option_map close_of c
closed_kind k None step h = ap kind_of h
closed_kind k (Some c) step (group, is) = ap kind_of is

pub taken_kind : (k : Holding) (L : List Meaning) (m : Meaning) (step : Option Step) (text : List ℕ) → Takes k L m step text → kind_of step ≡ action_of L m
taken_kind k L (FilterLine seconds subsystem phase session token rest) step text (d, h, e) = asked_kind k (query L subsystem phase session) step d h
taken_kind k L m step text h = closed_kind (is_some k.paused) (closing L m) step h.1

-- one more line
same_line : OneReply → (spans : Spans) (s : Source) (n : ℕ) (P : List Step) (L : List Meaning) (m : Meaning) (a b : Option Step) (next next' : List ℕ) (xs ys : List Step) (text more : List ℕ) (k j : Holding) (A B : List ExchangeOutcome)
    → ArePlayed s n P (push a xs) → ArePlayed s n P (push b ys) → kind_of a ≡ kind_of b → (k ≡ j → Alike a b next next')
    → ((A B : List ExchangeOutcome) → ArePlayed s n P xs → ArePlayed s n P ys → A ++ all_outcomes xs ≡ B ++ all_outcomes ys → Told xs ys text more k j)
    → A ++ all_outcomes (push a xs) ≡ B ++ all_outcomes (push b ys) → One a b next next' xs ys text more k j
same_line U spans s n P L m None None next next' xs ys text more k j A B h i e alike before f =
    let told = before A B h i f in
    record { step = refl; next_is = (alike told.held_is).text_is refl; before = told }
same_line U spans s n P L m None (Some y) next next' xs ys text more k j A B h i e alike before f = absurd (cc (e))
same_line U spans s n P L m (Some x) None next next' xs ys text more k j A B h i e alike before f = absurd (cc (e))
same_line U spans s n P L m (Some x) (Some y) next next' xs ys text more k j A B h i e alike before f =
    let ends = append_assoc A (outcomes x.group) (all_outcomes xs) ∙ f ∙ sym (append_assoc B (outcomes y.group) (all_outcomes ys)) in
    let told = before (A ++ outcomes x.group) (B ++ outcomes y.group) h.1 i.1 ends in
    let both = alike told.held_is in
    let step : Some x ≡ Some y = ap Some (same_next U s n P x y xs ys A B h.0 i.0 (cc (e)) (cc (both.quiet)) told.steps ends) in
    record { step = step; next_is = both.text_is step; before = told }

-- what lines have the client do, what is written for them and what is held back follows from how the exchanges ended
pub same_filters : OneReply → (spans : Spans) (s : Source) (n : ℕ) (P : List Step) (L : List Meaning) (steps others : List Step) (text more : List ℕ) (k j : Holding) (A B : List ExchangeOutcome)
    → Filters spans L steps text k → Filters spans L others more j → ArePlayed s n P steps → ArePlayed s n P others → A ++ all_outcomes steps ≡ B ++ all_outcomes others → Told steps others text more k j
same_filters U spans s n P [] steps others text more k j A B h i p q e = record { steps = h.0 ∙ sym i.0; text_is = h.1 ∙ sym i.1; held_is = h.2 ∙ sym i.2 }
same_filters U spans s n P (m ∷ L) steps others text more k j A B (a, xs, written, next, held, h, takes, e, f, g) (b, ys, written', next', held', i, takes', e', f', g') p q ended =
    let one = same_line U spans s n P L m a b next next' xs ys written written' held held' A B (subst (ArePlayed s n P) e p) (subst (ArePlayed s n P) e' q)
    (taken_kind (at_line spans m held) L m a next takes ∙ sym (taken_kind (at_line spans m held') L m b next' takes'))
    (λ same. same_takes (at_line spans m held') L m a b next next' (subst (λ (z : Holding). Takes (at_line spans m z) L m a next) same takes) takes')
    (λ C D r t. same_filters U spans s n P L xs ys written written' held held' C D h i r t) (subst (λ (l : List Step). A ++ all_outcomes (push a xs) ≡ B ++ all_outcomes l) e' (subst (λ (l : List Step). A ++ all_outcomes l ≡ B ++ all_outcomes others) e ended)) in
    let told = one.before in
    record {
      steps = e ∙ ap (λ z. push z xs) one.step ∙ ap (push b) told.steps ∙ sym e';
      text_is = f ∙ ap (λ l. l ++ next) told.text_is ∙ ap (λ l. written' ++ l) one.next_is ∙ sym f';
      held_is = g ∙ ap (λ z. after_line spans m z (at_line spans m held)) one.step ∙ ap (λ z. after_line spans m b (at_line spans m z)) told.held_is ∙ sym g';
    }
