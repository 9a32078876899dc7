-- Replies that are cleared one by one, by their places, are those of the runs.
use Rattle.std.proofs.Common.{Bool, IsPermutation, List, None, Some, [], ap, ap₂, arith, false, filter, if◌then◌else◌, inl, inr, map, ne_eqb, refl, subst, sym, true, ℕ, ◌&&◌, ◌+◌, ◌<◌, ◌==◌, ◌||◌, ◌∙◌, ◌∷◌, ◌≡◌, ◌≤◌}
use Rattle.mq_store.proofs.Words.{AnswerRecord, AreNumbered, Database, HasLedger, Row, Runs, State, Tables, TransactionRecord, and_false, cases_Bool, cleared, is_among, is_open_in, list_any, number_itself, other_number}
use Rattle.std.proofs.lemmas.List.Sorted.{list_any-IsPermutation}
use Rattle.mq_tables.specs.Retiring.{place_row, without_reply, cleared_where, ClearsAt}
use Rattle.mq_store.specs.GivingUp.{place_in, is_at, cleared_at, ClearsPlaces, ClearsRuns, ClosesAll, GivesUp}

abbrev clear_if : Bool → AnswerRecord → AnswerRecord
clear_if b a = if b then without_reply a else a

-- ---- one place more

module _ (n : ℕ) (rest : List Row) where
  twice : (a : AnswerRecord) (c : Bool) → clear_if c (without_reply a) ≡ without_reply a
  twice a true = refl
  twice a false = refl

  in_turn : (a : AnswerRecord) (b : Bool) → clear_if (is_at rest (clear_if b a).n) (clear_if b a) ≡ clear_if (b || is_at rest a.n) a
  in_turn a true = twice a (is_at rest a.n)
  in_turn a false = refl

  pub one_place_more : (answers : List AnswerRecord) → cleared_at rest (cleared_where (λ a. a.n == n) answers) ≡ cleared_where (λ a. (a.n == n) || is_at rest a.n) answers
  one_place_more [] = refl
  one_place_more (a ∷ more) = ap₂ ◌∷◌ (in_turn a (a.n == n)) (one_place_more more)

pub at_no_place : (answers : List AnswerRecord) → cleared_at [] answers ≡ answers
at_no_place [] = refl
at_no_place (a ∷ more) = ap (λ (xs : List AnswerRecord). a ∷ xs) (at_no_place more)

-- what is there of the places that are left: clearing them leads on
pub record IsToClear (t : Tables) (all rest : List Row) (db : Database) : Type 0 where
  pub answers : List AnswerRecord
  pub holds : HasLedger db (record t { answers = answers })
  pub leads : cleared_at rest answers ≡ cleared_at all t.answers

pub one_cleared : (t : Tables) (all rest : List Row) (row : Row) (n : ℕ) (old new : State) → place_in row ≡ n → IsToClear t all (row ∷ rest) old.now → ClearsAt n old new → IsToClear t all rest new.now
one_cleared t all rest row n old new is left clears = record {
  answers = cleared_where (λ a. a.n == n) left.answers;
  holds = clears (record t { answers = left.answers }) left.holds;
  leads = one_place_more n rest left.answers ∙ ap (λ (m : ℕ). cleared_where (λ a. (a.n == m) || is_at rest a.n) left.answers) (sym is) ∙ left.leads;
}

pub all_at_places : (t : Tables) (all : List Row) (db : Database) → IsToClear t all [] db → HasLedger db (record t { answers = cleared_at all t.answers })
all_at_places t all db left = subst (λ (xs : List AnswerRecord). HasLedger db (record t { answers = xs })) (sym (at_no_place left.answers) ∙ left.leads) left.holds

-- ---- the places of the answers that pass

itself : (b : Bool) → ((b && true) || false) ≡ b
itself true = refl
itself false = refl

module _ (passes : AnswerRecord → Bool) where
  -- an answer that passes has that place
  abbrev hits : List AnswerRecord → ℕ → Bool
  hits answers n = list_any (λ b. passes b && (n == b.n)) answers

  shown : (answers : List AnswerRecord) (n : ℕ) → is_at (map place_row (filter passes answers)) n ≡ hits answers n
  shown [] n = refl
  shown (a ∷ more) n = elim (cases_Bool (passes a)) [
    | inl hit ↦ rw hit (ap (λ (b : Bool). (n == a.n) || b) (shown more n))
    | inr miss ↦ rw miss (shown more n)
  ]

  none_before : (answers : List AnswerRecord) (k n : ℕ) → AreNumbered k answers → n < k → hits answers n ≡ false
  none_before [] k n numbered less = refl
  none_before (a ∷ more) k n numbered less =
      ap₂ (λ (b c : Bool). b || c)
      (ap (λ (b : Bool). passes a && b) (other_number n a.n (omega (arith, less, numbered.0))) ∙ and_false (passes a))
      (none_before more (k + 1) n numbered.1 (omega (arith, less)))

  same_hits : (answers : List AnswerRecord) (k : ℕ) (f : ℕ → Bool) → AreNumbered k answers → ((n : ℕ) → k ≤ n → f n ≡ hits answers n) → map (λ a. clear_if (f a.n) a) answers ≡ map (λ a. clear_if (passes a) a) answers
  same_hits [] k f numbered is = refl
  same_hits (a ∷ more) k f numbered is =
      let own : (a.n == a.n) ≡ true = number_itself a.n in
      let none : hits more a.n ≡ false = none_before more (k + 1) a.n numbered.1 (omega (arith, numbered.0)) in
      let here : f a.n ≡ passes a = is a.n (omega (arith, numbered.0)) ∙ ap₂ (λ (b c : Bool). (passes a && b) || c) own none ∙ itself (passes a) in
      ap₂ ◌∷◌ (ap (λ (b : Bool). clear_if b a) here)
      (same_hits more (k + 1) f numbered.1 (λ n above. is n (omega (arith, above))
      ∙ ap (λ (b : Bool). b || hits more n) (ap (λ (b : Bool). passes a && b) (ne_eqb n a.n (λ e. omega (arith, above, numbered.0, e))) ∙ and_false (passes a))))

  pub by_places : (answers : List AnswerRecord) (rows : List Row) → AreNumbered 1 answers → IsPermutation (map place_row (filter passes answers)) rows → cleared_at rows answers ≡ cleared_where passes answers
  by_places answers rows numbered places =
      same_hits answers 1 (is_at rows) numbered (λ n above. sym (list_any-IsPermutation (λ (row : Row). n == place_in row) (map place_row (filter passes answers)) rows places) ∙ shown answers n)

pub runs_cleared : (runs : Runs) (rows : List Row) (old mid new : Database) → mid ≡ old → ((t : Tables) → HasLedger old t → IsPermutation (map place_row (filter (λ a. is_among runs a.id.host a.id.run) t.answers)) rows) → ClearsPlaces rows mid new → ClearsRuns runs old new
runs_cleared runs rows old mid new same places clears = λ (t : Tables) l.
    subst (λ (xs : List AnswerRecord). HasLedger new (record t { answers = xs }))
    (by_places (λ a. is_among runs a.id.host a.id.run) t.answers rows l.holds.answers.numbered (places t l))
    (clears t (subst (λ (db : Database). HasLedger db t) (sym same) l))

-- ---- runs are given up

pub gives_none_up : (db : Database) → GivesUp None db db
gives_none_up db = λ (t : Tables) l b p leads. record { rows = t.transactions; used = t.usage; holds = l; so = leads [] refl }

pub gives_up : (runs : Runs) (these : List TransactionRecord) (s0 s1 s2 s3 : State) → ClearsRuns runs s0.now s1.now → s2.now ≡ s1.now → ((t : Tables) → HasLedger s1.now t → IsPermutation these (filter (is_open_in runs) t.transactions)) → ClosesAll these s2.now s3.now
    → GivesUp (Some runs) s0.now s3.now
gives_up runs these s0 s1 s2 s3 clears same found closes = λ (t : Tables) l b p leads.
    let t1 : Tables = record t { answers = cleared (Some runs) t.answers } in
    let l1 = clears t l in
    closes t1 (subst (λ (db : Database). HasLedger db t1) (sym same) l1) b p (leads these (found t1 l1))
