-- The rows of answers, and the entries that they stand for.
use Rattle.std.proofs.Common.{◌≡◌, ℕ, ◌+◌, ◌≤◌, List, [], ◌∷◌, Bool, true, false, refl, ◌∙◌, ap, sym, inl, inr, arith, find, map, All, ◌&&◌, ◌==◌, Some, None}
use Rattle.mq_rows.proofs.Words.{All-head, All-tail, AnswerRecord, Entry, Id, IsId, IsRequest, ListRequest, Request, Usage, answer_row, either, enumerate_from, filter_map, has_id, number_is, number_of, request_at, request_body, same_id, same_text}

-- the rows of entries under the floors of a history
abbrev pub rows_from : List Entry → ℕ → List Entry → List AnswerRecord
rows_from G n H = map (λ p. answer_row G p.0 p.1) (enumerate_from n H)

never_both : (a b c : Bool) → b ≡ false → (a && (b && c)) ≡ false
never_both true b c h = rw h refl
never_both false b c h = refl

pub some_run : (n : ℕ) → 1 ≤ n → (n == 0) ≡ false
some_run n h = elim (either (n == 0)) [
  | inl t ↦ absurd (omega (arith, number_is n 0 t))
  | inr f ↦ f
]

-- the number of a row is that of its request, where it is a number in range
pub number_test : (id : Id) (r : Request) → IsId id → same_id id (number_of r) ≡ has_id id r
number_test id (Usage login day) h = never_both (same_text id.host []) (id.run == 0) (id.number == 0) (some_run id.run h.run.from)
number_test id (ListRequest day after) h = never_both (same_text id.host []) (id.run == 0) (id.number == 0) (some_run id.run h.run.from)
number_test id r h = refl

-- the entry that a row stands for
pub record Stored (G H : List Entry) (id : Id) (row : AnswerRecord) : Type 0 where
  pub entry : Entry
  pub n : ℕ
  pub there : find (λ (e : Entry). has_id id e.request) H ≡ Some entry
  pub is : row ≡ answer_row G n entry

pub stored_row : (G : List Entry) (n : ℕ) (H : List Entry) (id : Id) (row : AnswerRecord) → IsId id → find (λ (x : AnswerRecord). same_id id x.id) (rows_from G n H) ≡ Some row → Stored G H id row
stored_row G n [] id row h e = absurd (cc e)
stored_row G n (x ∷ H) id row h e = elim (either (has_id id x.request)) [
  | inl t ↦ (let u : same_id id (number_of x.request) ≡ true = number_test id x.request h ∙ t in
      let k : Some (answer_row G n x) ≡ Some row = rw u at e in
      let same : answer_row G n x ≡ row = cc k in
      record { entry = x; n = n; there = rw t refl; is = sym same })
  | inr f ↦ (let u : same_id id (number_of x.request) ≡ false = number_test id x.request h ∙ f in
      let r = stored_row G (n + 1) H id row h (rw u at e) in
      record { entry = r.entry; n = r.n; there = rw f r.there; is = r.is })
]

pub no_row : (G : List Entry) (n : ℕ) (H : List Entry) (id : Id) → IsId id → find (λ (x : AnswerRecord). same_id id x.id) (rows_from G n H) ≡ None → find (λ (e : Entry). has_id id e.request) H ≡ None
no_row G n [] id h e = refl
no_row G n (x ∷ H) id h e = elim (either (has_id id x.request)) [
  | inl t ↦ (let u : same_id id (number_of x.request) ≡ true = number_test id x.request h ∙ t in
      let k : Some (answer_row G n x) ≡ None = rw u at e in absurd (cc k))
  | inr f ↦ (let u : same_id id (number_of x.request) ≡ false = number_test id x.request h ∙ f in
      rw f (no_row G (n + 1) H id h (rw u at e)))
]

-- The requests that the rows spell.
pub spelled_requests : (read : (r : Request) → IsRequest r → request_at (request_body r) ≡ Some r) → (G : List Entry) (n : ℕ) (H : List Entry) → All (λ (e : Entry). IsRequest e.request) H
    → filter_map (λ (a : AnswerRecord). request_at a.request) (rows_from G n H) ≡ map (λ (e : Entry). e.request) H
spelled_requests read G n [] all = refl
spelled_requests read G n (x ∷ H) all =
    let e : request_at (request_body x.request) ≡ Some x.request = read x.request (All-head (λ (y : Entry). IsRequest y.request) x H all) in
    rw e (ap (λ (l : List Request). x.request ∷ l) (spelled_requests read G (n + 1) H (All-tail (λ (y : Entry). IsRequest y.request) x H all)))
