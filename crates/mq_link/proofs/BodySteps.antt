-- What was read of one frame.
use Rattle.std.proofs.Common.{◌≡◌, ℕ, ◌<◌, ◌≤◌, List, [], ◌∷◌, ◌++◌, Option, length, take, get_or, inl, inr, refl, sym, ◌∙◌, ap, subst, arith}
use Rattle.std.proofs.lemmas.Bool.{cases_lt}
use Rattle.std.proofs.lemmas.List.{take_all, take-append-le, get_or_past}
use Rattle.std.proofs.KnownBytes.{Consumes-trans}
use Rattle.mq_frame.specs.Spelling.{in_2_bytes}
use Rattle.std.specs.Io.KnownBytes.{Consumes}
use Rattle.mq_link.specs.Body.{IsReceived}

-- the front of a list that begins with it
take_front : (n : ℕ) (front rest : List ℕ) → n ≡ length front → take n (front ++ rest) ≡ front
take_front n front rest e = take-append-le n front rest (omega arith) ∙ take_all n front (omega arith)

-- two bytes are below 256 wherever one looks
pub two_small : (high low : ℕ) → high < 256 → low < 256 → (i : ℕ) → get_or (high ∷ low ∷ []) i 0 < 256
two_small high low h l i =
    elim (cases_lt i 1) [
      | inl first ↦ let e : 0 ≡ i = omega arith in subst (λ k. get_or (high ∷ low ∷ []) k 0 < 256) e h
      | inr more ↦ elim (cases_lt i 2) [
        | inl second ↦ let e : 1 ≡ i = omega arith in subst (λ k. get_or (high ∷ low ∷ []) k 0 < 256) e l
        | inr past ↦ rw (get_or_past (high ∷ low ∷ []) i 0 past) (omega arith)
      ]
    ]

-- a list of two bytes is its first and its second
pub two_of : (head : List ℕ) → length head ≡ 2 → get_or head 0 0 ∷ get_or head 1 0 ∷ [] ≡ head
two_of [] two = absurd (omega arith)
two_of (a ∷ []) two = absurd (omega arith)
two_of (a ∷ b ∷ []) two = refl
two_of (a ∷ b ∷ c ∷ more) two = absurd (omega arith)

-- a head and then its body were read
pub received : (old mid new : Option (List ℕ)) (head body rest : List ℕ) (n m : ℕ) → in_2_bytes n ≡ head → Consumes old mid head → Consumes mid new body
    → length body ≡ n → m ≡ n → 1 ≤ n → n ≤ 65535 → IsReceived old new (take m (body ++ rest))
received old mid new head body rest n m spelled first second len same some fits =
    let spells : head ≡ in_2_bytes (length body) = sym spelled ∙ ap in_2_bytes (sym len) in
    let whole : take m (body ++ rest) ≡ body = take_front m body rest (omega arith) in
    subst (IsReceived old new) (sym whole) (record {
      some = omega arith;
      fits = omega arith;
      read = subst (λ h. Consumes old new (h ++ body)) spells (Consumes-trans old mid new head body first second);
    })
