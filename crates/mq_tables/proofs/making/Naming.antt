-- A name that isn't used is none that something has.
use Rattle.std.proofs.Common.{◌≡◌, ℕ, ◌+◌, List, [], ◌∷◌, inl, inr, Bool, true, false, ◌||◌, is_some, true≢false, refl}
use Rattle.mq_tables.proofs.Words.{Schema, cases_Bool, index_named, is_used, list_any, position_from, same_name, table_named, view_named}
use Rattle.mq_tables.specs.Indexing.{is_taken}

has_place : {X : Type 0} (p : X → Bool) (n : ℕ) (xs : List X) → list_any p xs ≡ is_some (position_from p n xs)
has_place p n [] = refl
has_place p n (x ∷ xs) = elim (cases_Bool (p x)) [ inl hit ↦ rw hit refl | inr other ↦ rw other (has_place p (n + 1) xs) ]

pub taken_by : (s : Schema) (name : List ℕ) → is_used s name ≡ false → is_taken name s ≡ false
taken_by s name free = go (is_some (table_named s name)) (is_some (index_named s name)) (is_some (view_named s name)) (has_place (λ t. same_name t.name name) 0 s.tables) (has_place (λ i. same_name i.name name) 0 s.indexes) (has_place (λ v. same_name v.name name) 0 s.views) free
  where
    go : {a2 b2 c2 : Bool} (a b c : Bool) → a2 ≡ a → b2 ≡ b → c2 ≡ c → a || b || c ≡ false → a2 || (b2 || c2) ≡ false
    go false false c p q r free = rw (p, q, r) free
    go false true c p q r free = absurd (true≢false free)
    go true b c p q r free = absurd (true≢false free)
