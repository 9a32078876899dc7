-- A table that was made is found in each schema that was made from there.
use Rattle.std.proofs.Common.{◌≡◌, inl, inr, ℕ, suc, zero, ◌+◌, ◌<◌, ◌^◌, ◌==◌, nat_le, find, List, [], ◌∷◌, ◌++◌, Bool, true, false, Some, arith, slice_get, refl, ap, subst, ◌∙◌}
use Rattle.mq_tables.proofs.Words.{AllByRecursion, AllZip, Database, IsDatabase, Row, Schema, Table, cases_Bool, created, eq-eqb, is_used, lt-leb, next_tree, position_from, same_name}
use Rattle.mq_lemmas.proofs.Numbers.{other_number}
use Rattle.sqlite_catalog.specs.Listing.{IsTableRow}
use Rattle.mq_tables.specs.Places.{IsTableIn}
use Rattle.mq_tables.specs.Making.{chain}
use Rattle.mq_tables.proofs.making.Creating.{place_kept, get_kept}
use Rattle.mq_tables.proofs.making.Places.{placed, all_below}
use Rattle.sqlite_catalog.proofs.StepLemmas.{no_table}

-- by its name, its place and its tree
pub record IsFound (tables : List Table) (t : Table) : Type 0 where
  pub at : ℕ
  pub named : position_from (λ x. same_name x.name t.name) 0 tables ≡ Some at
  pub there : slice_get tables at ≡ Some t
  pub found : find (λ (x : Table). x.tree == t.tree) tables ≡ Some t

find_kept : (p : Table → Bool) (xs ys : List Table) (t : Table) → find p xs ≡ Some t → find p (xs ++ ys) ≡ Some t
find_kept p [] ys t h = absurd (cc)
find_kept p (x ∷ xs) ys t h = elim (cases_Bool (p x)) [ inl hit ↦ rw hit (rw hit at h) | inr other ↦ rw other (find_kept p xs ys t (rw other at h)) ]

find_last : (xs : List Table) (t : Table) → AllByRecursion (λ x. x.tree < t.tree) xs → find (λ (x : Table). x.tree == t.tree) (xs ++ t ∷ []) ≡ Some t
find_last [] t low = rw (eq-eqb t.tree t.tree refl)
find_last (x ∷ xs) t low = rw (other_number x.tree t.tree low.0) (find_last xs t low.1)

still : (t u : Table) (s : Schema) → IsFound s.tables t → IsFound (created s u).tables t
still t u s h = record { at = h.at; named = place_kept _ 0 h.at s.tables _ h.named; there = get_kept s.tables _ h.at t h.there; found = find_kept _ s.tables _ t h.found }

pub still_all : (t : Table) (more : List Table) (s : Schema) → IsFound s.tables t → IsFound (chain s more).tables t
still_all t [] s h = h
still_all t (u ∷ more) s h = still_all t more (created s u) (still t u s h)

pub begun : (made : Table) → same_name made.name made.name ≡ true → (s : Schema) → is_used s made.name ≡ false → IsFound (created s made).tables (record made { tree = next_tree s })
begun made self s free =
    let place = placed (λ t. same_name t.name made.name) 0 s.tables (record made { tree = next_tree s }) (no_table s made.name free) self in
    let here : (at : ℕ) → 0 + at ≡ at = λ at. omega arith in
    record { at = place.at; named = place.found ∙ ap Some (here place.at); there = place.there; found = find_last s.tables (record made { tree = next_tree s }) (all_below s) }

-- ---- the number of a tree that is listed is small

small : (rows : List Row) (tables : List Table) (at : ℕ) (t : Table) → AllZip IsTableRow rows tables → slice_get tables at ≡ Some t → t.tree < 65536
small [] [] at t zip there = absurd (cc)
small [] (y ∷ ys) at t zip there = absurd zip
small (x ∷ xs) [] at t zip there = absurd zip
small (x ∷ xs) (y ∷ ys) zero t zip there = let same : y ≡ t = cc in subst (λ (u : Table). u.tree < 65536) same zip.0.described.low
small (x ∷ xs) (y ∷ ys) (suc at) t zip there = small xs ys at t zip.1 there

beyond : (t : ℕ) → t < 65536 → nat_le (2 ^ 31) t ≡ false
beyond t low = lt-leb (2 ^ 31) t (omega (arith, low))

pub in_database : (made : Table) (tree : ℕ) (db : Database) → IsDatabase db → IsFound db.schema.tables (record made { tree = tree }) → IsTableIn db.schema made tree
in_database made tree db sound found =
    let low = small _ db.schema.tables found.at (record made { tree = tree }) sound.lists.listed.tables found.there in
    record { at = found.at; named = found.named; there = found.there; stored = beyond tree low; found = found.found }
