-- Rows that are there once under their key.
use Rattle.std.proofs.Common.{Bool, Contains, List, None, Option, Some, ap, arith, filter, find, inl, inr, length, refl, subst, sym, true, ◌∙◌, ◌≡◌, ◌≤◌}
use Rattle.mq_store.proofs.Words.{All-from_recursion, AllByRecursion, AreRows, Book, Has, IsOneOf, Tables, all_has, day_of, filter_none, limit_row, retired_row, those, transaction_row, usage_row}
use Rattle.mq_tables.specs.Finding.{AreKeyed}
use Rattle.sqlite_rules.proofs.ListLemmas.{has_kept}

one_at_most : {X : Type 0} (rows : List X) (o : Option X) → rows ≡ those o → length rows ≤ 1
one_at_most rows None h = rw h (omega arith)
one_at_most rows (Some x) h = rw h (omega arith)

-- under each key the rows of a history have one row at most
pub keyed : (b : Book) (t : Tables) → AreRows b t → AreKeyed t
keyed b t rows = record {
  transactions = λ k. one_at_most _ (transaction_row (day_of b.zone) b.history k) (rows.transactions k);
  usage = λ l d. one_at_most _ (usage_row (day_of b.zone) b.history l d) (rows.usage l d);
  limits = λ l d. one_at_most _ (limit_row b.history l d) (rows.limits l d);
  retired = λ h. one_at_most _ (retired_row b.history h) (rows.retired h);
}

-- ---- a row that is there once is the one that is found

has_those : {X : Type 0} (o : Option X) (x : X) → Has (those o) x → Some x ≡ o
has_those None x there = absurd there
has_those (Some y) x (inl same) = ap Some same
has_those (Some y) x (inr more) = absurd more

pub found_once : {X : Type 0} (test : X → Bool) (rows : List X) (o found : Option X) → filter test rows ≡ those o → IsOneOf test rows found → found ≡ o
found_once test rows None None once is = refl
found_once test rows (Some x) None once is = absurd (let e = sym (filter_none test rows is) ∙ once in cc)
found_once test rows o (Some x) once is = has_those o x (subst (λ (xs : List _). Has xs x) once (has_kept test rows x is.0 is.1))

-- where each that passes is the one that is found among all, so is the one that a table of all has
pub found_of : {X : Type 0} (test : X → Bool) (rows all : List X) (x : X) → rows ≡ all → AllByRecursion (λ y. test y ≡ true → find test all ≡ Some y) all → IsOneOf test rows (Some x) → find test all ≡ Some x
found_of test rows all x same each one = all_has (λ y. test y ≡ true → find test all ≡ Some y) all x each (subst (λ (xs : List _). Has xs x) same one.0) one.1

-- what holds of each holds of one that is there
pub contained : {X : Type 0} (P : X → Type 0) (xs : List X) (x : X) → AllByRecursion P xs → Contains xs x → P x
contained P xs x all there = subst P there.2 (All-from_recursion P xs all there.0 x there.1)
