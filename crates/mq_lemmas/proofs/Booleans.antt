-- Of two truth values: which of them is so, and which isn't. Most are the library's, under the names that we use.
use Rattle.std.proofs.Common.{◌≡◌, Bool, true, false, refl, sym, ◌∙◌}
use Rattle.std.specs.Prelude.{◌&&◌, ◌||◌}
use Rattle.std.proofs.lemmas.Bool.{or_parts}
pub use Rattle.std.proofs.lemmas.Bool.{cases_Bool as either, true≢false as true_false, false≢true as false_true}
pub use Rattle.std.specs.Cmp.{first_so, second_so}
-- both
pub use Rattle.std.proofs.lemmas.Bool.{and_from as both_so, and_parts as both_parts, and_right as never}
-- one of them
pub use Rattle.std.proofs.lemmas.Bool.{or_cases as either_of, or_left as or_first, or_right as or_second}
-- neither
pub use Rattle.std.proofs.lemmas.Bool.{or_parts as neither, or_from as neither_so}
-- what isn't so
pub use Rattle.std.proofs.lemmas.Bool.{not-true as is_not, not-false as not_false}

pub clash : (b : Bool) → b ≡ true → b ≡ false → ⊥
clash b h g = let bad : true ≡ false = sym h ∙ g in cc

pub and_false : (b : Bool) → (b && false) ≡ false
and_false true = refl
and_false false = refl

pub or_true : (b : Bool) → (b || true) ≡ true
or_true true = refl
or_true false = refl

pub or_false : (b : Bool) → (b || false) ≡ b
or_false true = refl
or_false false = refl

pub neither_first : (a b : Bool) → (a || b) ≡ false → a ≡ false
neither_first a b h = (or_parts a b h).0

pub neither_second : (a b : Bool) → (a || b) ≡ false → b ≡ false
neither_second a b h = (or_parts a b h).1
