-- Which of two numbers is which, and less.
use Rattle.std.proofs.Common.{◌≡◌, ℕ, ◌<◌, ◌≤◌, Bool, true, false, refl, arith}
use Rattle.std.specs.Prelude.{◌⊎◌, ◌==◌, if◌then◌else◌}
use Rattle.std.proofs.lemmas.Bool.{ne_eqb}
use Rattle.std.proofs.lemmas.Bool.Decides.{Decides-eqb}
-- of two numbers whether the first is at most the second
pub use Rattle.std.proofs.lemmas.Bool.{leb-true as le_of, le-leb as le_is, leb-false as lt_of, lt-leb as lt_is}

pub number_is : (m n : ℕ) → (m == n) ≡ true → m ≡ n
number_is m n h = (Decides-eqb m n).0 h

pub number_itself : (n : ℕ) → (n == n) ≡ true
number_itself n = (Decides-eqb n n).1 refl

pub other_number : (m n : ℕ) → m < n → (m == n) ≡ false
other_number m n h = ne_eqb m n (λ e. omega (arith, h, e))

pub le_or_lt : (a b : ℕ) → (a ≤ b) ⊎ (b < a)
le_or_lt a b = grind arith

pub zero_or_more : (n : ℕ) → (n ≡ 0) ⊎ (0 < n)
zero_or_more n = grind arith

pub if_zero : (b : Bool) (n : ℕ) → n ≡ 0 → (if b then n else 0) ≡ 0
if_zero true n h = h
if_zero false n h = refl
