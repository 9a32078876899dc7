-- A column of whole numbers keeps a whole number as it is, and NULL.
use Rattle.std.proofs.Common.{◌≡◌, cond, ℤ, Bool, true, false, refl}
use Rattle.mq_tables.proofs.Words.{Int, Null, unary}
use Rattle.sqlite.specs.Cast.{cast}
use Rattle.sqlite.specs.Kind.TheVariants.{Integer}
use Rattle.sqlite.specs.declared.types.Value.{Value}

either : (b : Bool) (x : Value) → cond b x x ≡ x
either true x = refl
either false x = refl

pub cast_int : (n : ℤ) → cast Integer (Int n) ≡ Int n
unfolding unary
cast_int n = either _ (Int n)

pub cast_null : cast Integer Null ≡ Null
unfolding unary
cast_null = either _ Null
