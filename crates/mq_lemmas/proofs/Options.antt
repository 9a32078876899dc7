-- Which an option or a result is.
use Rattle.std.proofs.Common.{◌≡◌, false, refl, inl, inr}
use Rattle.std.specs.Prelude.{◌⊎◌, Option, Some, None, is_some, Result, Ok, Err, OnErr}
pub use Rattle.std.proofs.lemmas.Option.{same_Some as some_is, none-some as none_some}

pub option_cases : {A : Type 0} (o : Option A) → (o ≡ None) ⊎ ((x : A) × (o ≡ Some x))
option_cases None = inl refl
option_cases (Some x) = inr (x, refl)

pub some_none : {A : Type 0} (x : A) → Some x ≡ None → ⊥
some_none x e = cc

pub not_some : {A : Type 0} (o : Option A) → is_some o ≡ false → o ≡ None
not_some None h = refl
not_some (Some x) h = absurd (cc h)

pub ok_not : {A E : Type 0} (x : A) (e : E) → Ok x ≡ Err e → ⊥
ok_not x e is = cc

-- what holds anyway holds after an error
pub on_err : {A E : Type 0} (r : Result A E) (P : Type 0) → P → OnErr r P
on_err (Ok a) P p = tt
on_err (Err e) P p = p
