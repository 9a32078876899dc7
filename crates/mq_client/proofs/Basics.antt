-- Small facts of choices, options and lists.
use Rattle.std.proofs.Common.{◌≡◌, ◌&&◌, ℕ, zero, suc, Bool, true, false, List, [], ◌∷◌, subst, refl, Option, None, Some, if◌then◌else◌}
use Rattle.mq_client.proofs.Words.{AllByRecursion, CloseEnd, HeldTransaction, Release, Request, Settle, Source, closing_of, id_of, is_commit, nat_le, none_some, option_map, slice_get, some_is}

pub nil_cons : {A : Type 0} (x : A) (xs : List A) → [] ≡ x ∷ xs → ⊥
nil_cons x xs e = cc

pub cons_head : {A : Type 0} (x y : A) (xs ys : List A) → x ∷ xs ≡ y ∷ ys → x ≡ y
cons_head x y xs ys e = cc

pub cons_tail : {A : Type 0} (x y : A) (xs ys : List A) → x ∷ xs ≡ y ∷ ys → xs ≡ ys
cons_tail x y xs ys e = cc

pub all_at : {A : Type 0} (P : A → Type 0) (k : ℕ) (xs : List A) (x : A) → AllByRecursion P xs → slice_get xs k ≡ Some x → P x
all_at P k [] x all e = absurd (none_some x e)
all_at P zero (y ∷ xs) x all e = subst P (some_is y x e) all.0
all_at P (suc k) (y ∷ xs) x all e = all_at P k xs x all.1 e

-- what holds of both holds of either
pub of_either : {A : Type 0} (F : A → Type 0) (b : Bool) (x y : A) → F x → F y → F (if b then x else y)
of_either F true x y h i = h
of_either F false x y h i = i

-- what closes a transaction is a settle or a release
pub of_closing : (F : Request → Type 0) (s : Source) (n txn : ℕ) (end : CloseEnd) (h : HeldTransaction) → F (Settle (id_of s n) txn h.moment h.login h.granted) → F (Release (id_of s n) txn h.moment h.login) → F (closing_of s n txn end h)
of_closing F s n txn end h settle release = of_either F (is_commit end && nat_le 1 h.granted) _ _ settle release

pub mapped_some : {A B : Type 0} (f : A → B) (o : Option A) (y : B) → option_map f o ≡ Some y → (x : A) × (o ≡ Some x) × (f x ≡ y)
mapped_some f None y e = absurd (none_some y e)
mapped_some f (Some x) y e = (x, refl, some_is (f x) y e)
