-- The lines of limits in order.
use denote.Param.Members.{Mut}
use Rattle.std.proofs.Common.{◌≡◌, ◌∙◌, ◌<◌, ◌+◌, ℕ, List, [], ◌∷◌, ◌++◌, Bool, Bor, Option, Result, Ok, Err, length, take, get_or, refl, sym, ap, subst, append-nil, append_assoc}
use Rattle.std.specs.Prelude.{IfErr, IfOk, OnOk}
use Rattle.std.proofs.KnownBytes.{Keeps-refl}
use Rattle.std.specs.Io.KnownBytes.{Appends, Keeps}
use Rattle.sqlite.specs.Effect.{Database}
use Rattle.mq_ledger.specs.declared.entry.Entry.{Entry}
use Rattle.mq_stream.specs.Flow.{AppendsFront}
use Rattle.mq_store.specs.Limits.{AreLimitsIn, AreSet}
use Rattle.mq_program.specs.declared.fault.ProgramFault.{ProgramFault}
use Rattle.mq_program.specs.declared.fault.ProgramFault.TheVariants.{Write}
use Rattle.std.proofs.lemmas.Fn.{always_returns_same}
use Rattle.std.proofs.lemmas.List.{take_more}
use Rattle.std.proofs.lemmas.List.Concat.{flat_map-append}
use Rattle.std.proofs.lemmas.List.Sorted.{IsPermutation-trans, ranks_by}
use Rattle.std.specs.Cmp.{IsStrictWeakOrder}
use Rattle.std.specs.Fn.{Called, ComparesAs}
use Rattle.std.specs.List.{flat_map}
use Rattle.std.specs.List.Sorted.{IsPermutation, IsSortedBy, IsSortedByKey}
use Rattle.std.specs.Ordering.{is_lt}
use Rattle.std.specs.declared.cmp.Ordering.{Ordering}
use Rattle.mq_rows.specs.declared.audited.LimitFigures.{LimitFigures}
use Rattle.mq_rows.specs.Pair.{pair_cmp, pair_cmp_total}
use Rattle.mq_process.specs.declared.arguments.OutputArgument.{OutputArgument}
use Rattle.mq_program.specs.Listing.{AreMoreObjects, IsLimitsText, IsObject, PrintsInOrder, PrintsLimits, limit_line, limit_lines, limit_text}

-- one more line
pub one_more : (xs : List LimitFigures) (i : ℕ) (x : LimitFigures) (old new : List ℕ) → i < length xs → get_or xs i x ≡ x
    → old ≡ limit_lines (take i xs) → new ≡ old ++ limit_line x → new ≡ limit_lines (take (i + 1) xs)
one_more xs i x old new below here before now =
    let whole : flat_map limit_line (take (i + 1) xs) ≡ flat_map limit_line (take i xs) ++ limit_line x =
    ap (flat_map limit_line) (take_more xs i x below ∙ ap (λ y. take i xs ++ y ∷ []) here) ∙ flat_map-append limit_line (take i xs) (x ∷ [])
    ∙ ap (λ l. flat_map limit_line (take i xs) ++ l) (append-nil (limit_line x)) in
    now ∙ ap (λ l. l ++ limit_line x) before ∙ sym whole

-- nothing was written
pub nothing_written : (bytes : Option (List ℕ)) → Keeps bytes bytes
nothing_written bytes = Keeps-refl bytes

-- a line of texts that are these
pub line_of : {S E : Type 0} (bytes_of : S → List ℕ) (made : Result S E) (d day c cap l login : List ℕ) → d ≡ day → c ≡ cap → l ≡ login
    → IfOk made (λ line. bytes_of line ≡ limit_text d c l) → IfOk made (λ line. bytes_of line ≡ limit_text day cap login)
line_of bytes_of (Ok line) d day c cap l login day_is cap_is login_is made =
    made ∙ ap (λ (t : List ℕ). limit_text t c l) day_is ∙ ap (λ (t : List ℕ). limit_text day t l) cap_is ∙ ap (limit_text day cap) login_is
line_of bytes_of (Err fault) d day c cap l login day_is cap_is login_is made = tt

-- a sort that compares the pairs puts them in order
pub sorted_by_pair : {F : Type 0} {g : Mut F (Bor LimitFigures × (Bor LimitFigures × Unit {0})) Ordering} {f : F} (xs : List LimitFigures)
    → ((lt : LimitFigures → LimitFigures → Bool) → IsStrictWeakOrder lt → ComparesAs g lt f → IsSortedBy lt xs)
    → ((a : Bor LimitFigures × (Bor LimitFigures × Unit {0})) (r : Ordering) (f' : F) → Called g f a r f' → (r ≡ pair_cmp a.0.now.pair a.1.0.now.pair) × (f' ≡ f))
    → IsSortedByKey (λ (limit : LimitFigures). limit.pair) pair_cmp xs
sorted_by_pair {g = g} {f = f} xs up h = up (λ x y. is_lt (pair_cmp x.pair y.pair)) (ranks_by pair_cmp_total (λ (limit : LimitFigures). limit.pair))
    (always_returns_same g (λ a r. is_lt r ≡ is_lt (pair_cmp a.0.now.pair a.1.0.now.pair)) f (λ a r f' k. (ap is_lt (h a r f' k).0, (h a r f' k).1)))

-- all rows of the table of limits, in another order
pub all_in_order : (db : Database) (read limits : List LimitFigures) → AreLimitsIn db read → IsPermutation read limits → AreLimitsIn db limits
all_in_order db read limits all moved f has = IsPermutation-trans f.limits read limits (all f has) moved

-- the limits that a history set, in another order
pub set_in_order : (H : List Entry) (read limits : List LimitFigures) → AreSet H read → IsPermutation read limits → AreSet H limits
set_in_order H read limits is moved = record { rows = is.rows; set = is.set; same = IsPermutation-trans _ read limits is.same moved }

-- what is printed of them was
in_order : (form : OutputArgument) (limits : List LimitFigures) (old new : Option (List ℕ)) (bytes text : List ℕ) → IsSortedByKey (λ (limit : LimitFigures). limit.pair) pair_cmp limits
    → bytes ≡ text → IsLimitsText form limits text → Appends old new bytes → PrintsInOrder form limits old new
in_order form limits old new bytes text sorted same is whole = record { sorted = sorted; text = text; is = is; printed = subst (λ b. Appends old new b) same whole }

pub such_printed : (P : List LimitFigures → Type 0) (form : OutputArgument) (limits : List LimitFigures) (old new : Option (List ℕ)) (bytes text : List ℕ) (ended : Result (Unit {0}) ProgramFault) → P limits
    → IsSortedByKey (λ (limit : LimitFigures). limit.pair) pair_cmp limits → bytes ≡ text → IsLimitsText form limits text → OnOk ended (Appends old new bytes)
    → IfOk ended (λ _. (l : List LimitFigures) × P l × PrintsInOrder form l old new)
such_printed P form limits old new bytes text (Ok u) such sorted same is whole = (limits, such, in_order form limits old new bytes text sorted same is whole)
such_printed P form limits old new bytes text (Err f) such sorted same is whole = tt

-- or a prefix of it was
pub front_printed : (P : List LimitFigures → Type 0) (form : OutputArgument) (limits : List LimitFigures) (old new : Option (List ℕ)) (bytes text : List ℕ) (ended : Result (Unit {0}) ProgramFault) → P limits
    → IsSortedByKey (λ (limit : LimitFigures). limit.pair) pair_cmp limits → bytes ≡ text → IsLimitsText form limits text → AppendsFront old new bytes
    → IfErr ended (λ fault. fault ≡ Write → (l : List LimitFigures) × P l × IsSortedByKey (λ (limit : LimitFigures). limit.pair) pair_cmp l × (t : List ℕ) × IsLimitsText form l t × AppendsFront old new t)
front_printed P form limits old new bytes text (Ok u) such sorted same is front = tt
front_printed P form limits old new bytes text (Err f) such sorted same is front = λ _. (limits, such, sorted, text, is, subst (λ b. AppendsFront old new b) same front)

-- of tables that stayed as they were
pub listed_still : (form : OutputArgument) (db now : Database) (old new : Option (List ℕ)) → now ≡ db → PrintsLimits form db old new → PrintsLimits form now old new
listed_still form db now old new same listed = subst (λ (d : Database). PrintsLimits form d old new) (sym same) listed

-- one more object at the end
pub more_objects : (xs : List LimitFigures) (x : LimitFigures) (before object : List ℕ) → AreMoreObjects xs before → IsObject x object → AreMoreObjects (xs ++ x ∷ []) (before ++ 44 ∷ object)
more_objects [] x before object are is = (object, [], is, refl, ap (λ t. t ++ 44 ∷ object) are ∙ sym (append-nil (44 ∷ object)))
more_objects (y ∷ ys) x before object (first, rest, is_first, are_rest, joined) is = (
  first,
  rest ++ 44 ∷ object,
  is_first,
  more_objects ys x rest object are_rest is,
  ap (λ t. t ++ 44 ∷ object) joined ∙ append_assoc (44 ∷ first) rest (44 ∷ object),
)

pub one_more_object : (xs : List LimitFigures) (i : ℕ) (x : LimitFigures) (before object : List ℕ) → i < length xs → get_or xs i x ≡ x
    → AreMoreObjects (take i xs) before → IsObject x object → AreMoreObjects (take (i + 1) xs) (before ++ 44 ∷ object)
one_more_object xs i x before object below here are is =
    subst (λ (ys : List LimitFigures). AreMoreObjects ys (before ++ 44 ∷ object)) (sym (take_more xs i x below ∙ ap (λ y. take i xs ++ y ∷ []) here))
    (more_objects (take i xs) x before object are is)

-- what stands behind a text, a comma and an object
pub after_comma : (t u v w before object : List ℕ) → u ≡ t ++ before → v ≡ u ++ 44 ∷ [] → w ≡ v ++ object → w ≡ t ++ (before ++ 44 ∷ object)
after_comma t u v w before object first second third =
    third ∙ ap (λ x. x ++ object) (second ∙ ap (λ x. x ++ 44 ∷ []) first) ∙ append_assoc (t ++ before) (44 ∷ []) object ∙ append_assoc t before (44 ∷ object)
