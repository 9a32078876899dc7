-- What is known of names as their map changes, by the bytes of its keys.
use Rattle.mq_lemmas.proofs.Keys.{key_cmp, apart, others}
use Rattle.std.proofs.Common.{◌≡◌, ◌≢◌, ℕ, ◌+◌, List, [], length, false, sym, ap, ◌∙◌, Option, None, Some, inl, inr, ◌⊎◌, ◌<◌, ◌≤◌, arith}
use Rattle.std.specs.Prelude.{Result, Ok, Err, IfOk, OnOk, OnErr, is_some, if◌then◌else◌}
use Rattle.std.proofs.lemmas.Bool.{cases_lt, false_from_ne_true}
use Rattle.std.specs.declared.alloc.Global.{Global}
use Rattle.std.specs.declared.vec.Vec.{Vec}
use Rattle.std.specs.BTreeMap.{BTreeMap, btree_map_len, is_at, UpdatesBy}
use Rattle.std.specs.Cmp.{eq_by_cmp_equiv}
use Rattle.std.specs.Cmp.Lexicographic.{slice_cmp, bytes_decides, nat_list_cmp_total}
use Rattle.std.specs.Map.{lookup}
use Rattle.std.specs.Ordering.{nat_cmp}
use Rattle.std.specs.Str.{bytes_eq}
use Rattle.mq_watch.specs.Known.{known}

-- what is kept of names, by their bytes
abbrev pub Names : Type 0 → Type 0
Names T = BTreeMap (Vec ℕ Global) T

-- what is known of another login stays
pub known_beside : {T : Type 0} (m n : Names T) (l : List ℕ) (w : Option T) → UpdatesBy (λ x y. slice_cmp nat_cmp x.items y.items) (key_cmp l) m n w → (q : List ℕ) → q ≢ l → known n q ≡ known m q
known_beside m n l w h q not =
    let no : bytes_eq l q ≡ false = false_from_ne_true (bytes_eq l q) (λ y. not (sym ((bytes_decides l q).0 y))) in
    others _ _ m.entries n.entries h.3 (is_at (key_cmp q)) (λ a b. (eq_by_cmp_equiv nat_list_cmp_total).congr q a.items b.items) (λ k. apart l q k.items no)

-- and of this one what was kept
pub known_here : {T : Type 0} (m n : Names T) (l : List ℕ) (w : Option T) → UpdatesBy (λ x y. slice_cmp nat_cmp x.items y.items) (key_cmp l) m n w → known n l ≡ w
known_here m n l w h = h.1

pub known_same : {T : Type 0} (m n : Names T) → n.entries ≡ m.entries → (q : List ℕ) → known n q ≡ known m q
known_same {T = T} m n is q = ap (λ (es : List (Vec ℕ Global × T)). lookup (is_at (key_cmp q)) es) is

pub known_none : {T : Type 0} (m : Names T) → m.entries ≡ [] → (q : List ℕ) → known m q ≡ None
known_none {T = T} m is q = ap (λ (es : List (Vec ℕ Global × T)). lookup (is_at (key_cmp q)) es) is

-- what is known of others stays where a login was kept, and where it wasn't
pub stays : {T A E : Type 0} (r : Result A E) (m n : Names T) (k : List ℕ) (w : Option T)
    → OnOk r (UpdatesBy (λ x y. slice_cmp nat_cmp x.items y.items) (key_cmp k) m n w) → OnErr r (n.entries ≡ m.entries)
    → (q : List ℕ) → q ≢ k → known n q ≡ known m q
stays (Ok a) m n k w updates same q not = known_beside m n k w updates q not
stays (Err e) m n k w updates same q not = known_same m n same q

-- what is known of others after room was made for a login, and it was kept or not
pub beside_kept : {T A E : Type 0} (r : Result A E) (was m n : Names T) (k : List ℕ) (w : Option T) (full : ℕ)
    → (btree_map_len was < full → m ≡ was) → (full ≤ btree_map_len was → (q : List ℕ) → known m q ≡ None)
    → OnOk r (UpdatesBy (λ x y. slice_cmp nat_cmp x.items y.items) (key_cmp k) m n w) → OnErr r (n.entries ≡ m.entries)
    → (q : List ℕ) → q ≢ k → (known n q ≡ known was q) ⊎ ((full ≤ btree_map_len was) × (known n q ≡ None))
beside_kept {T = T} r was m n k w full room again updates same q not = elim (cases_lt (btree_map_len was) full) [
  | inl few ↦ inl (stays r m n k w updates same q not ∙ ap (λ (x : Names T). known x q) (room few))
  | inr many ↦ inr (many, stays r m n k w updates same q not ∙ again many q)
]

-- as many names are known as before, or one more where it had room
pub few_kept : {T E : Type 0} (r : Result (Option T) E) (m n : Names T) (k : List ℕ) (most : ℕ) → IfOk r (λ old. old ≡ known m k)
    → IfOk r (λ old. btree_map_len n ≡ btree_map_len m + (if is_some old then 0 else 1)) → OnErr r (n.entries ≡ m.entries)
    → (known m k ≡ None → btree_map_len m < most) → btree_map_len m ≤ most → btree_map_len n ≤ most
few_kept (Ok None) m n k most old len same room few =
    let one : btree_map_len n ≡ btree_map_len m + 1 = len in
    let less : btree_map_len m < most = room (sym old) in
    omega arith
few_kept (Ok (Some a)) m n k most old len same room few =
    let none : btree_map_len n ≡ btree_map_len m + 0 = len in
    omega arith
few_kept {T = T} (Err e) m n k most old len same room few =
    let none : btree_map_len n ≡ btree_map_len m = ap (λ (es : List (Vec ℕ Global × T)). length es) same in
    omega arith
