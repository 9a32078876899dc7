-- What other hosts keep as one gets its addresses.
use Rattle.std.proofs.Common.{◌≡◌, ◌≢◌, ℕ, List, false, sym, ap, Option}
use Rattle.std.specs.declared.alloc.Global.{Global}
use Rattle.std.specs.declared.vec.Vec.{Vec}
use Rattle.std.specs.BTreeMap.{BTreeMap, is_at, get_by, UpdatesBy}
use Rattle.std.specs.Cmp.{eq_by_cmp_equiv}
use Rattle.std.specs.Cmp.Lexicographic.{slice_cmp, bytes_decides, nat_list_cmp_total}
use Rattle.std.specs.Ordering.{nat_cmp}
use Rattle.std.specs.Str.{bytes_eq}
use Rattle.std.proofs.lemmas.Bool.{false_from_ne_true}
use Rattle.mq_lemmas.proofs.Keys.{key_cmp, apart, others}
use Rattle.mq_permits.specs.declared.permits.Origin.{Origin}
use Rattle.mq_permits.specs.Hosts.{listed}

-- what the map has under another name stays
pub kept_beside : (m n : BTreeMap (Vec ℕ Global) (Vec Origin Global)) (k : List ℕ) (w : Option (Vec Origin Global))
    → UpdatesBy (λ x y. slice_cmp nat_cmp x.items y.items) (key_cmp k) m n w → (q : List ℕ) → q ≢ k
    → listed (get_by (key_cmp q) n) ≡ listed (get_by (key_cmp q) m)
kept_beside m n k w h q not =
    let no : bytes_eq k q ≡ false = false_from_ne_true (bytes_eq k q) (λ y. not (sym ((bytes_decides k q).0 y))) in
    ap listed (others _ _ m.entries n.entries h.3 (is_at (key_cmp q)) (λ a b. (eq_by_cmp_equiv nat_list_cmp_total).congr q a.items b.items) (λ key. apart k q key.items no))
