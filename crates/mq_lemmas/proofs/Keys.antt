-- What a map by bytes has under other keys.
use Rattle.std.proofs.Common.{◌≡◌, ℕ, List, Bool, true, false, sym, ◌∙◌}
use Rattle.std.proofs.lemmas.Map.Text.{is_eq-slice_cmp}
use Rattle.std.specs.declared.alloc.Global.{Global}
use Rattle.std.specs.declared.cmp.Ordering.{Ordering}
use Rattle.std.specs.declared.vec.Vec.{Vec}
use Rattle.std.specs.Cmp.Lexicographic.{slice_cmp, nat_list_eq_equiv}
use Rattle.std.specs.Map.{lookup, IsKeyTest, AreApart, KeepsOthers}
use Rattle.std.specs.Ordering.{is_eq, nat_cmp}
use Rattle.std.specs.Str.{bytes_eq}

-- how these bytes compare to a key
abbrev pub key_cmp : List ℕ → Vec ℕ Global → Ordering
key_cmp s k = slice_cmp nat_cmp s k.items

pub apart : (s q k : List ℕ) → bytes_eq s q ≡ false → is_eq (slice_cmp nat_cmp s k) ≡ true → is_eq (slice_cmp nat_cmp q k) ≡ false
apart s q k n y = is_eq-slice_cmp q k ∙ (nat_list_eq_equiv.symm q k ∙ (sym (nat_list_eq_equiv.congr s k q (sym (is_eq-slice_cmp s k) ∙ y)) ∙ n))

pub others : {K X : Type 0} (eq : K → K → Bool) (test : K → Bool) (old new : List (K × X)) → KeepsOthers eq test old new → (other : K → Bool) → IsKeyTest eq other → AreApart test other → lookup other new ≡ lookup other old
unfolding KeepsOthers
others eq test old new h = h
