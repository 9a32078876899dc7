-- A table of one entry.
use Rattle.std.proofs.Common.{◌≡◌, ℕ, List, [], ◌∷◌, Some, String, Global, length, string_bytes, ap, sym, subst, ◌∙◌, inl, inr, arith}
use Rattle.std.specs.Prelude.{is_some}
use Rattle.std.specs.Cmp.{tied_itself}
use Rattle.std.proofs.lemmas.Bool.{false≢true}
use Rattle.std.proofs.lemmas.Cmp.{nat_list_cmp_total}
use Rattle.toml.specs.Data.{Data, get_member, member, no_members}
use Rattle.toml.specs.View.{members_view, view}
use Rattle.toml.specs.declared.value.Value.{Value}
use Rattle.mq_settings.proofs.TableNames.{found_cases}

-- what is found under the entry's own name is its value
itself : (name : List ℕ) (d found : Data) → get_member name (member name d no_members) ≡ Some found → d ≡ found
itself name d found is = let same : Some d ≡ Some found = rw (tied_itself nat_list_cmp_total name) at is in cc

-- the one entry has the name under which something is found
alone : (name key : List ℕ) (d found : Data) → get_member name (member key d no_members) ≡ Some found → member key d no_members ≡ member name found no_members
alone name key d found is =
    elim (found_cases name key d no_members (ap is_some is)) [
      | inl same ↦
          let value : d ≡ found = itself name d found (subst (λ k. get_member name (member k d no_members) ≡ Some found) (sym same) is) in
          ap (λ k. member k d no_members) (sym same) ∙ ap (λ v. member name v no_members) value
      | inr later ↦ absurd (false≢true later)
    ]

pub one_entry : (es : List (String Global × Value)) (name : List ℕ) (found : Data) → length es ≡ 1 → get_member name (members_view es) ≡ Some found → members_view es ≡ member name found no_members
one_entry [] name found one is = absurd (omega arith)
one_entry (e ∷ []) name found one is = alone name (string_bytes e.0) (view e.1) found is
one_entry (e ∷ f ∷ es) name found one is = absurd (omega arith)
