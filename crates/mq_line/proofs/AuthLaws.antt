-- The result of an authentication at the end of the parameters.
use Rattle.std.proofs.Common.{◌≡◌, ℕ, ◌-◌, List, [], ◌∷◌, ◌++◌, length, refl, ap, sym, ◌∙◌, arith}
use Rattle.std.specs.Prelude.{Option}
use Rattle.std.proofs.lemmas.List.{take_at, length_push}
use Rattle.std.specs.Option.{option_map}
use Rattle.mq_line.specs.Pieces.{joined}
use Rattle.mq_line.specs.declared.parameters.AuthResult.{AuthResult}
use Rattle.mq_line.specs.Parameters.{result_of, named, auth_at_end}
use Rattle.mq_line.proofs.TextLaws.{slice_get-push}

-- the last field decides
auth_at_end_push : (before : List (List ℕ)) (last : List ℕ) → auth_at_end (before ++ last ∷ []) ≡ named last before
auth_at_end_push before last =
    let n : length (before ++ last ∷ []) - 1 ≡ length before = omega (arith, length_push before last) in
    rw (n, slice_get-push before (last ∷ []), take_at before (last ∷ []) (length before) refl) refl

-- what is told of the last field and what stands before it
pub auth_at_end_is : (fs others : List (List ℕ)) (last name : List ℕ) (outcome : Option AuthResult) → fs ≡ others ++ last ∷ [] → name ≡ joined others → outcome ≡ result_of last → option_map (λ r. (r, name)) outcome ≡ auth_at_end fs
auth_at_end_is fs others last name outcome here there is =
    ap (λ (n : List ℕ). option_map (λ r. (r, n)) outcome) there
    ∙ ap (λ (o : Option AuthResult). option_map (λ r. (r, joined others)) o) is
    ∙ sym (auth_at_end_push others last)
    ∙ ap auth_at_end (sym here)
