-- What is read of the rule, over a store that has its table at any place.
use Rattle.std.proofs.Common.{◌≡◌, inl, inr, ℕ, suc, List, [], ◌∷◌, codes, length, Option, None, Some, Ok, Err, Result, arith, refl, ap, subst, ◌∙◌}
use Rattle.mq_tables.proofs.Words.{Blob, Error, QueriesRow, Row, State, binary, everything, length_permutation, listing_schema, one_permutation, same_name, value_cmp}
use Rattle.mq_tables.specs.Reading.{rule_text, unlimited}
use Rattle.mq_tables.specs.Ledger.{HasRule}
use Rattle.mq_tables.specs.Settings.{IsRuleOf, rule_rows}
use Rattle.mq_tables.specs.Tables.{rule_table}
use Rattle.mq_tables.specs.Written.{chosen}
use Rattle.mq_tables.proofs.Asked.{IsAlone, IsAnswered, answers}
use Rattle.mq_tables.proofs.SelectShape.{SelectShape, IsSelect, unordered, filter_in, shown_in}
use Rattle.mq_tables.proofs.TermShape.{field, is_one}

abbrev pub rule_shape : SelectShape
rule_shape = unordered rule_table (field (codes "bytes") 1 ∷ []) (is_one (field (codes "id") 0) ∷ [])

pub rule_select : IsSelect rule_text rule_shape
unfolding everything listing_schema same_name
rule_select = record { parsed = refl; statement = refl; timeless = refl; unlisted = refl; known = λ t. refl; short = refl; accepted = λ s t low found. rw (low, found) }

rule_alone : IsAlone rule_text
unfolding everything
rule_alone = (refl, refl)

-- what is shown of the rows of a rule, and what that means of what is read

abbrev rows_shown : Option (List ℕ) → List Row
rows_shown None = []
rows_shown (Some text) = (Blob text ∷ []) ∷ []

chosen_is : (rule : Option (List ℕ)) → chosen (filter_in rule_shape) (shown_in rule_shape) [] (rule_rows rule) ≡ rows_shown rule
unfolding binary value_cmp lib.Ieee.is_nan lib.Ieee.lt
chosen_is None = refl
chosen_is (Some text) = refl

read_so : (rule : Option (List ℕ)) (answer : Result Row Error) → IsAnswered (rows_shown rule) answer → IsRuleOf rule answer
read_so None (Ok row) (more, h) = let e : suc (length more) ≡ 0 = length_permutation _ _ h in absurd (omega (arith, e))
read_so None (Err e) (inl h) = inr h
read_so None (Err e) (inr h) = inl h.0
read_so (Some text) (Ok row) (more, h) = let e : row ∷ more ≡ (Blob text ∷ []) ∷ [] = one_permutation (Blob text ∷ []) (row ∷ more) h in cc
read_so (Some text) (Err e) (inl h) = h
read_so (Some text) (Err e) (inr h) = let same : 0 ≡ 1 = length_permutation _ _ h.1 in absurd (omega (arith, same))

pub rule_answered : (old new : State) (rule : Option (List ℕ)) → HasRule old.now rule → (answer : Result Row Error) → QueriesRow rule_text [] (unlimited old) new answer → IsRuleOf rule answer
rule_answered old new rule has answer h =
    read_so rule answer (subst (λ shown. IsAnswered shown answer) (ap (chosen (filter_in rule_shape) (shown_in rule_shape) []) has.holds ∙ chosen_is rule)
    (answers rule_select refl rule_alone old new has.tree has.table answer h))
