-- A result line, part after part.
use Rattle.std.proofs.Common.{◌≡◌, ℕ, ◌+◌, ◌<◌, ◌≤◌, suc, List, [], ◌∷◌, ◌++◌, length, get_or, drop, drop-cons, append_assoc, ap, ◌∙◌, arith}
use Rattle.std.proofs.lemmas.List.{length-append}
use Rattle.std.specs.Prelude.{codes}
use Rattle.std.specs.Borrow.{Bor}
use Rattle.mq_line.specs.Results.{answer, in_a_row, result_text}
use Rattle.mq_line.specs.declared.results.Decision.{Decision}

-- a part that has no room leaves none for all of them
pub no_room : (old items : List ℕ) (parts : List (Bor (List ℕ))) (i n capacity before : ℕ) (none : Bor (List ℕ))
    → i < length parts → items ++ in_a_row (drop i parts) ≡ old ++ in_a_row parts → before ≤ capacity → capacity < n + length (get_or parts i none).now → n ≡ length items
    → before < length old + length (in_a_row parts)
no_room old items parts i n capacity before none inside text room full is =
    let left : in_a_row (drop i parts) ≡ (get_or parts i none).now ++ in_a_row (drop (suc i) parts) = ap in_a_row (drop-cons parts i none inside) in
    omega (arith, ap length text, ap length left, length-append items (in_a_row (drop i parts)), length-append old (in_a_row parts), length-append (get_or parts i none).now (in_a_row (drop (suc i) parts)))

-- the parts of a result line
pub parts_of_result : (session token said : List ℕ) (decision : Decision) → said ≡ answer decision
    → codes "filter-result|" ++ (session ++ (124 ∷ [] ++ (token ++ (124 ∷ [] ++ (said ++ (10 ∷ [] ++ [])))))) ≡ result_text session token decision
parts_of_result session token said decision is = rw is (simp append_assoc)
