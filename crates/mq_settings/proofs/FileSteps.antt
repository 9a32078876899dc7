-- What was read of a file up to its limit.
use Rattle.std.proofs.Common.{◌≡◌, ℕ, ◌≤◌, List, [], ◌++◌, Option, None, Some, IfSome, length, take, ◌∙◌, ap, subst, arith}
use Rattle.std.proofs.lemmas.List.{take_all, length-take}
use Rattle.std.specs.Option.{option_map}

-- what was read up to a limit, and is shorter, is all
pub whole_of : {S : Type 0} (remaining : S → Option (List ℕ)) (source inner : S) (limit : ℕ) (start bytes : List ℕ) → inner ≡ source → limit ≡ 65537 → start ≡ []
    → IfSome (option_map (take limit) (remaining inner)) (λ xs. bytes ≡ start ++ xs) → length bytes ≤ 65536 → IfSome (remaining source) (λ all. bytes ≡ all)
whole_of remaining source inner limit start bytes same at none read short =
    subst (λ s. IfSome (remaining s) (λ all. bytes ≡ all)) same (all_of (remaining inner) limit start bytes at none read short) where
      all_of : (known : Option (List ℕ)) (limit : ℕ) (start bytes : List ℕ) → limit ≡ 65537 → start ≡ []
          → IfSome (option_map (take limit) known) (λ xs. bytes ≡ start ++ xs) → length bytes ≤ 65536 → IfSome known (λ all. bytes ≡ all)
      all_of None limit start bytes at none read short = tt
      all_of (Some all) limit start bytes at none read short =
          let e : bytes ≡ take limit all = read ∙ ap (λ l. l ++ take limit all) none in
          let len : length bytes ≡ length (take limit all) = ap length e in
          e ∙ take_all limit all (omega (arith, length-take limit all))
