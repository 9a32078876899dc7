use Rattle.std.proofs.lemmas.Cmp.{nat_list_cmp_total}
use Rattle.std.proofs.lemmas.List.Filters.{All-dedup, dedup_is}
use Rattle.std.proofs.lemmas.List.Kept.{Contains-dedup, Contains-from_dedup, IsStrictlySortedBy-dedup}
use Rattle.std.proofs.lemmas.List.Sorted.{All-permutation, Contains-permutation, IsPermutation-sym}
use Rattle.std.specs.Cmp.Lexicographic.{pointwise, slice_cmp, texts_ties}
use Rattle.std.proofs.Common.{nat_eq}
use Rattle.mq_command.proofs.Words.{IsLogin, IsStrictWeakOrder, List, always_returns_same, is_lt, nat_cmp, of_calls, ranks_by, rules, ℕ, ◌≡◌}
use Rattle.mq_command.proofs.TotalSteps.{names_in_range, same_texts, texts_equal}
use Rattle.mq_command.proofs.totals.login.logins_of.Goals as goal

orders : IsStrictWeakOrder (λ (x y : List ℕ). is_lt (slice_cmp nat_cmp x y))
orders = ranks_by nat_list_cmp_total (λ (x : List ℕ). x)

pub returns-clause-logins : goal.returns-clause-logins
returns-clause-logins c =
    let is = dedup_is _ _ _ c.dedup.ensures.filtered in
    let moved = c.in_ok-sort_by.ensures.permutation in
    let compares = always_returns_same _ (λ a r. is_lt r ≡ is_lt (slice_cmp nat_cmp a.0.now a.1.0.now)) _ (λ a r f k. search (rules, of_calls)) in
    let sorted = c.in_ok-sort_by.ensures.sorted (λ x y. is_lt (slice_cmp nat_cmp x y)) orders compares in
    rw is (record {
      ascending = IsStrictlySortedBy-dedup nat_list_cmp_total texts_ties _ sorted;
      all = λ login has. Contains-dedup texts_equal same_texts _ login (Contains-permutation _ _ login moved (rw c.in_ok-logins.ensures has));
      only = λ login has. rw c.in_ok-logins.ensures at (Contains-permutation _ _ login (IsPermutation-sym _ _ moved) (Contains-from_dedup _ _ login has));
    })

pub returns-clause-in_range : goal.returns-clause-in_range
returns-clause-in_range c =
    let is = dedup_is _ _ _ c.dedup.ensures.filtered in
    rw is (All-dedup (pointwise nat_eq) IsLogin _ (All-permutation IsLogin _ _ c.in_ok-sort_by.ensures.permutation (rw c.in_ok-logins.ensures (names_in_range c.args.parts.now c.requires))))
