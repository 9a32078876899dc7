use Rattle.mq_command.proofs.Words.{IsStrictWeakOrder, IsStrictWeakOrder-flip, always_returns_same, is_lt, nat_cmp, nat_cmp_total, of_calls, ranks_by, rules, used_of, uses_more, ◌≡◌}
use Rattle.mq_command.proofs.report.top.top_of.Goals as goal

uses_more_orders : IsStrictWeakOrder uses_more
uses_more_orders = IsStrictWeakOrder-flip (λ x y. is_lt (nat_cmp (used_of x) (used_of y))) (ranks_by nat_cmp_total used_of)

pub returns : goal.returns
returns c =
    let compares = always_returns_same _ (λ a r. is_lt r ≡ uses_more a.0.now a.1.0.now) _ (λ a r f k. search (rules, of_calls)) in
    record {
      sorted = _;
      same = c.in_ok-sort_by.ensures.permutation;
      ordered = c.in_ok-sort_by.ensures.sorted uses_more uses_more_orders compares;
      stable = c.in_ok-sort_by.ensures.stable uses_more uses_more_orders compares;
      first = c.truncate.ensures.items;
    }
