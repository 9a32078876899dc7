use Rattle.mq_ledger.proofs.Words.{IsRule, List, ap, length, replicate, rules, ℕ, ◌++◌, ◌-◌, ◌∙◌}
use Rattle.std.specs.Prelude.{IsOk}
use Rattle.mq_ledger.proofs.Keeping.{kept}
use Rattle.mq_ledger.proofs.zone.Zone.of_rule.Goals as goal

pub invariant_of-result : goal.invariant_of-result
invariant_of-result c =
    let bytes = c.filled-bytes.ensures ∙ ap (λ (text : List ℕ). text ++ replicate (64 - length text) 0) c.as_bytes.ensures.value in
    let reads : IsOk c.posix.result = search rules in
    let rule : IsRule c.args.text.now = record { from = search rules; to = search rules; reads = c.posix.ensures.succeeds.0 reads } in
    kept c.filled-bytes.result c.args.text.now bytes rule c.utf8.text
