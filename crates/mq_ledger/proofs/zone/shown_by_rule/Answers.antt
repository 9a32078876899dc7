use Rattle.std.proofs.Common.{◌∙◌, ◌+ℤ◌, ap}
use Rattle.std.proofs.lemmas.Result.{IfOk-at_ok}
use Rattle.jiff.specs.Words.{nanos_of_seconds, plain_zone}
use Rattle.mq_ledger.proofs.Rules.{ahead_posix}
use Rattle.mq_ledger.proofs.zone.shown_by_rule.Goals as goal

pub returns : goal.returns
returns c =
    let reads = IfOk-at_ok _ c.unwrap-zone.ensures c.posix.ensures.value in
    c.to_datetime.ensures ∙ ap (λ s. c.args.instant.nanosecond +ℤ nanos_of_seconds s) (ahead_posix c.args.text.now (plain_zone c.unwrap-zone.result) c.args.instant.nanosecond reads)
