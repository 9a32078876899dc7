use Rattle.mq_ledger.proofs.Words.{ahead, ap, arith, epoch_day, epoch_day_range, limited, of_z, pos, signed_arith, to_z, to_z_pos, w64, ◌+ℤ◌, ◌∙◌, ◌≡◌}
use Rattle.jiff.specs.Words.{nanos_of_seconds}
use Rattle.mq_ledger.proofs.Clocks.{day_by_rule}
use Rattle.mq_ledger.proofs.zone.day_by_rule.Goals as goal

pub returns : goal.returns
returns c =
    let text = c.args.text.now in
    let shown = c.shown_by_rule-shown.result in
    let wide : to_z w64 c.args.moment ≡ pos c.args.moment = to_z_pos w64 c.args.moment (omega arith) in
    let instant : c.constant.result.nanosecond ≡ nanos_of_seconds (pos c.args.moment) = (let is = rw wide at c.constant.ensures in omega (arith, signed_arith, is)) in
    let number : c.day_number.result ≡ epoch_day shown.date = c.day_number.ensures ∙ ap epoch_day c.date.ensures in
    let same : to_z w64 (of_z w64 (epoch_day shown.date)) ≡ epoch_day shown.date = (let range = epoch_day_range shown.date in omega (arith, signed_arith, range)) in
    c.limited.ensures ∙ ap (λ n. limited (to_z w64 (of_z w64 n))) number ∙ ap limited same
    ∙ day_by_rule text c.args.moment shown (c.shown_by_rule-shown.ensures ∙ ap (λ n. n +ℤ nanos_of_seconds (ahead text n)) instant)
