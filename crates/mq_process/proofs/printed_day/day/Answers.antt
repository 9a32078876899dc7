use Rattle.std.proofs.Common.{string_bytes, subst}
use Rattle.mq_command.specs.Forms.{day_text}
use Rattle.mq_command.specs.Orders.{PrintsLine}
use Rattle.mq_process.specs.Outputs.{form_of}
use Rattle.mq_process.proofs.printed_day.day.Goals as goal

pub returns-in-Ok-date_of_day : goal.returns-in-Ok-date_of_day
returns-in-Ok-date_of_day g c =
    let form = form_of c.args.given.output c.args.is_on_terminal in
    let before = g.W.Write.contents c.args.output.now in
    let after = g.W.Write.contents c.print_day.new.output in
    let date = string_bytes c.in-Ok-date_of_day.date in (
      c.in-Ok.day,
      date,
      c.in-Ok.ensures.day,
      c.in-Ok-date_of_day.ensures,
      subst (λ d. PrintsLine (day_text form c.in-Ok.day d) before after c.print_day.result) c.as_str.ensures.value
          (subst (λ f. PrintsLine (day_text f c.in-Ok.day c.as_str.result.now) before after c.print_day.result) c.form_of-form.ensures c.print_day.ensures.prints),
    )
