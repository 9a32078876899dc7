use Rattle.std.proofs.Common.{ℕ, subst}
use Rattle.std.specs.Io.KnownBytes.{Appends}
use Rattle.mq_program.specs.Forgetting.{kept_line}
use Rattle.mq_program.proofs.forgetting.forget_into.Goals as goal

pub returns-in-Ok-print_kept-clause-counted : goal.returns-in-Ok-print_kept-clause-counted
returns-in-Ok-print_kept-clause-counted g c kept sound =
    let k = c.in-Ok.field-0.kept in (
      k.answers,
      k.limits,
      subst (λ (n : ℕ). Appends (g.W.Write.contents c.args.output.now) (g.W.Write.contents c.print_kept.new.output) (kept_line k.answers n k.limits))
          (c.in-Ok.ensures.all kept sound) c.in-Ok-print_kept.ensures,
    )
