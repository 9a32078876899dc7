use Rattle.std.specs.Prelude.{None}
use Rattle.std.proofs.Common.{rules, subst, sym, ◌∙◌}
use Rattle.mq_remote.proofs.AskedSteps.{led_by}
use Rattle.mq_remote.proofs.subcommands.filter.count_lines.Goals as goal

pub returns : goal.returns
returns g c =
    let same = c.new-link.ensures ∙ c.new.ensures in
    record {
      link = _;
      after = c.answer_lines-ended.new.link;
      output = None;
      output' = None;
      is_led = (
        led_by g.D.Dial.leads _ _ c.args.settings.now.server c.from-timeout.result c.args.settings.now.timeout same (search rules) c.link-link.ensures.leads,
        subst (λ l. g.D.Dial.keeps l c.args.settings.now.keep_connection) (sym same) c.link-link.ensures.keeps,
      );
      asked = c.answer_lines-ended.ensures;
    }
