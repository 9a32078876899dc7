use Rattle.std.proofs.Common.{inr}
use Rattle.mq_remote.proofs.subcommands.filter.run_client.Goals as goal

pub returns : goal.returns
returns g c =
    let over = c.count_lines.ensures in
    inr (record {
      link = over.link;
      after = over.after;
      output = over.output;
      output' = over.output';
      is_led = over.is_led;
      asked = (_, c.count_lines.new.client, c.in-Ok.ensures, over.asked);
    })
