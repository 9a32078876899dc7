use Rattle.mq_line.proofs.GrammarLaws.{config_means}
use Rattle.mq_line.proofs.reading.read_config.Goals as goal

pub returns-in-Some : goal.returns-in-Some
returns-in-Some c = config_means _ c.in_ok-key.key.now c.in_ok-key.left c.in-Some.value c.in_ok-key.ensures c.in-Some.is
