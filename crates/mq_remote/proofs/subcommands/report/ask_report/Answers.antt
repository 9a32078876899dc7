use Rattle.mq_remote.proofs.subcommands.report.ask_report.Goals as goal

pub returns-clause-asks : goal.returns-clause-asks
returns-clause-asks g c = record { link = _; after = _; output = _; output' = _; is_led = c.link_to-link.ensures; asked = c.report_over.ensures }
