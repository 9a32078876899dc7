use Rattle.mq_program.proofs.AuditSteps.{told_since}
use Rattle.mq_program.proofs.auditing.audit.Goals as goal

pub returns-clause-silent : goal.returns-clause-silent
returns-clause-silent g c =
    told_since c.args.given.output c.say_fault.result c.audit_file.result c.let_go.result c.in-Err.fault
    (g.W.Write.contents c.args.output.now) (g.W.Write.contents c.audit_file.new.output) (g.W.Write.contents c.say_fault.new.output)
    c.let_go.ensures c.in-Err.is c.audit_file.ensures.silent c.say_fault.ensures.write c.say_fault.ensures.told
