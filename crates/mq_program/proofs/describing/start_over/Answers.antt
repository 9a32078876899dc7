use Rattle.mq_program.proofs.describing.start_over.Goals as goal

pub returns : goal.returns
returns c = rw (c.start_seconds.ensures, c.megabytes_over.ensures) at c.start_line.ensures
