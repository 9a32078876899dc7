use Rattle.std.proofs.Common.{ap, map, string_bytes}
use Rattle.mq_remote.proofs.AskedSteps.{resume_words, whom_of}
use Rattle.mq_remote.proofs.RefusalSteps.{order_refused}
use Rattle.mq_remote.proofs.TotalSteps.{if_ok}
use Rattle.mq_remote.proofs.subcommands.stop.resume.Goals as goal

pub returns-in_err-checked-clause-refuses : goal.returns-in_err-checked-clause-refuses
returns-in_err-checked-clause-refuses g c =
    order_refused c.args.given.host.now c.args.given.login _ c.args.given.servers c.checked.result c.in_err-checked.field-0.0 _ c.as_slice-words.ensures c.in_err-checked.was c.from_residual.ensures.1 c.checked.ensures.refuses

pub returns-clause-asks : goal.returns-clause-asks
returns-clause-asks g c = if_ok c.resume_by.result (λ status asked. record {
  servers = (map (λ s. s.now) c.as_slice-servers.result.now);
  whom = whom_of _ _ _ _ _ _ _ _ c.as_slice-words.ensures (ap (map string_bytes) c.as_slice.ensures.value) c.in_ok-found.ensures.found c.in_ok-chosen.ensures.servers (ap (map (λ s. s.now)) c.as_slice-servers.ensures.value);
  setter = c.in_ok-setter.setter;
  is_setter = c.in_ok-setter.ensures.setter;
  is_run = c.in_ok-setter.ensures.run;
  day = c.in_ok-day.day;
  from = c.in_ok-day.ensures.day;
  asked = resume_words _ _ _ _ _ _ _ _ _ c.as_slice-words.ensures asked;
}) c.resume_by.ensures
