use Rattle.std.proofs.Common.{ap, map, refl, string_bytes}
use Rattle.mq_remote.proofs.AskedSteps.{whom_of}
use Rattle.mq_remote.proofs.RefusalSteps.{order_refused}
use Rattle.mq_remote.proofs.subcommands.stop.stop.Goals as goal

pub returns-in_err-checked-clause-refuses : goal.returns-in_err-checked-clause-refuses
returns-in_err-checked-clause-refuses g c =
    order_refused c.args.given.host.now c.args.given.login _ c.args.given.servers c.checked.result c.in_err-checked.field-0.0 _ c.as_slice-words.ensures c.in_err-checked.was c.from_residual.ensures.1 c.checked.ensures.refuses

pub returns-clause-asks : goal.returns-clause-asks
returns-clause-asks g c = record {
  servers = (map (λ s. s.now) c.as_slice-servers.result.now);
  whom = whom_of _ _ _ _ _ _ _ _ c.as_slice-words.ensures (ap (map string_bytes) c.as_slice.ensures.value) c.in_ok-found.ensures.found c.in_ok-chosen.ensures.servers (ap (map (λ s. s.now)) c.as_slice-servers.ensures.value);
  setter = c.in_ok-setter.setter;
  is_setter = c.in_ok-setter.ensures.setter;
  is_run = c.in_ok-setter.ensures.run;
  order = _;
  from = c.in_ok-day.ensures.stops;
  meant = c.is_meant_at_one-is_meant.ensures;
  all = refl;
  asked = c.stop_everywhere.ensures;
}
