use Rattle.std.proofs.Common.{ap, map, rules, string_bytes, subst}
use Rattle.mq_process.specs.Refusals.{HasNoAddress}
use Rattle.mq_remote.proofs.RefusalSteps.{report_right}
use Rattle.mq_remote.proofs.AskedSteps.{whom_of}
use Rattle.mq_remote.proofs.TotalSteps.{if_ok, reported_so}
use Rattle.mq_remote.proofs.subcommands.report.report.Goals as goal

pub returns-clause-asks : goal.returns-clause-asks
returns-clause-asks g c = if_ok c.report_by.result (λ status asked. record {
  servers = (map (λ s. s.now) c.as_slice-servers.result.now);
  whom = whom_of _ _ _ _ _ _ _ _ c.as_slice-words.ensures (ap (map string_bytes) c.as_slice.ensures.value) c.in_ok-found.ensures.found c.in_ok-chosen.ensures.servers (ap (map (λ s. s.now)) c.as_slice-servers.ensures.value);
  day = c.in_ok-day.day;
  on = c.in_ok-day.ensures.day;
  reported = _;
  named = c.in_ok-logins.ensures.named;
  asked = reported_so _ _ _ _ _ _ _ _ _ _ _ c.form_of-form.ensures c.as_slice-words.ensures asked;
}) c.report_by.ensures

pub returns-in_err-day-clause-refuses : goal.returns-in_err-day-clause-refuses
returns-in_err-day-clause-refuses g c = report_right c.args.given _ (search rules) (subst (λ l. HasNoAddress l → ⊥) c.as_slice-words.ensures c.in_ok-check_addresses.ensures)

pub returns-in_err-logins-clause-refuses : goal.returns-in_err-logins-clause-refuses
returns-in_err-logins-clause-refuses g c = report_right c.args.given _ (search rules) (subst (λ l. HasNoAddress l → ⊥) c.as_slice-words.ensures c.in_ok-check_addresses.ensures)

pub returns-in_err-tell_note_of-clause-refuses : goal.returns-in_err-tell_note_of-clause-refuses
returns-in_err-tell_note_of-clause-refuses g c = report_right c.args.given _ (search rules) (subst (λ l. HasNoAddress l → ⊥) c.as_slice-words.ensures c.in_ok-check_addresses.ensures)

pub returns-clause-refuses : goal.returns-clause-refuses
returns-clause-refuses g c = report_right c.args.given _ (search rules) (subst (λ l. HasNoAddress l → ⊥) c.as_slice-words.ensures c.in_ok-check_addresses.ensures)
