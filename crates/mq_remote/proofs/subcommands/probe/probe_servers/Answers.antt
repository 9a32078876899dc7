use Rattle.std.proofs.Common.{Bor, List, None, ap, map, rules, string_bytes, subst, ℕ}
use Rattle.mq_process.specs.Refusals.{HasNoAddress}
use Rattle.mq_remote.specs.Asked.{AsksAbout}
use Rattle.mq_remote.proofs.RefusalSteps.{probe_right}
use Rattle.mq_remote.proofs.AskedSteps.{asked_in_turn, bare_so, whom_of}
use Rattle.mq_remote.proofs.subcommands.probe.probe_servers.Goals as goal

pub returns-clause-asks : goal.returns-clause-asks
returns-clause-asks g c = record {
  servers = (map (λ s. s.now) c.as_slice-servers.result.now);
  whom = whom_of {X = Bor (List ℕ)} g.R.File.Read.remaining None _ _ _ _ _ _ c.as_slice-words.ensures (ap (map string_bytes) c.as_slice.ensures.value) c.in_ok-found.ensures.found c.in_ok-chosen.ensures.servers (ap (map (λ s. s.now)) c.as_slice-servers.ensures.value);
  question = c.in_ok-question.question;
  about = subst (λ h. AsksAbout (g.R.WallClock.shows c.args.rt.now) h c.in_ok-question.question) (search rules) c.in_ok-question.ensures.about;
  asked = bare_so _ _ _ _ _ _ c.is_bare.ensures (search rules) (asked_in_turn _ _ _ (λ address said after k. let called = k.2 in search rules) c.ask_in_turn.ensures.1);
}

pub returns-in_err-host-clause-refuses : goal.returns-in_err-host-clause-refuses
returns-in_err-host-clause-refuses g c = probe_right c.args.given _ (search rules) (subst (λ l. HasNoAddress l → ⊥) c.as_slice-words.ensures c.in_ok-check_addresses.ensures)

pub returns-in_err-question-clause-refuses : goal.returns-in_err-question-clause-refuses
returns-in_err-question-clause-refuses g c = probe_right c.args.given _ (search (rules, c.is_none_or.ensures, c.if-not-is_none_or.false, c.if-not-is_none_or.ensures)) (subst (λ l. HasNoAddress l → ⊥) c.as_slice-words.ensures c.in_ok-check_addresses.ensures)

pub returns-clause-refuses : goal.returns-clause-refuses
returns-clause-refuses g c = probe_right c.args.given _ (search (rules, c.is_none_or.ensures, c.if-not-is_none_or.false, c.if-not-is_none_or.ensures)) (subst (λ l. HasNoAddress l → ⊥) c.as_slice-words.ensures c.in_ok-check_addresses.ensures)
