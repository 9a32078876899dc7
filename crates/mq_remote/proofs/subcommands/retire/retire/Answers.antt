use Rattle.std.proofs.Common.{ap, map, rules, string_bytes, subst, ◌∙◌, ◌≡◌}
use Rattle.mq_process.specs.Refusals.{HasNoAddress}
use Rattle.mq_process.specs.Whom.{servers_or}
use Rattle.std.specs.Prelude.{option_map}
use Rattle.mq_remote.specs.Asked.{words_of}
use Rattle.mq_remote.proofs.AskedSteps.{run_by, servers_asked, target_by, words_are}
use Rattle.mq_remote.proofs.RefusalSteps.{retire_refused, retire_right}
use Rattle.mq_remote.proofs.subcommands.retire.retire.Goals as goal

pub returns-clause-asks : goal.returns-clause-asks
returns-clause-asks g c =
    let words : map (λ s. s.now) c.as_slice-words.result.now ≡ words_of c.args.given.server = words_are c.args.given.server c.as_slice-words.result.now c.as_slice-words.ensures in
    record {
      run = c.in_ok-run.run';
      is_run = run_by _ c.args.given.run c.in_ok-run.run' _ c.in_ok-run.was (search rules) c.in_ok-run.ensures.run c.in_ok-run.ensures.clock;
      target = c.in_ok-target.target;
      is_target = target_by g.R.File.Read.remaining c.args.given.config (option_map (λ host. host.now) c.args.given.host) c.in_ok-target.target _ _ words c.in_ok-target.ensures.target;
      servers = map (λ s. s.now) c.as_slice-servers.result.now;
      whom = ap (map (λ s. s.now)) c.as_slice-servers.ensures.value ∙ c.in_ok-chosen.ensures.servers
          ∙ ap (λ f. servers_or f (map (λ s. s.now) c.as_slice-words.result.now)) (ap (map string_bytes) c.as_slice.ensures.value)
          ∙ ap (servers_or (map string_bytes c.in_ok-target.target.found.items)) words;
      asked = servers_asked _ _ (λ address said after k. let called = k.2 in search rules) c.ask_each.ensures.1;
    }

pub returns-in_err-check_addresses-clause-refuses : goal.returns-in_err-check_addresses-clause-refuses
returns-in_err-check_addresses-clause-refuses g c =
    retire_refused c.args.given _ c.in_err-check_addresses.field-0.0 (search (rules, c.is_none_or.ensures, c.if-not-is_none_or.false, c.if-not-is_none_or.ensures)) c.in_err-check_addresses.ensures.0 c.from_residual.ensures.1

pub returns-in_err-target-clause-refuses : goal.returns-in_err-target-clause-refuses
returns-in_err-target-clause-refuses g c =
    retire_right c.args.given _ (search (rules, c.is_none_or.ensures, c.if-not-is_none_or.false, c.if-not-is_none_or.ensures)) (subst (λ l. HasNoAddress l → ⊥) (words_are c.args.given.server c.as_slice-words.result.now c.as_slice-words.ensures) c.in_ok-check_addresses.ensures)

pub returns-in_err-run-clause-refuses : goal.returns-in_err-run-clause-refuses
returns-in_err-run-clause-refuses g c =
    retire_right c.args.given _ (search (rules, c.is_none_or.ensures, c.if-not-is_none_or.false, c.if-not-is_none_or.ensures)) (subst (λ l. HasNoAddress l → ⊥) (words_are c.args.given.server c.as_slice-words.result.now c.as_slice-words.ensures) c.in_ok-check_addresses.ensures)

pub returns-in_err-chosen-clause-refuses : goal.returns-in_err-chosen-clause-refuses
returns-in_err-chosen-clause-refuses g c =
    retire_right c.args.given _ (search (rules, c.is_none_or.ensures, c.if-not-is_none_or.false, c.if-not-is_none_or.ensures)) (subst (λ l. HasNoAddress l → ⊥) (words_are c.args.given.server c.as_slice-words.result.now c.as_slice-words.ensures) c.in_ok-check_addresses.ensures)

pub returns-clause-refuses : goal.returns-clause-refuses
returns-clause-refuses g c =
    retire_right c.args.given _ (search (rules, c.is_none_or.ensures, c.if-not-is_none_or.false, c.if-not-is_none_or.ensures)) (subst (λ l. HasNoAddress l → ⊥) (words_are c.args.given.server c.as_slice-words.result.now c.as_slice-words.ensures) c.in_ok-check_addresses.ensures)
