use Rattle.std.proofs.Common.{ap, arith, length, subst, sym, ◌∙◌, ◌≡◌}
use Rattle.std.proofs.lemmas.List.{length-map}
use Rattle.mq_dates.specs.Dates.{IsDateText}
use Rattle.mq_process.specs.declared.asking.TheConstants.{TIMEOUT}
use Rattle.mq_remote.proofs.TotalSteps.{in_step_length, in_step_same}
use Rattle.mq_remote.proofs.subcommands.sums.report_sums.Goals as goal

pub run_totals-requires-clause-servers : goal.run_totals-requires-clause-servers
run_totals-requires-clause-servers g c = in_step_length _ _ _ c.in_ok-links.ensures ∙ sym (ap length c.as_mut_slice.ensures.value)

pub run_totals-requires-clause-few : goal.run_totals-requires-clause-few
run_totals-requires-clause-few g c =
    let links : length c.as_slice-addresses.result.now ≡ length c.in_ok-links.links.items = in_step_length _ _ _ c.in_ok-links.ensures in
    let addresses : length c.args.servers.now ≡ length c.in_ok-spelled.spelled.items = sym (length-map c.args.servers.now (λ s. s.now)) ∙ in_step_length _ _ _ c.in_ok-spelled.ensures in
    omega (arith, ap length c.as_mut_slice.ensures.value, sym links, ap length c.as_slice-addresses.ensures.value, sym addresses, c.requires.few)

pub returns : goal.returns
returns g c = record {
  addresses = c.in_ok-spelled.spelled.items;
  spelled = c.in_ok-spelled.ensures;
  links = c.as_mut_slice.result.now;
  after = c.run_totals.new.links;
  are_led = in_step_same (λ address link. g.D.Dial.leads link address TIMEOUT) _ _ _ _ c.as_slice-addresses.ensures.value c.as_mut_slice.ensures.value c.in_ok-links.ensures;
  date = c.as_str.result.now;
  is_date = subst (λ d. IsDateText c.args.order.now.day d) (sym c.as_str.ensures.value) c.in_ok-date.ensures;
  output = g.W.Write.contents c.args.output.now;
  output' = g.W.Write.contents c.run_totals.new.output;
  asked = c.run_totals.ensures.reports;
}
