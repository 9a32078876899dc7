use Rattle.std.proofs.Common.{rules, tests, arith, eqb, ap, sym, ◌∙◌, ◌≡◌, ◌++◌, ◌+◌, true, false, [], Some, not, is_err, map, length}
use Rattle.std.proofs.lemmas.List.{length_push}
use Rattle.std.proofs.lemmas.List.Sums.{count_by-le-length}
use Rattle.std.proofs.lemmas.List.Splits.{length-slice_split}
use Rattle.std.proofs.lemmas.Iterator.Consumers.{YieldsList-turn, YieldsList-end}
use Rattle.std.proofs.lemmas.Iterator.Splits.{YieldsList-from_slice_split}
use Rattle.std.specs.Result.{result_unwrap_or}
use Rattle.hex.specs.Hex.{decode_of}
use Rattle.mq_replay.specs.Connections.{digits_of, is_empty_line, is_not_hex}
use Rattle.mq_replay.proofs.LineSteps.{joined-start, joined_over_empty_line, joined_over_line, joined_over_end, hex_more, empty_line_is_hex, at_line, first_bad, none_bad}
use Rattle.mq_replay.proofs.connections.read_connections.Goals as goal

pub loop-line-init : goal.loop-line-init
loop-line-init c = record {
  counted = search rules;
  hex = λ k h. absurd (omega (arith, h));
  meaning = rw (c.new-found.ensures.items, c.new-current.ensures.items) (joined-start c.args.text.now);
}

pub overflow_add-number : goal.overflow_add-number
overflow_add-number c =
    let turn = YieldsList-turn (YieldsList-from_slice_split _ (λ b. eqb b 10) c.args.text.now (cc) (cc) (cc) (λ x b q k. search (rules, tests))) c.loop-line.yielded _ c.loop-line.yielded_by _ _ c.in-Some.line c.in-Some.is c.next.ensures.steps in
    omega (arith, turn.0, c.loop-line.invariant.counted, length-slice_split (λ b. eqb b 10) c.args.text.now, count_by-le-length (λ b. eqb b 10) c.args.text.now)

pub loop-line-preserved-in_ok-end_connection : goal.loop-line-preserved-in_ok-end_connection
loop-line-preserved-in_ok-end_connection c =
    let turn = YieldsList-turn (YieldsList-from_slice_split _ (λ b. eqb b 10) c.args.text.now (cc) (cc) (cc) (λ x b q k. search (rules, tests))) c.loop-line.yielded _ c.loop-line.yielded_by _ _ c.in-Some.line c.in-Some.is c.next.ensures.steps in
    let line = c.in-Some.line.now in
    let empty : is_empty_line line ≡ true = search rules in
    let next = length_push c.loop-line.yielded c.in-Some.line in
    record {
      counted = omega (arith, next, c.loop-line.invariant.counted);
      hex = hex_more _ _ _ line next turn.0 turn.1 (empty_line_is_hex line empty) c.loop-line.invariant.hex;
      meaning = joined_over_empty_line _ (map (λ d. d.items) c.loop-line.found.items) _ _ c.loop-line.current.items _ line _ _ next turn.0 turn.1 empty c.in_ok-end_connection.ensures.found c.in_ok-end_connection.ensures.current c.loop-line.invariant.meaning;
    }

pub returns-then-not-branch-clause-not_hex : goal.returns-then-not-branch-clause-not_hex
returns-then-not-branch-clause-not_hex c =
    let turn = YieldsList-turn (YieldsList-from_slice_split _ (λ b. eqb b 10) c.args.text.now (cc) (cc) (cc) (λ x b q k. search (rules, tests))) c.loop-line.yielded _ c.loop-line.yielded_by _ _ c.in-Some.line c.in-Some.is c.next.ensures.steps in
    let line = c.in-Some.line.now in
    let given : c.as_slice.result.now ≡ digits_of line = c.as_slice.ensures.value ∙ c.in_ok-keep_digits.ensures in
    let bad : is_not_hex line ≡ true = ap (λ d. is_err (decode_of d)) (sym given) ∙ c.in_ok-append_bytes.ensures.hex ∙ ap not c.if-not-branch.true in
    let found = first_bad c.args.text.now (length c.loop-line.yielded) turn.0 c.loop-line.invariant.hex (ap is_not_hex (at_line _ _ line turn.0 turn.1) ∙ bad) in
    λ number e.
    let same : c.loop-line.number + 1 ≡ number = cc in
    found ∙ ap Some (omega (arith, c.loop-line.invariant.counted, same))

pub loop-line-preserved : goal.loop-line-preserved
loop-line-preserved c =
    let turn = YieldsList-turn (YieldsList-from_slice_split _ (λ b. eqb b 10) c.args.text.now (cc) (cc) (cc) (λ x b q k. search (rules, tests))) c.loop-line.yielded _ c.loop-line.yielded_by _ _ c.in-Some.line c.in-Some.is c.next.ensures.steps in
    let line = c.in-Some.line.now in
    let full : is_empty_line line ≡ false = search rules in
    let given : c.as_slice.result.now ≡ digits_of line = c.as_slice.ensures.value ∙ c.in_ok-keep_digits.ensures in
    let good : is_not_hex line ≡ false = ap (λ d. is_err (decode_of d)) (sym given) ∙ c.in_ok-append_bytes.ensures.hex ∙ ap not c.if-not-branch.false in
    let next = length_push c.loop-line.yielded c.in-Some.line in
    record {
      counted = omega (arith, next, c.loop-line.invariant.counted);
      hex = hex_more _ _ _ line next turn.0 turn.1 good c.loop-line.invariant.hex;
      meaning = joined_over_line _ (map (λ d. d.items) c.loop-line.found.items) _ c.loop-line.current.items _ line _ _ next turn.0 turn.1 full (c.in_ok-append_bytes.ensures.appended c.if-not-branch.false ∙ ap (λ d. c.loop-line.current.items ++ result_unwrap_or (decode_of d) []) given) c.loop-line.invariant.meaning;
    }

pub returns-clause-hex : goal.returns-clause-hex
returns-clause-hex c =
    let end = YieldsList-end (YieldsList-from_slice_split _ (λ b. eqb b 10) c.args.text.now (cc) (cc) (cc) (λ x b q k. search (rules, tests))) c.loop-line.yielded _ c.loop-line.yielded_by _ _ c.in-None.is c.next.ensures.steps in
    none_bad c.args.text.now (λ j h. c.loop-line.invariant.hex j (omega (arith, h, end.1)))

pub returns-clause-connections : goal.returns-clause-connections
returns-clause-connections c =
    let end = YieldsList-end (YieldsList-from_slice_split _ (λ b. eqb b 10) c.args.text.now (cc) (cc) (cc) (λ x b q k. search (rules, tests))) c.loop-line.yielded _ c.loop-line.yielded_by _ _ c.in-None.is c.next.ensures.steps in
    joined_over_end _ (map (λ d. d.items) c.loop-line.found.items) _ _ c.loop-line.current.items _ end.1 c.in_ok-end_connection-2.ensures.found c.loop-line.invariant.meaning
