use Rattle.std.proofs.Common.{◌≡◌, ◌∙◌, ℤ, [], ◌∷◌, ◌++◌, string_bytes, subst, to_z, of_z, w32, FitsSigned, append_assoc, arith, rules}
use Rattle.std.proofs.lemmas.Int.{ints}
use Rattle.std.specs.Prelude.{IfOk, codes}
use Rattle.std.specs.Fmt.{decimal}
use Rattle.mq_request.specs.Escaped.{escaped}
use Rattle.mq_ledger.specs.Day.{minutes_in}
use Rattle.mq_program.specs.Describing.{offset_line}
use Rattle.mq_program.proofs.DescribingSteps.{by_offset, by_rule}
use Rattle.mq_program.proofs.describing.terms_line.Goals as goal

pub returns-in-Some : goal.returns-in-Some
returns-in-Some c =
    let made : IfOk c.format.result (λ line. string_bytes line ≡ codes "default " ++ decimal c.args.default ++ codes ", rule " ++ escaped c.in-Some.rule.now ++ 10 ∷ []) =
    search (rules, append_assoc, c.format.ensures) in
    by_rule (λ line. string_bytes line) c.args.zone.now c.args.default c.in-Some.rule.now c.format.result c.in-Some.ensures made

pub returns-in-None : goal.returns-in-None
returns-in-None c =
    let fits : FitsSigned w32 c.minutes.result = search rules in
    let exact : to_z w32 (of_z w32 c.minutes.result) ≡ c.minutes.result = omega (arith, ints) in
    let made : IfOk c.offset_line.result (λ line. string_bytes line ≡ offset_line c.args.default (minutes_in c.args.zone.now)) =
    subst (λ (m : ℤ). IfOk c.offset_line.result (λ line. string_bytes line ≡ offset_line c.args.default m)) (exact ∙ c.minutes.ensures.value) c.offset_line.ensures in
    by_offset (λ line. string_bytes line) c.args.zone.now c.args.default c.offset_line.result c.in-None.ensures made
