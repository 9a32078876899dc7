use Rattle.std.proofs.Common.{◌≡◌, to_z, of_z, w64, FitsSigned, arith, rules, subst, subst₂}
use Rattle.std.proofs.lemmas.Int.{ints}
use Rattle.std.specs.Prelude.{OnOk}
use Rattle.mq_command.specs.Listed.{Adds, IsLimitObject}
use Rattle.mq_program.proofs.listing.push_object.Goals as goal

pub returns : goal.returns
returns c =
    let limit = c.args.limit.now in
    let day_fits : FitsSigned w64 limit.pair.day = search rules in
    let cap_fits : FitsSigned w64 limit.cap = search rules in
    let day_is : to_z w64 (of_z w64 limit.pair.day) ≡ limit.pair.day = omega (arith, ints) in
    let cap_is : to_z w64 (of_z w64 limit.cap) ≡ limit.cap = omega (arith, ints) in
    subst (λ login. OnOk c.push_json_limit.result (Adds (IsLimitObject login limit.pair.day limit.cap) c.args.text.now.items c.push_json_limit.new.text.items))
    c.as_slice.ensures
    (subst₂ (λ day cap. OnOk c.push_json_limit.result (Adds (IsLimitObject c.as_slice.result.now day cap) c.args.text.now.items c.push_json_limit.new.text.items)) day_is cap_is
    c.push_json_limit.ensures)
