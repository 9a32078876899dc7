use Rattle.std.proofs.Common.{◌≡◌, ◌∙◌, string_bytes, to_z, of_z, w64, FitsSigned, ap, arith, rules}
use Rattle.std.proofs.lemmas.Int.{ints}
use Rattle.std.specs.Fmt.{signed_decimal}
use Rattle.mq_request.specs.Escaped.{escaped}
use Rattle.mq_program.proofs.ListingSteps.{line_of}
use Rattle.mq_program.proofs.listing.limit_line.Goals as goal

pub returns : goal.returns
returns c =
    let limit = c.args.limit.now in
    let day_fits : FitsSigned w64 limit.pair.day = search rules in
    let cap_fits : FitsSigned w64 limit.cap = search rules in
    let day_is : to_z w64 (of_z w64 limit.pair.day) ≡ limit.pair.day = omega (arith, ints) in
    let cap_is : to_z w64 (of_z w64 limit.cap) ≡ limit.cap = omega (arith, ints) in
    let login : string_bytes c.in_ok-login.login ≡ escaped limit.pair.login = search rules in
    line_of (λ line. string_bytes line) c.limit_text.result _ _ _ _ _ _ (c.as_str.ensures.value ∙ c.in_ok-day.ensures ∙ ap signed_decimal day_is)
    (c.as_str-2.ensures.value ∙ c.in_ok-cap.ensures ∙ ap signed_decimal cap_is) (c.as_str-3.ensures.value ∙ login) c.limit_text.ensures
