use Rattle.std.proofs.Common.{◌≡◌, ◌∙◌, ap, sym, pos, to_z, of_z, w64, true, false, arith}
use Rattle.mq_rows.proofs.Words.{ints, same_text, text_is, text_itself}
use Rattle.mq_rows.proofs.Governed.{nothing_due, own_login, other_login}
use Rattle.mq_rows.proofs.books.cap_of.Goals as goal

pub returns-in_default : goal.returns-in_default
returns-in_default c = λ limits has.
    let exact : to_z w64 (of_z w64 c.from.result) ≡ pos c.args.default = omega (arith, ints) in
    exact ∙ nothing_due c.args.pair.now limits c.args.caps.now has c.range.result (c.range.ensures.in_range tt) c.args.default c.in_default.ensures.steps.0

pub returns-then-eq : goal.returns-then-eq
returns-then-eq c = λ limits has.
    let exact : to_z w64 (of_z w64 c.in-Some.cap.now) ≡ c.in-Some.cap.now = omega (arith, ints) in
    exact ∙ own_login c.args.pair.now limits c.args.caps.now has c.range.result (c.range.ensures.in_range tt) (c.in-Some.from.now, c.in-Some.cap.now) c.next_back.new.self c.in-Some.ensures.steps c.args.default
    (text_is c.in-Some.from.now.login c.args.pair.now.login (sym c.eq.ensures ∙ c.if-eq.true))

pub returns-else-eq : goal.returns-else-eq
returns-else-eq c = λ limits has.
    let exact : to_z w64 (of_z w64 c.from-else-eq.result) ≡ pos c.args.default = omega (arith, ints) in
    let other : same_text c.in-Some.from.now.login c.args.pair.now.login ≡ false = sym c.eq.ensures ∙ c.if-eq.false in
    exact ∙ other_login c.args.pair.now limits c.args.caps.now has c.range.result (c.range.ensures.in_range tt) (c.in-Some.from.now, c.in-Some.cap.now) c.next_back.new.self c.in-Some.ensures.steps c.args.default
    (λ same. let so : same_text c.in-Some.from.now.login c.args.pair.now.login ≡ true = ap (λ l. same_text l c.args.pair.now.login) same ∙ text_itself c.args.pair.now.login in absurd (cc (so, other)))
