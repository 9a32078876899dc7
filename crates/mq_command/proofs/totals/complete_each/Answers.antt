use Rattle.std.specs.Option.{IfSome}
use Rattle.mq_command.proofs.Words.{All, All-nil, All-push, CompletesPart, IsRow, None, get_or, rules, [], arith, length, refl, ◌++◌, ◌<◌, ◌∷◌, ◌≡◌}
use Rattle.mq_command.proofs.TotalSteps.{asked_each, asked_none, came_at, quiet_more, turn}
use Rattle.mq_command.proofs.totals.complete_each.Goals as goal

pub loop-i-init : goal.loop-i-init
loop-i-init g c =
    let none : c.in_ok-parts.parts.items ≡ [] = search rules in record {
      room = search rules;
      counted = search rules;
      asked = asked_none (λ place. CompletesPart c.args.day c.args.logins.now (get_or c.args.listed.now place None)) _ _ none;
      in_range = rw none (All-nil (λ part. IfSome part (All IsRow)));
      of_each = rw none (All-nil (λ part. IfSome part (λ rows. length rows ≡ length c.args.logins.now)));
      quiet = λ all. refl;
    }

pub loop-i-preserved : goal.loop-i-preserved
loop-i-preserved g c =
    let i = c.loop-i.invariant in
    let e = c.complete_part-part.ensures in
    let part = c.complete_part-part.result in
    let here : c.loop-i.i < length c.args.links.now = c.loop-i-test.true in
    let there : c.loop-i.i < length c.loop-i.links = omega (arith, c.loop-i-test.true) in
    let grown : c.push.new.self.items ≡ c.loop-i.parts.items ++ part ∷ [] = rw c.unwrap.ensures at c.push.ensures.items in record {
      room = omega (arith, i.room, c.push.ensures.capacity);
      counted = search rules;
      asked = turn g.L.Link.told (λ place. CompletesPart c.args.day c.args.logins.now (get_or c.args.listed.now place None)) c.args.links.now c.loop-i.links c.loop-i.parts.items _ c.loop-i.i c.index-links-i.result c.complete_part-part.new.link part there here i.asked (came_at c.args.day c.args.logins.now c.args.listed.now c.loop-i.i c.index-listed-i.result _ _ part (omega (arith, here, c.requires.counted)) c.index-listed-i.is e.part) grown;
      in_range = rw grown (All-push (λ part. IfSome part (All IsRow)) _ _ i.in_range e.in_range);
      of_each = rw grown (All-push (λ part. IfSome part (λ rows. length rows ≡ length c.args.logins.now)) _ _ i.of_each e.counted);
      quiet = quiet_more c.loop-i.parts.items part _ _ _ _ grown i.quiet e.quiet;
    }

pub returns-clause-asked : goal.returns-clause-asked
returns-clause-asked g c =
    asked_each g.L.Link.told (λ place. CompletesPart c.args.day c.args.logins.now (get_or c.args.listed.now place None)) c.args.links.now c.loop-i.links _ c.loop-i.i (omega (arith, c.loop-i-test.false)) c.loop-i.invariant.asked
