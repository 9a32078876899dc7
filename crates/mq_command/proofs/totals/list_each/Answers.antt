use Rattle.std.specs.Option.{IfSome}
use Rattle.mq_command.proofs.Words.{All-nil, All-push, IsListing, ListsPart, rules, [], arith, length, refl, ◌++◌, ◌<◌, ◌∷◌, ◌≡◌}
use Rattle.mq_command.proofs.TotalSteps.{asked_each, asked_none, quiet_more, turn}
use Rattle.mq_command.proofs.totals.list_each.Goals as goal

pub loop-i-init : goal.loop-i-init
loop-i-init g c =
    let none : c.in_ok-parts.parts.items ≡ [] = search rules in record {
      room = search rules;
      counted = search rules;
      asked = asked_none (λ place. ListsPart c.args.day) _ _ none;
      listing = rw none (All-nil (λ part. IfSome part IsListing));
      quiet = λ all. refl;
    }

pub loop-i-preserved : goal.loop-i-preserved
loop-i-preserved g c =
    let i = c.loop-i.invariant in
    let e = c.list_part-part.ensures in
    let part = c.list_part-part.result in
    let here : c.loop-i.i < length c.args.links.now = c.loop-i-test.true in
    let there : c.loop-i.i < length c.loop-i.links = omega (arith, c.loop-i-test.true) in
    let grown : c.push.new.self.items ≡ c.loop-i.parts.items ++ part ∷ [] = rw c.unwrap.ensures at c.push.ensures.items in record {
      room = omega (arith, i.room, c.push.ensures.capacity);
      counted = search rules;
      asked = turn g.L.Link.told (λ place. ListsPart c.args.day) c.args.links.now c.loop-i.links c.loop-i.parts.items _ c.loop-i.i c.index-links-i.result c.list_part-part.new.link part there here i.asked (e.part) grown;
      listing = rw grown (All-push (λ part. IfSome part IsListing) _ _ i.listing e.listing);
      quiet = quiet_more c.loop-i.parts.items part _ _ _ _ grown i.quiet e.quiet;
    }

pub returns-clause-asked : goal.returns-clause-asked
returns-clause-asked g c =
    asked_each g.L.Link.told (λ place. ListsPart c.args.day) c.args.links.now c.loop-i.links _ c.loop-i.i (omega (arith, c.loop-i-test.false)) c.loop-i.invariant.asked
