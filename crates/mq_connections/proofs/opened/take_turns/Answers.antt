use Rattle.std.proofs.Common.{◌∙◌, refl, sym}
use Rattle.mq_ledger.proofs.Leaving.{left_alone, left_both}
use Rattle.mq_server.specs.declared.connection.Progress.TheVariants.{Answered}
use Rattle.mq_connections.proofs.Turning.{answered_room, answered_works, both, nothing_done, turns_as}
use Rattle.mq_connections.proofs.opened.take_turns.Goals as goal

pub loop-turn-init : goal.loop-turn-init
loop-turn-init g c = record {
  others = λ n not. refl;
  works = λ not. not;
  leaves = left_alone;
  turns = λ k s. nothing_done (g.L.Ledger.book c.args.ledger.now) (g.L.Ledger.told c.args.ledger.now) Answered _ c.args.opened.now.connection answered_works
      (c.more_exchanges.ensures.none (g.L.Ledger.book c.args.ledger.now) (g.met.L.Ledger.sound_is_legal c.args.ledger.now s));
}

pub returns-in_default : goal.returns-in_default
returns-in_default g c =
    let i = c.loop-turn.invariant in
    let turn = c.take_turn.ensures in record {
      others = λ n not. turn.others n not ∙ i.others n not;
      store = turn.store;
      works = λ was not. turn.works (i.works was) not;
      leaves = left_both i.leaves turn.leaves;
      turns = λ kept sound.
          let ok = i.leaves.sound (turn.leaves.kept kept) sound in
          both c.more_exchanges.ensures.more (g.L.Ledger.book c.args.ledger.now) (g.L.Ledger.book c.loop-turn.ledger) _ _ _ _ Answered _ _ _ _ _ _ _ (g.met.L.Ledger.sound_is_legal c.loop-turn.ledger ok) i.leaves.same_zone i.leaves.same_default
          answered_works answered_room i.works (i.turns (turn.leaves.kept kept) sound) (turn.turns kept ok);
    }

pub loop-turn-preserved : goal.loop-turn-preserved
loop-turn-preserved g c =
    let i = c.loop-turn.invariant in
    let turn = c.take_turn.ensures in record {
      others = λ n not. turn.others n not ∙ i.others n not;
      works = λ was. turn.works (i.works was) (λ is. answered_works (sym c.in-Answered.is ∙ is));
      leaves = left_both i.leaves turn.leaves;
      turns = λ kept sound.
          let ok = i.leaves.sound (turn.leaves.kept kept) sound in
          both c.more_exchanges.ensures.more (g.L.Ledger.book c.args.ledger.now) (g.L.Ledger.book c.loop-turn.ledger) _ _ _ _ Answered _ _ _ _ _ _ _ (g.met.L.Ledger.sound_is_legal c.loop-turn.ledger ok) i.leaves.same_zone i.leaves.same_default
          answered_works answered_room i.works (i.turns (turn.leaves.kept kept) sound) (turns_as _ _ _ _ _ Answered _ _ _ _ c.in-Answered.is (turn.turns kept ok));
    }
