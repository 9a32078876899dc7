use Rattle.std.proofs.Common.{sym}
use Rattle.mq_connections.proofs.Gaining.{gains_as, gains_none}
use Rattle.mq_connections.proofs.opened.take_lent_turns.Goals as goal

pub returns-clause-leaves : goal.returns-clause-leaves
returns-clause-leaves g c =
    let e = c.take_turns-progress.ensures.leaves in
    record {
      same_zone = e.same_zone;
      same_default = e.same_default;
      kept = e.kept;
      no_store = e.no_store;
      sound = λ k s. (e.sound k (s, c.requires.may, gains_as _ _ _ (sym c.requires.start) (gains_none _))).0;
    }

pub returns-clause-turns : goal.returns-clause-turns
returns-clause-turns g c = λ k s. c.take_turns-progress.ensures.turns k (s, c.requires.may, gains_as _ _ _ (sym c.requires.start) (gains_none _))

pub returns-clause-gains : goal.returns-clause-gains
returns-clause-gains g c = λ k s. (c.take_turns-progress.ensures.leaves.sound k (s, c.requires.may, gains_as _ _ _ (sym c.requires.start) (gains_none _))).2
