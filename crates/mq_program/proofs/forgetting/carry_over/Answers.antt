use Rattle.std.proofs.Common.{◌∙◌, sym, subst}
use Rattle.sqlite.specs.Held.{state}
use Rattle.sqlite.specs.Effect.{Database}
use Rattle.mq_program.specs.Forgetting.{CountsLimits}
use Rattle.mq_program.proofs.Forgot.{sound_by, remembered_at_end, counted_at_end}
use Rattle.mq_program.proofs.forgetting.carry_over.Goals as goal

pub returns-in-Ok-clause-remembered : goal.returns-in-Ok-clause-remembered
returns-in-Ok-clause-remembered g c = λ kept kept_new sound free.
    let before = c.args.old.now in
    let mid = c.count_answers.new.self in
    let new = c.in_ok-new.new in
    let end = c.count_kept.new.new in
    let one = c.in_ok-all.ensures in
    let made = c.in_ok-new.ensures in
    let last = c.in-Ok.ensures in
    let kept_mid = made.old_kept kept in
    let kept_made = last.kept kept_new in
    let rem = made.remembered kept.clean kept_made.clean (one.sound kept_mid sound) free in
    remembered_at_end before.zone mid.zone new.zone end.zone before.default mid.default new.default end.default (state g.T.Store before.connection).now (state g.T.Store mid.connection).now (state g.S.Store new.connection) (state g.S.Store end.connection)
    one.lent.0 one.lent.1 (one.same kept_mid) made.lent.0 made.lent.1 (last.same kept_new) c.args.day last.lent.0 last.lent.1 rem
    (last.sound kept_new (sound_by before.zone mid.zone new.zone end.zone before.default mid.default new.default end.default (state g.T.Store before.connection).now (state g.T.Store mid.connection).now (state g.S.Store new.connection) (state g.S.Store end.connection)
    one.lent.0 one.lent.1 (one.same kept_mid) made.lent.0 made.lent.1 (last.same kept_new) rem.sound))

pub returns-in-Ok-clause-counted : goal.returns-in-Ok-clause-counted
returns-in-Ok-clause-counted g c = λ kept kept_new sound free.
    let before = c.args.old.now in
    let mid = c.count_answers.new.self in
    let new = c.in_ok-new.new in
    let end = c.count_kept.new.new in
    let one = c.in_ok-all.ensures in
    let made = c.in_ok-new.ensures in
    let last = c.in-Ok.ensures in
    let kept_mid = made.old_kept kept in
    let kept_made = last.kept kept_new in
    let rem = made.remembered kept.clean kept_made.clean (one.sound kept_mid sound) free in
    record {
      answers = counted_at_end before.zone mid.zone new.zone end.zone before.default mid.default new.default end.default (state g.T.Store before.connection).now (state g.T.Store mid.connection).now (state g.S.Store new.connection) (state g.S.Store end.connection)
          one.lent.0 one.lent.1 (one.same kept_mid) made.lent.0 made.lent.1 (last.same kept_new) c.in-Ok.kept.answers
          (last.answers kept_new (sound_by before.zone mid.zone new.zone end.zone before.default mid.default new.default end.default (state g.T.Store before.connection).now (state g.T.Store mid.connection).now (state g.S.Store new.connection) (state g.S.Store end.connection)
          one.lent.0 one.lent.1 (one.same kept_mid) made.lent.0 made.lent.1 (last.same kept_new) rem.sound));
      all = last.all ∙ one.counted kept_mid sound;
      limits = subst (λ (db : Database). CountsLimits db c.in-Ok.kept.limits) (sym (last.same kept_new)) (last.limits kept_new);
    }
