use Rattle.std.proofs.Common.{rules, refl}
use Rattle.mq_track.proofs.Records.{learned, named, named_first}
use Rattle.mq_track.proofs.sessions.Sessions.log_in.Goals as goal

pub returns-in-Some-clause-ok : goal.returns-in-Some-clause-ok
returns-in-Some-clause-ok c = learned c.self.inside.records (c.get_mut.follows.lender _) _ c.args.session.now _ _ _ c.self.view_is refl
    (named c.self.inside.records c.args.session.now c.args.login.now _ c.in_ok-from_slice.field-0 c.in-Some.record.now c.self.view_is (search rules) (search rules))
    ((c.get_mut.follows.holds _).3 (search rules))

pub returns-clause-ok : goal.returns-clause-ok
returns-clause-ok c =
    let is = rw (← c.get_mut.follows.holds-at-none) at c.self.view_is in
    learned c.get_mut.follows.lender-at-none c.insert.new.self _ c.in_ok-from_slice-2.field-0.items c.args.session.now _ _ is (search rules)
    (named_first c.get_mut.follows.lender-at-none c.args.session.now c.args.login.now _ c.in_ok-from_slice.field-0 is (search rules) (search rules))
    c.in_ok-insert.ensures.updates
