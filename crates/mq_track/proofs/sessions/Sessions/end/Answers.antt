use Rattle.std.proofs.Common.{◌∙◌, sym, rules, refl}
use Rattle.std.proofs.lemmas.Bool.{false≢true}
use Rattle.mq_track.proofs.Records.{learned, begun, has_record, no_record, stays_in_use}
use Rattle.mq_track.proofs.sessions.Sessions.end.Goals as goal

pub returns-in_default : goal.returns-in_default
returns-in_default c =
    let is = no_record c.self.inside.records c.args.session.now _ c.self.view_is (search rules) in
    absurd (false≢true (sym is ∙ sym c.if-not-has_login.ensures))

pub invariant_of-record : goal.invariant_of-record
invariant_of-record c =
    let is = has_record c.self.inside.records c.args.session.now _ c.in-Some.record.now c.self.view_is (search rules) in
    record { in_use = stays_in_use _ _ is c.if-not-has_login.ensures }

pub returns : goal.returns
returns c = learned c.self.inside.records (c.get_mut.follows.lender _) _ c.args.session.now _ _ _ c.self.view_is refl
    (begun c.self.inside.records c.args.session.now _ _ c.in-Some.record.now c.self.view_is (search rules))
    ((c.get_mut.follows.holds _).3 (search rules))
