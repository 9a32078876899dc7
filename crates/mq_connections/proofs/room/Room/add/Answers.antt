use Rattle.std.proofs.Common.{◌≡◌, ◌∙◌, None, inl, refl, rules, sym}
use Rattle.mq_connections.specs.Sessions.{Outside, held}
use Rattle.mq_connections.proofs.Maps.{opens_held, same_held}
use Rattle.mq_connections.proofs.Standing.{goes_last, opened, with_wires}
use Rattle.mq_connections.proofs.room.Room.add.Goals as goal

-- its time can't be read
pub returns-in-Err-clause-goes : goal.returns-in-Err-clause-goes
returns-in-Err-clause-goes g c = λ who old book told before counted start.
    let wire = g.N.Network.wire in
    let o : Outside = record { book = book; told = told; wires = wire c.args.network.now } in
    let here = held c.args.self.now.opened in
    opened 0 old o (wire c.close.new.self) before c.args.self.now.last here here c.a_life_is_served.ensures.begins counted c.close.ensures.same (λ n. inl refl) start

-- it has a place
pub returns-in-Ok-insert-clause-goes : goal.returns-in-Ok-insert-clause-goes
returns-in-Ok-insert-clause-goes g c = λ who old book told before counted start.
    let wire = g.N.Network.wire in
    let mid : Outside = record { book = book; told = told; wires = wire c.make_place.new.network } in
    let room = c.make_place.new.self in
    let last = c.make_place.ensures.last in
    goes_last old mid room.last c.args.self.now.last (held c.insert.new.self) None (sym last)
    (opened c.in-Ok.«open».connection.room old mid mid.wires before room.last (held room.opened) (held c.insert.new.self) c.a_life_is_served.ensures.begins (last ∙ counted) (λ n. refl)
    (opens_held c.in-Ok.«open».connection.room room.opened c.insert.new.self room.last c.in-Ok.«open» c.in-Ok.ensures.fresh c.in-Ok-insert.ensures.updates) (c.make_place.ensures.goes who old book told before None start))

-- it has none
pub returns-clause-goes : goal.returns-clause-goes
returns-clause-goes g c = λ who old book told before counted start.
    let wire = g.N.Network.wire in
    let mid : Outside = record { book = book; told = told; wires = wire c.make_place.new.network } in
    let room = c.make_place.new.self in
    let last = c.make_place.ensures.last in
    let same : c.insert.new.self.entries ≡ room.opened.entries = search rules in
    goes_last old (with_wires mid (wire c.close-2.new.self)) room.last c.args.self.now.last (held c.insert.new.self) None (sym last)
    (opened 0 old mid (wire c.close-2.new.self) before room.last (held room.opened) (held c.insert.new.self) c.a_life_is_served.ensures.begins (last ∙ counted) c.close-2.ensures.same
    (λ n. inl (same_held room.opened c.insert.new.self same n)) (c.make_place.ensures.goes who old book told before None start))
