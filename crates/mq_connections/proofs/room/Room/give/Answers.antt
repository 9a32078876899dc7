use Rattle.std.proofs.Common.{Err, None, Some, rules, subst, ◌≡◌, ◌≢◌}
use Rattle.std.specs.BTreeMap.{get}
use Rattle.std.specs.Ordering.{nat_cmp}
use Rattle.mq_server.specs.declared.fault.ServeFault.TheVariants.{Store}
use Rattle.mq_server.specs.Held.{State}
use Rattle.mq_connections.specs.declared.opened.OpenConnection.{OpenConnection}
use Rattle.mq_connections.specs.Asking.{GoesOnBy}
use Rattle.mq_connections.specs.Sessions.{held}
use Rattle.mq_connections.proofs.Maps.{found_is, held_now}
use Rattle.mq_connections.proofs.room.Room.give.Goals as goal

pub returns-in-Some-clause-gives : goal.returns-in-Some-clause-gives
returns-in-Some-clause-gives c = λ state here.
    let was = c.args.self.now.opened in
    let number = c.args.number in
    let one = c.in-Some.«open».now in
    let turned : OpenConnection = record { peer = one.peer; connection = c.hold_reply.new.self; stay = one.stay } in
    let now = c.get_mut.follows.lender turned in
    let found : Some one ≡ get nat_cmp was number = search rules in
    let updates = (c.get_mut.follows.holds turned).3 (search rules) in
    let e = c.hold_reply.ensures in
    let P : State → Type 0 = λ s. s.end ≡ None → (d : State) × (held now number ≡ Some d) × (d.is_closed ≡ s.is_closed) × (d.end ≢ Some (Err Store)) × GoesOnBy s d c.args.reply.now in
    subst P (found_is was number one state found here)
    (λ going. (c.hold_reply.new.self, held_now was now number (Some turned) updates, e.closes_nothing, e.works going, e.lives going))
