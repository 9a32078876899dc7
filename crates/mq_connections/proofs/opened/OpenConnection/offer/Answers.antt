use Rattle.std.proofs.Common.{◌≡◌, ◌∙◌, ap, length, rules, sym}
use Rattle.std.proofs.lemmas.List.{nil_from_length}
use Rattle.mq_connections.proofs.Turning.{offers_all, offers_none, offers_some}
use Rattle.mq_server.specs.Held.{State}
use Rattle.mq_connections.proofs.opened.OpenConnection.offer.Goals as goal

-- none waits
pub returns-then-is_empty-clause-offers : goal.returns-then-is_empty-clause-offers
returns-then-is_empty-clause-offers g c =
    let none : length c.replies.result.now ≡ 0 = search rules in
    offers_none c.args.self.now.connection (g.N.Network.wire c.args.network.now c.args.number) (sym c.replies.ensures ∙ nil_from_length c.replies.result.now none)

-- the peer took some
pub returns-in-Ok-clause-offers : goal.returns-in-Ok-clause-offers
returns-in-Ok-clause-offers g c =
    let t = c.take_replies.ensures.taken in
    offers_some c.args.self.now.connection c.take_replies.new.self (g.N.Network.wire c.args.network.now c.args.number) (g.N.Network.wire c.write.new.self c.args.number) c.replies-2.result.now c.in-Ok.taken c.replies-2.ensures
    (ap (λ (x : State). x.end) t) (ap (λ (x : State). x.is_closed) t) (ap (λ (x : State). x.replies) t) c.in-Ok.ensures.remaining c.in-Ok.ensures.bytes c.in-Ok.ensures.left c.take_replies.ensures.lives

-- or none
pub returns-in_default-clause-offers : goal.returns-in_default-clause-offers
returns-in_default-clause-offers g c = offers_all c.args.self.now.connection (g.N.Network.wire c.args.network.now c.args.number) (g.N.Network.wire c.write.new.self c.args.number) c.replies-2.result.now c.replies-2.ensures
    c.in_default.ensures.remaining c.in_default.ensures.bytes c.in_default.ensures.left
