use Rattle.std.proofs.Common.{◌≡◌, rules, subst, true}
use Rattle.mq_link.specs.Keeping.{Asks}
use Rattle.mq_link.proofs.KeptSteps.{carried_if, carried_on, kept_on}
use Rattle.mq_link.proofs.tcp.TcpLinkLink.exchange.Goals as goal

-- each has a connection of its own
pub returns-then-not-self-clause-carried : goal.returns-then-not-self-clause-carried
returns-then-not-self-clause-carried g c = λ _.
    carried_if g.C.Connect.is_new g.C.Stream.Write.contents g.C.Stream.Read.remaining _ _ c.in_ok-stream.stream c.receive.result c.in_ok-stream.ensures.sent c.receive.ensures.body

-- it is kept
pub returns-in-Ok-clause-asked : goal.returns-in-Ok-clause-asked
returns-in-Ok-clause-asked g c = λ _.
    let here : c.self.inside.connector ≡ c.args.self.now.connector = search rules in
    let same : c.take-kept.result ≡ c.args.self.now.kept = search rules in
    let there : c.ask.new.self.connector ≡ c.self-in-Ok.inside.connector = search rules in
    subst (λ k. Asks g.C.Connect.is_new g.C.Connect.tried g.C.Stream.Write.contents g.C.Stream.Read.remaining c.args.frame.now c.ask.new.reply.items c.args.self.now.connector k c.self-in-Ok.inside.connector c.in-Ok.kept) same
    (subst (λ b. Asks g.C.Connect.is_new g.C.Connect.tried g.C.Stream.Write.contents g.C.Stream.Read.remaining c.args.frame.now c.ask.new.reply.items b c.take-kept.result c.self-in-Ok.inside.connector c.in-Ok.kept) here
    (subst (λ a. Asks g.C.Connect.is_new g.C.Connect.tried g.C.Stream.Write.contents g.C.Stream.Read.remaining c.args.frame.now c.ask.new.reply.items c.self.inside.connector c.take-kept.result a c.in-Ok.kept) there c.in-Ok.ensures.asked))

pub returns-in-Ok-clause-carried : goal.returns-in-Ok-clause-carried
returns-in-Ok-clause-carried g c = λ was.
    let keeps : c.args.self.now.keeps ≡ true = search rules in
    carried_on g.C.Connect.is_new g.C.Connect.tried g.C.Stream.Write.contents g.C.Stream.Read.remaining c.args.frame.now c.ask.new.reply.items c.args.self.now.connector c.args.self.now.kept c.self-in-Ok.inside.connector c.in-Ok.kept
    (returns-in-Ok-clause-asked g c keeps) was

pub returns-in-Ok-clause-kept : goal.returns-in-Ok-clause-kept
returns-in-Ok-clause-kept g c = λ was.
    let keeps : c.args.self.now.keeps ≡ true = search rules in
    kept_on g.C.Connect.is_new g.C.Connect.tried g.C.Stream.Write.contents g.C.Stream.Read.remaining c.args.frame.now c.ask.new.reply.items c.args.self.now.connector c.args.self.now.kept c.self-in-Ok.inside.connector c.in-Ok.kept
    (returns-in-Ok-clause-asked g c keeps) was
