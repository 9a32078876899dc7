use Rattle.mq_server.proofs.Living.{receives}
use Rattle.mq_server.proofs.connection.Connection.receive.Goals as goal

pub returns-clause-lives : goal.returns-clause-lives
returns-clause-lives c = λ l lives going. receives c.feed.result l _ _ c.args.piece.now c.feed.new.self.rest c.feed.new.self.room c.self.view_is lives going c.feed.ensures.ok
