use Rattle.sqlite.specs.Held.{state}
use Rattle.mq_store.specs.Soundness.{book_in}
use Rattle.mq_nights.proofs.night.pass_night.Given as goal

-- the terms of the night
abbrev pub ghosts-serve_evening : goal.ghosts-serve_evening
ghosts-serve_evening g a = record {
  keep = a.evening.lookout.keep;
  begun = book_in a.ledger.now.zone a.ledger.now.default (state g.S.Store a.ledger.now.connection).now;
}
