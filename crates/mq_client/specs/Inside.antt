-- What is so of every client, and what its callers see.
use Rattle.std.specs.Prelude.{◌+◌, ◌≤◌, length}
use Rattle.std.specs.List.{AllByRecursion}
use Rattle.mq_request.specs.Range.{IsWithin, IsHost, IsRun}
use Rattle.mq_client.specs.Past.{State}
use Rattle.mq_client.specs.HeldTransactions.{AllHeld}
use Rattle.mq_client.specs.FramedRequests.{IsFramed, requests_of}
use Rattle.mq_client.specs.declared.client.Client.TheInside.{Inside}

-- a client as its callers see it: of what waits the requests, without their frames
abbrev pub state_of : Inside → State
state_of c = record {
  source = record { host = c.host; run = c.run };
  tries = c.tries;
  spans = c.spans;
  held = c.held;
  numbers = c.numbers;
  waiting = requests_of c.outbox.items;
}

-- the fields are in range, each closing has a place and a number left, and what waits has its own frames
pub record IsInside (c : Inside) : Type 0 where
  pub host : IsHost c.host
  pub run : IsRun c.run
  pub tries : IsWithin 1 10 c.tries
  pub places : length c.held + length c.outbox.items ≤ 4096
  pub numbers : c.numbers + length c.held ≤ 4294967295
  pub held : AllHeld c.held
  pub outbox : AllByRecursion IsFramed c.outbox.items
