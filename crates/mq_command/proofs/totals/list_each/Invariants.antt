use Rattle.std.proofs.Common.{vec_capacity, vec_len}
use Rattle.std.specs.Option.{IfSome}
use Rattle.mq_command.proofs.Words.{All, IsListing, ListsPart, is_there, length, list_all, map, true, ◌≡◌, ◌≤◌}
use Rattle.mq_command.proofs.TotalSteps.{AreAskedSo}
use Rattle.mq_command.proofs.totals.list_each.Given as goal

-- the links so far were asked in turn, and there is room for what comes of the others
abbrev pub invariant-loop-i : goal.invariant-loop-i
invariant-loop-i g l = record {
  room : length l.fn.links ≤ vec_capacity l.parts;
  counted : vec_len l.parts ≡ l.i;
  asked : AreAskedSo (λ place. ListsPart l.day) (map g.L.Link.told l.fn.links) (map g.L.Link.told l.links) l.parts.items l.i;
  listing : All (λ part. IfSome part IsListing) l.parts.items;
  quiet : list_all is_there l.parts.items ≡ true → l.errors ≡ l.fn.errors;
}
