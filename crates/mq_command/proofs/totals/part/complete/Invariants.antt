use Rattle.mq_command.proofs.Words.{All, AreCompleted, IsRow, length, take, ◌≡◌}
use Rattle.mq_command.proofs.totals.part.complete.Given as goal

-- a row of each login so far
abbrev pub invariant-loop-login : goal.invariant-loop-login
invariant-loop-login g l = record {
  done : AreCompleted l.day l.listed (g.L.Link.told l.initial.link) (take l.login-index l.logins) (g.L.Link.told l.link) l.rows.items;
  in_range : All IsRow l.rows.items;
  counted : length l.rows.items ≡ l.login-index;
}
