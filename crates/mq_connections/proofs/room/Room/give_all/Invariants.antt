use Rattle.std.proofs.Common.{drop, ℕ, ◌≡◌}
use Rattle.mq_ledger.specs.Legal.{Book}
use Rattle.mq_connections.specs.Gained.{Callers}
use Rattle.mq_connections.specs.Asking.{Left}
use Rattle.mq_connections.specs.Sessions.{Outside, held}
use Rattle.mq_connections.specs.Wires.{Wire}
use Rattle.mq_connections.proofs.room.Room.give_all.Given as goal

-- those from this place on are left
abbrev pub invariant-loop-at : goal.invariant-loop-at
invariant-loop-at l = record {
  last : l.self.last ≡ l.fn.self.last;
  goes : (who : Callers) (old : Outside) (wires : ℕ → Wire) (end : Book) → Left who old wires l.fn.self.last (held l.fn.self.opened) l.numbers l.replies end
      → Left who old wires l.self.last (held l.self.opened) (drop l.at l.numbers) (drop l.at l.replies) end;
}
