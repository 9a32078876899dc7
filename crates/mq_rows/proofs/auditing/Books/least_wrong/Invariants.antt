use Rattle.std.proofs.Common.{◌≡◌, ℕ, map, None}
use Rattle.mq_rows.proofs.Words.{AreBooksOf, Day, Figures, Pair, Zone, day_of, is_right, keys, least_wrong}
use Rattle.mq_rows.proofs.auditing.Books.least_wrong.Given as goal

-- with the pairs that are left, the least of all
abbrev pub invariant-loop-pair : goal.invariant-loop-pair
invariant-loop-pair l =
    (zone : Zone) (default : ℕ) (f : Figures) → AreBooksOf zone default f l.self
    → least_wrong (is_right (day_of zone) default f) l.least (map (λ (e : Pair × Day). e.0) l.pair-iterator) ≡ least_wrong (is_right (day_of zone) default f) None (keys l.self.days)
