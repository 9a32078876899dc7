-- An audit of the rows of a legal history finds each pair right.
use Rattle.std.proofs.Common.{IsPermutation, drop, map, pos, subst, sym, true, ℕ, ◌≡◌}
use Rattle.mq_store.proofs.Words.{AllByRecursion, Audit, Database, Figures, HasFigures, HasLedger, IsAudited, Sound, Tables, TransactionRecord, WholeTransaction, Wrong, Zone, bit, day_of, figures, is_right, limit_cells, limit_figures, map-map, pairs, transaction_figures, usage_cells, usage_figures, whole_cells}
use Rattle.mq_store.specs.Auditing.{IsRightAnswer}
use Rattle.mq_store.proofs.KeyedRows.{contained}

abbrev whole_of : TransactionRecord → WholeTransaction
whole_of t = record { host = t.host; run = pos t.run; txn = pos t.txn; figures = transaction_figures t; closed = pos (bit t.closed) }

-- the typed rows of the tables, as figures
pub has_figures : (db : Database) (t : Tables) → HasLedger db t → HasFigures db (figures t)
has_figures db t l = record {
  tables = record { trans_tree = l.at.trans; usage_tree = l.at.usage; ceiling_tree = l.at.ceiling; trans = l.tables.trans; usage = l.tables.usage; ceiling = l.tables.ceiling };
  whole = map whole_of t.transactions;
  holds_trans = subst (IsPermutation (map (drop 1) (db.trees l.at.trans))) (sym (map-map whole_cells whole_of t.transactions)) l.holds.transactions.same;
  holds_usage = subst (IsPermutation (map (drop 1) (db.trees l.at.usage))) (sym (map-map usage_cells usage_figures t.usage)) l.holds.usage.same;
  holds_ceiling = subst (IsPermutation (map (drop 1) (db.trees l.at.ceiling))) (sym (map-map limit_cells limit_figures t.limits)) l.holds.limits.same;
  transactions = sym (map-map (λ (w : WholeTransaction). w.figures) whole_of t.transactions);
}

-- where each pair is right an audit finds none that is wrong
pub right_by : (zone : Zone) (default : ℕ) (f : Figures) (a : Audit) → AllByRecursion (λ p. is_right (day_of zone) default f p ≡ true) (pairs f) → IsAudited (day_of zone) default f a → IsRightAnswer a
right_by zone default f (Sound days transactions) right is = tt
right_by zone default f (Wrong login day) right is =
    let so = contained (λ q. is_right (day_of zone) default f q ≡ true) (pairs f) _ right is.among in
    absurd (cc (so, is.wrong))
