use Rattle.std.proofs.Common.{Some, ap, subst, sym, ◌∙◌, ◌≡◌}
use Rattle.mq_store.proofs.Words.{IsAmount, IsRequest, UsageRow, cap_by, day_of, recursion_from_All, reserved, reserved_by, settled, settled_by, usage_row}
use Rattle.mq_ledger.specs.Limits.{cap}
use Rattle.mq_store.proofs.InRange.{amounts, same_amounts, reserved_login, has_row, row_found}
use Rattle.mq_store.proofs.laws.reads_are_in_range.Goals as goal

pub returns-clause-usage : goal.returns-clause-usage
returns-clause-usage c = λ zone default H db b l d u g one governs.
    let day = day_of zone in
    let fit = c.amounts_in_range.ensures.used day default H l d b.legal.default (c.replies_in_range.ensures.days zone b.legal.zone) b.legal.legal in
    same_amounts l l d d (settled_by u) (reserved_by u) (cap_by default g) (settled day H l d) (reserved day H l d) (cap default H l d)
    (c.reads_are_answered.ensures.usage zone default H db b l d u g one governs) fit.2 fit.1 fit.3

pub returns-clause-row : goal.returns-clause-row
returns-clause-row c = λ zone default H db b d after u g next governs.
    let day = day_of zone in
    let fit = c.amounts_in_range.ensures.used day default H u.login d b.legal.default (c.replies_in_range.ensures.days zone b.legal.zone) b.legal.legal in
    let same = c.reads_are_answered.ensures.row zone default H db b d after u g next governs in
    amounts u.settled u.reserved (cap_by default g) (subst IsAmount (sym (ap (λ (r : UsageRow). r.settled) same)) fit.2)
    (subst IsAmount (sym (ap (λ (r : UsageRow). r.reserved) same)) fit.1) (subst IsAmount (sym (ap (λ (r : UsageRow). r.cap) same)) fit.3)

pub returns-clause-login : goal.returns-clause-login
returns-clause-login c = λ zone default H db b d after u next.
    let day = day_of zone in
    let rows = b.has.tables.usage in
    let found = row_found d after rows u (c.rows_by_key.ensures.only_usage day H rows u.login d b.has.rows.usage) next in
    let row : Some u ≡ usage_row day H u.login d = found ∙ c.rows_by_key.ensures.usage day H rows u.login d b.has.rows.usage in
    reserved_login day H d u.login (recursion_from_All (λ e. IsRequest e.request) H b.legal.legal.range) (has_row day H u.login d u row)
