use Rattle.std.proofs.Common.{List, Option, ap, sym, ◌∙◌}
use Rattle.mq_store.proofs.Words.{RetiredRecord, floor_by, is_host, retired_row}
use Rattle.mq_store.proofs.KeyedRows.{found_once}
use Rattle.mq_store.proofs.laws.floors_are_known.Goals as goal

pub returns : goal.returns
returns c = λ zone default H db b h found one.
    let rows : List RetiredRecord = b.has.tables.retired in
    let same = found_once (is_host h) rows (retired_row H h) found (b.has.rows.retired h) one in
    ap (λ (o : Option RetiredRecord). floor_by o) (same ∙ sym (c.rows_by_key.ensures.retired H rows h b.has.rows.retired)) ∙ c.floors_are_found.ensures.floor H rows h b.has.rows.retired
