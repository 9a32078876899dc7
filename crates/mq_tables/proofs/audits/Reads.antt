-- What the queries for an audit answer of the figures.
use Rattle.std.proofs.Common.{◌≡◌, pos, ℕ, List, [], ◌∷◌, codes, map, Ok, Err, Result, refl, sym, ap, subst, ◌∙◌}
use Rattle.mq_tables.proofs.Words.{Blob, Error, Global, IfOk, Int, IsPermutation, Row, Shown, State, Vec, everything, listing_schema, map-map, same_name}
use Rattle.mq_rows.specs.declared.audited.LimitFigures.{LimitFigures}
use Rattle.mq_rows.specs.declared.audited.TransactionFigures.{TransactionFigures}
use Rattle.mq_rows.specs.declared.audited.UsageFigures.{UsageFigures}
use Rattle.mq_rows.specs.Audit.{Figures}
use Rattle.mq_tables.specs.Figures.{HasFigures, WholeTransaction, whole_cells, usage_cells, transaction_cells, limit_cells, IsUsageRead, IsTransactionRead, IsLimitRead, usage_columns, transaction_columns, limit_columns}
use Rattle.mq_tables.specs.Tables.{trans_table, usage_table, ceiling_table}
use Rattle.mq_tables.proofs.Finds.{all_pass, all_read}
use Rattle.mq_tables.proofs.SelectShape.{IsSelect, unordered}
use Rattle.mq_tables.proofs.Selected.{shows_all}
use Rattle.mq_tables.proofs.TermShape.{field}

-- usage

abbrev pub usage_text : List ℕ
usage_text = codes "SELECT login, day, settled, reserved FROM usage"

pub usage_select : IsSelect usage_text (unordered usage_table
    (field (codes "login") 0 ∷ field (codes "day") 1 ∷ field (codes "settled") 2 ∷ field (codes "reserved") 3 ∷ [])
    [])
unfolding everything listing_schema same_name
usage_select = record { parsed = refl; statement = refl; timeless = refl; unlisted = refl; known = λ t. refl; short = refl; accepted = λ s t low found. rw (low, found) }

pub usage_shown : (old new : State) (rows : List Row) → Shown usage_text [] old new rows → (f : Figures) → HasFigures old.now f → IsPermutation (map usage_cells f.usage) rows
usage_shown old new rows h f l =
    let all = shows_all usage_cells usage_select refl [] old new l.tables.usage_tree l.tables.usage rows h f.usage refl l.holds_usage in
    subst (λ xs. IsPermutation (map usage_cells xs) rows) (all_pass f.usage) all

abbrev usage_back : Row → UsageFigures
usage_back (Blob l ∷ Int d ∷ Int s ∷ Int r ∷ []) = record { pair = record { login = l; day = d }; settled = s; reserved = r }
usage_back _ = record { pair = record { login = []; day = pos 0 }; settled = pos 0; reserved = pos 0 }

pub usage_read : (rows : List Row) (f : Figures) (read : List UsageFigures) → IsPermutation (map usage_cells f.usage) rows → map usage_columns rows ≡ map usage_cells read → IsPermutation f.usage read
usage_read rows f read = all_read usage_cells usage_columns usage_back (λ x. refl) (λ x. refl) rows f.usage read

pub usage_more : (row : Row) (x : UsageFigures) → IsUsageRead row x → usage_columns row ≡ usage_cells x
usage_more row x is = λ i. is.login i ∷ is.day i ∷ is.settled i ∷ is.reserved i ∷ []

-- trans

abbrev pub transactions_text : List ℕ
transactions_text = codes "SELECT login, day, moment, held, settled FROM trans"

pub transactions_select : IsSelect transactions_text (unordered trans_table
    (field (codes "login") 3 ∷ field (codes "day") 5 ∷ field (codes "moment") 4 ∷ field (codes "held") 6 ∷ field (codes "settled") 7 ∷ [])
    [])
unfolding everything listing_schema same_name
transactions_select = record { parsed = refl; statement = refl; timeless = refl; unlisted = refl; known = λ t. refl; short = refl; accepted = λ s t low found. rw (low, found) }

pub transactions_shown : (old new : State) (rows : List Row) → Shown transactions_text [] old new rows → (f : Figures) → HasFigures old.now f → IsPermutation (map transaction_cells f.transactions) rows
transactions_shown old new rows h f l =
    let all = shows_all whole_cells transactions_select refl [] old new l.tables.trans_tree l.tables.trans rows h l.whole refl l.holds_trans in
    let kept : IsPermutation (map (λ (w : WholeTransaction). transaction_cells w.figures) l.whole) rows = subst (λ ws. IsPermutation (map (λ (w : WholeTransaction). transaction_cells w.figures) ws) rows) (all_pass l.whole) all in
    let same : map (λ (w : WholeTransaction). transaction_cells w.figures) l.whole ≡ map transaction_cells f.transactions = sym (map-map transaction_cells (λ (w : WholeTransaction). w.figures) l.whole) ∙ ap (map transaction_cells) (sym l.transactions) in
    subst (λ xs. IsPermutation xs rows) same kept

abbrev transactions_back : Row → TransactionFigures
transactions_back (Blob l ∷ Int d ∷ Int m ∷ Int h ∷ Int s ∷ []) = record { pair = record { login = l; day = d }; moment = m; held = h; settled = s }
transactions_back _ = record { pair = record { login = []; day = pos 0 }; moment = pos 0; held = pos 0; settled = pos 0 }

pub transactions_read : (rows : List Row) (f : Figures) (read : List TransactionFigures) → IsPermutation (map transaction_cells f.transactions) rows → map transaction_columns rows ≡ map transaction_cells read → IsPermutation f.transactions read
transactions_read rows f read = all_read transaction_cells transaction_columns transactions_back (λ x. refl) (λ x. refl) rows f.transactions read

pub transactions_more : (row : Row) (x : TransactionFigures) → IsTransactionRead row x → transaction_columns row ≡ transaction_cells x
transactions_more row x is = λ i. is.login i ∷ is.day i ∷ is.moment i ∷ is.held i ∷ is.settled i ∷ []

-- limits

abbrev pub limits_text : List ℕ
limits_text = codes "SELECT login, day, cap FROM ceiling"

pub limits_select : IsSelect limits_text (unordered ceiling_table
    (field (codes "login") 0 ∷ field (codes "day") 1 ∷ field (codes "cap") 2 ∷ [])
    [])
unfolding everything listing_schema same_name
limits_select = record { parsed = refl; statement = refl; timeless = refl; unlisted = refl; known = λ t. refl; short = refl; accepted = λ s t low found. rw (low, found) }

pub limits_shown : (old new : State) (rows : List Row) → Shown limits_text [] old new rows → (f : Figures) → HasFigures old.now f → IsPermutation (map limit_cells f.limits) rows
limits_shown old new rows h f l =
    let all = shows_all limit_cells limits_select refl [] old new l.tables.ceiling_tree l.tables.ceiling rows h f.limits refl l.holds_ceiling in
    subst (λ xs. IsPermutation (map limit_cells xs) rows) (all_pass f.limits) all

abbrev limits_back : Row → LimitFigures
limits_back (Blob l ∷ Int d ∷ Int c ∷ []) = record { pair = record { login = l; day = d }; cap = c }
limits_back _ = record { pair = record { login = []; day = pos 0 }; cap = pos 0 }

pub limits_read : (rows : List Row) (f : Figures) (read : List LimitFigures) → IsPermutation (map limit_cells f.limits) rows → map limit_columns rows ≡ map limit_cells read → IsPermutation f.limits read
limits_read rows f read = all_read limit_cells limit_columns limits_back (λ x. refl) (λ x. refl) rows f.limits read

pub limits_more : (row : Row) (x : LimitFigures) → IsLimitRead row x → limit_columns row ≡ limit_cells x
limits_more row x is = λ i. is.login i ∷ is.day i ∷ is.cap i ∷ []

-- the same where the rows were read at once
pub limits_found : (old new : State) (outcome : Result (Vec Row Global) Error) → IfOk outcome (λ rows. Shown limits_text [] old new rows.items)
    → IfOk outcome (λ rows. (f : Figures) → HasFigures old.now f → IsPermutation (map limit_cells f.limits) rows.items)
limits_found old new (Ok rows) h = limits_shown old new rows.items h
limits_found old new (Err e) h = tt

pub limits_of_rows : (Held : Figures → Type 0) (rows : List Row) (outcome : Result (Vec LimitFigures Global) Error) → ((f : Figures) → Held f → IsPermutation (map limit_cells f.limits) rows)
    → IfOk outcome (λ read. map limit_columns rows ≡ map limit_cells read.items) → IfOk outcome (λ read. (f : Figures) → Held f → IsPermutation f.limits read.items)
limits_of_rows Held rows (Ok read) same is = λ f l. limits_read rows f read.items (same f l) is
limits_of_rows Held rows (Err e) same is = tt
