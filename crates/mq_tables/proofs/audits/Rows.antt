-- Rows that are given to the books, one after another.
use Rattle.std.proofs.Common.{◌≡◌, ◌⊎◌, inl, inr, List, [], ◌∷◌, ◌++◌, map, append-nil, append_assoc, IsSome, true≢false, Ok, Err, Result, refl, sym, ap₂, subst, ◌∙◌}
use Rattle.mq_tables.proofs.Words.{CommitsShowing, Compiled, Database, Error, FailsToQuery, HasCleanDisk, Held, IsRolledBack, IsSourceOf, IsUnchanged, Row, Schema, Shown, ShowsRows, State, Survives, reads_listing, state, unchanged_then, understood}
use Rattle.sqlite.specs.Given.{Returns, HasGiven, HasBegun}
use Rattle.sqlite.specs.Clock.{timed}
use Rattle.std.specs.Prelude.{OnOk, OnErr, IsTrue}
use Rattle.std.proofs.lemmas.List.{map-append}
use Rattle.sqlite.proofs.StateLemmas.{survives_weaker}
use Rattle.sqlite_resolve.specs.declared.error.CompileError.{CompileError}
use Rattle.sqlite_trees.specs.declared.store.Store as store
use Rattle.mq_rows.specs.declared.audited.LimitFigures.{LimitFigures}
use Rattle.mq_rows.specs.declared.audited.TransactionFigures.{TransactionFigures}
use Rattle.mq_rows.specs.declared.audited.UsageFigures.{UsageFigures}
use Rattle.mq_rows.specs.declared.auditing.Books.{Books}
use Rattle.mq_rows.specs.Books.{AreBooksOf, no_rows, with_usage, with_transaction, with_limit}
use Rattle.mq_tables.specs.declared.figures.Table.{Table}
use Rattle.mq_tables.specs.declared.figures.Table.TheVariants.{Usage, Transactions, Limits}
use Rattle.mq_tables.specs.Figures.{HasFigures, IsUsageRead, IsTransactionRead, IsLimitRead, usage_cells, transaction_cells, limit_cells, usage_columns, transaction_columns, limit_columns, Adds, Took, AreGiven, text_of}
use Rattle.mq_tables.proofs.Chain.{survives_both}
use Rattle.mq_tables.proofs.audits.Reads.{usage_text, usage_select, usage_shown, usage_read, usage_more, transactions_text, transactions_select, transactions_shown, transactions_read, transactions_more, limits_text, limits_select, limits_shown, limits_read, limits_more}
use Rattle.mq_tables.specs.Reading.{Spares}
use Rattle.mq_tables.proofs.SelectShape.{bare}
use Rattle.mq_tables.proofs.Spared.{AlwaysBare, commits_none, not_shown, shown_same, spared}

pub always_bare : (t : Table) → AlwaysBare (text_of t)
always_bare Usage = bare usage_select
always_bare Transactions = bare transactions_select
always_bare Limits = bare limits_select

-- a query begins

returns_none : (t : Table) (s : Schema) (r : Result Compiled CompileError) → understood s (text_of t) ≡ r → Returns r → ⊥
returns_none t s (Ok c) is some = true≢false (sym (subst IsSome (always_bare t s c is).0 some))
returns_none t s (Err e) is some = some

pub begun : {S : Type 0} (g : store.Ghosts S) (t : Table) (old new : Held S) → HasBegun g (text_of t) [] old new → HasGiven g (text_of t) [] new [] × IsUnchanged (state g old) (state g new)
begun g t old new (inl h) = h
begun g t old new (inr h) = absurd (returns_none t old.schema _ refl h.0)

pub survives : (t : Table) (old new : State) → Survives old new (CommitsShowing (text_of t) [] old) → Survives old new (λ _. ⊥)
survives t old new = survives_weaker old new _ _ (λ _ db. commits_none (text_of t) (always_bare t) old new db)

-- what is shown after nothing was changed was shown before

pub shown_before : (t : Table) (a b c : State) (rows : List Row) → IsUnchanged a b → Shown (text_of t) [] b c rows → Shown (text_of t) [] a c rows
unfolding Shown
shown_before t a b c rows same h =
    let none = (always_bare t b.now.schema h.0 h.1.is).0 in
    let full = timed [] h.0.formats h.1.now in
    let it = subst (ShowsRows b c (text_of t) h.0 full rows) none h.2 in
    let now = same.0.now_is in (
      h.0,
      record { is = subst (λ (d : Database). understood d.schema (text_of t) ≡ Ok h.0) now h.1.is; whole = h.1.whole; given = h.1.given; now = h.1.now },
      subst (ShowsRows a c (text_of t) h.0 full rows) (sym none) (it.0, subst (λ (d : Database). IsSourceOf (reads_listing d.schema (text_of t)) d it.0) now it.1, it.2, unchanged_then a b c same it.3),
    )

pub not_asked : (t : Table) (old new : State) (e : Error) → FailsToQuery (text_of t) [] old new e → IsUnchanged old new ⊎ IsRolledBack old new
not_asked t old new = not_shown (text_of t) (always_bare t) old new

pub unchanged : (t : Table) (old new : State) (rows : List Row) → Shown (text_of t) [] old new rows → IsUnchanged old new
unchanged t old new rows = shown_same (text_of t) (always_bare t) old new rows

-- where a reading ended after others that changed nothing

pub left_after : (a b c : State) → IsUnchanged a b → IsUnchanged b c ⊎ IsRolledBack b c → IsUnchanged a c ⊎ IsRolledBack a c
left_after a b c one (inl two) = inl (unchanged_then a b c one two)
left_after a b c one (inr two) = inr (record {
  was_open = λ o. one.0.was_open;
  undone = λ o. let u = two.undone o in (u.0 ∙ one.0.committed_is, u.1 ∙ one.0.committed_is);
  autocommit = two.autocommit;
  unmarked = two.unmarked;
  counts = record { changes = two.counts.changes ∙ one.1.changes; last_rowid = two.counts.last_rowid ∙ one.1.last_rowid };
})

pub spares : (old new : State) → (IsTrue old.is_open → old.now ≡ old.committed) → IsUnchanged old new ⊎ IsRolledBack old new → Survives old new (λ _. ⊥) → HasCleanDisk new → Spares old new
spares old new settled left lasts clean = spared (text_of Usage) (always_bare Usage) old new settled left (λ db may. elim (lasts.crash clean db may) [ inl before ↦ before | inr none ↦ absurd none ])

-- what was given

pub took_none : (t : Table) (b : Books) → Took t [] b b
took_none Usage b = ([], refl, λ zone default f are. subst (λ us. AreBooksOf zone default (record f { usage = us }) b) (sym (append-nil f.usage)) are)
took_none Transactions b = ([], refl, λ zone default f are. subst (λ ts. AreBooksOf zone default (record f { transactions = ts }) b) (sym (append-nil f.transactions)) are)
took_none Limits b = ([], refl, λ zone default f are. subst (λ cs. AreBooksOf zone default (record f { limits = cs }) b) (sym (append-nil f.limits)) are)

-- one row more was read of the columns
read_more : {X : Type 0} (columns : Row → Row) (cells : X → Row) (rows : List Row) (row : Row) (read : List X) (x : X) → map columns rows ≡ map cells read → columns row ≡ cells x → map columns (rows ++ row ∷ []) ≡ map cells (read ++ x ∷ [])
read_more columns cells rows row read x same is = map-append columns rows (row ∷ []) ∙ ap₂ (λ xs y. xs ++ y ∷ []) same is ∙ sym (map-append cells read (x ∷ []))

pub took_usage : (row : Row) (u : UsageFigures) → IsUsageRead row u → (old new : Books) → Adds (λ f. with_usage f u) old new → (rows : List Row) (first : Books) → Took Usage rows first old → Took Usage (rows ++ row ∷ []) first new
took_usage row u is old new adds rows first took = (
  took.0 ++ u ∷ [],
  read_more usage_columns usage_cells rows row took.0 u took.1 (usage_more row u is),
  λ zone default f are. subst (λ us. AreBooksOf zone default (record f { usage = us }) new) (append_assoc f.usage took.0 (u ∷ [])) (adds zone default (record f { usage = f.usage ++ took.0 }) (took.2 zone default f are)),
)

pub took_transaction : (row : Row) (t : TransactionFigures) → IsTransactionRead row t → (old new : Books) → Adds (λ f. with_transaction f t) old new → (rows : List Row) (first : Books) → Took Transactions rows first old
    → Took Transactions (rows ++ row ∷ []) first new
took_transaction row t is old new adds rows first took = (
  took.0 ++ t ∷ [],
  read_more transaction_columns transaction_cells rows row took.0 t took.1 (transactions_more row t is),
  λ zone default f are. subst (λ ts. AreBooksOf zone default (record f { transactions = ts }) new) (append_assoc f.transactions took.0 (t ∷ [])) (adds zone default (record f { transactions = f.transactions ++ took.0 }) (took.2 zone default f are)),
)

pub took_limit : (row : Row) (c : LimitFigures) → IsLimitRead row c → (old new : Books) → Adds (λ f. with_limit f c) old new → (rows : List Row) (first : Books) → Took Limits rows first old → Took Limits (rows ++ row ∷ []) first new
took_limit row c is old new adds rows first took = (
  took.0 ++ c ∷ [],
  read_more limit_columns limit_cells rows row took.0 c took.1 (limits_more row c is),
  λ zone default f are. subst (λ cs. AreBooksOf zone default (record f { limits = cs }) new) (append_assoc f.limits took.0 (c ∷ [])) (adds zone default (record f { limits = f.limits ++ took.0 }) (took.2 zone default f are)),
)

-- all three, in turn
pub all_given : (s t u v : State) (a b c d : Books) (xs ys zs : List Row) → Shown usage_text [] s t xs → Took Usage xs a b → Shown transactions_text [] t u ys → Took Transactions ys b c → Shown limits_text [] u v zs → Took Limits zs c d
    → IsUnchanged s v × AreGiven s.now a d
all_given s t u v a b c d xs ys zs one xs' two ys' three zs' =
    let first = unchanged Usage s t xs one in
    let both = unchanged_then s t u first (unchanged Transactions t u ys two) in (
      unchanged_then s u v both (unchanged Limits u v zs three),
      λ f has zone default are.
          let later = subst (λ db. HasFigures db f) (sym first.0.now_is) has in
          let last = subst (λ db. HasFigures db f) (sym both.0.now_is) has in (
            record { usage = xs'.0; transactions = ys'.0; limits = zs'.0 },
            record {
              usage = usage_read xs f xs'.0 (usage_shown s t xs one f has) xs'.1;
              transactions = transactions_read ys f ys'.0 (transactions_shown t u ys two f later) ys'.1;
              limits = limits_read zs f zs'.0 (limits_shown u v zs three f last) zs'.1;
            },
            zs'.2 zone default (record { usage = xs'.0; transactions = ys'.0; limits = [] }) (ys'.2 zone default (record { usage = xs'.0; transactions = []; limits = [] }) (xs'.2 zone default no_rows are)),
          ),
    )

pub after_either : {X E : Type 0} {U R : Type 0} (r : Result X E) → OnOk r U → OnErr r (U ⊎ R) → U ⊎ R
after_either (Ok x) ok err = inl ok
after_either (Err e) ok err = err

pub ruleset calls = (survives_both, left_after, unchanged)
