-- The names from below that many proofs cite, passed on from one place. It declares nothing.
pub use Rattle.std.proofs.Math.Bool.{and-true}
pub use Rattle.std.proofs.lemmas.Bool.{and_parts, cases_Bool, eq-eqb, eqb-true, le-leb, leb-false, leb-true, lt-leb, lt-ltb, not-true, or_parts}
pub use Rattle.std.proofs.lemmas.Result.{on_ok_weaker}
pub use Rattle.std.proofs.lemmas.List.Sorted.{IsPermutation-cons, IsPermutation-map, IsPermutation-middle, IsPermutation-refl, IsPermutation-sym, IsPermutation-trans, length_permutation}
pub use Rattle.std.proofs.lemmas.Slice.Eq.{bytes_eq-Decides, slice_eq-Decides}
pub use Rattle.std.specs.Cmp.{IsStrictWeakOrder, int_ranks, nat_cmp_is, signed_Decides, unsigned_Decides}
pub use Rattle.std.specs.List.{AllByRecursion, AllZip, list_all, list_any, position_from}
pub use Rattle.std.specs.List.Sorted.{IsPermutation, IsSortedBy}
pub use Rattle.std.specs.Ordering.{MatchOrdering, int_cmp, int_eq, is_ge, is_lt, nat_cmp, ordering_reverse, ordering_then}
pub use Rattle.std.specs.Prelude.{IfErr, IfOk, Vec, is_ok, ⊤}
pub use Rattle.std.specs.declared.alloc.Global.{Global}
pub use Rattle.sqlite.proofs.Callers.{EndsIn, IsPlain, begins_shown, command_of, one_permutation, one_step, reads_as, runs_as, statement_of, unchanged_then}
pub use Rattle.sqlite.specs.Change.{created, next_tree}
pub use Rattle.sqlite.specs.Command.TheVariants.{CreateIndex, CreateTable, Insert, Nothing, Select, Update}
pub use Rattle.sqlite.specs.Does.{Does, OnRows, Tally, WritesRows, lacks_sequence}
pub use Rattle.sqlite.specs.Edit.{Applies, Edit, are_fresh, edit_of, edited, id_in, is_taken, left_by, taken_by, with_rowid}
pub use Rattle.sqlite.specs.Effect.{Database, IsDatabase, RefusesToRead, value_rows}
pub use Rattle.sqlite.specs.Held.{Held, state}
pub use Rattle.sqlite.specs.Listing.{IsSourceOf, if_select, reads_listing}
unfoldable pub use Rattle.sqlite.specs.Listing.{listing_schema, understood}
unfoldable pub use Rattle.sqlite.specs.Ops.{binary, unary}
pub use Rattle.sqlite.specs.Order.{Row, column}
unfoldable pub use Rattle.sqlite.specs.Order.{value_cmp}
pub use Rattle.sqlite.specs.Rowids.TheVariants.{Above, Chosen, Given}
pub use Rattle.sqlite.specs.Rows.{Counts, CountsIn, Gives, Inserts, Task, Written, count_of, higher, rowids_for, sequence, stamped}
pub use Rattle.sqlite.specs.Schema.{Schema}
pub use Rattle.sqlite.specs.State.{Executes, ExecutesInside, FailsToShow, HasCleanDisk, IsNoStatement, IsRolledBack, IsStatement, IsTooLate, IsUnchanged, KeepsCommit, ShowsRows, State, Survives, mode_of, store_error}
unfoldable pub use Rattle.sqlite.specs.State.{CommitsShowing, ExecutesIn, FailsToQuery, IsNotRun, QueriesRow, Shown}
pub use Rattle.sqlite.specs.Table.{Table}
pub use Rattle.sqlite.specs.Term.{Term, col, eval, eval_all, holds, lit, op2, reads_below}
pub use Rattle.sqlite.specs.Tree.{Trees, has_rowid, put_row, rowid, without_rowid}
pub use Rattle.sqlite.specs.declared.error.Error.{Error}
pub use Rattle.sqlite.specs.declared.types.Value.TheVariants.{Blob, Int, Null, Real, Text}
pub use Rattle.sqlite_ast.specs.declared.Expr.{Expr, out-Expr, out-roll-Expr, roll-Expr}
pub use Rattle.sqlite_catalog.specs.Change.{is_used}
pub use Rattle.sqlite_resolve.specs.Compile.{first, is_attached, is_reserved, new_rows, small, with_command}
unfoldable pub use Rattle.sqlite_resolve.specs.Compile.{command, compiled, create_index, create_table, creates, insert, insert_or_abort, meaning, planned, returning, shows, timed, update}
pub use Rattle.sqlite_resolve.specs.Lowering.{Checked, and_then, fresh, max_budget, nothing}
pub use Rattle.sqlite_resolve.specs.Scope.{Context, Name, alias_of, declared}
pub use Rattle.sqlite_resolve.specs.declared.compiled.Compiled.{Compiled}
pub use Rattle.sqlite_rules.specs.Calls.{ids_of}
pub use Rattle.sqlite_rules.proofs.ListLemmas.{all_from, contains_had, has_filtered, has_kept}
pub use Rattle.sqlite_rules.specs.Lists.{Has}
pub use Rattle.sqlite_schema.specs.Names.{column_named, index_named, is_key, place_of, table_named, view_named}
unfoldable pub use Rattle.sqlite_schema.specs.Names.{same_name}
pub use Rattle.sqlite_syntax.specs.declared.statement.Parsed.{Parsed}
unfoldable pub use Rattle.sqlite_tied.specs.Compute.{everything}
pub use Rattle.sqlite_trees.proofs.ListLemmas.{IsPermutation-filter, all-append, all-map, all-permutation, all-slice_get, all_both, all_from_map, all_of, all_weaker, filter-map, filter_all, filter_none, filter_same, map-map}
pub use Rattle.sqlite_typing.specs.Types.{accepts_program}
pub use Rattle.sqlite_value.proofs.OrderLemmas.{value_cmp-Blob, value_cmp-Int, value_cmp_total}
pub use Rattle.mq_request.specs.Same.{same_id, same_text}
pub use Rattle.mq_rows.specs.Rows.{is_host, is_limit, is_transaction, is_usage}
pub use Rattle.mq_rows.specs.Tables.{Tables}
pub use Rattle.mq_rows.specs.declared.record.AnswerRecord.{AnswerRecord}
pub use Rattle.mq_rows.specs.declared.record.LimitRecord.{LimitRecord}
pub use Rattle.mq_rows.specs.declared.record.RetiredRecord.{RetiredRecord}
pub use Rattle.mq_rows.specs.declared.record.TransactionRecord.{TransactionRecord}
pub use Rattle.mq_rows.specs.declared.record.UsageRecord.{UsageRecord}
