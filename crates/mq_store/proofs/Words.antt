-- The names from below that many proofs cite, passed on from one place. It declares nothing.
pub use Rattle.std.proofs.lemmas.Bool.{cases_Bool, or_cases}
pub use Rattle.std.proofs.lemmas.Bool.Decides.{Decides-eqb, nat_tests}
pub use Rattle.std.proofs.lemmas.List.{drop_all, drop_more, get_or_default, map-append, take-append-le}
pub use Rattle.std.proofs.lemmas.List.Elements.{All-from_recursion, All-push, recursion_from_All}
pub use Rattle.std.proofs.lemmas.Result.{IfOk-weaker, on_ok_weaker}
pub use Rattle.std.specs.List.{AllByRecursion, cons_option, enumerate_from, list_any}
pub use Rattle.sqlite_trees.proofs.ListLemmas.{filter_none, map-map}
pub use Rattle.sqlite_rules.proofs.ListLemmas.{all_has}
pub use Rattle.sqlite_rules.specs.Lists.{Has}
pub use Rattle.sqlite.proofs.Callers.{memory_is_clean, survives_begin}
pub use Rattle.sqlite.proofs.StateLemmas.{survives_then}
pub use Rattle.sqlite.specs.Does.{lacks_sequence}
pub use Rattle.sqlite.specs.Effect.{Database, IsDatabase}
pub use Rattle.sqlite.specs.Held.{Held, state}
pub use Rattle.sqlite.specs.Order.{Row, column}
pub use Rattle.sqlite.specs.Schema.{Schema}
pub use Rattle.sqlite.specs.State.{HasCleanDisk, State, Survives}
pub use Rattle.sqlite.specs.Steps.{over_memory}
pub use Rattle.sqlite.specs.Tree.{Trees}
pub use Rattle.mq_lemmas.proofs.Booleans.{and_false, neither, not_false, or_first}
pub use Rattle.mq_lemmas.proofs.Numbers.{le_is, le_of, lt_of, number_itself, other_number}
pub use Rattle.mq_lemmas.proofs.Options.{not_some, on_err, option_cases}
pub use Rattle.mq_request.specs.Range.{IsAmount, IsLogin, IsReply, IsRequest, IsRow}
pub use Rattle.mq_request.specs.Same.{same_id, same_text}
pub use Rattle.mq_request.specs.declared.message.Id.{Id}
pub use Rattle.mq_request.specs.declared.message.Reply.{Reply}
pub use Rattle.mq_request.specs.declared.message.Reply.TheVariants.{Granted, Retry}
pub use Rattle.mq_request.specs.declared.message.Request.{Request}
pub use Rattle.mq_request.specs.declared.message.Request.TheVariants.{Limit, Release, Reserve, Retire, Settle, Usage}
pub use Rattle.mq_request.specs.declared.usage.UsageRow.{UsageRow}
pub use Rattle.mq_frame.specs.Reading.{request_at}
pub use Rattle.mq_ledger.specs.Answer.{answer, appended, build, history_of, known_by, reply, stored, with_arrival, with_arrival_by}
pub use Rattle.mq_ledger.specs.Arrivals.{first, id_of, is_below, is_first, is_first_by}
pub use Rattle.mq_ledger.specs.Day.{ByOffset, ByRule, IsZone, day_of, minutes_in, rule_in}
pub use Rattle.mq_ledger.specs.History.{Transaction, named, requests, reserved, settled, transaction, moment_of}
pub use Rattle.mq_ledger.specs.Legal.{Book, IsLegal, IsLegalBook}
pub use Rattle.mq_ledger.specs.Page.{has_reserve, is_login, login_on, row}
pub use Rattle.mq_ledger.specs.declared.entry.Entry.{Entry}
pub use Rattle.mq_ledger.specs.declared.zone.Zone.{Zone}
pub use Rattle.mq_forget.specs.Remembered.{day_named, is_set, remembered}
pub use Rattle.mq_rows.specs.Audit.{Figures, IsAudited, is_right, pairs}
pub use Rattle.mq_rows.specs.Figured.{figures, limit_figures, transaction_figures, usage_figures}
pub use Rattle.mq_rows.specs.Listing.{IsNext, are_amounts, behind, settled_by}
pub use Rattle.mq_rows.specs.Plan.{IsOneIn, Leads, LeadsAll, abandoned_row, cap_by, cleared, floor_by, freed, is_among, is_open_in, reserved_by, same_day, same_from, same_host, same_key, set_limit, set_run, set_transaction, set_usage}
pub use Rattle.mq_rows.specs.Rows.{answer_row, answer_rows, is_host, is_transaction, is_usage, is_version, limit_row, number_of, older_version, retired_row, transaction_of, transaction_row, usage_row}
pub use Rattle.mq_rows.specs.Tables.{AreLimits, AreRetired, AreRows, AreTransactions, AreUsage, Tables, those}
pub use Rattle.mq_rows.specs.Written.{MovesLead}
pub use Rattle.mq_rows.specs.declared.audited.Audit.{Audit}
pub use Rattle.mq_rows.specs.declared.audited.Audit.TheVariants.{Sound, Wrong}
pub use Rattle.mq_rows.specs.declared.plan.Plan.{Plan}
pub use Rattle.mq_rows.specs.declared.plan.Runs.{Runs}
pub use Rattle.mq_rows.specs.declared.plan.Write.{Write}
pub use Rattle.mq_rows.specs.declared.plan.Write.TheVariants.{Insert, Keep, Update}
pub use Rattle.mq_rows.specs.declared.record.AnswerRecord.{AnswerRecord}
pub use Rattle.mq_rows.specs.declared.record.RetiredRecord.{RetiredRecord}
pub use Rattle.mq_rows.specs.declared.record.SettingRecord.{SettingRecord}
pub use Rattle.mq_rows.specs.declared.record.TransactionRecord.{TransactionRecord}
pub use Rattle.mq_rows.specs.declared.record.UsageRecord.{UsageRecord}
pub use Rattle.mq_tables.proofs.Chain.{leaves_both, was_clean}
pub use Rattle.mq_tables.specs.Figures.{HasAuditTables, HasFigures, WholeTransaction, limit_cells, usage_cells, whole_cells}
pub use Rattle.mq_tables.specs.Indexing.{AreIndexed, IsIndexed, lacks_index}
pub use Rattle.mq_tables.specs.Inside.{CommitsNothing}
pub use Rattle.mq_tables.specs.Ledger.{HasLedger, HasRule, Since, setting_in}
pub use Rattle.mq_tables.specs.Making.{AreMadeOver, AreUnnamed, IsMade, IsMadeOver, IsMadeOverBy, has_later_table, new_rows}
pub use Rattle.mq_tables.specs.Migrating.{AreMigrated, IsMigrated, migrated}
pub use Rattle.mq_tables.specs.Reading.{AreFloorsRead, IsRuleRead, Spares}
pub use Rattle.mq_tables.specs.Records.{AreNumbered, IsOneOf, answer_fields, bit}
pub use Rattle.mq_tables.specs.Settings.{IsRuleOf, SettingRow, shown_of}
pub use Rattle.mq_tables.specs.Updates.{Appends, CountsArrivals, LeadsWhereKeyed, WritesFloor, WritesLimit, WritesTransaction, WritesUsage}
pub use Rattle.mq_tables.specs.declared.setting.Setting.{Setting}
