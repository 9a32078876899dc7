-- The names from below that many proofs cite, passed on from one place. It declares nothing.
pub use Rattle.std.proofs.Math.ListN.{set}
pub use Rattle.std.proofs.lemmas.Bool.Decides.{nat_tests}
pub use Rattle.std.proofs.lemmas.Int.{ints}
pub use Rattle.std.proofs.lemmas.List.{get_or-map, length-map, map-append, map-set}
pub use Rattle.std.proofs.lemmas.List.Elements.{All-from_recursion, All-head, All-tail, recursion_from_All}
pub use Rattle.std.proofs.lemmas.List.Sorted.{IsPermutation-append_comm, IsPermutation-append_left, IsPermutation-cons, IsPermutation-keeps, IsPermutation-refl, IsPermutation-swap, IsPermutation-sym, IsPermutation-trans, sum_by_pushed}
pub use Rattle.std.proofs.lemmas.List.Sums.{sum_by-cons}
pub use Rattle.std.specs.BTreeMap.{get, keys}
pub use Rattle.std.specs.Cmp.{signed_Decides, tied_itself, tied_then, upto}
pub use Rattle.std.specs.Cmp.Lexicographic.{nat_list_eq_equiv, slice_cmp, texts_ties}
pub use Rattle.std.specs.List.{AllByRecursion, enumerate_from, filter_map, list_all, list_any, swap}
pub use Rattle.std.specs.Option.{option_or}
pub use Rattle.std.specs.Ordering.{ordering_reverse, ordering_then}
pub use Rattle.std.specs.declared.cmp.Ordering.{Ordering}
pub use Rattle.std.specs.declared.cmp.Ordering.TheVariants.{Equal, Greater, Less}
pub use Rattle.sqlite_trees.proofs.ListLemmas.{IsPermutation-filter, all-permutation, all_weaker, filter_all, filter_same, all_both, all_from_map, filter_none}
pub use Rattle.mq_lemmas.proofs.Booleans.{and_false, both_parts, either, first_so, is_not, neither_first, neither_so, or_false, or_second, or_true, second_so}
pub use Rattle.mq_lemmas.proofs.Lists.{In, all_at, all_of, empty, found_passes, weaker, all_filter}
pub use Rattle.mq_lemmas.proofs.Numbers.{if_zero, le_is, le_of, le_or_lt, number_is, number_itself}
pub use Rattle.mq_lemmas.proofs.Options.{option_cases}
pub use Rattle.mq_request.proofs.Alike.{id_is, text_is, text_itself}
pub use Rattle.mq_request.specs.Range.{IsId, IsMoment, IsReply, IsRequest}
pub use Rattle.mq_request.specs.Same.{same_id, same_request, same_text}
pub use Rattle.mq_request.specs.declared.message.Id.{Id}
pub use Rattle.mq_request.specs.declared.message.Reply.{Reply}
pub use Rattle.mq_request.specs.declared.message.Reply.TheVariants.{Closed, Conflict, Granted, LimitSet, Mismatch, Over, Released, Settled, TooMany, Usage as UsageReply}
pub use Rattle.mq_request.specs.declared.message.Request.{Request}
pub use Rattle.mq_request.specs.declared.message.Request.TheVariants.{Limit, List as ListRequest, Release, Reserve, Retire, Settle, Usage}
pub use Rattle.mq_frame.specs.Reading.{request_at}
pub use Rattle.mq_frame.specs.Spelling.{SpellsReply, reply_body, request_body}
pub use Rattle.mq_ledger.proofs.Ranges.{id_range}
pub use Rattle.mq_ledger.proofs.Transactions.{entry}
pub use Rattle.mq_ledger.specs.Answer.{answer, appended, build, granted_or_full, if_open, reply, set_or_over, settled_or_too_many, stored, with_arrival}
pub use Rattle.mq_ledger.specs.Arrivals.{floor, floor as floor_of, greater, has_id, id_of, is_below, is_id, kept_with, raised}
pub use Rattle.mq_ledger.specs.Day.{day_of, minutes_in, rule_in}
pub use Rattle.mq_ledger.specs.History.{Transaction, agrees, closed, closes, concerns, counted, ended, gained, granted, held, is_at, is_of, named, requests, reserved, retires, same_transaction, settled, settled_in, settles, transaction, used, moment_of}
pub use Rattle.mq_ledger.specs.Legal.{Book, IsLegal, IsLegalBook}
pub use Rattle.mq_ledger.specs.Limits.{cap, cap_of, set_cap, sets_from}
pub use Rattle.mq_ledger.specs.Page.{IsAscending, IsLoginPage, below, has_reserve, is_login, login_on}
pub use Rattle.mq_ledger.specs.Suits.{Suits}
pub use Rattle.mq_ledger.specs.Sums.{AreDistinct, HasAllNamed, held_on, is_for, names_for, settled_on}
pub use Rattle.mq_ledger.specs.declared.entry.Entry.{Entry}
pub use Rattle.mq_ledger.specs.declared.zone.Zone.{Zone}
pub use Rattle.mq_rows.specs.Audit.{Figures, IsLeastWrong, are_dated, cap_or, governing, is_later, is_moment_of, is_right, pairs, total, transactions_of}
pub use Rattle.mq_rows.specs.Books.{AreBooksOf, HasCaps, HasPairs, amounts_of, day_or, least_wrong, less_wrong, sums_of, with_row, with_transaction, with_usage}
pub use Rattle.mq_rows.specs.Found.{IsFirstOver, IsFound, IsGoverning, is_due, is_over}
pub use Rattle.mq_rows.specs.Listing.{AreNext, IsNext, IsNextLogin, behind, is_above, settled_by}
pub use Rattle.mq_rows.specs.Pair.{is_before, pair_cmp, pair_cmp_total, same_pair}
pub use Rattle.mq_rows.specs.Plan.{AreToClose, Inserts, IsOneIn, Leads, LeadsAll, Updates, abandoned_row, agrees_with, cap_by, cleared, cleared_in, decided, fits, fits_if_open, floor_by, freed, given_up_by, held_by, is_among, is_closed, is_day_over, is_open_in, key_of, limit_write, may_be_found, moved, moved_or_made, moves, raised_to, reserved_by, reserved_more, retired_write, same_day, same_from, same_host, same_key, set_limit, set_limit_to, set_or_over_by, set_run, set_transaction, set_usage, transaction_write, usage_write, used_by, written}
pub use Rattle.mq_rows.specs.Retiring.{AreMovesOf, CanBeClosed, IsUnretired, is_retire, retire_entry, runs_below}
pub use Rattle.mq_rows.specs.Rows.{IsSetting, answer_of, answer_row, answer_rows, is_host, is_limit, is_transaction, is_usage, limit_row, login_of, number_of, retired_row, transaction_of, transaction_row, usage_row}
pub use Rattle.mq_rows.specs.Tables.{AreLimits, AreRetired, AreRows, AreTransactions, AreUsage, Tables, those}
pub use Rattle.mq_rows.specs.declared.audited.LimitFigures.{LimitFigures}
pub use Rattle.mq_rows.specs.declared.audited.Pair.{Pair}
pub use Rattle.mq_rows.specs.declared.audited.TransactionFigures.{TransactionFigures}
pub use Rattle.mq_rows.specs.declared.audited.UsageFigures.{UsageFigures}
pub use Rattle.mq_rows.specs.declared.books.Amounts.{Amounts}
pub use Rattle.mq_rows.specs.declared.books.Day.{Day}
pub use Rattle.mq_rows.specs.declared.books.Sums.{Sums}
pub use Rattle.mq_rows.specs.declared.plan.FoundRows.{FoundRows}
pub use Rattle.mq_rows.specs.declared.plan.Runs.{Runs}
pub use Rattle.mq_rows.specs.declared.plan.Write.TheVariants.{Insert, Keep, Update}
pub use Rattle.mq_rows.specs.declared.record.AnswerRecord.{AnswerRecord}
pub use Rattle.mq_rows.specs.declared.record.LimitRecord.{LimitRecord}
pub use Rattle.mq_rows.specs.declared.record.RetiredRecord.{RetiredRecord}
pub use Rattle.mq_rows.specs.declared.record.SettingRecord.{SettingRecord}
pub use Rattle.mq_rows.specs.declared.record.TransactionRecord.{TransactionRecord}
pub use Rattle.mq_rows.specs.declared.record.UsageRecord.{UsageRecord}
