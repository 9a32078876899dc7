-- The names that these proofs cite, passed on from one place. It declares nothing.
pub use Rattle.std.proofs.Common.{Bool, Err, List, None, Ok, Option, Result, Some, [], ap, append-nil, append_assoc, arith, cond, drop, false, get_or, if◌then◌else◌, inl, inr, length, map, min, of_calls, refl, replicate, rules, string_bytes, subst, subst₂, suc, sym, take, take-append-drop, true, zero, ℕ, ◌%◌, ◌&&◌, ◌*◌, ◌++◌, ◌+◌, ◌-◌, ◌/◌, ◌<◌, ◌==◌, ◌||◌, ◌∙◌, ◌∷◌, ◌≡◌, ◌≤◌}
pub use Rattle.std.proofs.KnownBytes.{Appends-nil, Appends-trans}
pub use Rattle.std.proofs.lemmas.Bool.{false≢true}
pub use Rattle.std.proofs.lemmas.Bool.Decides.{nat_tests}
pub use Rattle.std.proofs.lemmas.Cmp.{nat_cmp_total}
pub use Rattle.std.proofs.lemmas.Fn.{always_returns_same}
pub use Rattle.std.proofs.lemmas.Iterator.Adapters.{YieldsList-from_vec, items_from_extend}
pub use Rattle.std.proofs.lemmas.List.{drop_more, length_push, take_more}
pub use Rattle.std.proofs.lemmas.List.Concat.{flat_map-append}
pub use Rattle.std.proofs.lemmas.List.Elements.{All-append, All-contains, All-get_or, All-head, All-nil, All-pop, All-push, All-tail}
pub use Rattle.std.proofs.lemmas.List.MinMax.{IsStrictWeakOrder-flip, ranks_by}
pub use Rattle.std.specs.Cmp.{IsStrictWeakOrder}
pub use Rattle.std.specs.Io.KnownBytes.{Appends, Keeps}
pub use Rattle.std.specs.List.{All, flat_map, list_all, list_any, sum_by}
pub use Rattle.std.specs.Ordering.{is_lt, nat_cmp}
pub use Rattle.std.specs.Prelude.{IfOk, MatchResult}
pub use Rattle.std.specs.Result.{IsErrAnd}
pub use Rattle.mq_lemmas.proofs.Lists.{empty}
pub use Rattle.mq_lemmas.proofs.Numbers.{if_zero}
pub use Rattle.mq_lemmas.proofs.Streams.{appends_kept}
pub use Rattle.mq_request.specs.Escaped.{byte_text, digit_text, escaped, is_plain}
pub use Rattle.mq_request.specs.Range.{IsAfter, IsAmount, IsLogin, IsPage as IsPageInRange, IsRow}
pub use Rattle.mq_request.specs.Same.{same_text}
pub use Rattle.mq_request.specs.declared.bounds.TheConstants.{LAST_DAY, LAST_ORDINAL, LAST_RUN}
pub use Rattle.mq_request.specs.declared.message.Id.{Id}
pub use Rattle.mq_request.specs.declared.message.Reply.{Reply}
pub use Rattle.mq_request.specs.declared.message.Request.{Request}
pub use Rattle.mq_request.specs.declared.message.Request.TheVariants.{Release}
pub use Rattle.mq_request.specs.declared.usage.UsageRow.{UsageRow}
pub use Rattle.mq_stream.proofs.Fronts.{front_first, front_later, moves_front}
pub use Rattle.mq_stream.specs.Flow.{AppendsFront}
pub use Rattle.mq_ledger.proofs.Floors.{greater_zero}
pub use Rattle.mq_ledger.specs.Answer.{answer, appended, known_by}
pub use Rattle.mq_ledger.specs.Arrivals.{floor}
pub use Rattle.mq_ledger.specs.History.{closed, closes, freed, granted_in, held, requests, reserved, same_transaction, settled, transaction}
pub use Rattle.mq_ledger.specs.declared.entry.Entry.{Entry}
pub use Rattle.mq_lemmas.specs.Told.{Tells}
pub use Rattle.mq_link.specs.Link.{Brings}
pub use Rattle.mq_link.specs.declared.link.ReportedExchange.{ReportedExchange}
pub use Rattle.mq_command.specs.Allowing.{AreRefused, SetsBoth, limit, no_limit, room}
pub use Rattle.mq_command.specs.Asking.{Asks, CameBack, ComesTo, attempt_of, IsAnswered, IsMissed, IsNotTaken, IsUnanswered, IsUndecoded, Sends, fits}
pub use Rattle.mq_command.specs.Forms.{json_byte, json_row, next_row}
pub use Rattle.mq_command.specs.Holding.{AreHeld, AreRefusedAgain, later_day, no_later_day, none_sent, one_refused}
pub use Rattle.mq_command.specs.Later.{AreCleared, ClearsLater, cleared}
pub use Rattle.mq_command.specs.Lower.{AreNotLower, FoundLower, not_lower}
pub use Rattle.mq_command.specs.Orders.{AnswersOrder, AreTaken, IsLimit, IsOrder, Orders, PrintsLine, Says, ahead, later, no_number, number}
pub use Rattle.mq_command.specs.Printed.{ArePrinted, IsNoText, IsTextOf}
pub use Rattle.mq_command.specs.Probing.{host_question, moment_of_run, next_run, settings_line}
pub use Rattle.mq_command.specs.Report.{AnswersList, AnswersUsage, AreFullPages, AsksPage, IsAscendingAbove, IsPage, IsUsage, PrintsFront, PrintsRow, ReportsAll, ReportsOne, TakesPage, last_login, no_page, output_fault, page, report_lines, row_line}
pub use Rattle.mq_command.specs.Resuming.{GivesLimit, at_least}
pub use Rattle.mq_command.specs.Stopping.{LooksLater, later_end}
pub use Rattle.mq_command.specs.Top.{CollectsAll, used_of, uses_more}
pub use Rattle.mq_command.specs.Totals.{AreAsked, AreCompleted, AreLogins, Completes, CompletesPart, FindsRow, Gathers, HasListed, IsListing, IsUnlisted, Lists, ListsAll, ListsPart, Picks, RunsOut, is_there, names, next_login, no_login, no_row, row_at, rows_of, total, totals}
pub use Rattle.mq_command.specs.Unchanged.{AreAlike}
pub use Rattle.mq_command.specs.Usage.{AreOthers, AsksUsed, is_sought, other_day}
pub use Rattle.mq_command.specs.Vis.{is_reported, low_text, lower, vis, vis_byte}
pub use Rattle.mq_command.specs.declared.allow.Setter.{Setter}
pub use Rattle.mq_command.specs.declared.ask.NoAnswer.{NoAnswer}
pub use Rattle.mq_command.specs.declared.ask.NoAnswer.TheVariants.{Memory, NotTaken, Unavailable}
pub use Rattle.mq_command.specs.declared.later.LaterLimit.{LaterLimit}
pub use Rattle.mq_command.specs.declared.order.OrderFault.{OrderFault}
pub use Rattle.mq_command.specs.declared.order.OrderFault.TheVariants.{Unanswered}
pub use Rattle.mq_command.specs.declared.output.OutputFault.{OutputFault}
pub use Rattle.mq_command.specs.declared.report.ReportFault.{ReportFault}
pub use Rattle.mq_command.specs.declared.stop.StopOrder.{StopOrder}
pub use Rattle.mq_command.specs.declared.stop_end.StopEnd.{StopEnd}
pub use Rattle.mq_command.specs.declared.stop_end.StopEnd.TheVariants.{Failed}
pub use Rattle.mq_command.specs.declared.stop.StoppedLogin.{StoppedLogin}
pub use Rattle.mq_command.specs.declared.usage.DayUsage.{DayUsage}
