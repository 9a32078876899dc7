-- The names of other crates that these proofs cite, passed on from one place. It declares nothing.
pub use Rattle.std.proofs.Common.{Bool, List, None, Option, Some, [], ap, arith, false, if◌then◌else◌, inl, inr, is_some, nat_le, refl, subst, suc, sym, true, zero, ℕ, ◌&&◌, ◌++◌, ◌+◌, ◌<◌, ◌==◌, ◌∙◌, ◌∷◌, ◌≡◌, ◌≤◌}
pub use Rattle.std.proofs.lemmas.Bool.{ne_eqb}
pub use Rattle.std.proofs.lemmas.Bool.Decides.{nat_tests}
pub use Rattle.std.proofs.lemmas.List.Elements.{All-from_recursion, recursion_from_All}
pub use Rattle.std.proofs.lemmas.List.Sums.{sum_by-append, sum_by-cons, sum_by-le-sum_by}
pub use Rattle.std.specs.List.{AllByRecursion, list_any}
pub use Rattle.std.specs.Option.{option_map, option_or}
pub use Rattle.std.specs.Prelude.{All, codes, count_by, length, nat_lt, not, pos, slice_get, sum_by, ℤ, ◌*◌, ◌<ℤ◌, ◌||◌, ◌↔◌, ◌≢◌, ◌≤ℤ◌, ◌⊎◌}
pub use Rattle.mq_client.proofs.Numbering.{ended_not, let_through_at, more_numbers, one_request}
pub use Rattle.mq_client.specs.Exchanges.{Exchange, IsDecision, IsTry, NoneYet, SendsAll, SendsUpTo, answers_closing, answers_reserve, decides, decisions}
pub use Rattle.mq_client.specs.Filter.{Answers, Asks, Closes, Filters, Passes, Query, Refuses, Takes, action_of, actions, actions_of, asking_of, at_line, close_of, is_login, is_moment, push, query, query_at}
pub use Rattle.mq_client.specs.Holding.{Holding, held_back, nothing_held}
pub use Rattle.mq_client.specs.Numbers.{IsNumbered, NoneReturns, Suits, exchanges_in, id_in, is_closed, request_under, txn_in}
pub use Rattle.mq_client.specs.Past.{Action, ArePlayed, Ask, Close, Closed, Drain, IsBounded, IsPlayed, Live, MakesAll, Never, Plays, Source, TransactionState, State, Step, View, after}
pub use Rattle.mq_client.specs.Past.{after_ask, after_close, answer_by, answer_of, closing_of, drained, held_by, held_for, id_of, is_commit, is_other, lacks_numbers, let_through, opened, refuses, reserve_of, told_steps, tries_in, view}
pub use Rattle.mq_client.specs.Reading.{numbers_in, standing_in, takes_number}
pub use Rattle.mq_client.specs.Run.{AfterReady, BeforeReady, EndsWith, Goes, HasText, IsInHand, IsReady, Outside, Stage, StopsAt}
pub use Rattle.mq_client.specs.Turns.{AreUnderway, ComeInTurn, IsUnderway, failures, next, next_of, queue_of}
pub use Rattle.mq_client.specs.declared.filter.RunEnd.{RunEnd}
pub use Rattle.mq_client.specs.declared.recipient_answer.RecipientAnswer.{RecipientAnswer}
pub use Rattle.mq_client.specs.declared.held_transaction.HeldTransaction.{HeldTransaction}
pub use Rattle.mq_forget.specs.Remembered.{day_named, is_about, is_set, remembered, stays}
pub use Rattle.mq_frame.specs.Spelling.{SpellsReply, SpellsRequest, frame, reply_body, request_body, request_frame}
pub use Rattle.mq_ledger.specs.Answer.{answer, appended, history_of, reply, reply as ledger_reply, reply_by, reply_to, stored, with_arrival, with_arrival_by}
pub use Rattle.mq_ledger.specs.Arrivals.{has_id, id_of as ledger_id, is_below}
unfoldable pub use Rattle.mq_ledger.specs.Arrivals.{floor}
pub use Rattle.mq_ledger.specs.Day.{ByOffset, IsDayRule, IsOffset, IsZone, clock, day_of}
pub use Rattle.mq_ledger.specs.History.{Transaction, closes, counted, counted_in, ended, granted, granted_in, held, is_of, named, requests, reserved, same_transaction, settled, settled_in, transaction, used, moment_of}
pub use Rattle.mq_ledger.specs.Legal.{Book, IsLegal, IsLegalBook}
pub use Rattle.mq_ledger.specs.Limits.{cap}
pub use Rattle.mq_ledger.specs.Suits.{Suits as RepliesSuit}
pub use Rattle.mq_ledger.specs.Sums.{AreDistinct, held_on, is_for, names_for, settled_on}
pub use Rattle.mq_ledger.specs.declared.entry.Entry.{Entry}
pub use Rattle.mq_ledger.specs.declared.zone.Zone.{Zone}
pub use Rattle.mq_lemmas.proofs.Booleans.{both_so, clash, either, either_of, first_so, neither_first, neither_second, not_false, second_so}
pub use Rattle.mq_lemmas.proofs.Lists.{In, all_at, all_drop, all_filter, all_of, all_push, in_filter, weaker}
pub use Rattle.mq_lemmas.proofs.Numbers.{le_of, number_is, number_itself, zero_or_more}
pub use Rattle.mq_lemmas.proofs.Options.{none_some, option_cases, some_is}
pub use Rattle.mq_line.specs.Grammar.{FilterLine, IsStamp, Meaning, Reads as IsRead, ReportLine}
pub use Rattle.mq_link.specs.declared.link.LinkFault.TheVariants.{Down, TimedOut}
pub use Rattle.mq_link.specs.declared.link.ExchangeOutcome.{ExchangeOutcome}
pub use Rattle.mq_link.specs.declared.link.ExchangeOutcome.TheVariants.{Answered, Faulted}
pub use Rattle.mq_request.specs.Range.{IsAmount, IsCount, IsHost, IsHostByte, IsId, IsLogin, IsMoment, IsOrdinal, IsReply, IsRequest, IsRun, IsWithin, between}
pub use Rattle.mq_request.specs.Same.{same_id, same_request, same_text}
pub use Rattle.mq_request.specs.declared.message.Id.{Id}
pub use Rattle.mq_request.specs.declared.message.Reply.{Reply}
pub use Rattle.mq_request.specs.declared.message.Request.{Request}
pub use Rattle.mq_request.specs.declared.message.Request.TheVariants.{Limit, List as ListRequest, Release, Reserve, Retire, Settle, Usage}
pub use Rattle.mq_track.specs.Laws.{AreNumbered}
pub use Rattle.mq_track.specs.Sessions.{Position, begin_count, closing, fault, is_begin, is_exhausted, login, open_transaction, position, position_of}
pub use Rattle.mq_track.specs.declared.closing.CloseEnd.{CloseEnd}
pub use Rattle.mq_track.specs.declared.closing.Closing.{Closing}
