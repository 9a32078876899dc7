-- The names from below that many proofs cite, passed on from one place. It declares nothing.
pub use Rattle.std.proofs.KnownBytes.{Appends-trans, Consumes-trans, Appends-nil, Consumes-nil}
pub use Rattle.std.proofs.lemmas.Bool.{both_ways, eq-eqb, eqb-true, le-leb, leb-false, lt-leb, ltb-false, ne_eqb, and_left}
pub use Rattle.std.proofs.lemmas.List.{append_cancel_right, drop-drop, length-map, length-take-le, map-append, same_from_push}
pub use Rattle.std.proofs.lemmas.List.Sums.{sum_by-cons}
pub use Rattle.std.specs.Io.KnownBytes.{Appends, Consumes, IsAtEnd}
pub use Rattle.std.specs.List.{AllByRecursion, concat, cons_option, filter_map, list_any}
pub use Rattle.std.specs.Option.{option_copied, option_map, option_or}
pub use Rattle.std.specs.Prelude.{Err, IfErr, IfSome, IsOk, Ok, OnErr, Result, codes, drop, filter, is_none, length, nat_le, nat_lt, slice_get, slice_index_or, ◌≢◌, unwrap_or}
pub use Rattle.std.specs.Str.{bytes_eq}
pub use Rattle.mq_lemmas.proofs.Booleans.{and_false, neither, neither_first, neither_second, neither_so, never, not_false, or_false, or_first, or_second, true_false}
pub use Rattle.mq_lemmas.proofs.Lists.{all_append, all_drop, all_push, empty, no_rest, weaker}
pub use Rattle.mq_lemmas.proofs.Options.{none_some, some_is}
pub use Rattle.mq_request.specs.Same.{same_id, same_request, same_text}
pub use Rattle.mq_request.specs.declared.message.Id.{Id}
pub use Rattle.mq_request.specs.declared.message.Reply.{Reply}
pub use Rattle.mq_request.specs.declared.message.Request.{Request}
pub use Rattle.mq_request.specs.declared.message.Request.TheVariants.{Limit, Release, Reserve, Retire, Settle}
pub use Rattle.mq_frame.specs.Spelling.{SpellsReply, request_frame}
pub use Rattle.mq_stream.specs.Flow.{IsFlushed}
pub use Rattle.mq_line.specs.Grammar.{ConfigLine, FilterLine, Meaning, OtherLine, Reads, ReadyLine, ReportLine, fault, meaning}
pub use Rattle.mq_line.specs.Results.{registration, result_text}
pub use Rattle.mq_line.specs.Text.{Holds, IsLine, IsTooLong, left as left_over, lines as all_lines, text_of}
pub use Rattle.mq_line.specs.declared.results.Decision.{Decision}
pub use Rattle.mq_track.specs.Sessions.{Transaction, begin_count, closing, fault as track_fault, is_exhausted, login, open_transaction, position_of}
pub use Rattle.mq_track.specs.State.{TracksAt}
pub use Rattle.mq_track.specs.declared.closing.CloseEnd.{CloseEnd}
pub use Rattle.mq_track.specs.declared.closing.Closing.{Closing}
pub use Rattle.mq_track.specs.declared.fault.TrackFault.{TrackFault}
pub use Rattle.mq_lemmas.specs.Told.{Tells}
pub use Rattle.mq_link.specs.Link.{Brings}
pub use Rattle.mq_link.specs.declared.link.ExchangeOutcome.{ExchangeOutcome}
pub use Rattle.mq_link.specs.declared.link.ExchangeOutcome.TheVariants.{Answered, Faulted}
pub use Rattle.mq_link.specs.declared.link.ReportedExchange.{ReportedExchange}
pub use Rattle.mq_client.specs.Exchanges.{AreFailed, AreTries, Exchange, IsDecision, IsSent, IsTry, IsUndecided, NoneYet, OneMore, Sends, SendsAll, SendsSome, SendsUpTo, decides, decisions, has_timed_out, ran_out, told_all, told_of}
pub use Rattle.mq_client.specs.Filter.{Answers, Asks, Closes, Filters, Passes, Query, Refuses, Takes, action_of, actions, actions_of, after_line, answer_count, asking_of, at_line, close_of, decision_by, decision_of, is_filter, is_login, is_moment, push, query, query_at}
pub use Rattle.mq_client.specs.FramedRequests.{IsFramed, requests_of}
pub use Rattle.mq_client.specs.HeldTransactions.{AllHeld, IsHeld}
pub use Rattle.mq_client.specs.Holding.{Holding, full_by, held_back, is_full, is_over, noted, noted_by, nothing_held, seconds_in, still, still_by, still_paused, times_out}
pub use Rattle.mq_client.specs.Inside.{state_of}
pub use Rattle.mq_client.specs.Loop.{Carries, CarriesHeld, Does, IsAt, IsCut, IsRefused, MakesOne, Replies, SinkWorks, SoFar, StopsWithin, filter_fault, told_one}
pub use Rattle.mq_client.specs.Numbers.{AsksForNoClosed, IsNumbered, NoneReturns, SettlesWhatWasLet, Suits, WasCommitted, exchanges_in, id_in, is_closed, request_by, request_under, txn_in}
pub use Rattle.mq_client.specs.Past.{Action, ArePlayed, Ask, Close, Closed, Drain, IsBounded, IsPlayed, Live, Makes, MakesAll, Never, Plays, PlaysFrom, Source, TransactionState, StandsAt, State, Step, View, after, after_close, answer_by, answer_of, closing_of, drained, find, held_by, held_for, id_of, is_commit, is_other, let_through, opened, refuses, reserve_of, told_steps, tries_in, view, with_asked, without}
pub use Rattle.mq_client.specs.Reading.{Asking, asking, asks_of, closed_by, closed_in, closing_under, closings_in, first_of, is_decided_by, is_decided_in, is_granted, live_by, live_in, live_or, numbers_in, since_close, standing_in, takes_number, waiting_in}
pub use Rattle.mq_client.specs.Run.{AfterReady, AreRead, BeforeReady, EndsWith, HasText, IsAtWork, IsEarly, IsFound, IsInHand, IsPiece, IsReady, MayGo, Outside, Reaches, Stage, StandsFirst, StopsAt, Supplies, Supply, around, is_early, is_stamped, may_ask_for_memory, supply}
pub use Rattle.mq_client.specs.TriesOutcome.{ComesOf, is_decided, is_late, verdict_of}
pub use Rattle.mq_client.specs.Turns.{AreUnderway, ComeInTurn, IsUnderway, all_outcomes, failures, next_in, next_of, outcomes, queue_of, quiets}
pub use Rattle.mq_client.specs.Verdict.{IsVerdict, deciding}
pub use Rattle.mq_client.specs.declared.fault.FilterFault.{FilterFault}
pub use Rattle.mq_client.specs.declared.filter.RunEnd.{RunEnd}
pub use Rattle.mq_client.specs.declared.recipient_answer.RecipientAnswer.{RecipientAnswer}
pub use Rattle.mq_client.specs.declared.held_transaction.HeldTransaction.{HeldTransaction}
pub use Rattle.mq_client.specs.declared.holdup.FullLogin.{FullLogin}
pub use Rattle.mq_client.specs.declared.spans.Spans.{Spans}
pub use Rattle.mq_client.specs.declared.tries.FramedRequest.{FramedRequest}
pub use Rattle.mq_client.specs.declared.tries.TriesOutcome.{TriesOutcome}
