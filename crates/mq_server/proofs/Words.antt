-- The names from below that many proofs cite, passed on from one place. It declares nothing.
pub use Rattle.std.proofs.KnownBytes.{Appends-nil, Appends-trans, Consumes-nil, Consumes-trans}
pub use Rattle.std.proofs.lemmas.Bool.Decides.{nat_tests}
pub use Rattle.std.proofs.lemmas.Grind.{flat_map-append}
pub use Rattle.std.proofs.lemmas.List.{drop-drop, drop-set-lt, get_or-drop, length-map, length-set, length-take-le, map-append, set_split, take_more_set}
pub use Rattle.std.proofs.lemmas.List.Elements.{All-get_or, filter-append}
pub use Rattle.std.proofs.lemmas.List.Sums.{fold-append}
pub use Rattle.std.proofs.lemmas.Result.{err_from_is_err_and}
pub use Rattle.std.proofs.lemmas.Slice.Zip.{all_zipped_more}
pub use Rattle.std.specs.Io.KnownBytes.{Appends, Consumes, IsAtEnd}
pub use Rattle.std.specs.List.{AllZip}
pub use Rattle.std.specs.Option.{option_to_list}
pub use Rattle.std.specs.Prelude.{All}
pub use Rattle.mq_lemmas.proofs.Booleans.{clash, false_true}
pub use Rattle.mq_lemmas.proofs.Lists.{no_rest}
pub use Rattle.mq_lemmas.proofs.Options.{ok_not}
pub use Rattle.mq_request.specs.declared.message.Reply.{Reply}
pub use Rattle.mq_request.specs.declared.message.Reply.TheVariants.{Bad, Retry}
pub use Rattle.mq_request.specs.declared.message.Request.{Request}
pub use Rattle.mq_stream.specs.Flow.{AppendsFront, IsFlushed}
pub use Rattle.mq_frame.proofs.Cuts.{gives_whole, more_begins, one_more, whole_is, whole_stays}
pub use Rattle.mq_frame.specs.Feed.{BeginsWith, EmptyHead, Feed, Front, LongHead, Nothing, Takes, Whole, front, front_behind, left_by_next, next_answer}
pub use Rattle.mq_frame.specs.Spelling.{SpellsRequest, frame, reply_body}
pub use Rattle.mq_frame.specs.declared.feed.FrameFault.{FrameFault}
pub use Rattle.mq_ledger.proofs.Leaving.{left_alone, left_both}
pub use Rattle.mq_ledger.proofs.Numbers.{requests_steps}
pub use Rattle.mq_lemmas.proofs.Telling.{Tells-none, Tells-trans}
pub use Rattle.mq_ledger.specs.Answer.{answer, build, history_of, replies_after, reply}
pub use Rattle.mq_ledger.specs.Arrivals.{first}
pub use Rattle.mq_ledger.specs.Day.{day_of}
pub use Rattle.mq_ledger.specs.History.{requests}
pub use Rattle.mq_ledger.specs.Leaving.{LeavesLedger}
pub use Rattle.mq_ledger.specs.Legal.{Book, IsLegalBook}
pub use Rattle.mq_lemmas.specs.Told.{Tells}
pub use Rattle.mq_ledger.specs.declared.entry.Entry.{Entry}
pub use Rattle.mq_ledger.specs.declared.ledger.ReportedCall.{ReportedCall}
pub use Rattle.mq_server.specs.Connection.{Leaves, Serves, Wire, calls_of, last_call}
pub use Rattle.mq_server.specs.Connections.{AppendEach, AreServed, AreServedWhole, AreStopped, DevicesAgree, calls_until, result_of, wires}
pub use Rattle.mq_server.specs.Delivery.{Delivery, answer_to, answers, arrivals, asked, call, calls, each_after, failed_call, history_after, taken_answers, taken_answers_after}
pub use Rattle.mq_server.specs.Exits.{IsPart}
pub use Rattle.mq_server.specs.Held.{State, received, with_replies}
pub use Rattle.mq_server.specs.Life.{AreAnswered, Counts, Exchange, HasReplies, Life, Lives, MakesCalls, StandsNext, deliveries, replies_of, told_of, with_bytes, with_exchanges}
pub use Rattle.mq_server.specs.State.{Ends, Goes, IsAdded, IsQuiet, Replies, Steps}
pub use Rattle.mq_server.specs.Steps.{AnswersBody, Refills}
pub use Rattle.mq_server.specs.Text.{Asks, IsBad, IsEnd, IsPartial, IsServed, LosesAlike, MayLackMemory, SpellsNone, farewell, frames_of, next, served}
pub use Rattle.mq_server.specs.declared.connection.EndCause.{EndCause}
pub use Rattle.mq_server.specs.declared.connection.EndCause.TheVariants.{BadFrame, CutFrame, Enough, InputEnd}
pub use Rattle.mq_server.specs.declared.connection.Progress.{Progress}
pub use Rattle.mq_server.specs.declared.connection.Progress.TheVariants.{Answered, Ended, Waits}
pub use Rattle.mq_server.specs.declared.connections.ConnectionEnd.{ConnectionEnd}
pub use Rattle.mq_server.specs.declared.fault.ServeFault.{ServeFault}
pub use Rattle.mq_server.specs.declared.fault.ServeFault.TheVariants.{Memory, Read, Store, Write}
