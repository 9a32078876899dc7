-- The names that many of these proofs cite, passed on from one place. It declares nothing.
pub use Rattle.std.proofs.Common.{Bool, IfSome, List, None, Option, Some, [], ap, append-nil, append_assoc, arith, false, inl, inr, length, length-append, of_z, pos, refl, rules, subst, suc, sym, take, to_z, true, w64, zero, ℕ, ℤ, ◌*ℤ◌, ◌++◌, ◌+ℤ◌, ◌+◌, ◌-◌, ◌<◌, ◌∙◌, ◌∷◌, ◌≡◌, ◌≤ℤ◌, ◌≤◌}
pub use Rattle.std.proofs.lemmas.Bool.Decides.{nat_tests}
pub use Rattle.std.proofs.lemmas.Int.{to_z_pos}
pub use Rattle.std.proofs.lemmas.List.{map-append, take_more}
pub use Rattle.std.proofs.lemmas.List.Elements.{All-from_recursion, All-map, filter-append, filter_map-append, recursion_from_All}
pub use Rattle.std.proofs.lemmas.List.Folds.{find-append, list_any-append}
pub use Rattle.std.proofs.lemmas.List.Sums.{fold_push, sum_by-cons, sum_by-le-sum_by, sum_by_push}
pub use Rattle.std.specs.Int.{int_div_euclid}
pub use Rattle.std.specs.List.{AllByRecursion, list_any}
pub use Rattle.std.specs.Option.{option_copied, option_or}
pub use Rattle.std.specs.Prelude.{All, Contains, filter, find, fold, if◌then◌else◌, is_some, map, nat_le, nat_lt, not, replicate, slice_get, sum_by, ◌&&◌, ◌==◌, ◌||◌, ◌⊎◌}
pub use Rattle.jiff.proofs.Family.{epoch_day_range}
pub use Rattle.jiff.proofs.SpanFacts.{signed_arith}
pub use Rattle.jiff.specs.Placed.{IsPosixZone}
pub use Rattle.jiff.specs.Words.{epoch_day}
pub use Rattle.jiff_core.specs.Timestamp.{nanos_of_seconds}
pub use Rattle.jiff_tz.specs.PosixRule.{in_window}
pub use Rattle.jiff_tz.specs.Year.{year_of_nanos}
unfoldable pub use Rattle.jiff_tz.specs.Zone.{offset_at}
pub use Rattle.jiff_tz.specs.declared.timezone.TimeZone.{TimeZone}
pub use Rattle.mq_lemmas.proofs.Booleans.{both_so, clash, either, first_so, neither_first, neither_second, or_second, second_so}
pub use Rattle.mq_lemmas.proofs.Lists.{In, all_at, all_of, all_push, by_pushes, in_filter}
pub use Rattle.mq_lemmas.proofs.Numbers.{if_zero, le_or_lt, number_is, number_itself, zero_or_more}
pub use Rattle.mq_lemmas.proofs.Options.{none_some, not_some, option_cases, some_is, some_none}
pub use Rattle.mq_request.proofs.Alike.{text_is, text_itself}
pub use Rattle.mq_request.specs.Range.{IsAmount, IsDay, IsReply, IsRequest}
pub use Rattle.mq_request.specs.Same.{same_request, same_text}
pub use Rattle.mq_request.specs.declared.message.Id.{Id}
pub use Rattle.mq_request.specs.declared.message.Reply.{Reply}
pub use Rattle.mq_request.specs.declared.message.Reply.TheVariants.{Closed, Full, Granted, LimitSet, Mismatch, Old, Over, Released, Retired, Settled, TooMany}
pub use Rattle.mq_request.specs.declared.message.Request.{Request}
pub use Rattle.mq_request.specs.declared.message.Request.TheVariants.{Limit, List as ListRequest, Release, Reserve, Retire, Settle, Usage}
pub use Rattle.mq_request.specs.declared.usage.UsageRow.{UsageRow}
pub use Rattle.mq_ledger.specs.Answer.{answer, appended, build, granted_or_full, history_of, if_open, known_by, reply, reply_by, reply_to, set_or_over, settled_or_too_many, stored, with_arrival, with_arrival_by}
pub use Rattle.mq_ledger.specs.Arrivals.{first, greater, has_id, id_of, is_below, kept_with, raised}
unfoldable pub use Rattle.mq_ledger.specs.Arrivals.{floor}
pub use Rattle.mq_ledger.specs.Day.{IsDayRule, IsRule, IsZone, clock, day_of, limited}
pub use Rattle.mq_ledger.specs.History.{IsOpenTo, Transaction, abandoned, agrees, closed, closes, concerns, counted, counted_in, ended, granted, granted_in, has_retired_run, held, is_abandoned, is_at, is_of, is_open, named, requests, reserved, reserved_of, retires, same_transaction, settled}
pub use Rattle.mq_ledger.specs.History.{settled_in, settled_of, transaction, used}
pub use Rattle.mq_ledger.specs.Legal.{Book, IsLegal}
pub use Rattle.mq_ledger.specs.Limits.{cap, cap_of, from_of, governs, last_cap, latest, limits}
pub use Rattle.mq_ledger.specs.Over.{day_from, days_from, least, lesser, over}
pub use Rattle.mq_ledger.specs.Page.{IsAscending, below, has_reserve, is_login, login_on, logins_on, nearer, row}
unfoldable pub use Rattle.mq_ledger.specs.Page.{logins_above, page}
pub use Rattle.mq_ledger.specs.Rule.{window_in}
unfoldable pub use Rattle.mq_ledger.specs.Rule.{ahead}
pub use Rattle.mq_ledger.specs.Suits.{Suits}
pub use Rattle.mq_ledger.specs.declared.entry.Entry.{Entry}
