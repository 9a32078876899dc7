-- The names that many of these proofs cite, passed on from one place. It declares nothing.
pub use Rattle.std.proofs.Common.{Bool, List, [], ap, append-nil, append_assoc, arith, false, inl, inr, length, refl, subst, sym, take, true, ℕ, ◌++◌, ◌+◌, ◌<◌, ◌∙◌, ◌∷◌, ◌≡◌, ◌≤◌}
pub use Rattle.std.proofs.lemmas.Bool.Decides.{nat_tests}
pub use Rattle.std.proofs.lemmas.List.{map-append}
pub use Rattle.std.proofs.lemmas.List.Elements.{All-from_recursion, All-map, recursion_from_All}
pub use Rattle.std.proofs.lemmas.List.Folds.{find-append}
pub use Rattle.std.specs.List.{AllByRecursion, list_any}
pub use Rattle.std.specs.Option.{option_or}
pub use Rattle.std.specs.Prelude.{All, None, Option, Some, filter, find, if◌then◌else◌, is_some, map, nat_le, nat_lt, not, sum_by, ◌&&◌, ◌==◌, ◌||◌, ◌⊎◌}
pub use Rattle.mq_ledger.proofs.Basics.{any_nothing, filter_in, not_found, sum_nothing}
pub use Rattle.mq_ledger.proofs.Books.{arrival_fresh, arrival_of_known, fresh_reply}
pub use Rattle.mq_ledger.proofs.Transactions.{entry, transaction_itself}
pub use Rattle.mq_ledger.specs.Answer.{answer, history_of, if_open, known_by, replies_after, reply, reply_by, reply_to, stored, with_arrival, with_arrival_by}
pub use Rattle.mq_ledger.specs.Arrivals.{greater, has_id, id_of, is_below}
pub use Rattle.mq_ledger.specs.Day.{day_of}
pub use Rattle.mq_ledger.specs.History.{Transaction, agrees, closed, counted, granted, is_of, named, requests, reserved, settled, transaction, used, moment_of}
pub use Rattle.mq_ledger.specs.Legal.{IsLegal}
pub use Rattle.mq_ledger.specs.Limits.{cap}
pub use Rattle.mq_ledger.specs.Over.{IsLeastOver, over}
pub use Rattle.mq_ledger.specs.Page.{IsLoginPage, has_reserve, page}
pub use Rattle.mq_ledger.specs.declared.entry.Entry.{Entry}
pub use Rattle.mq_lemmas.proofs.Booleans.{either, first_so, is_not, neither, or_second, second_so}
pub use Rattle.mq_lemmas.proofs.Lists.{In, all_push}
pub use Rattle.mq_lemmas.proofs.Numbers.{le_is, lt_is}
pub use Rattle.mq_lemmas.proofs.Options.{not_some, option_cases}
pub use Rattle.mq_request.specs.Range.{IsMoment, IsRequest}
pub use Rattle.mq_request.specs.declared.message.Id.{Id}
pub use Rattle.mq_request.specs.declared.message.Reply.{Reply}
pub use Rattle.mq_request.specs.declared.message.Request.{Request}
pub use Rattle.mq_request.specs.declared.message.Request.TheVariants.{Limit, Release, Reserve, Retire, Settle}
pub use Rattle.mq_forget.specs.Kept.{AreAlike}
pub use Rattle.mq_forget.specs.Remembered.{AreLaterOrPast, day_named, is_about, is_later, is_later_by, is_past, is_remembered, is_set, remembered, stays}
