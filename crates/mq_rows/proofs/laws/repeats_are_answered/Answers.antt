use Rattle.std.proofs.Common.{◌≡◌, List, [], Bool, true, false, refl, ◌∙◌, subst, if◌then◌else◌}
use Rattle.mq_rows.proofs.Words.{AnswerRecord, Conflict, Entry, Id, IsId, IsReply, IsRequest, Reply, SpellsReply, answer_of, found_passes, has_id, id_is, id_range, is_below, number_of, reply_body, request_body, requests, same_request}
use Rattle.mq_rows.specs.Repeat.{IsKept, IsRepeatOf}
use Rattle.mq_rows.proofs.Distinct.{one_row}
use Rattle.mq_rows.proofs.Numbered.{Stored, stored_row, no_row, number_test}
use Rattle.mq_rows.proofs.Lists.{found_has}
use Rattle.mq_rows.proofs.laws.repeats_are_answered.Goals as goal

kept_is : (b : Bool) (id : Id) (e : Entry) (a : Reply) → (SpellsReply (reply_body e.reply) a → a ≡ e.reply) → IsKept b id (reply_body e.reply) a → a ≡ (if b then e.reply else Conflict id)
kept_is true id e a one h = one h
kept_is false id e a one h = h

-- where the run isn't given up, the row has the entry's reply
kept_row : (H : List Entry) (id : Id) (row : AnswerRecord) (s : Stored H H id row) → IsId id → is_below (requests H) id ≡ false → row ≡ answer_of s.n s.entry
kept_row H id row s in_range above =
    let own : has_id id s.entry.request ≡ true = found_passes (λ (e : Entry). has_id id e.request) H s.entry s.there in
    let is : id ≡ number_of s.entry.request = id_is id (number_of s.entry.request) (number_test id s.entry.request in_range ∙ own) in
    let above' : is_below (requests H) (number_of s.entry.request) ≡ false = subst (λ x. is_below (requests H) x ≡ false) is above in
    s.is ∙ (λ k. record { n = s.n; id = number_of s.entry.request; request = request_body s.entry.request; reply = if above' k then [] else reply_body s.entry.reply })

pub returns-clause-known : goal.returns-clause-known
returns-clause-known c = λ day default H r id row a amount days legal in_range h above there repeat.
    let s : Stored H H id row = stored_row H 1 H id row (id_range r id in_range h) there in
    let in_range_q : IsRequest s.entry.request = found_has (λ (e : Entry). IsRequest e.request) (λ (e : Entry). has_id id e.request) H s.entry legal.range s.there in
    let in_range_p : IsReply s.entry.reply = found_has (λ (e : Entry). IsReply e.reply) (λ (e : Entry). has_id id e.request) H s.entry (c.replies_in_range.ensures.stored day default H amount days legal) s.there in
    let repeat' : IsRepeatOf (answer_of s.n s.entry) id r a = subst (λ (x : AnswerRecord). IsRepeatOf x id r a) (kept_row H id row s (id_range r id in_range h) above) repeat in
    let k : IsKept (same_request r s.entry.request) id (reply_body s.entry.reply) a = repeat' s.entry.request (c.one_spelling.ensures.request s.entry.request in_range_q) in
    let same : a ≡ (if same_request r s.entry.request then s.entry.reply else Conflict id) =
    kept_is (same_request r s.entry.request) id s.entry a (λ spells. c.one_spelling.ensures.one_reply (reply_body s.entry.reply) a s.entry.reply spells (c.one_spelling.ensures.reply s.entry.reply in_range_p)) k in
    rw (h, above, s.there) same

pub returns-clause-spelled : goal.returns-clause-spelled
returns-clause-spelled c = λ day default H r id row amount days legal in_range h above there.
    let s : Stored H H id row = stored_row H 1 H id row (id_range r id in_range h) there in
    let in_range_q : IsRequest s.entry.request = found_has (λ (e : Entry). IsRequest e.request) (λ (e : Entry). has_id id e.request) H s.entry legal.range s.there in
    let in_range_p : IsReply s.entry.reply = found_has (λ (e : Entry). IsReply e.reply) (λ (e : Entry). has_id id e.request) H s.entry (c.replies_in_range.ensures.stored day default H amount days legal) s.there in
    rw (kept_row H id row s (id_range r id in_range h) above) (s.entry.request, s.entry.reply, c.one_spelling.ensures.request s.entry.request in_range_q, c.one_spelling.ensures.reply s.entry.reply in_range_p)

pub returns-clause-stored : goal.returns-clause-stored
returns-clause-stored c = λ H r id row in_range h there.
    let s : Stored H H id row = stored_row H 1 H id row (id_range r id in_range h) there in
    rw s.there refl

pub returns-clause-unknown : goal.returns-clause-unknown
returns-clause-unknown c = λ H r id in_range h none. no_row H 1 H id (id_range r id in_range h) none

pub returns-clause-one : goal.returns-clause-one
returns-clause-one c = λ day default H r id legal in_range h. one_row H 1 id [] H (id_range r id in_range h) legal.distinct
