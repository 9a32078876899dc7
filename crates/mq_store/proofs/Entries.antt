-- The rows of answers and of transactions, read one by one, and the entries of a history one after another.
use Rattle.std.proofs.Common.{All, Bool, List, None, Option, Some, [], ap, arith, drop, false, get_or, if◌then◌else◌, inl, inr, length, map, refl, subst, suc, sym, take, take-append-drop, true, ℕ, ◌++◌, ◌+◌, ◌<◌, ◌∙◌, ◌∷◌, ◌≡◌}
use Rattle.mq_store.proofs.Words.{AnswerRecord, AreTransactions, Entry, Has, IsLegal, IsOneOf, IsReply, IsRequest, Limit, Release, Reply, Request, Reserve, Retire, Retry, Settle, Transaction, TransactionRecord, Usage, answer, answer_row, answer_rows, day_named, enumerate_from, filter_none, get_or_default, history_of, id_of, is_below, is_transaction, known_by, map-append, moment_of, named, number_of, reply, requests, those, transaction_of, transaction_row}
use Rattle.mq_frame.specs.Spelling.{SpellsRequest, SpellsReply, reply_body}
use Rattle.mq_forget.specs.Carried.{IsAt}
use Rattle.mq_tables.specs.declared.entry.Bodies.{Bodies}
use Rattle.mq_tables.specs.Entries.{AreBodiesAt}
use Rattle.mq_request.specs.declared.message.Request.TheVariants.{List as ListRequest}
use Rattle.mq_store.specs.Carrying.{day_by, SpellsWhereKnown, IsWhereKnown, IsAnswered}
use Rattle.sqlite_rules.proofs.ListLemmas.{has_kept}
use Rattle.mq_ledger.proofs.Books.{fresh_reply}
use Rattle.mq_forget.proofs.Carrying.{more_of, next_of}

-- Answers.

record Placed (H : List Entry) (k : ℕ) (rest : List Entry) (a : AnswerRecord) : Type 0 where
  place : ℕ
  within : place < length rest
  is : (d : Entry) → a ≡ answer_row H (k + place) (get_or rest place d)

placed : (H : List Entry) (k : ℕ) (rest : List Entry) (a : AnswerRecord) → Has (map (λ p. answer_row H p.0 p.1) (enumerate_from k rest)) a → Placed H k rest a
placed H k [] a h = absurd h
placed H k (x ∷ rest) a (inl e) = (let z : k ≡ k + 0 = omega arith in record { place = 0; within = omega arith; is = λ d. e ∙ ap (λ n. answer_row H n x) z })
placed H k (x ∷ rest) a (inr h) =
    let r = placed H (k + 1) rest a h in
    let z : k + 1 + r.place ≡ k + suc r.place = omega arith in
    record { place = suc r.place; within = omega (arith, r.within); is = λ d. r.is d ∙ ap (λ n. answer_row H n (get_or rest r.place d)) z }

-- what a row keeps of a reply is empty where its run is given up
where_known : ((body : List ℕ) (a b : Reply) → SpellsReply body a → SpellsReply body b → a ≡ b)
    → (below : Bool) (body : List ℕ) (a : Reply) (o : Option Reply) → body ≡ (if below then [] else reply_body a) → IsReply a → SpellsWhereKnown body o → IsWhereKnown o a
where_known one below body a None are range known = tt
where_known one true body a (Some b) are range known = absurd (omega (arith, known.0, ap length are))
where_known one false body a (Some b) are range known = one body a b (record { bytes = are; in_range = range }) known.1

pub entry_is : ((body : List ℕ) (r s : Request) → SpellsRequest body r → SpellsRequest body s → r ≡ s) → ((body : List ℕ) (a b : Reply) → SpellsReply body a → SpellsReply body b → a ≡ b)
    → (H : List Entry) (answers : List AnswerRecord) (place : ℕ) (b : Bodies) (r : Request) (o : Option Reply) → All (λ x. IsRequest x.request) H → All (λ x. IsReply x.reply) H → answers ≡ answer_rows H
    → AreBodiesAt (place + 1) answers b → SpellsRequest b.request r → SpellsWhereKnown b.reply o → IsAnswered H place (record { request = r; reply = o })
entry_is one_request one_reply H answers place b r o requests_in replies_in rows at spelled known =
    let d : Entry = record { request = r; reply = Retry } in
    let there : Has (answer_rows H) at.answer = subst (λ all. Has all at.answer) rows at.among in
    let p = placed H 1 H at.answer there in
    let same : p.place ≡ place = omega (arith, ap (λ (a : AnswerRecord). a.n) (p.is d), at.place) in
    let row : at.answer ≡ answer_row H (1 + place) (get_or H place d) = subst (λ k. at.answer ≡ answer_row H (1 + k) (get_or H k d)) same (p.is d) in
    let within : place < length H = subst (λ k. k < length H) same p.within in
    let x : Entry = get_or H place d in
    let asked : r ≡ x.request = one_request b.request r x.request spelled (record { bytes = sym at.request ∙ ap (λ (a : AnswerRecord). a.request) row; in_range = requests_in place d within }) in
    let e : Entry = record { request = r; reply = x.reply } in
    let whole : e ≡ x = λ i. record { request = asked i; reply = x.reply } in
    record {
      reply = x.reply;
      at = record { within = within; is = whole ∙ get_or_default H place d e within };
      is = where_known one_reply (is_below (requests H) (number_of x.request)) b.reply x.reply o (sym at.reply ∙ ap (λ (a : AnswerRecord). a.reply) row) (replies_in place d within) known;
    }

-- Transactions.

unnamed_day : (day : ℕ → ℕ) (H : List Entry) (t : Transaction) (moment : ℕ) (o : Option Entry) → named H t ≡ o → those (transaction_row day H t) ≡ [] → day moment ≡ day_named day moment o
unnamed_day day H t moment None h empty = refl
unnamed_day day H t moment (Some e) h empty = absurd (let b : transaction_of day H t e ∷ [] ≡ [] = rw h at empty in cc b)

named_day : (day : ℕ → ℕ) (H : List Entry) (t : Transaction) (moment : ℕ) (row : TransactionRecord) (o : Option Entry) → named H t ≡ o → Has (those (transaction_row day H t)) row → row.day ≡ day_named day moment o
named_day day H t moment row None h there = absurd (let b : ⊥ = rw h at there in b)
named_day day H t moment row (Some e) h there =
    let k : Has (transaction_of day H t e ∷ []) row = rw h at there in
    elim k [
      | inl is ↦ ap (λ (r : TransactionRecord). r.day) is
      | inr none ↦ absurd none
    ]

pub day_is : (day : ℕ → ℕ) (H : List Entry) (rows : List TransactionRecord) (t : Transaction) (moment : ℕ) (found : Option TransactionRecord) → AreTransactions day H rows → IsOneOf (is_transaction t) rows found → day_by day moment found ≡ day_named day moment (named H t)
day_is day H rows t moment None are none = unnamed_day day H t moment (named H t) refl (sym (are t) ∙ filter_none (is_transaction t) rows none)
day_is day H rows t moment (Some row) are found = named_day day H t moment row (named H t) refl (subst (λ all. Has all row) (are t) (has_kept (is_transaction t) rows row found.0 found.1))

-- The next entry.

module _ (day : ℕ → ℕ) (default : ℕ) (H : List Entry) (place : ℕ) (e : Entry) (at : IsAt H place e) (legal : IsLegal day default H)
    (fronts : (F S : List Entry) → IsLegal day default (F ++ S) → IsLegal day default F) where
  pub followed : ((K : List Entry) → IsLegal day default K → history_of day default (requests K) ≡ K) → history_of day default (requests (take place H) ++ e.request ∷ []) ≡ take (place + 1) H
  followed again =
      let front : IsLegal day default (take (place + 1) H) = fronts (take (place + 1) H) (drop (place + 1) H) (subst (IsLegal day default) (sym (take-append-drop (place + 1) H)) legal) in
      ap (history_of day default) (sym (ap requests (more_of H place e at.within at.is) ∙ map-append (λ (x : Entry). x.request) (take place H) (e ∷ []))) ∙ again (take (place + 1) H) front

  pub replied : ((F S : List Entry) (x : Entry) → IsLegal day default (F ++ x ∷ S) → (known_by F (id_of x.request) ≡ false) × (x.reply ≡ answer day default F x.request)) → reply day default (take place H) e.request ≡ e.reply
  replied next =
      let n = next (take place H) (drop (place + 1) H) e (subst (IsLegal day default) (sym (next_of H place e at.within at.is)) legal) in
      fresh_reply day default (take place H) e.request (id_of e.request) n.0 ∙ sym n.1
