-- The answers over a history of requests in range are in range.
use Rattle.mq_ledger.proofs.Words.{All-from_recursion, All-map, AllByRecursion, Entry, Granted, Id, IsAmount, IsDay, IsDayRule, IsLegal, IsOpenTo, IsReply, IsRequest, Limit, List, ListRequest, None, Option, Release, Released, Reply, Request, Reserve, Retire, Settle, Settled, Some, Transaction}
use Rattle.mq_ledger.proofs.Words.{Usage, [], all_at, all_of, all_push, answer, arith, cap, cap_of, day_from, either, ended, from_of, governs, granted_or_full, has_id, has_retired_run, held, id_of, inl, inr, is_below, last_cap, latest, limits, login_on, map, nat_lt, neither_second, none_some, over}
use Rattle.mq_ledger.proofs.Words.{page, recursion_from_All, refl, reply, reply_by, reply_to, requests, row, same_request, settled_or_too_many, some_is, stored, subst, transaction, used, ℕ, ◌==◌, ◌∷◌, ◌≡◌, ◌≤◌}
use Rattle.std.proofs.lemmas.List.Elements.{All-nil}
use Rattle.std.proofs.lemmas.List.{length-map}
use Rattle.mq_lemmas.proofs.Lists.{all_filter, all_but_last}
use Rattle.mq_request.specs.Range.{IsId, IsLogin, IsRow, IsPage as IsRows}
use Rattle.mq_ledger.proofs.Answering.{by_open, by_room, by_held, by_over, of_legal}
use Rattle.mq_ledger.proofs.Basics.{filter_in, filter_map_in, found}
use Rattle.mq_ledger.proofs.Overs.{least_in, day_given}
use Rattle.mq_ledger.proofs.PageFacts.{page_few, in_page}
use Rattle.mq_ledger.proofs.Transactions.{entry, transaction_itself, used_is, held_goes}
use Rattle.mq_ledger.proofs.Within.{StaysWithin, IsGood, good_step, legal_good}

abbrev pub AreRequests : List Entry → Type 0
AreRequests H = AllByRecursion (λ e. IsRequest e.request) H

abbrev pub amount : (n : ℕ) → n ≤ 1000000 → IsAmount n
amount n h = record { from = omega arith; to = h }

-- Limits.

cap_of_fits : (r : Request) → IsRequest r → cap_of r ≤ 1000000
cap_of_fits (Limit id from_day c login) h = h.2.to
cap_of_fits r h = omega arith

last_cap_fits : (default : ℕ) (es : List Entry) → default ≤ 1000000 → AreRequests es → last_cap default es ≤ 1000000
last_cap_fits default [] low all = low
last_cap_fits default (e ∷ es) low all = last_cap_fits (cap_of e.request) es (cap_of_fits e.request all.0) all.1

pub cap_fits : (default : ℕ) (H : List Entry) → default ≤ 1000000 → AreRequests H → (l : List ℕ) (d : ℕ) → cap default H l d ≤ 1000000
cap_fits default H low all l d =
    last_cap_fits default _ low (all_filter (λ e. IsRequest e.request) (λ e. from_of e.request == latest (limits H l d)) (limits H l d) (all_filter (λ e. IsRequest e.request) (governs l d) H all))

-- A history whose requests, default and days are in range, as it was built.
pub record IsRanged (day : ℕ → ℕ) (default : ℕ) (H : List Entry) : Type 0 where
  pub good : IsGood day default H
  pub low : default ≤ 1000000
  pub days : IsDayRule day
  pub all : AreRequests H

pub used_fits : (day : ℕ → ℕ) (default : ℕ) (H : List Entry) → IsRanged day default H → (l : List ℕ) (d : ℕ) → used day H l d ≤ 1000000
unfolding StaysWithin
used_fits day default H ranged l d = omega (arith, ranged.good.within l d, cap_fits default H ranged.low ranged.all l d)

-- what an open transaction holds is part of what is used
pub held_fits : (day : ℕ → ℕ) (default : ℕ) (H : List Entry) → IsRanged day default H → (id : Id) (txn moment : ℕ) (login : List ℕ) → IsOpenTo moment login H (transaction id txn) → held H (transaction id txn) ≤ 1000000
held_fits day default H ranged id txn moment login o =
    let t : Transaction = transaction id txn in
    let part = held_goes day H (entry (Release id txn moment login) (Released id 0)) t moment login (transaction_itself t) refl (neither_second (has_retired_run H t) (ended H t) o.open_still) (ranged.good.uniform t moment login o.agreed) in
    rw o.open_still (omega (arith, part, used_is day H login (day moment), used_fits day default H ranged login (day moment)))

-- Answers.

day_range : (day : ℕ → ℕ) → IsDayRule day → (l : List ℕ) (from d : ℕ) (r : Request) (a : Reply) → IsRequest r → day_from day l from r a ≡ Some d → IsDay d
day_range day days l from d (Reserve id txn moment login count) (Granted id' n) h e = subst IsDay (day_given day l login from d moment e).1 (days moment h.2)
day_range day days l from d (Settle id txn moment login count) (Settled id' n) h e = subst IsDay (day_given day l login from d moment e).1 (days moment h.2)
day_range day days l from d r a h e = absurd (none_some d e)

over_range : (day : ℕ → ℕ) (default : ℕ) (H : List Entry) → IsRanged day default H → (l : List ℕ) (from c d : ℕ) → over day H l from c ≡ Some d → IsDay d
over_range day default H ranged l from c d h =
    let kept = filter_in (λ d. nat_lt c (used day H l d)) _ d (least_in _ d h) in
    let m = filter_map_in (λ (e : Entry). day_from day l from e.request e.reply) H d kept.0 in
    day_range day ranged.days l from d m.source.request m.source.reply (all_at (λ e. IsRequest e.request) H m.source ranged.all m.among) m.gives

login_range : (day : ℕ → ℕ) (d : ℕ) (l : List ℕ) (r : Request) (a : Reply) → IsRequest r → login_on day d r a ≡ Some l → IsLogin l
login_range day d l (Reserve id txn moment login count) (Granted id' n) h e = elim (either (day moment == d)) [
  | inl t ↦ (let s : Some login ≡ Some l = rw t at e in subst IsLogin (some_is _ _ s) h.3)
  | inr f ↦ (let s : None ≡ Some l = rw f at e in absurd (none_some l s))
]
login_range day d l r a h e = absurd (none_some l e)

row_range : (day : ℕ → ℕ) (default : ℕ) (H : List Entry) → IsRanged day default H → (d : ℕ) (l : List ℕ) → IsLogin l → IsRow (row day default H d l)
row_range day default H ranged d l h = record {
  login = h;
  settled = amount _ (omega (arith, used_fits day default H ranged l d));
  reserved = amount _ (omega (arith, used_fits day default H ranged l d));
  cap = amount _ (cap_fits default H ranged.low ranged.all l d);
}

page_range : (day : ℕ → ℕ) (default : ℕ) (H : List Entry) → IsRanged day default H → (d : ℕ) (after : List ℕ) → IsRows (map (row day default H d) (page day H d after))
page_range day default H ranged d after =
    let ls : List (List ℕ) = page day H d after in
    record {
      size = record { from = omega arith; to = omega (arith, length-map ls (row day default H d), page_few day H d after) };
      each = All-map IsRow (row day default H d) ls (All-from_recursion (λ l. IsRow (row day default H d l)) ls (all_of (λ l. IsRow (row day default H d l)) ls (λ l i.
          (let m = filter_map_in (λ (e : Entry). login_on day d e.request e.reply) H l (in_page day H d after l i).there in
          row_range day default H ranged d l (login_range day d l m.source.request m.source.reply (all_at (λ e. IsRequest e.request) H m.source ranged.all m.among) m.gives)))));
    }

pub answer_range : (day : ℕ → ℕ) (default : ℕ) (H : List Entry) → IsRanged day default H → (r : Request) → IsRequest r → IsReply (answer day default H r)
answer_range day default H ranged (Reserve id txn moment login count) h =
    let most = cap_fits default H ranged.low ranged.all login (day moment) in
    let n : ℕ = used day H login (day moment) in
    let limit : ℕ = cap default H login (day moment) in
    by_open IsReply H id txn moment login (granted_or_full id n limit count) h.0 h.0 (λ _. by_room IsReply id n limit count
    (h.0, amount _ (used_fits day default H ranged login (day moment)), amount _ most) (λ room. (h.0, amount _ (omega (arith, room, most)))))
answer_range day default H ranged (Settle id txn moment login count) h = by_open IsReply H id txn moment login (settled_or_too_many id (held H (transaction id txn)) count) h.0 h.0 (λ o.
    by_held IsReply id (held H (transaction id txn)) count (h.0, amount _ (held_fits day default H ranged id txn moment login o)) (λ _. (h.0, h.4)))
answer_range day default H ranged (Release id txn moment login) h = by_open IsReply H id txn moment login (Released id (held H (transaction id txn))) h.0 h.0 (λ o. (h.0, amount _ (held_fits day default H ranged id txn moment login o)))
answer_range day default H ranged (Limit id from c login) h =
    by_over IsReply day H id from c login (λ _. h.0) (λ d is. (h.0, over_range day default H ranged login from c d is, amount _ (used_fits day default H ranged login d)))
answer_range day default H ranged (Usage login d) h = (let r = row_range day default H ranged d login h.0 in (h.0, h.1, r.settled, r.reserved, r.cap))
answer_range day default H ranged (ListRequest d after) h = (h.0, page_range day default H ranged d after)
answer_range day default H ranged (Retire id) h = h

-- Legal histories.

pub legal_ranged : (day : ℕ → ℕ) (default : ℕ) (H : List Entry) → IsAmount default → IsDayRule day → IsLegal day default H → IsRanged day default H
legal_ranged day default H low days legal = record {
  good = legal_good day default H legal;
  low = low.to;
  days = days;
  all = recursion_from_All (λ e. IsRequest e.request) H legal.range;
}

-- the replies of entries
abbrev pub AreReplies : List Entry → Type 0
AreReplies H = AllByRecursion (λ e. IsReply e.reply) H

pub legal_replies : (day : ℕ → ℕ) (default : ℕ) (H : List Entry) → IsAmount default → IsDayRule day → IsLegal day default H → AreReplies H
legal_replies day default H low days legal =
    let P : List Entry → Type 0 = λ K. IsGood day default K × (AreRequests K → AreReplies K) in
    (of_legal day default P (legal_good day default [] (record { range = All-nil (λ e. IsRequest e.request); distinct = refl; built = refl }), λ _. tt) (λ K r p. (
      good_step day default K r p.0,
      λ all.
          (let was = all_but_last (λ e. IsRequest e.request) K (entry r (answer day default K r)) all in
          let ranged : IsRanged day default K = record { good = p.0; low = low.to; days = days; all = was.0 } in
          all_push (λ e. IsReply e.reply) K (entry r (answer day default K r)) (p.1 was.0) (answer_range day default K ranged r was.1)),
    )) H legal).1
    (recursion_from_All (λ e. IsRequest e.request) H legal.range)

-- Replies.

-- a request in range has a number in range
pub id_range : (r : Request) (id : Id) → IsRequest r → id_of r ≡ Some id → IsId id
id_range (Usage login d) id h e = absurd (none_some id e)
id_range (ListRequest d after) id h e = absurd (none_some id e)
id_range (Retire id') id h e = subst IsId (some_is _ _ e) h
id_range r id h e = subst IsId (some_is _ _ e) h.0

reply_by_range : (day : ℕ → ℕ) (default : ℕ) (H : List Entry) (r : Request) (id : Id) → IsReply (answer day default H r) → IsId id → AreReplies H → (o : Option Entry) → stored H id ≡ o → IsReply (reply_by day default H r id o)
reply_by_range day default H r id fresh number all None e = fresh
reply_by_range day default H r id fresh number all (Some x) e = elim (either (same_request r x.request)) [
  | inl t ↦ rw t (all_at (λ y. IsReply y.reply) H x all (found (λ y. has_id id y.request) H x e).0)
  | inr f ↦ rw f number
]

reply_to_range : (day : ℕ → ℕ) (default : ℕ) (H : List Entry) (r : Request) → IsReply (answer day default H r) → IsRequest r → AreReplies H → (o : Option Id) → id_of r ≡ o → IsReply (reply_to day default H r o)
reply_to_range day default H r fresh h all None e = fresh
reply_to_range day default H r fresh h all (Some id) e = elim (either (is_below (requests H) id)) [
  | inl t ↦ rw t (id_range r id h e)
  | inr f ↦ rw f (reply_by_range day default H r id fresh (id_range r id h e) all _ refl)
]

-- over a legal history every reply to a request in range is in range
pub reply_range : (day : ℕ → ℕ) (default : ℕ) (H : List Entry) (r : Request) → IsAmount default → IsDayRule day → IsLegal day default H → IsRequest r → IsReply (reply day default H r)
reply_range day default H r low days legal h =
    reply_to_range day default H r (answer_range day default H (legal_ranged day default H low days legal) r h) h (legal_replies day default H low days legal) _ refl
