-- A ledger takes a request.
use Rattle.mq_world.proofs.Words.{Bool, Closed, Entry, HeldTransaction, Id, In, IsNumbered, IsReply, IsRequest, List, Live, Never, Release, RepliesSuit, Reply, Request, Reserve, Settle, Some, Source, TransactionState, Step, Suits, Transaction, [], answer, ap, appended, clash, closes, counted}
use Rattle.mq_world.proofs.Words.{either, ended, false, first_so, frame, id_in, id_of, inl, inr, is_of, ledger_id, moment_of, refl, reply_body, request_body, reserve_of, same_transaction, second_so, subst, sym, transaction, true, txn_in, view, ℕ, ◌&&◌, ◌++◌, ◌∙◌}
use Rattle.mq_world.proofs.Words.{◌∷◌, ◌≡◌, ◌⊎◌}
use Rattle.mq_request.specs.declared.message.Reply.TheVariants as reply
use Rattle.mq_ledger.proofs.Transactions.{entry}
use Rattle.mq_client.proofs.Basics.{of_closing}
use Rattle.mq_world.proofs.Basics.{in_front, in_back, in_either, any_found}
use Rattle.mq_world.proofs.Known.{OfFrames, OfClients, OfLedgers}
use Rattle.mq_world.proofs.Numbers.{IsOwn}
use Rattle.mq_world.proofs.Grounds.{of_source, at_of, ground_in}
use Rattle.mq_world.proofs.Runs.{is_settle, count_of, Holds}

-- ---- the requests of a transaction are its run's

own_id : (s : Source) (t : ℕ) (id : Id) (txn : ℕ) → of_source s t ≡ transaction id txn → id ≡ id_of s id.number
own_id s t id txn e =
    let host : s.host ≡ id.host = ap (λ (u : Transaction). u.host) e in
    let run : s.run ≡ id.run = ap (λ (u : Transaction). u.run) e in
    λ i. record { host = sym host i; run = sym run i; number = id.number }

of_own : OfLedgers → (s : Source) (t : ℕ) (id : Id) (txn : ℕ) → same_transaction (of_source s t) (transaction id txn) ≡ true → (id ≡ id_of s id.number) × (txn ≡ t)
of_own L s t id txn mine =
    let e = L.same (of_source s t) (transaction id txn) mine in
    (own_id s t id txn e, sym (ap (λ (u : Transaction). u.txn) e))

pub of_source_own : OfLedgers → (s : Source) (t : ℕ) (r : Request) → is_of (of_source s t) r ≡ true → IsOwn s r × (txn_in r ≡ Some t)
of_source_own L s t (Reserve id txn moment login count) mine = let o = of_own L s t id txn mine in (record { number = id.number; id = ap Some o.0 }, ap Some o.1)
of_source_own L s t (Settle id txn moment login count) mine = let o = of_own L s t id txn mine in (record { number = id.number; id = ap Some o.0 }, ap Some o.1)
of_source_own L s t (Release id txn moment login) mine = let o = of_own L s t id txn mine in (record { number = id.number; id = ap Some o.0 }, ap Some o.1)
of_source_own L s t r mine = absurd (clash false mine refl)

-- a number under which a request suits its transaction
pub record SuitsUnder (s : Source) (t : ℕ) (st : TransactionState) (q : Request) : Type 0 where
  pub number : ℕ
  pub id : id_in q ≡ Some (id_of s number)
  pub suits : Suits s number t st q

-- what each entry of a run's transaction is
pub entry_suits : {day : ℕ → ℕ} {F : ℕ} → OfClients → OfLedgers → (s : Source) (tries : ℕ) (P : List Step) (H : List Entry) (sent written : List (List ℕ)) → Holds day F s tries P H sent written → (t : ℕ) (e : Entry) → In e H → is_of (of_source s t) e.request ≡ true → SuitsUnder s t ((view s P).standing t) e.request
entry_suits C L s tries P H sent written h t e i mine =
    let o = of_source_own L s t e.request mine in
    let n = h.taken e i o.0 in
    record { number = n.number; id = n.id; suits = C.suits s tries P h.steps.underway h.steps.returns n.number t e.request n.under o.1 }

-- ---- all requests of a transaction are of its moment

pub suits_moment : (s : Source) (n t : ℕ) (st : TransactionState) (q : Request) → Suits s n t st q → moment_of q ≡ at_of st
suits_moment s n t Never q u = absurd u
suits_moment s n t (Live h) q u = ap moment_of u
suits_moment s n t (Closed end number h) q (inl r) = ap moment_of r
suits_moment s n t (Closed end number h) q (inr p) = ap moment_of p.1 ∙ of_closing (λ r. moment_of r ≡ h.moment) s n t end h refl refl

pub entry_moment : {day : ℕ → ℕ} {F : ℕ} → OfClients → OfLedgers → (s : Source) (tries : ℕ) (P : List Step) (H : List Entry) (sent written : List (List ℕ)) → Holds day F s tries P H sent written → (t : ℕ) (e : Entry) → In e H → is_of (of_source s t) e.request ≡ true → moment_of e.request ≡ at_of ((view s P).standing t)
entry_moment C L s tries P H sent written h t e i mine =
    let u = entry_suits C L s tries P H sent written h t e i mine in
    suits_moment s u.number t ((view s P).standing t) e.request u.suits

-- ---- requests of an ended transaction

pub is_closing : Request → Bool
is_closing (Settle id txn moment login count) = true
is_closing (Release id txn moment login) = true
is_closing _ = false

closes_closing : (r : Request) (a : Reply) → RepliesSuit r a → closes a ≡ true → is_closing r ≡ true
unfolding is_closing
closes_closing (Settle id txn moment login count) a h c = refl
closes_closing (Release id txn moment login) a h c = refl
closes_closing r (reply.Settled i n) h c = absurd h
closes_closing r (reply.Released i n) h c = absurd h
closes_closing r a h c = absurd (clash false c refl)

-- a transaction none of whose entries closed it wasn't settled or released
pub not_ended : (H : List Entry) (t : Transaction) → ((e : Entry) → In e H → is_of t e.request ≡ true → closes e.reply ≡ false) → ended H t ≡ false
not_ended H t none = elim (either (ended H t)) [
  | inr f ↦ f
  | inl y ↦ (let f = any_found (λ e. is_of t e.request && closes e.reply) H y in
      let mine = first_so (is_of t f.0.request) (closes f.0.reply) f.1.1 in
      let shut = second_so (is_of t f.0.request) (closes f.0.reply) f.1.1 in
      absurd (clash (closes f.0.reply) shut (none f.0 f.1.0 mine)))
]

-- a reserve closes nothing
pub closes_not : (r : Request) (a : Reply) → RepliesSuit r a → is_closing r ≡ false → closes a ≡ false
closes_not r a h n = elim (either (closes a)) [ inr f ↦ f | inl y ↦ absurd (clash (is_closing r) (closes_closing r a h y) n) ]

pub reserve_closes : (s : Source) (n t : ℕ) (h : HeldTransaction) (q : Request) → q ≡ reserve_of s n t h.moment h.login → is_closing q ≡ false
unfolding is_closing
reserve_closes s n t h q e = ap is_closing e

-- a settle that closed its transaction was settled
pub closes_settled : (r : Request) (a : Reply) → RepliesSuit r a → closes a ≡ true → is_settle r ≡ true → counted r a ≡ count_of r
closes_settled (Settle id txn moment login count) (reply.Settled i n) h c y = refl
closes_settled (Settle id txn moment login count) (reply.Released i n) h c y = absurd h
closes_settled (Settle id txn moment login count) a h c y = absurd (clash false c refl)
closes_settled r a h c y = absurd (clash false y refl)

-- the ledger goes by the number that the client gave
pub ledger_number : (q : Request) → ledger_id q ≡ id_in q
ledger_number (Reserve id txn moment login count) = refl
ledger_number q = refl

-- ---- a new request

pool_push : (H G : List Entry) (e x : Entry) → In x ((H ++ e ∷ []) ++ G) → In x (H ++ G) ⊎ (e ≡ x)
pool_push H G e x i = elim (in_either (H ++ e ∷ []) G x i) [
  | inl j ↦ elim (in_either H (e ∷ []) x j) [ inl k ↦ inl (in_front H G x k) | inr (inl same) ↦ inr same | inr (inr k) ↦ absurd k ]
  | inr k ↦ inl (in_back H G x k)
]

pool_more : (H G : List Entry) (e x : Entry) → In x (H ++ G) → In x ((H ++ e ∷ []) ++ G)
pool_more H G e x i = elim (in_either H G x i) [
  | inl j ↦ in_front (H ++ e ∷ []) G x (in_front H (e ∷ []) x j)
  | inr k ↦ in_back (H ++ e ∷ []) G x k
]

-- H is the history of the ledger that takes it, and G has the entries of the others
pub takes_new : {F : ℕ} → (day : ℕ → ℕ) (default : ℕ) → OfFrames → (s : Source) (tries : ℕ) (P : List Step) (H G : List Entry) (sent written : List (List ℕ)) (q : Request)
    → In (frame (request_body q)) sent → IsRequest q → IsReply (answer day default H q) → Holds day F s tries P (H ++ G) sent written
    → Holds day F s tries P (appended day default H q ++ G) sent (frame (reply_body (answer day default H q)) ∷ written)
takes_new {F = since} day default F s tries P H G sent written q was range fits h =
    let a : Reply = answer day default H q in
    let e : Entry = entry q a in
    record {
      steps = h.steps;
      sends = h.sends;
      taken = λ x i own. elim (pool_push H G e x i) [
        | inl j ↦ h.taken x j own
        | inr same ↦ (let r : q ≡ x.request = ap (λ (y : Entry). y.request) same in subst (IsNumbered s P) r (h.sends q was range (subst (IsOwn s) (sym r) own)))
      ];
      wrote = λ b r i k own d g. elim i [
        | inl same ↦ inl (record { entry = e; among = in_front (H ++ e ∷ []) G e (in_back H (e ∷ []) e (inl refl)); is = F.one_reply a b fits k same })
        | inr j ↦ elim (h.wrote b r j k own d g) [ inl o ↦ inl (record { entry = o.entry; among = pool_more H G e o.entry o.among; is = o.is }) | inr z ↦ inr z ]
      ];
      ground = ground_in day since s (H ++ G) ((H ++ e ∷ []) ++ G) (pool_more H G e) P h.ground;
    }
