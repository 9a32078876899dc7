-- What holds of a run holds once days before F are forgotten.
use Rattle.mq_world.proofs.Words.{Entry, In, IsLegal, List, Release, RepliesSuit, Reply, Request, Reserve, Settle, Source, Step, Transaction, ap, arith, clash, day_named, decides, either, false, id_of, in_filter, inl, inr, is_about, is_of, is_set, moment_of, named, nat_le, nat_tests}
use Rattle.mq_world.proofs.Words.{neither_first, option_cases, refl, remembered, same_transaction, some_is, stays, subst, sym, transaction, true, ℕ, ◌++◌, ◌∙◌, ◌≡◌, ◌≤◌, ◌⊎◌}
use Rattle.mq_request.specs.declared.message.Reply.TheVariants as reply
use Rattle.mq_forget.proofs.Lists.{filter_in}
use Rattle.mq_ledger.proofs.Basics.{found}
use Rattle.mq_world.proofs.Basics.{in_front, in_back, in_either}
use Rattle.mq_world.proofs.Known.{OfFrames, OfClients, OfLedgers}
use Rattle.mq_world.proofs.Numbers.{IsOwn}
use Rattle.mq_world.proofs.Grounds.{of_source, is_grant, GrantedIn, ground_kept}
use Rattle.mq_world.proofs.Runs.{Wrote, IsForgotten, Holds, AllSuit, same_id_by, own_by}
use Rattle.mq_world.proofs.Takes.{entry_moment}

-- what is remembered of a legal history is legal
abbrev pub OfForgetting : Type 0
OfForgetting = (day : ℕ → ℕ) (default D : ℕ) (H : List Entry) → IsLegal day default H → IsLegal day default (remembered day D H)

-- ---- the day of a run's transaction

own_day : (day : ℕ → ℕ) (H : List Entry) (t : Transaction) (moment : ℕ) → ((e : Entry) → In e H → is_of t e.request ≡ true → moment_of e.request ≡ moment) → day_named day moment (named H t) ≡ day moment
own_day day H t moment same = elim (option_cases (named H t)) [
  | inl none ↦ ap (day_named day moment) none
  | inr p ↦ (let f = found (λ x. is_of t x.request) H p.0 p.1 in ap (day_named day moment) p.1 ∙ ap day (same p.0 f.0 f.1))
]

-- where all entries of a transaction are of one moment, a request of it is about that day
about_own : OfLedgers → (day : ℕ → ℕ) (D : ℕ) (H : List Entry) (t : Transaction) (r : Request) → is_of t r ≡ true → ((e : Entry) → In e H → is_of t e.request ≡ true → moment_of e.request ≡ moment_of r) → is_about day D H r ≡ nat_le D (day (moment_of r))
about_own L day D H t (Reserve id txn moment login count) mine same = ap (nat_le D) (ap (λ u. day_named day moment (named H u)) (sym (L.same t (transaction id txn) mine)) ∙ own_day day H t moment same)
about_own L day D H t (Settle id txn moment login count) mine same = ap (nat_le D) (ap (λ u. day_named day moment (named H u)) (sym (L.same t (transaction id txn) mine)) ∙ own_day day H t moment same)
about_own L day D H t (Release id txn moment login) mine same = ap (nat_le D) (ap (λ u. day_named day moment (named H u)) (sym (L.same t (transaction id txn) mine)) ∙ own_day day H t moment same)
about_own L day D H t r mine same = absurd (clash false mine refl)

-- H is the history of the ledger that forgets, and G has the entries of the others
entry_about : {day : ℕ → ℕ} {F : ℕ} → OfClients → OfLedgers → (D : ℕ) (s : Source) (tries : ℕ) (P : List Step) (H G : List Entry) (sent written : List (List ℕ)) → Holds day F s tries P (H ++ G) sent written → (t : ℕ) (e : Entry) → In e H → is_of (of_source s t) e.request ≡ true
    → is_about day D H e.request ≡ nat_le D (day (moment_of e.request))
entry_about {day = day} C L D s tries P H G sent written h t e i mine =
    about_own L day D H (of_source s t) e.request mine
    (λ x j m. entry_moment C L s tries P (H ++ G) sent written h t x (in_front H G x j) m ∙ sym (entry_moment C L s tries P (H ++ G) sent written h t e (in_front H G e i) mine))

-- ---- of a granted reserve

-- the transaction of the run that a request is of
record IsOfRun (s : Source) (r : Request) : Type 0 where
  pub txn : ℕ
  pub is : is_of (of_source s txn) r ≡ true

-- an entry of the run that was granted is of a transaction
granted_of_run : OfLedgers → (s : Source) (r : Request) (a : Reply) → IsOwn s r → RepliesSuit r a → is_grant a ≡ true → IsOfRun s r
granted_of_run L s (Reserve id txn moment login count) a own suits g = record { txn = txn; is = subst (λ i. same_transaction (of_source s txn) (transaction i txn) ≡ true) (sym (some_is id (id_of s own.number) own.id)) (L.itself (of_source s txn)) }
granted_of_run L s r (reply.Granted j u) own suits g = absurd suits
granted_of_run L s r a own suits g = absurd (clash false g refl)

-- ---- the run after a forgetting

-- what stays, and the entries of the others
still_in : (day : ℕ → ℕ) (D : ℕ) (H G : List Entry) (e : Entry) → In e (remembered day D H ++ G) → In e (H ++ G)
still_in day D H G e i = elim (in_either (remembered day D H) G e i) [
  | inl j ↦ in_front H G e (filter_in (stays day D H) H e j).0
  | inr j ↦ in_back H G e j
]

stays_there : (day : ℕ → ℕ) (D : ℕ) (H G : List Entry) (e : Entry) → In e H → stays day D H e ≡ true → In e (remembered day D H ++ G)
stays_there day D H G e i y = in_front (remembered day D H) G e (in_filter (stays day D H) H e i y)

granted_kept : {day : ℕ → ℕ} {F : ℕ} → OfClients → OfLedgers → (D : ℕ) → D ≤ F → (s : Source) (tries : ℕ) (P : List Step) (H G : List Entry) (sent written : List (List ℕ)) → Holds day F s tries P (H ++ G) sent written → (n txn moment : ℕ) (login : List ℕ)
    → F ≤ day moment → GrantedIn s (H ++ G) n txn moment login → GrantedIn s (remembered day D H ++ G) n txn moment login
granted_kept {day = day} {F = F} C L D below s tries P H G sent written h n txn moment login on k =
    let own : is_of (of_source s txn) k.entry.request ≡ true = ap (is_of (of_source s txn)) k.request ∙ L.itself (of_source s txn) in
    let moment_is : moment_of k.entry.request ≡ moment = ap moment_of k.request in
    let late : nat_le D (day moment) ≡ true = grind (arith, nat_tests, below, on) in
    record {
      entry = k.entry;
      among = elim (in_either H G k.entry k.among) [
        | inl i ↦ (let yes : is_about day D H k.entry.request ≡ true = entry_about C L D s tries P H G sent written h txn k.entry i own ∙ ap (λ m. nat_le D (day m)) moment_is ∙ late in
            stays_there day D H G k.entry i (rw yes refl))
        | inr i ↦ in_back (remembered day D H) G k.entry i
      ];
      request = k.request;
      granted = k.granted;
    }

wrote_kept : {day : ℕ → ℕ} {F : ℕ} → OfClients → OfLedgers → OfFrames → (D : ℕ) → D ≤ F → (s : Source) (tries : ℕ) (P : List Step) (H G : List Entry) (sent written : List (List ℕ)) → AllSuit H → Holds day F s tries P (H ++ G) sent written → (a : Reply) (q : Request)
    → IsOwn s q → decides q a ≡ true → is_grant a ≡ true → Wrote (H ++ G) a → Wrote (remembered day D H ++ G) a ⊎ IsForgotten day F s P q
wrote_kept {day = day} {F = F} C L K D below s tries P H G sent written suits h a q own d g w =
    let e : Entry = w.entry in
    elim (in_either H G e w.among) [
      | inr i ↦ inl (record { entry = e; among = in_back (remembered day D H) G e i; is = w.is })
      | inl i ↦ (let fits : RepliesSuit e.request e.reply = suits e i in
          let same = same_id_by K s q e.request a own d (subst (RepliesSuit e.request) w.is fits) in
          let mine = own_by s q e.request own same in
          let of_run = granted_of_run L s e.request e.reply mine fits (ap is_grant w.is ∙ g) in
          elim (either (stays day D H e)) [
            | inl y ↦ inl (record { entry = e; among = stays_there day D H G e i y; is = w.is })
            | inr n ↦ (let off : is_about day D H e.request ≡ false = neither_first (is_about day D H e.request) (is_set e.request e.reply) n in
                let early : nat_le D (day (moment_of e.request)) ≡ false = sym (entry_about C L D s tries P H G sent written h of_run.txn e i of_run.is) ∙ off in
                inr (record { request = e.request; numbered = h.taken e w.among mine; same = same; earlier = grind (arith, nat_tests, below, early) }))
          ])
    ]

pub forgets_on : {day : ℕ → ℕ} {F : ℕ} → OfClients → OfLedgers → OfFrames → (D : ℕ) → D ≤ F → (s : Source) (tries : ℕ) (P : List Step) (H G : List Entry) (sent written : List (List ℕ)) → AllSuit H → Holds day F s tries P (H ++ G) sent written → Holds day F s tries P (remembered day D H ++ G) sent written
forgets_on {day = day} {F = F} C L K D below s tries P H G sent written suits h = record {
  steps = h.steps;
  sends = h.sends;
  taken = λ e i own. h.taken e (still_in day D H G e i) own;
  wrote = λ a q i range own d g. elim (h.wrote a q i range own d g) [
    | inl w ↦ wrote_kept C L K D below s tries P H G sent written suits h a q own d g w
    | inr f ↦ inr f
  ];
  ground = ground_kept day F s (H ++ G) (remembered day D H ++ G) (granted_kept C L D below s tries P H G sent written h) P h.ground;
}
