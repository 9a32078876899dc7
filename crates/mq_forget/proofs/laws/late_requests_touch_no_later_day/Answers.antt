-- A history and what is remembered of it, while later requests come, and those of earlier days late or again.
use Rattle.mq_forget.proofs.Words.{All, All-from_recursion, AllByRecursion, AreLaterOrPast, Bool, Entry, Id, In, IsLegal, IsRequest, Limit, List, None, Option, Release, Reply, Request, Reserve, Retire, Settle, Some, Transaction, [], all_push, answer, ap, append-nil, append_assoc, arith}
use Rattle.mq_forget.proofs.Words.{arrival_of_known, day_named, either, entry, false, filter_in, find, find-append, first_so, fresh_reply, has_id, history_of, id_of, if◌then◌else◌, inl, inr, is_about, is_below, is_later, is_later_by, is_not, is_of, is_past, is_remembered, is_set, is_some, known_by}
use Rattle.mq_forget.proofs.Words.{moment_of, named, nat_le, neither, not, not_found, not_some, option_cases, option_or, or_second, recursion_from_All, refl, remembered, reply, reply_by, reply_to, requests, second_so, stays, stored, subst, sym, transaction, true, with_arrival, with_arrival_by, ℕ}
use Rattle.mq_forget.proofs.Words.{◌&&◌, ◌++◌, ◌||◌, ◌∙◌, ◌∷◌, ◌≡◌, ◌⊎◌}
use Rattle.std.specs.Prelude.{is_none}
use Rattle.mq_lemmas.proofs.Booleans.{clash, either_of}
use Rattle.mq_lemmas.proofs.Options.{none_some}
use Rattle.mq_lemmas.proofs.Lists.{in_filter}
use Rattle.mq_request.specs.Same.{same_request}
use Rattle.mq_request.specs.declared.message.Reply.TheVariants.{Conflict}
use Rattle.mq_ledger.proofs.Basics.{found}
use Rattle.mq_forget.specs.Remembered.{names_earlier, is_itself, is_itself_by, is_used_since, is_heard_since, is_of_one_since, is_late, AreLaterOrLateSince, AreLaterOrLate, stays_if, is_of_no_forgotten}
use Rattle.mq_forget.proofs.Lists.{find_none, find_some}
use Rattle.mq_forget.proofs.Staying.{same_below, stays_before, stays_itself, later_alike, early_lost, unheard_alike}
use Rattle.mq_forget.proofs.Growing.{in_range}
use Rattle.mq_forget.proofs.Fronts.{Builds}
use Rattle.mq_forget.proofs.laws.late_requests_touch_no_later_day.Goals as goal

none_of : {A : Type 0} (o : Option A) → is_none o ≡ true → o ≡ None
none_of None e = refl
none_of (Some x) e = absurd (cc e)

-- ---- finding, with one element more

push_some : {X : Type 0} (p : X → Bool) (xs : List X) (y e : X) → find p xs ≡ Some e → find p (xs ++ y ∷ []) ≡ Some e
push_some p xs y e h = find-append p xs (y ∷ []) ∙ ap (λ o. option_or o (find p (y ∷ []))) h

push_last : {X : Type 0} (p : X → Bool) (xs : List X) (y : X) → find p xs ≡ None → find p (xs ++ y ∷ []) ≡ (if p y then Some y else None)
push_last p xs y h = find-append p xs (y ∷ []) ∙ ap (λ o. option_or o (find p (y ∷ []))) h

push_new : {X : Type 0} (p : X → Bool) (xs : List X) (y : X) → find p xs ≡ None → p y ≡ true → find p (xs ++ y ∷ []) ≡ Some y
push_new p xs y h t = push_last p xs y h ∙ ap (λ b. if b then Some y else None) t

push_none : {X : Type 0} (p : X → Bool) (xs : List X) (y : X) → find p xs ≡ None → p y ≡ false → find p (xs ++ y ∷ []) ≡ None
push_none p xs y h f = push_last p xs y h ∙ ap (λ b. if b then Some y else None) f

none_before : {X : Type 0} (p : X → Bool) (xs : List X) (y : X) → find p (xs ++ y ∷ []) ≡ None → (find p xs ≡ None) × (p y ≡ false)
none_before p xs y h = elim (option_cases (find p xs)) [
  | inr e ↦ absurd (none_some e.0 (sym h ∙ push_some p xs y e.0 e.1))
  | inl none ↦ elim (either (p y)) [
    | inl t ↦ absurd (none_some y (sym h ∙ push_new p xs y none t))
    | inr f ↦ (none, f)
  ]
]

-- ---- two histories

-- the request is about an earlier day by its own words, or of a transaction first heard of after G
abbrev IsOwn : (day : ℕ → ℕ) → (D : ℕ) → (G H : List Entry) → Request → Type 0
IsOwn day D G H r = (names_earlier day D r || is_of_one_since G H r) ≡ true

-- the first entry that is so in K has the same request
abbrev SameThere : (p : Entry → Bool) → List Entry → Entry → Type 0
SameThere p K e = (x : Entry) × (find p K ≡ Some x) × (x.request ≡ e.request)

-- the same is remembered of both, each entry of H that stays is found in K, and what H doesn't know K doesn't; H begins
-- with G, and of what was first used or heard of after it K has the same request
record Alike (day : ℕ → ℕ) (D : ℕ) (G H K : List Entry) : Type 0 where
  pub whole : (rest : List Entry) × (G ++ rest ≡ H)
  pub same : remembered day D K ≡ remembered day D H
  pub kept : (id : Id) (e : Entry) → stored H id ≡ Some e → stays day D H e ≡ true → stored K id ≡ Some e
  pub none : (id : Id) → stored H id ≡ None → stored K id ≡ None
  pub unheard : (t : Transaction) → named H t ≡ None → named K t ≡ None
  pub used : (id : Id) → stored G id ≡ None → (e : Entry) → stored H id ≡ Some e → SameThere (λ x. has_id id x.request) K e
  pub heard : (t : Transaction) → named G t ≡ None → (e : Entry) → named H t ≡ Some e → SameThere (λ x. is_of t x.request) K e

alike_at_first : (day : ℕ → ℕ) (D : ℕ) (H : List Entry) → remembered day D (remembered day D H) ≡ remembered day D H → Alike day D H H (remembered day D H)
alike_at_first day D H same = record {
  whole = ([], append-nil H);
  used = λ id none e h. absurd (none_some e (sym none ∙ h));
  heard = λ t none e h. absurd (none_some e (sym none ∙ h));
  same = same;
  kept = λ id e h stay. find_some (λ x. has_id id x.request) (stays day D H) H e h stay;
  none = λ id h. find_none (λ x. has_id id x.request) (stays day D H) H h;
  unheard = λ t h. find_none (λ x. is_of t x.request) (stays day D H) H h;
}

module _ (day : ℕ → ℕ) (D : ℕ) (G H K : List Entry) (h : Alike day D G H K) where
  below_alike : (id : Id) → is_below (requests K) id ≡ is_below (requests H) id
  below_alike id = sym (same_below day D K id) ∙ ap (λ x. is_below (requests x) id) h.same ∙ same_below day D H id

  -- a transaction of D or a later day is one over both
  named_later : (t : Transaction) (moment : ℕ) → nat_le D (day_named day moment (named H t)) ≡ true → nat_le D (day_named day moment (named K t)) ≡ true
  named_later t moment later = elim (option_cases (named H t)) [
    | inl none ↦ ap (λ o. nat_le D (day_named day moment o)) (h.unheard t none ∙ sym none) ∙ later
    | inr p ↦ (let day_is : nat_le D (day (moment_of p.0.request)) ≡ true = ap (λ o. nat_le D (day_named day moment o)) (sym p.1) ∙ later in
        let there : named (remembered day D K) t ≡ Some p.0 = ap (λ x. named x t) h.same ∙ (later_alike day D H t p.0 p.1 day_is).named ∙ p.1 in
        elim (option_cases (named K t)) [
          | inl none ↦ absurd (none_some p.0 (sym none ∙ sym (unheard_alike day D K t none).named ∙ there))
          | inr q ↦ elim (either (nat_le D (day (moment_of q.0.request)))) [
            | inl y ↦ ap (λ o. nat_le D (day_named day moment o)) q.1 ∙ y
            | inr n ↦ absurd (none_some p.0 (sym (early_lost day D K t q.0 q.1 n) ∙ there))
          ]
        ])
  ]

  -- one of an earlier day is of none that is later over the other
  named_early : (t : Transaction) (moment : ℕ) → nat_le D (day moment) ≡ false → nat_le D (day_named day moment (named H t)) ≡ false → nat_le D (day_named day moment (named K t)) ≡ false
  named_early t moment own early = elim (option_cases (named K t)) [
    | inl none ↦ ap (λ o. nat_le D (day_named day moment o)) none ∙ own
    | inr q ↦ elim (either (nat_le D (day (moment_of q.0.request)))) [
      | inr n ↦ ap (λ o. nat_le D (day_named day moment o)) q.1 ∙ n
      | inl y ↦ (let there : named (remembered day D H) t ≡ Some q.0 = ap (λ x. named x t) (sym h.same) ∙ (later_alike day D K t q.0 q.1 y).named ∙ q.1 in
          elim (option_cases (named H t)) [
            | inl none ↦ absurd (none_some q.0 (sym none ∙ sym (unheard_alike day D H t none).named ∙ there))
            | inr p ↦ (let day_is : nat_le D (day (moment_of p.0.request)) ≡ false = ap (λ o. nat_le D (day_named day moment o)) (sym p.1) ∙ early in
                absurd (none_some q.0 (sym (early_lost day D H t p.0 p.1 day_is) ∙ there)))
          ])
    ]
  ]

  about_later : (r : Request) → is_about day D H r ≡ true → is_about day D K r ≡ true
  about_later (Reserve id txn moment login count) e = named_later (transaction id txn) moment e
  about_later (Settle id txn moment login count) e = named_later (transaction id txn) moment e
  about_later (Release id txn moment login) e = named_later (transaction id txn) moment e
  about_later r e = e

  -- nor is one of which K heard with the same request
  heard_early : (t : Transaction) (moment : ℕ) → is_heard_since G H t ≡ true → nat_le D (day_named day moment (named H t)) ≡ false → nat_le D (day_named day moment (named K t)) ≡ false
  heard_early t moment since early = elim (option_cases (named H t)) [
    | inl none ↦ absurd (clash (is_some (named H t)) (first_so (is_some (named H t)) (is_none (named G t)) since) (ap is_some none))
    | inr p ↦ (let (x, there, same) = h.heard t (none_of (named G t) (second_so (is_some (named H t)) (is_none (named G t)) since)) p.0 p.1 in
        ap (λ o. nat_le D (day_named day moment o)) there ∙ ap (λ q. nat_le D (day (moment_of q))) same ∙ ap (λ o. nat_le D (day_named day moment o)) (sym p.1) ∙ early)
  ]

  early_by : (t : Transaction) (moment : ℕ) → (not (nat_le D (day moment)) || is_heard_since G H t) ≡ true → nat_le D (day_named day moment (named H t)) ≡ false → nat_le D (day_named day moment (named K t)) ≡ false
  early_by t moment own early = elim (either_of (not (nat_le D (day moment))) (is_heard_since G H t) own) [
    | inl n ↦ named_early t moment (is_not (nat_le D (day moment)) n) early
    | inr since ↦ heard_early t moment since early
  ]

  about_late : (r : Request) → IsOwn day D G H r → is_about day D H r ≡ false → is_about day D K r ≡ false
  about_late (Reserve id txn moment login count) own e = early_by (transaction id txn) moment own e
  about_late (Settle id txn moment login count) own e = early_by (transaction id txn) moment own e
  about_late (Release id txn moment login) own e = early_by (transaction id txn) moment own e
  about_late (Limit id from c login) own e = absurd (clash false own refl)
  about_late (Retire id) own e = absurd (clash false own refl)
  about_late r own e = e

  -- an entry of H that stays, stays in K
  stays_there : (e : Entry) → In e H → stays day D H e ≡ true → stays day D K e ≡ true
  stays_there e i stay =
      let there : In e (remembered day D K) = subst (λ x. In e x) (sym h.same) (in_filter (stays day D H) H e i stay) in
      (filter_in (stays day D K) K e there).1

  later_by : (r : Request) (o : Option Id) → is_later_by day D H r o ≡ true → is_later_by day D K r o ≡ true
  later_by r None e = about_later r e
  later_by r (Some id) e = elim (either (is_below (requests H) id)) [
    | inl old ↦ (let there : is_below (requests K) id ≡ true = below_alike id ∙ old in rw there refl)
    | inr above ↦ (let there : is_below (requests K) id ≡ false = below_alike id ∙ above in
        let late : is_remembered day D H r (stored H id) ≡ true = rw above at e in
        elim (option_cases (stored H id)) [
          | inl none ↦ (let about : is_about day D K r ≡ true = about_later r (ap (is_remembered day D H r) (sym none) ∙ late) in
              let k : is_remembered day D K r (stored K id) ≡ true = ap (is_remembered day D K r) (h.none id none) ∙ about in
              rw there k)
          | inr p ↦ (let stay : stays day D H p.0 ≡ true = ap (is_remembered day D H r) (sym p.1) ∙ late in
              let i = (found (λ x. has_id id x.request) H p.0 p.1).0 in
              let k : is_remembered day D K r (stored K id) ≡ true = ap (is_remembered day D K r) (h.kept id p.0 p.1 stay) ∙ stays_there p.0 i stay in
              rw there k)
        ])
  ]

  later_both : (r : Request) → is_later day D H r ≡ true → is_later day D K r ≡ true
  later_both r e = later_by r (id_of r) e

-- ---- a late request

sets_none : (day : ℕ → ℕ) (D : ℕ) (G H : List Entry) (r : Request) (a : Reply) → IsOwn day D G H r → is_set r a ≡ false
sets_none day D G H (Limit id from c login) a own = absurd (clash false own refl)
sets_none day D G H r a own = refl

record IsLate (day : ℕ → ℕ) (D : ℕ) (G H : List Entry) (r : Request) : Type 0 where
  pub own : IsOwn day D G H r
  pub about : is_about day D H r ≡ false
  pub itself : is_itself_by H r (id_of r) ≡ true

late_parts : (day : ℕ → ℕ) (D : ℕ) (G H : List Entry) (r : Request) → is_late day D G H r ≡ true → IsLate day D G H r
late_parts day D G H r e =
    let first : Bool = names_earlier day D r || is_of_one_since G H r in
    let both : (first && not (is_about day D H r)) ≡ true = first_so (first && not (is_about day D H r)) (is_itself_by H r (id_of r)) e in
    record {
      own = first_so first (not (is_about day D H r)) both;
      about = is_not (is_about day D H r) (second_so first (not (is_about day D H r)) both);
      itself = second_so (first && not (is_about day D H r)) (is_itself_by H r (id_of r)) e;
    }

past_if : (day : ℕ → ℕ) (default D : ℕ) (G H K : List Entry) (r : Request) → IsOwn day D G H r → is_about day D K r ≡ false → is_past day default D K r ≡ true
past_if day default D G H K r own about = let none : is_set r (reply day default K r) ≡ false = sets_none day D G H r (reply day default K r) own in rw (about, none) refl

-- ---- one arrival

abbrev pub Later : (day : ℕ → ℕ) → (default : ℕ) → (D : ℕ) → Type 0
Later day default D = (H : List Entry) (r : Request) → IsLegal day default H → is_later day D H r ≡ true → (reply day default (remembered day D H) r ≡ reply day default H r) × (with_arrival day default (remembered day D H) r ≡ remembered day D (with_arrival day default H r))

abbrev pub Past : (day : ℕ → ℕ) → (default : ℕ) → (D : ℕ) → Type 0
Past day default D = (H : List Entry) (r : Request) → is_past day default D H r ≡ true → remembered day D (with_arrival day default H r) ≡ remembered day D H

-- what comes is later over both, or late, or known to both
abbrev Comes : (day : ℕ → ℕ) → (D : ℕ) → (G H K : List Entry) → Request → Type 0
Comes day D G H K r = ((is_later day D H r ≡ true) × (is_later day D K r ≡ true)) ⊎ (IsLate day D G H r ⊎ ((known_by H (id_of r) ≡ true) × (known_by K (id_of r) ≡ true)))

module _ (day : ℕ → ℕ) (default : ℕ) (laws : Builds day default) (D : ℕ) (G : List Entry) (one : Later day default D) (past : Past day default D) (is_same : (q r : Request) → same_request q r ≡ true → q ≡ r) where
  same_after : (H K : List Entry) (r : Request) → IsLegal day default H → IsLegal day default K → Alike day D G H K → Comes day D G H K r → remembered day D (with_arrival day default K r) ≡ remembered day D (with_arrival day default H r)
  same_after H K r legal_H legal_K h (inl late) = sym (one K r legal_K late.1).1 ∙ ap (λ x. with_arrival day default x r) h.same ∙ (one H r legal_H late.0).1
  same_after H K r legal_H legal_K h (inr (inr known)) = ap (remembered day D) (arrival_of_known day default K r (id_of r) known.1) ∙ h.same ∙ sym (ap (remembered day D) (arrival_of_known day default H r (id_of r) known.0))
  same_after H K r legal_H legal_K h (inr (inl l)) =
      past K r (past_if day default D G H K r l.own (about_late day D G H K h r l.own l.about)) ∙ h.same ∙ sym (past H r (past_if day default D G H H r l.own l.about))

  -- H has the request, and K takes it once more
  taken_again : (H K : List Entry) (r : Request) (a : Reply) (e : Entry) → In e H → r ≡ e.request → remembered day D (K ++ entry r a ∷ []) ≡ remembered day D H → Alike day D G H K → Alike day D G H (K ++ entry r a ∷ [])
  taken_again H K r a e i is same h = record {
    same = same;
    kept = λ id x there stay. push_some (λ y. has_id id y.request) K (entry r a) x (h.kept id x there stay);
    none = λ id none. push_none (λ y. has_id id y.request) K (entry r a) (h.none id none) (ap (has_id id) is ∙ not_found (λ y. has_id id y.request) H e none i);
    unheard = λ t none. push_none (λ y. is_of t y.request) K (entry r a) (h.unheard t none) (ap (is_of t) is ∙ not_found (λ y. is_of t y.request) H e none i);
    whole = h.whole;
    used = λ id none x there. (let (y, found_y, same_y) = h.used id none x there in (y, push_some (λ z. has_id id z.request) K (entry r a) y found_y, same_y));
    heard = λ t none x there. (let (y, found_y, same_y) = h.heard t none x there in (y, push_some (λ z. is_of t z.request) K (entry r a) y found_y, same_y));
  }

  -- the first entry that is so has the same request in both, with one more of the same request at the end
  pushed_there : (p : Request → Bool) (H K : List Entry) (r : Request) (a b : Reply) → (find (λ x. p x.request) H ≡ None → find (λ x. p x.request) K ≡ None) → ((e : Entry) → find (λ x. p x.request) H ≡ Some e → SameThere (λ x. p x.request) K e)
      → (e : Entry) → find (λ x. p x.request) (H ++ entry r a ∷ []) ≡ Some e → SameThere (λ x. p x.request) (K ++ entry r b ∷ []) e
  pushed_there p H K r a b none before e there = elim (option_cases (find (λ x. p x.request) H)) [
    | inr q ↦ (let is : q.0 ≡ e = (let both : Some q.0 ≡ Some e = sym (push_some (λ x. p x.request) H (entry r a) q.0 q.1) ∙ there in cc both) in
        let (y, found_y, same_y) = before e (q.1 ∙ ap Some is) in (y, push_some (λ x. p x.request) K (entry r b) y found_y, same_y))
    | inl new ↦ elim (either (p r)) [
      | inl mine ↦ (let is : entry r a ≡ e = (let both : Some (entry r a) ≡ Some e = sym (push_new (λ x. p x.request) H (entry r a) new mine) ∙ there in cc both) in
          (entry r b, push_new (λ x. p x.request) K (entry r b) (none new) mine, ap (λ (x : Entry). x.request) is))
      | inr other ↦ absurd (none_some e (sym (push_none (λ x. p x.request) H (entry r a) new other) ∙ there))
    ]
  ]

  -- both take it, with the same answer where it stays
  both_take : (H K : List Entry) (r : Request) (a b : Reply) → (stays day D H (entry r a) ≡ true → b ≡ a) → remembered day D (K ++ entry r b ∷ []) ≡ remembered day D (H ++ entry r a ∷ []) → Alike day D G H K → Alike day D G (H ++ entry r a ∷ []) (K ++ entry r b ∷ [])
  both_take H K r a b answered same h = record {
    same = same;
    kept = λ id x there stay. elim (option_cases (stored H id)) [
      | inr p ↦ (let is : p.0 ≡ x = (let both : Some p.0 ≡ Some x = sym (push_some (λ y. has_id id y.request) H (entry r a) p.0 p.1) ∙ there in cc both) in
          let stored_x : stored H id ≡ Some x = p.1 ∙ ap Some is in
          let i = (found (λ y. has_id id y.request) H x stored_x).0 in
          push_some (λ y. has_id id y.request) K (entry r b) x (h.kept id x stored_x (sym (stays_before day D H (entry r a ∷ []) x i) ∙ stay)))
      | inl none ↦ elim (either (has_id id r)) [
        | inl mine ↦ (let is : entry r a ≡ x = (let both : Some (entry r a) ≡ Some x = sym (push_new (λ y. has_id id y.request) H (entry r a) none mine) ∙ there in cc both) in
            let stay_r : stays day D H (entry r a) ≡ true = sym (stays_itself day D H (entry r a)) ∙ ap (stays day D (H ++ entry r a ∷ [])) is ∙ stay in
            push_new (λ y. has_id id y.request) K (entry r b) (h.none id none) mine ∙ ap (λ z. Some (entry r z)) (answered stay_r) ∙ ap Some is)
        | inr other ↦ absurd (none_some x (sym (push_none (λ y. has_id id y.request) H (entry r a) none other) ∙ there))
      ]
    ];
    none = λ id none. (let b4 = none_before (λ y. has_id id y.request) H (entry r a) none in push_none (λ y. has_id id y.request) K (entry r b) (h.none id b4.0) b4.1);
    unheard = λ t none. (let b4 = none_before (λ y. is_of t y.request) H (entry r a) none in push_none (λ y. is_of t y.request) K (entry r b) (h.unheard t b4.0) b4.1);
    whole = (h.whole.0 ++ entry r a ∷ [], sym (append_assoc G h.whole.0 (entry r a ∷ [])) ∙ ap (λ x. x ++ entry r a ∷ []) h.whole.1);
    used = λ id none e there. pushed_there (has_id id) H K r a b (h.none id) (h.used id none) e there;
    heard = λ t none e there. pushed_there (is_of t) H K r a b (h.unheard t) (h.heard t none) e there;
  }

  -- where H knows the number and K doesn't, the request is late and stands in H
  stands : (H K : List Entry) (r : Request) (id : Id) → id_of r ≡ Some id → Alike day D G H K → Comes day D G H K r → known_by H (Some id) ≡ true → known_by K (Some id) ≡ false → (e : Entry) × In e H × (r ≡ e.request)
  stands H K r id number h comes known new =
      let parts = neither (is_below (requests K) id) (is_some (stored K id)) new in
      let above : is_below (requests H) id ≡ false = sym (below_alike day D G H K h id) ∙ parts.0 in
      let lost : stored K id ≡ None = not_some (stored K id) parts.1 in
      elim (option_cases (stored H id)) [
        | inl none ↦ absurd (let off : known_by H (Some id) ≡ false = rw (above, none) refl in clash (known_by H (Some id)) known off)
        | inr p ↦ (let i = (found (λ y. has_id id y.request) H p.0 p.1).0 in
            elim comes [
              | inl late ↦ absurd (
                  let l : is_later_by day D H r (Some id) ≡ true = ap (is_later_by day D H r) (sym number) ∙ late.0 in
                  let m : is_remembered day D H r (stored H id) ≡ true = rw above at l in
                  let stay : stays day D H p.0 ≡ true = ap (is_remembered day D H r) (sym p.1) ∙ m in
                  none_some p.0 (sym lost ∙ h.kept id p.0 p.1 stay))
              | inr (inr both) ↦ absurd (clash (known_by K (Some id)) (ap (known_by K) (sym number) ∙ both.1) new)
              | inr (inl l) ↦ (let itself : is_itself r (stored H id) ≡ true = ap (is_itself_by H r) (sym number) ∙ l.itself in
                  let m : same_request r p.0.request ≡ true = ap (is_itself r) (sym p.1) ∙ itself in
                  (p.0, i, is_same r p.0.request m))
            ])
      ]

  answers_alike : (H K : List Entry) (r : Request) (id : Id) → id_of r ≡ Some id → IsLegal day default H → IsLegal day default K → Alike day D G H K → Comes day D G H K r → known_by H (Some id) ≡ false → known_by K (Some id) ≡ false
      → stays day D H (entry r (answer day default H r)) ≡ true → answer day default K r ≡ answer day default H r
  answers_alike H K r id number legal_H legal_K h (inl late) new_H new_K stay =
      let at_H : reply day default H r ≡ answer day default H r = fresh_reply day default H r (id_of r) (ap (known_by H) number ∙ new_H) in
      let at_K : reply day default K r ≡ answer day default K r = fresh_reply day default K r (id_of r) (ap (known_by K) number ∙ new_K) in
      sym at_K ∙ sym (one K r legal_K late.1).0 ∙ ap (λ x. reply day default x r) h.same ∙ (one H r legal_H late.0).0 ∙ at_H
  answers_alike H K r id number legal_H legal_K h (inr (inr both)) new_H new_K stay = absurd (clash (known_by H (Some id)) (ap (known_by H) (sym number) ∙ both.0) new_H)
  answers_alike H K r id number legal_H legal_K h (inr (inl l)) new_H new_K stay =
      let none : is_set r (answer day default H r) ≡ false = sets_none day D G H r (answer day default H r) l.own in
      let about = l.about in
      let off : stays day D H (entry r (answer day default H r)) ≡ false = rw (about, none) refl in
      absurd (clash (stays day D H (entry r (answer day default H r))) stay off)

  alike_by : (H K : List Entry) (r : Request) (o : Option Id) → id_of r ≡ o → IsLegal day default H → IsLegal day default K → Alike day D G H K → Comes day D G H K r
      → remembered day D (with_arrival_by day default K r o) ≡ remembered day D (with_arrival_by day default H r o) → Alike day D G (with_arrival_by day default H r o) (with_arrival_by day default K r o)
  alike_by H K r None number legal_H legal_K h comes same = h
  alike_by H K r (Some id) number legal_H legal_K h comes same = elim (either (known_by H (Some id))) [
    | inl known ↦ elim (either (known_by K (Some id))) [
      | inl there ↦ rw (known, there) h
      | inr new ↦ (let same_now : remembered day D (K ++ entry r (answer day default K r) ∷ []) ≡ remembered day D H = rw (known, new) at same in
          let s = stands H K r id number h comes known new in
          rw (known, new) (taken_again H K r (answer day default K r) s.0 s.1 s.2 same_now h))
    ]
    | inr new ↦ (let parts = neither (is_below (requests H) id) (is_some (stored H id)) new in
        let above : is_below (requests K) id ≡ false = below_alike day D G H K h id ∙ parts.0 in
        let none : stored K id ≡ None = h.none id (not_some (stored H id) parts.1) in
        let new_K : known_by K (Some id) ≡ false = rw (above, none) refl in
        let same_now : remembered day D (K ++ entry r (answer day default K r) ∷ []) ≡ remembered day D (H ++ entry r (answer day default H r) ∷ []) = rw (new, new_K) at same in
        rw (new, new_K) (both_take H K r (answer day default H r) (answer day default K r) (answers_alike H K r id number legal_H legal_K h comes new new_K) same_now h))
  ]

  alike_after : (H K : List Entry) (r : Request) → IsLegal day default H → IsLegal day default K → Alike day D G H K → Comes day D G H K r → Alike day D G (with_arrival day default H r) (with_arrival day default K r)
  alike_after H K r legal_H legal_K h comes = alike_by H K r (id_of r) refl legal_H legal_K h comes (same_after H K r legal_H legal_K h comes)

  -- ---- any number of arrivals

  -- a number that was first used after G is known to both
  known_both : (H K : List Entry) (o : Option Id) → Alike day D G H K → is_used_since G H o ≡ true → (known_by H o ≡ true) × (known_by K o ≡ true)
  known_both H K None h e = absurd (clash false e refl)
  known_both H K (Some id) h e = elim (option_cases (stored H id)) [
    | inl none ↦ absurd (clash (is_some (stored H id)) (first_so (is_some (stored H id)) (is_none (stored G id)) e) (ap is_some none))
    | inr p ↦ (let (x, there, same) = h.used id (none_of (stored G id) (second_so (is_some (stored H id)) (is_none (stored G id)) e)) p.0 p.1 in
        (or_second (is_below (requests H) id) (is_some (stored H id)) (ap is_some p.1), or_second (is_below (requests K) id) (is_some (stored K id)) (ap is_some there)))
  ]

  comes_if : (H K : List Entry) (r : Request) → Alike day D G H K → (is_later day D H r ≡ true) ⊎ ((is_late day D G H r ≡ true) ⊎ (is_used_since G H (id_of r) ≡ true)) → Comes day D G H K r
  comes_if H K r h (inl late) = inl (late, later_both day D G H K h r late)
  comes_if H K r h (inr (inl l)) = inr (inl (late_parts day D G H r l))
  comes_if H K r h (inr (inr since)) = inr (inr (known_both H K (id_of r) h since))

  later_or_past : (H K : List Entry) (r : Request) → Alike day D G H K → Comes day D G H K r
      → ((is_later day D H r ≡ true) × (is_later day D K r ≡ true)) ⊎ (((is_past day default D H r ≡ true) × (is_past day default D K r ≡ true)) ⊎ ((known_by H (id_of r) ≡ true) × (known_by K (id_of r) ≡ true)))
  later_or_past H K r h (inl late) = inl late
  later_or_past H K r h (inr (inr both)) = inr (inr both)
  later_or_past H K r h (inr (inl l)) = inr (inl (past_if day default D G H H r l.own l.about, past_if day default D G H K r l.own (about_late day D G H K h r l.own l.about)))

  by_arrivals : (A B : List Request) → AllByRecursion IsRequest A → AllByRecursion IsRequest B → (rs : List Request) → AllByRecursion IsRequest rs → Alike day D G (history_of day default A) (history_of day default B) → AreLaterOrLateSince day default D G (history_of day default A) rs
      → AreLaterOrPast day default D (history_of day default A) (history_of day default B) rs × Alike day D G (history_of day default (A ++ rs)) (history_of day default (B ++ rs))
  by_arrivals A B in_A in_B [] more h each =
      let left : Alike day D G (history_of day default (A ++ [])) (history_of day default B) = subst (λ x. Alike day D G (history_of day default x) (history_of day default B)) (sym (append-nil A)) h in
      (tt, subst (λ x. Alike day D G (history_of day default (A ++ [])) (history_of day default x)) (sym (append-nil B)) left)
  by_arrivals A B in_A in_B (r ∷ rs) more h each =
      let H : List Entry = history_of day default A in
      let K : List Entry = history_of day default B in
      let comes = comes_if H K r h each.0 in
      let now = alike_after H K r (laws.legal A (All-from_recursion IsRequest A in_A)) (laws.legal B (All-from_recursion IsRequest B in_B)) h comes in
      let left : Alike day D G (history_of day default (A ++ r ∷ [])) (with_arrival day default K r) = subst (λ x. Alike day D G x (with_arrival day default K r)) (sym (laws.arrived A r)) now in
      let both : Alike day D G (history_of day default (A ++ r ∷ [])) (history_of day default (B ++ r ∷ [])) = subst (λ x. Alike day D G (history_of day default (A ++ r ∷ [])) x) (sym (laws.arrived B r)) left in
      let late : AreLaterOrLateSince day default D G (history_of day default (A ++ r ∷ [])) rs = subst (λ x. AreLaterOrLateSince day default D G x rs) (sym (laws.arrived A r)) each.1 in
      let rest = by_arrivals (A ++ r ∷ []) (B ++ r ∷ []) (all_push IsRequest A r in_A more.0) (all_push IsRequest B r in_B more.0) rs more.1 both late in
      let first : AreLaterOrPast day default D (with_arrival day default H r) (history_of day default (B ++ r ∷ [])) rs = subst (λ x. AreLaterOrPast day default D x (history_of day default (B ++ r ∷ [])) rs) (laws.arrived A r) rest.0 in
      let second : AreLaterOrPast day default D (with_arrival day default H r) (with_arrival day default K r) rs = subst (λ x. AreLaterOrPast day default D (with_arrival day default H r) x rs) (laws.arrived B r) first in
      let end : Alike day D G (history_of day default (A ++ r ∷ rs)) (history_of day default ((B ++ r ∷ []) ++ rs)) = subst (λ x. Alike day D G (history_of day default x) (history_of day default ((B ++ r ∷ []) ++ rs))) (append_assoc A (r ∷ []) rs) rest.1 in
      ((later_or_past H K r h comes, second), subst (λ x. Alike day D G (history_of day default (A ++ r ∷ rs)) (history_of day default x)) (append_assoc B (r ∷ []) rs) end)

  whole : (A : List Request) → remembered day D (remembered day D G) ≡ remembered day D G → IsLegal day default G → IsLegal day default (remembered day D G) → All IsRequest A → AreLaterOrLate day default D G A
      → AreLaterOrPast day default D G (remembered day D G) A × Alike day D G (history_of day default (requests G ++ A)) (history_of day default (requests (remembered day D G) ++ A))
  whole A again legal_G legal_K range each =
      let K : List Entry = remembered day D G in
      let here : history_of day default (requests G) ≡ G = laws.again G legal_G in
      let there : history_of day default (requests K) ≡ K = laws.again K legal_K in
      let left : Alike day D G (history_of day default (requests G)) K = subst (λ x. Alike day D G x K) (sym here) (alike_at_first day D G again) in
      let both : Alike day D G (history_of day default (requests G)) (history_of day default (requests K)) = subst (λ x. Alike day D G (history_of day default (requests G)) x) (sym there) left in
      let late : AreLaterOrLateSince day default D G (history_of day default (requests G)) A = subst (λ x. AreLaterOrLateSince day default D G x A) (sym here) each in
      let all = by_arrivals (requests G) (requests K) (in_range day default G legal_G) (in_range day default K legal_K) A (recursion_from_All IsRequest A range) both late in
      let first : AreLaterOrPast day default D G (history_of day default (requests K)) A = subst (λ x. AreLaterOrPast day default D x (history_of day default (requests K)) A) here all.0 in
      (subst (λ x. AreLaterOrPast day default D G x A) there first, all.1)

  -- ---- under a number that was first used after G

  stays_about : (H : List Entry) (e : Entry) → stays day D H e ≡ false → is_about day D H e.request ≡ false
  stays_about H e off = (neither (is_about day D H e.request) (is_set e.request e.reply) off).0

  conflicts : (H : List Entry) (r : Request) (id : Id) (e : Entry) → is_below (requests H) id ≡ false → stored H id ≡ Some e → same_request r e.request ≡ false → reply_to day default H r (Some id) ≡ Conflict id
  conflicts H r id e above there differs = let by : reply_by day default H r id (stored H id) ≡ Conflict id = ap (reply_by day default H r id) there ∙ (rw differs refl) in rw above by

  -- who asks about D or a later day, under no number of a forgotten entry, is later, or gets Conflict of both
  later_or_conflict : (H K : List Entry) (r : Request) (id : Id) → id_of r ≡ Some id → Alike day D G H K → is_about day D H r ≡ true → stays_if day D G (stored G id) ≡ true
      → (is_later_by day D H r (Some id) ≡ true) ⊎ (reply_to day default K r (Some id) ≡ reply_to day default H r (Some id))
  later_or_conflict H K r id number h about kept = elim (either (is_below (requests H) id)) [
    | inl old ↦ inl (rw old refl)
    | inr above ↦ elim (option_cases (stored H id)) [
      | inl none ↦ inl (let m : is_remembered day D H r (stored H id) ≡ true = ap (is_remembered day D H r) none ∙ about in rw above m)
      | inr p ↦ elim (either (stays day D H p.0)) [
        | inl stay ↦ inl (let m : is_remembered day D H r (stored H id) ≡ true = ap (is_remembered day D H r) p.1 ∙ stay in rw above m)
        | inr goes ↦ elim (option_cases (stored G id)) [
          | inr q ↦ absurd (
              let stay_G : stays day D G q.0 ≡ true = ap (stays_if day D G) (sym q.1) ∙ kept in
              let i = (found (λ y. has_id id y.request) G q.0 q.1).0 in
              let stay_now : stays day D H q.0 ≡ true = ap (λ x. stays day D x q.0) (sym h.whole.1) ∙ stays_before day D G h.whole.0 q.0 i ∙ stay_G in
              let at_whole : stored (G ++ h.whole.0) id ≡ Some q.0 = find-append (λ y. has_id id y.request) G h.whole.0 ∙ ap (λ o. option_or o (find (λ y. has_id id y.request) h.whole.0)) q.1 in
              let at_H : stored H id ≡ Some q.0 = ap (λ x. stored x id) (sym h.whole.1) ∙ at_whole in
              let is : p.0 ≡ q.0 = (let both : Some p.0 ≡ Some q.0 = sym p.1 ∙ at_H in cc both) in
              clash (stays day D H p.0) (ap (stays day D H) is ∙ stay_now) goes)
          | inl none ↦ inr (let (x, there, same) = h.used id none p.0 p.1 in
              let differs : same_request r p.0.request ≡ false = elim (either (same_request r p.0.request)) [
                | inl one ↦ absurd (clash (is_about day D H r) about (ap (is_about day D H) (is_same r p.0.request one) ∙ stays_about H p.0 goes))
                | inr other ↦ other
              ] in
              conflicts K r id x (below_alike day D G H K h id ∙ above) there (ap (same_request r) same ∙ differs) ∙ sym (conflicts H r id p.0 above p.1 differs))
        ]
      ]
    ]
  ]

  abbrev AboutLater : (H K : List Entry) → Request → Option Id → Type 0
  AboutLater H K r o = (is_later_by day D H r o ≡ true) ⊎ (reply_to day default K r o ≡ reply_to day default H r o)

  about_later_by : (H K : List Entry) (r : Request) (o : Option Id) → id_of r ≡ o → Alike day D G H K → is_about day D H r ≡ true → is_of_no_forgotten day D G o ≡ true → AboutLater H K r o
  about_later_by H K r None number h about kept = inl about
  about_later_by H K r (Some id) number h about kept = later_or_conflict H K r id number h about kept

-- ---- the clauses

pub returns-clause-each : goal.returns-clause-each
returns-clause-each c = λ day default D H A legal range each.
    let laws : Builds day default = record { legal = c.built_is_legal.ensures day default; arrived = c.one_more_arrival.ensures.arrived day default; again = c.one_more_arrival.ensures.again day default } in
    (whole day default laws D H (c.a_later_request_is_answered_alike.ensures day default D) (c.past_requests_touch_no_later_day.ensures.past day default D) (λ q r e. (c.same_is_equal.ensures.request q r).0 e) A (c.forgetting_again.ensures day D D H (omega arith)) legal (c.remembered_is_legal.ensures.legal day default D H legal) range each).0

pub returns-clause-reply : goal.returns-clause-reply
returns-clause-reply c = λ day default D H A r legal range each later.
    let laws : Builds day default = record { legal = c.built_is_legal.ensures day default; arrived = c.one_more_arrival.ensures.arrived day default; again = c.one_more_arrival.ensures.again day default } in
    let again = c.forgetting_again.ensures day D D H (omega arith) in
    let K = remembered day D H in
    let legal_K = c.remembered_is_legal.ensures.legal day default D H legal in
    let w = whole day default laws D H (c.a_later_request_is_answered_alike.ensures day default D) (c.past_requests_touch_no_later_day.ensures.past day default D) (λ q r e. (c.same_is_equal.ensures.request q r).0 e) A again legal legal_K range each in
    c.past_requests_touch_no_later_day.ensures.reply day default D H K A r legal legal_K again range w.0 later
    (later_both day D H (history_of day default (requests H ++ A)) (history_of day default (requests K ++ A)) w.1 r later)

pub returns-clause-about : goal.returns-clause-about
returns-clause-about c = λ day default D H A r legal range each about kept.
    let laws : Builds day default = record { legal = c.built_is_legal.ensures day default; arrived = c.one_more_arrival.ensures.arrived day default; again = c.one_more_arrival.ensures.again day default } in
    let again = c.forgetting_again.ensures day D D H (omega arith) in
    let K = remembered day D H in
    let legal_K = c.remembered_is_legal.ensures.legal day default D H legal in
    let is_same : (q s : Request) → same_request q s ≡ true → q ≡ s = λ q s e. (c.same_is_equal.ensures.request q s).0 e in
    let one = c.a_later_request_is_answered_alike.ensures day default D in
    let past = c.past_requests_touch_no_later_day.ensures.past day default D in
    let w = whole day default laws D H one past is_same A again legal legal_K range each in
    let after_H : List Entry = history_of day default (requests H ++ A) in
    let after_K : List Entry = history_of day default (requests K ++ A) in
    elim (about_later_by day default laws D H one past is_same after_H after_K r (id_of r) refl w.1 about kept) [
      | inl later ↦ c.past_requests_touch_no_later_day.ensures.reply day default D H K A r legal legal_K again range w.0 later (later_both day D H after_H after_K w.1 r later)
      | inr alike ↦ alike
    ]
