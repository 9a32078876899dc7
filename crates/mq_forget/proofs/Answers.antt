-- What is answered over histories that tell the same.
use Rattle.mq_forget.proofs.Words.{AreAlike, Entry, Id, IsLeastOver, IsLoginPage, Limit, List, None, Option, Release, Reply, Request, Reserve, Retire, Settle, Some, Transaction, [], agrees, answer, ap, arith, cap, closed, day_named, either, false, greater, has_reserve, if_open, if◌then◌else◌, inl}
use Rattle.mq_forget.proofs.Words.{inr, is_about, is_set, map, named, nat_le, nat_lt, nat_tests, over, page, refl, reserved, settled, subst, sym, transaction, true, used, ℕ, ◌<◌, ◌∙◌, ◌∷◌, ◌≡◌, ◌≤◌}
use Rattle.mq_lemmas.proofs.Numbers.{le_of, lt_of}
use Rattle.mq_request.specs.declared.message.Request.TheVariants.{Usage, List as ListRequest}
use Rattle.mq_request.specs.declared.message.Reply.TheVariants.{Released, Over, Closed, Usage as UsageReply, List as ListReply}
use Rattle.mq_ledger.specs.Answer.{granted_or_full, settled_or_too_many, set_or_over}
use Rattle.mq_ledger.specs.Page.{row}
use Rattle.mq_forget.proofs.Numbers.{agreed_day}

-- what two histories tell alike of D and later days, and the laws of a ledger that are used here
pub record Tells (day : ℕ → ℕ) (default : ℕ) (D : ℕ) (K H : List Entry) : Type 0 where
  pub reserves : (l : List ℕ) (d : ℕ) → D ≤ d → reserved day K l d ≡ reserved day H l d
  pub settles : (l : List ℕ) (d : ℕ) → D ≤ d → settled day K l d ≡ settled day H l d
  pub lists : (l : List ℕ) (d : ℕ) → D ≤ d → has_reserve day K d l ≡ has_reserve day H d l
  pub unused : (l : List ℕ) (d : ℕ) → d < D → used day K l d ≡ 0
  pub alike : (t : Transaction) (moment : ℕ) → nat_le D (day_named day moment (named H t)) ≡ true → AreAlike K H t
  pub caps : (l : List ℕ) (d : ℕ) → cap default K l d ≡ cap default H l d
  pub least : (l : List ℕ) (from c : ℕ) → IsLeastOver day H l from c (over day H l from c)
  pub only_least : (l : List ℕ) (from c : ℕ) (o : Option ℕ) → IsLeastOver day K l from c o → o ≡ over day K l from c
  pub first : (d : ℕ) (after : List ℕ) → IsLoginPage day K d after (page day K d after)
  pub only_first : (d : ℕ) (after : List ℕ) (ls : List (List ℕ)) → IsLoginPage day H d after ls → ls ≡ page day H d after

pub page_by_reserves : (day : ℕ → ℕ) (K H : List Entry) (d : ℕ) (after : List ℕ) → ((l : List ℕ) → has_reserve day K d l ≡ has_reserve day H d l)
    → IsLoginPage day K d after (page day K d after) → ((ls : List (List ℕ)) → IsLoginPage day H d after ls → ls ≡ page day H d after) → page day K d after ≡ page day H d after
page_by_reserves day K H d after same p only = only (page day K d after) (record {
  ascending = p.ascending;
  above = p.above;
  there = λ k x h. sym (same _) ∙ p.there k x h;
  few = p.few;
  first = λ l b h. p.first l b (same l ∙ h);
})

-- A limit is answered as one from D on.

later_le : (from D d : ℕ) → from ≤ d → D ≤ d → greater from D ≤ d
later_le from D d a b = elim (either (nat_lt from D)) [ inl t ↦ rw t b | inr f ↦ rw f a ]

le_later : (from D : ℕ) → (from ≤ greater from D) × (D ≤ greater from D)
le_later from D = elim (either (nat_lt from D)) [
  | inl t ↦ (let k : from < D = grind (arith, nat_tests) in rw t (omega arith, omega arith))
  | inr f ↦ (let k : D ≤ from = grind (arith, nat_tests) in rw f (omega arith, omega arith))
]

over_from_then : (day : ℕ → ℕ) (D : ℕ) (K H : List Entry) (l : List ℕ) (from c : ℕ) (o : Option ℕ) → ((d : ℕ) → D ≤ d → used day K l d ≡ used day H l d) → ((d : ℕ) → d < D → used day K l d ≡ 0)
    → IsLeastOver day H l (greater from D) c o → IsLeastOver day K l from c o
over_from_then day D K H l from c None same none h = λ d le. elim (either (nat_le D d)) [
  | inl late ↦ omega (arith, h d (later_le from D d le (le_of D d late)), same d (le_of D d late))
  | inr early ↦ omega (arith, none d (lt_of D d early))
]
over_from_then day D K H l from c (Some d) same none h =
    let les = le_later from D in
    let late : D ≤ d = omega (arith, h.0, les.1) in (
      omega (arith, h.0, les.0),
      omega (arith, h.1, same d late),
      λ e le before. elim (either (nat_le D e)) [
        | inl late' ↦ omega (arith, h.2 e (later_le from D e le (le_of D e late')) before, same e (le_of D e late'))
        | inr early ↦ omega (arith, none e (lt_of D e early))
      ],
    )

over_is_later : (day : ℕ → ℕ) (D : ℕ) (H : List Entry) (l : List ℕ) (from c : ℕ) (o : Option ℕ) → IsLeastOver day H l (greater from D) c o → (d : ℕ) → o ≡ Some d → D ≤ d
over_is_later day D H l from c None h d e = absurd (cc e)
over_is_later day D H l from c (Some n) h d e = (let same : n ≡ d = cc e in omega (arith, same, h.0, (le_later from D).1))

pub limit_from_then : (day : ℕ → ℕ) (default D : ℕ) (K H : List Entry) → Tells day default D K H → (id : Id) (from c : ℕ) (login : List ℕ) → answer day default K (Limit id from c login) ≡ answer day default H (Limit id (greater from D) c login)
limit_from_then day default D K H tells id from c login = by (over day H login (greater from D) c) refl where
  same_used : (d : ℕ) → D ≤ d → used day K login d ≡ used day H login d
  same_used d le = omega (arith, tells.reserves login d le, tells.settles login d le)

  by : (o : Option ℕ) → over day H login (greater from D) c ≡ o → answer day default K (Limit id from c login) ≡ answer day default H (Limit id (greater from D) c login)
  by o h =
      let is : IsLeastOver day H login (greater from D) c o = subst (IsLeastOver day H login (greater from D) c) h (tells.least login (greater from D) c) in
      let k : o ≡ over day K login from c = tells.only_least login from c o (over_from_then day D K H login from c o same_used (tells.unused login) is) in
      ap (set_or_over day K id login) (sym k) ∙ told o (over_is_later day D H login from c o is) ∙ ap (set_or_over day H id login) (sym h)
    where
      told : (o : Option ℕ) → ((d : ℕ) → o ≡ Some d → D ≤ d) → set_or_over day K id login o ≡ set_or_over day H id login o
      told None late = refl
      told (Some d) late = ap (λ n. Over id d n) (same_used d (late d refl))

module _ (day : ℕ → ℕ) (default : ℕ) (D : ℕ) (K H : List Entry) (tells : Tells day default D K H) where
  same_used : (l : List ℕ) (d : ℕ) → D ≤ d → used day K l d ≡ used day H l d
  same_used l d le = omega (arith, tells.reserves l d le, tells.settles l d le)

  open_same : (id : Id) (txn moment : ℕ) (login : List ℕ) (a b : Reply) → AreAlike K H (transaction id txn) → (agrees moment login (named H (transaction id txn)) ≡ true → a ≡ b) → if_open K id txn moment login a ≡ if_open H id txn moment login b
  open_same id txn moment login a b s same = elim (either (agrees moment login (named H (transaction id txn)))) [
    | inr f ↦ (let f' : agrees moment login (named K (transaction id txn)) ≡ false = ap (agrees moment login) s.named ∙ f in rw (f, f') refl)
    | inl t ↦ (let t' : agrees moment login (named K (transaction id txn)) ≡ true = ap (agrees moment login) s.named ∙ t in
        let e : a ≡ b = same t in
        let shut : closed K (transaction id txn) ≡ closed H (transaction id txn) = s.closed in
        rw (t, t') (λ i. if shut i then Closed id else e i))
  ]

  reserve_same : (id : Id) (txn moment : ℕ) (login : List ℕ) (count : ℕ) → nat_le D (day_named day moment (named H (transaction id txn))) ≡ true → agrees moment login (named H (transaction id txn)) ≡ true
      → granted_or_full id (used day K login (day moment)) (cap default K login (day moment)) count ≡ granted_or_full id (used day H login (day moment)) (cap default H login (day moment)) count
  reserve_same id txn moment login count late agreed =
      let same : day_named day moment (named H (transaction id txn)) ≡ day moment = agreed_day day moment login (named H (transaction id txn)) agreed in
      let le : D ≤ day moment = le_of D (day moment) (ap (nat_le D) (sym same) ∙ late) in
      let u = same_used login (day moment) le in
      let c = tells.caps login (day moment) in
      λ i. granted_or_full id (u i) (c i) count

  -- no day is over there that isn't here
  none_over : (l : List ℕ) (from c : ℕ) → IsLeastOver day H l from c None → IsLeastOver day K l from c None
  none_over l from c h = λ d le. elim (either (nat_le D d)) [
    | inl late ↦ omega (arith, h d le, same_used l d (le_of D d late))
    | inr early ↦ omega (arith, tells.unused l d (lt_of D d early))
  ]

  first_over : (l : List ℕ) (from c d : ℕ) → D ≤ d → IsLeastOver day H l from c (Some d) → IsLeastOver day K l from c (Some d)
  first_over l from c d late h = (
    h.0,
    omega (arith, h.1, same_used l d late),
    λ e le before. elim (either (nat_le D e)) [
      | inl late' ↦ omega (arith, h.2 e le before, same_used l e (le_of D e late'))
      | inr early ↦ omega (arith, tells.unused l e (lt_of D e early))
    ],
  )

  -- where no day before D is over, the same day is
  pub over_same : (l : List ℕ) (from c : ℕ) (o : Option ℕ) → over day H l from c ≡ o → ((d : ℕ) → o ≡ Some d → D ≤ d) → over day K l from c ≡ over day H l from c
  over_same l from c None h late =
      let is : IsLeastOver day H l from c None = subst (IsLeastOver day H l from c) h (tells.least l from c) in
      sym (tells.only_least l from c None (none_over l from c is)) ∙ sym h
  over_same l from c (Some d) h late =
      let is : IsLeastOver day H l from c (Some d) = subst (IsLeastOver day H l from c) h (tells.least l from c) in
      sym (tells.only_least l from c (Some d) (first_over l from c d (late d refl) is)) ∙ sym h

  later_over : (l : List ℕ) (from c : ℕ) → D ≤ from → (o : Option ℕ) → IsLeastOver day H l from c o → (d : ℕ) → o ≡ Some d → D ≤ d
  later_over l from c le None is d e = absurd (cc e)
  later_over l from c le (Some n) is d e = (let same : n ≡ d = cc e in omega (arith, same, is.0))

  pub limit_same : (id : Id) (from_day c : ℕ) (login : List ℕ) → ((d : ℕ) → over day H login from_day c ≡ Some d → D ≤ d) → answer day default K (Limit id from_day c login) ≡ answer day default H (Limit id from_day c login)
  limit_same id from_day c login late = by (over day H login from_day c) refl (over_same login from_day c (over day H login from_day c) refl late) where
    by : (o : Option ℕ) → over day H login from_day c ≡ o → over day K login from_day c ≡ over day H login from_day c → set_or_over day K id login (over day K login from_day c) ≡ set_or_over day H id login (over day H login from_day c)
    by None h same = (let k : over day K login from_day c ≡ None = same ∙ h in ap (set_or_over day K id login) k ∙ sym (ap (set_or_over day H id login) h))
    by (Some d) h same =
        let k : over day K login from_day c ≡ Some d = same ∙ h in
        let u : used day K login d ≡ used day H login d = same_used login d (late d h) in
        ap (set_or_over day K id login) k ∙ ap (λ n. Over id d n) u ∙ sym (ap (set_or_over day H id login) h)

  same_page : (d : ℕ) (after : List ℕ) → D ≤ d → page day K d after ≡ page day H d after
  same_page d after le = page_by_reserves day K H d after (λ l. tells.lists l d le) (tells.first d after) (tells.only_first d after)

  same_rows : (d : ℕ) → D ≤ d → (ls : List (List ℕ)) → map (row day default K d) ls ≡ map (row day default H d) ls
  same_rows d le [] = refl
  same_rows d le (l ∷ ls) =
      let s = tells.settles l d le in
      let r = tells.reserves l d le in
      let c = tells.caps l d in
      let rest = same_rows d le ls in
      λ i. record { login = l; settled = s i; reserved = r i; cap = c i } ∷ rest i

  -- what is asked about D or a later day is answered alike
  pub answer_same : (r : Request) → is_about day D H r ≡ true → answer day default K r ≡ answer day default H r
  answer_same (Reserve id txn moment login count) late =
      open_same id txn moment login _ _ (tells.alike (transaction id txn) moment late) (λ agreed. reserve_same id txn moment login count late agreed)
  answer_same (Settle id txn moment login count) late =
      (let s = tells.alike (transaction id txn) moment late in open_same id txn moment login _ _ s (λ _. ap (λ n. settled_or_too_many id n count) s.held))
  answer_same (Release id txn moment login) late =
      (let s = tells.alike (transaction id txn) moment late in open_same id txn moment login _ _ s (λ _. ap (λ n. Released id n) s.held))
  answer_same (Limit id from_day c login) late =
      limit_same id from_day c login (λ d e. later_over login from_day c (le_of D from_day late) (over day H login from_day c) (tells.least login from_day c) d e)
  answer_same (Usage login d) late =
      let le : D ≤ d = le_of D d late in
      let s = tells.settles login d le in
      let r = tells.reserves login d le in
      let c = tells.caps login d in
      λ i. UsageReply login d (s i) (r i) (c i)
  answer_same (ListRequest d after) late =
      let le : D ≤ d = le_of D d late in
      ap (λ ls. ListReply d (map (row day default K d) ls)) (same_page d after le) ∙ ap (λ rows. ListReply d rows) (same_rows d le (page day H d after))
  answer_same (Retire id) late = refl

  -- and so is a limit that was set
  pub set_same : (r : Request) → is_set r (answer day default H r) ≡ true → answer day default K r ≡ answer day default H r
  set_same (Limit id from_day c login) h = limit_same id from_day c login (λ d e. absurd (not_over d e h)) where
    not_over : (d : ℕ) → over day H login from_day c ≡ Some d → is_set (Limit id from_day c login) (set_or_over day H id login (over day H login from_day c)) ≡ true → ⊥
    not_over d e h = (let b : false ≡ true = rw e at h in cc b)
  set_same r h = absurd (cc h)
