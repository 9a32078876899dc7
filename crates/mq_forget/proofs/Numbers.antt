-- What is remembered has the numbers of D and later days: an entry that counts on a day is of a transaction of that day.
use Rattle.mq_forget.proofs.Words.{Bool, Entry, Id, In, IsLegal, Limit, List, None, Option, Release, Reply, Request, Reserve, Settle, Some, Transaction, agrees, answer, any_nothing, ap, counted, day_named, either, entry, false, filter_in, find-append, first_so, granted, has_reserve, if_open}
use Rattle.mq_forget.proofs.Words.{if◌then◌else◌, inl, inr, is_about, is_of, is_set, le_is, lt_is, moment_of, named, nat_le, not, option_or, refl, remembered, reserved, second_so, settled, stays, subst, sum_nothing, sym, transaction, transaction_itself, true, ℕ, ◌&&◌, ◌++◌, ◌+◌, ◌<◌, ◌==◌, ◌∙◌, ◌∷◌}
use Rattle.mq_forget.proofs.Words.{◌≡◌, ◌≤◌}
use Rattle.mq_lemmas.proofs.Numbers.{if_zero, number_is}
use Rattle.mq_request.specs.declared.message.Reply.TheVariants.{Granted, Settled, Mismatch}
use Rattle.mq_request.specs.Same.{same_text}
use Rattle.mq_ledger.specs.History.{is_at, concerns, is_open, reserved_of, is_abandoned, settled_of}
use Rattle.mq_ledger.specs.Page.{is_login, login_on}
use Rattle.mq_ledger.proofs.Basics.{sum_same}
use Rattle.mq_forget.proofs.Lists.{sum_kept, any_kept}
use Rattle.mq_forget.proofs.Staying.{or_or, alike}
use Rattle.mq_forget.proofs.Fronts.{Builds, next, behind}

-- Where a transaction is named with that moment, its day is the moment's.

moment_is : (moment : ℕ) (login : List ℕ) (r : Request) → is_at moment login r ≡ true → moment_of r ≡ moment
moment_is moment login (Reserve id txn moment' login' count) h = sym (number_is moment moment' (first_so (moment == moment') (same_text login login') h))
moment_is moment login (Settle id txn moment' login' count) h = sym (number_is moment moment' (first_so (moment == moment') (same_text login login') h))
moment_is moment login (Release id txn moment' login') h = sym (number_is moment moment' (first_so (moment == moment') (same_text login login') h))
moment_is moment login r h = absurd (cc h)

pub agreed_day : (day : ℕ → ℕ) (moment : ℕ) (login : List ℕ) (o : Option Entry) → agrees moment login o ≡ true → day_named day moment o ≡ day moment
agreed_day day moment login None h = refl
agreed_day day moment login (Some e) h = ap day (moment_is moment login e.request h)

-- A granted reserve and a settled settle lie on the day of their transaction.

abbrev pub counts : Request → Reply → Bool
counts (Reserve id txn moment login count) (Granted id' n) = true
counts (Settle id txn moment login count) (Settled id' n) = true
counts _ _ = false

open_agrees : (F : List Entry) (id : Id) (txn moment : ℕ) (login : List ℕ) (a : Reply) (r : Request) → counts r (Mismatch id) ≡ false → counts r (if_open F id txn moment login a) ≡ true → agrees moment login (named F (transaction id txn)) ≡ true
open_agrees F id txn moment login a r refused so = elim (either (agrees moment login (named F (transaction id txn)))) [
  | inl t ↦ t
  | inr f ↦ (let k : counts r (Mismatch id) ≡ true = rw f at so in absurd (cc (refused, k)))
]

day_behind : (day : ℕ → ℕ) (F S : List Entry) (x : Entry) (t : Transaction) (moment : ℕ) (login : List ℕ) → is_of t x.request ≡ true → moment_of x.request ≡ moment → agrees moment login (named F t) ≡ true → day_named day moment (named (F ++ x ∷ S) t) ≡ day moment
day_behind day F S x t moment login mine same agreed =
    let one : named (x ∷ S) t ≡ Some x = rw mine refl in
    ap (day_named day moment) (find-append (λ (y : Entry). is_of t y.request) F (x ∷ S) ∙ ap (option_or (named F t)) one) ∙ by (named F t) agreed
  where
    by : (o : Option Entry) → agrees moment login o ≡ true → day_named day moment (option_or o (Some x)) ≡ day moment
    by None h = ap day same
    by (Some e) h = agreed_day day moment login (Some e) h

about_behind : (day : ℕ → ℕ) (default D : ℕ) (F S : List Entry) (r : Request) (a : Reply) → a ≡ answer day default F r → counts r a ≡ true → is_about day D (F ++ entry r a ∷ S) r ≡ nat_le D (day (moment_of r))
about_behind day default D F S (Reserve id txn moment login count) a is so =
    let r : Request = Reserve id txn moment login count in
    let agreed : agrees moment login (named F (transaction id txn)) ≡ true = open_agrees F id txn moment login _ r refl (ap (counts r) (sym is) ∙ so) in
    ap (nat_le D) (day_behind day F S (entry r a) (transaction id txn) moment login (transaction_itself (transaction id txn)) refl agreed)
about_behind day default D F S (Settle id txn moment login count) a is so =
    let r : Request = Settle id txn moment login count in
    let agreed : agrees moment login (named F (transaction id txn)) ≡ true = open_agrees F id txn moment login _ r refl (ap (counts r) (sym is) ∙ so) in
    ap (nat_le D) (day_behind day F S (entry r a) (transaction id txn) moment login (transaction_itself (transaction id txn)) refl agreed)
about_behind day default D F S r a is so = absurd (cc so)

counts_unset : (r : Request) (a : Reply) → counts r a ≡ true → is_set r a ≡ false
counts_unset (Limit id from_day c login) a so = absurd (cc so)
counts_unset r a so = refl

granted_counts : (r : Request) (a : Reply) → counts r a ≡ false → granted r a ≡ 0
granted_counts (Reserve id txn moment login count) (Granted id' n) so = absurd (cc so)
granted_counts r a so = refl

counted_counts : (r : Request) (a : Reply) → counts r a ≡ false → counted r a ≡ 0
counted_counts (Settle id txn moment login count) (Settled id' n) so = absurd (cc so)
counted_counts r a so = refl

on_day : (day : ℕ → ℕ) (l : List ℕ) (d : ℕ) (r : Request) → concerns day l d r ≡ true → day (moment_of r) ≡ d
on_day day l d (Reserve id txn moment login count) h = number_is (day moment) d (second_so (same_text l login) (day moment == d) h)
on_day day l d (Settle id txn moment login count) h = number_is (day moment) d (second_so (same_text l login) (day moment == d) h)
on_day day l d r h = absurd (cc h)

listed : (day : ℕ → ℕ) (l : List ℕ) (d : ℕ) (r : Request) (a : Reply) → is_login l (login_on day d r a) ≡ true → (counts r a ≡ true) × (day (moment_of r) ≡ d)
listed day l d (Reserve id txn moment login count) (Granted id' n) h = elim (either (day moment == d)) [
  | inl t ↦ (refl, number_is (day moment) d t)
  | inr f ↦ (let k : is_login l None ≡ true = rw f at h in absurd (cc k))
]
listed day l d r a h = absurd (cc h)

-- what an entry reserves and settles is nothing where it doesn't count, or not on that day
no_reserve : (day : ℕ → ℕ) (K : List Entry) (l : List ℕ) (d : ℕ) (x : Entry) → (counts x.request x.reply ≡ true → concerns day l d x.request ≡ true → ⊥) → reserved_of day K l d x ≡ 0
no_reserve day K l d x never = elim (either (counts x.request x.reply)) [
  | inr not_so ↦ (let z : granted x.request x.reply ≡ 0 = granted_counts x.request x.reply not_so in
      ap (λ n. if concerns day l d x.request && is_open K x.request then n else 0) z ∙ if_zero (concerns day l d x.request && is_open K x.request) 0 refl)
  | inl so ↦ elim (either (concerns day l d x.request)) [ inl t ↦ absurd (never so t) | inr f ↦ rw f refl ]
]

no_settle : (day : ℕ → ℕ) (K : List Entry) (l : List ℕ) (d : ℕ) (x : Entry) → (counts x.request x.reply ≡ true → concerns day l d x.request ≡ true → ⊥) → settled_of day K l d x ≡ 0
no_settle day K l d x never = elim (either (counts x.request x.reply)) [
  | inr not_so ↦ (let g : granted x.request x.reply ≡ 0 = granted_counts x.request x.reply not_so in
      let c : counted x.request x.reply ≡ 0 = counted_counts x.request x.reply not_so in
      (λ i. if concerns day l d x.request then c i + (if is_abandoned K x.request then g i else 0) else 0)
      ∙ by (concerns day l d x.request) (is_abandoned K x.request))
  | inl so ↦ elim (either (concerns day l d x.request)) [ inl t ↦ absurd (never so t) | inr f ↦ rw f refl ]
] where
  by : (b c : Bool) → (if b then 0 + (if c then 0 else 0) else 0) ≡ 0
  by true true = refl
  by true false = refl
  by false c = refl

module _ (day : ℕ → ℕ) (default : ℕ) (laws : Builds day default) (D : ℕ) (H : List Entry) (legal : IsLegal day default H) where
  about_itself : (x : Entry) → In x H → counts x.request x.reply ≡ true → is_about day D H x.request ≡ nat_le D (day (moment_of x.request))
  about_itself x i so =
      let b = behind H x i in
      let n = next day default laws b.front b.rest x (subst (IsLegal day default) (sym b.is) legal) in
      ap (λ G. is_about day D G x.request) (sym b.is) ∙ about_behind day default D b.front b.rest x.request x.reply n.answered so

  -- what goes counts on no day from D on
  gone_counts : (l : List ℕ) (d : ℕ) (x : Entry) → D ≤ d → In x H → stays day D H x ≡ false → counts x.request x.reply ≡ true → day (moment_of x.request) ≡ d → ⊥
  gone_counts l d x le i gone so on =
      let t : is_about day D H x.request ≡ true = about_itself x i so ∙ ap (nat_le D) on ∙ le_is D d le in
      let k : stays day D H x ≡ true = rw t refl in
      absurd (cc (gone, k))

  -- what stays counts on no day before D
  kept_counts : (l : List ℕ) (d : ℕ) (x : Entry) → d < D → In x (remembered day D H) → counts x.request x.reply ≡ true → day (moment_of x.request) ≡ d → ⊥
  kept_counts l d x early i so on =
      let k = filter_in (stays day D H) H x i in
      let t : is_about day D H x.request ≡ true = or_or (is_about day D H x.request) (is_set x.request x.reply) k.1 (counts_unset x.request x.reply so) in
      let f : is_about day D H x.request ≡ false = about_itself x k.0 so ∙ ap (nat_le D) on ∙ lt_is D d early in
      absurd (cc (t, f))

  open_kept : (r : Request) (a : Reply) → stays day D H (entry r a) ≡ true → is_open (remembered day D H) r ≡ is_open H r
  open_kept (Reserve id txn moment login count) a stay = ap not (alike day D H (transaction id txn) moment (or_or _ false stay refl)).closed
  open_kept r a stay = refl

  abandoned_kept : (r : Request) (a : Reply) → stays day D H (entry r a) ≡ true → is_abandoned (remembered day D H) r ≡ is_abandoned H r
  abandoned_kept (Reserve id txn moment login count) a stay = (alike day D H (transaction id txn) moment (or_or _ false stay refl)).abandoned
  abandoned_kept r a stay = refl

  pub reserved_kept : (l : List ℕ) (d : ℕ) → D ≤ d → reserved day (remembered day D H) l d ≡ reserved day H l d
  reserved_kept l d le =
      let K : List Entry = remembered day D H in
      sum_same (reserved_of day K l d) (reserved_of day H l d) K (λ x i. (let k = filter_in (stays day D H) H x i in
      ap (λ b. if concerns day l d x.request && b then granted x.request x.reply else 0) (open_kept x.request x.reply k.1)))
      ∙ sum_kept (reserved_of day H l d) (stays day D H) H (λ x i gone.
      no_reserve day H l d x (λ so on. gone_counts l d x le i gone so (on_day day l d x.request on)))

  pub settled_kept : (l : List ℕ) (d : ℕ) → D ≤ d → settled day (remembered day D H) l d ≡ settled day H l d
  settled_kept l d le =
      let K : List Entry = remembered day D H in
      sum_same (settled_of day K l d) (settled_of day H l d) K (λ x i. (let k = filter_in (stays day D H) H x i in
      ap (λ b. if concerns day l d x.request then counted x.request x.reply + (if b then granted x.request x.reply else 0) else 0) (abandoned_kept x.request x.reply k.1)))
      ∙ sum_kept (settled_of day H l d) (stays day D H) H (λ x i gone.
      no_settle day H l d x (λ so on. gone_counts l d x le i gone so (on_day day l d x.request on)))

  pub reserves_kept : (l : List ℕ) (d : ℕ) → D ≤ d → has_reserve day (remembered day D H) d l ≡ has_reserve day H d l
  reserves_kept l d le = any_kept (λ (x : Entry). is_login l (login_on day d x.request x.reply)) (stays day D H) H (λ x i on.
      (let on_it = listed day l d x.request x.reply on in elim (either (stays day D H x)) [
        | inl stay ↦ stay
        | inr gone ↦ absurd (gone_counts l d x le i gone on_it.0 on_it.1)
      ]))

  pub reserved_before : (l : List ℕ) (d : ℕ) → d < D → reserved day (remembered day D H) l d ≡ 0
  reserved_before l d early =
      let K : List Entry = remembered day D H in
      sum_nothing (reserved_of day K l d) K (λ x i. no_reserve day K l d x (λ so on. kept_counts l d x early i so (on_day day l d x.request on)))

  pub settled_before : (l : List ℕ) (d : ℕ) → d < D → settled day (remembered day D H) l d ≡ 0
  settled_before l d early =
      let K : List Entry = remembered day D H in
      sum_nothing (settled_of day K l d) K (λ x i. no_settle day K l d x (λ so on. kept_counts l d x early i so (on_day day l d x.request on)))

  pub reserves_before : (l : List ℕ) (d : ℕ) → d < D → has_reserve day (remembered day D H) d l ≡ false
  reserves_before l d early = any_nothing (λ (x : Entry). is_login l (login_on day d x.request x.reply)) (remembered day D H) (λ x i.
      elim (either (is_login l (login_on day d x.request x.reply))) [
        | inr off ↦ off
        | inl on ↦ (let on_it = listed day l d x.request x.reply on in absurd (kept_counts l d x early i on_it.0 on_it.1))
      ])
