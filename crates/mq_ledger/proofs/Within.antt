-- In every history that is built no more is used than the limit.
use Rattle.mq_ledger.proofs.Words.{AllByRecursion, Bool, Closed, Entry, Full, Granted, Id, IsLegal, Limit, LimitSet, List, Mismatch, None, Release, Released, Reply, Request, Reserve, Settle, Settled, TooMany, Transaction, [], appended, arith, cap, counted, either, ended, false, first_so, governs}
use Rattle.mq_ledger.proofs.Words.{granted, granted_in, granted_or_full, has_retired_run, held, if◌then◌else◌, inl, inr, latest, le_or_lt, limits, nat_le, nat_tests, neither_second, not, number_is, over, refl, same_text, second_so, settled_or_too_many, subst, sum_by, sum_by_push, sym, text_is}
use Rattle.mq_ledger.proofs.Words.{transaction, used, ℕ, ◌&&◌, ◌++◌, ◌+◌, ◌==◌, ◌∷◌, ◌≡◌, ◌≤◌, ◌⊎◌}
use Rattle.mq_ledger.proofs.Answering.{by_open, by_room, by_held, by_over, of_legal}
use Rattle.mq_ledger.proofs.LimitFacts.{cap_push_other, cap_push_newer, cap_push_older}
use Rattle.mq_ledger.proofs.Overs.{over_least}
use Rattle.mq_ledger.proofs.Transactions.{entry, transaction_itself, unended_of, counted_for, unended, counted_on, used_is, unended_falls, IsUniformAt, IsUniform, IsAgreed, uniform_push, held_goes}

-- The law, entry by entry.

unfoldable pub StaysWithin : (ℕ → ℕ) → ℕ → List Entry → Type 0
StaysWithin day default H = (l : List ℕ) (d : ℕ) → used day H l d ≤ cap default H l d

counted_push : (day : ℕ → ℕ) (H : List Entry) (e : Entry) (l : List ℕ) (d : ℕ) → counted_on day (H ++ e ∷ []) l d ≡ counted_on day H l d + counted_for day l d e
counted_push day H e l d = sum_by_push (counted_for day l d) H e

unended_push : (day : ℕ → ℕ) (H : List Entry) (e : Entry) (l : List ℕ) (d : ℕ) → unended day (H ++ e ∷ []) l d ≡ sum_by (unended_of day (H ++ e ∷ []) l d) H + unended_of day (H ++ e ∷ []) l d e
unended_push day H e l d = sum_by_push (unended_of day (H ++ e ∷ []) l d) H e

-- an entry that neither grants nor settles uses no more
used_quiet : (day : ℕ → ℕ) (H : List Entry) (e : Entry) → granted e.request e.reply ≡ 0 → counted e.request e.reply ≡ 0 → (l : List ℕ) (d : ℕ) → used day (H ++ e ∷ []) l d ≤ used day H l d
used_quiet day H e g s l d =
    let none : unended_of day (H ++ e ∷ []) l d e ≡ 0 = grind (arith, g) in
    let zero : counted_for day l d e ≡ 0 = grind (arith, s) in
    omega (arith, none, zero, used_is day H l d, used_is day (H ++ e ∷ []) l d, counted_push day H e l d, unended_push day H e l d, unended_falls day H e l d)

within_quiet : (day : ℕ → ℕ) (default : ℕ) (H : List Entry) (e : Entry) → granted e.request e.reply ≡ 0 → counted e.request e.reply ≡ 0 → ((l : List ℕ) (d : ℕ) → governs l d e ≡ false) → StaysWithin day default H → StaysWithin day default (H ++ e ∷ [])
unfolding StaysWithin
within_quiet day default H e g s other h = λ l d. omega (arith, used_quiet day H e g s l d, cap_push_other default H l d e (other l d), h l d)

at_most_there : (b : Bool) (n : ℕ) (c : Bool) → (if b && c then n else 0) ≤ (if b then n else 0)
at_most_there b n c = grind arith

there_or_not : (day : ℕ → ℕ) (login l : List ℕ) (moment d : ℕ) → ((same_text l login && (day moment == d)) ≡ false) ⊎ ((l ≡ login) × (d ≡ day moment))
there_or_not day login l moment d = elim (either (same_text l login && (day moment == d))) [
  | inr f ↦ inl f
  | inl t ↦ inr (text_is l login (first_so (same_text l login) (day moment == d) t), sym (number_is (day moment) d (second_so (same_text l login) (day moment == d) t)))
]

-- a granted reserve adds its count on its login and day alone
within_granted : (day : ℕ → ℕ) (default : ℕ) (H : List Entry) (id id' : Id) (txn moment : ℕ) (login : List ℕ) (count n : ℕ) → used day H login (day moment) + count ≤ cap default H login (day moment) → StaysWithin day default H → StaysWithin day default (H ++ entry (Reserve id txn moment login count) (Granted id' n) ∷ [])
unfolding StaysWithin
within_granted day default H id id' txn moment login count n room h = λ l d.
    let e : Entry = entry (Reserve id txn moment login count) (Granted id' n) in
    let same : cap default (H ++ e ∷ []) l d ≡ cap default H l d = cap_push_other default H l d e refl in
    let own : unended_of day (H ++ e ∷ []) l d e ≤ (if same_text l login && (day moment == d) then count else 0) = at_most_there (same_text l login && (day moment == d)) count (not (ended (H ++ e ∷ []) (transaction id txn))) in
    let zero : counted_for day l d e ≡ 0 = grind arith in
    let more : used day (H ++ e ∷ []) l d ≤ used day H l d + (if same_text l login && (day moment == d) then count else 0) = omega (arith, own, zero, used_is day H l d, used_is day (H ++ e ∷ []) l d, counted_push day H e l d, unended_push day H e l d, unended_falls day H e l d) in
    elim (there_or_not day login l moment d) [
      | inl f ↦ (let less : used day (H ++ e ∷ []) l d ≤ used day H l d + 0 = rw f at more in omega (arith, less, same, h l d))
      | inr p ↦ (let room' : used day H l d + count ≤ cap default H l d = (let P : List ℕ → ℕ → Type 0 = λ m k. used day H m k + count ≤ cap default H m k in subst (λ m. P m d) (sym p.0) (subst (λ k. P login k) (sym p.1) room)) in
          let part : (if same_text l login && (day moment == d) then count else 0) ≤ count = grind arith in omega (arith, more, same, room', part))
    ]

-- a settled settle counts no more than what it takes from what was granted
within_settled : (day : ℕ → ℕ) (default : ℕ) (H : List Entry) (id id' : Id) (txn moment : ℕ) (login : List ℕ) (count n : ℕ) → AllByRecursion (IsUniformAt (transaction id txn) moment login) H → ended H (transaction id txn) ≡ false → count ≤ granted_in H (transaction id txn) → StaysWithin day default H → StaysWithin day default (H ++ entry (Settle id txn moment login count) (Settled id' n) ∷ [])
unfolding StaysWithin
within_settled day default H id id' txn moment login count n uniform shut enough h = λ l d.
    let e : Entry = entry (Settle id txn moment login count) (Settled id' n) in
    let t : Transaction = transaction id txn in
    let same : cap default (H ++ e ∷ []) l d ≡ cap default H l d = cap_push_other default H l d e refl in
    let zero : unended_of day (H ++ e ∷ []) l d e ≡ 0 = grind arith in
    elim (there_or_not day login l moment d) [
      | inl f ↦ (let none : counted_for day l d e ≡ 0 = grind (arith, f) in omega (arith, none, zero, same, h l d, used_is day H l d, used_is day (H ++ e ∷ []) l d, counted_push day H e l d, unended_push day H e l d, unended_falls day H e l d))
      | inr p ↦ (let gone = held_goes day H e t moment login (transaction_itself t) refl shut uniform in
          let gone' : sum_by (unended_of day (H ++ e ∷ []) l d) H + granted_in H t ≤ unended day H l d = (let P : List ℕ → ℕ → Type 0 = λ m k. sum_by (unended_of day (H ++ e ∷ []) m k) H + granted_in H t ≤ unended day H m k in subst (λ m. P m d) (sym p.0) (subst (λ k. P login k) (sym p.1) gone)) in
          let part : counted_for day l d e ≤ count = grind arith in
          omega (arith, part, zero, same, gone', h l d, used_is day H l d, used_is day (H ++ e ∷ []) l d, counted_push day H e l d, unended_push day H e l d))
    ]

-- a limit is set only where no day that it will govern has more used
within_limit : (day : ℕ → ℕ) (default : ℕ) (H : List Entry) (id id' : Id) (from c : ℕ) (login : List ℕ) → over day H login from c ≡ None → StaysWithin day default H → StaysWithin day default (H ++ entry (Limit id from c login) (LimitSet id') ∷ [])
unfolding StaysWithin
within_limit day default H id id' from c login none h = λ l d.
    let e : Entry = entry (Limit id from c login) (LimitSet id') in
    let quiet : used day (H ++ e ∷ []) l d ≤ used day H l d = used_quiet day H e refl refl l d in
    elim (either (governs l d e)) [
      | inr f ↦ omega (arith, quiet, cap_push_other default H l d e f, h l d)
      | inl t ↦ elim (le_or_lt (latest (limits H l d)) from) [
        | inr older ↦ omega (arith, quiet, cap_push_older default H l d e t older, h l d)
        | inl newer ↦ (let same : l ≡ login = text_is l login (first_so (same_text l login) (nat_le from d) t) in
            let le : from ≤ d = grind (arith, nat_tests, second_so (same_text l login) (nat_le from d) t) in
            let room : used day H l d ≤ c = (let P : List ℕ → Type 0 = λ m. used day H m d ≤ c in subst P (sym same) (over_least day H login from c None none d le)) in
            omega (arith, quiet, cap_push_newer default H l d e t newer, room))
      ]
    ]

-- What every built history keeps.

pub record IsGood (day : ℕ → ℕ) (default : ℕ) (H : List Entry) : Type 0 where
  pub within : StaysWithin day default H
  pub uniform : IsUniform H

abbrev IsGoodWith : (ℕ → ℕ) → ℕ → List Entry → Request → Reply → Type 0
IsGoodWith day default H r a = IsGood day default (H ++ entry r a ∷ [])

good_quiet : (day : ℕ → ℕ) (default : ℕ) (H : List Entry) (r : Request) (a : Reply) → granted r a ≡ 0 → counted r a ≡ 0 → ((l : List ℕ) (d : ℕ) → governs l d (entry r a) ≡ false) → IsAgreed H r a → IsGood day default H → IsGoodWith day default H r a
good_quiet day default H r a g s other agreed good = record {
  within = within_quiet day default H (entry r a) g s other good.within;
  uniform = uniform_push H (entry r a) agreed good.uniform;
}

-- one more request keeps it
pub good_step : (day : ℕ → ℕ) (default : ℕ) (H : List Entry) (r : Request) → IsGood day default H → IsGood day default (appended day default H r)
good_step day default H (Reserve id txn moment login count) good =
    let P : Reply → Type 0 = IsGoodWith day default H (Reserve id txn moment login count) in
    let n : ℕ = used day H login (day moment) in
    let refused : (a : Reply) → granted (Reserve id txn moment login count) a ≡ 0 → IsAgreed H (Reserve id txn moment login count) a → P a = λ a none agreed. good_quiet day default H _ a none refl (λ l d. refl) agreed good in
    let limit : ℕ = cap default H login (day moment) in
    by_open P H id txn moment login (granted_or_full id n limit count) (refused (Mismatch id) refl tt) (refused (Closed id) refl tt) (λ o. by_room P id n limit count (refused (Full id n limit) refl tt) (λ room. record {
      within = within_granted day default H id id txn moment login count (n + count) room good.within;
      uniform = uniform_push H (entry (Reserve id txn moment login count) (Granted id (n + count))) o.agreed good.uniform;
    }))
good_step day default H (Settle id txn moment login count) good =
    let P : Reply → Type 0 = IsGoodWith day default H (Settle id txn moment login count) in
    let t : Transaction = transaction id txn in
    let refused : (a : Reply) → counted (Settle id txn moment login count) a ≡ 0 → IsAgreed H (Settle id txn moment login count) a → P a = λ a none agreed. good_quiet day default H _ a refl none (λ l d. refl) agreed good in
    by_open P H id txn moment login (settled_or_too_many id (held H t) count) (refused (Mismatch id) refl tt) (refused (Closed id) refl tt) (λ o. by_held P id (held H t) count (refused (TooMany id (held H t)) refl tt) (λ enough. (let have : held H t ≡ granted_in H t = rw o.open_still refl in record {
      within = within_settled day default H id id txn moment login count count (good.uniform t moment login o.agreed) (neither_second (has_retired_run H t) (ended H t) o.open_still) (omega (arith, have, enough)) good.within;
      uniform = uniform_push H (entry (Settle id txn moment login count) (Settled id count)) o.agreed good.uniform;
    })))
good_step day default H (Release id txn moment login) good =
    let quiet : (a : Reply) → IsGoodWith day default H (Release id txn moment login) a = λ a. good_quiet day default H _ a refl refl (λ l d. refl) tt good in
    by_open (IsGoodWith day default H (Release id txn moment login)) H id txn moment login (Released id (held H (transaction id txn))) (quiet (Mismatch id)) (quiet (Closed id)) (λ _. quiet (Released id (held H (transaction id txn))))
good_step day default H (Limit id from c login) good = by_over (IsGoodWith day default H (Limit id from c login)) day H id from c login (λ none. record {
  within = within_limit day default H id id from c login none good.within;
  uniform = uniform_push H (entry (Limit id from c login) (LimitSet id)) tt good.uniform;
}) (λ d _. good_quiet day default H _ _ refl refl (λ l k. refl) tt good)
good_step day default H r good = good_quiet day default H _ _ refl refl (λ l d. refl) tt good

pub legal_good : (day : ℕ → ℕ) (default : ℕ) (H : List Entry) → IsLegal day default H → IsGood day default H
unfolding StaysWithin
legal_good day default = of_legal day default (IsGood day default) (record { within = λ l d. omega arith; uniform = λ t moment login ok. tt }) (good_step day default)
