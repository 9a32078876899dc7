-- Closing one after another all that a retire gives up.
use Rattle.std.proofs.Common.{◌≡◌, ℕ, ◌≤◌, List, [], ◌∷◌, ◌++◌, Bool, true, false, refl, ◌∙◌, ap, sym, subst, inl, inr, filter, find, not, Option, Some, None, IsPermutation}
use Rattle.mq_rows.proofs.Words.{AllByRecursion, Entry, Id, In, Insert, IsOneIn, IsPermutation-filter, IsPermutation-sym, IsPermutation-trans, Keep, Leads, LeadsAll, TransactionRecord, Update, UsageRecord, abandoned_row, all-permutation, all_filter, all_weaker, either, filter_all, filter_none, fits, freed, is_transaction, is_usage, key_of, same_day, same_key, set_transaction, set_usage, those, used}
use Rattle.mq_rows.specs.declared.plan.Write.{Write}
use Rattle.mq_ledger.proofs.Transactions.{transaction_itself}
use Rattle.mq_rows.proofs.Closing.{is_to_close, AreRetiring, one_closed, closing_fits}
use Rattle.mq_rows.proofs.RowSums.{summed_row, Laws, key_row}
use Rattle.mq_rows.proofs.Lists.{find_of_those, in_any_order, none_pass, has_is}
use Rattle.mq_rows.proofs.Trans.{Ledger}

-- what a write leads to leads on
pub leads_on : {R : Type 0} (same : R → R → Bool) (set : R → R → R) (w : Write R) (rows : List R) (P Q : List R → Type 0) → ((after : List R) → P after → Q after) → Leads same set w rows P → Leads same set w rows Q
leads_on same set Keep rows P Q more h = more rows h
leads_on same set (Insert new) rows P Q more h = record { absent = h.absent; after = more (new ∷ rows) h.after }
leads_on same set (Update new) rows P Q more h = record { was = h.was; rest = h.rest; order = h.order; there = h.there; alone = h.alone; after = more (set new h.was ∷ h.rest) h.after }

-- those of a filter were there, and pass
module _ {R : Type 0} (p : R → Bool) where
  every : (rows : List R) → AllByRecursion (λ x. In x rows × (p x ≡ true)) (filter p rows)
  every [] = tt
  every (y ∷ rows) =
      let later = all_weaker (λ x. In x rows × (p x ≡ true)) (λ x. In x (y ∷ rows) × (p x ≡ true)) (λ x h. (inr h.0, h.1)) (filter p rows) (every rows) in
      elim (either (p y)) [ inl t ↦ rw t ((inl refl, t), later) | inr f ↦ rw f later ]

  filter_head : (x : R) (xs : List R) → p x ≡ true → filter p (x ∷ xs) ≡ x ∷ filter p xs
  filter_head x xs t = rw t refl

  filter_past : (x : R) (xs : List R) → p x ≡ false → filter p (x ∷ xs) ≡ filter p xs
  filter_past x xs f = rw f refl

none_left : {R : Type 0} (ys : List R) → filter (λ _. true) ys ≡ [] → ys ≡ []
none_left [] h = refl
none_left (y ∷ ys) h = absurd (cc h)

not_so : {R : Type 0} (q : R → Bool) (xs : List R) → AllByRecursion (λ x. q x ≡ false) xs → AllByRecursion (λ x. not (q x) ≡ true) xs
not_so q xs = all_weaker (λ x. q x ≡ false) (λ x. not (q x) ≡ true) (λ x f. ap not f) xs

-- where two lists begin with the one that passes, what follows is the same in any order
module _ {R : Type 0} (q : R → Bool) (x : R) (is : q x ≡ true) where
  abbrev others : R → Bool
  others r = not (q r)

  pub tails : (xs ys : List R) → AllByRecursion (λ r. q r ≡ false) ys → IsPermutation (x ∷ xs) (x ∷ ys) → IsPermutation xs ys
  tails xs ys apart same =
      let one : filter q (x ∷ ys) ≡ those (Some x) = filter_head q x ys is ∙ ap (λ l. x ∷ l) (filter_none q ys apart) in
      let back : filter q (x ∷ xs) ≡ those (Some x) = in_any_order q (x ∷ ys) (x ∷ xs) (IsPermutation-sym _ _ same) (Some x) one in
      let none : filter q xs ≡ [] = (let e : x ∷ filter q xs ≡ x ∷ [] = sym (filter_head q x xs is) ∙ back in cc e) in
      let left : filter others (x ∷ xs) ≡ xs = filter_past others x xs (ap not is) ∙ filter_all others xs (not_so q xs (none_pass q xs none)) in
      let right : filter others (x ∷ ys) ≡ ys = filter_past others x ys (ap not is) ∙ filter_all others ys (not_so q ys apart) in
      subst (λ l. IsPermutation l ys) left (subst (λ l. IsPermutation (filter others (x ∷ xs)) l) right (IsPermutation-filter others (x ∷ xs) (x ∷ ys) same))

pub none_found : {R : Type 0} (p : R → Bool) (rows : List R) → AllByRecursion (λ r. p r ≡ false) rows → find p rows ≡ None
none_found p [] h = refl
none_found p (r ∷ rows) h = rw h.0 (none_found p rows h.1)

-- where at most one row passes, it is the one that is found
one_found : {R : Type 0} (p : R → Bool) (rows : List R) (u o : Option R) → filter p rows ≡ those o → IsOneIn p rows u → u ≡ find p rows
one_found p rows None o are one = sym (none_found p rows one)
one_found p rows (Some r) o are one = sym (find_of_those p rows o are ∙ has_is p rows r o are one.0 one.1)

-- where none is left none is to be closed
pub none_to_close : (id : Id) (rows : List TransactionRecord) → IsPermutation [] (filter (is_to_close id) rows) → AllByRecursion (λ r. is_to_close id r ≡ false) rows
none_to_close id rows same =
    none_pass (is_to_close id) rows (none_left (filter (is_to_close id) rows) (in_any_order (λ _. true) [] (filter (is_to_close id) rows) same None refl))

-- So the rows are once some were closed: these are left to close.
pub record AreLeft (day : ℕ → ℕ) (H : List Entry) (id : Id) (these rows : List TransactionRecord) (usage : List UsageRecord) : Type 0 where
  pub stand : AreRetiring day H id rows usage
  pub left : IsPermutation these (filter (is_to_close id) rows)

module _ (day : ℕ → ℕ) (default : ℕ) (L : Ledger day default) (H : List Entry) (id : Id) (R : Laws day H) where
  abbrev close : TransactionRecord → Bool
  close = is_to_close id

  -- what is left to close
  left_over : (rest rows : List TransactionRecord) (was w : TransactionRecord) (others : List TransactionRecord) → IsPermutation (was ∷ rest) (filter close rows) → In was rows → close was ≡ true
      → IsPermutation (w ∷ others) rows → is_transaction (key_of was) w ≡ true → AllByRecursion (λ r. is_transaction (key_of was) r ≡ false) others
      → IsPermutation rest (filter close (set_transaction (abandoned_row was) w ∷ others))
  left_over rest rows was w others same there so order own alone =
      let q = is_transaction (key_of was) in
      let one : filter q (w ∷ others) ≡ those (Some w) = filter_head q w others own ∙ ap (λ l. w ∷ l) (filter_none q others alone) in
      let all : filter q rows ≡ those (Some w) = in_any_order q (w ∷ others) rows order (Some w) one in
      let is : was ≡ w = (let e = key_row rows was (Some w) all there in cc e) in
      let so' : close w ≡ true = ap close (sym is) ∙ so in
      let kept : filter close (w ∷ others) ≡ was ∷ filter close others = filter_head close w others so' ∙ ap (λ x. x ∷ filter close others) (sym is) in
      let both : IsPermutation (was ∷ rest) (was ∷ filter close others) =
      subst (IsPermutation (was ∷ rest)) kept (IsPermutation-trans _ _ _ same (IsPermutation-sym _ _ (IsPermutation-filter close (w ∷ others) rows order))) in
      let left : IsPermutation rest (filter close others) = tails q was (transaction_itself (key_of was)) rest (filter close others) (all_filter (λ r. q r ≡ false) close others alone) both in
      subst (IsPermutation rest) (sym (filter_past close (set_transaction (abandoned_row was) w) others refl)) left

  -- the first of those that are left is there
  first_is : (was : TransactionRecord) (rest rows : List TransactionRecord) → IsPermutation (was ∷ rest) (filter close rows) → In was rows × (close was ≡ true)
  first_is was rest rows same = (all-permutation (λ x. In x rows × (close x ≡ true)) (filter close rows) (was ∷ rest) (IsPermutation-sym _ _ same) (every close rows)).0

  own_found : (was : TransactionRecord) (rows : List TransactionRecord) (usage : List UsageRecord) → AreRetiring day H id rows usage → (u : Option UsageRecord) → IsOneIn (is_usage was.login was.day) usage u → u ≡ find (is_usage was.login was.day) usage
  own_found was rows usage b u one = one_found (is_usage was.login was.day) usage u (summed_row day H rows was.login was.day) (b.days was.login was.day) one

  -- some of them are closed, and these are left
  pub led : (these left rows : List TransactionRecord) (usage : List UsageRecord) → AreLeft day H id (these ++ left) rows usage → LeadsAll these rows usage (AreLeft day H id left)
  led [] left rows usage b = b
  led (was ∷ rest) left rows usage b = λ u one.
      let first = first_is was (rest ++ left) rows b.left in
      let step = one_closed day default L H id R rows usage b.stand was first.0 first.1 u (own_found was rows usage b.stand u one) in
      let after : List TransactionRecord = set_transaction (abandoned_row was) step.was ∷ step.rest in
      record {
        was = step.was;
        rest = step.rest;
        order = step.order;
        there = step.there;
        alone = step.alone;
        after = leads_on same_day set_usage (freed was.held was.held u) usage (AreRetiring day H id after) (λ used. LeadsAll rest after used (AreLeft day H id left))
            (λ usage' b'. led rest left after usage' (record {
              stand = b';
              left = left_over (rest ++ left) rows was step.was step.rest b.left first.0 first.1 step.order step.there step.alone;
            })) step.after;
      }

  -- the next of them can be closed, where what its login has used is in range
  pub next_fits : (was : TransactionRecord) (rest rows : List TransactionRecord) (usage : List UsageRecord) → AreLeft day H id (was ∷ rest) rows usage → used day H was.login was.day ≤ 1000000
      → (u : Option UsageRecord) → IsOneIn (is_usage was.login was.day) usage u → fits (Some was) u ≡ true
  next_fits was rest rows usage b low u one =
      let first = first_is was rest rows b.left in
      closing_fits day default L H id R rows usage b.stand was first.0 first.1 low u (own_found was rows usage b.stand u one)

-- and so do closings, one after another
pub all_lead_on : (these rows : List TransactionRecord) (usage : List UsageRecord) (P Q : List TransactionRecord → List UsageRecord → Type 0)
    → ((after : List TransactionRecord) (used : List UsageRecord) → P after used → Q after used) → LeadsAll these rows usage P → LeadsAll these rows usage Q
all_lead_on [] rows usage P Q more h = more rows usage h
all_lead_on (was ∷ rest) rows usage P Q more h = λ u found.
    leads_on same_key set_transaction (Update (abandoned_row was)) rows
    (λ after. Leads same_day set_usage (freed was.held was.held u) usage (λ used. LeadsAll rest after used P))
    (λ after. Leads same_day set_usage (freed was.held was.held u) usage (λ used. LeadsAll rest after used Q))
    (λ after. leads_on same_day set_usage (freed was.held was.held u) usage (λ used. LeadsAll rest after used P) (λ used. LeadsAll rest after used Q) (λ used. all_lead_on rest after used P Q more))
    (h u found)
