-- Entries one after another.
use Rattle.mq_forget.proofs.Words.{All, Entry, IsLegal, IsMoment, IsRequest, List, Release, Request, Reserve, Settle, Some, Transaction, [], ap, arith, either, false, history_of, inl, inr, is_of, length, moment_of, named, remembered, requests, stays, subst, sym, take, true, ℕ, ◌++◌, ◌+◌, ◌<◌}
use Rattle.mq_forget.proofs.Words.{◌∙◌, ◌∷◌, ◌≡◌}
use Rattle.std.proofs.Common.{suc, drop, get_or}
use Rattle.std.proofs.lemmas.List.{drop_more, take-append-drop, take_more}
use Rattle.mq_forget.specs.Carried.{IsFront}

moment_in_range : (t : Transaction) (r : Request) → is_of t r ≡ true → IsRequest r → IsMoment (moment_of r)
moment_in_range t (Reserve id txn moment login count) h k = k.2
moment_in_range t (Settle id txn moment login count) h k = k.2
moment_in_range t (Release id txn moment login) h k = k.2
moment_in_range t r h k = absurd (cc h)

-- the moment of the entry that names a transaction is in range
pub named_in_range : (H : List Entry) (t : Transaction) (e : Entry) → All (λ x. IsRequest x.request) H → named H t ≡ Some e → IsMoment (moment_of e.request)
named_in_range [] t e all h = absurd (cc h)
named_in_range (x ∷ H) t e all h = elim (either (is_of t x.request)) [
  | inl mine ↦ (let k : Some x ≡ Some e = rw mine at h in
      let same : x ≡ e = cc k in
      subst (λ y. IsMoment (moment_of y.request)) same (moment_in_range t x.request mine (all 0 x (omega arith))))
  | inr other ↦ (let rest : named H t ≡ Some e = rw other at h in
      named_in_range H t e (λ k d less. all (suc k) d (omega arith)) rest)
]

pub front_at : (H : List Entry) (i : ℕ) → IsFront (take i H) H
front_at H i = record { rest = drop i H; is = take-append-drop i H }

-- the next entry of a whole
pub next_of : (H : List Entry) (i : ℕ) (e : Entry) → i < length H → e ≡ get_or H i e → take i H ++ e ∷ drop (i + 1) H ≡ H
next_of H i e less is = ap (λ x. take i H ++ x ∷ drop (i + 1) H) is ∙ ap (λ xs. take i H ++ xs) (sym (drop_more H i e less)) ∙ take-append-drop i H

pub more_of : (H : List Entry) (i : ℕ) (e : Entry) → i < length H → e ≡ get_or H i e → take (i + 1) H ≡ take i H ++ e ∷ []
more_of H i e less is = take_more H i e less ∙ ap (λ x. take i H ++ x ∷ []) (sym is)

-- The laws at the next entry.
module _ (day : ℕ → ℕ) (default D : ℕ)
    (put : (H S : List Entry) (e : Entry) → IsLegal day default (H ++ e ∷ S) → stays day D (H ++ e ∷ S) e ≡ true → history_of day default (requests (remembered day D H) ++ e.request ∷ []) ≡ remembered day D (H ++ e ∷ []))
    (left : (H S : List Entry) (e : Entry) → IsLegal day default (H ++ e ∷ S) → stays day D (H ++ e ∷ S) e ≡ false → remembered day D (H ++ e ∷ []) ≡ remembered day D H)
    (H : List Entry) (i : ℕ) (e : Entry) (less : i < length H) (is : e ≡ get_or H i e) (legal : IsLegal day default H) where
  split : take i H ++ e ∷ drop (i + 1) H ≡ H
  split = next_of H i e less is

  pub put_next : stays day D H e ≡ true → history_of day default (requests (remembered day D (take i H)) ++ e.request ∷ []) ≡ remembered day D (take (i + 1) H)
  put_next stay = put (take i H) (drop (i + 1) H) e (subst (IsLegal day default) (sym split) legal) (subst (λ x. stays day D x e ≡ true) (sym split) stay) ∙ ap (remembered day D) (sym (more_of H i e less is))

  pub left_next : stays day D H e ≡ false → remembered day D (take i H) ≡ remembered day D (take (i + 1) H)
  left_next go = sym (left (take i H) (drop (i + 1) H) e (subst (IsLegal day default) (sym split) legal) (subst (λ x. stays day D x e ≡ false) (sym split) go)) ∙ ap (remembered day D) (sym (more_of H i e less is))
