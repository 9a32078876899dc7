-- What was taken over of a history, step by step, while it goes on.
use Rattle.std.proofs.Common.{List, None, Option, Some, [], ap, append-nil, append_assoc, arith, inl, inr, length, length-append, subst, sym, take, ℕ, ◌++◌, ◌+◌, ◌∙◌, ◌∷◌, ◌≡◌, ◌≤◌}
use Rattle.mq_store.proofs.Words.{Book, Database, Entry, Id, Request, State, Zone, answer, cases_Bool, day_of, history_of, id_of, known_by, remembered, requests, take-append-le, with_arrival, with_arrival_by}
use Rattle.std.proofs.Math.Seq.{take-length}
use Rattle.mq_store.specs.declared.renewal_place.RenewalPlace.{RenewalPlace}
use Rattle.mq_store.specs.Forgetting.{IsRemembered}
use Rattle.mq_store.specs.Renewing.{HasCarried, Renews, IsThrough, Ends}
use Rattle.mq_store.specs.Soundness.{HasKept, book_in}
use Rattle.mq_store.specs.Taking.{HasBook, book_of}
use Rattle.mq_store.proofs.Sound.{Means, means_book, sound_book}

module _ (zone : Zone) (default D : ℕ) where
  -- before the first step
  pub carried_none : (H : List Entry) (at : RenewalPlace) (new scratch : Database) → at.place ≡ 0 → at.followed ≡ 0
      → HasBook (book_of zone default []) new → HasBook (book_of zone default []) scratch → HasCarried zone default D H at new scratch
  carried_none H at new scratch none none' n s = record {
    within = omega (arith, none);
    carried = subst (λ k. HasBook (book_of zone default (remembered (day_of zone) D (take k H))) new) (sym none) n;
    followed = subst (λ k. HasBook (book_of zone default (take k H)) scratch) (sym none') s;
  }

  -- after further entries
  pub carried_more : (H S : List Entry) (at : RenewalPlace) (new scratch : Database) → HasCarried zone default D H at new scratch → HasCarried zone default D (H ++ S) at new scratch
  carried_more H S at new scratch c =
      let behind : at.followed ≤ length H = omega (arith, c.within, at.before) in
      let len : length (H ++ S) ≡ length H + length S = length-append H S in
      record {
        within = omega (arith, c.within, len);
        carried = subst (λ K. HasBook (book_of zone default (remembered (day_of zone) D K)) new) (sym (take-append-le at.place H S c.within)) c.carried;
        followed = subst (λ K. HasBook (book_of zone default K) scratch) (sym (take-append-le at.followed H S behind)) c.followed;
      }

  arrived_by : (H : List Entry) (r : Request) (o : Option Id) (at : RenewalPlace) (new scratch : Database) → HasCarried zone default D H at new scratch → HasCarried zone default D (with_arrival_by (day_of zone) default H r o) at new scratch
  arrived_by H r None at new scratch c = c
  arrived_by H r (Some id) at new scratch c = elim (cases_Bool (known_by H (Some id))) [
    | inl known ↦ rw known c
    | inr first ↦ rw first (carried_more H (record { request = r; reply = answer (day_of zone) default H r } ∷ []) at new scratch c)
  ]

  arrived_all : ((A : List Request) (r : Request) → history_of (day_of zone) default (A ++ r ∷ []) ≡ with_arrival (day_of zone) default (history_of (day_of zone) default A) r)
      → (A B : List Request) (at : RenewalPlace) (new scratch : Database) → HasCarried zone default D (history_of (day_of zone) default A) at new scratch → HasCarried zone default D (history_of (day_of zone) default (A ++ B)) at new scratch
  arrived_all one A [] at new scratch c = subst (λ (rs : List Request). HasCarried zone default D (history_of (day_of zone) default rs) at new scratch) (sym (append-nil A)) c
  arrived_all one A (r ∷ B) at new scratch c =
      let next = subst (λ (K : List Entry). HasCarried zone default D K at new scratch) (sym (one A r)) (arrived_by (history_of (day_of zone) default A) r (id_of r) at new scratch c) in
      subst (λ (rs : List Request). HasCarried zone default D (history_of (day_of zone) default rs) at new scratch) (append_assoc A (r ∷ []) B) (arrived_all one (A ++ r ∷ []) B at new scratch next)

  -- after any arrivals
  pub carried_over : ((A : List Request) (r : Request) → history_of (day_of zone) default (A ++ r ∷ []) ≡ with_arrival (day_of zone) default (history_of (day_of zone) default A) r)
      → (H : List Entry) (came : List Request) (at : RenewalPlace) (new scratch : Database) → history_of (day_of zone) default (requests H) ≡ H
      → HasCarried zone default D H at new scratch → HasCarried zone default D (history_of (day_of zone) default (requests H ++ came)) at new scratch
  carried_over one H came at new scratch again c =
      arrived_all one (requests H) came at new scratch (subst (λ (K : List Entry). HasCarried zone default D K at new scratch) (sym again) c)

  -- once there is no further entry
  pub carried_all : (H : List Entry) (at : RenewalPlace) (new scratch : Database) → HasCarried zone default D H at new scratch → length H ≤ at.place → HasBook (book_of zone default (remembered (day_of zone) D H)) new
  carried_all H at new scratch c all =
      let is : at.place ≡ length H = omega (arith, c.within, all) in
      subst (λ K. HasBook (book_of zone default (remembered (day_of zone) D K)) new) (ap (λ n. take n H) is ∙ take-length H) c.carried

  -- a commit leaves what was written
  pub renews_still : (at to : RenewalPlace) (from n0 n1 n2 s0 s1 s2 : Database) → Renews zone default D at to from n0 n1 s0 s1 → n2 ≡ n1 → s2 ≡ s1 → Renews zone default D at to from n0 n2 s0 s2
  renews_still at to from n0 n1 n2 s0 s1 s2 renews new scratch H has c =
      subst (λ (s : Database). HasCarried zone default D H to n2 s) (sym scratch) (subst (λ (n : Database). HasCarried zone default D H to n s1) (sym new) (renews H has c))

  pub ends : (at to : RenewalPlace) (from n0 n1 n2 s0 s1 : Database) → Renews zone default D at to from n0 n1 s0 s1 → IsThrough zone default to from → n2 ≡ n1 → Ends zone default D at from n0 n2 s0
  ends at to from n0 n1 n2 s0 s1 renews through new H has c =
      subst (HasBook (book_of zone default (remembered (day_of zone) D H))) (sym new) (carried_all H to n1 s1 (renews H has c) (through H has))

  -- it is then a sound ledger with that history
  pub renewed : Means → (old new : State) → HasKept new → HasBook (book_of zone default (remembered (day_of zone) D (book_in zone default old.now).history)) new.now → IsRemembered zone default D old.now new
  renewed meaning old new kept over =
      let b : Book = book_of zone default (remembered (day_of zone) D (book_in zone default old.now).history) in
      record { sound = sound_book meaning b new kept over; history = ap (λ (x : Book). x.history) (means_book meaning b new.now over) }
