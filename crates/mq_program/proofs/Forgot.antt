-- A ledger that was made of what an old one remembers, and counted.
use Rattle.std.proofs.Common.{◌≡◌, ◌∙◌, List, Option, sym, subst, subst₂, length}
use Rattle.std.specs.Prelude.{ℕ}
use Rattle.sqlite.specs.Effect.{Database}
use Rattle.sqlite.specs.Recovery.{Image}
use Rattle.sqlite.specs.State.{State}
use Rattle.mq_ledger.specs.declared.zone.Zone.{Zone}
use Rattle.mq_ledger.specs.Day.{day_of}
use Rattle.mq_ledger.specs.Legal.{Book}
use Rattle.mq_forget.specs.Remembered.{remembered}
use Rattle.mq_store.specs.Forgetting.{IsRemembered}
use Rattle.mq_store.specs.Soundness.{IsSound, book_in}
use Rattle.mq_program.specs.Forgetting.{PrintsKeptOf, PrintsKeptOfFile}
use Rattle.mq_program.specs.Opened.{MeansFile}

module _ (zone mid_zone new_zone end_zone : Zone) (default mid_default new_default end_default : ℕ) (old mid : Database) (new end : State)
    (to_zone : mid_zone ≡ zone) (to_default : mid_default ≡ default) (to_old : mid ≡ old)
    (of_zone : new_zone ≡ mid_zone) (of_default : new_default ≡ mid_default) (end_at : end.now ≡ new.now) where
  -- the new ledger by its own zone and default
  pub sound_by : IsSound mid_zone mid_default new → IsSound new_zone new_default new
  sound_by sound = subst (λ z. IsSound z new_default new) (sym of_zone) (subst (λ d. IsSound mid_zone d new) (sym of_default) sound)

  pub remembered_at_end : (day : ℕ) → end_zone ≡ new_zone → end_default ≡ new_default → IsRemembered mid_zone mid_default day mid new → IsSound end_zone end_default end → IsRemembered zone default day old end
  remembered_at_end day same_zone same_default r sound = record {
    sound = subst (λ z. IsSound z default end) (same_zone ∙ of_zone ∙ to_zone) (subst (λ d. IsSound end_zone d end) (same_default ∙ of_default ∙ to_default) sound);
    history =
        subst (λ z. (book_in z default end.now).history ≡ remembered (day_of z) day (book_in z default old).history) to_zone
        (subst (λ d. (book_in mid_zone d end.now).history ≡ remembered (day_of mid_zone) day (book_in mid_zone d old).history) to_default
        (subst (λ db. (book_in mid_zone mid_default end.now).history ≡ remembered (day_of mid_zone) day (book_in mid_zone mid_default db).history) to_old
        (subst (λ db. (book_in mid_zone mid_default db).history ≡ remembered (day_of mid_zone) day (book_in mid_zone mid_default mid).history) (sym end_at) r.history)));
  }

  pub counted_at_end : (n : ℕ) → n ≡ length (book_in new_zone new_default new.now).history → n ≡ length (book_in zone default end.now).history
  counted_at_end n is =
      subst (λ z. n ≡ length (book_in z default end.now).history) (of_zone ∙ to_zone)
      (subst (λ d. n ≡ length (book_in new_zone d end.now).history) (of_default ∙ to_default)
      (subst (λ db. n ≡ length (book_in new_zone new_default db).history) (sym end_at) is))

-- the line has the answers of the book whose rows the files hold
pub kept_of_file : (zone z : Zone) (default d : ℕ) (image : Image) (s : State) (old new : Option (List ℕ)) → z ≡ zone → d ≡ default
    → (IsSound z d s → PrintsKeptOf (length (book_in z d s.now).history) old new) → MeansFile zone default image s → PrintsKeptOfFile image old new
kept_of_file zone z default d image s old new of_zone of_default printed means b keeps =
    let (bz, bd, is, book) = means b keeps in
    subst (λ (x : Book). PrintsKeptOf (length x.history) old new) book
    (subst₂ (λ k n. IsSound k n s → PrintsKeptOf (length (book_in k n s.now).history) old new) of_zone of_default printed is)
