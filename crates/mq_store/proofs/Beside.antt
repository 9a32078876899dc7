-- A renewal beside requests: what fits a book fits the one to which requests came.
use Rattle.std.proofs.Common.{List, subst, sym, ℕ, ◌++◌, ◌≡◌}
use Rattle.mq_store.proofs.Words.{Book, Database, Entry, IsLegal, IsLegalBook, Request, State, Zone, day_of, history_of, remembered, requests}
use Rattle.mq_chore.specs.Choring.{HasCome}
use Rattle.mq_store.specs.declared.renewal_place.RenewalPlace.{RenewalPlace}
use Rattle.mq_store.specs.Renewing.{HasCarried}
use Rattle.mq_store.specs.Soundness.{IsSound, book_in}

module _ (law : (zone : Zone) (default D : ℕ) (H : List Entry) (came : List Request) (at : RenewalPlace) (new scratch : Database) → IsLegal (day_of zone) default H → HasCarried zone default D H at new scratch
    → HasCarried zone default D (history_of (day_of zone) default (requests H ++ came)) at new scratch) where
  pub carried_since : (D : ℕ) (since now : Book) (at : RenewalPlace) (new scratch : Database) → IsLegalBook since → HasCome since now
      → HasCarried since.zone since.default D since.history at new scratch → HasCarried now.zone now.default D now.history at new scratch
  carried_since D since now at new scratch legal come c =
      let next : Book = record { zone = since.zone; default = since.default; history = history_of (day_of since.zone) since.default (requests since.history ++ come.came) } in
      let path : now ≡ next = λ i. record { zone = come.zone i; default = come.default i; history = come.history i } in
      subst (λ (b : Book). HasCarried b.zone b.default D b.history at new scratch) (sym path) (law since.zone since.default D since.history come.came at new scratch legal.legal c)

pub carried_later : (D : ℕ) (now later : Book) (at : RenewalPlace) (new scratch : Database) → later ≡ now → HasCarried now.zone now.default D now.history at new scratch → HasCarried later.zone later.default D later.history at new scratch
carried_later D now later at new scratch is c = subst (λ (b : Book). HasCarried b.zone b.default D b.history at new scratch) (sym is) c

-- a ledger whose store is as it was means the book that it meant
pub same_book : (zone zone' : Zone) (default default' : ℕ) (old new : Database) → zone' ≡ zone → default' ≡ default → new ≡ old → book_in zone' default' new ≡ book_in zone default old
same_book zone zone' default default' old new z d n = λ i. book_in (z i) (d i) (n i)

pub done_later : (D E : ℕ) (now later : Book) (new : State) → later ≡ now → E ≡ D
    → IsSound now.zone now.default new × ((book_in now.zone now.default new.now).history ≡ remembered (day_of now.zone) D now.history)
    → IsSound later.zone later.default new × ((book_in later.zone later.default new.now).history ≡ remembered (day_of later.zone) E later.history)
done_later D E now later new is day both =
    subst (λ (k : ℕ). IsSound later.zone later.default new × ((book_in later.zone later.default new.now).history ≡ remembered (day_of later.zone) k later.history)) (sym day)
    (subst (λ (b : Book). IsSound b.zone b.default new × ((book_in b.zone b.default new.now).history ≡ remembered (day_of b.zone) D b.history)) (sym is) both)
