-- A renewal beside a ledger to which requests came.
use Rattle.std.proofs.Common.{◌≡◌, ℕ, List, ◌++◌, Option, None, Some, refl, sym, subst, ◌∙◌}
use Rattle.std.specs.Prelude.{IfSome}
use Rattle.sqlite.specs.Effect.{Database}
use Rattle.sqlite.specs.State.{State}
use Rattle.mq_request.specs.declared.message.Request.{Request}
use Rattle.mq_ledger.specs.Answer.{history_of}
use Rattle.mq_ledger.specs.Day.{day_of}
use Rattle.mq_ledger.specs.History.{requests}
use Rattle.mq_ledger.specs.Legal.{Book, IsLegal, IsLegalBook}
use Rattle.mq_ledger.specs.declared.entry.Entry.{Entry}
use Rattle.mq_ledger.specs.declared.zone.Zone.{Zone}
use Rattle.mq_chore.specs.Choring.{HasCome}
use Rattle.mq_connections.proofs.Choring.{come_of, grown_of}
use Rattle.mq_server.specs.Delivery.{HasGrown}
use Rattle.mq_store.specs.declared.renewal_place.RenewalPlace.{RenewalPlace}
use Rattle.mq_store.specs.Renewing.{HasCarried}
use Rattle.mq_store.specs.Soundness.{HasKept}
use Rattle.mq_store.proofs.Beside.{carried_since}
use Rattle.mq_nights.specs.declared.lookout.Sight.TheVariants.{Before as Sighted}
use Rattle.mq_nights.specs.Nights.{FindsDue, FitsNight, IsUnderWay, WasDue}

-- two facts of what may be there give a third
pub if_some : {A : Type 0} (o : Option A) (P Q R : A → Type 0) → ((a : A) → P a → Q a → R a) → IfSome o P → IfSome o Q → IfSome o R
if_some (Some a) P Q R f p q = f a p q
if_some None P Q R f p q = tt

pub if_three : {A : Type 0} (o : Option A) (P Q R S : A → Type 0) → ((a : A) → P a → Q a → R a → S a) → IfSome o P → IfSome o Q → IfSome o R → IfSome o S
if_three (Some a) P Q R S f p q r = f a p q r
if_three None P Q R S f p q r = tt

-- what is there
pub there : {A : Type 0} (o : Option A) (a : A) (P : A → Type 0) → o ≡ Some a → IfSome o P → P a
there o a P is p = subst (λ x. IfSome x P) is p

-- nothing is there of which it would have to hold
pub none_there : {A : Type 0} (o : Option A) (P : A → Type 0) → o ≡ None → IfSome o P
none_there o P is = subst (λ x. IfSome x P) (sym is) tt

-- no request came
pub none_came : ((b : Book) → IsLegalBook b → HasGrown b b) → (b : Book) → IsLegalBook b → HasCome b b
none_came none b legal = come_of b b refl refl (none b legal)

abbrev MoreCame : Type 0
MoreCame = (b k c : Book) → IsLegalBook k → k.zone ≡ b.zone → k.default ≡ b.default → HasGrown b k → HasGrown k c → HasGrown b c

pub come_on : MoreCame → (a b c : Book) → IsLegalBook b → HasCome a b → HasCome b c → HasCome a c
come_on more a b c legal came since =
    come_of a c (since.zone ∙ came.zone) (since.default ∙ came.default) (more a b c legal came.zone came.default (grown_of a b came) (grown_of b c since))

-- what was due stays so
pub due_on : MoreCame → (shows : ℕ → Type 0) (keep day day' : ℕ) (begun since now : Book) → IsLegalBook since → HasCome since now → day' ≡ day
    → WasDue shows keep day begun since → WasDue shows keep day' begun now
due_on more shows keep day day' begun since now legal come is due = record {
  book = due.book;
  before = due.before;
  found = subst (λ d. FindsDue shows keep due.book (Sighted d)) (sym is) due.found;
  since = come_on more due.book since now legal due.since come;
}

-- what was found due of what the ledger meant just now was due
pub due_now : (shows : ℕ → Type 0) (keep keep' day : ℕ) (begun now later : Book) → keep' ≡ keep → HasCome begun now → HasCome now later
    → FindsDue shows keep' now (Sighted day) → WasDue shows keep day begun later
due_now shows keep keep' day begun now later is before since found = record {
  book = now;
  before = before;
  found = subst (λ k. FindsDue shows k now (Sighted day)) is found;
  since = since;
}

module _ (law : (zone : Zone) (default D : ℕ) (H : List Entry) (came : List Request) (at : RenewalPlace) (new scratch : Database) → IsLegal (day_of zone) default H → HasCarried zone default D H at new scratch
    → HasCarried zone default D (history_of (day_of zone) default (requests H ++ came)) at new scratch) (more : MoreCame) where
  -- what follows of it over the book to which requests came follows of what fitted before them
  pub comes_on : (fresh Q : Type 0) (shows : ℕ → Type 0) (keep : ℕ) (begun since now later : Book) (zone zone' : Zone) (default default' day day' : ℕ) (at : RenewalPlace) (new scratch : State)
      → IsLegalBook since → HasCome since now → later ≡ now → zone' ≡ zone → default' ≡ default → day' ≡ day
      → (IsUnderWay now day at new scratch → Q) → FitsNight fresh shows keep begun since zone default day at new scratch
      → (zone' ≡ later.zone) × (default' ≡ later.default) × WasDue shows keep day' begun later × (fresh → Q)
  comes_on fresh Q shows keep begun since now later zone zone' default default' day day' at new scratch legal come same z d is step f =
      let at_now : (zone' ≡ now.zone) × (default' ≡ now.default) × WasDue shows keep day' begun now = (
        z ∙ f.0 ∙ sym come.zone,
        d ∙ f.1 ∙ sym come.default,
        due_on more shows keep day day' begun since now legal come is f.2,
      ) in
      let (zone_is, default_is, due) = subst (λ b. (zone' ≡ b.zone) × (default' ≡ b.default) × WasDue shows keep day' begun b) (sym same) at_now in
      (zone_is, default_is, due, λ fresh. step (λ (kept : HasKept new). carried_since law day since now at new.now scratch.now legal come (f.3 fresh kept)))
