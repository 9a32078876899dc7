-- How a night ends.
use Rattle.std.proofs.Common.{◌≡◌, ℕ, Option, None, Some, Result, Ok, Err, sym, subst}
use Rattle.std.specs.Prelude.{IfOk, IfSome, MatchOption}
use Rattle.sqlite.specs.Effect.{Database}
use Rattle.sqlite.specs.State.{State}
use Rattle.mq_ledger.specs.declared.zone.Zone.{Zone}
use Rattle.mq_store.specs.Forgetting.{IsRemembered}
use Rattle.mq_store.specs.Soundness.{HasKept, book_in}
use Rattle.mq_connections.specs.Gained.{Callers}
use Rattle.mq_connections.specs.Sessions.{EndsServing, Outside}
use Rattle.mq_nights.specs.Nights.{HasRenewed}

-- a serving's end, where the store's failure may have another name
pub ends_as : {A B E F : Type 0} {who : Callers} (old new : Outside) (store : E) (r : Result A E) (failed : F) (q : Result B F)
    → EndsServing who old new store r → (r ≡ Err store → q ≡ Err failed) → (q ≡ Err failed → r ≡ Err store) → EndsServing who old new failed q
ends_as old new store r failed q ends to back = record {
  failed = ends.failed;
  served = ends.served;
  stops = λ some. to (ends.stops some);
  only = λ is. ends.only (back is);
  at = ends.at;
  offered = ends.offered;
}

-- what follows of a night's new ledger
pub night_on : {A E : Type 0} (result : Result (Option A) E) (P Q : A → Type 0) → ((a : A) → P a → Q a) → IfOk result (λ night. IfSome night P) → IfOk result (λ night. IfSome night Q)
night_on (Ok (Some a)) P Q f p = f a p
night_on (Ok None) P Q f p = tt
night_on (Err e) P Q f p = tt

-- what follows of the new ledger that was taken out of a chore that is done
pub taken : {R A : Type 0} (o : Option R) (renewed : Option A) (D : R → Type 0) (J : R → A → Type 0) (Q : A → Type 0) → MatchOption o ⊥ D → MatchOption o (renewed ≡ None) (λ r. IfSome renewed (J r))
    → ((r : R) (n : A) → D r → J r n → Q n) → IfSome renewed Q
taken None renewed D J Q d j f = absurd d
taken (Some r) (Some n) D J Q d j f = f r n d j
taken (Some r) None D J Q d j f = tt

-- it has what is remembered
pub remembered_by : (zone zone' : Zone) (default default' day day' : ℕ) (old : Database) (new : State) → zone' ≡ zone → default' ≡ default → day' ≡ day
    → HasRenewed (book_in zone' default' old) day new → HasKept new → IsRemembered zone default day' old new
remembered_by zone zone' default default' day day' old new z d is h kept =
    let at : IsRemembered zone' default' day old new = record { sound = h.sound kept; history = h.history kept } in
    let by_zone : IsRemembered zone default' day old new = subst (λ (x : Zone). IsRemembered x default' day old new) z at in
    let by_default : IsRemembered zone default day old new = subst (λ (x : ℕ). IsRemembered zone x day old new) d by_zone in
    subst (λ (x : ℕ). IsRemembered zone default x old new) (sym is) by_default
