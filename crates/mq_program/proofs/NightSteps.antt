-- What a night leaves, by what its serving gave.
use Rattle.mq_lemmas.proofs.Lists.{all_but_last}
use Rattle.std.proofs.Common.{Result, Ok, Err, List, [], ◌∷◌, ◌++◌, Option, Some, None, sym, subst, subst₂}
use Rattle.std.specs.Prelude.{◌≡◌, ℕ, IfOk, IfSome, IsSomeAnd}
use Rattle.std.specs.List.{AllByRecursion}
use Rattle.sqlite.specs.Effect.{Database}
use Rattle.sqlite.specs.State.{State}
use Rattle.mq_ledger.specs.declared.zone.Zone.{Zone}
use Rattle.mq_forget.specs.Remembered.{remembered}
use Rattle.mq_ledger.specs.Day.{day_of}
use Rattle.mq_ledger.specs.Legal.{IsLegalBook}
use Rattle.mq_connections.specs.declared.fault.RoomFault.TheVariants.{Store}
use Rattle.mq_connections.specs.Asking.{out}
use Rattle.mq_connections.specs.Gained.{Callers}
use Rattle.mq_connections.specs.Sessions.{EndsServing, Outside}
use Rattle.mq_connections.specs.Wires.{Wire}
use Rattle.mq_store.specs.Forgetting.{IsRemembered}
use Rattle.mq_store.specs.Soundness.{book_in, HasKept, IsSound}
use Rattle.mq_nights.specs.Nights.{WasDue}
use Rattle.mq_program.specs.declared.fault.ProgramFault.{ProgramFault}
use Rattle.mq_program.specs.declared.fault.ProgramFault.TheVariants.{Serve}
use Rattle.mq_program.specs.Nights.{AfterNights, AreKept, AreServed, Begun, Closes, HasDawned, HasPassed, IsAsBefore, Night, ServesNights, Stayed}
use Rattle.mq_program.specs.Serving.{Serves}
use Rattle.mq_program.proofs.ServingEnds.{ends_still}

-- what holds of what a night gave holds of what is made of that
pub next_one : {A B E : Type 0} (outcome : Result (Option A) E) (night : Option B) (R : A → B → Type 0) (P : B → Type 0) (Q : A → Type 0)
    → IfOk outcome (λ dawn. IfSome dawn (λ d. IsSomeAnd night (R d))) → IfSome night P → ((d : A) (n : B) → R d n → P n → Q d)
    → IfOk outcome (λ dawn. IfSome dawn Q)
next_one (Ok (Some d)) (Some n) R P Q next has by = by d n next has
next_one (Ok (Some d)) None R P Q next has by = absurd next
next_one (Ok None) night R P Q next has by = tt
next_one (Err e) night R P Q next has by = tt

-- both hold of the night's new ledger
pub both_some : {B : Type 0} (night : Option B) (P Q : B → Type 0) → IfSome night P → IfSome night Q → IfSome night (λ n. P n × Q n)
both_some (Some n) P Q p q = (p, q)
both_some None P Q p q = tt

-- a store that is as before has what is remembered
pub remembered_on : (zone : Zone) (default day : ℕ) (old : Database) (before now : State) → IsAsBefore zone default before now → HasKept now → IsRemembered zone default day old before → IsRemembered zone default day old now
remembered_on zone default day old before now still kept has = record {
  sound = still.sound kept has.sound;
  history = subst (λ (db : Database). (book_in zone default db).history ≡ remembered (day_of zone) day (book_in zone default old).history) (sym (still.same kept)) has.history;
}

-- what was closed before had kept its premise, and so had the last, where all that is closed now had
pub kept_before : {C : Type 0} (P : C → Type 0) (old : Option (List C)) (last : C) (new : Option (List C)) → Closes old last new → AreKept P new → AreKept P old × P last
kept_before P (Some before) last new closes kept = all_but_last P before last (subst (AreKept P) closes kept)
kept_before P None last new closes kept = absurd (subst (AreKept P) closes kept)

-- nights after nights
nights_on : {who : Callers} {shows : ℕ → Type 0} {keep : ℕ} (start b c : Outside) → AfterNights who shows keep start b → AfterNights who shows keep b c → AfterNights who shows keep start c
nights_on start b c before Begun = before
nights_on start b c before (Night m grown day after served due) = Night m grown day (nights_on start b m before after) served due
nights_on start b c before (Stayed m grown after served) = Stayed m grown (nights_on start b m before after) served

passed_on : {A : Type 0} {who : Callers} {shows : ℕ → Type 0} {keep : ℕ} (start b now : Outside) (outcome : Result A ProgramFault) → AfterNights who shows keep start b → ServesNights who shows keep b now outcome → ServesNights who shows keep start now outcome
passed_on start b now outcome before nights = record { dawn = nights.dawn; nights = nights_on start b nights.dawn before nights.nights; served = nights.served }

-- what holds of each ledger that a night may have left, of the one that it left
pub dawn_of : {A E : Type 0} (o : Result (Option A) E) (f : Option A) (d : A) (P : A → Type 0) → o ≡ Ok f → f ≡ Some d → IfOk o (λ x. IfSome x P) → P d
dawn_of o f d P a b p = subst (λ x. IfSome x P) b (subst (λ x. IfOk x (λ y. IfSome y P)) a p)

module _ {who : Callers} {shows : ℕ → Type 0} {keep : ℕ} (zone z : Zone) (default d : ℕ) (zone_is : z ≡ zone) (default_is : d ≡ default) (start : Outside) (wires : ℕ → Wire) where
  -- one night
  pub one_night : (day : ℕ) (old : Database) (new : State) → AreServed who start (out (book_in z d old) wires) → WasDue shows keep day start.book (book_in z d old) → IsRemembered zone default day old new
      → AfterNights who shows keep start (out (book_in zone default new.now) wires)
  one_night day old new served due has =
      let grown : Outside = out (book_in zone default old) wires in
      let same : AreServed who start grown = subst₂ (λ k n. AreServed who start (out (book_in k n old) wires)) zone_is default_is served in
      let then : WasDue shows keep day start.book grown.book = subst₂ (λ k n. WasDue shows keep day start.book (book_in k n old)) zone_is default_is due in
      subst (λ h. AfterNights who shows keep start (out (record { zone = zone; default = default; history = h }) wires)) (sym has.history) (Night start grown day Begun same then)

  -- a night in which the former ledger stayed
  pub stayed : (new : State) → IsSound z d new → AreServed who start (out (book_in z d new.now) wires) → HasDawned who shows keep zone default start new wires
  stayed new sound served = (
    subst₂ (λ k n. IsSound k n new) zone_is default_is sound,
    Stayed start (out (book_in zone default new.now) wires) Begun (subst₂ (λ k n. AreServed who start (out (book_in k n new.now) wires)) zone_is default_is served),
  )

  -- a serving without a night
  pub passed_at_once : {A : Type 0} (new : State) (outcome : Result A ProgramFault) → IsSound z d new → Serves who start (out (book_in z d new.now) wires) outcome → HasPassed who shows keep zone default start new wires outcome
  passed_at_once new outcome sound served = (
    subst₂ (λ k n. IsSound k n new) zone_is default_is sound,
    record { dawn = start; nights = Begun; served = subst₂ (λ k n. Serves who start (out (book_in k n new.now) wires) outcome) zone_is default_is served },
  )

-- nights after which nothing was served
pub passed_still : {A : Type 0} {who : Callers} {shows : ℕ → Type 0} {keep : ℕ} (zone : Zone) (default : ℕ) (start : Outside) (new : State) (wires : ℕ → Wire) (outcome : Result A ProgramFault) → (outcome ≡ Err (Serve Store) → ⊥) → ((o : Outside) → IsLegalBook o.book → EndsServing {A = Unit {0}} who o o Store (Ok tt))
    → HasDawned who shows keep zone default start new wires → HasPassed who shows keep zone default start new wires outcome
passed_still zone default start new wires outcome other none (sound, nights) =
    let o : Outside = out (book_in zone default new.now) wires in
    (sound, record { dawn = o; nights = nights; served = ends_still o outcome other (none o sound.legal) })

module _ {who : Callers} {shows : ℕ → Type 0} {keep : ℕ} (zone z : Zone) (default d : ℕ) (zone_is : z ≡ zone) (default_is : d ≡ default) (start : Outside) (old : State) (wires : ℕ → Wire) (new : State) (after : ℕ → Wire) (before : AfterNights who shows keep start (out (book_in zone default old.now) wires)) where
  -- one more night
  pub dawn_on : HasDawned who shows keep z d (out (book_in z d old.now) wires) new after → HasDawned who shows keep zone default start new after
  dawn_on has =
      let (sound, nights) = subst₂ (λ k n. HasDawned who shows keep k n (out (book_in k n old.now) wires) new after) zone_is default_is has in
      (sound, nights_on start (out (book_in zone default old.now) wires) (out (book_in zone default new.now) after) before nights)

  -- the last ones
  pub end_on : {A : Type 0} (outcome : Result A ProgramFault) → HasPassed who shows keep z d (out (book_in z d old.now) wires) new after outcome → HasPassed who shows keep zone default start new after outcome
  end_on outcome has =
      let (sound, nights) = subst₂ (λ k n. HasPassed who shows keep k n (out (book_in k n old.now) wires) new after outcome) zone_is default_is has in
      (sound, passed_on start (out (book_in zone default old.now) wires) (out (book_in zone default new.now) after) outcome before nights)
