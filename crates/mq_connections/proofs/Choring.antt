-- A server goes on where a chore alongside leaves the book and what is told of it.
use Rattle.std.proofs.Common.{◌≡◌, ℕ, List, [], ◌∷◌, ◌++◌, map, Option, Result, Err, refl, sym, subst, ap, ◌∙◌}
use Rattle.mq_request.specs.declared.message.Request.{Request}
use Rattle.mq_ledger.specs.declared.ledger.ReportedCall.{ReportedCall}
use Rattle.mq_ledger.specs.Answer.{history_of}
use Rattle.mq_ledger.specs.Day.{day_of}
use Rattle.mq_ledger.specs.History.{requests}
use Rattle.mq_ledger.specs.Legal.{Book, IsLegalBook}
use Rattle.mq_server.specs.Delivery.{HasGrown, arrivals}
use Rattle.mq_server.specs.Held.{State}
use Rattle.mq_chore.specs.Choring.{HasCome, Fitted}
use Rattle.mq_server.proofs.Deliveries.{taken}
use Rattle.mq_connections.specs.Gained.{Callers}
use Rattle.mq_connections.specs.Sessions.{GoesOn, GoesOnOrStops, Outside}
use Rattle.mq_connections.specs.Wires.{Wire}

pub goes_alongside : {who : Callers} (old : Outside) (a b : Book) (told told' : Option (List ReportedCall)) (wires : ℕ → Wire) (last : ℕ) (held : ℕ → Option State) (failed : Option Request)
    → b.zone ≡ a.zone → b.default ≡ a.default → b.history ≡ a.history → told' ≡ told
    → GoesOn who old (record { book = a; told = told; wires = wires }) last held failed
    → GoesOn who old (record { book = b; told = told'; wires = wires }) last held failed
goes_alongside {who} old a b told told' wires last held failed zone default history same goes =
    let book : b ≡ a = λ i. record { zone = zone i; default = default i; history = history i } in
    let out : Outside = record { book = b; told = told'; wires = wires } in
    let path : out ≡ record { book = a; told = told; wires = wires } = λ i. record { book = book i; told = same i; wires = wires } in
    subst (λ (o : Outside). GoesOn who old o last held failed) (sym path) goes

abbrev fault_of : (A : Type 0) {E : Type 0} → E → Result A E
fault_of A x = Err x

err_inj : (A : Type 0) {E : Type 0} (x y : E) → fault_of A x ≡ fault_of A y → x ≡ y
err_inj A x y is = cc

-- an end by a fault is one whatever would have been answered
pub goes_at : {A B E : Type 0} {who : Callers} (old new : Outside) (last : ℕ) (held : ℕ → Option State) (store fault : E)
    → GoesOnOrStops who old new last held store (fault_of A fault) → GoesOnOrStops who old new last held store (fault_of B fault)
goes_at {A} {B} {E} old new last held store fault g = record {
  failed = g.failed;
  goes = g.goes;
  stops = λ some. ap (fault_of B) (err_inj A fault store (g.stops some));
  only = λ is. g.only (ap (fault_of A) (err_inj B fault store is));
}

-- What a chore has done fits a ledger to which more came.

all_taken : (rs : List Request) → arrivals (map taken rs) ≡ rs
all_taken [] = refl
all_taken (r ∷ rs) = ap (λ (xs : List Request). r ∷ xs) (all_taken rs)

pub grown_of : (b later : Book) → HasCome b later → HasGrown b later
grown_of b later come = (map taken come.came, come.history ∙ ap (λ (rs : List Request). history_of (day_of b.zone) b.default (requests b.history ++ rs)) (sym (all_taken come.came)))

pub come_of : (b later : Book) → later.zone ≡ b.zone → later.default ≡ b.default → HasGrown b later → HasCome b later
come_of b later zone default grown = record { came = arrivals grown.0; zone = zone; default = default; history = grown.1 }

-- requests came since
pub fitted_on : ((b k c : Book) → IsLegalBook k → k.zone ≡ b.zone → k.default ≡ b.default → HasGrown b k → HasGrown k c → HasGrown b c)
    → (fits : Book → Type 0) (now later : Book) → IsLegalBook now → later.zone ≡ now.zone → later.default ≡ now.default → HasGrown now later → Fitted fits now → Fitted fits later
fitted_on more fits now later legal zone default grown f = record {
  since = f.since;
  legal = f.legal;
  fitted = f.fitted;
  come = come_of f.since later (zone ∙ f.come.zone) (default ∙ f.come.default) (more f.since now later legal f.come.zone f.come.default (grown_of f.since now f.come) grown);
}

-- a piece of it was just done
pub fitted_now : ((b : Book) → IsLegalBook b → HasGrown b b) → (fits : Book → Type 0) (now : Book) → IsLegalBook now → fits now → Fitted fits now
fitted_now none fits now legal f = record { since = now; legal = legal; fitted = f; come = come_of now now refl refl (none now legal) }
