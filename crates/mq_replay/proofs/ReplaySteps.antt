-- What the serving of connections says of a replay.
use Rattle.std.proofs.Common.{◌≡◌, ℕ, List, [], ◌++◌, ◌∷◌, Option, Some, Result, Ok, Err, length, map, take, drop, refl, sym, ap, ◌∙◌, arith}
use Rattle.std.proofs.lemmas.List.{take_all, take-append-le, length-map}
use Rattle.mq_ledger.specs.declared.zone.Zone.{Zone}
use Rattle.mq_server.specs.Connections.{wires, result_of, AreServed}
use Rattle.mq_server.specs.Delivery.{Delivery}
use Rattle.mq_server.specs.declared.connections.ConnectionEnd.{ConnectionEnd}
use Rattle.mq_replay.specs.Replay.{empty_book, IsForCause, IsReplay, Prints, ReplaysOver}
use Rattle.mq_replay.specs.declared.replay.ReplayFault.{ReplayFault}
use Rattle.mq_replay.specs.declared.replay.ReplayFault.TheVariants.{Text, Serve, Connection, Output}

map_twice : {X Y Z : Type 0} (g : Y → Z) (f : X → Y) (xs : List X) → map (λ x. g (f x)) xs ≡ map g (map f xs)
map_twice g f [] = refl
map_twice g f (x ∷ xs) = ap (λ l. g (f x) ∷ l) (map_twice g f xs)

-- a list that was written back over one of its length
pub written_back : {X : Type 0} (n : ℕ) (new old : List X) → n ≡ length new → take n (new ++ drop (length new) old) ≡ new
written_back n new old e = take-append-le n new (drop (length new) old) (omega (arith, e)) ∙ take_all n new (omega (arith, e))

pub of_serving : {I O V : Type 0} (read : I → List ℕ) (held : O → List ℕ) (bytes : V → List ℕ) (zone : Zone) (default : ℕ) (connections : List V) (inputs : List I) (outputs written : List O)
    (left : List (Option (List ℕ))) (all : List ConnectionEnd) (seen : List Delivery)
    → map read inputs ≡ map bytes connections → map held outputs ≡ map (λ _. []) connections → length written ≡ length outputs
    → AreServed (empty_book zone default) [] (wires (map (λ s. Some (read s)) inputs) (map (λ s. Some (held s)) outputs)) (wires left (map (λ s. Some (held s)) written)) (map result_of all) seen
    → IsReplay zone default (map bytes connections) (map held written) all
of_serving read held bytes zone default connections inputs outputs written left all seen given fresh same served =
    let ins : map (λ s. Some (read s)) inputs ≡ map Some (map bytes connections) = map_twice Some read inputs ∙ ap (map Some) given in
    let outs : map (λ s. Some (held s)) outputs ≡ map (λ _. Some []) (map bytes connections) =
    map_twice Some held outputs ∙ ap (map Some) fresh ∙ sym (map_twice Some (λ _. []) connections) ∙ map_twice (λ _. Some []) bytes connections in
    let news : map (λ s. Some (held s)) written ≡ map Some (map held written) = map_twice Some held written in
    record {
      seen = seen;
      left = left;
      each = length-map written held ∙ same ∙ sym (length-map outputs held) ∙ ap length fresh ∙ length-map connections (λ _. []) ∙ sym (length-map connections bytes);
      served = rw (← ins, ← outs, ← news) served;
    }

-- what was served and then printed
pub of_printing : (zone : Zone) (default : ℕ) (connections written : List (List ℕ)) (all : List ConnectionEnd) (old new : Option (List ℕ)) (ended : Result (Unit {0}) ReplayFault)
    → IsReplay zone default connections written all → Prints written all old new ended → ReplaysOver zone default connections old new ended
of_printing zone default connections written all old new (Ok u) replay printed = (written, all, replay, printed)
of_printing zone default connections written all old new (Err (Connection number ending)) replay printed = (written, all, replay, printed)
of_printing zone default connections written all old new (Err (Output fault)) replay printed = (written, all, replay, printed)
of_printing zone default connections written all old new (Err (Text fault)) replay printed = absurd printed
of_printing zone default connections written all old new (Err (Serve fault)) replay printed = absurd printed

-- where the answers were printed, the connections were served
pub served : (store : Type 0) (written : List (List ℕ)) (all : List ConnectionEnd) (old new : Option (List ℕ)) (ended : Result (Unit {0}) ReplayFault) → Prints written all old new ended → IsForCause store ended
served store written all old new (Ok u) printed = tt
served store written all old new (Err (Connection number ending)) printed = tt
served store written all old new (Err (Output fault)) printed = tt
served store written all old new (Err (Text fault)) printed = tt
served store written all old new (Err (Serve fault)) printed = absurd printed
