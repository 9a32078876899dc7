-- One connection's end more.
use Rattle.std.proofs.Common.{◌≡◌, ℕ, ◌+◌, ◌<◌, ◌≤◌, List, [], ◌∷◌, Some, None, length, drop, get_or, refl, sym, ap, ◌∙◌}
use Rattle.std.specs.Option.{option_map}
use Rattle.std.specs.List.{slice_get, cons_option}
use Rattle.std.proofs.lemmas.List.{drop_more, drop_all}
use Rattle.mq_server.specs.declared.connections.ConnectionEnd.{ConnectionEnd}
use Rattle.mq_replay.specs.Replay.{ending_of, faults_from, faults_of}
use Rattle.mq_replay.specs.declared.replay.Ending.{Ending}

-- the faults from a place on: that of the end there, and those after it
pub faults_step : (all : List ConnectionEnd) (i : ℕ) (end : ConnectionEnd) → i < length all → get_or all i end ≡ end
    → faults_from (i + 1) (drop i all) ≡ cons_option (option_map (λ e. (i + 1, e)) (ending_of end)) (faults_from (i + 1 + 1) (drop (i + 1) all))
faults_step all i end below here = ap (faults_from (i + 1)) (drop_more all i end below ∙ ap (λ e. e ∷ drop (i + 1) all) here)

pub fault_found : (all : List ConnectionEnd) (i : ℕ) (end : ConnectionEnd) (ending : Ending) → i < length all → get_or all i end ≡ end → ending_of end ≡ Some ending
    → faults_from (i + 1) (drop i all) ≡ faults_of all → Some (i + 1, ending) ≡ slice_get (faults_of all) 0
fault_found all i end ending below here bad so_far =
    sym (ap (λ faults. slice_get faults 0) (sym so_far ∙ faults_step all i end below here ∙ ap (λ o. cons_option (option_map (λ e. (i + 1, e)) o) (faults_from (i + 1 + 1) (drop (i + 1) all))) bad))

pub no_fault_more : (all : List ConnectionEnd) (i : ℕ) (end : ConnectionEnd) → i < length all → get_or all i end ≡ end → ending_of end ≡ None
    → faults_from (i + 1) (drop i all) ≡ faults_of all → faults_from (i + 1 + 1) (drop (i + 1) all) ≡ faults_of all
no_fault_more all i end below here good so_far =
    sym (faults_step all i end below here ∙ ap (λ o. cons_option (option_map (λ e. (i + 1, e)) o) (faults_from (i + 1 + 1) (drop (i + 1) all))) good) ∙ so_far

pub no_fault : (all : List ConnectionEnd) (i : ℕ) → length all ≤ i → faults_from (i + 1) (drop i all) ≡ faults_of all → None ≡ slice_get (faults_of all) 0
no_fault all i done so_far = sym (ap (λ faults. slice_get faults 0) (sym so_far ∙ ap (faults_from (i + 1)) (drop_all i all done)))

-- a list whose first place is empty
pub nothing_first : (faults : List (ℕ × Ending)) → slice_get faults 0 ≡ None → faults ≡ []
nothing_first [] h = refl
nothing_first (f ∷ fs) h = cc
