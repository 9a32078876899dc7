-- How `replay` ends where its rule is at fault.
use Rattle.std.proofs.Common.{◌≡◌, ℕ, Option, None, Some, List, Result, Ok, Err, refl, ap, ◌∙◌}
use Rattle.std.specs.Prelude.{IfSome}
use Rattle.std.specs.Borrow.{Bor}
use Rattle.mq_ledger.specs.declared.zone.Zone.{Zone}
use Rattle.mq_program.specs.Refusals.{IsRuleAlone, IsZoneOf}
use Rattle.mq_program.specs.declared.fault.ProgramFault.{ProgramFault}
use Rattle.mq_program.specs.declared.fault.ProgramFault.TheVariants.{Rule}

-- a zone that is refused is a rule that is at fault; one that isn't, is none
pub zone_refused : (rule : Option (Bor (List ℕ))) (east west : ℕ) (zone : Result Zone ProgramFault) (ended : Result ℕ ProgramFault) → IsZoneOf east west rule zone
    → ((fault : ProgramFault) → zone ≡ Err fault → ended ≡ Err fault) → IfSome rule (λ text. ¬ IsRuleAlone east west text.now → ended ≡ Err Rule)
zone_refused None east west zone ended is refused = tt
zone_refused (Some text) east west (Ok zone) ended is refused = λ no. absurd (no is.1)
zone_refused (Some text) east west (Err fault) ended is refused = λ no. refused fault refl ∙ ap Err is.0
