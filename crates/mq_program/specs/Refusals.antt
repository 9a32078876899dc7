-- What is refused of the words of `replay`.
use Rattle.std.specs.Prelude.{◌≡◌, ℕ, List, pos, ◌-ℤ◌, Option, None, Some, Result, Ok, IfSome, MatchResult}
use Rattle.std.specs.Borrow.{Bor}
use Rattle.mq_ledger.specs.declared.zone.Zone.{Zone}
use Rattle.mq_ledger.specs.Day.{ByOffset, ByRule, IsRule}
use Rattle.mq_process.specs.declared.arguments.ReplayArguments.{ReplayArguments}
use Rattle.mq_program.specs.declared.fault.ProgramFault.{ProgramFault}
use Rattle.mq_program.specs.declared.fault.ProgramFault.TheVariants.{Rule}

-- a zone rule, and no minutes along with it
pub record IsRuleAlone (east west : ℕ) (text : List ℕ) : Type 0 where
  pub rule : IsRule text
  pub no_east : east ≡ 0
  pub no_west : west ≡ 0

-- the zone of a rule that stands alone
abbrev pub IsZoneByRule : ℕ → ℕ → List ℕ → Result Zone ProgramFault → Type 0
IsZoneByRule east west text r =
    MatchResult r (λ zone. (zone ≡ ByRule text) × IsRuleAlone east west text)
    (λ fault. (fault ≡ Rule) × ¬ IsRuleAlone east west text)

-- the zone that `replay` is given: the minutes east less those west, or a rule
abbrev pub IsZoneOf : ℕ → ℕ → Option (Bor (List ℕ)) → Result Zone ProgramFault → Type 0
IsZoneOf east west None r = r ≡ Ok (ByOffset (pos east -ℤ pos west))
IsZoneOf east west (Some text) r = IsZoneByRule east west text.now r

-- how `replay` ends where its rule is at fault
abbrev pub ReplayRefuses : ReplayArguments → (ProgramFault → Type 0) → Type 0
ReplayRefuses given EndsBy = IfSome given.rule (λ text. ¬ IsRuleAlone given.east given.west text.now → EndsBy Rule)
