-- How many limits a ledger has.
use Rattle.std.proofs.Common.{◌≡◌, ◌∙◌, ℕ, List, length, sym, subst}
use Rattle.std.proofs.lemmas.List.Sorted.{length_permutation}
use Rattle.sqlite.specs.Effect.{Database}
use Rattle.mq_rows.specs.declared.audited.LimitFigures.{LimitFigures}
use Rattle.mq_tables.specs.Figures.{HasFigures}
use Rattle.mq_store.specs.Limits.{AreLimitsIn}
use Rattle.mq_program.specs.Forgetting.{CountsLimits}

-- so many were read, of tables that stayed as they were
pub counted : (db now : Database) (limits : List LimitFigures) (count : ℕ) → now ≡ db → count ≡ length limits → AreLimitsIn now limits → CountsLimits db count
counted db now limits count same is all f has =
    is ∙ length_permutation f.limits limits (all f (subst (λ (d : Database). HasFigures d f) (sym same) has))
