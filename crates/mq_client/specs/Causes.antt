-- Why a client refuses a recipient with no exchange, as it logs it.
use Rattle.std.specs.Prelude.{ℕ, ◌+◌, List, nat_le, Option, None, Some, if◌then◌else◌}
use Rattle.mq_client.specs.Past.{is_other, lacks_numbers}
use Rattle.mq_client.specs.Filter.{is_login}
use Rattle.mq_client.specs.declared.held_transaction.HeldTransaction.{HeldTransaction}
use Rattle.mq_client.specs.declared.refusal.RefusalCause.{RefusalCause}
use Rattle.mq_client.specs.declared.refusal.RefusalCause.TheVariants.{Login, Moment, Changed, Recipients, Places, Numbers}

-- of a transaction that is held or isn't, by the live ones, the numbers used and what waits: the first that applies
abbrev pub cause_by : Option HeldTransaction → (live numbers waiting moment : ℕ) → List ℕ → Option RefusalCause
cause_by (Some h) live numbers waiting moment login =
    if is_other h moment login then Some Changed
    else (if nat_le 1000 h.granted then Some Recipients
    else (if lacks_numbers numbers live then Some Numbers else None))
cause_by None live numbers waiting moment login =
    if nat_le 4096 (live + waiting) then Some Places
    else (if lacks_numbers numbers (live + 1) then Some Numbers else None)

-- of a login or a moment that is out of range: the login where it is
abbrev pub cause_of : List ℕ → RefusalCause
cause_of login = if is_login login then Moment else Login
