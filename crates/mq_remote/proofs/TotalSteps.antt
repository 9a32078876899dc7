-- Servers whose sums are reported.
use Rattle.std.proofs.Common.{◌≡◌, ◌++◌, ◌∷◌, [], ℕ, List, Bool, Option, Result, Ok, Err, length, ap, refl, subst, suc}
use Rattle.std.specs.Prelude.{IfOk}
use Rattle.std.specs.declared.net.SocketAddr.{SocketAddr}
use Rattle.mq_command.specs.declared.form.Form.{Form}
use Rattle.mq_command.specs.declared.totals.ReportedLogins.{ReportedLogins}
use Rattle.mq_link.specs.declared.link.ReportedExchange.{ReportedExchange}
use Rattle.mq_process.specs.declared.fault.ProcessFault.{ProcessFault}
use Rattle.mq_remote.specs.Asked.{ReportsBy}
use Rattle.mq_remote.specs.Totals.{InStep}

-- one more, and the other in its place
pub in_step_more : {A B : Type 0} (Is : A → B → Type 0) (ones : List A) (others : List B) (one : A) (other : B) → InStep Is ones others → Is one other
    → InStep Is (ones ++ one ∷ []) (others ++ other ∷ [])
in_step_more Is [] [] one other so_far is = (is, tt)
in_step_more Is [] (y ∷ ys) one other so_far is = absurd so_far
in_step_more Is (x ∷ xs) [] one other so_far is = absurd so_far
in_step_more Is (x ∷ xs) (y ∷ ys) one other so_far is = (so_far.0, in_step_more Is xs ys one other so_far.1 is)

-- the same where these are all so far
pub in_step_push : {A B : Type 0} (Is : A → B → Type 0) (ones more : List A) (others all : List B) (one : A) (other : B) → InStep Is ones others → Is one other → more ≡ ones ++ one ∷ []
    → all ≡ others ++ other ∷ [] → InStep Is more all
in_step_push Is ones more others all one other so_far is grown pushed = rw grown (rw pushed (in_step_more Is ones others one other so_far is))

-- the same of what these are
pub in_step_same : {A B : Type 0} (Is : A → B → Type 0) (ones same : List A) (others lent : List B) → ones ≡ same → lent ≡ others → InStep Is ones others → InStep Is same lent
in_step_same Is ones same others lent are is all = subst (λ l. InStep Is l lent) are (rw is all)

-- they are as many
pub in_step_length : {A B : Type 0} (Is : A → B → Type 0) (ones : List A) (others : List B) → InStep Is ones others → length ones ≡ length others
in_step_length Is [] [] all = refl
in_step_length Is [] (y ∷ ys) all = absurd all
in_step_length Is (x ∷ xs) [] all = absurd all
in_step_length Is (x ∷ xs) (y ∷ ys) all = ap suc (in_step_length Is xs ys all.1)

-- the words that were given, and their form
pub reported_so : {L : Type 0} (leads : L → SocketAddr → ℕ → Type 0) (told : L → Option (List ReportedExchange)) (day : ℕ) (logins : ReportedLogins) (form same : Form) (each : Bool)
    (words given servers : List (List ℕ)) (status : ℕ) → form ≡ same → words ≡ given
    → ReportsBy leads told (record { day = day; logins = logins; form = form }) each words servers status
    → ReportsBy leads told (record { day = day; logins = logins; form = same }) each given servers status
reported_so leads told day logins form same each words given servers status is are asked =
    subst (λ f. ReportsBy leads told (record { day = day; logins = logins; form = f }) each given servers status) is
    (subst (λ w. ReportsBy leads told (record { day = day; logins = logins; form = form }) each w servers status) are asked)

-- what holds of a value holds so of how it ended
pub if_ok : {T : Type 0} {A B : T → Type 0} (ended : Result T ProcessFault) → ((value : T) → A value → B value) → IfOk ended A → IfOk ended B
if_ok (Ok value) step holds = step value holds
if_ok (Err fault) step holds = tt
