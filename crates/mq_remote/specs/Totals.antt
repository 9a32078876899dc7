-- How several servers are asked for the sums of what logins used.
use Rattle.std.specs.Prelude.{ℕ, List, [], ◌∷◌, map, Option, ⊤}
use Rattle.std.specs.Net.Grammar.{IsSocketText}
use Rattle.std.specs.declared.net.SocketAddr.{SocketAddr}
use Rattle.mq_link.specs.declared.link.ReportedExchange.{ReportedExchange}
use Rattle.mq_command.specs.Totals.{ReportsTotals}
use Rattle.mq_dates.specs.Dates.{IsDateText}
use Rattle.mq_command.specs.declared.totals.ReportOrder.{ReportOrder}
use Rattle.mq_process.specs.declared.asking.TheConstants.{TIMEOUT}

-- these are as many as the others, and each is so to the other in its place
abbrev pub InStep : {A B : Type 0} → (A → B → Type 0) → List A → List B → Type 0
InStep Is [] [] = ⊤
InStep Is (one ∷ more) (other ∷ others) = Is one other × InStep Is more others
InStep Is ones others = ⊥

-- Over links that lead to the servers at these addresses, in their order, these were asked for what they have together, and the
-- sums of it were printed.
pub record AsksTogether {L : Type 0} (leads : L → SocketAddr → ℕ → Type 0) (told : L → Option (List ReportedExchange))
    (order : ReportOrder) (servers : List (List ℕ)) (status : ℕ) : Type 0 where
  pub addresses : List SocketAddr
  pub spelled : InStep IsSocketText servers addresses
  pub links : List L
  pub after : List L
  pub are_led : InStep (λ address link. leads link address TIMEOUT) addresses links
  pub output : Option (List ℕ)
  pub output' : Option (List ℕ)
  pub date : List ℕ
  pub is_date : IsDateText order.day date
  pub asked : ReportsTotals order date (map told links) (map told after) output output' status
