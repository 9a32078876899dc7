-- Steps over the servers that each get their share.
use Rattle.std.proofs.Common.{◌≡◌, ◌<◌, ◌≤◌, ◌+◌, ◌*◌, ◌∷◌, [], ℕ, Bool, List, Option, Some, Err, arith, length, drop, get_or, inl, map, refl, slice_get, sym, subst, true, false}
use Rattle.std.proofs.KnownBytes.{Keeps-refl}
use Rattle.std.proofs.lemmas.Bool.{false≢true}
use Rattle.std.proofs.lemmas.List.{drop_all, drop_more}
use Rattle.std.specs.Borrow.{Bor}
use Rattle.std.specs.Net.Grammar.{IsSocketText}
use Rattle.std.specs.declared.net.SocketAddr.{SocketAddr}
use Rattle.mq_request.specs.declared.message.Request.{Request}
use Rattle.mq_link.specs.declared.link.ReportedExchange.{ReportedExchange}
use Rattle.mq_command.specs.Orders.{no_number}
use Rattle.mq_command.specs.declared.allow.Setter.{Setter}
use Rattle.mq_command.specs.declared.ask.NoAnswer.TheVariants.{Memory}
use Rattle.mq_command.specs.declared.order.OrderFault.TheVariants.{Unanswered}
use Rattle.mq_command.specs.declared.outcome.SetEnd.TheVariants.{Unknown}
use Rattle.mq_process.specs.Links.{AsksOver}
use Rattle.mq_process.specs.declared.asking.TheConstants.{TIMEOUT}
use Rattle.mq_remote.specs.declared.subcommands.shares.ShareEnd.{ShareEnd}
use Rattle.mq_remote.specs.declared.subcommands.shares.ShareEnd.TheVariants as came
use Rattle.mq_remote.specs.declared.subcommands.shares.ShareEnd.TheVariants.{Given, Missing}
use Rattle.mq_remote.specs.declared.subcommands.shares.ShareOrder.{ShareOrder}
use Rattle.mq_remote.specs.declared.subcommands.shares.ShareRule.{ShareRule}
use Rattle.mq_remote.specs.Shares.{DefaultAt, SharesAfterFirst, IsGiven, SetsShare, SharesAmong, SharesBy, SharesEach, SharesNumber, SharesOthers, all_shared, one_shared, status_with, sum_with}

-- a server that is asked, before those that are left
pub shares_more : {At : List ℕ → SocketAddr → ShareEnd → Type 0} {status sum : ℕ} (xs : List (Bor (List ℕ))) (k next much : ℕ)
    → SharesEach At status sum (map (λ s. s.now) (drop (k + 1) xs)) next much → (share : ShareEnd) (so_far so_much : ℕ) (d : Bor (List ℕ)) (address : SocketAddr)
    → k < length xs → IsSocketText (get_or xs k d).now address → At (get_or xs k d).now address share → next ≡ status_with share so_far → much ≡ sum_with share so_much
    → SharesEach At status sum (map (λ s. s.now) (drop k xs)) so_far so_much
shares_more {At} {status} {sum} xs k next much others share so_far so_much d address below spelled asked is_next is_much =
    let left : SharesEach At status sum (map (λ s. s.now) (drop (k + 1) xs)) (status_with share so_far) (sum_with share so_much) =
    subst (λ m. SharesEach At status sum (map (λ s. s.now) (drop (k + 1) xs)) (status_with share so_far) m) is_much
    (subst (λ n. SharesEach At status sum (map (λ s. s.now) (drop (k + 1) xs)) n much) is_next others) in
    subst (λ l. SharesEach At status sum (map (λ s. s.now) l) so_far so_much) (sym (drop_more xs k d below))
    (one_shared _ _ address share so_far so_much spelled asked left)

-- none is left
pub shares_none : (At : List ℕ → SocketAddr → ShareEnd → Type 0) (status sum : ℕ) (xs : List (Bor (List ℕ))) (k : ℕ) → length xs ≤ k
    → SharesEach At status sum (map (λ s. s.now) (drop k xs)) status sum
shares_none At status sum xs k all = subst (λ l. SharesEach At status sum (map (λ s. s.now) l) status sum) (sym (drop_all k xs all)) all_shared

-- one more share is 1,000,000 at most
pub bounded_more : (end : ShareEnd) (k much next : ℕ) → much ≤ 1000000 * (k + 1) → IsGiven end → next ≡ sum_with end much → next ≤ 1000000 * (k + 1 + 1)
bounded_more (Given one) k much next bounded amount is = omega (arith, bounded, amount.to, is)
bounded_more came.Refused k much next bounded amount is = omega (arith, bounded, is)
bounded_more Missing k much next bounded amount is = omega (arith, bounded, is)

-- so is the first
pub bounded_first : (end : ShareEnd) (next : ℕ) → IsGiven end → next ≡ sum_with end 0 → next ≤ 1000000
bounded_first (Given one) next amount is = omega (arith, amount.to, is)
bounded_first came.Refused next amount is = omega (arith, is)
bounded_first Missing next amount is = omega (arith, is)

-- where memory runs out before, nothing is sent
pub share_unsent : (is_numbered : Bool) (request : Request) (server : List ℕ) (told : Option (List ReportedExchange)) (output : Option (List ℕ))
    → SetsShare is_numbered request server Unknown told told output output
share_unsent true request server told output = (Err (Unanswered Memory), 1, refl, inl refl, (refl, Keeps-refl output))
share_unsent false request server told output = (
  Err (Unanswered Memory),
  1,
  refl,
  record {
    count = 0;
    mid = told;
    few = omega arith;
    taken = no_number;
    last = inl refl;
    fresh = λ e. absurd (false≢true e);
  },
  (refl, Keeps-refl output),
)

-- unless the first refuses its share, the others are asked
pub gone_on : {L : Type 0} (leads : L → SocketAddr → ℕ → Type 0) (told : L → Option (List ReportedExchange)) (order : ShareOrder) (setter : Setter) (day : ℕ) (rule : ShareRule)
    (others : List (List ℕ)) (first : ShareEnd) (status : ℕ) → (first ≡ came.Refused → ⊥) → SharesOthers leads told order setter day rule others first status
    → SharesAfterFirst leads told order setter day rule others first status
gone_on leads told order setter day rule others (Given share) status never shared = shared
gone_on leads told order setter day rule others came.Refused status never shared = absurd (never refl)
gone_on leads told order setter day rule others Missing status never shared = shared

-- the shares of a number were given, by the default of the first server
pub number_shared : {L : Type 0} (leads : L → SocketAddr → ℕ → Type 0) (told : L → Option (List ReportedExchange)) (order : ShareOrder) (setter : Setter) (day number : ℕ)
    (servers : List (Bor (List ℕ))) (server : Bor (List ℕ)) (others : List (Bor (List ℕ))) (address : SocketAddr) (first : Option ℕ) (status : ℕ)
    → Some server ≡ slice_get servers 0 → others ≡ drop 1 servers → IsSocketText server.now address → AsksOver leads told address TIMEOUT (DefaultAt day first)
    → SharesBy leads told order setter day number server.now address (map (λ s. s.now) others) first status
    → SharesNumber leads told order setter day number (map (λ s. s.now) servers) status
number_shared leads told order setter day number [] server others address first status is are spelled asked given = cc
number_shared leads told order setter day number (x ∷ xs) server others address first status is are spelled asked given =
    let same : server ≡ x = cc in
    let rest : others ≡ xs = are in (
      address,
      first,
      subst (λ s. IsSocketText s.now address) same spelled,
      asked,
      subst (λ s. SharesBy leads told order setter day number s.now address (map (λ s. s.now) xs) first status) same
          (subst (λ l. SharesBy leads told order setter day number server.now address (map (λ s. s.now) l) first status) rest given),
    )

-- servers were asked for their shares by the same order, setter and day
pub shared_so : {L : Type 0} (leads : L → SocketAddr → ℕ → Type 0) (told : L → Option (List ReportedExchange)) (order same : ShareOrder) (setter other : Setter) (day on : ℕ)
    (rule : ShareRule) (servers : List (List ℕ)) (status : ℕ) → order ≡ same → setter ≡ other → day ≡ on → SharesAmong leads told order setter day rule servers status
    → SharesAmong leads told same other on rule servers status
shared_so leads told order same setter other day on rule servers status is_order is_setter is_day shared =
    subst (λ o. SharesAmong leads told o other on rule servers status) is_order
    (subst (λ s. SharesAmong leads told order s on rule servers status) is_setter
    (subst (λ d. SharesAmong leads told order setter d rule servers status) is_day shared))
