-- Steps over the servers that a command asks.
use Rattle.std.proofs.Common.{◌≡◌, ◌<◌, ◌≤◌, ◌+◌, ◌++◌, ◌∷◌, [], ℕ, List, Bool, true, length, drop, get_or, map, max, sym, subst, inl, inr}
use Rattle.std.proofs.lemmas.List.{drop_all, drop_more}
use Rattle.std.specs.Borrow.{Bor}
use Rattle.std.specs.Net.Grammar.{IsSocketText}
use Rattle.std.specs.declared.net.SocketAddr.{SocketAddr}
use Rattle.mq_process.specs.Refusals.{HasNoAddress, IsNoAddress}
use Rattle.mq_process.specs.Servers.{AsksEach, no_server, server}

-- one that is asked, before those that are left
pub asks_more : {F : Type 0} {Asks : F → SocketAddr → ℕ → F → Type 0} {is_alone : Bool} {last : F} {status : ℕ} {after : F} (xs : List (Bor (List ℕ))) (k next : ℕ)
    → AsksEach Asks is_alone last status after (map (λ s. s.now) (drop (k + 1) xs)) next → (before : F) (so_far told said ended : ℕ) (d : Bor (List ℕ)) (address : SocketAddr) → k < length xs
    → IsSocketText (get_or xs k d).now address → (is_alone ≡ true → told ≡ 0) → ended ≡ max told said → next ≡ max so_far ended → Asks before address said after
    → AsksEach Asks is_alone last status before (map (λ s. s.now) (drop k xs)) so_far
asks_more {F} {Asks} {is_alone} {last} {status} {after} xs k next others before so_far told said ended d address below spelled alone is is_next asked =
    let left : AsksEach Asks is_alone last status after (map (λ s. s.now) (drop (k + 1) xs)) (max so_far (max told said)) =
    subst (λ n. AsksEach Asks is_alone last status after (map (λ s. s.now) (drop (k + 1) xs)) (max so_far n)) is
    (subst (λ n. AsksEach Asks is_alone last status after (map (λ s. s.now) (drop (k + 1) xs)) n) is_next others) in
    subst (λ l. AsksEach Asks is_alone last status before (map (λ s. s.now) l) so_far) (sym (drop_more xs k d below))
    (server before after _ _ address so_far told said spelled alone asked left)

-- none is left
pub asks_none : {F : Type 0} (Asks : F → SocketAddr → ℕ → F → Type 0) (is_alone : Bool) (last : F) (status : ℕ) (xs : List (Bor (List ℕ))) (k : ℕ) → length xs ≤ k
    → AsksEach Asks is_alone last status last (map (λ s. s.now) (drop k xs)) status
asks_none Asks is_alone last status xs k all = subst (λ l. AsksEach Asks is_alone last status last (map (λ s. s.now) l) status) (sym (drop_all k xs all)) no_server

-- the others have no text that is no address
pub others_have_none : (xs : List (Bor (List ℕ))) (k : ℕ) (d : Bor (List ℕ)) (address : SocketAddr) → k < length xs → IsSocketText (get_or xs k d).now address
    → (HasNoAddress (map (λ s. s.now) (drop k xs)) → ⊥) → HasNoAddress (map (λ s. s.now) (drop (k + 1) xs)) → ⊥
others_have_none xs k d address below spelled none some = none (subst (λ l. HasNoAddress (map (λ s. s.now) l)) (sym (drop_more xs k d below)) (inr some))

-- one more text that is an address
pub more_addresses : (texts : List (List ℕ)) (text : List ℕ) → (HasNoAddress texts → ⊥) → (IsNoAddress text → ⊥) → HasNoAddress (texts ++ text ∷ []) → ⊥
more_addresses [] text none is (inl bad) = is bad
more_addresses [] text none is (inr some) = some
more_addresses (t ∷ ts) text none is (inl bad) = none (inl bad)
more_addresses (t ∷ ts) text none is (inr some) = more_addresses ts text (λ s. none (inr s)) is some
