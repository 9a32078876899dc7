-- Steps over the servers at which a login is stopped.
use Rattle.std.proofs.Common.{◌<◌, ◌≤◌, ◌+◌, ◌++◌, ◌∷◌, [], ℕ, List, Bool, true, length, drop, get_or, map, sym, subst, inl, inr}
use Rattle.std.proofs.lemmas.List.{drop_all, drop_more}
use Rattle.std.specs.Borrow.{Bor}
use Rattle.std.specs.Net.Grammar.{IsSocketText}
use Rattle.std.specs.declared.net.SocketAddr.{SocketAddr}
use Rattle.mq_command.specs.declared.stop.SentLately.{SentLately}
use Rattle.mq_command.specs.declared.stop.SentLately.TheVariants as sent
use Rattle.mq_command.specs.declared.stop_end.StopEnd.{StopEnd}
use Rattle.mq_command.specs.declared.stop_end.StopEnd.TheVariants.{Stopped, Failed, Unanswered}
use Rattle.mq_process.specs.Refusals.{HasNoAddress}
use Rattle.mq_remote.specs.Stops.{Adds, AsksUse, StopsEach, all_asked, says_yes, says_no, says_nothing, takes_none, no_server, one_server}

-- a server that is asked in a round, before those that are left of it
pub stops_more : {At : SocketAddr → StopEnd → Type 0} {status : ℕ} {left : List (List ℕ)} (xs : List (Bor (List ℕ))) (k next : ℕ) (after : List (List ℕ))
    → StopsEach At status left (map (λ s. s.now) (drop (k + 1) xs)) next after → (end : StopEnd) (so_far : ℕ) (before : List (List ℕ)) (d : Bor (List ℕ)) (address : SocketAddr)
    → k < length xs → IsSocketText (get_or xs k d).now address → At address end → Adds (get_or xs k d).now end so_far before next after
    → StopsEach At status left (map (λ s. s.now) (drop k xs)) so_far before
stops_more {At} {status} {left} xs k next after others end so_far before d address below spelled asked adds =
    subst (λ l. StopsEach At status left (map (λ s. s.now) l) so_far before) (sym (drop_more xs k d below))
    (one_server _ _ address end so_far next before after spelled asked adds others)

-- none is left of it
pub stops_none : (At : SocketAddr → StopEnd → Type 0) (status : ℕ) (left : List (List ℕ)) (xs : List (Bor (List ℕ))) (k : ℕ) → length xs ≤ k
    → StopsEach At status left (map (λ s. s.now) (drop k xs)) status left
stops_none At status left xs k all = subst (λ l. StopsEach At status left (map (λ s. s.now) l) status left) (sym (drop_all k xs all)) no_server

-- one more that is an address
with_address : (text : List ℕ) (address : SocketAddr) (texts : List (List ℕ)) → IsSocketText text address → (HasNoAddress texts → ⊥) → HasNoAddress (texts ++ text ∷ []) → ⊥
with_address text address [] spelled none (inl bad) = bad address spelled
with_address text address [] spelled none (inr some) = some
with_address text address (t ∷ ts) spelled none (inl bad) = none (inl bad)
with_address text address (t ∷ ts) spelled none (inr some) = with_address text address ts spelled (λ s. none (inr s)) some

-- those that gave no answer are addresses
pub left_has_none : (text : List ℕ) (end : StopEnd) (so_far next : ℕ) (before after : List (List ℕ)) (address : SocketAddr) → IsSocketText text address
    → Adds text end so_far before next after → (HasNoAddress before → ⊥) → HasNoAddress after → ⊥
left_has_none text Stopped so_far next before after address spelled (status, same) none some = none (subst (λ l. HasNoAddress l) same some)
left_has_none text Failed so_far next before after address spelled (status, same) none some = none (subst (λ l. HasNoAddress l) same some)
left_has_none text Unanswered so_far next before after address spelled (inl (status, more)) none some =
    with_address text address before spelled none (subst (λ l. HasNoAddress l) more some)
left_has_none text Unanswered so_far next before after address spelled (inr (status, same)) none some = none (subst (λ l. HasNoAddress l) same some)

-- a server that says that the login used something
pub use_yes : {Asks : SocketAddr → SentLately → Type 0} (xs : List (Bor (List ℕ))) (k : ℕ) (silent : Bool) (d : Bor (List ℕ)) (address : SocketAddr) → k < length xs
    → IsSocketText (get_or xs k d).now address → Asks address sent.Yes → AsksUse Asks (map (λ s. s.now) (drop k xs)) silent true
use_yes {Asks} xs k silent d address below spelled asked =
    subst (λ l. AsksUse Asks (map (λ s. s.now) l) silent true) (sym (drop_more xs k d below)) (says_yes _ _ address silent spelled asked)

-- one that says that it used nothing, before those that are left
pub use_no : {Asks : SocketAddr → SentLately → Type 0} (xs : List (Bor (List ℕ))) (k : ℕ) (silent meant : Bool)
    → AsksUse Asks (map (λ s. s.now) (drop (k + 1) xs)) silent meant → (d : Bor (List ℕ)) (address : SocketAddr) → k < length xs
    → IsSocketText (get_or xs k d).now address → Asks address sent.No → AsksUse Asks (map (λ s. s.now) (drop k xs)) silent meant
use_no {Asks} xs k silent meant others d address below spelled asked =
    subst (λ l. AsksUse Asks (map (λ s. s.now) l) silent meant) (sym (drop_more xs k d below)) (says_no _ _ address silent meant spelled asked others)

-- one that gives no answer, before those that are left
pub use_silent : {Asks : SocketAddr → SentLately → Type 0} (xs : List (Bor (List ℕ))) (k : ℕ) (silent meant : Bool)
    → AsksUse Asks (map (λ s. s.now) (drop (k + 1) xs)) true meant → (d : Bor (List ℕ)) (address : SocketAddr) → k < length xs
    → IsSocketText (get_or xs k d).now address → Asks address sent.Unanswered → AsksUse Asks (map (λ s. s.now) (drop k xs)) silent meant
use_silent {Asks} xs k silent meant others d address below spelled asked =
    subst (λ l. AsksUse Asks (map (λ s. s.now) l) silent meant) (sym (drop_more xs k d below)) (says_nothing _ _ address silent meant spelled asked others)

-- one that doesn't take the question, before those that are left
pub use_untaken : {Asks : SocketAddr → SentLately → Type 0} (xs : List (Bor (List ℕ))) (k : ℕ) (silent meant : Bool)
    → AsksUse Asks (map (λ s. s.now) (drop (k + 1) xs)) true meant → (d : Bor (List ℕ)) (address : SocketAddr) → k < length xs
    → IsSocketText (get_or xs k d).now address → Asks address sent.NotTaken → AsksUse Asks (map (λ s. s.now) (drop k xs)) silent meant
use_untaken {Asks} xs k silent meant others d address below spelled asked =
    subst (λ l. AsksUse Asks (map (λ s. s.now) l) silent meant) (sym (drop_more xs k d below)) (takes_none _ _ address silent meant spelled asked others)

-- none is left
pub use_none : (Asks : SocketAddr → SentLately → Type 0) (silent : Bool) (xs : List (Bor (List ℕ))) (k : ℕ) → length xs ≤ k
    → AsksUse Asks (map (λ s. s.now) (drop k xs)) silent silent
use_none Asks silent xs k all = subst (λ l. AsksUse Asks (map (λ s. s.now) l) silent silent) (sym (drop_all k xs all)) (all_asked silent)
