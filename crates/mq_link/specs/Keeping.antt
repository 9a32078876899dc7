-- A connection that a link keeps for many exchanges.
use Rattle.std.specs.Prelude.{◌≡◌, ℕ, suc, ◌+◌, ◌<◌, ◌⊎◌, nat_lt, List, Option, None, Some, IfSome, MatchOption, option_map, if◌then◌else◌}
use Rattle.std.specs.Io.KnownBytes.{Appends}
use Rattle.mq_link.specs.Body.{IsReceived}
use Rattle.mq_link.specs.Exchange.{IsExchange}
use Rattle.mq_link.specs.declared.kept.KeptStream.{KeptStream}

-- one exchange over a connection: the frame was written, whole and alone, and then the frame of the body was read
pub record Carries {S : Type 0} (contents remaining : S → Option (List ℕ)) (frame body : List ℕ) (before after : S)
    : Type 0 where
  pub sent : S
  pub written : Appends (contents before) (contents sent) frame
  pub received : IsReceived (remaining sent) (remaining after) body

-- A connection carried so many exchanges, and nothing else since it was new. So as many bodies were read from it as frames
-- were written to it, and no reply to an earlier frame is still to come.
pub data Carried {S : Type 0} (is_new : S → Type 0) (contents remaining : S → Option (List ℕ)) : ℕ → S → Type 0 where
  none : (opened : S) → is_new opened → Carried is_new contents remaining 0 opened
  one_more : (n : ℕ) (before after : S) (frame body : List ℕ) → Carried is_new contents remaining n before
      → Carries contents remaining frame body before after → Carried is_new contents remaining (n + 1) after

-- an exchange over a connection that carried fewer than 9,999 others and nothing else, so that the server's 10,000th frame of
-- it never comes
abbrev pub IsCarried : {S : Type 0} → (S → Type 0) → (S → Option (List ℕ)) → (S → Option (List ℕ)) → List ℕ → List ℕ → Type 0
IsCarried is_new contents remaining frame body =
    (n : ℕ) × (n < 9999) × IsExchange (Carried is_new contents remaining n) contents remaining frame body

-- the connection that is kept, if any, carried as many exchanges as are counted, and nothing else
abbrev pub IsKept : {S : Type 0} → (S → Type 0) → (S → Option (List ℕ)) → (S → Option (List ℕ)) → Option (KeptStream S) → Type 0
IsKept is_new contents remaining kept =
    IfSome kept (λ k. (k.exchanges < 9999) × Carried is_new contents remaining k.exchanges k.stream)

-- a connection after one exchange more than these, where it may carry a further one
abbrev pub kept_after : {S : Type 0} → S → ℕ → Option (KeptStream S)
kept_after stream exchanges =
    if nat_lt exchanges 9998 then Some (record { stream = stream; exchanges = exchanges + 1 }) else None

-- without a connection that is kept one new one was tried, and with one at most one
abbrev pub TriesOne : {C S : Type 0} → (C → Option ℕ) → C → Option (KeptStream S) → C → Type 0
TriesOne tried before kept after =
    MatchOption kept (tried after ≡ option_map suc (tried before))
    (λ _. (tried after ≡ tried before) ⊎ (tried after ≡ option_map suc (tried before)))

-- One exchange of a link went over the connection that it kept, and no new one was tried; or over the only new one. It is
-- kept from then on, where it may carry a further one.
pub data Asks {C S : Type 0} (is_new : S → Type 0) (tried : C → Option ℕ) (contents remaining : S → Option (List ℕ))
    (frame body : List ℕ) (before : C) (kept : Option (KeptStream S)) (after : C) (now : Option (KeptStream S)) : Type 0 where
  again : (k : KeptStream S) (left : S) → kept ≡ Some k → tried after ≡ tried before
      → Carries contents remaining frame body k.stream left → now ≡ kept_after left k.exchanges
      → Asks is_new tried contents remaining frame body before kept after now
  anew : (opened left : S) → is_new opened → tried after ≡ option_map suc (tried before)
      → Carries contents remaining frame body opened left → now ≡ kept_after left 0
      → Asks is_new tried contents remaining frame body before kept after now
