-- Which texts are printed logins, and what is printed of a server.
use Rattle.std.specs.Prelude.{◌≡◌, ◌<◌, ◌++◌, ℕ, List, codes}
use Rattle.std.specs.List.{All}
use Rattle.mq_request.specs.Escaped.{escaped}
use Rattle.mq_request.specs.Range.{IsLogin}

-- these are bytes, and printed so
pub record ArePrinted (bytes text : List ℕ) : Type 0 where
  pub each : All (λ byte. byte < 256) bytes
  pub printed : escaped bytes ≡ text

-- no bytes are printed so
abbrev pub IsNoText : List ℕ → Type 0
IsNoText text = (bytes : List ℕ) → ¬ ArePrinted bytes text

-- these bytes are printed so, and no others
pub record IsTextOf (text bytes : List ℕ) : Type 0 where
  pub printed : escaped bytes ≡ text
  pub alone : (other : List ℕ) → ArePrinted other text → other ≡ bytes

-- a login is printed so
abbrev pub IsLoginText : List ℕ → Type 0
IsLoginText text = (login : List ℕ) × IsLogin login × ArePrinted login text

-- the line above what is printed of a server, where more than one is asked
abbrev pub heading_line : List ℕ → List ℕ
heading_line server = codes "server " ++ server ++ codes ":\n"
