-- How a zone is kept, and that it is kept in one way.
use Rattle.std.specs.Prelude.{◌≡◌, ℕ, ◌-◌, ◌≤◌, List, ◌++◌, length, take, drop, replicate, IsUtf8, refl}
use Rattle.std.proofs.Common.{◌∙◌, sym, ap, take-append-drop, length-take-le}
use Rattle.mq_ledger.specs.declared.zone.Kind.{Kind}
use Rattle.mq_ledger.specs.declared.zone.Kind.TheVariants.{Offset, Rule}
use Rattle.mq_ledger.specs.Day.{Days, ByOffset, ByRule, IsOffset, IsRule}

-- the days of a zone, by its fields
abbrev pub days_of : Kind → Days
days_of (Offset minutes) = ByOffset minutes
days_of (Rule bytes len) = ByRule (take len bytes)

-- the text stands in front, and zeros after it
pub record IsKeptText (bytes : List ℕ) (len : ℕ) : Type 0 where
  pub text : IsRule (take len bytes)
  pub utf8 : ∥ IsUtf8 (take len bytes) ∥₁
  pub fits : len ≤ length bytes
  pub blank : drop len bytes ≡ replicate (64 - len) 0

-- an offset in range, or a rule that is kept in the one way
abbrev pub IsKept : Kind → Type 0
IsKept (Offset minutes) = IsOffset minutes
IsKept (Rule bytes len) = IsKeptText bytes len

-- the fields that show as these days
abbrev pub kind_of : Days → Kind
kind_of (ByOffset minutes) = Offset minutes
kind_of (ByRule text) = Rule (text ++ replicate (64 - length text) 0) (length text)

-- the text of a rule, filled up with zeros, is the bytes that are kept
same_bytes : (bytes : List ℕ) (len : ℕ) → IsKeptText bytes len → take len bytes ++ replicate (64 - length (take len bytes)) 0 ≡ bytes
same_bytes bytes len kept =
    ap (λ n. take len bytes ++ replicate (64 - n) 0) (length-take-le len bytes kept.fits)
    ∙ ap (λ rest. take len bytes ++ rest) (sym kept.blank)
    ∙ take-append-drop len bytes

-- a kept zone has just the fields that show as its days
pub given_back : (kind : Kind) → IsKept kind → kind_of (days_of kind) ≡ kind
given_back (Offset minutes) kept = refl
given_back (Rule bytes len) kept = λ i. Rule (same_bytes bytes len kept i) (length-take-le len bytes kept.fits i)
