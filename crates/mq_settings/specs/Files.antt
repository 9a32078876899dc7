-- What is read of a file of settings.
use Rattle.std.specs.Prelude.{◌≡◌, ℕ, List, Option, IfSome}

-- all that a file gives, where it says what it gives
abbrev pub IsText : Option (List ℕ) → List ℕ → Type 0
IsText remaining text = IfSome remaining (λ all. text ≡ all)
