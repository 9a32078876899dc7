use Rattle.mq_command.proofs.Words.{Bool, List, [], ap, arith, cond, false, false≢true, is_reported, low_text, refl, sym, true, vis, ℕ, ◌%◌, ◌++◌, ◌+◌, ◌/◌, ◌==◌, ◌∙◌, ◌∷◌, ◌≡◌}
use Rattle.std.proofs.Common.{nat_lt}
use Rattle.mq_command.proofs.laws.no_login_is_reported_as_unlimited.Goals as goal

-- what is reported of a byte begins with a backslash or with a byte that is reported as it is
begins : (is_slash is_plain is_space is_low : Bool) (byte : ℕ) (rest : List ℕ) → (is_plain ≡ true → byte ≡ 0 → ⊥)
    → cond is_slash (92 ∷ 92 ∷ []) (cond is_plain (byte ∷ []) (cond is_space (92 ∷ (48 + byte / 64) ∷ (48 + byte / 8 % 8) ∷ (48 + byte % 8) ∷ [])
    (cond is_low (92 ∷ low_text byte) (92 ∷ 77 ∷ low_text (byte % 128))))) ++ rest ≡ 0 ∷ [] → ⊥
begins true is_plain is_space is_low byte rest never same = let e : ◌≡◌ {A = ℕ} 92 0 = cc same in omega (arith, e)
begins false true is_space is_low byte rest never same = let e : byte ≡ 0 = cc same in never refl e
begins false false true is_low byte rest never same = let e : ◌≡◌ {A = ℕ} 92 0 = cc same in omega (arith, e)
begins false false false true byte rest never same = let e : ◌≡◌ {A = ℕ} 92 0 = cc same in omega (arith, e)
begins false false false false byte rest never same = let e : ◌≡◌ {A = ℕ} 92 0 = cc same in omega (arith, e)

not_zero : (byte : ℕ) → is_reported byte ≡ true → byte ≡ 0 → ⊥
not_zero byte plain zero = false≢true (ap is_reported (sym zero) ∙ plain)

no_report : (login : List ℕ) → vis login ≡ 0 ∷ [] → ⊥
no_report [] same = cc
no_report (byte ∷ rest) same = begins (byte == 92) (is_reported byte) (byte % 128 == 32) (nat_lt byte 128) byte (vis rest) (not_zero byte) same

pub returns : goal.returns
returns c = λ login. no_report login
