-- A rule's text is kept in front of zeros.
use Rattle.mq_ledger.proofs.Words.{IsRule, List, arith, length, length-append, refl, replicate, subst, sym, take, ℕ, ◌++◌, ◌-◌, ◌∙◌, ◌≡◌}
use Rattle.std.proofs.lemmas.List.{take_at}
use Rattle.std.proofs.Math.Seq.{drop-append_seam}
use Rattle.std.specs.Prelude.{IsUtf8}
use Rattle.mq_ledger.specs.Kept.{IsKeptText}

kept_in : (text rest : List ℕ) → rest ≡ replicate (64 - length text) 0 → IsRule text → IsUtf8 text → IsKeptText (text ++ rest) (length text)
kept_in text rest blank rule utf8 =
    let front : take (length text) (text ++ rest) ≡ text = take_at _ _ _ refl in
    record {
      text = subst IsRule (sym front) rule;
      utf8 = ∣ subst IsUtf8 (sym front) utf8 ∣₁;
      fits = omega (arith, length-append text rest);
      blank = drop-append_seam text rest ∙ blank;
    }

pub kept : (bytes text : List ℕ) → bytes ≡ text ++ replicate (64 - length text) 0 → IsRule text → IsUtf8 text → IsKeptText bytes (length text)
kept bytes text is rule utf8 = subst (λ b. IsKeptText b (length text)) (sym is) (kept_in text _ refl rule utf8)
