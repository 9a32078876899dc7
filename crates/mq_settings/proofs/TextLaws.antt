-- What a text that has to be there says.
use Rattle.std.proofs.Common.{◌≡◌, ℕ, List, Result, Ok, Err, subst}
use Rattle.std.specs.Prelude.{Option, None, Some, MatchOption, MatchResult, IsOkAnd}
use Rattle.std.specs.Borrow.{Bor}
use Rattle.std.specs.Result.{IsErrAnd}
use Rattle.toml.specs.Data.{Data, as_str}
use Rattle.mq_settings.specs.Settings.{IsText, TextAs, TextOr}
use Rattle.mq_settings.specs.declared.settings.key.Key.{Key}
use Rattle.mq_settings.specs.declared.settings.fault.SettingsFault.{SettingsFault}
use Rattle.mq_settings.specs.declared.settings.fault.SettingsFault.TheVariants.{Missing, Bad}

abbrev found : Bor (List ℕ) → Result (Bor (List ℕ)) SettingsFault
found text = Ok text

is_found : (text : Bor (List ℕ)) (e : SettingsFault) → found text ≡ Err e → ⊥
is_found text e h = cc

-- a value that the text means, or none by such a fault
abbrev Says : {V : Type 0} → (SettingsFault → Type 0) → (List ℕ → V → Type 0) → Result V SettingsFault → List ℕ → Type 0
Says {V} IsFault Means r text = MatchResult r (Means text) (λ e. IsFault e × ((v : V) → ¬ Means text v))

err_is : {V : Type 0} (e : SettingsFault) (r : Result V SettingsFault) → IsErrAnd r (λ f. f ≡ e) → r ≡ Err e
err_is e (Ok x) h = absurd h
err_is e (Err f) h = cc

module _ {V : Type 0} (IsFault : SettingsFault → Type 0) (key : Key) (Means : List ℕ → V → Type 0) where
  found_in : (o : Option (List ℕ)) (text : Bor (List ℕ)) (r : Result V SettingsFault)
      → MatchOption o (found text ≡ Err (Bad key)) (λ t. IsOkAnd (found text) (λ f. f.now ≡ t)) → Says IsFault Means r text.now
      → MatchOption o (r ≡ Err (Bad key)) (λ t. Says IsFault Means r t)
  found_in None text r h says = absurd (is_found text (Bad key) h)
  found_in (Some t) text r h says = subst (λ (w : List ℕ). Says IsFault Means r w) h says

  -- the entry gives what its text says
  pub found_or : (entry : Option Data) (text : Bor (List ℕ)) (r : Result V SettingsFault)
      → IsText key entry (found text) → Says IsFault Means r text.now → TextOr IsFault key Means entry r
  found_or None text r h says = absurd (is_found text (Missing key) h)
  found_or (Some entry) text r h says = found_in (as_str entry) text r h says

  failed_in : (o : Option (List ℕ)) (e : SettingsFault) (r : Result V SettingsFault)
      → MatchOption o (◌≡◌ {A = Result (Bor (List ℕ)) SettingsFault} (Err e) (Err (Bad key))) (λ t. IsOkAnd {T = Bor (List ℕ)} {E = SettingsFault} (Err e) (λ f. f.now ≡ t)) → r ≡ Err e
      → MatchOption o (r ≡ Err (Bad key)) (λ t. Says IsFault Means r t)
  failed_in None e r h is = cc
  failed_in (Some t) e r h is = absurd h

  -- where the entry gives no text, it gives nothing that a text means
  pub failed_or : (entry : Option Data) (e : SettingsFault) (r : Result V SettingsFault)
      → IsText key entry (Err e) → IsErrAnd r (λ f. f ≡ e) → TextOr IsFault key Means entry r
  failed_or None e r h is = let same = err_is e r is in cc
  failed_or (Some entry) e r h is = failed_in (as_str entry) e r h (err_is e r is)

-- the same of a text that is a bad value where it means none
pub text_found : {V : Type 0} (key : Key) (Means : List ℕ → V → Type 0) (entry : Option Data) (text : Bor (List ℕ)) (r : Result V SettingsFault)
    → IsText key entry (found text) → Says (λ e. e ≡ Bad key) Means r text.now → TextAs key Means entry r
text_found key Means entry text r h says = found_or (λ e. e ≡ Bad key) key Means entry text r h says

pub text_failed : {V : Type 0} (key : Key) (Means : List ℕ → V → Type 0) (entry : Option Data) (e : SettingsFault) (r : Result V SettingsFault)
    → IsText key entry (Err e) → IsErrAnd r (λ f. f ≡ e) → TextAs key Means entry r
text_failed key Means entry e r h is = failed_or (λ e. e ≡ Bad key) key Means entry e r h is
