-- Which bytes a printed text begins with.
use Rattle.mq_command.proofs.Words.{All, All-head, All-tail, ArePrinted, Bool, IsNoText, IsTextOf, List, [], ap, append-nil, append_assoc, arith, byte_text, cond, digit_text, empty, escaped, false, false≢true, flat_map-append, is_plain, length, nat_tests, refl, sym, true, ℕ, ◌%◌, ◌++◌, ◌/◌, ◌<◌, ◌∙◌, ◌∷◌, ◌≡◌}

-- the text of a byte that is printed as it is, and of another
abbrev text_by : Bool → ℕ → List ℕ
text_by plain byte = cond plain (byte ∷ []) (92 ∷ 120 ∷ digit_text (byte / 16) ∷ digit_text (byte % 16) ∷ [])

-- two digits are of one value, and two values of one byte
digit_same : (a b : ℕ) → a < 16 → b < 16 → digit_text a ≡ digit_text b → a ≡ b
digit_same a b below below' same = grind (arith, nat_tests)

byte_same : (byte other : ℕ) → byte < 256 → other < 256 → digit_text (byte / 16) ≡ digit_text (other / 16) → digit_text (byte % 16) ≡ digit_text (other % 16) → byte ≡ other
byte_same byte other below below' high low =
    let high' : byte / 16 ≡ other / 16 = digit_same (byte / 16) (other / 16) (omega arith) (omega arith) high in
    let low' : byte % 16 ≡ other % 16 = digit_same (byte % 16) (other % 16) (omega arith) (omega arith) low in
    omega (arith, high', low')

-- a backslash isn't printed as it is
not_plain : (byte : ℕ) → byte ≡ 92 → is_plain byte ≡ true → ⊥
not_plain byte is plain = false≢true (ap is_plain (sym is) ∙ plain)

-- a text begins with the text of one byte
behind_by : (byte other : ℕ) (p q : Bool) (rest more : List ℕ) → byte < 256 → other < 256 → is_plain byte ≡ p → is_plain other ≡ q → text_by p byte ++ rest ≡ text_by q other ++ more
    → (byte ≡ other) × (rest ≡ more)
behind_by byte other true true rest more below below' plain plain' same = let e : byte ∷ rest ≡ other ∷ more = same in (cc, cc)
behind_by byte other true false rest more below below' plain hidden same =
    let e : byte ∷ rest ≡ 92 ∷ 120 ∷ digit_text (other / 16) ∷ digit_text (other % 16) ∷ more = same in
    let is : byte ≡ 92 = cc in
    absurd (not_plain byte is plain)
behind_by byte other false true rest more below below' hidden plain same =
    let e : 92 ∷ 120 ∷ digit_text (byte / 16) ∷ digit_text (byte % 16) ∷ rest ≡ other ∷ more = same in
    let is : other ≡ 92 = cc in
    absurd (not_plain other is plain)
behind_by byte other false false rest more below below' hidden hidden' same =
    let e : 92 ∷ 120 ∷ digit_text (byte / 16) ∷ digit_text (byte % 16) ∷ rest ≡ 92 ∷ 120 ∷ digit_text (other / 16) ∷ digit_text (other % 16) ∷ more = same in
    let high : digit_text (byte / 16) ≡ digit_text (other / 16) = cc in
    let low : digit_text (byte % 16) ≡ digit_text (other % 16) = cc in
    (byte_same byte other below below' high low, cc)

behind : (byte other : ℕ) (rest more : List ℕ) → byte < 256 → other < 256 → byte_text byte ++ rest ≡ byte_text other ++ more → (byte ≡ other) × (rest ≡ more)
behind byte other rest more below below' same = behind_by byte other (is_plain byte) (is_plain other) rest more below below' refl refl same

-- what follows a byte's text is shorter
shorter_by : (byte : ℕ) (plain : Bool) (rest after : List ℕ) → text_by plain byte ++ after ≡ rest → length after < length rest
shorter_by byte true rest after split = omega (arith, ap length split)
shorter_by byte false rest after split = omega (arith, ap length split)

pub shorter : (byte : ℕ) (rest after : List ℕ) → byte_text byte ++ after ≡ rest → length after < length rest
shorter byte rest after split = shorter_by byte (is_plain byte) rest after split

-- the bytes are printed as what stands before the rest, and all that is printed as the text begins with them
pub record Begins (text bytes rest : List ℕ) : Type 0 where
  pub printed : escaped bytes ++ rest ≡ text
  pub only : (all : List ℕ) → ArePrinted all text → (more : List ℕ) × ArePrinted more rest × (all ≡ bytes ++ more)

pub begins_none : (text : List ℕ) → Begins text [] text
begins_none text = record { printed = refl; only = λ all printed. (all, printed, refl) }

continued : (all bytes more rest after : List ℕ) (byte : ℕ) → byte < 256 → byte_text byte ++ after ≡ rest → ArePrinted more rest → all ≡ bytes ++ more
    → (less : List ℕ) × ArePrinted less after × (all ≡ (bytes ++ byte ∷ []) ++ less)
continued all bytes [] rest after byte below split printed is = absurd (omega (arith, shorter byte rest after split, ap length printed.printed))
continued all bytes (first ∷ more) rest after byte below split printed is =
    let (same, behind') = behind first byte (escaped more) after (All-head (λ byte. byte < 256) first more printed.each) below (printed.printed ∙ sym split) in
    let less : ArePrinted more after = record { each = All-tail (λ byte. byte < 256) first more printed.each; printed = behind' } in
    (more, less, is ∙ ap (λ b. bytes ++ b ∷ more) same ∙ sym (append_assoc bytes (byte ∷ []) more))

-- one byte more that the text is printed from
pub begins_more : (text bytes rest after : List ℕ) (byte : ℕ) → byte < 256 → byte_text byte ++ after ≡ rest → Begins text bytes rest → Begins text (bytes ++ byte ∷ []) after
begins_more text bytes rest after byte below split so_far = record {
  printed = ap (λ l. l ++ after) (flat_map-append byte_text bytes (byte ∷ []) ∙ ap (λ l. escaped bytes ++ l) (append-nil (byte_text byte)))
      ∙ append_assoc (escaped bytes) (byte_text byte) after ∙ ap (λ l. escaped bytes ++ l) split ∙ so_far.printed;
  only = λ all printed.
      let (more, printed', is) = so_far.only all printed in
      continued all bytes more rest after byte below split printed' is;
}

-- a rest that begins with no byte's text is printed from none
ended : (more rest : List ℕ) → ArePrinted more rest → 0 < length rest
    → ((byte : ℕ) (after : List ℕ) → byte < 256 → byte_text byte ++ after ≡ rest → ⊥) → ⊥
ended [] rest printed some none = omega (arith, some, ap length printed.printed)
ended (byte ∷ more) rest printed some none = none byte (escaped more) (All-head (λ byte. byte < 256) byte more printed.each) printed.printed

pub no_text : (text bytes rest : List ℕ) → Begins text bytes rest → 0 < length rest
    → ((byte : ℕ) (after : List ℕ) → byte < 256 → byte_text byte ++ after ≡ rest → ⊥) → IsNoText text
no_text text bytes rest so_far some none all printed = let (more, printed', is) = so_far.only all printed in ended more rest printed' some none

-- an empty rest is printed from nothing
nothing_more : (more rest : List ℕ) → ArePrinted more rest → length rest ≡ 0 → more ≡ []
nothing_more [] rest printed none = refl
nothing_more (byte ∷ more) rest printed none = absurd (omega (arith, shorter byte rest (escaped more) printed.printed, none))

-- the text is printed from these bytes alone
pub all_text : (text bytes rest : List ℕ) → Begins text bytes rest → length rest ≡ 0 → IsTextOf text bytes
all_text text bytes rest so_far none = record {
  printed = sym (append-nil (escaped bytes)) ∙ ap (λ l. escaped bytes ++ l) (sym (empty rest (omega arith))) ∙ so_far.printed;
  alone = λ other printed.
      let (more, printed', is) = so_far.only other printed in
      is ∙ ap (λ l. bytes ++ l) (nothing_more more rest printed' none) ∙ append-nil bytes;
}

-- two texts that are printed the same are the same
pub escaped_same : (bytes other : List ℕ) → All (λ byte. byte < 256) bytes → All (λ byte. byte < 256) other → escaped bytes ≡ escaped other → bytes ≡ other
escaped_same [] [] each each' same = refl
escaped_same [] (byte ∷ more) each each' same = absurd (omega (arith, shorter byte [] (escaped more) (sym same)))
escaped_same (byte ∷ more) [] each each' same = absurd (omega (arith, shorter byte [] (escaped more) same))
escaped_same (byte ∷ more) (first ∷ rest) each each' same =
    let (one, left) = behind byte first (escaped more) (escaped rest) (All-head (λ byte. byte < 256) byte more each) (All-head (λ byte. byte < 256) first rest each') same in
    let e : byte ≡ first = one in
    let f : more ≡ rest = escaped_same more rest (All-tail (λ byte. byte < 256) byte more each) (All-tail (λ byte. byte < 256) first rest each') left in
    cc
