-- One line more of a text, and what the lines still to come make of the bytes read so far.
use Rattle.std.proofs.Common.{◌≡◌, ℕ, ◌+◌, ◌<◌, nat_lt, Bool, true, false, List, [], ◌∷◌, ◌++◌, length, filter, map, drop, get_or, Some, None, is_err, refl, sym, ap, ◌∙◌, append_assoc, append-nil, arith, inl, inr}
use Rattle.std.specs.List.{slice_split, onto_first, flat_map, position_or_len}
use Rattle.std.proofs.lemmas.Bool.{lt-ltb, le-ltb, eqb-true, cases_lt}
use Rattle.std.proofs.lemmas.List.{drop_more, drop_all, get_or_default}
use Rattle.std.proofs.lemmas.List.Elements.{filter-append}
use Rattle.std.proofs.lemmas.List.Splits.{slice_split-cons_yes, slice_split-cons_no}
use Rattle.std.proofs.lemmas.List.Sums.{position_or_len_is}
use Rattle.hex.specs.Hex.{decode_of, decode_pairs}
use Rattle.mq_replay.specs.Connections.{digits_of, lines_of, is_empty_line, is_not_hex, bytes_of, first_not_hex, connections_of}

abbrev pub has_bytes : List ℕ → Bool
has_bytes bytes = nat_lt 0 (length bytes)

-- the connections of groups of lines, of which the first is open and has these bytes so far
abbrev pub after_open : List ℕ → List (List (List ℕ)) → List (List ℕ)
after_open current [] = filter has_bytes (current ∷ [])
after_open current (group ∷ groups) = filter has_bytes ((current ++ flat_map bytes_of group) ∷ map (flat_map bytes_of) groups)

-- what lines make of the bytes so far
abbrev pub joined : List ℕ → List (List ℕ) → List (List ℕ)
joined current lines = after_open current (slice_split is_empty_line lines)

after_open-nothing : (groups : List (List (List ℕ))) → after_open [] groups ≡ filter has_bytes (map (flat_map bytes_of) groups)
after_open-nothing [] = refl
after_open-nothing (group ∷ groups) = refl

-- before the first line
pub joined-start : (text : List ℕ) → joined [] (lines_of text) ≡ connections_of text
joined-start text = after_open-nothing (slice_split is_empty_line (lines_of text))

-- an empty line ends the connection
pub joined-empty_line : (current line : List ℕ) (lines : List (List ℕ)) → is_empty_line line ≡ true
    → joined current (line ∷ lines) ≡ filter has_bytes (current ∷ []) ++ joined [] lines
joined-empty_line current line lines h =
    ap (after_open current) (slice_split-cons_yes is_empty_line line lines h)
    ∙ ap (λ c. filter has_bytes (c ∷ map (flat_map bytes_of) (slice_split is_empty_line lines))) (append-nil current)
    ∙ filter-append has_bytes (current ∷ []) (map (flat_map bytes_of) (slice_split is_empty_line lines))
    ∙ ap (λ cs. filter has_bytes (current ∷ []) ++ cs) (sym (after_open-nothing (slice_split is_empty_line lines)))

after_open-first : (current line : List ℕ) (groups : List (List (List ℕ))) → after_open current (onto_first line groups) ≡ after_open (current ++ bytes_of line) groups
after_open-first current line [] = ap (λ c. filter has_bytes ((current ++ c) ∷ [])) (append-nil (bytes_of line))
after_open-first current line (group ∷ groups) =
    ap (λ c. filter has_bytes (c ∷ map (flat_map bytes_of) groups)) (sym (append_assoc current (bytes_of line) (flat_map bytes_of group)))

-- any other line goes on with it
pub joined-line : (current line : List ℕ) (lines : List (List ℕ)) → is_empty_line line ≡ false
    → joined current (line ∷ lines) ≡ joined (current ++ bytes_of line) lines
joined-line current line lines h =
    ap (after_open current) (slice_split-cons_no is_empty_line line lines h) ∙ after_open-first current line (slice_split is_empty_line lines)

-- after the last line
pub joined-end : (current : List ℕ) → joined current [] ≡ filter has_bytes (current ∷ [])
joined-end current = ap (λ c. filter has_bytes (c ∷ [])) (append-nil current)

-- the lines from the one at k on
pub from_line : (all : List (List ℕ)) (k : ℕ) (line : List ℕ) → k < length all → line ≡ get_or all k line → drop k all ≡ line ∷ drop (k + 1) all
from_line all k line h e = drop_more all k line h ∙ ap (λ l. l ∷ drop (k + 1) all) (sym e)

-- the line at k is this one, whatever is read past the end
pub at_line : (all : List (List ℕ)) (k : ℕ) (line : List ℕ) → k < length all → line ≡ get_or all k line → get_or all k [] ≡ line
at_line all k line h e = get_or_default all k [] line h ∙ sym e

-- the first line that is no hexadecimal
pub first_bad : (text : List ℕ) (k : ℕ) → k < length (lines_of text) → ((j : ℕ) → j < k → is_not_hex (get_or (lines_of text) j []) ≡ false)
    → is_not_hex (get_or (lines_of text) k []) ≡ true → first_not_hex text ≡ Some (k + 1)
first_bad text k h before here =
    let at : position_or_len is_not_hex (lines_of text) ≡ k = position_or_len_is is_not_hex (lines_of text) k [] (omega arith) before (λ _. here) in
    rw (at, lt-ltb k (length (lines_of text)) h) refl

-- every line is hexadecimal
pub none_bad : (text : List ℕ) → ((j : ℕ) → j < length (lines_of text) → is_not_hex (get_or (lines_of text) j []) ≡ false) → first_not_hex text ≡ None
none_bad text each =
    let all = lines_of text in
    let at : position_or_len is_not_hex all ≡ length all = position_or_len_is is_not_hex all (length all) [] (omega arith) each (λ h. absurd (omega (arith, h))) in
    rw (at, le-ltb (length all) (length all) (omega arith)) refl

-- ---- one line more

-- no digits are hexadecimal
no_digits : (digits : List ℕ) → length digits ≡ 0 → is_err (decode_of digits) ≡ false
unfolding decode_pairs
no_digits [] h = refl
no_digits (d ∷ digits) h = absurd (omega (arith, h))

pub empty_line_is_hex : (line : List ℕ) → is_empty_line line ≡ true → is_not_hex line ≡ false
empty_line_is_hex line h = no_digits (digits_of line) (eqb-true (length (digits_of line)) 0 h)

pub hex_more : (all : List (List ℕ)) (k n : ℕ) (line : List ℕ) → n ≡ k + 1 → k < length all → line ≡ get_or all k line → is_not_hex line ≡ false
    → ((j : ℕ) → j < k → is_not_hex (get_or all j []) ≡ false) → (j : ℕ) → j < n → is_not_hex (get_or all j []) ≡ false
hex_more all k n line next h e here before j below =
    elim (cases_lt j k) [
      | inl under ↦ before j under
      | inr top ↦
          let same : j ≡ k = omega (arith, top, below, next) in
          ap (λ i. is_not_hex (get_or all i [])) same ∙ ap is_not_hex (at_line all k line h e) ∙ here
    ]

pub joined_over_empty_line : (all found found' whole : List (List ℕ)) (current current' line : List ℕ) (k n : ℕ) → n ≡ k + 1 → k < length all → line ≡ get_or all k line
    → is_empty_line line ≡ true → found' ≡ found ++ filter has_bytes (current ∷ []) → current' ≡ []
    → found ++ joined current (drop k all) ≡ whole → found' ++ joined current' (drop n all) ≡ whole
joined_over_empty_line all found found' whole current current' line k n next h e empty ended fresh m =
    let step : joined current (drop k all) ≡ filter has_bytes (current ∷ []) ++ joined [] (drop (k + 1) all) = ap (joined current) (from_line all k line h e) ∙ joined-empty_line current line (drop (k + 1) all) empty in
    rw (ended, fresh, next, append_assoc found (filter has_bytes (current ∷ [])) (joined [] (drop (k + 1) all)), ← step) m

pub joined_over_line : (all found whole : List (List ℕ)) (current current' line : List ℕ) (k n : ℕ) → n ≡ k + 1 → k < length all → line ≡ get_or all k line
    → is_empty_line line ≡ false → current' ≡ current ++ bytes_of line
    → found ++ joined current (drop k all) ≡ whole → found ++ joined current' (drop n all) ≡ whole
joined_over_line all found whole current current' line k n next h e full more m =
    let step : joined current (drop k all) ≡ joined (current ++ bytes_of line) (drop (k + 1) all) = ap (joined current) (from_line all k line h e) ∙ joined-line current line (drop (k + 1) all) full in
    rw (more, next, ← step) m

pub joined_over_end : (all found found' whole : List (List ℕ)) (current : List ℕ) (n : ℕ) → n ≡ length all → found' ≡ found ++ filter has_bytes (current ∷ [])
    → found ++ joined current (drop n all) ≡ whole → found' ≡ whole
joined_over_end all found found' whole current n done ended m =
    ended ∙ ap (λ cs. found ++ cs) (sym (ap (joined current) (drop_all n all (omega (arith, done))) ∙ joined-end current)) ∙ m
