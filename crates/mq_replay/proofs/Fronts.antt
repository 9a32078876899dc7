-- What is written in several steps.
use Rattle.std.proofs.Common.{◌≡◌, ◌<◌, ◌+◌, ℕ, List, [], ◌∷◌, ◌++◌, Option, map, length, take, drop, get_or, sym, ap, ◌∙◌, append_assoc, take-append-drop}
use Rattle.std.proofs.lemmas.List.{drop_more, map-append, map-id}
use Rattle.std.specs.Io.KnownBytes.{Appends}
use Rattle.std.specs.List.{flat_map}
use Rattle.std.proofs.lemmas.List.Concat.{flat_map-append}
use Rattle.mq_stream.specs.Flow.{AppendsFront}
use Rattle.mq_stream.proofs.Fronts.{front_first, front_later}
use Rattle.mq_replay.specs.Lines.{hex_line, hex_lines}

-- the lines of some connections, then one more, then the rest
pub lines_around : (done : List (List ℕ)) (bytes : List ℕ) (rest : List (List ℕ)) → hex_lines (done ++ bytes ∷ rest) ≡ (hex_lines done ++ hex_line bytes) ++ hex_lines rest
lines_around done bytes rest = flat_map-append hex_line done (bytes ∷ rest) ∙ sym (append_assoc (hex_lines done) (hex_line bytes) (hex_lines rest))

-- a prefix of one more line
pub front_of_line : (old mid new : Option (List ℕ)) (all done : List (List ℕ)) (bytes : List ℕ) (rest : List (List ℕ)) → all ≡ done ++ bytes ∷ rest
    → Appends old mid (hex_lines done) → AppendsFront mid new (hex_line bytes) → AppendsFront old new (hex_lines all)
front_of_line old mid new all done bytes rest e before now =
    rw (e, lines_around done bytes rest) (front_first old new (hex_lines done ++ hex_line bytes) (hex_lines rest) (front_later old mid new (hex_lines done) (hex_line bytes) before now))

-- the list up to a place, what stands there, and the rest
pub around_place : {X : Type 0} (inner : X → List ℕ) (all yielded : List X) (x : X) → map (λ y. y) yielded ≡ take (length yielded) all → length yielded < length all → x ≡ get_or all (length yielded) x
    → map inner all ≡ map inner yielded ++ inner x ∷ map inner (drop (length yielded + 1) all)
around_place inner all yielded x so_far below here =
    let same : yielded ≡ take (length yielded) all = sym (map-id yielded) ∙ so_far in
    let left : drop (length yielded) all ≡ x ∷ drop (length yielded + 1) all = drop_more all (length yielded) x below ∙ ap (λ y. y ∷ drop (length yielded + 1) all) (sym here) in
    ap (map inner) (sym (take-append-drop (length yielded) all)) ∙ ap (λ t. map inner (t ++ drop (length yielded) all)) (sym same) ∙ map-append inner yielded (drop (length yielded) all)
    ∙ ap (λ t. map inner yielded ++ map inner t) left
