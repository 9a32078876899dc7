-- What is written in several steps.
use Rattle.std.proofs.Common.{◌≡◌, ℕ, ◌-◌, List, ◌++◌, Option, length, take, drop, sym, ap, ◌∙◌, append_assoc, take-append-drop}
use Rattle.std.specs.Io.KnownBytes.{Appends}
use Rattle.std.proofs.KnownBytes.{Appends-trans}
use Rattle.std.proofs.lemmas.List.{take_rest}
use Rattle.mq_stream.specs.Flow.{AppendsFront}

-- a prefix of what comes first
pub front_first : (old new : Option (List ℕ)) (bytes more : List ℕ) → AppendsFront old new bytes → AppendsFront old new (bytes ++ more)
front_first old new bytes more (front, rest, split, written) = (front, rest ++ more, ap (λ l. l ++ more) split ∙ append_assoc front rest more, written)

-- all of what comes first, and a prefix of the rest
pub front_later : (old mid new : Option (List ℕ)) (bytes more : List ℕ) → Appends old mid bytes → AppendsFront mid new more → AppendsFront old new (bytes ++ more)
front_later old mid new bytes more before (front, rest, split, written) =
    (bytes ++ front, rest, ap (λ l. bytes ++ l) split ∙ sym (append_assoc bytes front rest), Appends-trans old mid new bytes front before written)

-- a call writes some of the rest
pub moves_front : (all done rest : List ℕ) (n : ℕ) → all ≡ done ++ rest → all ≡ (done ++ take n rest) ++ take (length rest - n) (drop n rest)
moves_front all done rest n e =
    e ∙ ap (λ l. done ++ l) (sym (take-append-drop n rest)) ∙ sym (append_assoc done (take n rest) (drop n rest)) ∙ ap (λ l. (done ++ take n rest) ++ l) (sym (take_rest rest n))
