-- One more answer after those that are there.
use Rattle.std.proofs.Common.{◌≡◌, ℕ, ◌+◌, ◌<◌, pos, List, [], ◌∷◌, ◌++◌, map, length, Less, arith, refl, ap, ◌∙◌}
use Rattle.mq_tables.proofs.Words.{AnswerRecord, Int, lt-ltb, put_row, value_cmp, value_cmp-Int}
use Rattle.mq_tables.specs.Records.{answer_fields, AreNumbered}

pub ascends : (a b : ℕ) → a < b → value_cmp (Int (pos a)) (Int (pos b)) ≡ Less
ascends a b low = value_cmp-Int (pos a) (pos b) ∙ rw (lt-ltb a b low)

pub appended : (n : ℕ) (all : List AnswerRecord) (a : AnswerRecord) → AreNumbered n all → a.n ≡ n + length all → put_row (answer_fields a) (map answer_fields all) ≡ map answer_fields (all ++ a ∷ [])
appended n [] a numbered next = refl
appended n (first ∷ more) a numbered next =
    let later = appended (n + 1) more a numbered.1 (next ∙ omega arith) in
    rw (ascends first.n a.n (omega (arith, numbered.0, next))) (ap (λ rows. answer_fields first ∷ rows) later)

pub numbered_on : (n : ℕ) (all : List AnswerRecord) (a : AnswerRecord) → AreNumbered n all → a.n ≡ n + length all → AreNumbered n (all ++ a ∷ [])
numbered_on n [] a numbered next = (next ∙ omega arith, tt)
numbered_on n (first ∷ more) a numbered next = (numbered.0, numbered_on (n + 1) more a numbered.1 (next ∙ omega arith))
