use Rattle.mq_command.proofs.Words.{Bool, List, [], ap, append_assoc, arith, cond, escaped, false, false≢true, flat_map, json_byte, refl, sym, true, ℕ, ◌++◌, ◌==◌, ◌||◌, ◌∙◌, ◌∷◌, ◌≡◌}
use Rattle.mq_command.proofs.PrintedSteps.{escaped_same}
use Rattle.mq_command.proofs.laws.logins_stay_apart_in_json.Goals as goal

abbrev is_marked : ℕ → Bool
is_marked byte = (byte == 34) || (byte == 92)

-- the text of a byte that stands after a backslash, and of another
abbrev text_by : Bool → ℕ → List ℕ
text_by marked byte = cond marked (92 ∷ byte ∷ []) (byte ∷ [])

unmarked : (byte mark : ℕ) → is_marked mark ≡ true → is_marked byte ≡ false → byte ≡ mark → ⊥
unmarked byte mark is plain same = false≢true (sym plain ∙ ap is_marked same ∙ is)

same_by : (p q : Bool) (x y : ℕ) (xs ys : List ℕ) → is_marked x ≡ p → is_marked y ≡ q → text_by p x ++ xs ≡ text_by q y ++ ys → (x ≡ y) × (xs ≡ ys)
same_by true true x y xs ys is is' same = let e : 92 ∷ x ∷ xs ≡ 92 ∷ y ∷ ys = same in (cc, cc)
same_by true false x y xs ys is is' same =
    let e : 92 ∷ x ∷ xs ≡ y ∷ ys = same in
    let at : y ≡ 92 = cc in
    absurd (unmarked y 92 refl is' at)
same_by false true x y xs ys is is' same =
    let e : x ∷ xs ≡ 92 ∷ y ∷ ys = same in
    let at : x ≡ 92 = cc in
    absurd (unmarked x 92 refl is at)
same_by false false x y xs ys is is' same = let e : x ∷ xs ≡ y ∷ ys = same in (cc, cc)

-- no byte's text begins as the end of a string does
ends_by : (p : Bool) (x : ℕ) (xs : List ℕ) → is_marked x ≡ p → text_by p x ++ xs ≡ 34 ∷ [] → ⊥
ends_by true x xs is same =
    let e : 92 ∷ x ∷ xs ≡ 34 ∷ [] = same in
    let at : ◌≡◌ {A = ℕ} 92 34 = cc in
    omega (arith, at)
ends_by false x xs is same =
    let e : x ∷ xs ≡ 34 ∷ [] = same in
    let at : x ≡ 34 = cc in
    unmarked x 34 refl is at

read_back : (bytes other : List ℕ) → flat_map json_byte bytes ++ 34 ∷ [] ≡ flat_map json_byte other ++ 34 ∷ [] → bytes ≡ other
read_back [] [] same = refl
read_back [] (y ∷ ys) same =
    absurd (ends_by (is_marked y) y (flat_map json_byte ys ++ 34 ∷ []) refl (sym (append_assoc (json_byte y) (flat_map json_byte ys) (34 ∷ [])) ∙ sym same))
read_back (x ∷ xs) [] same =
    absurd (ends_by (is_marked x) x (flat_map json_byte xs ++ 34 ∷ []) refl (sym (append_assoc (json_byte x) (flat_map json_byte xs) (34 ∷ [])) ∙ same))
read_back (x ∷ xs) (y ∷ ys) same =
    let (first, rest) = same_by (is_marked x) (is_marked y) x y (flat_map json_byte xs ++ 34 ∷ []) (flat_map json_byte ys ++ 34 ∷ []) refl refl
    (sym (append_assoc (json_byte x) (flat_map json_byte xs) (34 ∷ [])) ∙ same ∙ append_assoc (json_byte y) (flat_map json_byte ys) (34 ∷ [])) in
    let e : x ≡ y = first in
    let f : xs ≡ ys = read_back xs ys rest in
    cc

pub returns : goal.returns
returns c = λ one other each each' same.
    let inside : flat_map json_byte (escaped one) ++ 34 ∷ [] ≡ flat_map json_byte (escaped other) ++ 34 ∷ [] = cc in
    escaped_same one other each each' (read_back (escaped one) (escaped other) inside)
