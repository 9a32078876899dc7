-- Pieces appended to a list one after another.
use Rattle.std.proofs.Common.{◌≡◌, ℕ, ◌+◌, ◌<◌, List, [], ◌∷◌, ◌++◌, length, take, get_or, append_assoc, ap, sym, refl, arith, ◌≤◌, ◌∙◌}
use Rattle.std.specs.List.{flat_map}
use Rattle.std.proofs.lemmas.List.Folds.{length-flat_map-take}
use Rattle.std.proofs.lemmas.List.{take_more, flat_map_more, length-append}

pub two_appended : {A : Type 0} (old new a b : List A) {mid : List A} → mid ≡ old ++ a → new ≡ mid ++ b → new ≡ old ++ (a ++ b)
two_appended old new a b h i = rw (i, h) (append_assoc old a b)

pub three_appended : {A : Type 0} (old new a b c : List A) {m n : List A} → m ≡ old ++ a → n ≡ m ++ b → new ≡ n ++ c → new ≡ old ++ (a ++ (b ++ c))
three_appended old new a b c h i j = two_appended old new a (b ++ c) h (two_appended _ new b c i j)

pub four_appended : {A : Type 0} (old new a b c d : List A) {l m n : List A} → l ≡ old ++ a → m ≡ l ++ b → n ≡ m ++ c → new ≡ n ++ d → new ≡ old ++ (a ++ (b ++ (c ++ d)))
four_appended old new a b c d h i j k = two_appended old new a (b ++ (c ++ d)) h (three_appended _ new b c d i j k)

-- one more piece
pub one_more_appended : {X A : Type 0} (f : X → List A) (old mid new : List A) (xs : List X) (i : ℕ) (x : X) → i < length xs → x ≡ get_or xs i x → mid ≡ old ++ flat_map f (take i xs) → new ≡ mid ++ f x → new ≡ old ++ flat_map f (take (i + 1) xs)
one_more_appended {X} {A} f old mid new xs i x lt is h e =
    e ∙ ap (λ (l : List A). l ++ f x) h ∙ flat_map_more f old (take i xs) x
    ∙ ap (λ (l : List X). old ++ flat_map f l) (ap (λ (y : X). take i xs ++ y ∷ []) is ∙ sym (take_more xs i x lt))

-- the lengths of one more piece
pub one_more_long : {X A : Type 0} (f : X → List A) (n : ℕ) (xs : List X) (i : ℕ) (x : X) → i < length xs → x ≡ get_or xs i x → n ≡ length (flat_map f (take i xs)) → n + length (f x) ≡ length (flat_map f (take (i + 1) xs))
one_more_long f n xs i x lt is h =
    let more = one_more_appended f [] (flat_map f (take i xs)) (flat_map f (take i xs) ++ f x) xs i x lt is refl refl in
    omega (arith, h, ap length more, length-append (flat_map f (take i xs)) (f x))

-- a piece that has no room leaves none for all of them
pub no_room : {X A : Type 0} (f : X → List A) (old items : List A) (xs : List X) (i n capacity before : ℕ) (d x : X) → i < length xs → x ≡ get_or xs i d
    → items ≡ old ++ flat_map f (take i xs) → before ≤ capacity → capacity < n + length (f x) → n ≡ length items → before < length old + length (flat_map f xs)
no_room f old items xs i n capacity before d x inside is text room full long =
    omega (arith, ap length text, length-append old (flat_map f (take i xs)), ap (λ y. length (f y)) is, length-flat_map-take f xs i d inside)

-- the length of what was appended
pub ruleset lengths = (length-append)
