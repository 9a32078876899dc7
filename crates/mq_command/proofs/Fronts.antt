-- What is written in several steps.
use Rattle.mq_command.proofs.Words.{Appends, Appends-trans, AppendsFront, Keeps, List, Option, [], ap, append-nil, append_assoc, appends_kept, drop, drop_more, flat_map, flat_map-append, front_first, front_later, get_or, length, sym, take, take-append-drop, take_more, ℕ, ◌++◌, ◌+◌, ◌<◌, ◌∙◌, ◌∷◌, ◌≡◌}

-- all of it
pub front_whole : (old new : Option (List ℕ)) (bytes : List ℕ) → Appends old new bytes → AppendsFront old new bytes
front_whole old new bytes written = (bytes, [], sym (append-nil bytes), written)

-- ---- the lines of a list, for any line of an element

pub around_index : {X : Type 0} (xs : List X) (i : ℕ) (x : X) → i < length xs → get_or xs i x ≡ x → xs ≡ take i xs ++ x ∷ drop (i + 1) xs
around_index xs i x below here = sym (take-append-drop i xs) ∙ ap (λ l. take i xs ++ l) (drop_more xs i x below ∙ ap (λ y. y ∷ drop (i + 1) xs) here)

pub front_of_item : {X : Type 0} (f : X → List ℕ) (old mid new : Option (List ℕ)) (xs : List X) (i : ℕ) (x : X) → i < length xs → get_or xs i x ≡ x
    → Appends old mid (flat_map f (take i xs)) → AppendsFront mid new (f x) → AppendsFront old new (flat_map f xs)
front_of_item f old mid new xs i x below here before now =
    let whole : flat_map f xs ≡ (flat_map f (take i xs) ++ f x) ++ flat_map f (drop (i + 1) xs) =
    ap (flat_map f) (around_index xs i x below here) ∙ flat_map-append f (take i xs) (x ∷ drop (i + 1) xs) ∙ sym (append_assoc (flat_map f (take i xs)) (f x) (flat_map f (drop (i + 1) xs))) in
    rw whole (front_first old new (flat_map f (take i xs) ++ f x) (flat_map f (drop (i + 1) xs)) (front_later old mid new (flat_map f (take i xs)) (f x) before now))

pub one_more_item : {X : Type 0} (f : X → List ℕ) (old mid new : Option (List ℕ)) (xs : List X) (i : ℕ) (x : X) → i < length xs → get_or xs i x ≡ x
    → Appends old mid (flat_map f (take i xs)) → Appends mid new (f x) → Appends old new (flat_map f (take (i + 1) xs))
one_more_item f old mid new xs i x below here before now =
    let whole : flat_map f (take (i + 1) xs) ≡ flat_map f (take i xs) ++ f x =
    ap (flat_map f) (take_more xs i x below ∙ ap (λ y. take i xs ++ y ∷ []) here) ∙ flat_map-append f (take i xs) (x ∷ []) ∙ ap (λ l. flat_map f (take i xs) ++ l) (append-nil (f x)) in
    rw whole (Appends-trans old mid new (flat_map f (take i xs)) (f x) before now)

-- a flush keeps what was written
pub appends_flushed : (old mid new : Option (List ℕ)) (bytes : List ℕ) → Appends old mid bytes → Keeps mid new → Appends old new bytes
appends_flushed old mid new bytes a k = rw append-nil at (Appends-trans old mid new bytes [] a (appends_kept mid new k))
