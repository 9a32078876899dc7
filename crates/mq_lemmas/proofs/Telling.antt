-- What is reported, one part after another.
use Rattle.std.proofs.Common.{List, [], ◌++◌, ap, sym, ◌∙◌, append-nil, append_assoc}
use Rattle.std.specs.Prelude.{Option, None, Some}
use Rattle.mq_lemmas.specs.Told.{Tells}

pub Tells-none : {X : Type 0} (t : Option (List X)) → Tells t t []
Tells-none None = tt
Tells-none (Some xs) = sym (append-nil xs)

pub Tells-trans : {X : Type 0} (a b c : Option (List X)) (xs ys : List X) → Tells a b xs → Tells b c ys → Tells a c (xs ++ ys)
Tells-trans a b None xs ys h i = tt
Tells-trans None None (Some e) xs ys h i = absurd i
Tells-trans None (Some d) (Some e) xs ys h i = absurd h
Tells-trans (Some c) None (Some e) xs ys h i = absurd i
Tells-trans (Some c) (Some d) (Some e) xs ys h i = i ∙ ap (λ l. l ++ ys) h ∙ append_assoc c xs ys
