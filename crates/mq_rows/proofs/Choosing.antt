-- The best of a list, found by going through it: of those that pass a test one that none beats, and of those like it the first.
use Rattle.std.proofs.Common.{◌≡◌, List, [], ◌∷◌, Bool, true, false, refl, sym, subst, inl, inr, ◌⊎◌, Option, Some, None, find, fold}
use Rattle.mq_rows.proofs.Words.{AllByRecursion, either}

-- A test, which of two is better, which are alike, and how the best so far and the next one are compared.
pub record Chooses {X : Type 0} (passes : X → Bool) (beats : X → X → Bool) (alike : X → X → Bool) (pick : Option X → X → Option X) : Type 0 where
  pub skip : (best : Option X) (x : X) → passes x ≡ false → pick best x ≡ best
  pub first : (x : X) → passes x ≡ true → pick None x ≡ Some x
  pub better : (b x : X) → passes x ≡ true → beats x b ≡ true → pick (Some b) x ≡ Some x
  pub worse : (b x : X) → passes x ≡ true → beats x b ≡ false → pick (Some b) x ≡ Some b
  pub chain : (a b c : X) → beats a b ≡ true → beats b c ≡ true → beats a c ≡ true
  pub no_chain : (a b c : X) → beats a b ≡ false → beats b c ≡ false → beats a c ≡ false
  pub not_itself : (a : X) → beats a a ≡ false
  pub like_itself : (a : X) → alike a a ≡ true
  pub like_passes : (a b : X) → alike a b ≡ true → passes a ≡ passes b
  pub like_beats : (a b c : X) → alike a b ≡ true → beats a c ≡ beats b c

module _ {X : Type 0} (passes : X → Bool) (beats : X → X → Bool) (alike : X → X → Bool) where
  abbrev pub Beats : X → Option X → Type 0
  Beats g None = Unit {0}
  Beats g (Some b) = beats g b ≡ true

  abbrev pub IsUnbeaten : Option X → X → Type 0
  IsUnbeaten None g = Unit {0}
  IsUnbeaten (Some b) g = beats b g ≡ false

  -- it passes, is the first like it, and better than the best before
  pub record IsNew (best : Option X) (xs : List X) (g : X) : Type 0 where
    pub passing : passes g ≡ true
    pub first : find (alike g) xs ≡ Some g
    pub above : Beats g best

  abbrev pub IsBest : Option X → List X → Option X → Type 0
  IsBest best xs None = (best ≡ None) × AllByRecursion (λ x. passes x ≡ false) xs
  IsBest best xs (Some g) = ((best ≡ Some g) ⊎ IsNew best xs g) × AllByRecursion (λ x. passes x ≡ true → beats x g ≡ false) xs × IsUnbeaten best g

  module _ (pick : Option X → X → Option X) (laws : Chooses passes beats alike pick) where
    past : (x g : X) (xs : List X) → alike g x ≡ false → find (alike g) xs ≡ Some g → find (alike g) (x ∷ xs) ≡ Some g
    past x g xs f h = rw f h

    skipped : (best : Option X) (x : X) (xs : List X) (g : Option X) → passes x ≡ false → IsBest best xs g → IsBest best (x ∷ xs) g
    skipped best x xs None f h = (h.0, (f, h.1))
    skipped best x xs (Some g) f h = (
      elim h.0 [
        | inl e ↦ inl e
        | inr n ↦ inr (record {
          passing = n.passing;
          first = past x g xs (elim (either (alike g x)) [ inl t ↦ absurd (cc (laws.like_passes g x t, n.passing, f)) | inr u ↦ u ]) n.first;
          above = n.above;
        })
      ],
      ((λ t. absurd (cc (f, t))), h.1),
      h.2,
    )

    kept : (b x : X) (xs : List X) (g : Option X) → beats x b ≡ false → IsBest (Some b) xs g → IsBest (Some b) (x ∷ xs) g
    kept b x xs None low h = absurd (cc (h.0))
    kept b x xs (Some g) low h = (
      elim h.0 [
        | inl e ↦ inl e
        | inr n ↦ inr (record {
          passing = n.passing;
          first = past x g xs (elim (either (alike g x)) [ inl t ↦ absurd (cc (laws.like_beats g x b t, n.above, low)) | inr u ↦ u ]) n.first;
          above = n.above;
        })
      ],
      ((λ _. laws.no_chain x b g low h.2), h.1),
      h.2,
    )

    above_both : (best : Option X) (x g : X) → Beats x best → beats g x ≡ true → Beats g best
    above_both None x g low up = tt
    above_both (Some b) x g low up = laws.chain g x b up low

    unbeaten : (best : Option X) (x g : X) → Beats x best → beats x g ≡ false → IsUnbeaten best g
    unbeaten None x g low h = tt
    unbeaten (Some b) x g low h = elim (either (beats b g)) [ inl t ↦ absurd (cc (laws.chain x b g low t, h)) | inr f ↦ f ]

    taken : (best : Option X) (x : X) (xs : List X) (g : Option X) → passes x ≡ true → Beats x best → IsBest (Some x) xs g → IsBest best (x ∷ xs) g
    taken best x xs None t low h = absurd (cc (h.0))
    taken best x xs (Some g) t low h = (
      elim h.0 [
        | inl e ↦ (let same : x ≡ g = cc e in
            let own : find (alike x) (x ∷ xs) ≡ Some x = rw (laws.like_itself x) refl in
            inr (subst (IsNew best (x ∷ xs)) same (record { passing = t; first = own; above = low })))
        | inr n ↦ inr (record {
          passing = n.passing;
          first = past x g xs (elim (either (alike g x)) [ inl u ↦ absurd (cc (laws.like_beats g x x u, n.above, laws.not_itself x)) | inr u ↦ u ]) n.first;
          above = above_both best x g low n.above;
        })
      ],
      ((λ _. h.2), h.1),
      unbeaten best x g low h.2,
    )

    pub best_of : (best : Option X) (xs : List X) → IsBest best xs (fold pick best xs)
    best_of None [] = (refl, tt)
    best_of (Some b) [] = (inl refl, tt, laws.not_itself b)
    best_of None (x ∷ xs) = elim (either (passes x)) [
      | inl t ↦ subst (λ o. IsBest None (x ∷ xs) (fold pick o xs)) (sym (laws.first x t)) (taken None x xs _ t tt (best_of (Some x) xs))
      | inr f ↦ subst (λ o. IsBest None (x ∷ xs) (fold pick o xs)) (sym (laws.skip None x f)) (skipped None x xs _ f (best_of None xs))
    ]
    best_of (Some b) (x ∷ xs) = elim (either (passes x)) [
      | inl t ↦ elim (either (beats x b)) [
        | inl u ↦ subst (λ o. IsBest (Some b) (x ∷ xs) (fold pick o xs)) (sym (laws.better b x t u)) (taken (Some b) x xs _ t u (best_of (Some x) xs))
        | inr g ↦ subst (λ o. IsBest (Some b) (x ∷ xs) (fold pick o xs)) (sym (laws.worse b x t g)) (kept b x xs _ g (best_of (Some b) xs))
      ]
      | inr f ↦ subst (λ o. IsBest (Some b) (x ∷ xs) (fold pick o xs)) (sym (laws.skip (Some b) x f)) (skipped (Some b) x xs _ f (best_of (Some b) xs))
    ]
