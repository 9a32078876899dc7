-- The floor of a host is the greatest run of its retires.
use Rattle.mq_ledger.proofs.Words.{Contains, Id, List, Request, Retire, [], ap, arith, by_pushes, either, floor, greater, inl, inr, nat_lt, nat_tests, raised, refl, same_text, subst, sym, text_is, text_itself, ℕ, ◌++◌, ◌∙◌, ◌∷◌, ◌≡◌, ◌≤◌, ◌⊎◌}
use Rattle.std.proofs.lemmas.List.Elements.{Contains-append_left, Contains-push, Contains-push_cases}
use Rattle.mq_ledger.specs.Arrivals.{IsFloor}
use Rattle.mq_ledger.proofs.Transactions.{floor_push, floor_none}

pub greater_zero : (n : ℕ) → greater n 0 ≡ n
greater_zero n = grind (arith, nat_tests)

-- a retire of the host raises the floor to its own run
raised_own : (h : List ℕ) (id : Id) → id.host ≡ h → raised h (Retire id) ≡ id.run
raised_own h id own = rw (← own) (rw (text_itself id.host) refl)

-- what a request raises the floor to is nothing, or the run of a retire of the host
pub record IsRunOf (h : List ℕ) (r : Request) : Type 0 where
  pub id : Id
  pub is : r ≡ Retire id
  pub host : id.host ≡ h
  pub run : id.run ≡ raised h r

raised_by : (h : List ℕ) (r : Request) → (raised h r ≡ 0) ⊎ IsRunOf h r
raised_by h (Retire id) = elim (either (same_text h id.host)) [
  | inl t ↦ (let own : id.host ≡ h = sym (text_is h id.host t) in inr (record { id = id; is = refl; host = own; run = sym (raised_own h id own) }))
  | inr f ↦ inl (rw f refl)
]
raised_by h r = inl refl

greater_is : (a b : ℕ) → (greater a b ≡ a) ⊎ (greater a b ≡ b)
greater_is a b = elim (either (nat_lt a b)) [ inl t ↦ inr (rw t refl) | inr f ↦ inl (rw f refl) ]

abbrev Reaches : List Request → List ℕ → ℕ → Type 0
Reaches rs h n = (n ≡ 0) ⊎ ((id : Id) × Contains rs (Retire id) × (id.host ≡ h) × (id.run ≡ n))

one_more : (rs : List Request) (r : Request) (h : List ℕ) (m : ℕ) → IsFloor rs h m → IsFloor (rs ++ r ∷ []) h (greater m (raised h r))
one_more rs r h m is = record {
  most = λ id there own. elim (Contains-push_cases rs r (Retire id) there) [
    | inl before ↦ (let low : id.run ≤ m = is.most id before own in grind (arith, nat_tests, low))
    | inr now ↦ (let run : raised h r ≡ id.run = ap (raised h) now ∙ raised_own h id own in grind (arith, nat_tests, run))
  ];
  reached = elim (greater_is m (raised h r)) [
    | inl stays ↦ subst (Reaches (rs ++ r ∷ []) h) (sym stays) (elim is.reached [
      | inl none ↦ inl none
      | inr p ↦ inr (p.0, Contains-append_left rs (r ∷ []) (Retire p.0) p.1, p.2, p.3)
    ])
    | inr rises ↦ subst (Reaches (rs ++ r ∷ []) h) (sym rises) (elim (raised_by h r) [
      | inl none ↦ inl none
      | inr p ↦ inr (p.id, subst (Contains (rs ++ r ∷ [])) p.is (Contains-push rs r), p.host, p.run)
    ])
  ];
}

pub greatest : (rs : List Request) (h : List ℕ) → IsFloor rs h (floor rs h)
greatest rs h = by_pushes (λ rs. IsFloor rs h (floor rs h))
    (record { most = λ id there own. absurd (omega (arith, there.1)); reached = inl (floor_none h) })
    (λ rs r is. subst (IsFloor (rs ++ r ∷ []) h) (sym (floor_push rs r h)) (one_more rs r h (floor rs h) is)) rs

at_most : (rs : List Request) (h : List ℕ) (m n : ℕ) → IsFloor rs h m → IsFloor rs h n → m ≤ n
at_most rs h m n is other = elim is.reached [
  | inl none ↦ omega (arith, none)
  | inr p ↦ (let low : p.0.run ≤ n = other.most p.0 p.1 p.2 in omega (arith, low, p.3))
]

pub only_greatest : (rs : List Request) (h : List ℕ) (n : ℕ) → IsFloor rs h n → n ≡ floor rs h
only_greatest rs h n is = omega (arith, at_most rs h n (floor rs h) is (greatest rs h), at_most rs h (floor rs h) n (greatest rs h) is)
