-- The numbers of a run: an exchange more, or one that ends otherwise, takes no request away.
use Rattle.mq_world.proofs.Words.{Action, Ask, Bool, Exchange, IsNumbered, List, Request, Some, Source, Step, [], ap, arith, false, id_in, id_of, more_numbers, ne_eqb, numbers_in, request_under, some_is, sym, takes_number, ℕ, ◌+◌, ◌==◌, ◌∙◌, ◌∷◌, ◌≡◌, ◌≤◌}
use Rattle.mq_world.specs.World.{source_of, begun}

-- the request has a number of the source
pub record IsOwn (s : Source) (q : Request) : Type 0 where
  pub number : ℕ
  pub id : id_in q ≡ Some (id_of s number)

pub numbered_own : (s : Source) (P : List Step) (q : Request) → IsNumbered s P q → IsOwn s q
numbered_own s P q i = record { number = i.number; id = i.id }

pub same_own : (s u : Source) (q : Request) → IsOwn s q → IsOwn u q → s ≡ u
same_own s u q a b = ap source_of (some_is (id_of s a.number) (id_of u b.number) (sym a.id ∙ b.id))

-- a step begins
pub begun_numbered : (s : Source) (k : Bool) (a : Action) (P : List Step) (q : Request) → IsNumbered s P q → IsNumbered s (begun k a ∷ P) q
begun_numbered s k a P q i = record {
  number = i.number;
  used = (let m = more_numbers (numbers_in P) (takes_number P a []) in let u = i.used in omega (arith, u, m));
  id = i.id;
  under = (let u = i.used in rw (ne_eqb (numbers_in P + 1) i.number (λ e. omega (arith, e, u))) i.under);
}

-- an exchange more
pub more_numbered : (s : Source) (a : Action) (x : Exchange) (g : List Exchange) (k : Bool) (P : List Step) (q : Request) → IsNumbered s (record { action = a; group = g; quiet = k } ∷ P) q → IsNumbered s (record { action = a; group = x ∷ g; quiet = k } ∷ P) q
more_numbered s (Ask txn moment login) x [] k P q i = record {
  number = i.number;
  used = (let u : i.number ≤ numbers_in P = i.used in omega (arith, u));
  id = i.id;
  under = (let u : i.number ≤ numbers_in P = i.used in
      let other : (numbers_in P + 1 == i.number) ≡ false = ne_eqb (numbers_in P + 1) i.number (λ e. omega (arith, e, u)) in
      let old : request_under s P i.number ≡ Some q = rw other at i.under in
      rw other old);
}
more_numbered s (Ask txn moment login) x (y ∷ g) k P q i = record { number = i.number; used = i.used; id = i.id; under = i.under }
more_numbered s a x g k P q i = record { number = i.number; used = i.used; id = i.id; under = i.under }

-- an exchange ends otherwise
pub ended_numbered : (s : Source) (a : Action) (x y : Exchange) (g : List Exchange) (k : Bool) (P : List Step) (q : Request) → IsNumbered s (record { action = a; group = x ∷ g; quiet = k } ∷ P) q → IsNumbered s (record { action = a; group = y ∷ g; quiet = k } ∷ P) q
ended_numbered s (Ask txn moment login) x y g k P q i = record { number = i.number; used = i.used; id = i.id; under = i.under }
ended_numbered s a x y g k P q i = record { number = i.number; used = i.used; id = i.id; under = i.under }
