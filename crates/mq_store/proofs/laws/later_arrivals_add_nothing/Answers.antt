use Rattle.std.proofs.Common.{None, Option, Some, ap, inl, inr, refl, sym, ◌∙◌, ◌≡◌, ◌⊎◌}
use Rattle.mq_store.proofs.Words.{Id, id_of, known_by, not_false}
use Rattle.mq_store.proofs.KnownNumbers.{first_if_unknown}
use Rattle.mq_store.proofs.laws.later_arrivals_add_nothing.Goals as goal

none_or_some : (n : Option Id) → (n ≡ None) ⊎ ((id : Id) × (n ≡ Some id))
none_or_some None = inl refl
none_or_some (Some id) = inr (id, refl)

pub returns : goal.returns
returns c = λ zone default H r db later has.
    elim (none_or_some (id_of r)) [
      | inl none ↦ c.arrivals_are_applied.ensures.unnumbered zone default H r db none has
      | inr some ↦ c.arrivals_are_applied.ensures.known zone default H r some.0 db
          (ap (known_by H) some.1 ∙ not_false (known_by H (Some some.0)) (sym (first_if_unknown H r some.0 has.legal.legal.distinct some.1) ∙ later)) has
    ]
