-- One table after another.
use Rattle.mq_lemmas.proofs.Lists.{all_split}
use Rattle.std.proofs.Common.{◌≡◌, ℕ, List, [], ◌∷◌, ◌++◌, refl, ap, subst, ◌∙◌}
use Rattle.mq_tables.proofs.Words.{AllByRecursion, Schema, State, Table, all-append, all_both, created, next_tree}
use Rattle.mq_tables.specs.Making.{chain, trees_for, AllFree, HasAdded}

-- what holds of each table of the longer schema holds of those that were there, and of those that were made
pub of_chain : (Q : ℕ → Type 0) (made : List Table) (s : Schema) → AllByRecursion (λ t. Q t.tree) (chain s made).tables
    → AllByRecursion (λ t. Q t.tree) s.tables × AllByRecursion Q (trees_for s made)
of_chain Q [] s h = (h, tt)
of_chain Q (t ∷ more) s h =
    let rest = of_chain Q more (created s t) h in
    let both = all_split (λ t. Q t.tree) s.tables _ rest.0 in
    (both.0, (both.1.0, rest.1))

chain_joined : (one two : List Table) (s : Schema) → chain (chain s one) two ≡ chain s (one ++ two)
chain_joined [] two s = refl
chain_joined (t ∷ one) two s = chain_joined one two (created s t)

trees_joined : (one two : List Table) (s : Schema) → trees_for s one ++ trees_for (chain s one) two ≡ trees_for s (one ++ two)
trees_joined [] two s = refl
trees_joined (t ∷ one) two s = ap (λ ns. next_tree s ∷ ns) (trees_joined one two (created s t))

free_joined : (one two : List Table) (s : Schema) → AllFree s one → AllFree (chain s one) two → AllFree s (one ++ two)
free_joined [] two s h k = k
free_joined (t ∷ one) two s h k = (h.0, free_joined one two (created s t) h.1 k)

pub adds_both : (one two : List Table) (a b c : State) → HasAdded one a b → HasAdded two b c → HasAdded (one ++ two) a c
adds_both one two a b c p q =
    let kept : AllByRecursion (λ t. c.now.trees t.tree ≡ b.now.trees t.tree) (chain a.now.schema one).tables = subst (λ (s : Schema). AllByRecursion (λ t. c.now.trees t.tree ≡ b.now.trees t.tree) s.tables) p.schema q.others in
    let parts = of_chain (λ n. c.now.trees n ≡ b.now.trees n) one a.now.schema kept in
    let fresh : AllByRecursion (λ n. c.now.trees n ≡ []) (trees_for (chain a.now.schema one) two) = subst (λ s. AllByRecursion (λ n. c.now.trees n ≡ []) (trees_for s two)) p.schema q.empty in
    record {
      schema = q.schema ∙ ap (λ s. chain s two) p.schema ∙ chain_joined one two a.now.schema;
      free = free_joined one two a.now.schema p.free (subst (λ s. AllFree s two) p.schema q.free);
      empty = subst (AllByRecursion (λ n. c.now.trees n ≡ [])) (trees_joined one two a.now.schema) (all-append _ _ _ (all_both _ _ _ (λ n same none. same ∙ none) _ parts.1 p.empty) fresh);
      others = all_both _ _ _ (λ t later before. later ∙ before) a.now.schema.tables parts.0 p.others;
      counters = q.counters;
      sound = q.sound;
    }
