use Rattle.std.proofs.Common.{Bool, List, None, Option, Some, [], ap, arith, find, inl, inr, length, length-append, map, refl, subst, sym, true, ℕ, ◌++◌, ◌∙◌, ◌∷◌, ◌≡◌, ◌≤◌, ◌⊎◌}
use Rattle.mq_store.proofs.Words.{AllByRecursion, IsNext, IsOneOf, UsageRecord, UsageRow, all_has, behind, day_of, is_usage, map-append, row}
use Rattle.mq_store.proofs.InRange.{row_found}
use Rattle.mq_store.proofs.laws.reads_are_answered.Goals as goal
use Rattle.mq_rows.proofs.Leading.{none_found}

-- a row that is there once is the one that is found
the_one : (test : UsageRecord → Bool) (rows : List UsageRecord) (u : Option UsageRecord) → AllByRecursion (λ (x : UsageRecord). test x ≡ true → Some x ≡ find test rows) rows → IsOneOf test rows u → u ≡ find test rows
the_one test rows None only none = sym (none_found test rows none)
the_one test rows (Some x) only one = all_has (λ (y : UsageRecord). test y ≡ true → Some y ≡ find test rows) rows x only one.0 one.1

pub returns-clause-usage : goal.returns-clause-usage
returns-clause-usage c = λ zone default H db b l d u g one governs.
    let only = c.rows_by_key.ensures.only_usage (day_of zone) H b.has.tables.usage l d b.has.rows.usage in
    c.usage_is_answered.ensures.reply (day_of zone) default H b.has.tables l d u g b.legal.legal b.has.rows.usage b.has.rows.limits
    (the_one (is_usage l d) b.has.tables.usage u only one) governs

pub returns-clause-row : goal.returns-clause-row
returns-clause-row c = λ zone default H db b d after u g next governs.
    let only = c.rows_by_key.ensures.only_usage (day_of zone) H b.has.tables.usage u.login d b.has.rows.usage in
    let found : Some u ≡ find (is_usage u.login d) b.has.tables.usage = row_found d after b.has.tables.usage u only next in
    c.usage_is_answered.ensures.row (day_of zone) default H b.has.tables u.login d u g b.legal.legal b.has.rows.usage b.has.rows.limits found governs

pub returns-clause-begun : goal.returns-clause-begun
returns-clause-begun c = λ default d after db zone H b. record { us = []; next = tt; count = refl; are = refl; ends = refl }

last_is : (after : List ℕ) (us : List UsageRecord) (u : UsageRecord) → behind after (us ++ u ∷ []) ≡ u.login
last_is after [] u = refl
last_is after (x ∷ us) u = last_is x.login us u

pub returns-clause-more : goal.returns-clause-more
returns-clause-more c = λ default d after db n shown last r begun next zone H b.
    let g = begun zone H b in
    let it = next zone H b in
    let u : UsageRecord = it.0 in
    let next' : IsNext d (behind after g.us) b.has.tables.usage (Some u) = subst (λ (l : List ℕ). IsNext d l b.has.tables.usage (Some u)) g.ends it.1 in
    let day = day_of zone in
    let names : map (λ (x : UsageRecord). x.login) (g.us ++ u ∷ []) ≡ map (λ (x : UsageRecord). x.login) g.us ++ u.login ∷ [] = map-append (λ (x : UsageRecord). x.login) g.us (u ∷ []) in
    let rows : map (row day default H d) (map (λ (x : UsageRecord). x.login) g.us ++ u.login ∷ []) ≡ map (row day default H d) (map (λ (x : UsageRecord). x.login) g.us) ++ row day default H d u.login ∷ [] =
    map-append (row day default H d) (map (λ (x : UsageRecord). x.login) g.us) (u.login ∷ []) in
    record {
      us = g.us ++ u ∷ [];
      next = c.pages_go_by_login.ensures.more d b.has.tables.usage after g.us u g.next next';
      count = omega (arith, g.count, length-append g.us (u ∷ []));
      are = (λ i. g.are i ++ it.2 i ∷ []) ∙ sym (ap (map (row day default H d)) names ∙ rows);
      ends = ap (λ (x : UsageRow). x.login) it.2 ∙ sym (last_is after g.us u);
    }

pub returns-clause-ended : goal.returns-clause-ended
returns-clause-ended c = λ default d after db n shown last few begun end zone H b.
    let g = begun zone H b in
    let day = day_of zone in
    let few' : length g.us ≤ 100 = omega (arith, g.count, few) in
    let end' : (length g.us ≡ 100) ⊎ IsNext d (behind after g.us) b.has.tables.usage None = elim end [
      | inl all ↦ inl (g.count ∙ all)
      | inr none ↦ inr (subst (λ (l : List ℕ). IsNext d l b.has.tables.usage None) g.ends (none zone H b))
    ] in
    g.are ∙ ap (map (row day default H d)) (c.pages_go_by_login.ensures.page day H d b.has.tables.usage after g.us b.has.rows.usage g.next few' end')
