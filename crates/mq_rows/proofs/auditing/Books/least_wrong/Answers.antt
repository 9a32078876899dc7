use Rattle.std.proofs.Common.{◌≡◌, ◌∙◌, ap, sym, map, ◌∷◌, [], List, Bool}
use Rattle.mq_rows.proofs.Words.{Day, Pair, day_of, day_or, is_right, least_wrong, pair_cmp_total}
use Rattle.std.specs.Map.Iter.{deref_pair}
use Rattle.std.proofs.lemmas.Map.Iter.{btree_map_turn, rest_more, rest_all}
use Rattle.mq_rows.proofs.auditing.Books.least_wrong.Goals as goal

abbrev pairs_in : List (Pair × Day) → List Pair
pairs_in es = map (λ (e : Pair × Day). e.0) es

pub loop-pair-preserved : goal.loop-pair-preserved
loop-pair-preserved c = λ zone default f books.
    let right : Pair → Bool = is_right (day_of zone) default f in
    let days = c.args.self.now.days in
    let rest : c.loop-pair.pair-iterator ≡ (c.in-Some.pair.now, c.in-Some.day.now) ∷ c.next.new.self =
    rest_more deref_pair c.loop-pair.pair-iterator c.next.new.self c.next.result (c.in-Some.pair, c.in-Some.day) c.in-Some.is c.next.ensures.steps in
    let turn = btree_map_turn deref_pair c.loop-pair.yielded c.into_iter-pair-iterator.result c.loop-pair.pair-iterator c.next.new.self c.next.result (c.in-Some.pair, c.in-Some.day) c.loop-pair.yielded_by c.in-Some.is c.next.ensures.steps
    pair_cmp_total days (c.into_iter-pair-iterator.ensures.into_iter_gives ∙ c.iter-pair-items.ensures.rest) c.iter-pair-items.ensures.ordered in
    ap (λ o. least_wrong right o (pairs_in c.next.new.self)) (c.in_ok-least.ensures zone default f books (sym (ap day_or turn.1)))
    ∙ ap (λ es. least_wrong right c.loop-pair.least (pairs_in es)) (sym rest) ∙ c.loop-pair.invariant zone default f books

pub returns : goal.returns
returns c = λ zone default f books.
    let none : c.loop-pair.pair-iterator ≡ [] = rest_all deref_pair c.loop-pair.pair-iterator c.next.new.self c.next.result c.in-None.is c.next.ensures.steps in
    ap (λ es. least_wrong (is_right (day_of zone) default f) c.loop-pair.least (pairs_in es)) (sym none) ∙ c.loop-pair.invariant zone default f books
