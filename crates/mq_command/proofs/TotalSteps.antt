-- What servers list and are asked, and the sums of it.
use Rattle.std.proofs.Common.{⊎_elim, below_more, false, nat_eq, true, ◌≢◌, Equal, Greater, Less, Ordering, get_or-set_other, get_or-set_same, set}
use Rattle.std.proofs.lemmas.Bool.{cases_lt}
use Rattle.std.proofs.lemmas.Cmp.{nat_list_cmp_total, nat_list_eq_equiv, ranked, tied_itself}
use Rattle.std.proofs.lemmas.List.Folds.{list_all-append}
use Rattle.std.proofs.lemmas.List.{get_or-map, get_or_push, get_or_read, length-map, length-replicate, length-set, map-set, length-take-le, take_all}
use Rattle.std.proofs.lemmas.List.Elements.{All-from_get_or, All-map, All-weaker}
use Rattle.std.proofs.lemmas.Grind.{common_steps}
use Rattle.std.proofs.lemmas.List.Sums.{AllPass-from_list_all, list_all-from_AllPass, sum_by-le, sum_by_more_le}
use Rattle.std.proofs.lemmas.List.Sorted.{searchable_from_sorted}
use Rattle.std.specs.Cmp.{IsEquivalence}
use Rattle.std.specs.Cmp.Lexicographic.{pointwise, slice_cmp, texts_ties}
use Rattle.std.specs.Option.{IfSome}
use Rattle.std.specs.List.Sorted.{IsNonDecreasingBy, IsPartitionPoint, IsSortedBy}
use Rattle.std.specs.Ordering.{MatchOrdering, is_eq, ordering_index, ordering_reverse, ordering_then}
use Rattle.mq_command.specs.declared.totals.ReportedLogins.{ReportedLogins}
use Rattle.mq_command.specs.declared.totals.ReportedLogins.TheVariants as reported
use Rattle.mq_command.proofs.Words.{AreCompleted, FindsRow, Ok, next_login, subst₂, All, All-append, All-head, All-nil, All-tail, AreAsked, Bool, CompletesPart, IsAscendingAbove, IsLogin, IsRow, IsUnlisted, List, Lists, None, Option, ReportedExchange, Some, UsageRow, [], ap, arith, flat_map, get_or, false≢true, is_lt, is_there, length, length_push, list_all, map, names, nat_cmp, no_row, refl, row_at, rows_of, subst, suc, sum_by, sym, take, take_more, total, totals, zero, ℕ, ◌++◌, ◌&&◌, ◌+◌, ◌<◌, ◌∙◌, ◌∷◌, ◌≡◌, ◌≤◌}

-- ---- a row by its login

then_equal : (o p : Ordering) → ordering_then o p ≡ Equal → (o ≡ Equal) × (p ≡ Equal)
then_equal Less p same = cc
then_equal Equal p same = (refl, same)
then_equal Greater p same = cc

number_same : (x y : ℕ) → nat_cmp x y ≡ Equal → x ≡ y
number_same x y same = let P : Ordering → Type 0 = λ o. MatchOrdering o (x < y) (x ≡ y) (y < x) in subst P same (ranked x y (nat_cmp x y) refl)

-- two texts that the order doesn't tell apart are the same
pub text_same : (xs ys : List ℕ) → slice_cmp nat_cmp xs ys ≡ Equal → xs ≡ ys
text_same [] [] same = refl
text_same [] (y ∷ ys) same = cc
text_same (x ∷ xs) [] same = cc
text_same (x ∷ xs) (y ∷ ys) same =
    let (first, rest) = then_equal (nat_cmp x y) (slice_cmp nat_cmp xs ys) same in
    let e : x ≡ y = number_same x y first in
    let f : xs ≡ ys = text_same xs ys rest in
    cc

is_equal : (o : Ordering) → is_eq o ≡ true → o ≡ Equal
is_equal Less is = cc
is_equal Equal is = refl
is_equal Greater is = cc

adjacent : (after : List ℕ) (rows : List UsageRow) (k : ℕ) (d : UsageRow) → IsAscendingAbove after rows → k + 1 < length rows
    → slice_cmp nat_cmp (get_or rows k d).login (get_or rows (k + 1) d).login ≡ Less
adjacent after [] k d up few = absurd (omega (arith, few))
adjacent after (row ∷ []) k d up few = absurd (omega (arith, few))
adjacent after (row ∷ next ∷ rows) zero d up few = up.1.0
adjacent after (row ∷ next ∷ rows) (suc k) d up few =
    let e : suc k + 1 ≡ suc (k + 1) = omega arith in
    rw e (adjacent row.login (next ∷ rows) k d up.1 (omega (arith, few)))

not_less : (o p : Ordering) → o ≡ ordering_reverse p → p ≡ Less → is_lt o ≡ false
not_less o p is less = ap is_lt (is ∙ ap ordering_reverse less)

sorted : (rows : List UsageRow) → IsAscendingAbove [] rows → IsSortedBy (λ a b. is_lt (slice_cmp nat_cmp a.login b.login)) rows
sorted rows up k d from few =
    not_less _ _ (nat_list_cmp_total.antisymm (get_or rows (k + 1) d).login (get_or rows k d).login) (adjacent [] rows k d up few)

-- a login can be looked up in rows that ascend
pub searchable : (rows : List UsageRow) (login : List ℕ) → IsAscendingAbove [] rows → IsNonDecreasingBy (λ row. ordering_index (slice_cmp nat_cmp row.login login)) rows
searchable rows login up = searchable_from_sorted nat_list_cmp_total (λ (row : UsageRow). row.login) rows login (sorted rows up)

-- and where it isn't found, no row has it
pub unlisted : (rows : List UsageRow) (login : List ℕ) (place : ℕ) → IsPartitionPoint (λ row. slice_cmp nat_cmp row.login login ≡ Less) (λ row. slice_cmp nat_cmp row.login login ≡ Greater) rows place
    → IsUnlisted rows login
unlisted rows login place (below, above) k d few same =
    let tied : slice_cmp nat_cmp (get_or rows k d).login login ≡ Equal =
    subst (λ l. slice_cmp nat_cmp l login ≡ Equal) (sym same) (tied_itself nat_list_cmp_total login) in
    ⊎_elim (λ less. let e : Equal ≡ Less = sym tied ∙ below k d (omega arith) less in cc) (λ more. let e : Equal ≡ Greater = sym tied ∙ above k d more few in cc) (cases_lt k place)

-- ---- one server's row of each login

-- one login more
pub completed_more : (day : ℕ) (listed : List UsageRow) (start mid new : Option (List ReportedExchange)) (logins : List (List ℕ)) (i : ℕ) (login : List ℕ) (rows all : List UsageRow) (row : UsageRow)
    → i < length logins → login ≡ get_or logins i login → AreCompleted day listed start (take i logins) mid rows → FindsRow day listed login mid new (Ok row) → all ≡ rows ++ row ∷ []
    → AreCompleted day listed start (take (i + 1) logins) new all
completed_more day listed start mid new logins i login rows all row below here so_far found is =
    let front : take i logins ++ login ∷ [] ≡ take (i + 1) logins = sym (take_more logins i login below ∙ ap (λ l. take i logins ++ l ∷ []) (sym here)) in
    subst₂ (λ l r. AreCompleted day listed start l new r) front (sym is) (next_login (take i logins) login mid new rows row so_far found)

pub completed_all : (day : ℕ) (listed : List UsageRow) (start told : Option (List ReportedExchange)) (logins : List (List ℕ)) (i : ℕ) (rows : List UsageRow) → length logins ≤ i → AreCompleted day listed start (take i logins) told rows
    → AreCompleted day listed start logins told rows
completed_all day listed start told logins i rows few done = subst (λ l. AreCompleted day listed start l told rows) (take_all i logins few) done

-- ---- one link after another

-- the first so many links were asked, and the others weren't
pub record AreAskedSo (Came : ℕ → Option (List ReportedExchange) → Option (List ReportedExchange) → Option (List UsageRow) → Type 0)
    (old new : List (Option (List ReportedExchange))) (parts : List (Option (List UsageRow))) (count : ℕ) : Type 0 where
  pub links : length new ≡ length old
  pub counted : length parts ≡ count
  pub left : (k : ℕ) → count ≤ k → get_or new k None ≡ get_or old k None
  pub each : (k : ℕ) → k < count → Came k (get_or old k None) (get_or new k None) (get_or parts k None)

pub asked_none : (Came : ℕ → Option (List ReportedExchange) → Option (List ReportedExchange) → Option (List UsageRow) → Type 0)
    (old : List (Option (List ReportedExchange))) (parts : List (Option (List UsageRow))) → parts ≡ [] → AreAskedSo Came old old parts 0
asked_none Came old parts none = record {
  links = refl;
  counted = ap length none;
  left = λ k above. refl;
  each = λ k below. absurd (omega (arith, below));
}

get_or_before : (parts : List (Option (List UsageRow))) (part d : Option (List UsageRow)) (k : ℕ) → k < length parts → get_or (parts ++ part ∷ []) k d ≡ get_or parts k d
get_or_before parts part d k few = grind (arith, common_steps)

module _ (Came : ℕ → Option (List ReportedExchange) → Option (List ReportedExchange) → Option (List UsageRow) → Type 0)
    (old new : List (Option (List ReportedExchange))) (parts : List (Option (List UsageRow))) (count : ℕ) where
  pub asked_more : (told : Option (List ReportedExchange)) (part : Option (List UsageRow)) (all : List (Option (List UsageRow))) (now : List (Option (List ReportedExchange)))
      → count < length old → AreAskedSo Came old new parts count → Came count (get_or new count None) told part → all ≡ parts ++ part ∷ [] → now ≡ set new count told
      → AreAskedSo Came old now all (count + 1)
  asked_more told part all now few so came is set_now =
      let here : count < length new = omega (arith, few, so.links) in
      let at_part : get_or (parts ++ part ∷ []) count None ≡ part = get_or_push parts part None count so.counted in
      let at_told : get_or (set new count told) count None ≡ told = get_or-set_same new count told None here in
      let now_here : Came count (get_or old count None) (get_or (set new count told) count None) (get_or (parts ++ part ∷ []) count None) =
      rw (at_part, at_told) (subst (λ o. Came count o told part) (so.left count (omega arith)) came) in
      let before : (k : ℕ) → k < count → Came k (get_or old k None) (get_or (set new count told) k None) (get_or (parts ++ part ∷ []) k None) =
      λ k below. let other : k ≢ count = omega arith in
      rw (get_or-set_other new count k told None other, get_or_before parts part None k (omega (arith, so.counted))) (so.each k below) in
      subst (λ n. AreAskedSo Came old n all (count + 1)) (sym set_now) (subst (λ p. AreAskedSo Came old (set new count told) p (count + 1)) (sym is) (record {
        links = length-set new count told ∙ so.links;
        counted = length_push parts part ∙ ap (λ n. n + 1) so.counted;
        left = λ k above. let other : k ≢ count = omega arith in get_or-set_other new count k told None other ∙ so.left k (omega arith);
        each = below_more _ count before now_here;
      }))

  pub asked_all : count ≡ length old → AreAskedSo Came old new parts count → AreAsked Came old new parts
  asked_all whole so = record { links = so.links; counted = so.counted ∙ whole; each = λ k below. so.each k (omega (arith, below, whole)) }

-- one link's turn
pub turn : {L : Type 0} (told : L → Option (List ReportedExchange)) (Came : ℕ → Option (List ReportedExchange) → Option (List ReportedExchange) → Option (List UsageRow) → Type 0)
    (began links : List L) (parts all : List (Option (List UsageRow))) (i : ℕ) (element link : L) (part : Option (List UsageRow)) → i < length links → i < length began
    → AreAskedSo Came (map told began) (map told links) parts i → Came i (told (get_or links i element)) (told link) part → all ≡ parts ++ part ∷ []
    → AreAskedSo Came (map told began) (map told (set links i link)) all (i + 1)
turn told Came began links parts all i element link part here there so came is =
    let few : i < length (map told began) = omega (arith, there, length-map began told) in
    let now : Came i (get_or (map told links) i None) (told link) part = subst (λ o. Came i o (told link) part) (sym (get_or-map told links i element None here)) came in
    asked_more Came (map told began) (map told links) parts i (told link) part all (map told (set links i link)) few so now is (map-set told links i link)

pub asked_each : {L : Type 0} (told : L → Option (List ReportedExchange)) (Came : ℕ → Option (List ReportedExchange) → Option (List ReportedExchange) → Option (List UsageRow) → Type 0)
    (began links : List L) (parts : List (Option (List UsageRow))) (i : ℕ) → i ≡ length began → AreAskedSo Came (map told began) (map told links) parts i → AreAsked Came (map told began) (map told links) parts
asked_each told Came began links parts i whole so =
    asked_all Came (map told began) (map told links) parts i (whole ∙ sym (length-map began told)) so

-- what is listed is of each server
pub listed_counted : (logins : ReportedLogins) (day : ℕ) (old mid : List (Option (List ReportedExchange))) (listed : List (Option (List UsageRow))) (named : List (List ℕ)) → Lists logins day old mid listed named
    → length listed ≡ length mid
listed_counted (reported.One login) day old mid listed named (same, is, one) = ap length is ∙ length-replicate (length old) (Some []) ∙ sym (ap length same)
listed_counted (reported.Top count) day old mid listed named (asked, of) = asked.counted ∙ sym asked.links
listed_counted reported.All day old mid listed named (asked, of) = asked.counted ∙ sym asked.links

there_before : (day : ℕ) (logins : List (List ℕ)) (listed : Option (List UsageRow)) (old new : Option (List ReportedExchange)) (part : Option (List UsageRow)) → CompletesPart day logins listed old new part
    → is_there part ≡ true → is_there listed ≡ true
there_before day logins (Some rows) old new part came there = refl
there_before day logins None old new None came there = there
there_before day logins None old new (Some rows) came there = absurd came

-- a server that isn't left out in the end wasn't left out before
pub whole_listed : (day : ℕ) (logins : List (List ℕ)) (old new : List (Option (List ReportedExchange))) (listed parts : List (Option (List UsageRow))) → length listed ≡ length old
    → AreAsked (λ place. CompletesPart day logins (get_or listed place None)) old new parts → list_all is_there parts ≡ true → list_all is_there listed ≡ true
whole_listed day logins old new listed parts counted asked whole =
    list_all-from_AllPass is_there listed (All-from_get_or (λ part. is_there part ≡ true) listed None (λ k below.
    there_before day logins (get_or listed k None) (get_or old k None) (get_or new k None) (get_or parts k None) (asked.each k (omega (arith, below, counted)))
    (AllPass-from_list_all is_there parts whole k None (omega (arith, below, counted, asked.counted)))))

-- nothing is said where none is left out
if_there : (part : Option (List UsageRow)) (P : Type 0) → is_there part ≡ true → IfSome part (λ _. P) → P
if_there None P there is = absurd (false≢true there)
if_there (Some rows) P there is = is

both : (a b : Bool) → (a && b) ≡ true → (a ≡ true) × (b ≡ true)
both true true is = (refl, refl)
both true false is = cc
both false b is = cc

pub quiet_more : {E : Type 0} (parts : List (Option (List UsageRow))) (part : Option (List UsageRow)) (all : List (Option (List UsageRow))) (began before after : E) → all ≡ parts ++ part ∷ []
    → (list_all is_there parts ≡ true → before ≡ began) → IfSome part (λ _. after ≡ before) → list_all is_there all ≡ true → after ≡ began
quiet_more parts part all began before after is so_far now whole =
    let (first, rest) = both (list_all is_there parts) (list_all is_there (part ∷ [])) (sym (list_all-append is_there parts (part ∷ [])) ∙ ap (list_all is_there) (sym is) ∙ whole) in
    let (last, none) = both (is_there part) true rest in
    if_there part (after ≡ before) last now ∙ so_far first

-- what came of completing a part, in its place
pub came_at : (day : ℕ) (logins : List (List ℕ)) (listed : List (Option (List UsageRow))) (i : ℕ) (here : Option (List UsageRow)) (old new : Option (List ReportedExchange)) (part : Option (List UsageRow)) → i < length listed
    → here ≡ get_or listed i here → CompletesPart day logins here old new part → CompletesPart day logins (get_or listed i None) old new part
came_at day logins listed i here old new part below is came = subst (λ l. CompletesPart day logins l old new part) (get_or_read listed i here below is None) came

-- ---- sums

-- what a part has in a place is no more than one login may have
small : (amount : UsageRow → ℕ) (place : ℕ) → amount no_row ≡ 0 → ((row : UsageRow) → IsRow row → amount row ≤ 1000000) → (part : Option (List UsageRow)) → IfSome part (All IsRow)
    → IfSome part (λ rows. place < length rows) → amount (row_at place part) ≤ 1000000
small amount place none most None in_range few = omega (arith, none)
small amount place none most (Some rows) in_range few = most (get_or rows place no_row) (in_range place no_row few)

-- so a sum has a place
pub fits : (amount : UsageRow → ℕ) (place : ℕ) → amount no_row ≡ 0 → ((row : UsageRow) → IsRow row → amount row ≤ 1000000) → (parts : List (Option (List UsageRow))) (i : ℕ) (part : Option (List UsageRow))
    → length parts ≤ 4000 → All (λ part. IfSome part (All IsRow)) parts → All (λ part. IfSome part (λ rows. place < length rows)) parts → i < length parts
    → sum_by (λ part. amount (row_at place part)) (take i parts) + amount (row_at place (get_or parts i part)) ≤ 4000000000
fits amount place none most parts i part few in_range there below =
    let each : All (λ part. amount (row_at place part) ≤ 1000000) parts = λ k d in_parts. small amount place none most (get_or parts k d) (in_range k d in_parts) (there k d in_parts) in
    omega (arith, few, sum_by_more_le (λ part. amount (row_at place part)) parts i part below, sum_by-le (λ part. amount (row_at place part)) 1000000 parts each)

-- what is read of a part in a place, after the sum of the parts before it
pub adds : (amount : UsageRow → ℕ) (place : ℕ) → amount no_row ≡ 0 → ((row : UsageRow) → IsRow row → amount row ≤ 1000000) → (parts : List (Option (List UsageRow))) (i : ℕ) (part : Option (List UsageRow)) (rows slice : List UsageRow) (row : UsageRow) (sum : ℕ)
    → length parts ≤ 4000 → All (λ part. IfSome part (All IsRow)) parts → All (λ part. IfSome part (λ rows. place < length rows)) parts → i < length parts
    → part ≡ get_or parts i part → part ≡ Some rows → slice ≡ rows → row ≡ get_or slice place row → sum ≡ sum_by (λ part. amount (row_at place part)) (take i parts)
    → sum + amount row ≤ 4000000000
adds amount place none most parts i part rows slice row sum few in_range there below here some same read so_far =
    let inside : place < length rows = subst (λ p. IfSome p (λ rows. place < length rows)) (sym here ∙ some) (there i part below) in
    let at : row ≡ get_or rows place no_row = get_or_read rows place row inside (read ∙ ap (λ l. get_or l place row) same) no_row in
    let is : amount row ≡ amount (row_at place (get_or parts i part)) = ap amount at ∙ ap (λ p. amount (row_at place p)) (sym some ∙ here) in
    omega (arith, is, so_far, fits amount place none most parts i part few in_range there below)

totals_push : (parts : List (Option (List UsageRow))) (place : ℕ) (logins : List (List ℕ)) (login : List ℕ) → totals parts place (logins ++ login ∷ []) ≡ totals parts place logins ++ total parts (place + length logins) login ∷ []
totals_push parts place [] login = let e : place ≡ place + 0 = omega arith in ap (λ n. total parts n login ∷ []) e
totals_push parts place (first ∷ logins) login =
    let e : place + 1 + length logins ≡ place + suc (length logins) = omega arith in
    ap (λ l. total parts place first ∷ l) (totals_push parts (place + 1) logins login ∙ ap (λ n. totals parts (place + 1) logins ++ total parts n login ∷ []) e)

-- one login's sums more
pub totals_more : (parts : List (Option (List UsageRow))) (logins : List (List ℕ)) (i : ℕ) (login : List ℕ) → i < length logins → login ≡ get_or logins i login
    → totals parts 0 (take (i + 1) logins) ≡ totals parts 0 (take i logins) ++ total parts i login ∷ []
totals_more parts logins i login below here =
    let e : 0 + length (take i logins) ≡ i = omega (arith, length-take-le i logins (omega arith)) in
    ap (totals parts 0) (take_more logins i login below ∙ ap (λ l. take i logins ++ l ∷ []) (sym here)) ∙ totals_push parts 0 (take i logins) login ∙ ap (λ n. totals parts 0 (take i logins) ++ total parts n login ∷ []) e

-- ---- logins

each_row : (parts : List (Option (List UsageRow))) → All (λ part. IfSome part (All IsRow)) parts → All IsRow (flat_map rows_of parts)
each_row [] each = All-nil IsRow
each_row (None ∷ parts) each = each_row parts (All-tail (λ part. IfSome part (All IsRow)) None parts each)
each_row (Some rows ∷ parts) each =
    All-append IsRow rows (flat_map rows_of parts) (All-head (λ part. IfSome part (All IsRow)) (Some rows) parts each) (each_row parts (All-tail (λ part. IfSome part (All IsRow)) (Some rows) parts each))

-- the logins of rows in range
pub names_in_range : (parts : List (Option (List UsageRow))) → All (λ part. IfSome part (All IsRow)) parts → All IsLogin (names (flat_map rows_of parts))
names_in_range parts each =
    All-map IsLogin (λ (row : UsageRow). row.login) (flat_map rows_of parts) (All-weaker IsRow (λ row. IsLogin row.login) (λ row is. is.login) (flat_map rows_of parts) (each_row parts each))

-- ---- texts that are the same

pub texts_equal : IsEquivalence (pointwise nat_eq)
texts_equal = nat_list_eq_equiv

pub same_texts : (xs ys : List ℕ) → pointwise nat_eq xs ys ≡ true → xs ≡ ys
same_texts xs ys same = text_same xs ys (is_equal (slice_cmp nat_cmp xs ys) (sym (texts_ties xs ys) ∙ same))
