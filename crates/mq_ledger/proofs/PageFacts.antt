-- A page is the first hundred logins, and nothing else is.
use Rattle.mq_lemmas.proofs.Lists.{in_contains}
use Rattle.mq_ledger.proofs.Words.{All, All-from_recursion, AllByRecursion, Bool, Contains, Entry, In, IsAscending, List, None, Option, Some, [], all_at, all_of, all_push, ap, arith, below, clash, find, has_reserve, inl, inr, is_login, is_some, length, length-append, login_on, logins_above}
use Rattle.mq_ledger.proofs.Words.{logins_on, option_cases, page, recursion_from_All, refl, subst, suc, sym, take, text_is, text_itself, true, zero, ℕ, ◌++◌, ◌∙◌, ◌∷◌, ◌≡◌, ◌≤◌, ◌⊎◌}
use Rattle.std.proofs.lemmas.List.{length-take}
use Rattle.std.proofs.lemmas.List.Elements.{All-contains, All-contains_itself, All-take}
use Rattle.mq_ledger.specs.Page.{IsLoginPage}
use Rattle.mq_ledger.proofs.Basics.{in_filter_map, filter_map_in, found, any_found, any_in}
use Rattle.mq_ledger.proofs.Pages.{below_trans, not_below_itself, same_ascending, above_ascending, IsAbove, above_in, in_above}

-- Members by place.

all_in : (ls : List (List ℕ)) → All (λ m. In m ls) ls
all_in ls = All-from_recursion (λ m. In m ls) ls (all_of (λ m. In m ls) ls (λ m i. i))

contains_in : (ls : List (List ℕ)) (l : List ℕ) → Contains ls l → In l ls
contains_in ls l there = All-contains (λ m. In m ls) ls l (all_in ls) there

-- The front of ascending logins.

in_take : (n : ℕ) (ls : List (List ℕ)) (l : List ℕ) → In l (take n ls) → In l ls
in_take n ls l i = all_at (λ m. In m ls) (take n ls) l (recursion_from_All (λ m. In m ls) (take n ls) (All-take (λ m. In m ls) n ls (all_in ls))) i

take_ascending : (n : ℕ) (ls : List (List ℕ)) → IsAscending ls → IsAscending (take n ls)
take_ascending zero ls up = tt
take_ascending (suc n) [] up = up
take_ascending (suc n) (x ∷ ls) up = (all_of (λ m. below x m ≡ true) (take n ls) (λ m i. all_at (λ m. below x m ≡ true) ls m up.0 (in_take n ls m i)), take_ascending n ls up.1)

-- a login is in the prefix, or after all of a full one
abbrev IsPlaced : ℕ → List (List ℕ) → List ℕ → Type 0
IsPlaced n front l = In l front ⊎ ((length front ≡ n) × AllByRecursion (λ m. below m l ≡ true) front)

placed_more : (n : ℕ) (x l : List ℕ) (front : List (List ℕ)) → below x l ≡ true → IsPlaced n front l → IsPlaced (suc n) (x ∷ front) l
placed_more n x l front h (inl i) = inl (inr i)
placed_more n x l front h (inr p) = inr (omega (arith, p.0), (h, p.1))

placed : (n : ℕ) (ls : List (List ℕ)) (l : List ℕ) → IsAscending ls → In l ls → IsPlaced n (take n ls) l
placed zero ls l up i = inr (refl, tt)
placed (suc n) [] l up i = absurd i
placed (suc n) (x ∷ ls) l up (inl e) = inl (inl e)
placed (suc n) (x ∷ ls) l up (inr i) = placed_more n x l (take n ls) (all_at (λ m. below x m ≡ true) ls l up.0 i) (placed n ls l up.1 i)

-- A login with a granted reserve.

is_login_so : (l : List ℕ) (o : Option (List ℕ)) → is_login l o ≡ true → o ≡ Some l
is_login_so l None h = cc
is_login_so l (Some m) h = ap Some (sym (text_is l m h))

pub reserve_in : (day : ℕ → ℕ) (H : List Entry) (d : ℕ) (l : List ℕ) → has_reserve day H d l ≡ true → In l (logins_on day H d)
reserve_in day H d l h =
    let p : Entry → Bool = λ e. is_login l (login_on day d e.request e.reply) in
    elim (option_cases (find p H)) [
      | inl none ↦ absurd (clash (has_reserve day H d l) h (any_found p H ∙ ap is_some none))
      | inr e ↦ (let f = found p H e.0 e.1 in in_filter_map (λ e. login_on day d e.request e.reply) H e.0 l f.0 (is_login_so l (login_on day d e.0.request e.0.reply) f.1))
    ]

in_reserve : (day : ℕ → ℕ) (H : List Entry) (d : ℕ) (l : List ℕ) → In l (logins_on day H d) → has_reserve day H d l ≡ true
in_reserve day H d l i =
    let m = filter_map_in (λ (e : Entry). login_on day d e.request e.reply) H l i in
    any_in (λ e. is_login l (login_on day d e.request e.reply)) H m.source m.among (ap (is_login l) m.gives ∙ text_itself l)

-- The page.

pub in_page : (day : ℕ → ℕ) (H : List Entry) (d : ℕ) (after l : List ℕ) → In l (page day H d after) → IsAbove day H d after l
unfolding page
in_page day H d after l i = in_above day H d after l (in_take 100 (logins_above day H d after) l i)

pub page_few : (day : ℕ → ℕ) (H : List Entry) (d : ℕ) (after : List ℕ) → length (page day H d after) ≤ 100
unfolding page
page_few day H d after = omega (arith, length-take 100 (logins_above day H d after))

page_ascending : (day : ℕ → ℕ) (H : List Entry) (d : ℕ) (after : List ℕ) → IsAscending (page day H d after)
unfolding page
page_ascending day H d after = take_ascending 100 (logins_above day H d after) (above_ascending day H d after)

page_placed : (day : ℕ → ℕ) (H : List Entry) (d : ℕ) (after l : List ℕ) → IsAbove day H d after l → IsPlaced 100 (page day H d after) l
unfolding page
page_placed day H d after l h = placed 100 (logins_above day H d after) l (above_ascending day H d after) (above_in day H d after l h)

pub page_is : (day : ℕ → ℕ) (H : List Entry) (d : ℕ) (after : List ℕ) → IsLoginPage day H d after (page day H d after)
page_is day H d after =
    let ls : List (List ℕ) = page day H d after in
    record {
      ascending = page_ascending day H d after;
      above = All-from_recursion (λ l. below after l ≡ true) ls (all_of (λ l. below after l ≡ true) ls (λ l i. (in_page day H d after l i).above));
      there = All-from_recursion (λ l. has_reserve day H d l ≡ true) ls (all_of (λ l. has_reserve day H d l ≡ true) ls (λ l i. in_reserve day H d l (in_page day H d after l i).there));
      few = page_few day H d after;
      first = λ l above there. elim (page_placed day H d after l (record { above = above; there = reserve_in day H d l there })) [
        | inl i ↦ inl (in_contains ls l i)
        | inr p ↦ inr (p.0, All-from_recursion (λ m. below m l ≡ true) ls p.1)
      ];
    }

-- Nothing else is a page.

-- ascending logins among ascending ones are no more of them
part_le : (xs zs : List (List ℕ)) → IsAscending xs → IsAscending zs → ((z : List ℕ) → In z zs → In z xs) → length zs ≤ length xs
part_le xs [] up up' h = omega arith
part_le [] (z ∷ zs) up up' h = absurd (h z (inl refl))
part_le (x ∷ xs) (z ∷ zs) up up' h =
    let behind : (w : List ℕ) → In w zs → In w xs = λ w i. elim (h w (inr i)) [
      | inr j ↦ j
      | inl e ↦ absurd (before_first w e i (h z (inl refl)))
    ] in
    omega (arith, part_le xs zs up.1 up'.1 behind)
  where
    -- x isn't after z, which is x or after it
    before_first : (w : List ℕ) → x ≡ w → In w zs → (x ≡ z) ⊎ In z xs → ⊥
    before_first w e i (inl same) = not_below_itself x (let P : List ℕ → Type 0 = λ v. below v x ≡ true in subst P (sym same) (let Q : List ℕ → Type 0 = λ v. below z v ≡ true in subst Q (sym e) (all_at (λ m. below z m ≡ true) zs w up'.0 i)))
    before_first w e i (inr j) = not_below_itself x (below_trans x z x (all_at (λ m. below x m ≡ true) xs z up.0 j) (let Q : List ℕ → Type 0 = λ v. below z v ≡ true in subst Q (sym e) (all_at (λ m. below z m ≡ true) zs w up'.0 i)))

push_ascending : (ms : List (List ℕ)) (l : List ℕ) → IsAscending ms → AllByRecursion (λ m. below m l ≡ true) ms → IsAscending (ms ++ l ∷ [])
push_ascending [] l up all = (tt, tt)
push_ascending (m ∷ ms) l up all = (all_push (λ x. below m x ≡ true) ms l up.0 all.0, push_ascending ms l up.1 all.1)

-- each login of a page is on every other page of that day and login
page_part : (day : ℕ → ℕ) (H : List Entry) (d : ℕ) (after : List ℕ) (xs ys : List (List ℕ)) → IsLoginPage day H d after xs → IsLoginPage day H d after ys → (x : List ℕ) → In x xs → In x ys
page_part day H d after xs ys p q x i =
    let all_above = recursion_from_All (λ l. below after l ≡ true) in
    let all_there = recursion_from_All (λ l. has_reserve day H d l ≡ true) in
    elim (q.first x (all_at (λ l. below after l ≡ true) xs x (all_above xs p.above) i) (all_at (λ l. has_reserve day H d l ≡ true) xs x (all_there xs p.there) i)) [
      | inl c ↦ contains_in ys x c
      | inr full ↦ (let behind : AllByRecursion (λ m. below m x ≡ true) ys = recursion_from_All (λ m. below m x ≡ true) ys full.1 in
          let among : (y : List ℕ) → In y ys → In y xs = λ y j.
          elim (p.first y (all_at (λ l. below after l ≡ true) ys y (all_above ys q.above) j) (all_at (λ l. has_reserve day H d l ≡ true) ys y (all_there ys q.there) j)) [
            | inl c ↦ contains_in xs y c
            | inr full' ↦ absurd (not_below_itself x (below_trans x y x
                (all_at (λ m. below m y ≡ true) xs x (recursion_from_All (λ m. below m y ≡ true) xs full'.1) i)
                (all_at (λ m. below m x ≡ true) ys y behind j)))
          ] in
          let more : length (ys ++ x ∷ []) ≤ length xs = part_le xs (ys ++ x ∷ []) p.ascending (push_ascending ys x q.ascending behind) (λ z k. all_at (λ w. In w xs) (ys ++ x ∷ []) z (all_push (λ w. In w xs) ys x (all_of (λ w. In w xs) ys among) i) k) in
          absurd (omega (arith, more, length-append ys (x ∷ []), p.few, full.0)))
    ]

pub is_page : (day : ℕ → ℕ) (H : List Entry) (d : ℕ) (after : List ℕ) (ls : List (List ℕ)) → IsLoginPage day H d after ls → ls ≡ page day H d after
is_page day H d after ls p =
    let q = page_is day H d after in
    same_ascending ls (page day H d after) p.ascending q.ascending (page_part day H d after ls (page day H d after) p q) (page_part day H d after (page day H d after) ls q p)
