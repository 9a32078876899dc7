-- The names of a table's entries, one entry at a time.
use Rattle.std.proofs.Common.{◌≡◌, ℕ, true, false, List, [], ◌∷◌, Option, Some, String, Global, Ordering, Less, Equal, Greater, string_bytes, nat_cmp, is_eq, refl, sym, ap, subst, ◌∙◌, ◌⊎◌, inl, inr}
use Rattle.std.specs.Prelude.{is_some}
use Rattle.std.specs.Cmp.{tied_itself}
use Rattle.std.specs.Cmp.Lexicographic.{slice_cmp}
use Rattle.std.specs.List.{AllByRecursion}
use Rattle.std.specs.List.Sorted.{IsStrictlySortedBy}
use Rattle.std.specs.Map.{keys_of}
use Rattle.std.specs.Ordering.{match_ordering, is_le}
use Rattle.std.specs.String.{string_cmp}
use Rattle.std.proofs.lemmas.Bool.{false≢true}
use Rattle.std.proofs.lemmas.Cmp.{nat_list_cmp_total}
use Rattle.std.proofs.lemmas.Map.Keys.{sorted_head, sorted_tail}
use Rattle.std.proofs.lemmas.Map.Text.{is_eq-slice_cmp}
use Rattle.std.proofs.lemmas.Slice.Eq.{bytes_eq-Decides}
use Rattle.toml.specs.Data.{Data, Members, member, get_member}
use Rattle.toml.specs.View.{view, members_view}
use Rattle.toml.specs.declared.value.Value.{Value}
use Rattle.mq_settings.specs.declared.settings.key.Key.{Key}
use Rattle.mq_settings.specs.Keys.{is_known, IsLeastUnknown, HasOnly}

abbrev pub Entry : Type 0
Entry = String Global × Value

same_name : (k l : List ℕ) → slice_cmp nat_cmp k l ≡ Equal → k ≡ l
same_name k l h = (bytes_eq-Decides k l).0 (sym (is_eq-slice_cmp k l) ∙ ap is_eq h)

-- an entry's own name is found
present_first : (k : List ℕ) (d : Data) (ms : Members) → is_some (get_member k (member k d ms)) ≡ true
present_first k d ms = rw (tied_itself nat_list_cmp_total k) refl

present_more_at : (o : Ordering) (found : Option Data) (d : Data) → is_some found ≡ true → is_some (match_ordering o found (Some d) found) ≡ true
present_more_at Less found d h = h
present_more_at Equal found d h = refl
present_more_at Greater found d h = h

-- what is found later is found
present_more : (name k : List ℕ) (d : Data) (ms : Members) → is_some (get_member name ms) ≡ true → is_some (get_member name (member k d ms)) ≡ true
present_more name k d ms h = present_more_at (slice_cmp nat_cmp name k) (get_member name ms) d h

found_at : (o : Ordering) (name k : List ℕ) (found : Option Data) (d : Data) → slice_cmp nat_cmp name k ≡ o → is_some (match_ordering o found (Some d) found) ≡ true
    → (name ≡ k) ⊎ (is_some found ≡ true)
found_at Less name k found d e h = inr h
found_at Equal name k found d e h = inl (same_name name k e)
found_at Greater name k found d e h = inr h

-- a name that is found is the first entry's, or is found later
pub found_cases : (name k : List ℕ) (d : Data) (ms : Members) → is_some (get_member name (member k d ms)) ≡ true → (name ≡ k) ⊎ (is_some (get_member name ms) ≡ true)
found_cases name k d ms h = found_at (slice_cmp nat_cmp name k) name k (get_member name ms) d refl h

-- a name that comes before all entries comes before each that is found
before_found : (k : String Global) (es : List Entry) → AllByRecursion (λ y. string_cmp k y ≡ Less) (keys_of es)
    → (name : List ℕ) → is_some (get_member name (members_view es)) ≡ true → is_le (slice_cmp nat_cmp (string_bytes k) name) ≡ true
before_found k [] below name h = absurd (false≢true h)
before_found k (e ∷ es) below name h =
    elim (found_cases name (string_bytes e.0) (view e.1) (members_view es) h) [
      | inl same ↦ ap (λ n. is_le (slice_cmp nat_cmp (string_bytes k) n)) same ∙ ap is_le below.0
      | inr later ↦ before_found k es below.1 name later
    ]

-- ---- the names so far are keys, of which these are the entries left
pub record IsSearched (keys : List Key) (table : List Entry) (left : List (String Global)) : Type 0 where
  pub rest : List Entry
  pub names : left ≡ keys_of rest
  pub sorted : IsStrictlySortedBy string_cmp (keys_of rest)
  pub only : HasOnly keys (members_view rest) → HasOnly keys (members_view table)
  pub least : (name : List ℕ) → IsLeastUnknown keys (members_view rest) name → IsLeastUnknown keys (members_view table) name

pub searched_none : (keys : List Key) (table : List Entry) (left : List (String Global)) → left ≡ keys_of table → IsStrictlySortedBy string_cmp (keys_of table) → IsSearched keys table left
searched_none keys table left names sorted = record { rest = table; names = names; sorted = sorted; only = λ h. h; least = λ name h. h }

-- a key is one more of them
only_more : (keys : List Key) (k : List ℕ) (d : Data) (ms : Members) → is_known keys k ≡ true → HasOnly keys ms → HasOnly keys (member k d ms)
only_more keys k d ms known only name h =
    elim (found_cases name k d ms h) [
      | inl same ↦ ap (is_known keys) same ∙ known
      | inr later ↦ only name later
    ]

least_more : (keys : List Key) (k : List ℕ) (d : Data) (ms : Members) → is_known keys k ≡ true → (name : List ℕ) → IsLeastUnknown keys ms name → IsLeastUnknown keys (member k d ms) name
least_more keys k d ms known name least = record {
  itself = record { present = present_more name k d ms least.itself.present; unknown = least.itself.unknown };
  least = λ other h.
      elim (found_cases other k d ms h.present) [
        | inl same ↦ absurd (false≢true (sym h.unknown ∙ ap (is_known keys) same ∙ known))
        | inr later ↦ least.least other (record { present = later; unknown = h.unknown })
      ];
}

pub searched_more : (keys : List Key) (table : List Entry) (left left' : List (String Global)) (name : String Global) → left ≡ name ∷ left' → is_known keys (string_bytes name) ≡ true
    → IsSearched keys table left → IsSearched keys table left'
searched_more keys table left left' name e known s = go s.rest s.names s.sorted s.only s.least
  where
    go : (rest : List Entry) → left ≡ keys_of rest → IsStrictlySortedBy string_cmp (keys_of rest) → (HasOnly keys (members_view rest) → HasOnly keys (members_view table))
        → ((n : List ℕ) → IsLeastUnknown keys (members_view rest) n → IsLeastUnknown keys (members_view table) n) → IsSearched keys table left'
    go [] names sorted only least = let both : name ∷ left' ≡ [] = sym e ∙ names in cc
    go (f ∷ fs) names sorted only least =
        let both : name ∷ left' ≡ f.0 ∷ keys_of fs = sym e ∙ names in
        let first : name ≡ f.0 = cc in
        let known_first : is_known keys (string_bytes f.0) ≡ true = ap (λ n. is_known keys (string_bytes n)) (sym first) ∙ known in
        record {
          rest = fs;
          names = cc;
          sorted = sorted_tail string_cmp f.0 (keys_of fs) sorted;
          only = λ h. only (only_more keys (string_bytes f.0) (view f.1) (members_view fs) known_first h);
          least = λ n h. least n (least_more keys (string_bytes f.0) (view f.1) (members_view fs) known_first n h);
        }

-- a name that is no key ends the search
first_least : (keys : List Key) (f : Entry) (fs : List Entry) → IsStrictlySortedBy string_cmp (keys_of (f ∷ fs)) → is_known keys (string_bytes f.0) ≡ false → IsLeastUnknown keys (members_view (f ∷ fs)) (string_bytes f.0)
first_least keys f fs sorted unknown = record {
  itself = record { present = present_first (string_bytes f.0) (view f.1) (members_view fs); unknown = unknown };
  least = λ other h.
      elim (found_cases other (string_bytes f.0) (view f.1) (members_view fs) h.present) [
        | inl same ↦ ap (λ n. is_le (slice_cmp nat_cmp (string_bytes f.0) n)) same ∙ ap is_le (tied_itself nat_list_cmp_total (string_bytes f.0))
        | inr later ↦ before_found f.0 fs (sorted_head string_cmp f.0 (keys_of fs) sorted) other later
      ];
}

pub searched_found : (keys : List Key) (table : List Entry) (left left' : List (String Global)) (name : String Global) → left ≡ name ∷ left' → is_known keys (string_bytes name) ≡ false
    → IsSearched keys table left → IsLeastUnknown keys (members_view table) (string_bytes name)
searched_found keys table left left' name e unknown s = go s.rest s.names s.sorted s.least
  where
    go : (rest : List Entry) → left ≡ keys_of rest → IsStrictlySortedBy string_cmp (keys_of rest)
        → ((n : List ℕ) → IsLeastUnknown keys (members_view rest) n → IsLeastUnknown keys (members_view table) n) → IsLeastUnknown keys (members_view table) (string_bytes name)
    go [] names sorted least = let both : name ∷ left' ≡ [] = sym e ∙ names in cc
    go (f ∷ fs) names sorted least =
        let both : name ∷ left' ≡ f.0 ∷ keys_of fs = sym e ∙ names in
        let first : f.0 ≡ name = cc in
        let unknown_first : is_known keys (string_bytes f.0) ≡ false = ap (λ n. is_known keys (string_bytes n)) first ∙ unknown in
        subst (λ n. IsLeastUnknown keys (members_view table) (string_bytes n)) first (least (string_bytes f.0) (first_least keys f fs sorted unknown_first))

-- no name is left
pub searched_all : (keys : List Key) (table : List Entry) (left : List (String Global)) → left ≡ [] → IsSearched keys table left → HasOnly keys (members_view table)
searched_all keys table left e s = go s.rest s.names s.only
  where
    go : (rest : List Entry) → left ≡ keys_of rest → (HasOnly keys (members_view rest) → HasOnly keys (members_view table)) → HasOnly keys (members_view table)
    go [] names only = only (λ name h. absurd (false≢true h))
    go (f ∷ fs) names only = let both : [] ≡ f.0 ∷ keys_of fs = sym e ∙ names in cc
