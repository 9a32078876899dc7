-- What the queries of the answers by number, by runs and by place answer of the records.
use Rattle.std.proofs.Common.{pos, ◌≡◌, ◌&&◌, ◌==◌, ℕ, List, [], ◌∷◌, map, filter, length, codes, Bool, true, Option, Some, None, refl, sym, ap, subst, ◌∙◌}
use Rattle.mq_tables.proofs.Words.{AllByRecursion, AnswerRecord, Has, Int, IsPermutation, Row, all-permutation, and-true, and_parts, column, everything, length_permutation, listing_schema, same_id, same_name, same_text, slice_eq-Decides, unsigned_Decides}
use Rattle.std.specs.Prelude.{nat_le}
use Rattle.mq_request.specs.declared.message.Id.{Id}
use Rattle.mq_rows.specs.declared.plan.Runs.{Runs}
use Rattle.mq_rows.specs.Plan.{is_among}
use Rattle.mq_tables.specs.declared.entry.Bodies.{Bodies}
use Rattle.mq_tables.specs.Entries.{IsFirstBodies, IsAnswerAt}
use Rattle.mq_tables.specs.Ledger.{HasLedger}
use Rattle.mq_tables.specs.Lent.{id_key, bodies_row, IsAnswerShown}
use Rattle.mq_tables.specs.Retiring.{runs_params, place_row}
use Rattle.mq_tables.specs.Tables.{answer_table}
use Rattle.mq_tables.proofs.Finds.{Following, follows, int_same, blob_same, empty_mapped, shown_of}
use Rattle.mq_tables.proofs.SelectShape.{IsSelect, unordered}
use Rattle.mq_tables.proofs.Selected.{Finding, finds_answers}
use Rattle.mq_tables.proofs.TermShape.{field, against}
use Rattle.mq_tables.proofs.TermShape.Relation.{Same, AtMost, AtLeast}
use Rattle.mq_tables.proofs.Tests.{text_test, nat_test, from_test, until_test}
use Rattle.mq_rows.proofs.Lists.{none_pass}

-- ---- by its number

abbrev pub answer_text : List ℕ
answer_text = codes "SELECT n, request, reply FROM answer WHERE host = ?1 AND run = ?2 AND seq = ?3"

pub answer_select : IsSelect answer_text (unordered answer_table
    (field (codes "n") 0 ∷ field (codes "request") 4 ∷ field (codes "reply") 5 ∷ [])
    (against (field (codes "host") 1) Same 1 ∷ against (field (codes "run") 2) Same 2 ∷ against (field (codes "seq") 3) Same 3 ∷ []))
unfolding everything listing_schema same_name
answer_select = record { parsed = refl; statement = refl; timeless = refl; unlisted = refl; known = λ t. refl; short = refl; accepted = λ s t low found. rw (low, found) }

module _ (id : Id) where
  abbrev is_of : AnswerRecord → Bool
  is_of a = same_id id a.id

  pub answer_found : Finding answer_text (id_key id) HasLedger (λ t rows. IsPermutation (map bodies_row (filter is_of t.answers)) rows)
  answer_found =
      finds_answers answer_select (id_key id) is_of
      (λ r. rw (text_test r.id.host id.host, nat_test r.id.run id.run, nat_test r.id.number id.number) (ap (λ b. same_text id.host r.id.host && b) (ap (λ b. (id.run == r.id.run) && b) (and-true (id.number == r.id.number)))))

  keyed_so : (a : AnswerRecord) → is_of a ≡ true → (id.host ≡ a.id.host) × (id.run ≡ a.id.run) × (id.number ≡ a.id.number)
  keyed_so a hit =
      let both = and_parts _ _ hit in
      let rest = and_parts _ _ both.1 in
      ((slice_eq-Decides unsigned_Decides id.host a.id.host _ refl).0 both.0, (unsigned_Decides id.run a.id.run).0 rest.0, (unsigned_Decides id.number a.id.number).0 rest.1)

  pub is_it : (row : Row) (u v : AnswerRecord) → IsAnswerShown id row u → is_of v ≡ true → row ≡ bodies_row v → v ≡ u
  is_it row u v shown hit is =
      let key = keyed_so v hit in
      let n : v.n ≡ u.n = int_same (sym (ap (λ r. column r 0) is) ∙ shown.n) in
      let request : v.request ≡ u.request = blob_same (sym (ap (λ r. column r 1) is) ∙ shown.request) in
      let reply : v.reply ≡ u.reply = blob_same (sym (ap (λ r. column r 2) is) ∙ shown.reply) in
      let same : v.id ≡ u.id = (λ i. record { host = sym key.0 i; run = sym key.1 i; number = sym key.2 i }) ∙ sym shown.id in
      λ i. record { n = n i; id = same i; request = request i; reply = reply i }

-- ---- the places of those of runs

abbrev pub places_text : List ℕ
places_text = codes "SELECT n FROM answer WHERE host = ?1 AND run >= ?2 AND run <= ?3"

pub places_select : IsSelect places_text (unordered answer_table
    (field (codes "n") 0 ∷ [])
    (against (field (codes "host") 1) Same 1 ∷ against (field (codes "run") 2) AtLeast 2 ∷ against (field (codes "run") 2) AtMost 3 ∷ []))
unfolding everything listing_schema same_name
places_select = record { parsed = refl; statement = refl; timeless = refl; unlisted = refl; known = λ t. refl; short = refl; accepted = λ s t low found. rw (low, found) }

module _ (runs : Runs) where
  abbrev among : AnswerRecord → Bool
  among a = is_among runs a.id.host a.id.run

  pub places_found : Finding places_text (runs_params runs) HasLedger (λ t rows. IsPermutation (map place_row (filter among t.answers)) rows)
  places_found =
      finds_answers places_select (runs_params runs) among
      (λ r. rw (text_test r.id.host runs.host, from_test r.id.run runs.from, until_test r.id.run runs.to) (ap (λ b. same_text runs.host r.id.host && b) (ap (λ b. nat_le runs.from r.id.run && b) (and-true (nat_le r.id.run runs.to)))))

-- ---- by its place

abbrev pub entry_text : List ℕ
entry_text = codes "SELECT n, request, reply FROM answer WHERE n = ?1"

pub entry_select : IsSelect entry_text (unordered answer_table
    (field (codes "n") 0 ∷ field (codes "request") 4 ∷ field (codes "reply") 5 ∷ [])
    (against (field (codes "n") 0) Same 1 ∷ []))
unfolding everything listing_schema same_name
entry_select = record { parsed = refl; statement = refl; timeless = refl; unlisted = refl; known = λ t. refl; short = refl; accepted = λ s t low found. rw (low, found) }

module _ (n : ℕ) where
  abbrev pub key : Row
  key = Int (pos n) ∷ []

  pub entry_found : Finding entry_text key HasLedger (λ t rows. IsPermutation (map bodies_row (filter (λ a. n == a.n) t.answers)) rows)
  entry_found =
      finds_answers entry_select key (λ a. n == a.n)
      (λ r. rw (nat_test r.n n) (and-true (n == r.n)))

  entry_first : (all : List AnswerRecord) (rows : List Row) (found : Option Bodies) → IsPermutation (map bodies_row (filter (λ a. n == a.n) all)) rows → IsFirstBodies rows found → IsAnswerAt n all found
  entry_first all rows None same none = none_pass (λ a. n == a.n) all (empty_mapped bodies_row _ (sym (length_permutation _ _ same) ∙ ap length none))
  entry_first all rows (Some u) same (row, more, is, (request, reply)) =
      let shows = all-permutation _ _ _ same (shown_of bodies_row (λ a. n == a.n) all) in
      let head : (v : AnswerRecord) × (Has all v × ((n == v.n) ≡ true)) × (row ≡ bodies_row v) = (subst (AllByRecursion (λ r. (v : AnswerRecord) × (Has all v × ((n == v.n) ≡ true)) × (r ≡ bodies_row v))) is shows).0 in
      record {
        answer = head.0;
        among = head.1.0;
        place = sym ((unsigned_Decides n head.0.n).0 head.1.1);
        request = blob_same (sym (ap (λ r. column r 1) head.2) ∙ request);
        reply = blob_same (sym (ap (λ r. column r 2) head.2) ∙ reply);
      }

  pub entry_after : Following (λ t rows. IsPermutation (map bodies_row (filter (λ a. n == a.n) t.answers)) rows) IsFirstBodies (λ t. IsAnswerAt n t.answers)
  entry_after = follows _ _ _ (λ t. entry_first t.answers)
