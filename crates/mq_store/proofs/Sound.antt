-- What tables mean, that a ledger that was just made is sound, and one that keeps the rows of what it means.
use Rattle.std.proofs.Common.{Bool, List, None, [], ap, arith, codes, false, filter_map, map, option_and_then, option_map, refl, slice_get, subst, sym, unwrap_or, ℕ, ◌∙◌, ◌∷◌, ◌≡◌}
use Rattle.mq_store.proofs.Words.{AnswerRecord, AreRows, AreUnnamed, Book, Database, HasLedger, IsAmount, IsLegalBook, IsMadeOver, IsMadeOverBy, IsZone, Request, State, Tables, Zone, answer_fields, build, column, cons_option, day_of, lacks_index, lacks_sequence, new_rows, request_at, retired_row, those}
use Rattle.sqlite_schema.specs.Names.{table_named}
use Rattle.mq_tables.specs.Answers.{blob_in, bodies_in, rows_named}
use Rattle.mq_ledger.specs.Arrivals.{floor}
use Rattle.mq_store.specs.Forgetting.{MakesBlank}
use Rattle.mq_store.specs.Opening.{made_with}
use Rattle.mq_store.specs.Taking.{HasBook, book_of}
use Rattle.mq_store.specs.Soundness.{requests_in, book_in, HasKept, IsSound, IsNew}

bodies_of : (answers : List AnswerRecord) → filter_map (λ row. blob_in (column row 5)) (map answer_fields answers) ≡ map (λ a. a.request) answers
bodies_of [] = refl
bodies_of (a ∷ more) = ap (λ bodies. a.request ∷ bodies) (bodies_of more)

rows_are : (db : Database) (t : Tables) → HasLedger db t → rows_named db (codes "answer") ≡ map answer_fields t.answers
rows_are db t l =
    let at : option_and_then (slice_get db.schema.tables) (table_named db.schema (codes "answer")) ≡ slice_get db.schema.tables l.tables.answer.at = ap (option_and_then (slice_get db.schema.tables)) l.tables.answer.named in
    ap (λ o. unwrap_or (option_map db.trees (option_map (λ t. t.tree) o)) []) (at ∙ l.tables.answer.there) ∙ l.holds.answers.rows

-- what the tables mean is what their answers mean
pub bodies_are : (db : Database) (t : Tables) → HasLedger db t → bodies_in db ≡ map (λ a. a.request) t.answers
bodies_are db t l = ap (filter_map (λ row. blob_in (column row 5))) (rows_are db t l) ∙ bodies_of t.answers

-- the requests that bodies spell are those that their rows spell
pub spelled_by : (answers : List AnswerRecord) → filter_map request_at (map (λ (a : AnswerRecord). a.request) answers) ≡ filter_map (λ (a : AnswerRecord). request_at a.request) answers
spelled_by [] = refl
spelled_by (a ∷ more) = ap (cons_option (request_at a.request)) (spelled_by more)

no_floor : (h : List ℕ) → retired_row [] h ≡ None
unfolding floor
no_floor h = refl

-- ---- what is sound

pub book_had : (zone : Zone) (default : ℕ) (s : State) → IsSound zone default s → HasBook (book_of zone default (book_in zone default s.now).history) s.now
book_had zone default s sound = record { legal = sound.legal; has = record { tables = sound.tables; holds = sound.holds; rows = sound.rows; current = sound.current } }

-- a store that keeps the rows of a book that it means is sound
sound_with : (b : Book) (s : State) → HasKept s → HasBook b s.now → book_in b.zone b.default s.now ≡ b → IsSound b.zone b.default s
sound_with b s kept has means = record {
  kept = kept;
  legal = subst IsLegalBook (sym means) has.legal;
  tables = has.has.tables;
  holds = has.has.holds;
  rows = subst (λ (x : Book). AreRows x has.has.tables) (sym means) has.has.rows;
  current = has.has.current;
}

-- that a book is what its rows mean, by the law that says so of tables
abbrev pub Means : Type 0
Means = (b : Book) (t : Tables) (db : Database) → IsLegalBook b → HasLedger db t → AreRows b t → book_in b.zone b.default db ≡ b

pub means_book : Means → (b : Book) (db : Database) → HasBook b db → book_in b.zone b.default db ≡ b
means_book meaning b db there = meaning b there.has.tables db there.legal there.has.holds there.has.rows

pub sound_book : Means → (b : Book) (s : State) → HasKept s → HasBook b s.now → IsSound b.zone b.default s
sound_book meaning b s kept has = sound_with b s kept has (means_book meaning b s.now has)

-- a store whose tables stay is as sound as before
pub sound_still : (zone : Zone) (default : ℕ) (old new : State) → IsSound zone default old → HasKept new → new.now ≡ old.now → IsSound zone default new
sound_still zone default old new sound kept now = record {
  kept = kept;
  legal = subst (λ db. IsLegalBook (book_in zone default db)) (sym now) sound.legal;
  tables = sound.tables;
  holds = subst (λ db. HasLedger db sound.tables) (sym now) sound.holds;
  rows = subst (λ db. AreRows (book_in zone default db) sound.tables) (sym now) sound.rows;
  current = sound.current;
}

-- ---- a new ledger

-- tables that were just made are the rows of the empty history
pub made_blank : (indexed : Bool) (zone : Zone) (default : ℕ) (old new : Database) → IsZone zone → IsAmount default → IsMadeOverBy indexed (made_with zone default) old new → MakesBlank zone default old new
made_blank indexed zone default old new is_zone amount made free = record {
  legal = record { zone = is_zone; default = amount; legal = record { range = λ k d low. absurd (omega (arith, low)); distinct = refl; built = refl } };
  has = record {
    tables = new_rows (made_with zone default);
    holds = (made.made free.counters).ledger free.unnamed;
    rows = record { setting = record { row = refl; version = refl }; answers = refl; transactions = λ t. refl; usage = λ l d. refl; limits = λ l d. refl; retired = λ h. sym (ap those (no_floor h)) };
    current = refl;
  };
}

pub made_new : (zone : Zone) (default : ℕ) (old new : State) → IsZone zone → IsAmount default → IsMadeOver (made_with zone default) old.now new.now → HasKept new → lacks_sequence old.now.schema ≡ false → AreUnnamed old.now.schema → IsNew zone default new
made_new zone default old new is_zone amount made kept counters unnamed =
    let has : HasBook (book_of zone default []) new.now = made_blank (lacks_index old.now.schema) zone default old.now new.now is_zone amount made (record { counters = counters; unnamed = unnamed }) in
    let none : requests_in new.now ≡ [] = ap (filter_map request_at) (bodies_are new.now has.has.tables has.has.holds ∙ ap (map (λ (a : AnswerRecord). a.request)) has.has.rows.answers) in
    let means : book_in zone default new.now ≡ book_of zone default [] = ap (λ (rs : List Request). record { zone = zone; default = default; history = build (day_of zone) default rs }) none in
    record { sound = sound_with (book_of zone default []) new kept has means; blank = none }

-- it has the rows of the empty history
pub new_book : (zone : Zone) (default : ℕ) (s : State) → IsNew zone default s → HasBook (book_of zone default []) s.now
new_book zone default s is = subst (λ (rs : List Request). HasBook (book_of zone default (build (day_of zone) default rs)) s.now) is.blank (book_had zone default s is.sound)
