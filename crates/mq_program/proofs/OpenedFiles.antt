-- What a connection that was opened over files shows, and what a ledger in it begins with.
use Rattle.mq_store.proofs.Sound.{sound_still}
use Rattle.std.proofs.Common.{arith, ◌≡◌, ℕ, [], length, Result, sym, ap, subst, ◌∙◌, inl, inr}
use Rattle.std.specs.Prelude.{false}
use Rattle.sqlite_trees.specs.Objects.{catalog_tree}
use Rattle.sqlite_trees.specs.Tree.{Trees}
use Rattle.sqlite.specs.Does.{lacks_sequence}
use Rattle.sqlite.specs.Effect.{Database, IsDatabase}
use Rattle.sqlite.specs.Files.{AreFoundIn, HoldsDatabase}
use Rattle.sqlite.specs.Recovery.{Image}
use Rattle.sqlite.specs.Start.{FindsIn}
use Rattle.sqlite.specs.State.{State, IsLive, Opens}
use Rattle.mq_ledger.specs.declared.zone.Zone.{Zone}
use Rattle.mq_ledger.specs.Answer.{build}
use Rattle.mq_ledger.specs.Day.{day_of}
use Rattle.mq_ledger.specs.Legal.{Book, IsLegalBook}
use Rattle.mq_connections.specs.Asking.{out}
use Rattle.mq_connections.specs.Gained.{Callers}
use Rattle.mq_connections.specs.Wires.{Wire}
use Rattle.mq_rows.specs.Tables.{AreRows}
use Rattle.mq_tables.specs.Ledger.{HasLedger}
use Rattle.mq_tables.specs.Making.{AreUnnamed}
use Rattle.mq_store.specs.Forgetting.{IsFree}
use Rattle.mq_store.specs.Soundness.{book_in, HasKept, HasStored, IsNew, IsSound, MeansBook}
use Rattle.mq_store.specs.Taking.{book_of}
use Rattle.mq_rows.specs.declared.audited.Audit.TheVariants.{Sound}
use Rattle.mq_store.specs.Auditing.{IsAuditIn}
use Rattle.mq_program.specs.declared.fault.ProgramFault.{ProgramFault}
use Rattle.mq_program.specs.Opened.{AreCountsIn, MeansFile, IsMadeIn, ServesFrom, ServesFromNothing}
use Rattle.mq_program.specs.Serving.{HasServed, Serves}

abbrev pub HaveOneSchema : Type 0
HaveOneSchema = (a b : Database) → IsDatabase a → IsDatabase b → a.trees ≡ b.trees → a ≡ b

abbrev pub EmptyAreReady : Type 0
EmptyAreReady = (db : Database) → IsDatabase db → db.trees catalog_tree ≡ [] → (lacks_sequence db.schema ≡ false) × AreUnnamed db.schema

-- an empty database file holds nothing, whatever its log does
listed_in : (image : Image) (db : Trees) → image.db ≡ [] → AreFoundIn image db → db catalog_tree ≡ []
listed_in image db none (inl (size, pages, wanted, adopts, ours, is)) = absurd (omega (arith, ap length none, adopts.found.present))
listed_in image db none (inr (nothing, empty)) = empty.1

-- an empty file that was opened has no table
pub is_free : (image : Image) (s : State) → EmptyAreReady → Opens s → IsLive s → FindsIn image s → image.db ≡ [] → IsFree s.now
is_free image s ready opens live found none =
    let listed : s.now.trees catalog_tree ≡ [] = subst (λ (d : Database). d.trees catalog_tree ≡ []) (sym opens.clean) (listed_in image s.committed.trees none found.reads) in
    let it = ready s.now (live opens.is_open).0 listed in
    record { counters = it.0; unnamed = it.1 }

module _ (image : Image) (s : State) (one : HaveOneSchema) (opens : Opens s) (live : IsLive s) (found : FindsIn image s) where
  sound : IsDatabase s.now
  sound = (live opens.is_open).0

  -- the connection shows the database that the files hold
  shows : (db : Database) → IsDatabase db → HoldsDatabase image db.trees → db ≡ s.now
  shows db is holds = one db s.now is sound (sym (found.holds db.trees holds) ∙ sym (ap (λ (d : Database). d.trees) opens.clean))

  pub means : (zone : Zone) (default : ℕ) (new : State) → MeansBook zone default s.now new → MeansFile zone default image new
  means zone default new book b keeps = book b (subst (HasStored b) (shows keeps.db keeps.stored.holds.sound keeps.holds) keeps.stored)

  pub counted : (zone : Zone) (default days transactions : ℕ) → IsAuditIn zone default s.now (Sound days transactions) → AreCountsIn zone default image days transactions
  counted zone default days transactions audited db is holds =
      subst (λ (d : Database). IsAuditIn zone default d (Sound days transactions)) (sym (shows db is holds)) audited

  pub made : (zone : Zone) (default : ℕ) (new : State) → EmptyAreReady → (lacks_sequence s.now.schema ≡ false → AreUnnamed s.now.schema → IsNew zone default new) → IsMadeIn zone default image new
  made zone default new ready new_there = record {
    empty = λ none.
        let listed : s.now.trees catalog_tree ≡ [] = subst (λ (d : Database). d.trees catalog_tree ≡ []) (sym opens.clean) (listed_in image s.committed.trees none found.reads) in
        let it = ready s.now sound listed in
        new_there it.0 it.1;
    beside = λ db is holds counters unnamed.
        let same = shows db is holds in
        new_there (subst (λ (d : Database). lacks_sequence d.schema ≡ false) same counters) (subst (λ (d : Database). AreUnnamed d.schema) same unnamed);
  }

-- what was served since is what was served
module _ {who : Callers} (zone : Zone) (default : ℕ) (old : State) (before : ℕ → Wire) (new : State) (after : ℕ → Wire) (outcome : Result ℕ ProgramFault) (sound_then : IsSound zone default old → IsSound zone default new)
    (serves : IsSound zone default old → Serves who (out (book_in zone default old.now) before) (out (book_in zone default new.now) after) outcome) where
  served_after : (b : Book) → IsSound zone default old → book_in zone default old.now ≡ b → HasServed who zone default (out b before) new after outcome
  served_after b is book = (sound_then is, subst (λ (x : Book). Serves who (out x before) (out (book_in zone default new.now) after) outcome) book (serves is))

  pub serves_from : (image : Image) → MeansFile zone default image old → ServesFrom who zone default image before new after outcome
  serves_from image means b keeps =
      let (of_zone, of_default, is, book) = means b keeps in
      (of_zone, of_default, served_after b is book)

  -- a new ledger means nothing
  pub served_anew : IsNew zone default old → HasServed who zone default (out (book_of zone default []) before) new after outcome
  served_anew it = served_after (book_of zone default []) it.sound (ap (λ rs. book_of zone default (build (day_of zone) default rs)) it.blank)

  pub serves_from_nothing : (image : Image) → IsMadeIn zone default image old → ServesFromNothing who zone default image before new after outcome
  serves_from_nothing image made none = served_anew (made.empty none)

-- an audit leaves the ledger as it was
pub means_still : (zone : Zone) (default : ℕ) (image : Image) (old new : State) → HasKept new → new.now ≡ old.now → MeansFile zone default image old → MeansFile zone default image new
means_still zone default image old new kept now means b keeps =
    let (of_zone, of_default, is, book) = means b keeps in
    (of_zone, of_default, sound_still zone default old new is kept now, subst (λ (db : Database). book_in zone default db ≡ b) (sym now) book)
