-- Requests taken one after another inside a transaction, and what a crash leaves of their commit.
use Rattle.std.proofs.Common.{Bool, List, [], ap, append-nil, append_assoc, arith, false, inl, inr, refl, subst, sym, true, ◌||◌, ℕ, ◌++◌, ◌∙◌, ◌∷◌, ◌≡◌, ◌⊎◌}
use Rattle.mq_store.proofs.Words.{Book, Database, Entry, HasCleanDisk, IsDatabase, Reply, Request, State, Survives, Trees, Zone, cases_Bool, day_of, history_of, neither, requests, survives_then}
use Rattle.mq_ledger.specs.Answer.{replies_after, reply, with_arrival}
use Rattle.mq_ledger.proofs.Numbers.{legal_again, legal_more, one_more}
use Rattle.mq_store.specs.declared.take.TakenRequest.{TakenRequest}
use Rattle.mq_store.specs.declared.take.TakenRequest.TheVariants.{Read, Written}
use Rattle.mq_store.specs.Crash.{FindsOnly}
use Rattle.mq_store.specs.Taking.{Applies, HasBook, IsTaken, book_of, reply_in}
use Rattle.mq_store.specs.Together.{AppliesAll, AreAllApplied, AreAllAppliedBy, AreTaken, FindsAll, FindsAllOrNone, IsRead, LeavesAll, book_with}
use Rattle.mq_store.proofs.Recovery.{AreOne, book_again}
use Rattle.mq_store.proofs.Sound.{Means, means_book}

-- the replies to one arrival more
pub replies_more : (day : ℕ → ℕ) (default : ℕ) (A R : List Request) (r : Request)
    → replies_after day default A (R ++ r ∷ []) ≡ replies_after day default A R ++ reply day default (history_of day default (A ++ R)) r ∷ []
replies_more day default A [] r = ap (λ (B : List Request). reply day default (history_of day default B) r ∷ []) (sym (append-nil A))
replies_more day default A (x ∷ R) r =
    ap (λ (said : List Reply). reply day default (history_of day default A) x ∷ said)
    (replies_more day default (A ++ x ∷ []) R r
    ∙ ap (λ (B : List Request). replies_after day default (A ++ x ∷ []) R ++ reply day default (history_of day default B) r ∷ []) (append_assoc A (x ∷ []) R))

module _ (zone : Zone) (default : ℕ) where
  -- before the first of them
  pub taken_none : (db : Database) → AreTaken zone default [] [] false db db
  taken_none db = (
    λ H has. (
      refl,
      subst (λ (K : List Entry). HasBook (book_of zone default K) db)
          (sym (ap (history_of (day_of zone) default) (append-nil (requests H)) ∙ legal_again (day_of zone) default H has.legal.legal)) has,
    ),
    λ _. refl,
  )

  -- what was taken was applied
  taken_so : (r : Request) (old new : Database) (taken : TakenRequest) → IsTaken zone default r old new taken → Applies zone default r (reply_in taken) old new
  taken_so r old new (Read a) is = is.0
  taken_so r old new (Written a) is = is.0

  taken_same : (r : Request) (old new : Database) (taken : TakenRequest) → IsTaken zone default r old new taken → IsRead taken → new ≡ old
  taken_same r old new (Read a) is read = is.1
  taken_same r old new (Written a) is none = absurd none

  applied_more : (R : List Request) (said : List Reply) (r : Request) (a : Reply) (old mid new : Database) → AppliesAll zone default R said old mid → Applies zone default r a mid new
      → AppliesAll zone default (R ++ r ∷ []) (said ++ a ∷ []) old new
  applied_more R said r a old mid new before is = λ H has.
      let day = day_of zone in
      let A = requests H in
      let K = history_of day default (A ++ R) in
      let was = before H has in
      let over = is K was.1 in
      let grown : history_of day default (requests K ++ r ∷ []) ≡ history_of day default (A ++ (R ++ r ∷ [])) =
      legal_more day default K r was.1.legal.legal ∙ sym (one_more day default (A ++ R) r) ∙ ap (history_of day default) (append_assoc A R (r ∷ [])) in (
        (λ i. was.0 i ++ over.0 i ∷ []) ∙ sym (replies_more day default A R r),
        subst (λ (L : List Entry). HasBook (book_of zone default L) new) grown over.1,
      )

  -- after one more of them
  pub taken_more : (R : List Request) (said : List Reply) (r : Request) (taken : TakenRequest) (was more : Bool) (old mid new : Database)
      → AreTaken zone default R said was old mid → IsTaken zone default r mid new taken → (more ≡ false → IsRead taken)
      → AreTaken zone default (R ++ r ∷ []) (said ++ reply_in taken ∷ []) (was || more) old new
  taken_more R said r taken was more old mid new before is read = (
    applied_more R said r (reply_in taken) old mid new before.0 (taken_so r mid new taken is),
    λ none. let both = neither was more none in taken_same r mid new taken is (read both.1) ∙ before.1 both.0,
  )

  -- ---- crashes

  applied_by : AreOne → (rs : List Request) (said : List Reply) (old new : Database) (trees : Trees) → AppliesAll zone default rs said old new → new.trees ≡ trees → AreAllAppliedBy zone default rs said old trees
  applied_by one rs said old new trees is are = record {
    new = new;
    applied = is;
    trees_are = are;
    opened = λ db sound same H has. (let over = is H has in (over.0, book_again one (book_with zone default H rs) new db sound (are ∙ sym same) over.1));
  }

  -- where nothing is written
  pub none_written : (rs : List Request) (said : List Reply) (w : Bool) (old mid : Database) → AreTaken zone default rs said w old mid → w ≡ false → AppliesAll zone default rs said old old
  none_written rs said w old mid taken none = subst (AppliesAll zone default rs said old) (taken.1 none) taken.0

  -- after the commit the store has what was written, and so has what a crash leaves
  pub leaves_whole : AreOne → (rs : List Request) (said : List Reply) (old mid new : Database) (db : Trees) → AppliesAll zone default rs said old mid → new ≡ mid → db ≡ new.trees
      → (db ≡ new.trees) × AreAllAppliedBy zone default rs said old db
  leaves_whole one rs said old mid new db is same all = (all, applied_by one rs said old mid db is (sym (all ∙ ap (λ (d : Database). d.trees) same)))

  -- where the commit failed: what was there before, or all that was written
  pub leaves_none_or_all : AreOne → (rs : List Request) (said : List Reply) (old mid new : State) → (HasCleanDisk mid → AppliesAll zone default rs said old.now mid.now)
      → Survives old mid (λ _. ⊥) → Survives mid new (λ db. db ≡ mid.now.trees) → Survives old new (AreAllApplied zone default rs old.now)
  leaves_none_or_all one rs said old mid new is before after =
      survives_then old mid new _ _ (AreAllApplied zone default rs old.now) (λ _ db none. absurd none)
      (λ clean db all. (said, applied_by one rs said old.now mid.now db (is (omega (arith, after.clean, clean))) (sym all))) before after

  -- ---- what is found

  -- the rows of two books are those of one
  one_book : Means → (H K : List Entry) (db : Database) → HasBook (book_of zone default H) db → HasBook (book_of zone default K) db → book_of zone default H ≡ book_of zone default K
  one_book meaning H K db has other = sym (means_book meaning (book_of zone default H) db has) ∙ means_book meaning (book_of zone default K) db other

  pub finds_all : Means → (rs : List Request) (said : List Reply) (old new : State) → LeavesAll zone default rs said old new → FindsAll zone default rs old new
  finds_all meaning rs said old new leaves = λ H has before db sound left.
      elim (leaves db.trees left) [
        | inl all ↦ (all.1.opened db sound refl H has).1
        | inr none ↦ subst (λ (b : Book). HasBook b db) (one_book meaning H (history_of (day_of zone) default (requests H ++ rs)) old.now has (none.0 H has).1) (before db sound none.1)
      ]

  pub finds_all_or_none : (rs : List Request) (old new : State) → ((db : Trees) → new.may_leave db → old.may_leave db ⊎ AreAllApplied zone default rs old.now db) → FindsAllOrNone zone default rs old new
  finds_all_or_none rs old new leaves = λ H has db sound left.
      elim (leaves db.trees left) [
        | inl was ↦ inl was
        | inr all ↦ inr (all.1.opened db sound refl H has).1
      ]
