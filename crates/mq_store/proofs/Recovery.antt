-- What is found by whoever opens what a crash left.
use Rattle.std.proofs.Common.{List, false, inl, inr, refl, subst, sym, ℕ, ◌≡◌, ◌⊎◌}
use Rattle.mq_store.proofs.Words.{AreMadeOver, Book, Database, Entry, IsDatabase, IsMade, IsMadeOver, Reply, Request, State, Trees, Zone, cases_Bool, is_first, requests}
use Rattle.mq_tables.specs.declared.setting.NewSetting.{NewSetting}
use Rattle.mq_store.specs.Crash.{LeavesNew, LeavesOld, FindsOnly, FindsNew}
use Rattle.mq_store.specs.Taking.{HasBook, book_of, book_after}

-- sound databases with the same trees are one, since trees have one schema
abbrev pub AreOne : Type 0
AreOne = (a b : Database) → IsDatabase a → IsDatabase b → a.trees ≡ b.trees → a ≡ b

-- so the rows of the one are those of the other
pub book_again : AreOne → (b : Book) (made db : Database) → IsDatabase db → made.trees ≡ db.trees → HasBook b made → HasBook b db
book_again one b made db sound same has = subst (HasBook b) (one made db has.has.holds.sound sound same) has

-- and what the store has is found where a crash leaves just that
pub finds_book : AreOne → (b : Book) (s : State) → HasBook b s.now → ((db : Trees) → s.may_leave db → db ≡ s.now.trees) → FindsOnly s (HasBook b)
finds_book one b s has leaves = λ db sound left. book_again one b s.now db sound (sym (leaves db.trees left)) has

module _ (zone : Zone) (default : ℕ) (r : Request) (old new : State) where
  pub found_new : (a : Reply)
      → ((H : List Entry) (db : Database) → is_first (requests H) r ≡ false → HasBook (book_of zone default H) db → HasBook (book_after zone default H r) db)
      → LeavesNew zone default r a old new → LeavesOld zone default r old new → FindsNew zone default r old new
  found_new a again leaves_new leaves_old = λ H has before db sound left.
      elim (cases_Bool (is_first (requests H) r)) [
        | inl first ↦ ((leaves_new H has first db.trees left).1.opened db sound refl H has).1
        | inr later ↦ again H db later (before later db sound (leaves_old H has later db.trees left))
      ]

-- where the making failed
pub found_made_over : AreOne → (made_with : NewSetting) (old new : State) → ((db : Trees) → new.may_leave db → old.may_leave db ⊎ AreMadeOver made_with old.now db)
    → FindsOnly new (λ db. old.may_leave db.trees ⊎ IsMadeOver made_with old.now db)
found_made_over one made_with old new leaves = λ db sound left.
    elim (leaves db.trees left) [
      | inl was ↦ inl was
      | inr all ↦ inr (record {
        made = λ counters.
            let whole : IsMade made_with old.now all.new = all.made.made counters in
            subst (IsMade made_with old.now) (one all.new db whole.sound sound all.trees_are) whole;
      })
    ]
