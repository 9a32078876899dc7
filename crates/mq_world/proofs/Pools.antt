-- The entries of several ledgers.
use Rattle.mq_world.proofs.Words.{Book, Entry, In, List, [], inl, inr, refl, subst, sym, ◌++◌, ◌∷◌}
use Rattle.mq_world.proofs.Basics.{in_front, in_back, in_either}

abbrev pub pool : List Book → List Entry
pool [] = []
pool (b ∷ bs) = b.history ++ pool bs

-- the ledger of an entry
pub record IsInOne (bs : List Book) (e : Entry) : Type 0 where
  pub book : Book
  pub among : In book bs
  pub entry : In e book.history

pub in_one : (bs : List Book) (e : Entry) → In e (pool bs) → IsInOne bs e
in_one [] e i = absurd i
in_one (b ∷ bs) e i = elim (in_either b.history (pool bs) e i) [
  | inl j ↦ record { book = b; among = inl refl; entry = j }
  | inr j ↦ (let k = in_one bs e j in record { book = k.book; among = inr k.among; entry = k.entry })
]

pub of_one : (bs : List Book) (b : Book) (e : Entry) → In b bs → In e b.history → In e (pool bs)
of_one [] b e i j = absurd i
of_one (c ∷ bs) b e (inl is) j = in_front c.history (pool bs) e (subst (λ x. In e x.history) (sym is) j)
of_one (c ∷ bs) b e (inr i) j = in_back c.history (pool bs) e (of_one bs b e i j)

-- ---- one ledger in the place of another

changed : (before after : List Book) (x y b : Book) → In b (x ∷ before ++ y ∷ after) → In b (y ∷ before ++ x ∷ after)
changed before after x y b (inl is) = inr (in_back before (x ∷ after) b (inl is))
changed before after x y b (inr i) = elim (in_either before (y ∷ after) b i) [
  | inl j ↦ inr (in_front before (x ∷ after) b j)
  | inr (inl is) ↦ inl is
  | inr (inr j) ↦ inr (in_back before (x ∷ after) b (inr j))
]

-- where two ledgers change places, the entries are the same
pub places_change : (before after : List Book) (x y : Book) (e : Entry) → In e (x.history ++ pool (before ++ y ∷ after)) → In e (y.history ++ pool (before ++ x ∷ after))
places_change before after x y e i =
    let k = in_one (x ∷ before ++ y ∷ after) e i in
    of_one (y ∷ before ++ x ∷ after) k.book e (changed before after x y k.book k.among) k.entry
