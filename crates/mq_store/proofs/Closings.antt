-- One closing, and one more after those before.
use Rattle.std.proofs.Common.{Bool, List, None, Option, Some, [], inl, inr, subst, sym, ◌∷◌, ◌≡◌}
use Rattle.mq_store.proofs.Words.{Book, Database, Has, HasLedger, Insert, IsOneIn, IsOneOf, Keep, Leads, LeadsAll, LeadsWhereKeyed, MovesLead, Plan, State, Tables, TransactionRecord, Update, UsageRecord, Write, WritesTransaction, WritesUsage, abandoned_row, freed, is_usage, same_day, same_key, set_transaction, set_usage}
use Rattle.mq_store.specs.GivingUp.{with_rows, ClosesOne, HasMoved}
use Rattle.mq_lemmas.proofs.Lists.{In}

pub closes : (was : TransactionRecord) (u : Option UsageRecord) (s0 s1 s2 s3 : State) → ((t : Tables) → HasLedger s0.now t → IsOneOf (is_usage was.login was.day) t.usage u) → s1.now ≡ s0.now
    → WritesTransaction (Update (abandoned_row was)) s1 s2 → WritesUsage (freed was.held was.held u) s2 s3 → ClosesOne was s0.now s3.now
closes was u s0 s1 s2 s3 found same one two = λ t l.
    (u, found t l, λ w rest order there alone. two (record t { transactions = set_transaction (abandoned_row was) w ∷ rest }) (one t (subst (λ db. HasLedger db t) (sym same) l) w rest order there alone))

-- the rows that a write leads to are those that it leaves
pub both : {R : Type 0} (same : R → R → Bool) (set : R → R → R) (w : Write R) (rows : List R) (P Q : List R → Type 0)
    → Leads same set w rows P → LeadsWhereKeyed same set w rows Q → (after : List R) × P after × Q after
both same set Keep rows P Q p q = (rows, p, q)
both same set (Insert new) rows P Q p q = (new ∷ rows, p.after, q)
both same set (Update new) rows P Q p q = (set new p.was ∷ p.rest, p.after, q p.was p.rest p.order p.there p.alone)

has_row : {R : Type 0} (rows : List R) (r : R) → Has rows r → In r rows
has_row [] r h = h
has_row (x ∷ rows) r (inl e) = inl (sym e)
has_row (x ∷ rows) r (inr h) = inr (has_row rows r h)

-- the one that the table has is the one that the law speaks of
one_in : {R : Type 0} (test : R → Bool) (rows : List R) (o : Option R) → IsOneOf test rows o → IsOneIn test rows o
one_in test rows None h = h
one_in test rows (Some r) h = (has_row rows r h.0, h.1)

-- what is there of the closings that are left: of the other tables these, and rows that lead on
pub record IsLeft (t : Tables) (b : Book) (p : Plan) (rest : List TransactionRecord) (db : Database) : Type 0 where
  pub rows : List TransactionRecord
  pub used : List UsageRecord
  pub holds : HasLedger db (with_rows t rows used)
  pub leads : LeadsAll rest rows used (MovesLead b p)

pub one_more : (t : Tables) (b : Book) (p : Plan) (was : TransactionRecord) (rest : List TransactionRecord) (old new : Database) → IsLeft t b p (was ∷ rest) old → ClosesOne was old new → IsLeft t b p rest new
one_more t b p was rest old new left closes =
    let it = closes (with_rows t left.rows left.used) left.holds in
    let u = it.0 in
    let ts = both same_key set_transaction (Update (abandoned_row was)) left.rows
    (λ a. Leads same_day set_usage (freed was.held was.held u) left.used (λ c. LeadsAll rest a c (MovesLead b p)))
    (λ a. LeadsWhereKeyed same_day set_usage (freed was.held was.held u) left.used (λ c. HasLedger new (with_rows t a c))) (left.leads u (one_in (is_usage was.login was.day) left.used u it.1)) it.2 in
    let us = both same_day set_usage (freed was.held was.held u) left.used (λ c. LeadsAll rest ts.0 c (MovesLead b p)) (λ c. HasLedger new (with_rows t ts.0 c)) ts.1 ts.2 in
    record { rows = ts.0; used = us.0; holds = us.2; leads = us.1 }

pub all_closed : (t : Tables) (b : Book) (p : Plan) (db : Database) → IsLeft t b p [] db → HasMoved t b p db
all_closed t b p db left = record { rows = left.rows; used = left.used; holds = left.holds; so = left.leads }
