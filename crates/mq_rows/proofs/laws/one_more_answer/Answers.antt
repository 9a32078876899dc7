use Rattle.std.proofs.Common.{◌≡◌, ℕ, ◌+◌, ◌-◌, ◌≤◌, List, [], ◌∷◌, ◌++◌, refl, ◌∙◌, ap, sym, subst, inl, inr, length, length-append, true, false, ◌⊎◌, filter, Option, Some, None, is_some, All, IsPermutation}
use Rattle.mq_rows.proofs.Words.{All-from_recursion, AllByRecursion, AreMovesOf, AreRows, AreToClose, Book, Entry, FoundRows, Id, IsFound, IsLegal, IsLegalBook, IsReply, IsRequest, IsSetting, IsUnretired, LeadsAll, Reply, Request, Retire, Runs, SettingRecord, Tables, TransactionRecord, UsageRecord, answer, answer_of, answer_rows, appended, cleared, day_of, decided, entry, floor_by, floor_of, given_up_by, id_of, is_below, is_open_in, is_retire, minutes_in, recursion_from_All, reply, requests, retire_entry, rule_in, stored, transaction, with_arrival, written, build}
use Rattle.mq_rows.specs.declared.plan.Plan.{Plan}
use Rattle.mq_rows.specs.Written.{LeadTo, MovesLead}
use Rattle.mq_rows.proofs.Leading.{all_lead_on}
use Rattle.mq_rows.proofs.Trans.{Ledger, heard}
use Rattle.mq_rows.proofs.Days.{Uses}
use Rattle.mq_rows.proofs.Replies.{Governs, may_be}
use Rattle.mq_ledger.specs.Arrivals.{first}
use Rattle.mq_rows.proofs.laws.one_more_answer.Goals as goal

numbered : (r : Request) (id : Id) → id_of r ≡ Some id → is_some (id_of r) ≡ true
numbered r id h = rw h refl

-- a new number is answered, and its answer is appended
new_reply : (day : ℕ → ℕ) (default : ℕ) (H : List Entry) (r : Request) (id : Id) → id_of r ≡ Some id → is_below (requests H) id ≡ false → stored H id ≡ None
    → (reply day default H r ≡ answer day default H r) × (with_arrival day default H r ≡ appended day default H r)
new_reply day default H r id h above none = (rw (h, above, none) refl, rw (h, above, none) refl)

counted_setting : (b : Book) (s : SettingRecord) (e : Entry) → IsSetting b s → IsSetting (record b { history = b.history ++ e ∷ [] }) (record s { arrivals = s.arrivals + 1 })
counted_setting b s e h = record {
  row = ap (λ (x : SettingRecord). record x { arrivals = x.arrivals + 1 }) h.row ∙ (λ i. record { version = s.version; minutes = minutes_in b.zone; cap = b.default; arrivals = sym (length-append b.history (e ∷ [])) i; rule = rule_in b.zone });
  version = h.version;
}

-- the requests of a legal history and one more are in range
all_more : (H : List Entry) (r : Request) → All (λ (e : Entry). IsRequest e.request) H → IsRequest r → All IsRequest (requests H ++ r ∷ [])
all_more H r all one = All-from_recursion IsRequest (requests H ++ r ∷ []) (pushed H (recursion_from_All (λ (e : Entry). IsRequest e.request) H all)) where
  pushed : (xs : List Entry) → AllByRecursion (λ (e : Entry). IsRequest e.request) xs → AllByRecursion IsRequest (requests xs ++ r ∷ [])
  pushed [] a = (one, tt)
  pushed (x ∷ xs) a = (a.0, pushed xs a.1)

-- the one number of the request isn't retired
unretired : (H : List Entry) (r : Request) (id : Id) → id_of r ≡ Some id → is_below (requests H) id ≡ false → IsUnretired H r
unretired H r id h above = λ other k. (let e : Some id ≡ Some other = sym h ∙ k in let same : id ≡ other = cc e in subst (λ x. is_below (requests H) x ≡ false) same above)

-- the request is a retire, or it isn't
retire_or_not : (r : Request) → ((id : Id) × (r ≡ Retire id)) ⊎ (is_retire r ≡ false)
retire_or_not (Retire id) = inl (id, refl)
retire_or_not r = inr refl

keeps_all : (r : Request) (f : FoundRows) → is_retire r ≡ false → given_up_by r f ≡ None
keeps_all (Retire id) f h = absurd (cc h)
keeps_all r f h = refl

-- no runs are given up, so nothing is closed first
moves_alone : (o : Option Runs) (these rows : List TransactionRecord) (usage : List UsageRecord) (P : List TransactionRecord → List UsageRecord → Type 0)
    → o ≡ None → AreToClose o rows these → P rows usage → LeadsAll these rows usage P
moves_alone o these rows usage P none these_are h =
    let e : these ≡ [] = subst (λ x. AreToClose x rows these) none these_are in
    subst (λ x. LeadsAll x rows usage P) (sym e) h

abbrev book_with : Book → Request → Book
book_with b r = record b { history = appended (day_of b.zone) b.default b.history r }

abbrev plan_of : Book → Tables → FoundRows → Request → Plan
plan_of b t f r = written (day_of b.zone) t.setting.arrivals r f (answer (day_of b.zone) b.default b.history r)

abbrev AnswersLead : Book → Tables → FoundRows → Request → Type 0
AnswersLead b t f r =
    cleared (given_up_by r f) t.answers ++ answer_of (t.setting.arrivals + 1) (entry r (answer (day_of b.zone) b.default b.history r)) ∷ []
    ≡ answer_rows (b.history ++ entry r (answer (day_of b.zone) b.default b.history r) ∷ [])

abbrev RowsMove : Book → Tables → FoundRows → Request → Type 0
RowsMove b t f r = (these : List TransactionRecord) → AreToClose (given_up_by r f) t.transactions these → LeadsAll these t.transactions t.usage (MovesLead (book_with b r) (plan_of b t f r))

-- what is known where the request is a retire
record Gives (default : ℕ) (day : ℕ → ℕ) (H : List Entry) (t : Tables) (f : FoundRows) (id : Id) : Type 0 where
  some : 1 ≤ id.run
  floor : floor_by f.floor ≡ floor_of (requests H) id.host
  legal : IsLegal day default (H ++ retire_entry id ∷ [])
  above : is_below (requests H) id ≡ false

-- nothing is closed but by a retire
none_closed : (o : Option Runs) (rows done rest : List TransactionRecord) (was : TransactionRecord) → o ≡ None → AreToClose o rows (done ++ was ∷ rest) → ⊥
none_closed o rows done rest was none these_are = (let e : done ++ was ∷ rest ≡ [] = subst (λ x. AreToClose x rows (done ++ was ∷ rest)) none these_are in not_empty done e) where
  not_empty : (done : List TransactionRecord) → done ++ was ∷ rest ≡ [] → ⊥
  not_empty [] e = cc
  not_empty (x ∷ done) e = cc

pub returns : goal.returns
returns c =
    -- the answer, by what was found
    let same : (b : Book) (t : Tables) (r : Request) (id : Id) (f : FoundRows) → IsLegalBook b → AreRows b t → id_of r ≡ Some id → is_below (requests b.history) id ≡ false → IsFound (day_of b.zone) t r f
    → decided b.default r f ≡ answer (day_of b.zone) b.default b.history r = λ b t r id f legal rows h above found.
    c.reply_follows.ensures (day_of b.zone) b.default b.history t r f (unretired b.history r id h above) legal.legal rows.transactions rows.usage rows.limits found (numbered r id h) in
    let history : (day : ℕ → ℕ) (default : ℕ) (H : List Entry) (r : Request) (id : Id) → IsLegal day default H → id_of r ≡ Some id → is_below (requests H) id ≡ false → stored H id ≡ None
    → build day default (first (requests H ++ r ∷ [])) ≡ appended day default H r = λ day default H r id legal h above none.
    c.one_more_arrival.ensures.legal day default H r legal ∙ (new_reply day default H r id h above none).1 in
    let more : (day : ℕ → ℕ) (default : ℕ) (H : List Entry) (r : Request) (id : Id) → IsLegal day default H → IsRequest r → id_of r ≡ Some id → is_below (requests H) id ≡ false → stored H id ≡ None
    → IsLegal day default (appended day default H r) = λ day default H r id legal in_range h above none.
    subst (IsLegal day default) (history day default H r id legal h above none) (c.built_is_legal.ensures day default (requests H ++ r ∷ []) (all_more H r legal.range in_range)) in
    -- the floor that a retire was found with
    let floor_is : (b : Book) (t : Tables) (r : Request) (f : FoundRows) (gone : Id) → AreRows b t → IsFound (day_of b.zone) t r f → r ≡ Retire gone → floor_by f.floor ≡ floor_of (requests b.history) gone.host = λ b t r f gone rows found is.
    ap floor_by (subst (λ x. IsFound (day_of b.zone) t x f) is found) ∙ c.floors_are_found.ensures.floor b.history t.retired gone.host rows.retired in
    record {
      reply = λ b t r id f legal rows h above none found. same b t r id f legal rows h above found ∙ sym (new_reply (day_of b.zone) b.default b.history r id h above none).0;
      rows = λ b t r id f legal rows in_range h above none found.
          let day : ℕ → ℕ = day_of b.zone in
          let H : List Entry = b.history in
          let a : Reply = answer day b.default H r in
          let b' : Book = record b { history = appended day b.default H r } in
          let un : IsUnretired H r = unretired H r id h above in
          let arrivals : t.setting.arrivals ≡ length H = ap (λ (s : SettingRecord). s.arrivals) rows.setting.row in
          let facts : (gone : Id) → r ≡ Retire gone → Gives b.default day H t f gone = λ gone is. record {
            some = (subst IsRequest is in_range).run.from;
            floor = floor_is b t r f gone rows found is;
            legal = subst (λ x. IsLegal day b.default (appended day b.default H x)) is (more day b.default H r id legal.legal in_range h above none);
            above = un gone (ap id_of is);
          } in
          let answers : AnswersLead b t f r = elim (retire_or_not r) [
            | inl p ↦ (let g = facts p.0 p.1 in
                subst (AnswersLead b t f) (sym p.1) (
                (λ i. cleared (Some (record { host = p.0.host; from = g.floor i; to = p.0.run - 1 })) (rows.answers i) ++ answer_of (arrivals i + 1) (retire_entry p.0) ∷ [])
                ∙ sym (c.answers_follow.ensures.retired H p.0 g.some g.above)))
            | inr plain ↦ (
                ap (λ o. cleared o t.answers ++ answer_of (t.setting.arrivals + 1) (entry r a) ∷ []) (keeps_all r f plain)
                ∙ (λ i. rows.answers i ++ answer_of (arrivals i + 1) (entry r a) ∷ [])
                ∙ sym (c.answers_follow.ensures.row H (entry r a) plain un (numbered r id h)))
          ] in
          let moves : RowsMove b t f r = elim (retire_or_not r) [
            | inl p ↦ (let g = facts p.0 p.1 in
                subst (RowsMove b t f) (sym p.1) (λ these open_ones.
                all_lead_on these t.transactions t.usage (AreMovesOf day (H ++ retire_entry p.0 ∷ [])) (MovesLead (book_with b (Retire p.0)) (plan_of b t f (Retire p.0)))
                (λ after used m. record { transactions = m.transactions; usage = m.usage })
                (c.retired_runs_follow.ensures.rows day b.default H p.0 t.transactions t.usage these g.some legal.legal g.legal rows.transactions rows.usage
                (subst (λ n. IsPermutation these (filter (is_open_in (record { host = p.0.host; from = n; to = p.0.run - 1 })) t.transactions)) g.floor open_ones))))
            | inr plain ↦ (λ these open_ones.
                moves_alone (given_up_by r f) these t.transactions t.usage (MovesLead (book_with b r) (plan_of b t f r)) (keeps_all r f plain) open_ones (record {
                  transactions = c.transactions_follow.ensures day b.default H t r f plain un rows.transactions found;
                  usage = c.usage_follows.ensures day b.default H t r f plain un legal.legal rows.transactions rows.usage found;
                }))
          ] in
          let lead : LeadTo b' t (written day t.setting.arrivals r f a) = record {
            setting = counted_setting b t.setting (entry r a) rows.setting;
            answers = answers;
            moves = moves;
            limits = c.limits_follow.ensures day b.default H t r f rows.limits found;
            retired = c.floors_follow.ensures day b.default H t r f in_range un rows.retired found;
          } in
          subst (λ (x : Reply). LeadTo b' t (written day t.setting.arrivals r f x)) (sym (same b t r id f legal rows h above found)) lead;
      history = history;
      found = λ b t r id f legal rows in_range h above none found.
          let day : ℕ → ℕ = day_of b.zone in
          let H : List Entry = b.history in
          let laws : Ledger day b.default = record {
            named_more = c.one_more_of_a_transaction.ensures.named;
            closed_more = c.one_more_of_a_transaction.ensures.closed;
            held_more = c.one_more_of_a_transaction.ensures.held;
            settled_more = c.one_more_of_a_transaction.ensures.settled day b.default;
            unheard = c.open_transactions.ensures.unheard;
            unsettled = c.open_transactions.ensures.open;
          } in
          let us : Uses day b.default H = record {
            reserves_more = λ e l d. c.one_more_on_a_day.ensures.reserved day b.default H e l d legal.legal;
            settled_more = c.one_more_on_a_day.ensures.settled day b.default H;
            reserve_more = c.one_more_on_a_day.ensures.has_reserve day H;
            held_is_reserved = λ i txn moment login. c.used_where_reserved.ensures.held day b.default H (transaction i txn) moment login legal.legal;
            none = λ l d. c.used_where_reserved.ensures.none day b.default H l d legal.legal;
          } in
          let gs : Governs b.default H = record { none = c.latest_limit_governs.ensures.none b.default H; latest = c.latest_limit_governs.ensures.latest b.default H } in
          let days = c.replies_in_range.ensures.days b.zone legal.zone in
          let fits : IsReply (reply day b.default H r) = c.replies_in_range.ensures.replies day b.default H r legal.default days legal.legal in_range in
          let fits' : IsReply (decided b.default r f) = subst IsReply ((new_reply day b.default H r id h above none).0 ∙ sym (same b t r id f legal rows h above found)) fits in
          may_be day b.default H us gs t rows.transactions rows.usage rows.limits
          (λ l d. (c.amounts_in_range.ensures.used day b.default H l d legal.default days legal.legal).0.to)
          (λ l d. (c.amounts_in_range.ensures.used day b.default H l d legal.default days legal.legal).3.to)
          r f (heard day b.default laws H r (unretired H r id h above)) found fits';
      fits = λ b t r f done rest was legal rows in_range found these_are.
          let day : ℕ → ℕ = day_of b.zone in
          let H : List Entry = b.history in
          elim (retire_or_not r) [
            | inl p ↦ (let some : 1 ≤ p.0.run = (subst IsRequest p.1 in_range).run.from in
                let open_ones = subst (λ x. AreToClose (given_up_by x f) t.transactions (done ++ was ∷ rest)) p.1 these_are in
                c.retired_runs_follow.ensures.fits day b.default H p.0 t.transactions t.usage done rest was legal.default (c.replies_in_range.ensures.days b.zone legal.zone) some legal.legal rows.transactions rows.usage
                (subst (λ n. IsPermutation (done ++ was ∷ rest) (filter (is_open_in (record { host = p.0.host; from = n; to = p.0.run - 1 })) t.transactions)) (floor_is b t r f p.0 rows found p.1) open_ones))
            | inr plain ↦ absurd (none_closed (given_up_by r f) t.transactions done rest was (keeps_all r f plain) these_are)
          ];
      legal = more;
    }
