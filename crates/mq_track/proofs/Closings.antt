-- All closings that lines bring: each is the last of its transaction.
use Rattle.std.proofs.Common.{◌≡◌, ◌≢◌, ℕ, ◌<◌, ◌≤◌, List, [], ◌∷◌, ◌++◌, refl, sym, subst, append_assoc}
use Rattle.std.specs.Prelude.{Option, None, Some}
use Rattle.std.specs.List.{AllByRecursion, cons_option}
use Rattle.mq_line.specs.Grammar.{Meaning}
use Rattle.mq_track.specs.Sessions.{Transaction, Sending, open_transaction, begin_count, closing, login, position_of}
use Rattle.mq_track.specs.Laws.{closings, IsUnclosed, NoneStandsClosed, AreClosedOnce, ClosedBegan}
use Rattle.mq_track.specs.declared.closing.Closing.{Closing}
use Rattle.mq_track.proofs.Numbers.{closes, numbered, stay_closed}

one_more : (o : Option Closing) (before : List Closing) (txn : ℕ) → ((c : Closing) → o ≡ Some c → c.txn ≢ txn)
    → AllByRecursion (λ c. c.txn ≢ txn) before → AllByRecursion (λ c. c.txn ≢ txn) (cons_option o before)
one_more None before txn one all = all
one_more (Some c) before txn one all = (one c refl, all)

-- what is open after some lines and later ones isn't closed among the first
unclosed_before : (past later : List Meaning) (s : List ℕ) (t : Transaction) → open_transaction (later ++ past) s ≡ Some t → IsUnclosed past t.txn
unclosed_before [] later s t h = tt
unclosed_before (line ∷ past) later s t h =
    let here : (c : Closing) → closing past line ≡ Some c → c.txn ≢ t.txn = λ c is same. stay_closed past line c is later s t h (sym same) in
    let longer : open_transaction ((later ++ line ∷ []) ++ past) s ≡ Some t =
    subst (λ (L : List Meaning). open_transaction L s ≡ Some t) (sym (append_assoc later (line ∷ []) past)) h in
    one_more (closing past line) (closings past) t.txn here (unclosed_before past (later ++ line ∷ []) s t longer)

pub unclosed : (past : List Meaning) (s : List ℕ) (t : Transaction) → open_transaction past s ≡ Some t → IsUnclosed past t.txn
unclosed past s t h = unclosed_before past [] s t h

-- the transaction in which a session stands is open
record IsSent (o : Option Transaction) (txn : ℕ) : Type 0 where
  t : Transaction
  is : o ≡ Some t
  number : t.txn ≡ txn

sent : (l : Option (List ℕ)) (o : Option Transaction) (login : List ℕ) (txn moment : ℕ) → position_of l o ≡ Sending login txn moment → IsSent o txn
sent None o login txn moment h = absurd (cc (h))
sent (Some known) None login txn moment h = absurd (cc (h))
sent (Some known) (Some t) login txn moment h = record { t = t; is = refl; number = cc (h) }

pub none_stands_closed : NoneStandsClosed
none_stands_closed past s name txn moment h =
    let here = sent (login past s) (open_transaction past s) name txn moment h in
    subst (λ (n : ℕ). IsUnclosed past n) here.number (unclosed past s here.t here.is)

pub closed_once : AreClosedOnce
closed_once past line closed is =
    let c = closes past line closed is in
    subst (λ (n : ℕ). IsUnclosed past n) (sym c.number) (unclosed past c.s c.o c.was)

pub closed_began : ClosedBegan
closed_began past line closed is =
    let c = closes past line closed is in
    let n = numbered past c.s c.o c.was in
    subst (λ (k : ℕ). (0 < k) × (k ≤ begin_count past)) (sym c.number) n
