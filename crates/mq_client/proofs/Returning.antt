-- What the lines have the client do: a transaction that was closed is never asked for again.
use Rattle.std.proofs.Common.{◌≡◌, ℕ, ◌+◌, ◌==◌, ◌&&◌, Bool, false, true, List, [], ◌∷◌, ◌++◌, refl, sym, ap, ◌∙◌, subst, inl, inr, ◌⊎◌, Option, None, Some, if◌then◌else◌}
use Rattle.mq_client.proofs.Words.{Action, Ask, Asks, AsksForNoClosed, Close, CloseEnd, Closed, Closing, Drain, Exchange, FilterLine, Filters, HeldTransaction, Holding, Live, Meaning, NoneReturns, Passes, Query, Refuses, Source, Spans, Step, Transaction, View, action_of, actions, actions_of, after, after_close, asking_of, at_line, bytes_eq, close_of, closing, codes, eqb-true, held_by, is_closed, is_login, is_moment, login, none_some, open_transaction, position_of, push, query, query_at, view}
use Rattle.mq_track.specs.Laws.{StayClosed}
use Rattle.mq_client.proofs.Sameness.{taken_kind, actions_push}
use Rattle.mq_client.proofs.Basics.{nil_cons, cons_head, cons_tail, mapped_some}

-- ---- the actions of lines

pub actions_are : (spans : Spans) (L : List Meaning) (steps : List Step) (text : List ℕ) (k : Holding) → Filters spans L steps text k → actions steps ≡ actions_of L
actions_are spans [] steps text k h = ap actions h.0
actions_are spans (m ∷ L) steps text k (s, before, written, next, held, h, takes, e, f, g) =
    ap actions e ∙ actions_push s before ∙ ap (λ i. push i (actions before)) (taken_kind (at_line spans m held) L m s next takes) ∙ ap (push (action_of L m)) (actions_are spans L before written held h)

-- ---- closings

-- the transaction was closed among these actions
abbrev IsClosedIn : ℕ → List Action → Type 0
IsClosedIn t [] = ⊥
IsClosedIn t (Ask txn moment login ∷ acts) = IsClosedIn t acts
IsClosedIn t (Close txn end ∷ acts) = (txn ≡ t) ⊎ IsClosedIn t acts
IsClosedIn t (Drain ∷ acts) = IsClosedIn t acts

-- a line among these closed it
record WasClosed (L : List Meaning) (t : ℕ) : Type 0 where
  later : List Meaning
  line : Meaning
  before : List Meaning
  closed : Closing
  whole : L ≡ later ++ line ∷ before
  is : closing before line ≡ Some closed
  txn_is : closed.txn ≡ t

asks_no_close : (q : Query) (txn : ℕ) (end : CloseEnd) → asking_of q ≡ Some (Close txn end) → ⊥
asks_no_close (Asks u moment name) txn end e = cc
asks_no_close q txn end e = none_some (Close txn end) e

closes_at : (L : List Meaning) (m : Meaning) (txn : ℕ) (end : CloseEnd) → action_of L m ≡ Some (Close txn end) → (c : Closing) × (closing L m ≡ Some c) × (c.txn ≡ txn)
closes_at L (FilterLine seconds subsystem phase session token rest) txn end e = absurd (asks_no_close (query L subsystem phase session) txn end e)
closes_at L m txn end e = let (c, is, same) = mapped_some close_of (closing L m) (Close txn end) e in (c, is, cc (same))

later_line : (m : Meaning) (L : List Meaning) (t : ℕ) → WasClosed L t → WasClosed (m ∷ L) t
later_line m L t w = record { later = m ∷ w.later; line = w.line; before = w.before; closed = w.closed; whole = ap (λ l. m ∷ l) w.whole; is = w.is; txn_is = w.txn_is }

closed_line : (L : List Meaning) (t : ℕ) → IsClosedIn t (actions_of L) → WasClosed L t
closed_line [] t i = absurd i
closed_line (m ∷ L) t i = by_action (λ j. later_line m L t (closed_line L t j)) (action_of L m) refl i
  where
    by_action : (IsClosedIn t (actions_of L) → WasClosed (m ∷ L) t) → (o : Option Action) → action_of L m ≡ o → IsClosedIn t (push o (actions_of L)) → WasClosed (m ∷ L) t
    by_action earlier None e i = earlier i
    by_action earlier (Some (Ask txn moment login)) e i = earlier i
    by_action earlier (Some Drain) e i = earlier i
    by_action earlier (Some (Close txn end)) e (inr i) = earlier i
    by_action earlier (Some (Close txn end)) e (inl same) =
        let (c, is, of) = closes_at L m txn end e in
        record { later = []; line = m; before = L; closed = c; whole = refl; is = is; txn_is = of ∙ same }

-- ---- asks

-- the transaction that is asked for is open
asks_open : (b : Bool) (l : Option (List ℕ)) (o : Option Transaction) (txn moment : ℕ) (login : List ℕ) → (if b then query_at (position_of l o) else Passes) ≡ Asks txn moment login → (t : Transaction) × (o ≡ Some t) × (t.txn ≡ txn)
asks_open false l o txn moment login e = absurd cc
asks_open true None o txn moment login e = absurd cc
asks_open true (Some n) None txn moment login e = absurd cc
asks_open true (Some n) (Some t) txn moment login e = by_range (is_login n && is_moment t.moment) e
  where
    by_range : (c : Bool) → (if c then Asks t.txn t.moment n else Refuses) ≡ Asks txn moment login → (t' : Transaction) × (Some t ≡ Some t') × (t'.txn ≡ txn)
    by_range true f = (t, refl, cc)
    by_range false f = absurd cc

asking_asks : (q : Query) (txn moment : ℕ) (login : List ℕ) → asking_of q ≡ Some (Ask txn moment login) → q ≡ Asks txn moment login
asking_asks (Asks u v n) txn moment login e = cc (e)
asking_asks q txn moment login e = absurd (none_some (Ask txn moment login) e)

asked_open : (L : List Meaning) (m : Meaning) (txn moment : ℕ) (name : List ℕ) → action_of L m ≡ Some (Ask txn moment name) → (session : List ℕ) × (t : Transaction) × (open_transaction L session ≡ Some t) × (t.txn ≡ txn)
asked_open L (FilterLine seconds subsystem phase session token rest) txn moment name e =
    let (t, is_open, txn_is) = asks_open (bytes_eq subsystem (codes "smtp-in") && bytes_eq phase (codes "rcpt-to")) (login L session) (open_transaction L session) txn moment name (asking_asks (query L subsystem phase session) txn moment name e) in
    (session, t, is_open, txn_is)
asked_open L m txn moment name e = let (c, is, same) = mapped_some close_of (closing L m) (Ask txn moment name) e in absurd (cc (same))

-- ---- what ended was closed

abbrev EndedAreClosed : View → List Action → Type 0
EndedAreClosed v acts = (t : ℕ) → is_closed (v.standing t) ≡ true → IsClosedIn t acts

ended_asked : (now : HeldTransaction) (v : View) (txn t : ℕ) (b : Bool) (acts : List Action) → EndedAreClosed v acts → is_closed (if b then Live now else v.standing t) ≡ true → IsClosedIn t acts
ended_asked now v txn t true acts all e = absurd cc
ended_asked now v txn t false acts all e = all t e

ended_closed : (s : Source) (txn : ℕ) (end : CloseEnd) (group : List Exchange) (v : View) (o : Option HeldTransaction) (acts : List Action) → EndedAreClosed v acts → EndedAreClosed (after_close s txn end group v o) (Close txn end ∷ acts)
ended_closed s txn end group v None acts all = λ t e. inr (all t e)
ended_closed s txn end group v (Some h) acts all = λ t e. by_txn t (txn == t) refl e
  where
    by_txn : (t : ℕ) (b : Bool) → (txn == t) ≡ b → is_closed (if b then Closed end (v.numbers + 1) h else v.standing t) ≡ true → (txn ≡ t) ⊎ IsClosedIn t acts
    by_txn t true f e = inl (eqb-true txn t f)
    by_txn t false f e = inr (all t e)

ended_step : (s : Source) (v : View) (a : Action) (group : List Exchange) (acts : List Action) → EndedAreClosed v acts → EndedAreClosed (after s v a group) (a ∷ acts)
ended_step s v (Ask txn moment login) [] acts all = all
ended_step s v (Ask txn moment login) (x ∷ group) acts all = λ t e. ended_asked _ v txn t (txn == t) acts all e
ended_step s v (Close txn end) group acts all = ended_closed s txn end group v (held_by (v.standing txn)) acts all
ended_step s v Drain group acts all = all

closed_in : (s : Source) (P : List Step) → EndedAreClosed (view s P) (actions P)
closed_in s [] = λ t e. absurd cc
closed_in s (x ∷ P) = ended_step s (view s P) x.action x.group (actions P) (closed_in s P)

-- ---- the law

none_ended : (S : StayClosed) (L : List Meaning) (session : List ℕ) (t : Transaction) → open_transaction L session ≡ Some t → IsClosedIn t.txn (actions_of L) → ⊥
none_ended S L session t is_open i =
    let w = closed_line L t.txn i in
    S w.before w.line w.closed w.is w.later session t (ap (λ l. open_transaction l session) (sym w.whole) ∙ is_open) (sym w.txn_is)

fresh_ask : (S : StayClosed) (s : Source) (L : List Meaning) (P : List Step) (session : List ℕ) (t : Transaction) → actions P ≡ actions_of L → open_transaction L session ≡ Some t → is_closed ((view s P).standing t.txn) ≡ false
fresh_ask S s L P session t same is_open = by_standing (is_closed ((view s P).standing t.txn)) refl
  where
    by_standing : (b : Bool) → is_closed ((view s P).standing t.txn) ≡ b → b ≡ false
    by_standing false e = refl
    by_standing true e = absurd (none_ended S L session t is_open (subst (IsClosedIn t.txn) same (closed_in s P t.txn e)))

asks_fresh : (S : StayClosed) (s : Source) (L : List Meaning) (m : Meaning) (P : List Step) (a : Action) → actions P ≡ actions_of L → action_of L m ≡ Some a → AsksForNoClosed (view s P) a
asks_fresh S s L m P (Ask txn moment login) same e =
    let (session, t, is_open, is) = asked_open L m txn moment login e in
    subst (λ (u : ℕ). is_closed ((view s P).standing u) ≡ false) is (fresh_ask S s L P session t same is_open)
asks_fresh S s L m P (Close txn end) same e = tt
asks_fresh S s L m P Drain same e = tt

pub none_returns : (S : StayClosed) (s : Source) (L : List Meaning) (P : List Step) → actions P ≡ actions_of L → NoneReturns s P
none_returns S s [] [] e = tt
none_returns S s [] (x ∷ P) e = absurd (nil_cons x.action (actions P) (sym e))
none_returns S s (m ∷ L) P e = by_action (none_returns S s L) P (action_of L m) refl e
  where
    by_action : ((Q : List Step) → actions Q ≡ actions_of L → NoneReturns s Q) → (P : List Step) (o : Option Action) → action_of L m ≡ o → actions P ≡ push o (actions_of L) → NoneReturns s P
    by_action earlier P None f e = earlier P e
    by_action earlier [] (Some a) f e = absurd (nil_cons a (actions_of L) e)
    by_action earlier (x ∷ P) (Some a) f e =
        let same = cons_tail x.action a (actions P) (actions_of L) e in
        let is : x.action ≡ a = cons_head x.action a (actions P) (actions_of L) e in
        (subst (AsksForNoClosed (view s P)) (sym is) (asks_fresh S s L m P a same f), earlier P same)
