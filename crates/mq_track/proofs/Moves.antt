-- A tracker that stands at a past, after one more line.
use Rattle.std.proofs.Common.{◌≡◌, ℕ, ◌+◌, List, ◌∷◌, Bool, true, false, refl, sym, ap, ◌∙◌, subst}
use Rattle.std.specs.Prelude.{Option, Some, Result, Ok, Err, OnOk, MatchResult, MatchBool}
use Rattle.mq_track.specs.declared.fault.TrackFault.{TrackFault}
use Rattle.mq_track.specs.declared.fault.TrackFault.TheVariants.{Exhausted}
use Rattle.std.specs.Str.{bytes_eq}
use Rattle.std.specs.Cmp.Lexicographic.{bytes_decides}
use Rattle.mq_line.specs.Grammar.{Meaning}
use Rattle.mq_track.specs.Events.{Event, Passed, Began, Ended, Left, Nothing, event}
use Rattle.mq_track.specs.Sessions.{login, open_transaction, begin_count, session_of}
use Rattle.mq_track.specs.State.{State, TracksAt, Known, known, Learns}
use Rattle.mq_track.specs.Steps.{Steps, brought}
use Rattle.mq_track.specs.declared.closing.Closing.{Closing}
use Rattle.mq_track.proofs.Lookback.{login-more, open-more, login_after, open_after, login-apart, open-apart}

-- what the past gives for s
abbrev given : List Meaning → List ℕ → Known
given past s = record { login = login past s; transaction = open_transaction past s }

either : (b : Bool) (P : Type 0) → (b ≡ true → P) → (b ≡ false → P) → P
either true P y n = y refl
either false P y n = n refl

pub same_bytes : (s : List ℕ) → bytes_eq s s ≡ true
same_bytes s = (bytes_decides s s).1 refl

-- what was learned of one session, where the line is of that session
learned : (old new : State) (past : List Meaning) (line : Meaning) (s : List ℕ) (what : Known) → TracksAt old past → Learns old.sessions new.sessions s what → session_of (event line) ≡ Some s → what ≡ given (line ∷ past) s
    → (q : List ℕ) → known new.sessions q ≡ given (line ∷ past) q
learned old new past line s what stands learns of here q = either (bytes_eq s q) (known new.sessions q ≡ given (line ∷ past) q)
    (λ y. let e : known new.sessions q ≡ what = rw y at (learns q) in subst (λ (l : List ℕ). known new.sessions q ≡ given (line ∷ past) l) ((bytes_decides s q).0 y) (e ∙ here))
    (λ n. let e : known new.sessions q ≡ known old.sessions q = rw n at (learns q) in
    e ∙ (stands.sessions q ∙ (ap (λ l. record { login = l; transaction = open_transaction past q }) (sym (login-apart line past s q of n)) ∙ ap (λ o. record { login = login (line ∷ past) q; transaction = o }) (sym (open-apart line past s q of n)))))

-- how many tx-begins there are after an event
abbrev count_after : Event → ℕ → ℕ
count_after (Began session message moment) n = n + 1
count_after _ n = n

count-more : (e : Event) (line : Meaning) (past : List Meaning) → event line ≡ e → begin_count (line ∷ past) ≡ count_after e (begin_count past)
count-more (Passed session login) line past is = rw is refl
count-more (Began session message moment) line past is = rw is refl
count-more (Ended session message end) line past is = rw is refl
count-more (Left session) line past is = rw is refl
count-more Nothing line past is = rw is refl

-- what the past and one more line give
abbrev given_after : List Meaning → Event → List ℕ → Known
given_after past e s = record { login = login_after s e (login past s); transaction = open_after s (count_after e (begin_count past)) e (open_transaction past s) }

given-more : (e : Event) (line : Meaning) (past : List Meaning) (s : List ℕ) → event line ≡ e → given (line ∷ past) s ≡ given_after past e s
given-more e line past s is =
    ap (λ l. record { login = l; transaction = open_transaction (line ∷ past) s }) (login-more line past s ∙ ap (λ v. login_after s v (login past s)) is)
    ∙ ap (λ t. record { login = login_after s e (login past s); transaction = t })
    (open-more line past s ∙ (ap (λ n. open_after s n (event line) (open_transaction past s)) (count-more e line past is)
    ∙ ap (λ v. open_after s (count_after e (begin_count past)) v (open_transaction past s)) is))

-- the session of the event itself
here : (e : Event) (old : State) (past : List Meaning) (line : Meaning) (s : List ℕ) (what : Known) → event line ≡ e → what ≡ given_after past e s → what ≡ given (line ∷ past) s
here e old past line s what is same = same ∙ sym (given-more e line past s is)

given_login : (old : State) (past : List Meaning) (s : List ℕ) → TracksAt old past → (known old.sessions s).login ≡ login past s
given_login old past s stands = ap (λ k. k.login) (stands.sessions s)

given_open : (old : State) (past : List Meaning) (s : List ℕ) → TracksAt old past → (known old.sessions s).transaction ≡ open_transaction past s
given_open old past s stands = ap (λ k. k.transaction) (stands.sessions s)

of_session : (e : Event) (line : Meaning) (s : List ℕ) → event line ≡ e → session_of e ≡ Some s → session_of (event line) ≡ Some s
of_session e line s is of = rw is of

stands_by : (e : Event) (old new : State) (past : List Meaning) (line : Meaning) → event line ≡ e → TracksAt old past → Steps old new e → TracksAt new (line ∷ past)
stands_by (Passed s login) old new past line is stands steps = record {
  sessions = learned old new past line s _ stands steps.0 (of_session (Passed s login) line s is refl)
      (here (Passed s login) old past line s _ is (rw (same_bytes s, given_open old past s stands) refl));
  begins = steps.1 ∙ (stands.begins ∙ sym (count-more (Passed s login) line past is));
}
stands_by (Began s message moment) old new past line is stands steps = record {
  sessions = learned old new past line s _ stands steps.0 (of_session (Began s message moment) line s is refl)
      (here (Began s message moment) old past line s _ is (rw (same_bytes s, given_login old past s stands, stands.begins) refl));
  begins = steps.1 ∙ (ap (λ n. n + 1) stands.begins ∙ sym (count-more (Began s message moment) line past is));
}
stands_by (Ended s message end) old new past line is stands steps = record {
  sessions = learned old new past line s _ stands steps.0 (of_session (Ended s message end) line s is refl)
      (here (Ended s message end) old past line s _ is (rw (same_bytes s, given_login old past s stands, given_open old past s stands) refl));
  begins = steps.1 ∙ (stands.begins ∙ sym (count-more (Ended s message end) line past is));
}
stands_by (Left s) old new past line is stands steps = record {
  sessions = learned old new past line s _ stands steps.0 (of_session (Left s) line s is refl)
      (here (Left s) old past line s _ is (rw (same_bytes s) refl));
  begins = steps.1 ∙ (stands.begins ∙ sym (count-more (Left s) line past is));
}
stands_by Nothing old new past line is stands steps = record {
  sessions = λ q. ap (λ (t : State). known t.sessions q) steps ∙ (stands.sessions q ∙ sym (given-more Nothing line past q is));
  begins = ap (λ (t : State). t.begins) steps ∙ (stands.begins ∙ sym (count-more Nothing line past is));
}

-- a step of the tracker is one more line of the past
pub stands_on : (old new : State) (past : List Meaning) (line : Meaning) → TracksAt old past → Steps old new (event line) → TracksAt new (line ∷ past)
stands_on old new past line stands steps = stands_by (event line) old new past line refl stands steps

-- ---- a step that may be refused

stands_after : (r : Result (Option Closing) TrackFault) (F : TrackFault → Type 0) (e : Event) (old new : State) (line : Meaning) → e ≡ event line
    → MatchResult r (λ c. (c ≡ brought old e) × Steps old new e) F → OnOk r ((past : List Meaning) → TracksAt old past → TracksAt new (line ∷ past))
stands_after (Ok c) F e old new line is h = λ past stands. stands_on old new past line stands (subst (λ (v : Event). Steps old new v) is h.1)
stands_after (Err f) F e old new line is h = tt

-- where the step isn't refused the tracker stands at one more line
pub stands_if_ok : (b : Bool) (r : Result (Option Closing) TrackFault) (F : TrackFault → Type 0) (e : Event) (old new : State) (line : Meaning) → e ≡ event line
    → MatchBool b (r ≡ Err Exhausted) (MatchResult r (λ c. (c ≡ brought old e) × Steps old new e) F) → OnOk r ((past : List Meaning) → TracksAt old past → TracksAt new (line ∷ past))
stands_if_ok true r F e old new line is h = rw h tt
stands_if_ok false r F e old new line is h = stands_after r F e old new line is h
