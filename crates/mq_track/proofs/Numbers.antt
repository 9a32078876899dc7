-- The numbers of transactions: which are open, and that none comes twice.
use Rattle.std.proofs.Common.{◌≡◌, ◌≢◌, ℕ, ◌+◌, ◌<◌, ◌≤◌, List, [], ◌∷◌, ◌++◌, Bool, true, false, refl, sym, ap, ◌∙◌, subst, inl, inr, arith}
use Rattle.std.specs.Prelude.{◌&&◌, ◌||◌, ◌⊎◌, Option, None, Some, if◌then◌else◌}
use Rattle.std.specs.Option.{option_and_then}
use Rattle.std.specs.Str.{bytes_eq}
use Rattle.std.specs.Cmp.Lexicographic.{bytes_decides}
use Rattle.std.proofs.lemmas.Option.{none-some, cond_some, option_and_then_some}
use Rattle.std.proofs.lemmas.Bool.{false≢true}
use Rattle.mq_line.specs.Grammar.{Meaning}
use Rattle.mq_track.specs.Events.{Event, Passed, Began, Ended, Left, Nothing, event}
use Rattle.mq_track.specs.Sessions.{Transaction, begins, ends, is_begin, is_named, open_transaction, begin_count, session_of, closing, closing_of}
use Rattle.mq_track.specs.Steps.{left_open}
use Rattle.mq_track.specs.declared.closing.Closing.{Closing}
use Rattle.mq_track.proofs.Lookback.{open_after, open-more}

-- the event begins the transaction t of s under the number n
record IsNew (s : List ℕ) (n : ℕ) (e : Event) (t : Transaction) : Type 0 where
  of : session_of e ≡ Some s
  begins : is_begin e ≡ true
  number : t.txn ≡ n

abbrev Came : List ℕ → ℕ → Event → Option Transaction → Transaction → Type 0
Came s n e before t = IsNew s n e t ⊎ (before ≡ Some t)

began : (b : Bool) (u s message : List ℕ) (moment n : ℕ) (before : Option Transaction) (t : Transaction) → (b ≡ true → u ≡ s)
    → (if b then Some (record { txn = n; message = message; moment = moment }) else before) ≡ Some t → Came s n (Began u message moment) before t
began true u s message moment n before t same h = inl (record { of = ap Some (same refl); begins = refl; number = let e : n ≡ t.txn = cc in sym e })
began false u s message moment n before t same h = inr h

kept : (b : Bool) (message : Option (List ℕ)) (o t : Transaction) → (if b then None else Some o) ≡ Some t → Some o ≡ Some t
kept true message o t h = absurd (none-some t h)
kept false message o t h = h

still : (message : Option (List ℕ)) (before : Option Transaction) (t : Transaction) → option_and_then (left_open message) before ≡ Some t → before ≡ Some t
still message None t h = h
still message (Some o) t h = kept (is_named message o.message) message o t h

ended : (b : Bool) (message : Option (List ℕ)) (before : Option Transaction) (t : Transaction) → (if b then option_and_then (left_open message) before else before) ≡ Some t → before ≡ Some t
ended true message before t h = still message before t h
ended false message before t h = h

left : (b : Bool) (before : Option Transaction) (t : Transaction) → (if b then None else before) ≡ Some t → before ≡ Some t
left true before t h = absurd (none-some t h)
left false before t h = h

-- what is open after an event began by it, or was open before
came : (e : Event) (s : List ℕ) (n : ℕ) (before : Option Transaction) (t : Transaction) → open_after s n e before ≡ Some t → Came s n e before t
came (Passed u login) s n before t h = inr h
came (Began u message moment) s n before t h = began (bytes_eq u s) u s message moment n before t (bytes_decides u s).0 h
came (Ended u message end) s n before t h = inr (ended (bytes_eq u s) message before t h)
came (Left u) s n before t h = inr (left (bytes_eq u s) before t h)
came Nothing s n before t h = inr h

came_in : (line : Meaning) (past : List Meaning) (s : List ℕ) (t : Transaction) → open_transaction (line ∷ past) s ≡ Some t → Came s (begin_count (line ∷ past)) (event line) (open_transaction past s) t
came_in line past s t h = came (event line) s (begin_count (line ∷ past)) (open_transaction past s) t (sym (open-more line past s) ∙ h)

count_grows : (b : Bool) (n : ℕ) → n ≤ (if b then n + 1 else n)
count_grows true n = omega arith
count_grows false n = omega arith

-- a tx-begin has the next number
counted : (line : Meaning) (past : List Meaning) → is_begin (event line) ≡ true → begin_count (line ∷ past) ≡ begin_count past + 1
counted line past is = rw is refl

grows : (line : Meaning) (past : List Meaning) → begin_count past ≤ begin_count (line ∷ past)
grows line past = count_grows (is_begin (event line)) (begin_count past)

pub numbered : (past : List Meaning) (s : List ℕ) (t : Transaction) → open_transaction past s ≡ Some t → (0 < t.txn) × (t.txn ≤ begin_count past)
numbered [] s t h = absurd (none-some t h)
numbered (line ∷ past) s t h = elim (came_in line past s t h) [
  | inl new ↦ (let n = new.number in let c = counted line past new.begins in (omega (arith, n, c), omega (arith, n)))
  | inr was ↦ (let i = numbered past s t was in let g = grows line past in (i.0, omega (arith, i, g)))
]

pub one_session : (past : List Meaning) (s r : List ℕ) (t u : Transaction) → open_transaction past s ≡ Some t → open_transaction past r ≡ Some u → t.txn ≡ u.txn → s ≡ r
one_session [] s r t u h k same = absurd (none-some t h)
one_session (line ∷ past) s r t u h k same = elim (came_in line past s t h) [
  | inl new ↦ elim (came_in line past r u k) [
    | inl other ↦ (let e : Some s ≡ Some r = sym new.of ∙ other.of in cc)
    | inr was ↦ (let n = new.number in let c = counted line past new.begins in let b = numbered past r u was in absurd (omega (arith, n, c, b, same)))
  ]
  | inr was ↦ elim (came_in line past r u k) [
    | inl new ↦ (let n = new.number in let c = counted line past new.begins in let b = numbered past s t was in absurd (omega (arith, n, c, b, same)))
    | inr other ↦ one_session past s r t u was other same
  ]
]

-- a number that was given, and that no open transaction has
record IsOver (past : List Meaning) (n : ℕ) : Type 0 where
  given : n ≤ begin_count past
  nowhere : (s : List ℕ) (t : Transaction) → open_transaction past s ≡ Some t → t.txn ≢ n

over_stays : (line : Meaning) (past : List Meaning) (n : ℕ) → IsOver past n → IsOver (line ∷ past) n
over_stays line past n over = record {
  given = let g = grows line past in let o = over.given in omega (arith, g, o);
  nowhere = λ s t h same. elim (came_in line past s t h) [
    | inl new ↦ (let k = new.number in let c = counted line past new.begins in let o = over.given in absurd (omega (arith, k, c, o, same)))
    | inr was ↦ over.nowhere s t was same
  ];
}

over_later : (later past : List Meaning) (n : ℕ) → IsOver past n → IsOver (later ++ past) n
over_later [] past n over = over
over_later (line ∷ later) past n over = over_stays line (later ++ past) n (over_later later past n over)

-- ---- a closing

begin_gone : (b : Bool) (u s message : List ℕ) (moment n : ℕ) (o t : Transaction) → (b ≡ true → u ≡ s) → (b || false) ≡ true
    → (if b then Some (record { txn = n; message = message; moment = moment }) else Some o) ≡ Some t → IsNew s n (Began u message moment) t
begin_gone true u s message moment n o t same is h = record { of = ap Some (same refl); begins = refl; number = let e : n ≡ t.txn = cc in sym e }
begin_gone false u s message moment n o t same is h = absurd (false≢true is)

end_gone : (b named : Bool) (o t : Transaction) → (b && named) ≡ true → (if b then (if named then None else Some o) else Some o) ≡ Some t → ⊥
end_gone true true o t is h = none-some t h
end_gone true false o t is h = false≢true is
end_gone false named o t is h = false≢true is

left_gone : (b : Bool) (o t : Transaction) → b ≡ true → (if b then None else Some o) ≡ Some t → ⊥
left_gone true o t is h = none-some t h
left_gone false o t is h = false≢true is

-- what is open in s after an event that ends o began by it
gone : (e : Event) (s : List ℕ) (n : ℕ) (o t : Transaction) → (begins s e || ends s o.message e) ≡ true → open_after s n e (Some o) ≡ Some t → IsNew s n e t
gone (Passed u login) s n o t is h = absurd (false≢true is)
gone (Began u message moment) s n o t is h = begin_gone (bytes_eq u s) u s message moment n o t (bytes_decides u s).0 is h
gone (Ended u message end) s n o t is h = absurd (end_gone (bytes_eq u s) (is_named message o.message) o t is h)
gone (Left u) s n o t is h = absurd (left_gone (bytes_eq u s) o t is h)
gone Nothing s n o t is h = absurd (false≢true is)

-- the line ends the transaction o of s, whose number is n
pub record Closes (past : List Meaning) (line : Meaning) (n : ℕ) : Type 0 where
  pub s : List ℕ
  pub o : Transaction
  pub was : open_transaction past s ≡ Some o
  pub number : n ≡ o.txn
  pub ends_it : (begins s (event line) || ends s o.message (event line)) ≡ true

pub closes : (past : List Meaning) (line : Meaning) (closed : Closing) → closing past line ≡ Some closed → Closes past line closed.txn
closes past line closed is =
    option_and_then_some (λ s. option_and_then (closing_of s (event line)) (open_transaction past s)) (session_of (event line)) closed is (λ s of h.
    option_and_then_some (closing_of s (event line)) (open_transaction past s) closed h (λ o was k.
    let p = cond_some (begins s (event line) || ends s o.message (event line)) _ closed k in
    record { s = s; o = o; was = was; number = ap (λ (c : Closing). c.txn) (sym p.1); ends_it = p.0 }))

over_now : (line : Meaning) (past : List Meaning) (n : ℕ) → Closes past line n → IsOver (line ∷ past) n
over_now line past n c =
    let b = numbered past c.s c.o c.was in
    let g = grows line past in
    let k = c.number in
    let late : (t : Transaction) (q : List ℕ) → IsNew q (begin_count (line ∷ past)) (event line) t → t.txn ≡ n → ⊥ = λ t q new same. (let m = new.number in let d = counted line past new.begins in omega (arith, m, d, b, k, same)) in
    record {
      given = omega (arith, b, g, k);
      nowhere = λ q t h same. elim (came_in line past q t h) [
        | inl new ↦ late t q new same
        | inr was ↦ (let e : q ≡ c.s = one_session past q c.s t c.o was c.was (same ∙ k) in
            let there : open_transaction (line ∷ past) c.s ≡ Some t = subst (λ (l : List ℕ). open_transaction (line ∷ past) l ≡ Some t) e h in
            let after : open_after c.s (begin_count (line ∷ past)) (event line) (Some c.o) ≡ Some t =
            subst (λ (x : Option Transaction). open_after c.s (begin_count (line ∷ past)) (event line) x ≡ Some t) c.was (sym (open-more line past c.s) ∙ there) in
            late t c.s (gone (event line) c.s (begin_count (line ∷ past)) c.o t c.ends_it after) same)
      ];
    }

pub stay_closed : (past : List Meaning) (line : Meaning) (closed : Closing) → closing past line ≡ Some closed
    → (later : List Meaning) (s : List ℕ) (t : Transaction) → open_transaction (later ++ line ∷ past) s ≡ Some t → t.txn ≢ closed.txn
stay_closed past line closed is later s t h = (over_later later (line ∷ past) closed.txn (over_now line past closed.txn (closes past line closed is))).nowhere s t h
