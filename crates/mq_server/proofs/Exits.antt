-- What stands at each way out of a connection.
use Rattle.std.proofs.Common.{Err, List, None, Ok, Option, Result, Some, [], ap, append-nil, arith, false, inl, inr, length, length-append, refl, subst, sym, true, ℕ, ◌++◌, ◌+◌, ◌<◌, ◌∙◌, ◌∷◌, ◌≡◌, ◌≤◌}
use Rattle.mq_server.proofs.Words.{Answered, Appends, Appends-trans, AppendsFront, Asks, Bad, BadFrame, Book, Consumes, Consumes-trans, CutFrame, Delivery, EndCause, Ended, Enough, Entry, Goes, InputEnd, IsAtEnd, IsBad, IsPart, IsPartial, IsQuiet, Leaves, Memory, Progress, Read, Refills, Replies, Reply, ReportedCall, ServeFault, Serves, State, Steps, Store, Tells, Tells-trans, Waits, Wire, Write, answer_to, answers, asked, calls, calls_of, failed_call, clash, frame, frames_of, history_after, last_call, next, no_rest, reply_body}
use Rattle.mq_server.proofs.Heads.{left_short, partial_short, some_behind}
use Rattle.mq_server.proofs.Stepping.{lacks_some}
use Rattle.mq_server.proofs.Telling.{Tells-all, Tells-kept, told_push}
use Rattle.mq_server.proofs.Running.{Came, Finds, SoFar, answered_more, came_more, came_read, due_here, frames_of_push}

-- the connection was served, and the ledger's history is the one after its deliveries, of which it told
abbrev pub Exits : Book → Option (List ReportedCall) → Option (List ReportedCall) → Wire → Wire → Result EndCause ServeFault → List Entry → Type 0
Exits b t u old new result history = (came : List Delivery) × (s : Serves (answer_to b) came old new result) × (history ≡ history_after b came) × Tells t u (calls_of s)

-- the same under another name of the result
pub exits_as : (b : Book) (t u : Option (List ReportedCall)) (old new : Wire) (result named : Result EndCause ServeFault) (history : List Entry) → named ≡ result → Exits b t u old new result history → Exits b t u old new named history
exits_as b t u old new result named history e x = subst (λ (r : Result EndCause ServeFault). Exits b t u old new r history) (sym e) x

-- what came and was read and written, and how it leaves
exit : {b : Book} (t u : Option (List ReportedCall)) {old new : Wire} {read rest : List ℕ} (text : List ℕ) {count : ℕ} {history : List Entry} {came : List Delivery} {result : Result EndCause ServeFault}
    → Came b read rest count history came → Consumes old.remaining new.remaining read → Appends old.contents new.contents text → length rest < 4610 → (leaves : Leaves (answer_to b) came (next rest) text new.remaining result)
    → Tells t u (calls (answer_to b) came ++ last_call (answer_to b) came (next rest) text new.remaining result leaves) → Exits b t u old new result history
exit t u {read = read} {rest = rest} text {came = came} c consumed written short leaves told =
    (came, record { read = read; rest = rest; text = text; consumed = consumed; written = written; asks = c.asks; ahead = short; leaves = leaves }, c.stored, told)

no_last : (came : List Delivery) → came ≡ came ++ []
no_last came = sym (append-nil came)

-- ---- a read that failed, or whose piece had no room

pub refill_failed : (b : Book) (t u : Option (List ReportedCall)) (old mid : Wire) (left : Option (List ℕ)) (from now : State) (piece : List ℕ) (history : List Entry) (e : ServeFault)
    → from.answered < 10000 → IsPartial (next from.rest) → length piece ≤ 4096 → SoFar b t u old mid from.rest from.answered history → Consumes mid.remaining left piece → Refills from now piece left (Err e)
    → Exits b t u old (record { remaining = left; contents = mid.contents }) (Err e) history
refill_failed b t u old mid left from now piece history Read few partial small s consumed told =
    exit _ _ _ (came_read piece s.all) (Consumes-trans _ _ _ _ _ s.consumed consumed) s.written (omega (arith, length-append from.rest piece, partial_short 512 from.rest partial))
    (record { few = omega (arith, s.all.counted); told = refl; partial = subst (λ q. IsPartial (next q)) (sym (no_rest from.rest piece told.0)) partial }) (Tells-all t u _ s.told)
refill_failed b t u old mid left from now piece history Memory few partial small s consumed told =
    exit _ _ _ (came_read piece s.all) (Consumes-trans _ _ _ _ _ s.consumed consumed) s.written (omega (arith, length-append from.rest piece, partial_short 512 from.rest partial))
    (record { done = s.came; last = None; all = no_last s.came; few = omega (arith, s.all.counted); wanted = some_behind 512 (from.rest ++ piece) (omega (arith, length-append from.rest piece, told.0)); told = refl }) (Tells-all t u _ s.told)
refill_failed b t u old mid left from now piece history e few partial small s consumed told = absurd told

-- ---- the same so far, where no request came

-- the ledger's history is as it was, and it told of nothing
abbrev unasked : {b : Book} {t u v : Option (List ReportedCall)} {old mid : Wire} {held : List ℕ} {count : ℕ} {was history : List Entry} → SoFar b t u old mid held count was → history ≡ was → Tells u v [] → SoFar b t v old mid held count history
unasked {t = t} {u = u} {v = v} s same tells = record {
  came = s.came;
  read = s.read;
  consumed = s.consumed;
  written = s.written;
  told = Tells-kept t u v _ s.told tells;
  all = record { asks = s.all.asks; counted = s.all.counted; stored = same ∙ s.all.stored };
}

-- nothing was handed on
abbrev unwritten : {b : Book} {t u : Option (List ReportedCall)} {old mid : Wire} (holds : Option (List ℕ)) {held replies : List ℕ} {count : ℕ} {history : List Entry} → SoFar b t u old mid held count history → replies ≡ [] → Appends mid.contents holds replies → SoFar b t u old (record { remaining = mid.remaining; contents = holds }) held count history
unwritten {old = old} {mid = mid} holds s none sent = record {
  came = s.came;
  read = s.read;
  consumed = s.consumed;
  written = subst (Appends old.contents holds) (append-nil _) (Appends-trans old.contents mid.contents holds _ _ s.written (subst (Appends mid.contents holds) none sent));
  told = s.told;
  all = s.all;
}

-- ---- what an attempt did to the replies of a connection that had none, and what was handed on

module _ (b k : Book) (t u v : Option (List ReportedCall)) (old mid : Wire) (holds : Option (List ℕ)) (c now : State) (history : List Entry) (none : c.replies ≡ []) (s : SoFar b t u old mid c.rest c.answered k.history) where
  abbrev handed : Wire
  handed = record { remaining = mid.remaining; contents = holds }

  only_added : {bytes : List ℕ} → now.replies ≡ c.replies ++ bytes → now.replies ≡ bytes
  only_added {bytes} added = added ∙ ap (λ (q : List ℕ). q ++ bytes) none

  -- no request came, and nothing was added
  quiet_on : now.replies ≡ c.replies → IsQuiet k u history v → Appends mid.contents holds now.replies → SoFar b t v old handed c.rest c.answered history
  quiet_on kept (same, tells) sent = unwritten holds (unasked s same tells) (kept ∙ none) sent

  -- a request came, and its reply was handed on
  replied_on : Finds b k → Replies k u c.rest c.replies now.rest now.replies history v → Appends mid.contents holds now.replies → SoFar b t v old handed now.rest (c.answered + 1) history
  replied_on f (body, x, stands, added, (d, spelled, a, h, tells)) sent = answered_more d f s stands spelled a h tells (subst (Appends mid.contents holds) (only_added added) sent)

  pub answered_on : Finds b k → now.answered ≡ c.answered + 1 → Steps k u c.is_closed c.rest c.replies Answered now.rest now.replies history v → Appends mid.contents holds now.replies → SoFar b t v old handed now.rest now.answered history
  answered_on f count replied sent = subst (λ (n : ℕ). SoFar b t v old handed now.rest n history) (sym count) (replied_on f replied sent)

  pub waits_on : now ≡ c → Steps k u c.is_closed c.rest c.replies Waits now.rest now.replies history v → Appends mid.contents holds now.replies → SoFar b t v old handed c.rest c.answered history
  waits_on is still sent = quiet_on (ap (λ (q : State). q.replies) is) still sent

  module _ (few : c.answered < 10000) (short : length c.rest < 4610) where
    -- ---- replies that couldn't be handed on

    bad_unsent : IsBad (next c.rest) → now.replies ≡ c.replies ++ frame (reply_body Bad) → IsQuiet k u history v → AppendsFront mid.contents holds now.replies → Exits b t v old handed (Err Write) history
    bad_unsent bad added (same, tells) (part, more, fits, sent) =
        let on = unasked s same tells in
        exit _ _ _ on.all on.consumed (Appends-trans old.contents mid.contents holds _ _ s.written sent) short
        (record { done = s.came; last = None; all = no_last s.came; few = omega (arith, s.all.counted, few); bad = bad; part = part; begins = (more, sym (only_added added) ∙ fits); told = refl }) (Tells-all t v _ on.told)

    reply_unsent : Finds b k → Replies k u c.rest c.replies now.rest now.replies history v → AppendsFront mid.contents holds now.replies → Exits b t v old handed (Err Write) history
    reply_unsent f (body, x, stands, added, (d, spelled, a, h, tells)) (part, more, fits, sent) =
        let due = due_here d f s.all a in
        exit _ _ _ (came_more d f s.all stands spelled h) s.consumed (Appends-trans old.contents mid.contents holds _ _ s.written sent) (omega (arith, short, left_short 512 c.rest body now.rest stands))
        (record { done = s.came; last = Some d; all = refl; few = omega (arith, s.all.counted, few); bad = tt; part = part; begins = subst (λ (r : Reply). IsPart part (frame (reply_body r))) due (more, sym (only_added added) ∙ fits); told = refl })
        (Tells-all t v _ (told_push (answer_to b) s.came d x t u v due s.told tells))

    -- nothing waits where nothing was added
    none_added : now.replies ≡ c.replies → 0 < length now.replies → ⊥
    none_added kept some = omega (arith, some, ap length (kept ∙ none))

    pub unsent : (progress : Progress) → Finds b k → Goes c progress now → Steps k u c.is_closed c.rest c.replies progress now.rest now.replies history v → 0 < length now.replies → AppendsFront mid.contents holds now.replies → Exits b t v old handed (Err Write) history
    unsent Answered f goes replied some sent = reply_unsent f replied sent
    unsent Waits f (is, closed, partial) still some sent = absurd (none_added (ap (λ (q : State). q.replies) is) some)
    unsent (Ended (Ok InputEnd)) f goes (over, nothing, kept, still) some sent = absurd (none_added kept some)
    unsent (Ended (Ok CutFrame)) f goes (over, cut, kept, still) some sent = absurd (none_added kept some)
    unsent (Ended (Ok BadFrame)) f goes (bad, added, still) some sent = bad_unsent bad added still sent
    unsent (Ended (Ok Enough)) f goes replied some sent = reply_unsent f replied sent
    unsent (Ended (Err Memory)) f goes (kept, which) some sent = absurd (none_added kept some)
    unsent (Ended (Err Store)) f goes (kept, failed) some sent = absurd (none_added kept some)
    unsent (Ended (Err fault)) f goes steps some sent = absurd steps

    -- ---- the ends, where what waited was handed on

    silent : (rs : List Reply) → frames_of rs ≡ frames_of (rs ++ [])
    silent rs = ap frames_of (sym (append-nil rs))

    pub ended : (end : Result EndCause ServeFault) → (c.is_closed ≡ true → IsAtEnd mid.remaining) → Finds b k → Goes c (Ended end) now → Steps k u c.is_closed c.rest c.replies (Ended end) now.rest now.replies history v → Appends mid.contents holds now.replies
        → Exits b t v old handed end history
    ended (Ok InputEnd) left f goes (over, nothing, kept, still) sent =
        let on = quiet_on kept still sent in
        exit t v (frames_of (answers (answer_to b) on.came)) on.all on.consumed on.written short (silent (answers (answer_to b) on.came), (omega (arith, on.all.counted, few), nothing, left over)) (Tells-all t v (calls (answer_to b) on.came) on.told)
    ended (Ok CutFrame) left f goes (over, cut, kept, still) sent =
        let on = quiet_on kept still sent in
        exit t v (frames_of (answers (answer_to b) on.came)) on.all on.consumed on.written short (silent (answers (answer_to b) on.came), (omega (arith, on.all.counted, few), cut, left over)) (Tells-all t v (calls (answer_to b) on.came) on.told)
    ended (Ok BadFrame) left f goes (bad, added, (same, tells)) sent =
        let on = unasked s same tells in
        exit t v (frames_of (answers (answer_to b) s.came) ++ frame (reply_body Bad)) on.all on.consumed (Appends-trans old.contents mid.contents holds (frames_of (answers (answer_to b) s.came)) (frame (reply_body Bad)) s.written (subst (Appends mid.contents holds) (only_added added) sent)) short
        (sym (frames_of_push (answers (answer_to b) s.came) Bad), (omega (arith, s.all.counted, few), bad)) (Tells-all t v (calls (answer_to b) on.came) on.told)
    ended (Ok Enough) left f (end, (count, all), closed, less) replied sent =
        let on = replied_on f replied sent in
        exit t v (frames_of (answers (answer_to b) on.came)) on.all on.consumed on.written (omega (arith, short, less)) (silent (answers (answer_to b) on.came), omega (arith, on.all.counted, count, all)) (Tells-all t v (calls (answer_to b) on.came) on.told)
    ended (Err Memory) left f goes (kept, inl (some, still)) sent =
        let on = quiet_on kept still sent in
        exit t v (frames_of (answers (answer_to b) on.came)) on.all on.consumed on.written short (record { done = on.came; last = None; all = no_last on.came; few = omega (arith, on.all.counted, few); wanted = lacks_some (next c.rest) some; told = refl }) (Tells-all t v (calls (answer_to b) on.came) on.told)
    ended (Err Memory) left f goes (kept, inr (body, x, stands, (d, spelled, a, h, tells))) sent =
        let on = unwritten holds s (kept ∙ none) sent in
        exit t v (frames_of (answers (answer_to b) s.came)) (came_more d f s.all stands spelled h) on.consumed on.written (omega (arith, short, left_short 512 c.rest body now.rest stands))
        (record { done = s.came; last = Some d; all = refl; few = omega (arith, s.all.counted, few); wanted = tt; told = refl })
        (Tells-all t v (calls (answer_to b) (s.came ++ d ∷ [])) (told_push (answer_to b) s.came d x t u v (due_here d f s.all a) s.told tells))
    ended (Err Store) left f goes (kept, (body, after, stands, (request, spelled, same, tells))) sent =
        let on = unwritten holds s (kept ∙ none) sent in
        exit {b = b} t v (frames_of (answers (answer_to b) s.came)) (record { asks = s.all.asks; counted = s.all.counted; stored = same ∙ s.all.stored }) on.consumed on.written short
        (record { few = omega (arith, s.all.counted, few); told = refl; request = request; body = body; after = after; stands = stands; spelled = spelled }) (Tells-trans t u v (calls (answer_to b) s.came) (failed_call request ∷ []) s.told tells)
    ended (Err fault) left f goes steps sent = absurd steps

-- ---- a connection after a read, which gave a piece or closed it

pub record Refilled (c now : State) (piece : List ℕ) (left : Option (List ℕ)) : Type 0 where
  pub end : now.end ≡ c.end
  pub replies : now.replies ≡ c.replies
  pub answered : now.answered ≡ c.answered
  pub rest : now.rest ≡ c.rest ++ piece
  pub closed : c.is_closed ≡ false → now.is_closed ≡ true → IsAtEnd left

pub refilled : (c now : State) (piece : List ℕ) (left : Option (List ℕ)) → Refills c now piece left (Ok tt) → Refilled c now piece left
refilled c now piece left (inl (some, is)) = record {
  end = ap (λ (q : State). q.end) is;
  replies = ap (λ (q : State). q.replies) is;
  answered = ap (λ (q : State). q.answered) is;
  rest = ap (λ (q : State). q.rest) is;
  closed = λ open_ over. absurd (clash now.is_closed over (ap (λ (q : State). q.is_closed) is ∙ open_));
}
refilled c now piece left (inr (none, at_end, is)) = record {
  end = ap (λ (q : State). q.end) is;
  replies = ap (λ (q : State). q.replies) is;
  answered = ap (λ (q : State). q.answered) is;
  rest = ap (λ (q : State). q.rest) is ∙ sym (no_rest c.rest piece none);
  closed = λ open_ over. at_end;
}

pub read_on : (b : Book) (t u : Option (List ReportedCall)) (old mid : Wire) (left : Option (List ℕ)) (c now : State) (piece : List ℕ) (history : List Entry)
    → SoFar b t u old mid c.rest c.answered history → Consumes mid.remaining left piece → Refilled c now piece left → SoFar b t u old (record { remaining = left; contents = mid.contents }) now.rest now.answered history
read_on b t u old mid left c now piece history s consumed r =
    let all = came_read piece s.all in
    record {
      came = s.came;
      read = s.read ++ piece;
      consumed = Consumes-trans _ _ _ _ _ s.consumed consumed;
      written = s.written;
      told = s.told;
      all = record { asks = subst (Asks (s.read ++ piece) (asked s.came)) (sym r.rest) all.asks; counted = all.counted ∙ sym r.answered; stored = all.stored };
    }
