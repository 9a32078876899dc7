-- How the life of a connection goes on as it answers.
use Rattle.std.proofs.Common.{Err, IsSome, List, None, Ok, Option, Result, Some, [], ap, append-nil, append_assoc, arith, false, inl, inr, length, length-append, map, refl, subst, suc, sym, ℕ, ◌++◌, ◌+◌, ◌<◌, ◌∙◌, ◌∷◌, ◌≡◌, ◌≤◌}
use Rattle.mq_server.proofs.Words.{Answered, AreAnswered, Asks, Bad, BadFrame, Book, Counts, CutFrame, Delivery, EndCause, Ended, Enough, Entry, Exchange, Goes, HasReplies, InputEnd, IsBad, IsLegalBook, IsPartial, IsQuiet, Life, Lives, MakesCalls, MayLackMemory, Memory, Progress, Reply, ReportedCall, Request, ServeFault, SpellsRequest, StandsNext, State, Steps, Store, Tells, Tells-none, Tells-trans, Waits, Whole, answer_to, answers, asked, call, calls, deliveries, failed_call, false_true, frame, frames_of, history_after, map-append, next, option_to_list, replies_of, reply_body, told_of, with_exchanges}
use Rattle.mq_server.proofs.Deliveries.{Follows, answers_more, history_more, history_none, same_answers}
use Rattle.mq_server.proofs.Living.{living, said_at}
use Rattle.mq_server.proofs.Running.{asks_push, frames_of_push}

-- each life goes on by these exchanges, and the request at which the store failed stands next
abbrev pub Extended : State → State → List Exchange → Option Request → Type 0
Extended c now xs failed = (l : Life) → Lives l c → (rest : List ℕ) × Lives (with_exchanges l xs rest) now × StandsNext failed rest

-- some exchanges came with a ledger of that book, which then has this history, and each life goes on by them
abbrev pub Advances : Book → State → State → (List Exchange → Option Request → Type 0) → List Entry → Type 0
Advances k c now P history = (xs : List Exchange) × (failed : Option Request) × P xs failed × AreAnswered k xs history × Extended c now xs failed

-- ---- no exchange

pub same_life : (l : Life) → l ≡ with_exchanges l [] l.rest
same_life l = λ i. record { bytes = l.bytes; exchanges = sym (append-nil l.exchanges) i; rest = l.rest; taken = l.taken }

pub quiet : (k : Book) (history : List Entry) → IsLegalBook k → history ≡ k.history → AreAnswered k [] history
quiet k history legal same = record { replies = refl; after = same ∙ sym (history_none k legal) }

advance_failed : (k : Book) (c now : State) (P : List Exchange → Option Request → Type 0) (failed : Option Request) (history : List Entry) → P [] failed → IsLegalBook k → history ≡ k.history → ((l : Life) → Lives l c → Lives l now × StandsNext failed l.rest) → Advances k c now P history
advance_failed k c now P failed history p legal same f = ([], failed, p, quiet k history legal same, λ l lives. let (now_lives, stands) = f l lives in (l.rest, subst (λ (q : Life). Lives q now) (same_life l) now_lives, stands))

pub advance_still : (k : Book) (c now : State) (P : List Exchange → Option Request → Type 0) (history : List Entry) → P [] None → IsLegalBook k → history ≡ k.history → now ≡ c → Advances k c now P history
advance_still k c now P history p legal same is = advance_failed k c now P None history p legal same (λ l lives. (subst (Lives l) (sym is) lives, tt))

-- ---- an exchange

abbrev exchange : Delivery → Reply → Exchange
exchange d r = record { delivery = d; answer = r }

one : (k : Book) (d : Delivery) (r : Reply) (history : List Entry) → r ≡ answer_to k [] d → history ≡ history_after k (d ∷ []) → AreAnswered k (exchange d r ∷ []) history
one k d r history a h = record { replies = ap (λ (q : Reply). q ∷ []) a; after = h }

added_text : (l : Life) (replies replies' : List ℕ) (r : Reply) → l.taken ++ replies ≡ frames_of (replies_of l.exchanges) → replies' ≡ replies ++ frame (reply_body r) → l.taken ++ replies' ≡ frames_of (replies_of l.exchanges ++ r ∷ [])
added_text l replies replies' r text added =
    ap (λ (q : List ℕ). l.taken ++ q) added ∙ sym (append_assoc l.taken replies (frame (reply_body r))) ∙ ap (λ (q : List ℕ). q ++ frame (reply_body r)) text ∙ sym (frames_of_push (replies_of l.exchanges) r)

pub text_one : (l : Life) (replies replies' : List ℕ) (d : Delivery) (r : Reply) → l.taken ++ replies ≡ frames_of (replies_of l.exchanges) → replies' ≡ replies ++ frame (reply_body r)
    → l.taken ++ replies' ≡ frames_of (replies_of (l.exchanges ++ exchange d r ∷ []))
text_one l replies replies' d r text added = added_text l replies replies' r text added ∙ ap frames_of (sym (map-append (λ (x : Exchange). x.answer) l.exchanges (exchange d r ∷ [])))

pub count_one : (l : Life) (d : Delivery) (r : Reply) (n : ℕ) → length l.exchanges ≡ n → length (l.exchanges ++ exchange d r ∷ []) ≡ suc n
count_one l d r n e = omega (arith, length-append l.exchanges (exchange d r ∷ []), e)

-- each life goes on by it, to what is said then
pub extended_one : (c now : State) (body : List ℕ) (d : Delivery) (r : Reply) {end : Option (Result EndCause ServeFault)} → c.end ≡ None → now.end ≡ end → next c.rest ≡ Whole body now.rest → SpellsRequest body d.request
    → ((l : Life) → l.taken ++ c.replies ≡ frames_of (replies_of l.exchanges) → length l.exchanges ≡ c.answered → c.answered < 10000 → HasReplies (with_exchanges l (exchange d r ∷ []) now.rest) (l.taken ++ now.replies) now end)
    → Extended c now (exchange d r ∷ []) None
extended_one c now body d r going is stands spelled f = λ l lives.
    let (text, counted, under, same) = living l c going lives in
    let P : List Delivery → Type 0 = λ q. Asks l.bytes (asked q) now.rest in
    let more : deliveries l.exchanges ++ d ∷ [] ≡ deliveries (l.exchanges ++ exchange d r ∷ []) = sym (map-append (λ (x : Exchange). x.delivery) l.exchanges (exchange d r ∷ [])) in (
      now.rest,
      record {
        asks = subst P more (asks_push l.bytes l.rest body now.rest (deliveries l.exchanges) d lives.asks (ap next (sym same) ∙ stands) spelled);
        replies = said_at (with_exchanges l (exchange d r ∷ []) now.rest) (l.taken ++ now.replies) now (sym is) (f l text counted under);
      },
      tt,
    )

-- ---- one attempt

-- the calls that were made, the last of them the one at which the store failed, where it did
abbrev pub MakesCallsTo : Option (Result EndCause ServeFault) → Progress → Option (List ReportedCall) → Option (List ReportedCall) → List Exchange → Option Request → Type 0
MakesCallsTo was progress t u xs failed = (calls : MakesCalls was progress t u xs) × (calls.failed ≡ failed)

-- all that is said of the exchanges of one attempt or several
abbrev pub Told_so : Option (Result EndCause ServeFault) → Option (List ReportedCall) → Option (List ReportedCall) → Progress → ℕ → List Exchange → Option Request → Type 0
Told_so was t u progress most xs failed = Counts progress most (length xs) × MakesCallsTo was progress t u xs failed

-- the store didn't fail
one_worked : {t u : Option (List ReportedCall)} {progress : Progress} (xs : List Exchange) → length xs ≤ 1 → (progress ≡ Answered → length xs ≡ 1) → (progress ≡ Ended (Err Store) → ⊥) → Tells t u (told_of xs ++ []) → Told_so None t u progress 1 xs None
one_worked xs few all not told = (record { within = few; all = all }, (record { failed = None; told = told; ends = λ some. absurd (false_true some); only = λ was is. absurd (not is) }, refl))

pub ended_same : (x r : Result EndCause ServeFault) → Ended x ≡ Ended r → x ≡ r
ended_same x r e = cc

-- it ended, each life of it says so, and the ledger wasn't asked
ended_quiet : (k : Book) {t u : Option (List ReportedCall)} (c now : State) (end : Result EndCause ServeFault) (history : List Entry) → IsLegalBook k → c.end ≡ None → now.end ≡ Some end → IsQuiet k t history u → (end ≡ Err Store → ⊥)
    → ((l : Life) → l.taken ++ c.replies ≡ frames_of (replies_of l.exchanges) → length l.exchanges < 10000 → c.rest ≡ l.rest → HasReplies l (l.taken ++ now.replies) now (Some end))
    → Advances k c now (Told_so None t u (Ended end) 1) history
ended_quiet k {t} {u} c now end history legal going is (same, told) worked f =
    advance_failed k c now (Told_so None t u (Ended end) 1) None history (one_worked [] (omega arith) (λ e. cc) (λ e. worked (ended_same end (Err Store) e)) told) legal same (λ l lives.
    let (text, counted, under, rest) = living l c going lives in
    (record { asks = lives.asks; replies = said_at l (l.taken ++ now.replies) now (sym is) (f l text (omega (arith, counted, under)) rest) }, tt))

pub kept_text : (l : Life) (replies replies' : List ℕ) → l.taken ++ replies ≡ frames_of (replies_of l.exchanges) → replies' ≡ replies → l.taken ++ replies' ≡ frames_of (replies_of l.exchanges)
kept_text l replies replies' text kept = ap (λ (q : List ℕ). l.taken ++ q) kept ∙ text

silent_text : (l : Life) (replies replies' : List ℕ) → l.taken ++ replies ≡ frames_of (replies_of l.exchanges) → replies' ≡ replies → l.taken ++ replies' ≡ frames_of (replies_of l.exchanges ++ [])
silent_text l replies replies' text kept = kept_text l replies replies' text kept ∙ ap frames_of (sym (append-nil (replies_of l.exchanges)))

pub step_lives : (k : Book) (t u : Option (List ReportedCall)) (c now : State) (progress : Progress) (history : List Entry) → IsLegalBook k → c.end ≡ None → Goes c progress now
    → Steps k t c.is_closed c.rest c.replies progress now.rest now.replies history u → Advances k c now (Told_so None t u progress 1) history
step_lives k t u c now Answered history legal going (end, count, few, closed, less) (body, r, stands, added, (d, spelled, a, h, told)) = (
  exchange d r ∷ [],
  None,
  one_worked (exchange d r ∷ []) (omega arith) (λ is. refl) (λ e. cc) told,
  one k d r history a h,
  extended_one c now body d r going end stands spelled (λ l text counted under. (text_one l c.replies now.replies d r text added, count_one l d r c.answered counted ∙ sym count, few, refl)),
)
step_lives k t u c now Waits history legal going (is, closed, partial) (same, told) =
    advance_still k c now (Told_so None t u Waits 1) history (one_worked [] (omega arith) (λ e. cc) (λ e. cc) told) legal same is
step_lives k t u c now (Ended (Ok InputEnd)) history legal going (end, last, closed, less) (over, nothing, kept, still) =
    ended_quiet k c now (Ok InputEnd) history legal going end still (λ e. cc) (λ l text under rest. (silent_text l c.replies now.replies text kept, (under, ap next (sym rest) ∙ nothing, refl), closed ∙ over))
step_lives k t u c now (Ended (Ok CutFrame)) history legal going (end, last, closed, less) (over, cut, kept, still) =
    ended_quiet k c now (Ok CutFrame) history legal going end still (λ e. cc) (λ l text under rest. (silent_text l c.replies now.replies text kept, (under, ap next (sym rest) ∙ cut, refl), closed ∙ over))
step_lives k t u c now (Ended (Ok BadFrame)) history legal going (end, last, closed, less) (bad, added, still) =
    ended_quiet k c now (Ok BadFrame) history legal going end still (λ e. cc) (λ l text under rest. (added_text l c.replies now.replies Bad text added, (under, subst (λ (q : List ℕ). IsBad (next q)) rest bad), tt))
step_lives k t u c now (Ended (Ok Enough)) history legal going (end, (count, all), closed, less) (body, r, stands, added, (d, spelled, a, h, told)) = (
  exchange d r ∷ [],
  None,
  one_worked (exchange d r ∷ []) (omega arith) (λ e. cc) (λ e. cc) told,
  one k d r history a h,
  extended_one c now body d r going end stands spelled (λ l text counted under. (text_one l c.replies now.replies d r text added ∙ ap frames_of (sym (append-nil (replies_of (l.exchanges ++ exchange d r ∷ [])))), count_one l d r c.answered counted ∙ sym count ∙ all, tt)),
)
step_lives k t u c now (Ended (Err Memory)) history legal going (end, last, closed, less) (kept, inl (some, still)) =
    ended_quiet k c now (Err Memory) history legal going end still (λ e. cc) (λ l text under rest. (l.exchanges, None, sym (append-nil l.exchanges), under, subst (λ (q : List ℕ). MayLackMemory (next q)) rest some, kept_text l c.replies now.replies text kept))
step_lives k t u c now (Ended (Err Memory)) history legal going (end, last, closed, less) (kept, inr (body, r, stands, (d, spelled, a, h, told))) = (
  exchange d r ∷ [],
  None,
  one_worked (exchange d r ∷ []) (omega arith) (λ e. cc) (λ e. cc) told,
  one k d r history a h,
  extended_one c now body d r going end stands spelled (λ l text counted under. (l.exchanges, Some (exchange d r), refl, omega (arith, counted, under), tt, kept_text l c.replies now.replies text kept)),
)
step_lives k t u c now (Ended (Err Store)) history legal going (end, last, closed, less) (kept, (body, after, stands, (request, spelled, same, told))) =
    advance_failed k c now (Told_so None t u (Ended (Err Store)) 1) (Some request) history (record { within = omega arith; all = λ e. cc }, (record { failed = Some request; told = told; ends = λ some. refl; only = λ was is. refl }, refl)) legal same (λ l lives.
    let (text, counted, under, rest) = living l c going lives in
    let there = ap next (sym rest) ∙ stands in (
      record {
        asks = lives.asks;
        replies = said_at l (l.taken ++ now.replies) now (sym end) (kept_text l c.replies now.replies text kept, omega (arith, counted, under), (request, body, after, there, spelled));
      },
      (body, after, there, spelled),
    ))
step_lives k t u c now (Ended end) history legal going goes steps = absurd steps

-- ---- the calls of attempts, one after another

pub told_both : (xs ys : List Exchange) → told_of (xs ++ ys) ≡ told_of xs ++ told_of ys
told_both xs ys = map-append (λ (x : Exchange). call x.delivery x.answer) xs ys

-- the calls of so many frames, all answered
abbrev pub AllAnswered : Option (List ReportedCall) → Option (List ReportedCall) → ℕ → List Exchange → Option Request → Type 0
AllAnswered t u n xs failed = (length xs ≡ n) × Tells t u (told_of xs) × (failed ≡ None)

pub none_answered : (t : Option (List ReportedCall)) → AllAnswered t t 0 [] None
none_answered t = (refl, Tells-none t, refl)

told_more : (t u v : Option (List ReportedCall)) (xs ys : List Exchange) (failed : Option Request) → Tells t u (told_of xs) → Tells u v (told_of ys ++ map failed_call (option_to_list failed)) → Tells t v (told_of (xs ++ ys) ++ map failed_call (option_to_list failed))
told_more t u v xs ys failed before more =
    let last = map failed_call (option_to_list failed) in
    subst (Tells t v) (sym (append_assoc (told_of xs) (told_of ys) last) ∙ ap (λ (q : List ReportedCall). q ++ last) (sym (told_both xs ys))) (Tells-trans t u v (told_of xs) (told_of ys ++ last) before more)

-- one more, and it was answered
none_failed : (failed : Option Request) → (IsSome failed → Answered ≡ Ended (Err Store)) → failed ≡ None
none_failed None ends = refl
none_failed (Some request) ends = let e = ends refl in cc

pub one_more : (t u v : Option (List ReportedCall)) (n : ℕ) (progress : Progress) (xs ys : List Exchange) (was failed : Option Request) → progress ≡ Answered → AllAnswered t u n xs was → Told_so None u v progress 1 ys failed → AllAnswered t v (n + 1) (xs ++ ys) failed
one_more t u v n progress xs ys was failed is (counted, told, none) (counts, (calls, same)) =
    let gone : calls.failed ≡ None = none_failed calls.failed (λ some. sym is ∙ calls.ends some) in
    let P : Option Request → Type 0 = λ f. Tells t v (told_of (xs ++ ys) ++ map failed_call (option_to_list f)) in
    (omega (arith, length-append xs ys, counted, counts.all is), subst (Tells t v) (append-nil (told_of (xs ++ ys))) (subst P gone (told_more t u v xs ys calls.failed told calls.told)), sym same ∙ gone)

-- it had ended before, and no call was made
pub ended_calls : (t : Option (List ReportedCall)) (was : Option (Result EndCause ServeFault)) (r : Result EndCause ServeFault) (most : ℕ) → was ≡ Some r → Told_so was t t (Ended r) most [] None
ended_calls t was r most is = (
  record { within = omega arith; all = λ e. cc },
  (record { failed = None; told = Tells-none t; ends = λ some. absurd (false_true some); only = λ not same. absurd (not (is ∙ ap Some (ended_same r (Err Store) same))) }, refl),
)

-- one more, and that was all
pub last_told : (t u v : Option (List ReportedCall)) (was : Option (Result EndCause ServeFault)) (progress : Progress) (n most : ℕ) (xs ys : List Exchange) (f failed : Option Request) → n < most → (progress ≡ Answered → ⊥) → AllAnswered t u n xs f → Told_so None u v progress 1 ys failed → Told_so was t v progress most (xs ++ ys) failed
last_told t u v was progress n most xs ys f failed here not (counted, told, none) (counts, (calls, is)) = (
  record { within = omega (arith, length-append xs ys, counted, counts.within, here); all = λ same. absurd (not same) },
  (record { failed = calls.failed; told = told_more t u v xs ys calls.failed told calls.told; ends = calls.ends; only = λ _. calls.only (λ e. cc) }, is),
)

-- all of them were answered
pub all_told : (t u : Option (List ReportedCall)) (n most : ℕ) (xs : List Exchange) (failed : Option Request) (was : Option (Result EndCause ServeFault)) → n ≡ most → AllAnswered t u n xs failed → Told_so was t u Answered most xs failed
all_told t u n most xs failed was all (counted, told, none) = (
  record { within = omega (arith, counted, all); all = λ is. counted ∙ all },
  (record { failed = None; told = subst (Tells t u) (sym (append-nil (told_of xs))) told; ends = λ some. absurd (false_true some); only = λ not is. cc }, sym none),
)

-- ---- one attempt after others

pub answered_both : (b k : Book) (xs ys : List Exchange) (history : List Entry) → IsLegalBook k → k.zone ≡ b.zone → k.default ≡ b.default → AreAnswered b xs k.history → AreAnswered k ys history → AreAnswered b (xs ++ ys) history
answered_both b k xs ys history legal zone default before more =
    let f : Follows b k (deliveries xs) = record { zone = zone; default = default; legal = legal; history = before.after } in
    let all : deliveries (xs ++ ys) ≡ deliveries xs ++ deliveries ys = map-append (λ (x : Exchange). x.delivery) xs ys in
    let first = answers (answer_to b) (deliveries xs) in
    record {
      replies = map-append (λ (x : Exchange). x.answer) xs ys ∙ (λ i. before.replies i ++ more.replies i)
          ∙ ap (λ (a : List Delivery → Delivery → Reply). first ++ answers a (deliveries ys)) (same_answers b k (deliveries xs) f)
          ∙ sym (answers_more (answer_to b) (deliveries xs) (deliveries ys)) ∙ ap (answers (answer_to b)) (sym all);
      after = more.after ∙ history_more b k (deliveries xs) (deliveries ys) f ∙ ap (history_after b) (sym all);
    }

more_exchanges : (l : Life) (xs ys : List Exchange) (rest rest' : List ℕ) → with_exchanges (with_exchanges l xs rest) ys rest' ≡ with_exchanges l (xs ++ ys) rest'
more_exchanges l xs ys rest rest' = λ i. record { bytes = l.bytes; exchanges = append_assoc l.exchanges xs ys i; rest = rest'; taken = l.taken }

pub advance_both : (b k : Book) (c mid now : State) (P Q R : List Exchange → Option Request → Type 0) (history : List Entry) → IsLegalBook k → k.zone ≡ b.zone → k.default ≡ b.default → ((xs ys : List Exchange) (was failed : Option Request) → P xs was → Q ys failed → R (xs ++ ys) failed)
    → Advances b c mid P k.history → Advances k mid now Q history → Advances b c now R history
advance_both b k c mid now P Q R history legal zone default all (xs, was, p, before, f) (ys, failed, q, more, g) = (
  xs ++ ys,
  failed,
  all xs ys was failed p q,
  answered_both b k xs ys history legal zone default before more,
  λ l lives.
      let (rest, mid_lives, stood) = f l lives in
      let (rest', lives', stands) = g (with_exchanges l xs rest) mid_lives in
      (rest', subst (λ (q : Life). Lives q now) (more_exchanges l xs ys rest rest') lives', stands),
)

-- ---- a connection that goes on

pub goes_as : (c now : State) {progress named : Progress} → progress ≡ named → Goes c progress now → Goes c named now
goes_as c now is goes = subst (λ (p : Progress). Goes c p now) is goes

pub waits_goes : (c now : State) {progress : Progress} → c.end ≡ None → progress ≡ Waits → Goes c progress now → (now.end ≡ None) × (now.is_closed ≡ false) × IsPartial (next now.rest)
waits_goes c now going is goes =
    let (still, closed, partial) = goes_as c now is goes in
    (ap (λ (q : State). q.end) still ∙ going, ap (λ (q : State). q.is_closed) still ∙ closed, subst (λ (q : State). IsPartial (next q.rest)) (sym still) partial)

-- nothing is closed
pub closed_goes : (c now : State) (progress : Progress) → Goes c progress now → now.is_closed ≡ c.is_closed
closed_goes c now Answered (end, count, few, closed, less) = closed
closed_goes c now Waits (still, closed, partial) = ap (λ (q : State). q.is_closed) still
closed_goes c now (Ended end) (is, last, closed, less) = closed

pub none_of : (end : Option (Result EndCause ServeFault)) → ((r : Result EndCause ServeFault) → end ≡ Some r → ⊥) → end ≡ None
none_of None not = refl
none_of (Some r) not = absurd (not r refl)

-- each part of what is said
pub each_said : (k : Book) (c now : State) (progress : Progress) (t u : Option (List ReportedCall)) (most : ℕ) (was : Option (Result EndCause ServeFault)) (history : List Entry) → Advances k c now (Told_so was t u progress most) history
    → (xs : List Exchange) × Counts progress most (length xs) × (calls : MakesCalls was progress t u xs) × AreAnswered k xs history × Extended c now xs calls.failed
each_said k c now progress t u most was history (xs, failed, (counts, (calls, is)), right, lives) = (xs, counts, calls, right, subst (Extended c now xs) (sym is) lives)
