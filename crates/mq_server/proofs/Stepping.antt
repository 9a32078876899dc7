-- What one step of a connection comes to.
use Rattle.std.proofs.Common.{Bool, Err, List, Ok, Option, Result, Some, inl, inr, refl, subst, sym, ℕ, ◌≡◌}
use Rattle.mq_server.proofs.Words.{Answered, AnswersBody, Book, EndCause, Ended, Ends, Entry, Front, IsAdded, MayLackMemory, Memory, Nothing, Progress, Read, Reply, ReportedCall, ServeFault, Steps, Store, Waits, Whole, Write, frame, next, reply_body}

-- a request came, and its reply was added or had no room
pub added : (b : Book) (t u : Option (List ReportedCall)) (closed : Bool) (rest replies body rest' replies' : List ℕ) (reply : Reply) (history : List Entry) (progress : Progress)
    → next rest ≡ Whole body rest' → AnswersBody b t body (Ok (Some reply)) history u → IsAdded replies (frame (reply_body reply)) progress replies'
    → Steps b t closed rest replies progress rest' replies' history u
added b t u closed rest replies body rest' replies' reply history Answered stands told a = (body, reply, stands, a, told)
added b t u closed rest replies body rest' replies' reply history Waits stands told a = absurd a
added b t u closed rest replies body rest' replies' reply history (Ended end) stands told (is, same) =
    let P : Result EndCause ServeFault → Type 0 = λ r. Ends b t closed rest replies r rest' replies' history u in
    subst P (sym is) (same, inr (body, reply, stands, told))

-- no reply came of a request
pub unanswered : (b : Book) (t u : Option (List ReportedCall)) (closed : Bool) (rest replies body rest' : List ℕ) (history : List Entry) (fault : ServeFault)
    → next rest ≡ Whole body rest' → AnswersBody b t body (Err fault) history u → Ends b t closed rest replies (Err fault) rest' replies history u
unanswered b t u closed rest replies body rest' history Memory stands (needs, same, told) = (refl, inl (subst MayLackMemory (sym stands) needs, (same, told)))
unanswered b t u closed rest replies body rest' history Store stands told = (refl, (body, rest', stands, told))
unanswered b t u closed rest replies body rest' history Read stands told = absurd told
unanswered b t u closed rest replies body rest' history Write stands told = absurd told

-- ---- why memory ran out

-- something stands there
pub lacks_some : (f : Front) → MayLackMemory f → f ≡ Nothing → ⊥
lacks_some f lacks is = subst MayLackMemory is lacks
