-- The life of a connection goes on as bytes come and replies are taken.
use Rattle.std.proofs.Common.{Err, List, None, Ok, OnOk, Option, Result, Some, [], ap, length, subst, sym, ℕ, ◌++◌, ◌∙◌, ◌≡◌}
use Rattle.mq_server.proofs.Words.{AreAnswered, Asks, Book, EndCause, Entry, Exchange, HasReplies, IsEnd, IsServed, Life, Lives, Reply, ServeFault, State, answer_to, asked, deliveries, farewell, frames_of, length-map, next, received, replies_of, served, with_bytes}
use Rattle.mq_server.proofs.Running.{asks_more}

-- what is said at one end is said at an equal one
pub said_at : (l : Life) (text : List ℕ) (c : State) {end now : Option (Result EndCause ServeFault)} → end ≡ now → HasReplies l text c end → HasReplies l text c now
said_at l text c is h = subst (λ (o : Option (Result EndCause ServeFault)). HasReplies l text c o) is h

-- what was answered where it goes on
pub living : (l : Life) (c : State) → c.end ≡ None → Lives l c → HasReplies l (l.taken ++ c.replies) c None
living l c going lives = said_at l (l.taken ++ c.replies) c going lives.replies

pub lives_more : (l : Life) (c : State) (piece : List ℕ) (room : ℕ) → Lives l c → c.end ≡ None → Lives (with_bytes l piece) (received c piece room)
lives_more l c piece room lives e =
    let (text, counted, few, same) = living l c e lives in
    record {
      asks = asks_more l.bytes piece (asked (deliveries l.exchanges)) l.rest lives.asks;
      replies = said_at (with_bytes l piece) (l.taken ++ c.replies) (received c piece room) (sym e) (text, counted, few, ap (λ (q : List ℕ). q ++ piece) same);
    }

-- the same of what a call made
pub receives : {E : Type 0} (r : Result (Unit {0}) E) (l : Life) (c now : State) (piece rest : List ℕ) (room : ℕ) → c ≡ now → Lives l now → now.end ≡ None → OnOk r (rest ≡ c.rest ++ piece)
    → OnOk r (Lives (with_bytes l piece) (record { rest = rest; answered = c.answered; replies = c.replies; is_closed = c.is_closed; end = c.end; room = room }))
receives (Ok done) l c now piece rest room is lives e more =
    let Q : List ℕ → Type 0 = λ q. Lives (with_bytes l piece) (record { rest = q; answered = c.answered; replies = c.replies; is_closed = c.is_closed; end = c.end; room = room }) in
    subst Q (sym more) (lives_more l c piece room (subst (Lives l) (sym is) lives) (ap (λ (q : State). q.end) is ∙ e))
receives (Err fault) l c now piece rest room is lives e more = tt

-- ---- what a life comes to

pub life_ended : (l : Life) (c : State) (e : EndCause) → Lives l c → c.end ≡ Some (Ok e) → IsServed l.bytes (deliveries l.exchanges) e × (l.taken ++ c.replies ≡ frames_of (replies_of l.exchanges ++ farewell e))
life_ended l c e lives is =
    let (text, ends, closed) = said_at l (l.taken ++ c.replies) c is lives.replies in
    let counted : length (deliveries l.exchanges) ≡ length l.exchanges = length-map l.exchanges (λ (x : Exchange). x.delivery) in
    let P : ℕ → Type 0 = λ n. IsEnd e n (next l.rest) (Some []) in
    (record { rest = l.rest; asks = lives.asks; ends = subst P (sym counted) ends }, text)

pub life_going : (l : Life) (c : State) → Lives l c → c.end ≡ None → Asks l.bytes (asked (deliveries l.exchanges)) c.rest × (l.taken ++ c.replies ≡ frames_of (replies_of l.exchanges))
life_going l c lives is =
    let (text, counted, few, same) = living l c is lives in
    (subst (Asks l.bytes (asked (deliveries l.exchanges))) (sym same) lives.asks, text)

pub life_alone : (b : Book) (l : Life) (c : State) (e : EndCause) (history : List Entry) → Lives l c → c.end ≡ Some (Ok e) → AreAnswered b l.exchanges history → l.taken ++ c.replies ≡ served (answer_to b) (deliveries l.exchanges) e
life_alone b l c e history lives is answered =
    (life_ended l c e lives is).1 ∙ ap (λ (q : List Reply). frames_of (q ++ farewell e)) answered.replies
