-- How far a connection has come between two steps.
use Rattle.std.proofs.Common.{List, Option, [], ap, append-nil, arith, length, length-append, subst, sym, ℕ, ◌++◌, ◌+◌, ◌∙◌, ◌∷◌, ◌≡◌}
use Rattle.mq_server.proofs.Words.{Appends, Appends-nil, Appends-trans, Asks, Book, Consumes, Consumes-nil, Delivery, Entry, IsLegalBook, Reply, ReportedCall, Request, SpellsRequest, Tells, Tells-none, Whole, Wire, all_zipped_more, answer_to, answers, asked, call, calls, flat_map-append, frame, frames_of, history_after, map-append, more_begins, next, one_more, reply_body}
use Rattle.mq_server.proofs.Deliveries.{Follows, answer_more, answers_more, history_more, history_none}
use Rattle.mq_server.proofs.Telling.{told_push}

-- Of the bytes read these deliveries came, and the ledger's history is the one after them.
pub record Came (b : Book) (read held : List ℕ) (count : ℕ) (history : List Entry) (came : List Delivery) : Type 0 where
  pub asks : Asks read (asked came) held
  pub counted : length came ≡ count
  pub stored : history ≡ history_after b came

-- Between two wires bytes were read, the deliveries in them were answered, and these bytes are held; and between the two
-- the ledger told of the deliveries.
pub record SoFar (b : Book) (before now : Option (List ReportedCall)) (old new : Wire) (held : List ℕ) (count : ℕ) (history : List Entry) : Type 0 where
  pub came : List Delivery
  pub read : List ℕ
  pub consumed : Consumes old.remaining new.remaining read
  pub written : Appends old.contents new.contents (frames_of (answers (answer_to b) came))
  pub told : Tells before now (calls (answer_to b) came)
  pub all : Came b read held count history came

pub start : (b : Book) (t : Option (List ReportedCall)) (wire : Wire) (held : List ℕ) (count : ℕ) → held ≡ [] → count ≡ 0 → IsLegalBook b → SoFar b t t wire wire held count b.history
start b t wire held count none unbegun legal = record {
  came = [];
  read = [];
  consumed = Consumes-nil _;
  written = Appends-nil _;
  told = Tells-none t;
  all = record {
    asks = record { bodies = []; frames = sym none; each = tt };
    counted = sym unbegun;
    stored = sym (history_none b legal);
  };
}

-- ---- the bytes asked

pub asks_more : (bytes more : List ℕ) (requests : List Request) (rest : List ℕ) → Asks bytes requests rest → Asks (bytes ++ more) requests (rest ++ more)
asks_more bytes more requests rest a = record { bodies = a.bodies; frames = more_begins 512 bytes more a.bodies rest a.frames; each = a.each }

pub asks_push : (bytes held body after : List ℕ) (ds : List Delivery) (d : Delivery) → Asks bytes (asked ds) held → next held ≡ Whole body after → SpellsRequest body d.request → Asks bytes (asked (ds ++ d ∷ [])) after
asks_push bytes held body after ds d a e s =
    let same : asked ds ++ d.request ∷ [] ≡ asked (ds ++ d ∷ []) = sym (map-append (λ (x : Delivery). x.request) ds (d ∷ [])) in
    subst (λ (rs : List Request). Asks bytes rs after) same
    (record { bodies = a.bodies ++ body ∷ []; frames = one_more 512 bytes a.bodies held body after a.frames e; each = all_zipped_more SpellsRequest a.bodies (asked ds) body d.request a.each s })

-- ---- a piece more

pub came_read : {b : Book} {read held : List ℕ} {count : ℕ} {history : List Entry} {came : List Delivery} (piece : List ℕ) → Came b read held count history came → Came b (read ++ piece) (held ++ piece) count history came
came_read {read = read} {held = held} {came = came} piece c = record { asks = asks_more read piece (asked came) held c.asks; counted = c.counted; stored = c.stored }

-- ---- a delivery more

-- the ledger that a delivery finds: that of the first, to which the earlier ones came
pub record Finds (b k : Book) : Type 0 where
  pub zone : k.zone ≡ b.zone
  pub default : k.default ≡ b.default
  pub legal : IsLegalBook k

module _ {b k : Book} {read held : List ℕ} {count : ℕ} {came : List Delivery} (d : Delivery) (finds : Finds b k) (c : Came b read held count k.history came) where
  followed : Follows b k came
  followed = record { zone = finds.zone; default = finds.default; legal = finds.legal; history = c.stored }

  pub came_more : {body after : List ℕ} {history : List Entry} → next held ≡ Whole body after → SpellsRequest body d.request → history ≡ history_after k (d ∷ []) → Came b read after (count + 1) history (came ++ d ∷ [])
  came_more {body} {after} e s h = record {
    asks = asks_push read held body after came d c.asks e s;
    counted = omega (arith, length-append came (d ∷ []), c.counted);
    stored = h ∙ history_more b k came (d ∷ []) followed;
  }

  -- what is due to it
  pub due_here : {x : Reply} → x ≡ answer_to k [] d → x ≡ answer_to b came d
  due_here e = e ∙ answer_more b k came [] d followed ∙ ap (λ (q : List Delivery). answer_to b q d) (append-nil came)

pub frames_of_push : (rs : List Reply) (r : Reply) → frames_of (rs ++ r ∷ []) ≡ frames_of rs ++ frame (reply_body r)
frames_of_push rs r = flat_map-append (λ (x : Reply). frame (reply_body x)) rs (r ∷ []) ∙ ap (λ (q : List ℕ). frames_of rs ++ q) (append-nil (frame (reply_body r)))

-- it was answered, and its answer was written
pub answered_more : {b k : Book} {t u v : Option (List ReportedCall)} {old mid : Wire} {holds : Option (List ℕ)} {held body after : List ℕ} {count : ℕ} {history : List Entry} {x : Reply} (d : Delivery)
    → Finds b k → SoFar b t u old mid held count k.history → next held ≡ Whole body after → SpellsRequest body d.request → x ≡ answer_to k [] d → history ≡ history_after k (d ∷ [])
    → Tells u v (call d x ∷ []) → Appends mid.contents holds (frame (reply_body x)) → SoFar b t v old (record { remaining = mid.remaining; contents = holds }) after (count + 1) history
answered_more {b} {t = t} {u = u} {v = v} {old = old} {mid = mid} {holds = holds} {x = x} d finds s e spelled a h tells sent =
    let due : x ≡ answer_to b s.came d = due_here d finds s.all a in
    let text : frames_of (answers (answer_to b) s.came) ++ frame (reply_body x) ≡ frames_of (answers (answer_to b) (s.came ++ d ∷ [])) =
    sym (frames_of_push (answers (answer_to b) s.came) x)
    ∙ ap (λ (r : Reply). frames_of (answers (answer_to b) s.came ++ r ∷ [])) (due ∙ ap (λ (q : List Delivery). answer_to b q d) (sym (append-nil s.came))) ∙ ap frames_of (sym (answers_more (answer_to b) s.came (d ∷ []))) in
    record {
      came = s.came ++ d ∷ [];
      read = s.read;
      consumed = s.consumed;
      written = subst (Appends old.contents holds) text (Appends-trans old.contents mid.contents holds _ _ s.written sent);
      told = told_push (answer_to b) s.came d x t u v due s.told tells;
      all = came_more d finds s.all e spelled h;
    }
