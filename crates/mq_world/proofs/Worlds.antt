-- Every state of the world.
use Rattle.mq_world.proofs.Words.{All-from_recursion, Book, Bool, Drain, Entry, Id, In, IsLegalBook, IsPlayed, IsReply, IsRequest, List, None, Option, RepliesSuit, Reply, Request, Some, Source, Step, [], actions, actions_of, all_at, all_push, answer, ap, appended, begin_count, both_so, clash}
use Rattle.mq_world.proofs.Words.{day_of, either, false, first_so, frame, has_id, id_in, id_of, if◌then◌else◌, inl, inr, is_below, is_some, ledger_id, none_some, number_is, number_itself, recursion_from_All, refl, reply_body, reply_by, reply_to, request_body, requests, same_request, same_text}
use Rattle.mq_world.proofs.Words.{second_so, stored, subst, sym, true, with_arrival_by, ℕ, ◌++◌, ◌==◌, ◌||◌, ◌∙◌, ◌∷◌, ◌≡◌, ◌≤◌}
use Rattle.mq_request.proofs.Alike.{text_is, text_itself}
use Rattle.mq_request.specs.declared.message.Reply.TheVariants as reply
use Rattle.mq_world.specs.World.{Site, Run, World, fresh, same_source, put, book_after}
use Rattle.mq_world.specs.Law.{earlier}
use Rattle.mq_forget.proofs.Growing.{in_range}
use Rattle.mq_ledger.proofs.Basics.{found}
use Rattle.mq_world.proofs.Basics.{in_front, in_either}
use Rattle.mq_world.proofs.Known.{OfFrames, OfLedgers, Known}
use Rattle.mq_world.proofs.Grounds.{is_grant}
use Rattle.mq_world.proofs.Runs.{Wrote, Holds, AllSuit, so_far, writes_on, same_id_by}
use Rattle.mq_world.proofs.Takes.{ledger_number, takes_new}

-- what a run read
pub record IsRead (s : Source) (tries : ℕ) (r : Run) : Type 0 where
  pub counted : begin_count r.lines ≤ 4294967295
  pub acts : r.is_at_end ≡ false → actions r.past ≡ actions_of r.lines
  pub ended : r.is_at_end ≡ true → actions r.past ≡ Drain ∷ actions_of r.lines
  pub played : IsPlayed s tries (earlier r.past)

-- G has the entries of the ledgers of all other servers
pub record IsSound (site : Site) (F : ℕ) (G : List Entry) (w : World) : Type 0 where
  pub ledger : IsLegalBook w.ledger
  pub away : AllSuit G
  pub reading : (s : Source) → site.is_run s ≡ true → IsRead s (site.tries s) (w.runs s)
  pub runs : (s : Source) → site.is_run s ≡ true → Holds (day_of w.ledger.zone) F s (site.tries s) (so_far (w.runs s).on_way (w.runs s).past) (w.ledger.history ++ G) w.sent w.written
  pub idle : (s : Source) → site.is_run s ≡ false → w.runs s ≡ fresh

pub all_suit : OfLedgers → (b : Book) → IsLegalBook b → AllSuit b.history
all_suit L b h = λ e i. all_at (λ x. RepliesSuit x.request x.reply) b.history e (recursion_from_All (λ x. RepliesSuit x.request x.reply) b.history (L.stored (day_of b.zone) b.default b.history h.legal)) i

-- of all ledgers
pub both_suit : (H G : List Entry) → AllSuit H → AllSuit G → AllSuit (H ++ G)
both_suit H G here away = λ e i. elim (in_either H G e i) [ inl j ↦ here e j | inr j ↦ away e j ]

-- ---- one run's step

pub same_itself : (s : Source) → same_source s s ≡ true
same_itself s = both_so (same_text s.host s.host) (s.run == s.run) (text_itself s.host) (number_itself s.run)

pub source_is : (a b : Source) → same_source a b ≡ true → a ≡ b
source_is a b h =
    let host : a.host ≡ b.host = text_is a.host b.host (first_so (same_text a.host b.host) _ h) in
    let run : a.run ≡ b.run = number_is a.run b.run (second_so (same_text a.host b.host) (a.run == b.run) h) in
    λ i. record { host = host i; run = run i }

-- a run in its place, and perhaps a frame that was sent
pub put_sound : {F : ℕ} {G : List Entry} → (site : Site) (w : World) (s : Source) (r : Run) (sent : List (List ℕ)) → IsSound site F G w → site.is_run s ≡ true → IsRead s (site.tries s) r
    → Holds (day_of w.ledger.zone) F s (site.tries s) (so_far r.on_way r.past) (w.ledger.history ++ G) sent w.written
    → ((u : Source) → same_source s u ≡ false → site.is_run u ≡ true → Holds (day_of w.ledger.zone) F u (site.tries u) (so_far (w.runs u).on_way (w.runs u).past) (w.ledger.history ++ G) sent w.written)
    → IsSound site F G (record { runs = put s r w.runs; ledger = w.ledger; sent = sent; written = w.written })
put_sound {F = F} {G = G} site w s r sent h y read own other = record {
  ledger = h.ledger;
  away = h.away;
  reading = λ u yu. elim (either (same_source s u)) [
    | inl same ↦ (let R : Source → Type 0 = λ x. IsRead x (site.tries x) r in rw same (subst R (source_is s u same) read))
    | inr differs ↦ rw differs (h.reading u yu)
  ];
  runs = λ u yu. elim (either (same_source s u)) [
    | inl same ↦ (let R : Source → Type 0 = λ x. Holds (day_of w.ledger.zone) F x (site.tries x) (so_far r.on_way r.past) (w.ledger.history ++ G) sent w.written in rw same (subst R (source_is s u same) own))
    | inr differs ↦ rw differs (other u differs yu)
  ];
  idle = λ u nu. elim (either (same_source s u)) [
    | inl same ↦ absurd (clash (site.is_run u) (ap site.is_run (sym (source_is s u same)) ∙ y) nu)
    | inr differs ↦ rw differs (h.idle u nu)
  ];
}

-- ---- the ledger

-- no reply but Granted is one
no_grant : (b a : Reply) → is_grant b ≡ false → b ≡ a → is_grant a ≡ true → ⊥
no_grant b a none e g = clash (is_grant a) g (ap is_grant (sym e) ∙ none)

-- a request whose number is stored gets the stored reply, or Conflict
same_reply : OfFrames → (H G : List Entry) (id : Id) (e : Entry) (b : Bool) → stored H id ≡ Some e → IsReply (if b then e.reply else reply.Conflict id)
    → (a : Reply) → frame (reply_body (if b then e.reply else reply.Conflict id)) ≡ frame (reply_body a) → IsReply a → is_grant a ≡ true → Wrote (H ++ G) a
same_reply F H G id e true there fits a f k g = let i = found (λ x. has_id id x.request) H e there in record { entry = e; among = in_front H G e i.0; is = F.one_reply e.reply a fits k f }
same_reply F H G id e false there fits a f k g = absurd (no_grant (reply.Conflict id) a refl (F.one_reply (reply.Conflict id) a fits k f) g)

takes_by : {F : ℕ} → (day : ℕ → ℕ) (default : ℕ) → Known → (s : Source) (tries : ℕ) (P : List Step) (H G : List Entry) (sent written : List (List ℕ)) (id : Id) (q : Request) (m : Option Entry) → stored H id ≡ m
    → In (frame (request_body q)) sent → IsRequest q → IsReply (reply_by day default H q id m) → Holds day F s tries P (H ++ G) sent written
    → Holds day F s tries P ((if is_some m then H else appended day default H q) ++ G) sent (frame (reply_body (reply_by day default H q id m)) ∷ written)
takes_by day default K s tries P H G sent written id q None there was range fits h = takes_new day default K.frames s tries P H G sent written q was range fits h
takes_by day default K s tries P H G sent written id q (Some e) there was range fits h =
    writes_on s tries P (H ++ G) sent written (frame (reply_body (reply_by day default H q id (Some e))))
    (λ a p f k own d g. inl (same_reply K.frames H G id e (same_request q e.request) there fits a f k g)) h

-- a request of a retired run gets Old, and any other is taken
takes_if : {F : ℕ} → (day : ℕ → ℕ) (default : ℕ) → Known → (s : Source) (tries : ℕ) (P : List Step) (H G : List Entry) (sent written : List (List ℕ)) (id : Id) (q : Request) (b : Bool)
    → In (frame (request_body q)) sent → IsRequest q → IsReply (if b then reply.Old id else reply_by day default H q id (stored H id)) → Holds day F s tries P (H ++ G) sent written
    → Holds day F s tries P ((if b || is_some (stored H id) then H else appended day default H q) ++ G) sent (frame (reply_body (if b then reply.Old id else reply_by day default H q id (stored H id))) ∷ written)
takes_if day default K s tries P H G sent written id q true was range fits h =
    writes_on s tries P (H ++ G) sent written (frame (reply_body (reply.Old id))) (λ a p f k own d g. absurd (no_grant (reply.Old id) a refl (K.frames.one_reply (reply.Old id) a fits k f) g)) h
takes_if day default K s tries P H G sent written id q false was range fits h = takes_by day default K s tries P H G sent written id q (stored H id) refl was range fits h

pub takes_any : {F : ℕ} → (day : ℕ → ℕ) (default : ℕ) → Known → (s : Source) (tries : ℕ) (P : List Step) (H G : List Entry) (sent written : List (List ℕ)) (q : Request) (o : Option Id) → ledger_id q ≡ o
    → In (frame (request_body q)) sent → IsRequest q → RepliesSuit q (reply_to day default H q o) → IsReply (reply_to day default H q o) → Holds day F s tries P (H ++ G) sent written
    → Holds day F s tries P (with_arrival_by day default H q o ++ G) sent (frame (reply_body (reply_to day default H q o)) ∷ written)
takes_any day default K s tries P H G sent written q (Some id) number was range fit fits h = takes_if day default K s tries P H G sent written id q (is_below (requests H) id) was range fits h
takes_any day default K s tries P H G sent written q None number was range fit fits h =
    writes_on s tries P (H ++ G) sent written (frame (reply_body (answer day default H q)))
    (λ a p f k own d g. (let is : answer day default H q ≡ a = K.frames.one_reply (answer day default H q) a fits k f in
    let R : Reply → Type 0 = λ x. RepliesSuit q x in
    let id_same : id_in q ≡ id_in p = same_id_by K.frames s p q a own d (subst R is fit) in
    absurd (none_some (id_of s own.number) (sym number ∙ ledger_number q ∙ id_same ∙ own.id)))) h

-- the ledger stays legal
pub legal_after : Known → (b : Book) (q : Request) → IsRequest q → IsLegalBook b → IsLegalBook (book_after b q)
legal_after K b q range h = record {
  zone = h.zone;
  default = h.default;
  legal = K.ledgers.legal (day_of b.zone) b.default (requests b.history ++ q ∷ [])
      (All-from_recursion IsRequest (requests b.history ++ q ∷ []) (all_push IsRequest (requests b.history) q (in_range (day_of b.zone) b.default b.history h.legal) range));
}
