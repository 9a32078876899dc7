-- Every state of the world, step by step, and what follows in each.
use Rattle.mq_world.proofs.Words.{Action, AllByRecursion, Answered, AreDistinct, AreUnderway, Book, Bool, Drain, Entry, Exchange, Faulted, HeldTransaction, In, IsDecision, IsLegalBook, IsPlayed, IsReply, List, Meaning, Never, None, NoneReturns, Option, ExchangeOutcome, Request, Reserve, Some, Source, SpellsRequest}
use Rattle.mq_world.proofs.Words.{TransactionState, Step, Transaction, Zone, [], action_of, actions, actions_of, all_at, ap, arith, begin_count, clash, day_of, decides, either, false, fault, frame, history_of, id_of, inl, inr, ledger_id, none_some, option_map, push, refl, reply, reply_body, request_body}
use Rattle.mq_world.proofs.Words.{request_frame, requests, slice_get, standing_in, subst, sum_by, sum_by-le-sum_by, sym, true, view, weaker, with_arrival, ℕ, ◌++◌, ◌∙◌, ◌∷◌, ◌≡◌, ◌≤◌}
use Rattle.mq_world.specs.World.{Site, Run, World, fresh, IsOfOthers, IsFrameOfOthers, IsReplyToOthers, IsStart, IsUp, ReadsOn, begun, after_line, after_end, next_request, with_on_way, with_exchange, after_exchange, after_stop, MayCome, same_source, with_run, with_sent, after_arrival, Next, Reads, ReadsEnd, Sends, Ends, Takes, OthersSend, Stops}
use Rattle.mq_world.specs.Forgetting.{forgotten}
use Rattle.mq_world.specs.Together.{Together, with_ledger, IsStartTogether, ReachesTogether, FromStart, Steps, Moves, Forgets, kept_of, used_of, cap_of}
use Rattle.mq_world.proofs.Basics.{in_back, in_either, in_get, all_put}
use Rattle.mq_world.proofs.Known.{Known, OfSums, OfFrames, OfLedgers}
use Rattle.mq_world.proofs.Pools.{pool, in_one, places_change}
use Rattle.mq_world.proofs.Numbers.{IsOwn, same_own}
use Rattle.mq_world.proofs.Lines.{counted, line_asks, push_actions}
use Rattle.mq_world.proofs.Runs.{Holds, AllSuit, failing, so_far, begins, Sent, sends_on, ends_on, others_send, Comes, holds_in}
use Rattle.mq_world.proofs.Takes.{entry_suits}
use Rattle.mq_world.specs.Law.{run_of, standing_of, counting, let_by, is_on, let_on, let_together, earlier, actions_in, IsPastOf}
use Rattle.mq_world.proofs.Grounds.{at_of, was_granted}
use Rattle.mq_world.proofs.Forgetting.{OfForgetting, forgets_on}
use Rattle.mq_world.proofs.Worlds.{IsRead, IsSound, all_suit, both_suit, same_itself, put_sound, takes_any, legal_after}
use Rattle.mq_world.proofs.Within.{standing_each, kept_on, on_all, sums_on, within_all, let_if, let_from, on_at, counts_at, counts_so_far}
use Rattle.mq_request.specs.declared.message.Reply.TheVariants as reply
use Rattle.mq_world.proofs.laws.never_past_the_limits_together.Goals as goal

-- ---- the start

not_own : (site : Site) (s : Source) (q : Request) → site.is_run s ≡ true → IsOfOthers site q → IsOwn s q → ⊥
not_own site s q y others own = clash (site.is_run s) y (others (id_of s own.number) own.id)

-- no entry is of a run
abbrev pub NoneOwn : Site → List Entry → Type 0
NoneOwn site G = (e : Entry) → In e G → IsOfOthers site e.request

holds_fresh : {F : ℕ} → (site : Site) (w : World) (G : List Entry) → IsStart site w → NoneOwn site G → (s : Source) → site.is_run s ≡ true → Holds (day_of w.ledger.zone) F s (site.tries s) [] (w.ledger.history ++ G) w.sent w.written
holds_fresh site w G z none s y = record {
  steps = record { host = (z.hosts s y).0; run = (z.hosts s y).1; underway = tt; returns = tt; asks = tt };
  sends = λ q i range own. absurd (not_own site s q y (all_at (IsFrameOfOthers site) w.sent (frame (request_body q)) z.sent i (request_body q) q refl (record { bytes = refl; in_range = range })) own);
  taken = λ e i own. elim (in_either w.ledger.history G e i) [
    | inl j ↦ absurd (not_own site s e.request y (all_at (λ x. IsOfOthers site x.request) w.ledger.history e z.entries j) own)
    | inr j ↦ absurd (not_own site s e.request y (none e j) own)
  ];
  wrote = λ a q i range own d g. absurd (not_own site s q y (all_at (IsReplyToOthers site) w.written (frame (reply_body a)) z.written i (reply_body a) a q refl (record { bytes = refl; in_range = range }) d) own);
  ground = tt;
}

sound_start : (F : ℕ) (site : Site) (w : World) (G : List Entry) → IsStart site w → AllSuit G → NoneOwn site G → IsSound site F G w
sound_start F site w G z suits none = record {
  ledger = z.ledger;
  away = suits;
  reading = λ s y. (let R : Run → Type 0 = λ r. IsRead s (site.tries s) r in
      let fresh_read : IsRead s (site.tries s) fresh = record { counted = omega arith; acts = λ f. refl; ended = λ t. absurd (clash false t refl); played = tt } in subst R (sym (z.runs s)) fresh_read);
  runs = λ s y. (let R : Run → Type 0 = λ r. Holds (day_of w.ledger.zone) F s (site.tries s) (so_far r.on_way r.past) (w.ledger.history ++ G) w.sent w.written in
      subst R (sym (z.runs s)) (holds_fresh site w G z none s y));
  idle = λ s n. z.runs s;
}

-- ---- what an exchange brings

neither_decides : (q : Request) → (decides q reply.Retry ≡ false) × (decides q reply.Bad ≡ false)
neither_decides (Reserve id txn moment login count) = (refl, refl)
neither_decides q = (refl, refl)

-- what comes and decides was written
brought : OfFrames → (written : List (List ℕ)) (o : ExchangeOutcome) (q : Request) → MayCome written o → Comes written q o
brought F written (Faulted f) q may = λ a b d. absurd b
brought F written (Answered body) q (inl retry) = λ a b d.
    let same : a ≡ reply.Retry = F.one_body body a reply.Retry b (record { bytes = retry; in_range = tt }) in
    absurd (clash (decides q a) d (ap (decides q) same ∙ (neither_decides q).0))
brought F written (Answered body) q (inr (inl bad)) = λ a b d.
    let same : a ≡ reply.Bad = F.one_body body a reply.Bad b (record { bytes = bad; in_range = tt }) in
    absurd (clash (decides q a) d (ap (decides q) same ∙ (neither_decides q).1))
brought F written (Answered body) q (inr (inr w)) = λ a b d.
    let I : List ℕ → Type 0 = λ x. In (frame x) written in
    (subst I b.bytes (in_get written w.0 (frame body) w.1), b.in_range)

-- ---- steps of a run

-- the step that a line asks for begins
begins_if : {day : ℕ → ℕ} {F : ℕ} → Known → (site : Site) (s : Source) (quiet : Bool) (L : List Meaning) (line : Meaning) (P : List Step) (H : List Entry) (sent written : List (List ℕ)) (o : Option Action) → action_of L line ≡ o → begin_count L ≤ 4294967295 → NoneReturns s (push (option_map (begun quiet) o) P)
    → Holds day F s (site.tries s) P H sent written → Holds day F s (site.tries s) (push (option_map (begun quiet) o) P) H sent written
begins_if K site s quiet L line P H sent written None e le none_back h = h
begins_if K site s quiet L line P H sent written (Some a) e le none_back h = begins s (site.tries s) P H sent written a quiet none_back (line_asks K.tracks L line a le e) h

-- whatever is on its way, where it is the same
same_on_way : {day : ℕ → ℕ} {F : ℕ} → (s : Source) (tries : ℕ) (o p : Option Request) (P : List Step) (H : List Entry) (sent written : List (List ℕ)) → o ≡ p → Holds day F s tries (so_far o P) H sent written → Holds day F s tries (so_far p P) H sent written
same_on_way {day = day} {F = F} s tries o p P H sent written e h = let G : Option Request → Type 0 = λ x. Holds day F s tries (so_far x P) H sent written in subst G e h

-- one step more, where there is one
played_push : (s : Source) (tries : ℕ) (o : Option Step) (P : List Step) → IsPlayed s tries P → IsPlayed s tries (earlier (push o P))
played_push s tries (Some x) P h = h
played_push s tries None [] h = h
played_push s tries None (y ∷ P) h = h.1

reads_sound : {F : ℕ} {G : List Entry} → Known → (site : Site) (w : World) (s : Source) (line : Meaning) (quiet : Bool) → IsSound site F G w → ReadsOn site w s → fault (w.runs s).lines line ≡ None → IsSound site F G (with_run w s (after_line quiet line (w.runs s)))
reads_sound {G = G} K site w s line quiet h on e =
    let y = on.up.is_run in
    let r : Run = w.runs s in
    let read = h.reading s y in
    let acts : actions (push (option_map (begun quiet) (action_of r.lines line)) r.past) ≡ actions_of (line ∷ r.lines) = push_actions quiet (action_of r.lines line) r.past ∙ ap (push (action_of r.lines line)) (read.acts on.before_end) in
    let none_back = K.clients.none_returns s (line ∷ r.lines) (push (option_map (begun quiet) (action_of r.lines line)) r.past) acts in
    let old = same_on_way s (site.tries s) r.on_way None r.past (w.ledger.history ++ G) w.sent w.written on.none_on_way (h.runs s y) in
    put_sound site w s (after_line quiet line r) w.sent h y
    (record {
      counted = counted r.lines line e read.counted;
      acts = λ f. acts;
      ended = λ t. absurd (clash r.is_at_end t on.before_end);
      played = played_push s (site.tries s) (option_map (begun quiet) (action_of r.lines line)) r.past on.played;
    })
    (same_on_way s (site.tries s) None r.on_way (push (option_map (begun quiet) (action_of r.lines line)) r.past) (w.ledger.history ++ G) w.sent w.written (sym on.none_on_way)
    (begins_if K site s quiet r.lines line r.past (w.ledger.history ++ G) w.sent w.written (action_of r.lines line) refl read.counted none_back old))
    (λ u d yu. h.runs u yu)

ends_reading : {F : ℕ} {G : List Entry} → (site : Site) (w : World) (s : Source) → IsSound site F G w → ReadsOn site w s → IsSound site F G (with_run w s (after_end (w.runs s)))
ends_reading {G = G} site w s h on =
    let y = on.up.is_run in
    let r : Run = w.runs s in
    let read = h.reading s y in
    let old = same_on_way s (site.tries s) r.on_way None r.past (w.ledger.history ++ G) w.sent w.written on.none_on_way (h.runs s y) in
    put_sound site w s (after_end r) w.sent h y
    (record {
      counted = read.counted;
      acts = λ f. absurd (clash true refl f);
      ended = λ t. ap (λ xs. Drain ∷ xs) (read.acts on.before_end);
      played = on.played;
    })
    (same_on_way s (site.tries s) None r.on_way (begun false Drain ∷ r.past) (w.ledger.history ++ G) w.sent w.written (sym on.none_on_way)
    (begins s (site.tries s) r.past (w.ledger.history ++ G) w.sent w.written Drain false (tt, old.steps.returns) tt old))
    (λ u d yu. h.runs u yu)

sends_past : {day : ℕ → ℕ} {F : ℕ} → Known → (s : Source) (tries : ℕ) (P : List Step) (H : List Entry) (sent written : List (List ℕ)) (q : Request) → next_request s tries P ≡ Some q → Holds day F s tries P H sent written → Sent day F s tries P H sent written q
sends_past K s tries [] H sent written q e h = absurd (none_some q e)
sends_past K s tries (x ∷ P) H sent written q e h = sends_on K.frames K.clients s tries P H sent written x.action x.group x.quiet q e h

sends_sound : {F : ℕ} {G : List Entry} → Known → (site : Site) (w : World) (s : Source) (q : Request) → IsSound site F G w → IsUp site w s → (w.runs s).on_way ≡ None → next_request s (site.tries s) (w.runs s).past ≡ Some q
    → IsSound site F G (with_sent (with_run w s (with_on_way (Some q) (w.runs s))) (request_frame q))
sends_sound {G = G} K site w s q h up none e =
    let y = up.is_run in
    let r : Run = w.runs s in
    let read = h.reading s y in
    let old = same_on_way s (site.tries s) r.on_way None r.past (w.ledger.history ++ G) w.sent w.written none (h.runs s y) in
    let new = sends_past K s (site.tries s) r.past (w.ledger.history ++ G) w.sent w.written q e old in
    put_sound site w s (with_on_way (Some q) r) (request_frame q ∷ w.sent) h y
    (record { counted = read.counted; acts = read.acts; ended = read.ended; played = read.played })
    new.holds
    (λ u d yu. others_send u (site.tries u) (so_far (w.runs u).on_way (w.runs u).past) (w.ledger.history ++ G) w.sent w.written (request_frame q)
    (λ p same range own. (let is : q ≡ p = K.frames.one_request q p new.range range same in
    let who : s ≡ u = same_own s u p (subst (IsOwn s) is new.own) own in
    let S : Source → Type 0 = λ x. same_source s x ≡ true in
    clash (same_source s u) (subst S who (same_itself s)) d))
    (h.runs u yu))

ends_past : {day : ℕ → ℕ} {F : ℕ} → Known → (s : Source) (tries : ℕ) (P : List Step) (H : List Entry) (sent written : List (List ℕ)) (x : Exchange) → AllSuit H → MayCome written x.outcome → IsDecision x.request x.outcome x.decided
    → Holds day F s tries (with_exchange (failing x.request) P) H sent written → Holds day F s tries (with_exchange x P) H sent written
ends_past K s tries [] H sent written x suits may dec h = h
ends_past K s tries (z ∷ P) H sent written x suits may dec h = ends_on K.frames K.clients s tries P H sent written z.action z.group z.quiet x suits h (brought K.frames written x.outcome x.request may) dec

same_actions : (x : Exchange) (P : List Step) → actions (with_exchange x P) ≡ actions P
same_actions x [] = refl
same_actions x (y ∷ P) = refl

same_earlier : (s : Source) (tries : ℕ) (x : Exchange) (P : List Step) → IsPlayed s tries (earlier P) → IsPlayed s tries (earlier (with_exchange x P))
same_earlier s tries x [] h = h
same_earlier s tries x (y ∷ P) h = h

ends_sound : {F : ℕ} {G : List Entry} → Known → (site : Site) (w : World) (s : Source) (x : Exchange) → IsSound site F G w → IsUp site w s → (w.runs s).on_way ≡ Some x.request → MayCome w.written x.outcome → IsDecision x.request x.outcome x.decided
    → IsSound site F G (with_run w s (after_exchange x (w.runs s)))
ends_sound {F = F} {G = G} K site w s x h up on may dec =
    let y = up.is_run in
    let r : Run = w.runs s in
    let read = h.reading s y in
    let on_its_way = same_on_way s (site.tries s) r.on_way (Some x.request) r.past (w.ledger.history ++ G) w.sent w.written on (h.runs s y) in
    put_sound site w s (after_exchange x r) w.sent h y
    (record {
      counted = read.counted;
      acts = λ f. same_actions x r.past ∙ read.acts f;
      ended = λ t. same_actions x r.past ∙ read.ended t;
      played = same_earlier s (site.tries s) x r.past read.played;
    })
    (ends_past K s (site.tries s) r.past (w.ledger.history ++ G) w.sent w.written x (both_suit w.ledger.history G (all_suit K.ledgers w.ledger h.ledger) h.away) may dec on_its_way)
    (λ u d yu. h.runs u yu)

stops_sound : {F : ℕ} {G : List Entry} → (site : Site) (w : World) (s : Source) → IsSound site F G w → IsUp site w s → IsSound site F G (with_run w s (after_stop (w.runs s)))
stops_sound site w s h up =
    let y = up.is_run in
    put_sound site w s (after_stop (w.runs s)) w.sent h y
    (record { counted = (h.reading s y).counted; acts = (h.reading s y).acts; ended = (h.reading s y).ended; played = (h.reading s y).played })
    (h.runs s y)
    (λ u d yu. h.runs u yu)

-- ---- others send

others_sound : {F : ℕ} {G : List Entry} → (site : Site) (w : World) (bytes : List ℕ) → IsSound site F G w → IsFrameOfOthers site bytes → IsSound site F G (with_sent w bytes)
others_sound {G = G} site w bytes h others = record {
  ledger = h.ledger;
  away = h.away;
  reading = h.reading;
  runs = λ s y. others_send s (site.tries s) (so_far (w.runs s).on_way (w.runs s).past) (w.ledger.history ++ G) w.sent w.written bytes
      (λ q e range own. not_own site s q y (others (request_body q) q e (record { bytes = refl; in_range = range })) own)
      (h.runs s y);
  idle = h.idle;
}

-- ---- an arrival

takes_sound : {F : ℕ} {G : List Entry} → Known → (site : Site) (w : World) (which : ℕ) (body : List ℕ) (q : Request) → IsSound site F G w → slice_get w.sent which ≡ Some (frame body) → SpellsRequest body q → IsSound site F G (after_arrival w q)
takes_sound {F = F} {G = G} K site w which body q h e spells =
    let b = w.ledger in
    let day : ℕ → ℕ = day_of b.zone in
    let I : List ℕ → Type 0 = λ x. In (frame x) w.sent in
    let was : In (frame (request_body q)) w.sent = subst I spells.bytes (in_get w.sent which (frame body) e) in
    let grown : history_of day b.default (requests b.history ++ q ∷ []) ≡ with_arrival day b.default b.history q = K.ledgers.arrival day b.default b.history q h.ledger.legal in
    let fits : IsReply (reply day b.default b.history q) = K.ledgers.range day b.default b.history q h.ledger.default (K.ledgers.days b.zone h.ledger.zone) h.ledger.legal spells.in_range in
    let fit = K.ledgers.suits day b.default b.history q h.ledger.legal in
    record {
      ledger = legal_after K b q spells.in_range h.ledger;
      away = h.away;
      reading = h.reading;
      runs = λ s y. (let R : List Entry → Type 0 = λ x. Holds day F s (site.tries s) (so_far (w.runs s).on_way (w.runs s).past) (x ++ G) w.sent (frame (reply_body (reply day b.default b.history q)) ∷ w.written) in
          subst R (sym grown) (takes_any day b.default K s (site.tries s) (so_far (w.runs s).on_way (w.runs s).past) b.history G w.sent w.written q (ledger_id q) refl was spells.in_range fit fits (h.runs s y)));
      idle = h.idle;
    }

-- ---- all steps of a world

next_sound : {F : ℕ} {G : List Entry} → Known → (site : Site) (w v : World) → IsSound site F G w → Next site w v → IsSound site F G v
next_sound K site w v h (Reads s line quiet on e) = reads_sound K site w s line quiet h on e
next_sound K site w v h (ReadsEnd s on) = ends_reading site w s h on
next_sound K site w v h (Sends s q up none e) = sends_sound K site w s q h up none e
next_sound K site w v h (Ends s x up on may dec) = ends_sound K site w s x h up on may dec
next_sound K site w v h (Takes which body q e spells) = takes_sound K site w which body q h e spells
next_sound K site w v h (OthersSend bytes others) = others_sound site w bytes h others
next_sound K site w v h (Stops s up) = stops_sound site w s h up

zone_stays : (site : Site) (w v : World) → Next site w v → v.ledger.zone ≡ w.ledger.zone
zone_stays site w v (Reads s line quiet on e) = refl
zone_stays site w v n = refl

forgets_sound : {F : ℕ} {G : List Entry} → Known → OfForgetting → (site : Site) (w : World) (D : ℕ) → D ≤ F → IsSound site F G w → IsSound site F G (forgotten D w)
forgets_sound {G = G} K R site w D below h =
    let b = w.ledger in
    record {
      ledger = record { zone = h.ledger.zone; default = h.ledger.default; legal = R (day_of b.zone) b.default D b.history h.ledger.legal };
      away = h.away;
      reading = h.reading;
      runs = λ s y. forgets_on K.clients K.ledgers K.frames D below s (site.tries s) (so_far (w.runs s).on_way (w.runs s).past) b.history G w.sent w.written (all_suit K.ledgers b h.ledger) (h.runs s y);
      idle = h.idle;
    }

-- ---- several ledgers

-- what holds of a world and of the ledgers of the other servers
record AreSound (site : Site) (F : ℕ) (w : World) (bs : List Book) : Type 0 where
  pub sound : IsSound site F (pool bs) w
  pub legal : AllByRecursion IsLegalBook bs
  pub zones : AllByRecursion (λ b. b.zone ≡ w.ledger.zone) bs

pool_suit : OfLedgers → (bs : List Book) → AllByRecursion IsLegalBook bs → AllSuit (pool bs)
pool_suit L bs legal = λ e i. let k = in_one bs e i in all_suit L k.book (all_at IsLegalBook bs k.book legal k.among) e k.entry

starts_of_others : (site : Site) (w : World) (bs : List Book) → AllByRecursion (λ b. IsStart site (with_ledger b w)) bs → NoneOwn site (pool bs)
starts_of_others site w bs z = λ e i.
    let k = in_one bs e i in
    let start = all_at (λ b. IsStart site (with_ledger b w)) bs k.book z k.among in
    all_at (λ x. IsOfOthers site x.request) k.book.history e start.entries k.entry

start_sound : OfLedgers → (F : ℕ) (site : Site) (c : Together) → IsStartTogether site c → AreSound site F c.world c.standby
start_sound L F site c z =
    let legal = weaker (λ b. IsStart site (with_ledger b c.world)) IsLegalBook (λ b y. y.ledger) c.standby z.standby in
    record {
      sound = sound_start F site c.world (pool c.standby) z.first (pool_suit L c.standby legal) (starts_of_others site c.world c.standby z.standby);
      legal = legal;
      zones = z.zones;
    }

-- the address moves: what it moves to and what it moves from change places
moves_sound : {F : ℕ} → OfLedgers → (site : Site) (w : World) (before after : List Book) (b : Book) → AreSound site F w (before ++ b ∷ after) → AreSound site F (with_ledger b w) (before ++ w.ledger ∷ after)
moves_sound {F = F} L site w before after b h =
    let a : Book = w.ledger in
    let here : IsLegalBook b = all_at IsLegalBook (before ++ b ∷ after) b h.legal (in_back before (b ∷ after) b (inl refl)) in
    let zone : b.zone ≡ a.zone = all_at (λ x. x.zone ≡ a.zone) (before ++ b ∷ after) b h.zones (in_back before (b ∷ after) b (inl refl)) in
    let legal = all_put IsLegalBook before after b a h.legal h.sound.ledger in
    record {
      sound = record {
        ledger = here;
        away = pool_suit L (before ++ a ∷ after) legal;
        reading = h.sound.reading;
        runs = λ s y. (let R : Zone → Type 0 = λ z. Holds (day_of z) F s (site.tries s) (so_far (w.runs s).on_way (w.runs s).past) (b.history ++ pool (before ++ a ∷ after)) w.sent w.written in
            subst R (sym zone) (holds_in s (site.tries s) (so_far (w.runs s).on_way (w.runs s).past) (a.history ++ pool (before ++ b ∷ after)) (b.history ++ pool (before ++ a ∷ after)) w.sent w.written
            (places_change before after a b) (places_change before after b a) (h.sound.runs s y)));
        idle = h.sound.idle;
      };
      legal = legal;
      zones = subst (λ z. AllByRecursion (λ x. x.zone ≡ z) (before ++ a ∷ after)) (sym zone) (all_put (λ x. x.zone ≡ a.zone) before after b a h.zones refl);
    }

reached_sound : Known → OfForgetting → (site : Site) (F : ℕ) (start c : Together) → IsStartTogether site start → ReachesTogether site start F c → AreSound site F c.world c.standby
reached_sound K R site F start c z FromStart = start_sound K.ledgers F site start z
reached_sound K R site F start c z (Steps v later r n) =
    let h = reached_sound K R site F start v z r in
    record {
      sound = next_sound K site v.world later h.sound n;
      legal = h.legal;
      zones = subst (λ x. AllByRecursion (λ b. b.zone ≡ x) v.standby) (sym (zone_stays site v.world later n)) h.zones;
    }
reached_sound K R site F start c z (Moves v before after b r is) =
    moves_sound K.ledgers site v.world before after b (subst (AreSound site F v.world) is (reached_sound K R site F start v z r))
reached_sound K R site F start c z (Forgets v D r below) =
    let h = reached_sound K R site F start v z r in
    record { sound = forgets_sound K R site v.world D below h.sound; legal = h.legal; zones = h.zones }

-- ---- from what holds in every state to the law

-- a fresh run let nothing through
idle : (f : TransactionState → ℕ) (r : Run) (t n : ℕ) → r ≡ fresh → f Never ≡ 0 → f (standing_in r.past t) ≤ n
idle f r t n e none = let F : Run → Type 0 = λ x. f (standing_in x.past t) ≤ n in subst F (sym e) (omega (arith, none))

-- what holds of the ledgers of all servers
all_legal : {F : ℕ} → (site : Site) (w : World) (bs : List Book) → AreSound site F w bs → AllByRecursion IsLegalBook (w.ledger ∷ bs)
all_legal site w bs h = (h.sound.ledger, h.legal)

sound_each : {F : ℕ} → Known → (site : Site) (w : World) (bs : List Book) → AreSound site F w bs → (t : Transaction) (k : HeldTransaction) → counting (standing_of w t) ≡ Some k → F ≤ day_of w.ledger.zone k.moment
    → let_by (standing_of w t) ≤ sum_by (kept_of t) (w.ledger ∷ bs)
sound_each {F = F} K site w bs h t = elim (either (site.is_run (run_of t))) [
  | inr n ↦ λ k is on. idle let_by (w.runs (run_of t)) t.txn _ (h.sound.idle (run_of t) n) refl
  | inl y ↦ (let s = run_of t in
      let day : ℕ → ℕ = day_of w.ledger.zone in
      let r : Run = w.runs s in
      let P = so_far r.on_way r.past in
      let H : List Entry = pool (w.ledger ∷ bs) in
      let own = h.sound.runs s y in
      let suits = pool_suit K.ledgers (w.ledger ∷ bs) (all_legal site w bs h) in
      let st = (view s P).standing t.txn in
      let now : F ≤ day (at_of st) → let_by st ≤ sum_by (kept_of t) (w.ledger ∷ bs) = λ on. standing_each s (w.ledger ∷ bs) K.ledgers suits t.txn st
      (was_granted day F K.ledgers.itself s (site.tries s) H P own.steps.underway own.ground t.txn on)
      (entry_suits K.clients K.ledgers s (site.tries s) P H w.sent w.written own t.txn) in
      let S : TransactionState → Type 0 = λ x. (k : HeldTransaction) → counting x ≡ Some k → F ≤ day k.moment → let_by x ≤ sum_by (kept_of t) (w.ledger ∷ bs) in
      subst S (K.clients.standing s r.past t.txn) (λ k is on. counts_at ((view s r.past).standing t.txn) st _ k (counts_so_far s (site.tries s) r.on_way r.past own.steps.underway own.steps.returns t.txn) is
      (λ same. now (subst (λ m. F ≤ day m) (sym same) on))))
]

sound_on : {F : ℕ} → Known → (site : Site) (w : World) (bs : List Book) → AreSound site F w bs → (l : List ℕ) (d : ℕ) → F ≤ d → (t : Transaction)
    → let_on (day_of w.ledger.zone) l d (standing_of w t) ≤ sum_by (kept_on l d t) (w.ledger ∷ bs)
sound_on {F = F} K site w bs h l d from t = elim (either (site.is_run (run_of t))) [
  | inr n ↦ idle (let_on (day_of w.ledger.zone) l d) (w.runs (run_of t)) t.txn _ (h.sound.idle (run_of t) n) refl
  | inl y ↦ (let s = run_of t in
      let day : ℕ → ℕ = day_of w.ledger.zone in
      let r : Run = w.runs s in
      let P = so_far r.on_way r.past in
      let H : List Entry = pool (w.ledger ∷ bs) in
      let own = h.sound.runs s y in
      let suits = pool_suit K.ledgers (w.ledger ∷ bs) (all_legal site w bs h) in
      let each = entry_suits K.clients K.ledgers s (site.tries s) P H w.sent w.written own t.txn in
      let st = (view s P).standing t.txn in
      let now : F ≤ day (at_of st) → let_by st ≤ sum_by (kept_of t) (w.ledger ∷ bs) = λ on. standing_each s (w.ledger ∷ bs) K.ledgers suits t.txn st
      (was_granted day F K.ledgers.itself s (site.tries s) H P own.steps.underway own.ground t.txn on) each in
      let on = let_if (is_on day l d (counting st)) (let_by st) _ (λ here. (
      let a = now (subst (λ x. F ≤ x) (sym (on_at day l d st here)) from) in
      let b = on_all K.ledgers w.ledger.zone (w.ledger ∷ bs) (refl, h.zones) l d s t.txn st each here in
      omega (arith, a, b))) in
      let S : TransactionState → Type 0 = λ x. let_on day l d x ≤ sum_by (kept_on l d t) (w.ledger ∷ bs) in
      subst S (K.clients.standing s r.past t.txn) (let_from day l d ((view s r.past).standing t.txn) st _ (counts_so_far s (site.tries s) r.on_way r.past own.steps.underway own.steps.returns t.txn) on))
]

-- what some transactions let through together is settled or reserved
sound_together : {F : ℕ} → Known → OfSums → (site : Site) (w : World) (bs : List Book) → AreSound site F w bs → (l : List ℕ) (d : ℕ) (ts : List Transaction) → AreDistinct ts → F ≤ d
    → let_together w l d ts ≤ sum_by (used_of l d) (w.ledger ∷ bs)
sound_together K S site w bs h l d ts distinct from =
    let below = sum_by-le-sum_by (λ t. let_on (day_of w.ledger.zone) l d (standing_of w t)) (λ t. sum_by (kept_on l d t) (w.ledger ∷ bs)) ts (sound_on K site w bs h l d from) in
    let used = sums_on S (w.ledger ∷ bs) (all_legal site w bs h) l d ts distinct in
    omega (arith, below, used)

-- so it is within the limits
sound_limit : {F : ℕ} → Known → OfSums → (site : Site) (w : World) (bs : List Book) → AreSound site F w bs → (l : List ℕ) (d : ℕ) (ts : List Transaction) → AreDistinct ts → F ≤ d → let_together w l d ts ≤ sum_by (cap_of l d) (w.ledger ∷ bs)
sound_limit K S site w bs h l d ts distinct from =
    let a = sound_together K S site w bs h l d ts distinct from in
    let b = within_all S (w.ledger ∷ bs) (all_legal site w bs h) l d in
    omega (arith, a, b)

-- ---- each run's past

without_exchange : (s : Source) (tries : ℕ) (o : Option Request) (P : List Step) → AreUnderway s tries (so_far o P) → AreUnderway s tries P
without_exchange s tries None P u = u
without_exchange s tries (Some q) [] u = u
without_exchange s tries (Some q) (x ∷ P) u = (u.0.2, u.1)

sound_underway : {F : ℕ} {G : List Entry} → (site : Site) (w : World) → IsSound site F G w → (s : Source) → site.is_run s ≡ true → AreUnderway s (site.tries s) (w.runs s).past
sound_underway site w h s y = without_exchange s (site.tries s) (w.runs s).on_way (w.runs s).past (h.runs s y).steps.underway

-- what its lines have a run do, by whether its input has ended
acts_in : (r : Run) → (r.is_at_end ≡ false → actions r.past ≡ actions_of r.lines) → (r.is_at_end ≡ true → actions r.past ≡ Drain ∷ actions_of r.lines) → actions r.past ≡ actions_in r
acts_in r acts ended = elim (either r.is_at_end) [ inl t ↦ rw t (ended t) | inr f ↦ rw f (acts f) ]

sound_past : {F : ℕ} {G : List Entry} → (site : Site) (w : World) → IsSound site F G w → (s : Source) → site.is_run s ≡ true → IsPastOf s (site.tries s) (w.runs s)
sound_past site w h s y =
    let read = h.reading s y in
    record { acts = acts_in (w.runs s) read.acts read.ended; played = read.played; underway = sound_underway site w h s y }

pub returns : goal.returns
returns c =
    let K : Known = record {
      frames = record {
        one_request = c.one_spelling.ensures.one_request_frame;
        one_reply = c.one_spelling.ensures.one_reply_frame;
        one_body = c.one_spelling.ensures.one_reply;
        same_ids = c.same_is_equal.ensures.id;
      };
      clients = record {
        bounded = c.few_at_a_time.ensures.bounded;
        standing = c.readings.ensures.standing;
        sent = c.one_request_for_a_number.ensures.sent;
        suits = c.settles_are_of_what_was_let.ensures.suits;
        none_returns = c.closed_is_not_asked_for.ensures.none_returns;
      };
      ledgers = record {
        arrival = c.one_more_arrival.ensures.legal;
        legal = c.built_is_legal.ensures;
        days = c.replies_in_range.ensures.days;
        range = c.replies_in_range.ensures.replies;
        stored = c.replies_suit.ensures.stored;
        suits = c.replies_suit.ensures.reply;
        same = c.open_transactions.ensures.same;
        itself = c.open_transactions.ensures.itself;
        unheard = c.open_transactions.ensures.unheard;
        kept = c.open_transactions.ensures.kept;
      };
      tracks = c.open_numbers_differ.ensures.numbered;
    } in
    let S : OfSums = record {
      held = c.sums_over_transactions.ensures.held;
      settled = c.sums_over_transactions.ensures.settled;
      within = c.within_limits.ensures;
    } in
    let R : OfForgetting = c.remembered_is_legal.ensures.legal in
    record {
      one = λ site start c F z r. sound_each K site c.world c.standby (reached_sound K R site F start c z r);
      together = λ site start c F z r. sound_together K S site c.world c.standby (reached_sound K R site F start c z r);
      limit = λ site start c F z r. sound_limit K S site c.world c.standby (reached_sound K R site F start c z r);
      each = λ site start c F z r. all_legal site c.world c.standby (reached_sound K R site F start c z r);
      pasts = λ site start c F z r. sound_past site c.world (reached_sound K R site F start c z r).sound;
      bounded = λ site start c F z r s y. K.clients.bounded s (site.tries s) (c.world.runs s).past (sound_underway site c.world (reached_sound K R site F start c z r).sound s y);
    }
