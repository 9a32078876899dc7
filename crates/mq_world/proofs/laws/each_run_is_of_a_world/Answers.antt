-- One run goes on through worlds, as its contract says.
use Rattle.mq_world.proofs.Words.{Action, AfterReady, Answers, ArePlayed, Asks, BeforeReady, Bool, Closes, Closing, ComeInTurn, Drain, RunEnd, EndsWith, Exchange, FilterLine, Filters, Goes, HasText, Holding, IsDecision, IsInHand, IsPlayed, IsUnderway, List, MakesAll, Meaning, None, Option, Outside}
use Rattle.mq_world.proofs.Words.{Passes, Plays, Query, Refuses, Request, Some, Source, Stage, State, Step, StopsAt, Takes, [], action_of, ap, asking_of, at_line, close_of, closing, drained, exchanges_in, false, fault, held_back, held_for, inl, inr, is_some, next, next_of, none_some, option_map}
use Rattle.mq_world.proofs.Words.{push, query, queue_of, refl, request_frame, subst, sym, tries_in, true, view, ℕ, ◌++◌, ◌∙◌, ◌∷◌, ◌≡◌, ◌⊎◌}
use Rattle.std.proofs.lemmas.List.{append-nil}
use Rattle.mq_line.specs.declared.results.Decision.{Decision}
use Rattle.mq_client.specs.declared.spans.Spans.{Spans}
use Rattle.mq_client.specs.declared.fault.FilterFault.{FilterFault}
use Rattle.mq_client.specs.declared.fault.FilterFault.TheVariants as faults
use Rattle.mq_world.specs.World.{Site, Run, World, fresh, IsUp, ReadsOn, begun, after_line, after_end, next_request, with_on_way, after_exchange, after_stop, MayCome, with_run, with_sent, Next, Reads, ReadsEnd, Sends, Ends, Stops, Reaches, AtOnce, Later}
use Rattle.mq_world.specs.Running.{ran, step_of, unsent, exchanges_of, OthersGoOn, NobodyYet, OneStep, GoesOnAround, Before, During, IsNew, lines_at, IsOrOneMore}
use Rattle.mq_world.specs.RunningTogether.{OthersGoOnTogether, StillThere, WorldSteps, AddressMoves, LedgerForgets, GoesOnAmid, OthersAlone, OneMoreExchange, with_run_in, with_world}
use Rattle.mq_world.specs.Together.{Together, ReachesTogether}
use Rattle.mq_world.specs.Together as servers
use Rattle.mq_world.proofs.Ways.{alone, joined}
use Rattle.mq_world.proofs.Others.{twice, itself, anywhere, placed}
use Rattle.mq_world.proofs.laws.each_run_is_of_a_world.Goals as goal

-- a step is made to its end where its exchanges came in turn
abbrev pub InTurn : Type 0
InTurn = (s : Source) (tries : ℕ) (P : List Step) (x : Step) → Plays s tries P x → IsUnderway s tries P x

-- ---- what a line begins

-- a step that has no exchange yet, quiet or not, of an action
abbrev pub Begun : Option Step → Option Action → Type 0
Begun step o = (quiet : Bool) × (option_map unsent step ≡ option_map (begun quiet) o)

asks : (k : Holding) (q : Query) (step : Option Step) (d : Decision) → Answers k q step d → Begun step (asking_of q)
asks k Passes step d h = (false, ap (option_map unsent) h.0)
asks k Refuses step d h = (false, ap (option_map unsent) h.0)
asks k (Asks txn moment login) step d (group, is, answer) = (is_some (held_back k login moment), ap (option_map unsent) is)

closes : (k : Bool) (c : Option Closing) (step : Option Step) → Closes k c step → Begun step (option_map close_of c)
closes k None step h = (k, ap (option_map unsent) h)
closes k (Some c) step (group, is) = (k, ap (option_map unsent) is)

-- the step of a line begins
begins : (k : Holding) (L : List Meaning) (m : Meaning) (step : Option Step) (text : List ℕ) → Takes k L m step text → Begun step (action_of L m)
begins k L (FilterLine seconds subsystem phase session token rest) step text (d, h, e) = asks k (query L subsystem phase session) step d h
begins k L m step text h = closes (is_some k.paused) (closing L m) step h.1

-- the tracker doesn't refuse it
accepted : (k : Holding) (L : List Meaning) (m : Meaning) (step : Option Step) (text : List ℕ) → Takes k L m step text → fault L m ≡ None
accepted k L (FilterLine seconds subsystem phase session token rest) step text h = refl
accepted k L m step text h = h.0

-- an exchange of a step is its next one, and what it comes to follows from what it brought
turn_of : (tries : ℕ) (queue : List Request) (later : List Exchange) (x : Exchange) (group : List Exchange) → ComeInTurn tries queue (later ++ x ∷ group)
    → (next_of tries queue group ≡ Some x.request) × IsDecision x.request x.outcome x.decided
turn_of tries queue [] x group turn = (turn.0, turn.1)
turn_of tries queue (y ∷ later) x group turn = turn_of tries queue later x group turn.2

exchanges_push : (step : Option Step) (P : List Step) → exchanges_in (push step P) ≡ exchanges_of step ++ exchanges_in P
exchanges_push None P = refl
exchanges_push (Some x) P = refl

played_before : (s : Source) (tries : ℕ) (step : Option Step) (P : List Step) → IsPlayed s tries (push step P) → IsPlayed s tries P
played_before s tries None P played = played
played_before s tries (Some x) P played = played.1

played_alone : (s : Source) (tries : ℕ) (steps : List Step) → ArePlayed s tries [] steps → IsPlayed s tries steps
played_alone s tries [] played = tt
played_alone s tries (x ∷ steps) played = (subst (λ l. Plays s tries l x) (append-nil steps) played.0, played_alone s tries steps played.1)

-- ---- one run of the site, whose exchanges come in turn

module _ (T : InTurn) (site : Site) (s : Source) (y : site.is_run s ≡ true) where
  -- ---- one step of the world

  is_up : (w : World) (r : Run) → w.runs s ≡ r → r.is_stopped ≡ false → IsUp site w s
  is_up w r e up = record { is_run = y; is_up = ap (λ (x : Run). x.is_stopped) e ∙ up }

  reads_on : (w : World) (L : List Meaning) (P : List Step) → w.runs s ≡ ran L P false → IsPlayed s (site.tries s) P → ReadsOn site w s
  reads_on w L P e played = record {
    up = is_up w (ran L P false) e refl;
    before_end = ap (λ (x : Run). x.is_at_end) e;
    none_on_way = ap (λ (x : Run). x.on_way) e;
    played = subst (IsPlayed s (site.tries s)) (sym (ap (λ (x : Run). x.past) e)) played;
  }

  line_begins : (w : World) (L : List Meaning) (P : List Step) (m : Meaning) (step : Option Step) (text : List ℕ) (k : Holding) → w.runs s ≡ ran L P false → IsPlayed s (site.tries s) P
      → Takes k L m step text → Next site w (with_run w s (ran (m ∷ L) (push (option_map unsent step) P) false))
  line_begins w L P m step text k e played takes =
      let (quiet, begin) = begins k L m step text takes in
      let now : after_line quiet m (w.runs s) ≡ ran (m ∷ L) (push (option_map unsent step) P) false =
      ap (after_line quiet m) e ∙ ap (λ o. ran (m ∷ L) (push o P) false) (sym begin) in
      let ok : fault (w.runs s).lines m ≡ None = ap (λ (x : Run). fault x.lines m) e ∙ accepted k L m step text takes in
      subst (λ r. Next site w (with_run w s r)) now (Reads s m quiet (reads_on w L P e played) ok)

  -- ---- exchanges

  exchange_begins : (w : World) (L : List Meaning) (a : Action) (b : Bool) (group : List Exchange) (P : List Step) (e : Bool) (q : Request) → w.runs s ≡ ran L (step_of a b group ∷ P) e
      → next s (tries_in (site.tries s) b) (view s P) a group ≡ Some q
      → Next site w (with_sent (with_run w s (with_on_way (Some q) (ran L (step_of a b group ∷ P) e))) (request_frame q))
  exchange_begins w L a b group P e q is turn =
      let asks : next_request s (site.tries s) (w.runs s).past ≡ Some q = ap (λ (r : Run). next_request s (site.tries s) r.past) is ∙ turn in
      subst (λ r. Next site w (with_sent (with_run w s (with_on_way (Some q) r)) (request_frame q))) is
      (Sends s q (is_up w (ran L (step_of a b group ∷ P) e) is refl) (ap (λ (r : Run). r.on_way) is) asks)

  exchange_ends : (w : World) (L : List Meaning) (a : Action) (b : Bool) (x : Exchange) (group : List Exchange) (P : List Step) (e : Bool)
      → w.runs s ≡ with_on_way (Some x.request) (ran L (step_of a b group ∷ P) e) → MayCome w.written x.outcome → IsDecision x.request x.outcome x.decided
      → Next site w (with_run w s (ran L (step_of a b (x ∷ group) ∷ P) e))
  exchange_ends w L a b x group P e is may decision =
      subst (λ r. Next site w (with_run w s r)) (ap (after_exchange x) is)
      (Ends s x (is_up w (with_on_way (Some x.request) (ran L (step_of a b group ∷ P) e)) is refl) (ap (λ (r : Run). r.on_way) is) may decision)

  -- others go on, wherever the run stands
  others_on : (w a : World) (r : Run) (b : World) → OthersGoOn site s a b → Reaches site w (with_run a s r) → Reaches site w (with_run b s r)
  others_on w a r b NobodyYet way = way
  others_on w a r b (OneStep mid later go step is) way =
      Later (with_run mid s r) (with_run later s r) (others_on w a r mid go way) (anywhere site mid later s r step is)

  -- an exchange of a played step in its turn
  played_turn : (P : List Step) (a : Action) (b : Bool) (later : List Exchange) (x : Exchange) (group : List Exchange) → Plays s (site.tries s) P (step_of a b (later ++ x ∷ group))
      → (next s (tries_in (site.tries s) b) (view s P) a group ≡ Some x.request) × IsDecision x.request x.outcome x.decided
  played_turn P a b later x group plays = turn_of (tries_in (site.tries s) b) (queue_of s (view s P) (held_for (view s P) a) a) later x group (T s (site.tries s) P (step_of a b (later ++ x ∷ group)) plays)

  -- what a new client made was played
  all_played : (w : World) (old new : State) (steps : List Step) → IsNew site w s old → MakesAll old new steps → IsPlayed s (site.tries s) steps
  all_played w old new steps n made =
      let played : IsPlayed old.source old.tries steps = played_alone old.source old.tries steps (made.plays [] n.stands) in
      subst (λ u. IsPlayed u (site.tries s) steps) n.source (subst (λ k. IsPlayed old.source k steps) n.tries played)

-- ---- whole runs, with whatever servers

-- what others do is R's, wherever the run stands: R holds where a step of the world comes to
module _ (T : InTurn) (site : Site) (s : Source) (y : site.is_run s ≡ true) (R : Together → Type 0) (O : Together → Together → Type 0) (still : (c : Together) → O c c)
    (step : (c : Together) (w : World) → R c → Next site c.world w → R (with_world c w)) (on : (a b : Together) (r : Run) → O a b → R (with_run_in a s r) → R (with_run_in b s r)) where
  -- the run goes on, and all others stand as they did
  goes_to : (later : Together) (r now : Run) → R (with_run_in later s r) → Next site (with_run later.world s r) (with_run (with_run later.world s r) s now) → R (with_run_in later s now)
  goes_to later r now way n = subst (λ v. R (with_world later v)) (twice later.world s r now) (step (with_run_in later s r) (with_run (with_run later.world s r) s now) way n)

  -- the run comes to its next exchange, others go on, and it comes to its end
  group_goes : (mid : Together) (L : List Meaning) (a : Action) (b : Bool) (P : List Step) (e : Bool) → (group : List Exchange) (later : Together) → GoesOnAmid O mid group later
      → ComeInTurn (tries_in (site.tries s) b) (queue_of s (view s P) (held_for (view s P) a) a) group → R (with_run_in mid s (ran L (begun b a ∷ P) e)) → R (with_run_in later s (ran L (step_of a b group ∷ P) e))
  group_goes mid L a b P e group later (OthersAlone end go) turn way = on mid end (ran L (begun b a ∷ P) e) go way
  group_goes mid L a b P e group later (OneMoreExchange x earlier before ended end around go may after) turn way =
      let r : Run = ran L (step_of a b earlier ∷ P) e in
      let sending : Run = with_on_way (Some x.request) r in
      let sent : Together = with_world before (with_sent before.world (request_frame x.request)) in
      let there : R (with_run_in before s r) = group_goes mid L a b P e earlier before around turn.2 way in
      let first : Next site (with_run before.world s r) (with_sent (with_run (with_run before.world s r) s sending) (request_frame x.request)) =
      exchange_begins T site s y (with_run before.world s r) L a b earlier P e x.request (placed before.world s r) turn.0 in
      let sends : R (with_run_in sent s sending) =
      subst (λ v. R (with_world before (with_sent v (request_frame x.request)))) (twice before.world s r sending)
      (step (with_run_in before s r) (with_sent (with_run (with_run before.world s r) s sending) (request_frame x.request)) there first) in
      let came : R (with_run_in ended s sending) = on sent ended sending go sends in
      let now : R (with_run_in ended s (ran L (step_of a b (x ∷ earlier) ∷ P) e)) =
      goes_to ended sending (ran L (step_of a b (x ∷ earlier) ∷ P) e) came
      (exchange_ends T site s y (with_run ended.world s sending) L a b x earlier P e (placed ended.world s sending) may turn.1) in
      on ended end (ran L (step_of a b (x ∷ earlier) ∷ P) e) after now

  line_goes : (mid later : Together) (L : List Meaning) (P : List Step) (m : Meaning) (made : Option Step) (text : List ℕ) (k : Holding) → IsPlayed s (site.tries s) (push made P)
      → Takes k L m made text → GoesOnAmid O mid (exchanges_of made) later → R (with_run_in mid s (ran L P false))
      → R (with_run_in later s (ran (m ∷ L) (push made P) false))
  line_goes mid later L P m made text k also takes around way =
      let begun : R (with_run_in mid s (ran (m ∷ L) (push (option_map unsent made) P) false)) =
      goes_to mid (ran L P false) (ran (m ∷ L) (push (option_map unsent made) P) false) way
      (line_begins T site s y (with_run mid.world s (ran L P false)) L P m made text k (placed mid.world s (ran L P false)) (played_before s (site.tries s) made P also) takes) in
      step_goes mid later (m ∷ L) P made also around begun
    where
      step_goes : (mid later : Together) (L : List Meaning) (P : List Step) (made : Option Step) → IsPlayed s (site.tries s) (push made P)
          → GoesOnAmid O mid (exchanges_of made) later → R (with_run_in mid s (ran L (push (option_map unsent made) P) false)) → R (with_run_in later s (ran L (push made P) false))
      step_goes mid later L P None also (OthersAlone end go) way = on mid end (ran L P false) go way
      step_goes mid later L P (Some x) also around way = group_goes mid L x.action x.quiet P false x.group later around (T s (site.tries s) P x also.0) way

  -- what goes on around some exchanges goes on around the first of them, and then around the rest
  abbrev pub Parts : Together → (g h : List Exchange) → Together → Type 0
  Parts c g h later = (mid : Together) × GoesOnAmid O c h mid × GoesOnAmid O mid g later

  parts : (c later : Together) (g h : List Exchange) → GoesOnAmid O c (g ++ h) later → Parts c g h later
  parts c later [] h around = (later, around, OthersAlone later (still later))
  parts c later (x ∷ g) h (OneMoreExchange z rest before ended end around go may after) =
      let (mid, first, then) = parts c before g h around in (mid, first, OneMoreExchange x g before ended end then go may after)

  -- nothing was read, and nothing asked
  none_go : (c later : Together) (steps : List Step) → R c → c.world.runs s ≡ fresh → steps ≡ [] → GoesOnAmid O c (exchanges_in steps) later → R (with_run_in later s (ran [] steps false))
  none_go c later [] start is none (OthersAlone end go) = on c end fresh go (subst (λ v. R (with_world c v)) (sym (itself c.world s fresh is)) start)
  none_go c later (x ∷ steps) start is none around = absurd (cc (none))

  lines_go : (c later : Together) (spans : Spans) (L : List Meaning) (steps : List Step) (text : List ℕ) (k : Holding) → R c → c.world.runs s ≡ fresh → Filters spans L steps text k → IsPlayed s (site.tries s) steps
      → GoesOnAmid O c (exchanges_in steps) later → R (with_run_in later s (ran L steps false))
  lines_go c later spans [] steps text k start is h played around = none_go c later steps start is h.0 around
  lines_go c later spans (m ∷ L) steps text k start is (made, before, written, next, held, h, takes, whole, text_is, held_is) played around =
      let now : IsPlayed s (site.tries s) (push made before) = subst (IsPlayed s (site.tries s)) whole played in
      let all : GoesOnAmid O c (exchanges_of made ++ exchanges_in before) later = subst (λ l. GoesOnAmid O c l later) (ap exchanges_in whole ∙ exchanges_push made before) around in
      let (mid, first, then) = parts c later (exchanges_of made) (exchanges_in before) all in
      let way : R (with_run_in mid s (ran L before false)) = lines_go c mid spans L before written held start is h (played_before s (site.tries s) made before now) first in
      subst (λ l. R (with_run_in later s (ran (m ∷ L) l false))) (sym whole) (line_goes mid later L before m made next (at_line spans m held) now takes then way)

  -- the input ends, and what waits is sent
  end_goes : (mid later : Together) (L : List Meaning) (steps : List Step) (group : List Exchange) → IsPlayed s (site.tries s) (drained group steps)
      → GoesOnAmid O mid group later → R (with_run_in mid s (ran L steps false)) → R (with_run_in later s (ran L (drained group steps) true))
  end_goes mid later L steps group played around way =
      let r : Run = ran L steps false in
      let end : Next site (with_run mid.world s r) (with_run (with_run mid.world s r) s (ran L (begun false Drain ∷ steps) true)) =
      subst (λ x. Next site (with_run mid.world s r) (with_run (with_run mid.world s r) s x)) (ap after_end (placed mid.world s r)) (ReadsEnd s (reads_on T site s y (with_run mid.world s r) L steps (placed mid.world s r) played.1)) in
      group_goes mid L Drain false steps true group later around (T s (site.tries s) steps (step_of Drain false group) played.0)
      (goes_to mid r (ran L (begun false Drain ∷ steps) true) way end)

  -- the run stops
  stop_goes : (later : Together) (L : List Meaning) (P : List Step) → R (with_run_in later s (ran L P false)) → R (with_run_in later s (after_stop (ran L P false)))
  stop_goes later L P way =
      let r : Run = ran L P false in
      goes_to later r (after_stop r) way
      (subst (λ x. Next site (with_run later.world s r) (with_run (with_run later.world s r) s x)) (ap after_stop (placed later.world s r)) (Stops s (is_up T site s y (with_run later.world s r) r (placed later.world s r) refl)))

  -- ---- ends of a run

  whole_goes : (c later : Together) (o : Outside) (bytes : List ℕ) (now : Outside) (e : RunEnd) (h : EndsWith o bytes now e) → R c → IsNew site c.world s o.client → GoesOnAmid O c (exchanges_in (drained h.group h.steps)) later
      → R (with_run_in later s (ran h.after_ready (drained h.group h.steps) true))
  whole_goes c later o bytes now e h start n around =
      let played = all_played T site s y c.world o.client now.client (drained h.group h.steps) n h.made in
      let (mid, first, then) = parts c later h.group (exchanges_in h.steps) around in
      end_goes mid later h.after_ready h.steps h.group played then
      (lines_go c mid o.client.spans h.after_ready h.steps h.results h.holding start n.run h.filters played.1 first)

  stage_goes : (c later : Together) (spans : Spans) (stage : Stage) (steps : List Step) (text : List ℕ) (k : Holding) → R c → c.world.runs s ≡ fresh → HasText spans stage steps text k → IsPlayed s (site.tries s) steps
      → GoesOnAmid O c (exchanges_in steps) later → R (with_run_in later s (ran (lines_at stage) steps false))
  stage_goes c later spans BeforeReady steps text k start is h played around = none_go c later steps start is h.0 around
  stage_goes c later spans (AfterReady L) steps text k start is (results, filters, whole) played around = lines_go c later spans L steps results k start is filters played around

  -- the line in hand made no step, or the one that it makes
  in_hand : (f : FilterFault) (spans : Spans) (h : Holding) (stage : Stage) (left : List ℕ) (made : Option Step) (next : List ℕ) → IsInHand f spans h stage left made next → (made ≡ None) ⊎ ((line : List ℕ) × Goes spans h stage line made next)
  in_hand faults.Write spans k stage left made next (inl h) = inl h.0
  in_hand faults.Write spans k stage left made next (inr (line, first, goes)) = inr (line, goes)
  in_hand faults.Memory spans k stage left made next (inl h) = inl h.0
  in_hand faults.Memory spans k stage left made next (inr (line, first, goes)) = inr (line, goes)
  in_hand f spans k stage left made next h = inl h.0

  -- a run that stopped after these steps, with these lines or one more
  abbrev pub StopsIn : Together → List Meaning → List Step → Type 0
  StopsIn later handled steps = (lines : List Meaning) × IsOrOneMore lines handled × R (with_run_in later s (after_stop (ran lines steps false)))

  none_goes : (mid later : Together) (L : List Meaning) (P : List Step) (made : Option Step) → made ≡ None → GoesOnAmid O mid (exchanges_of made) later → R (with_run_in mid s (ran L P false)) → StopsIn later L (push made P)
  none_goes mid later L P None is (OthersAlone end go) way = (L, inl refl, stop_goes end L P (on mid end (ran L P false) go way))
  none_goes mid later L P (Some x) is around way = absurd (none_some x (sym is))

  hand_goes : (mid later : Together) (spans : Spans) (h : Holding) (stage : Stage) (P : List Step) (line : List ℕ) (made : Option Step) (text : List ℕ) → IsPlayed s (site.tries s) (push made P)
      → GoesOnAmid O mid (exchanges_of made) later → Goes spans h stage line made text → R (with_run_in mid s (ran (lines_at stage) P false)) → StopsIn later (lines_at stage) (push made P)
  hand_goes mid later spans h BeforeReady P line made text played around goes way = none_goes mid later [] P made goes.1 around way
  hand_goes mid later spans h (AfterReady L) P line made text played around (m, reads, takes) way =
      (m ∷ L, inr (m, refl), stop_goes later (m ∷ L) (push made P) (line_goes mid later L P m made text (at_line spans m h) played takes around way))

  stopped_goes : (c later : Together) (o : Outside) (pieces : List (List ℕ)) (source : Option (List ℕ)) (now : Outside) (read_failed write_failed : Bool) (f : FilterFault)
      (h : StopsAt o pieces source now read_failed write_failed f) → R c → IsNew site c.world s o.client → GoesOnAmid O c (exchanges_in (push h.step h.steps)) later → StopsIn later (lines_at h.stage) (push h.step h.steps)
  stopped_goes c later o pieces source now read_failed write_failed f h start n around =
      let played = all_played T site s y c.world o.client now.client (push h.step h.steps) n h.made in
      let all : GoesOnAmid O c (exchanges_of h.step ++ exchanges_in h.steps) later = subst (λ l. GoesOnAmid O c l later) (exchanges_push h.step h.steps) around in
      let (mid, first, then) = parts c later (exchanges_of h.step) (exchanges_in h.steps) all in
      let way = stage_goes c mid o.client.spans h.stage h.steps h.text h.holding start n.run h.has_text (played_before s (site.tries s) h.step h.steps played) first in
      elim (in_hand f o.client.spans h.holding h.stage h.left h.step (h.front ++ h.rest) h.in_hand) [
        | inl none ↦ none_goes mid later (lines_at h.stage) h.steps h.step none then way
        | inr p ↦ hand_goes mid later o.client.spans h.holding h.stage h.steps p.0 h.step (h.front ++ h.rest) played then p.1 way
      ]

-- ---- with one server

abbrev OthersOfOne : Site → Source → Together → Together → Type 0
OthersOfOne site s a b = OthersGoOn site s a.world b.world

around_one : (site : Site) (s : Source) (w : World) (group : List Exchange) (later : World) → GoesOnAround site s w group later → GoesOnAmid (OthersOfOne site s) (alone w) group (alone later)
around_one site s w group later (Before end go) = OthersAlone (alone end) go
around_one site s w group later (During x earlier before ended end around go may after) =
    OneMoreExchange x earlier (alone before) (alone ended) (alone end) (around_one site s w earlier before around) go may after

whole_of_one : (T : InTurn) (site : Site) (s : Source) (y : site.is_run s ≡ true) (w later : World) (o : Outside) (bytes : List ℕ) (now : Outside) (e : RunEnd) (h : EndsWith o bytes now e) → IsNew site w s o.client
    → GoesOnAround site s w (exchanges_in (drained h.group h.steps)) later → Reaches site w (with_run later s (ran h.after_ready (drained h.group h.steps) true))
whole_of_one T site s y w later o bytes now e h n around =
    whole_goes T site s y (λ c. Reaches site w c.world) (OthersOfOne site s) (λ c. NobodyYet) (λ c v way n. Later c.world v way n) (λ a b r go way. others_on T site s y w a.world r b.world go way)
    (alone w) (alone later) o bytes now e h AtOnce n (around_one site s w (exchanges_in (drained h.group h.steps)) later around)

stopped_of_one : (T : InTurn) (site : Site) (s : Source) (y : site.is_run s ≡ true) (w later : World) (o : Outside) (pieces : List (List ℕ)) (source : Option (List ℕ)) (now : Outside) (read_failed write_failed : Bool) (f : FilterFault)
    (h : StopsAt o pieces source now read_failed write_failed f) → IsNew site w s o.client → GoesOnAround site s w (exchanges_in (push h.step h.steps)) later
    → (lines : List Meaning) × IsOrOneMore lines (lines_at h.stage) × Reaches site w (with_run later s (after_stop (ran lines (push h.step h.steps) false)))
stopped_of_one T site s y w later o pieces source now read_failed write_failed f h n around =
    stopped_goes T site s y (λ c. Reaches site w c.world) (OthersOfOne site s) (λ c. NobodyYet) (λ c v way n. Later c.world v way n) (λ a b r go way. others_on T site s y w a.world r b.world go way)
    (alone w) (alone later) o pieces source now read_failed write_failed f h AtOnce n (around_one site s w (exchanges_in (push h.step h.steps)) later around)

-- ---- with several servers, over moves and forgettings

others_together : (site : Site) (start : Together) (F : ℕ) (s : Source) (a b : Together) (r : Run) → OthersGoOnTogether site s F a b → ReachesTogether site start F (with_run_in a s r) → ReachesTogether site start F (with_run_in b s r)
others_together site start F s a b r StillThere way = way
others_together site start F s a b r (WorldSteps mid later go n is) way =
    servers.Steps (with_run_in mid s r) (with_run later s r) (others_together site start F s a mid r go way) (anywhere site mid.world later s r n is)
others_together site start F s a b r (AddressMoves mid before after other go is) way =
    servers.Moves (with_run_in mid s r) before after other (others_together site start F s a mid r go way) is
others_together site start F s a b r (LedgerForgets mid D go le) way =
    servers.Forgets (with_run_in mid s r) D (others_together site start F s a mid r go way) le

whole_together : (T : InTurn) (site : Site) (start c later : Together) (F : ℕ) (s : Source) (o : Outside) (bytes : List ℕ) (now : Outside) (e : RunEnd) (h : EndsWith o bytes now e) → ReachesTogether site start F c → IsNew site c.world s o.client
    → GoesOnAmid (OthersGoOnTogether site s F) c (exchanges_in (drained h.group h.steps)) later → ReachesTogether site start F (with_run_in later s (ran h.after_ready (drained h.group h.steps) true))
whole_together T site start c later F s o bytes now e h reached n around =
    whole_goes T site s n.is_run (ReachesTogether site start F) (OthersGoOnTogether site s F) (λ d. StillThere) (λ d v way m. servers.Steps d v way m) (others_together site start F s)
    c later o bytes now e h reached n around

pub returns : goal.returns
returns c =
    let T : InTurn = c.in_turn.ensures.turns in
    record {
      lines = λ site w s L P m step text k y. line_begins T site s y w L P m step text k;
      sends = λ site w s L P e a b later earlier x y plays is. exchange_begins T site s y w L a b earlier P e x.request is (played_turn T site s y P a b later x earlier plays).0;
      ends = λ site w s L P e a b later earlier x y plays is may. exchange_ends T site s y w L a b x earlier P e is may (played_turn T site s y P a b later x earlier plays).1;
      faults = λ written fault. tt;
      retry = λ written. inl refl;
      bad = λ written. inr (inl refl);
      replies = λ written which body is. inr (inr (which, is));
      whole = λ site w later s o bytes now e h n. whole_of_one T site s n.is_run w later o bytes now e h n;
      stopped = λ site w later s o pieces source now read_failed write_failed f h n. stopped_of_one T site s n.is_run w later o pieces source now read_failed write_failed f h n;
      limit = λ site start w later s o bytes now e h start_is reached n around l d ts distinct.
          c.never_past_the_limit.ensures.limit site start (with_run later s (ran h.after_ready (drained h.group h.steps) true)) start_is
          (joined reached (whole_of_one T site s n.is_run w later o bytes now e h n around)) l d ts distinct;
      whole_together = λ site start c later F s o bytes now e h reached n. whole_together T site start c later F s o bytes now e h reached n;
      stopped_together = λ site start c later F s o pieces source now read_failed write_failed f h reached n.
          stopped_goes T site s n.is_run (ReachesTogether site start F) (OthersGoOnTogether site s F) (λ d. StillThere) (λ d v way m. servers.Steps d v way m) (others_together site start F s)
          c later o pieces source now read_failed write_failed f h reached n;
      limits = λ site start b later F s o bytes now e h start_is reached n around l d ts distinct le.
          c.never_past_the_limits_together.ensures.limit site start (with_run_in later s (ran h.after_ready (drained h.group h.steps) true)) F start_is
          (whole_together T site start b later F s o bytes now e h reached n around) l d ts distinct le;
    }
