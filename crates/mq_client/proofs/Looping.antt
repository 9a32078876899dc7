-- Lines handled one after another.
use Rattle.std.proofs.Common.{◌≡◌, ℕ, ◌+◌, Bool, true, false, List, [], ◌∷◌, ◌++◌, length, refl, sym, ap, ◌∙◌, subst, append_assoc, append-nil, arith, rules, cond, inl, inr, ◌⊎◌, Option, None, Some, is_some}
use Rattle.mq_client.proofs.Words.{AfterReady, Appends, Appends-trans, BeforeReady, Carries, Closes, Does, Drain, RunEnd, EndsWith, Err, Exchange, FilterFault, FilterLine, HasText, Holding, Holds, IfErr, IfSome, IsAt, IsAtWork, IsCut, IsEarly, IsFound, IsInHand, IsLine, IsOk, IsReady, IsRefused, Makes, MakesAll, MakesOne, MayGo, Meaning, Ok, OnErr, Outside, Plays, Reaches, Reads, ReadyLine, Replies, Result, SoFar, Source, Spans, Stage, StandsAt, StandsFirst, State, Step, StopsAt, StopsWithin, Takes, Tells, ReportedExchange, TrackFault, TracksAt, after_line, all_push, answer_count, around, at_line, closing, concat, is_early, is_filter, meaning, nothing_held, push, registration, still, sum_by-cons, text_of, told_all, told_one, told_steps, track_fault as fault, view, Appends-nil}
use Rattle.std.specs.Borrow.{Bor}
use Rattle.mq_line.specs.declared.reading.Line.{Line}
use Rattle.mq_line.specs.declared.reading.Line.TheVariants as line
use Rattle.mq_line.proofs.TextLaws.{holds-taken}
use Rattle.mq_client.specs.declared.fault.FilterFault.TheVariants as faults
use Rattle.mq_client.specs.declared.filter.Filter.{Filter}
use Rattle.mq_lemmas.proofs.Telling.{Tells-none, Tells-trans}
use Rattle.mq_client.proofs.Supplying.{concat_push}
use Rattle.mq_client.specs.Run.{IsReasonedAt}
use Rattle.mq_client.proofs.Reasoning.{reasoned, reasons}

-- nothing was done
pub Does-still : (now : Outside) → Does now now None []
Does-still now = record { written = Appends-nil now.sink; exchanged = Tells-none now.told; made = refl }

pub Does-nothing : {T : Type 0} (told : T → Option (List ReportedExchange)) (sink : Option (List ℕ)) (old new : T) (client client' : State) → new ≡ old → client' ≡ client → Does (around sink (told old) client) (around sink (told new) client') None []
Does-nothing told sink old new client client' e f = record {
  written = Appends-nil sink;
  exchanged = subst (λ x. Tells (told old) (told x) []) (sym e) (Tells-none (told old));
  made = f;
}

-- a line that was accepted has no fault
pub accepted : {X : Type 0} (o : Option TrackFault) (x : X) → IfSome o (λ f. ◌≡◌ {A = Result X TrackFault} (Ok x) (Err f)) → o ≡ None
accepted None x h = refl
accepted (Some f) x h = absurd cc

-- ---- steps that add up

pub makes_none : (c : State) → MakesAll c c []
makes_none c = record { source = refl; tries = refl; plays = λ P st. tt; stands = λ P st. st }

pub makes_push : (a b c : State) (steps : List Step) (step : Option Step) → MakesAll a b steps → MakesOne b c step → MakesAll a c (push step steps)
makes_push a b c steps None m e = subst (λ (x : State). MakesAll a x steps) (sym e) m
makes_push a b c steps (Some x) m n = record {
  source = n.source ∙ m.source;
  tries = n.tries ∙ m.tries;
  plays = λ P st.
      (subst (λ (k : ℕ). Plays a.source k (steps ++ P) x) m.tries (subst (λ (s : Source). Plays s b.tries (steps ++ P) x) m.source (n.plays (steps ++ P) (m.stands P st))), m.plays P st);
  stands = λ P st. n.stands (steps ++ P) (m.stands P st);
}

pub told_push : (a b c : Option (List ReportedExchange)) (steps : List Step) (step : Option Step) → Tells a b (told_steps steps) → Tells b c (told_one step) → Tells a c (told_steps (push step steps))
told_push a b c steps None h i =
    subst (Tells a c) (append-nil (told_steps steps)) (Tells-trans a b c (told_steps steps) [] h i)
told_push a b c steps (Some x) h i = Tells-trans a b c (told_steps steps) (told_all x.group) h i

-- a last call, whose answer is returned as it is, where it failed
pub fails_so : {T E A B : Type 0} {P Q : E → Type 0} (r : Result T E) → IfErr r P → OnErr r A → OnErr r B → ((e : E) → P e → A → B → Q e) → IfErr r Q
fails_so (Ok x) h a b f = tt
fails_so (Err e) h a b f = f e h a b

-- an answer that is an error isn't Ok, and one that is Ok is
pub err_not_ok : {T E : Type 0} (r : Result T E) (e : E) → r ≡ Err e → IsOk r → ⊥
err_not_ok (Ok x) e is ok = cc
err_not_ok (Err x) e is ok = cc

pub is_ok_by : {T E : Type 0} (r : Result T E) (x : T) → r ≡ Ok x → IsOk r
is_ok_by (Ok y) x is = refl
is_ok_by (Err e) x is = absurd cc

-- ---- lines that add up

ready_more : (lines : List (List ℕ)) (line : List ℕ) (L : List Meaning) (m : Meaning) → IsReady lines L → Reads line m → IsReady (lines ++ line ∷ []) (m ∷ L)
ready_more lines line L m r h = record {
  before = r.before;
  ready = r.ready;
  after = r.after ++ line ∷ [];
  whole = ap (λ l. l ++ line ∷ []) r.whole ∙ append_assoc r.before (r.ready ∷ r.after) (line ∷ []);
  early = r.early;
  reads_ready = r.reads_ready;
  read = (r.after, line, refl, h, r.read);
}

-- ---- where the filter stands

pub at_before : (f : Filter) (stage : Stage) → f.is_ready ≡ false → IsAt f stage → stage ≡ BeforeReady
at_before f BeforeReady h a = refl
at_before f (AfterReady L) h a = absurd (cc (h, a.0))

pub at_after : (f : Filter) (stage : Stage) → f.is_ready ≡ true → IsAt f stage → (L : List Meaning) × (stage ≡ AfterReady L) × TracksAt f.tracker L × (f.answers ≡ answer_count L)
at_after f BeforeReady h a = absurd (cc (h, a.0))
at_after f (AfterReady L) h a = (L, refl, a.1, a.2)

-- one more line was handled, by which the filter came to this stage
so_far_more : (o : Outside) (bytes line rest : List ℕ) (f f' : Filter) (old new : Outside) (step : Option Step) (text : List ℕ) (stage : Stage) → IsLine line → (s : SoFar o bytes (line ++ 10 ∷ rest) f old) → Does old new step text
    → Reaches (s.lines ++ line ∷ []) stage → IsAt f' stage → f'.holdup.0 ≡ f.holdup.0 → HasText o.client.spans stage (push step s.steps) (s.text ++ text) f'.holdup.1 → SoFar o bytes rest f' new
so_far_more o bytes line rest f f' old new step text stage one s does reaches is_at spans has_text = record {
  lines = s.lines ++ line ∷ [];
  stage = stage;
  steps = push step s.steps;
  text = s.text ++ text;
  whole = holds-taken bytes s.lines line rest one s.whole;
  reaches = reaches;
  is_at = is_at;
  spans = spans ∙ s.spans;
  has_text = has_text;
  written = Appends-trans o.sink old.sink new.sink s.text text s.written does.written;
  exchanged = told_push o.told old.told new.told s.steps step s.exchanged does.exchanged;
  made = makes_push o.client old.client new.client s.steps step s.made does.made;
}

-- a line before `config|ready` is passed over
pub carries_early : (m : Meaning) (f : Filter) (now : Outside) → f.is_ready ≡ false → is_early m ≡ true → Carries m f f now now
carries_early m f now h e = λ o bytes line rest one reads s.
    let is = at_before f s.stage h s.is_at in
    so_far_more o bytes line rest f f now now None [] s.stage one s (Does-still now) (rw is (all_push IsEarly s.lines line (rw is at s.reaches) (m, reads, e))) s.is_at refl (subst (λ (t : List ℕ). HasText o.client.spans s.stage s.steps t f.holdup.1) (sym (append-nil s.text)) s.has_text)

-- `config|ready` is answered by the registration
pub carries_ready : (m : Meaning) (f f' : Filter) (sink sink' : Option (List ℕ)) (told : Option (List ReportedExchange)) (client : State) → f.is_ready ≡ false → m ≡ ReadyLine → Appends sink sink' registration
    → f'.is_ready ≡ true → f'.tracker ≡ f.tracker → f'.answers ≡ f.answers → f'.holdup ≡ f.holdup → Carries m f f' (around sink told client) (around sink' told client)
carries_ready m f f' sink sink' told client h e app now tracker answers holdup = λ o bytes line rest one reads s.
    let is = at_before f s.stage h s.is_at in
    let (never, tracks, none) = rw is at s.is_at in
    let (no_step, no_text, none_held) = rw is at s.has_text in
    so_far_more o bytes line rest f f' (around sink told client) (around sink' told client) None registration (AfterReady []) one s
    (record { written = app; exchanged = Tells-none told; made = refl })
    (record { before = s.lines; ready = line; after = []; whole = refl; early = rw is at s.reaches; reads_ready = rw e at reads; read = refl }) (now, rw tracker tracks, answers ∙ none) (ap (λ x. x.0) holdup)
    ([], (no_step, refl, ap (λ x. x.1) holdup ∙ none_held), ap (λ t. t ++ registration) no_text ∙ sym (append-nil registration))

-- a line after `config|ready`
pub carries_take : (m : Meaning) (f f' : Filter) (old new : Outside) (step : Option Step) (text : List ℕ)
    → f.is_ready ≡ true → Does old new step text
    → ((L : List Meaning) → TracksAt f.tracker L → Takes (at_line f.holdup.0 m f.holdup.1) L m step text × TracksAt f'.tracker (m ∷ L))
    → f'.holdup ≡ (f.holdup.0, after_line f.holdup.0 m step (at_line f.holdup.0 m f.holdup.1)) → f'.is_ready ≡ true → ((L : List Meaning) → f.answers ≡ answer_count L → f'.answers ≡ answer_count (m ∷ L))
    → Carries m f f' old new
carries_take m f f' old new step text h does takes holdup now count = λ o bytes line rest one reads s.
    let (L, is, tracks, counted) = at_after f s.stage h s.is_at in
    let (taken, tracks') = takes L tracks in
    let (results, filters, whole) = rw is at s.has_text in
    so_far_more o bytes line rest f f' old new step text (AfterReady (m ∷ L)) one s does (ready_more s.lines line L m (rw is at s.reaches) reads) (now, tracks', count L counted) (ap (λ x. x.0) holdup) (
      results ++ text,
      (step, s.steps, results, text, f.holdup.1, filters, subst (λ (p : Spans). Takes (at_line p m f.holdup.1) L m step text) s.spans taken, refl, refl, subst (λ (p : Spans). f'.holdup.1 ≡ after_line p m step (at_line p m f.holdup.1)) s.spans (ap (λ x. x.1) holdup)),
      ap (λ t. t ++ text) whole ∙ append_assoc registration results text,
    )

-- ---- where the filter stops

-- each 550 with no question had its reason so far
reasoned_at : (spans : Spans) (stage : Stage) (steps : List Step) (text : List ℕ) (h : Holding) → HasText spans stage steps text h → IsReasonedAt spans h stage steps text
reasoned_at spans BeforeReady steps text h t = tt
reasoned_at spans (AfterReady L) steps text h (results, filters, whole) = (results, whole, reasons spans L steps results h filters)

pub stops : (o : Outside) (pieces : List (List ℕ)) (left : List ℕ) (f : Filter) (source : Option (List ℕ)) (old new : Outside) (read_failed write_failed : Bool) (fault : FilterFault) (step : Option Step) (front rest : List ℕ)
    → SoFar o (concat pieces) left f old → Does old new step front
    → ((stage : Stage) → IsAt f stage → IsFound fault stage pieces left source read_failed write_failed)
    → ((stage : Stage) → IsAt f stage → IsInHand fault f.holdup.0 f.holdup.1 stage left step (front ++ rest))
    → StopsAt o pieces source new read_failed write_failed fault
stops o pieces left f source old new read_failed write_failed fault step front rest s does found in_hand = record {
  lines = s.lines;
  left = left;
  stage = s.stage;
  steps = s.steps;
  text = s.text;
  holding = f.holdup.1;
  whole = s.whole;
  reaches = s.reaches;
  has_text = s.has_text;
  reasoned = reasoned_at o.client.spans s.stage s.steps s.text f.holdup.1 s.has_text;
  found = found s.stage s.is_at;
  step = step;
  front = front;
  rest = rest;
  in_hand = subst (λ (p : Spans). IsInHand fault p f.holdup.1 s.stage left step (front ++ rest)) s.spans (in_hand s.stage s.is_at);
  written = Appends-trans o.sink old.sink new.sink s.text front s.written does.written;
  exchanged = told_push o.told old.told new.told s.steps step s.exchanged does.exchanged;
  made = makes_push o.client old.client new.client s.steps step s.made does.made;
}

-- a run that stops while lines are handled
pub stops_within : (o : Outside) (pieces : List (List ℕ)) (left : List ℕ) (f : Filter) (source : Option (List ℕ)) (old new : Outside) (read_failed write_failed : Bool) (fault : FilterFault) (step : Option Step) (front rest : List ℕ)
    → SoFar o (concat pieces) left f old → Does old new step front
    → ((stage : Stage) → IsAt f stage → IsFound fault stage pieces left source read_failed write_failed)
    → ((stage : Stage) → IsAt f stage → IsInHand fault f.holdup.0 f.holdup.1 stage left step (front ++ rest))
    → ((stage : Stage) → IsAt f stage → fault ≡ faults.Memory → IsAtWork stage left)
    → StopsWithin o pieces source new read_failed write_failed fault
unfolding stops
stops_within o pieces left f source old new read_failed write_failed fault step front rest s does found in_hand work =
    (stops o pieces left f source old new read_failed write_failed fault step front rest s does found in_hand, λ e. work s.stage s.is_at e)

-- a fault that cuts a line's work short
pub cut_found : (fault : FilterFault) (stage : Stage) (pieces : List (List ℕ)) (left : List ℕ) (source : Option (List ℕ)) (read_failed write_failed : Bool) → IsCut fault write_failed → IsAtWork stage left → IsFound fault stage pieces left source read_failed write_failed
cut_found faults.Write stage pieces left source read_failed write_failed c w = c
cut_found faults.Memory stage pieces left source read_failed write_failed c w = inr w
cut_found fault stage pieces left source read_failed write_failed c w = absurd c

pub cut_in_hand : (fault : FilterFault) (spans : Spans) (k : Holding) (stage : Stage) (left : List ℕ) (write_failed : Bool) (step : Option Step) (next : List ℕ) → IsCut fault write_failed → MayGo spans k stage left step next → IsInHand fault spans k stage left step next
cut_in_hand faults.Write spans k stage left write_failed step next c h = h
cut_in_hand faults.Memory spans k stage left write_failed step next c h = h
cut_in_hand fault spans k stage left write_failed step next c h = absurd c

pub first_of : (line rest : List ℕ) → IsLine line → StandsFirst line (line ++ 10 ∷ rest)
first_of line rest one = record { is_line = one; rest = rest; whole = refl }

-- ---- lines as the code has them

-- a line that is no request makes the step of its closing, and nothing is written for it
pub takes_noted : (k : Holding) (L : List Meaning) (l : Line) (step : Option Step) → ((seconds : ℕ) (subsystem phase session token rest : Bor (List ℕ)) → l ≡ line.Filter seconds subsystem phase session token rest → ⊥) → fault L (meaning l) ≡ None → Closes (is_some k.paused) (closing L (meaning l)) step → Takes k L (meaning l) step []
takes_noted k L (line.Filter seconds subsystem phase session token rest) step apart none c = absurd (apart seconds subsystem phase session token rest refl)
takes_noted k L l step apart none c = (none, c, refl)

pub count_noted : (L : List Meaning) (l : Line) → ((seconds : ℕ) (subsystem phase session token rest : Bor (List ℕ)) → l ≡ line.Filter seconds subsystem phase session token rest → ⊥) → answer_count (meaning l ∷ L) ≡ answer_count L
count_noted L (line.Filter seconds subsystem phase session token rest) apart = absurd (apart seconds subsystem phase session token rest refl)
count_noted L l apart = refl

-- one more request was answered
pub answer_counted : (L : List Meaning) (seconds : ℕ) (subsystem phase session token rest : List ℕ) (n : ℕ) → n ≡ answer_count L → n + 1 ≡ answer_count (FilterLine seconds subsystem phase session token rest ∷ L)
answer_counted L seconds subsystem phase session token rest n e = omega (arith, e, sum_by-cons (λ (x : Meaning). cond (is_filter x) 1 0) (FilterLine seconds subsystem phase session token rest) L)

-- a request whose work was cut short
pub may_go : (f : Filter) (stage : Stage) (line rest : List ℕ) (seconds : ℕ) (subsystem phase session token more : List ℕ) (step : Option Step) (next : List ℕ) → f.is_ready ≡ true → IsAt f stage → IsLine line
    → Reads line (FilterLine seconds subsystem phase session token more)
    → ((step ≡ None) × (next ≡ [])) ⊎ ((L : List Meaning) → TracksAt f.tracker L → Replies (still f.holdup.0 seconds f.holdup.1) L subsystem phase session token step next)
    → MayGo f.holdup.0 f.holdup.1 stage (line ++ 10 ∷ rest) step next
may_go f stage line rest seconds subsystem phase session token more step next h a one reads (inl quiet) = inl quiet
may_go f stage line rest seconds subsystem phase session token more step next h a one reads (inr replies) =
    let (L, is, tracks, counted) = at_after f stage h a in
    rw is (inr (line, first_of line rest one, (FilterLine seconds subsystem phase session token more, reads, replies L tracks)))

-- a request is at work
pub request_works : (f : Filter) (stage : Stage) (line rest : List ℕ) (seconds : ℕ) (subsystem phase session token more : List ℕ) → f.is_ready ≡ true → IsAt f stage → IsLine line → Reads line (FilterLine seconds subsystem phase session token more)
    → IsAtWork stage (line ++ 10 ∷ rest)
request_works f stage line rest seconds subsystem phase session token more h a one reads =
    let (L, is, tracks, counted) = at_after f stage h a in
    rw is (FilterLine seconds subsystem phase session token more, line, first_of line rest one, reads, refl, refl)

-- a line that wasn't noted
pub refused_stops : (fault : FilterFault) (f : Filter) (stage : Stage) (pieces : List (List ℕ)) (line rest : List ℕ) (m : Meaning) (source : Option (List ℕ)) (read_failed write_failed : Bool) → f.is_ready ≡ true → IsAt f stage → IsLine line → Reads line m
    → ((L : List Meaning) → TracksAt f.tracker L → IsRefused fault L m)
    → IsFound fault stage pieces (line ++ 10 ∷ rest) source read_failed write_failed × IsInHand fault f.holdup.0 f.holdup.1 stage (line ++ 10 ∷ rest) None [] × (fault ≡ faults.Memory → IsAtWork stage (line ++ 10 ∷ rest))
refused_stops (faults.Track e) f stage pieces line rest m source read_failed write_failed h a one reads refused =
    let (L, is, tracks, counted) = at_after f stage h a in
    ((L, m, line, is, first_of line rest one, reads, refused L tracks), (refl, refl), λ e. absurd (cc (e)))
refused_stops faults.Memory f stage pieces line rest m source read_failed write_failed h a one reads refused =
    let (L, is, tracks, counted) = at_after f stage h a in
    let (none, may) = refused L tracks in
    let work : IsAtWork stage (line ++ 10 ∷ rest) = rw is (m, line, first_of line rest one, reads, none, may) in
    (inr work, inl (refl, refl), λ e. work)
refused_stops fault f stage pieces line rest m source read_failed write_failed h a one reads refused = let (L, is, tracks, counted) = at_after f stage h a in absurd (refused L tracks)

-- ---- the end

-- what waits is sent once more
pub ends : (o : Outside) (bytes held : List ℕ) (f : Filter) (sink : Option (List ℕ)) (told told' : Option (List ReportedExchange)) (client client' : State) (group : List Exchange) (e : RunEnd)
    → SoFar o bytes held f (around sink told client) → f.is_ready ≡ true → held ≡ []
    → Tells told told' (told_all group) → Makes client client' (record { action = Drain; group = group; quiet = false })
    → e.answers ≡ f.answers → ((P : List Step) → StandsAt client' P → e.left ≡ length (view client'.source P).waiting)
    → EndsWith o bytes (around sink told' client') e
ends o bytes held f sink told told' client client' group e s h none tells makes answers left =
    let (L, is, tracks, counted) = at_after f s.stage h s.is_at in
    let (results, filters, whole) = rw is at s.has_text in
    record {
      lines = s.lines;
      after_ready = L;
      steps = s.steps;
      results = results;
      holding = f.holdup.1;
      group = group;
      whole = subst (Holds bytes s.lines) none s.whole;
      ready = rw is at s.reaches;
      filters = filters;
      reasoned = reasoned o.client.spans L s.steps results f.holdup.1 filters;
      written = subst (Appends o.sink sink) whole s.written;
      exchanged = told_push o.told told told' s.steps (Some (record { action = Drain; group = group; quiet = false })) s.exchanged tells;
      made = makes_push o.client client client' s.steps (Some (record { action = Drain; group = group; quiet = false })) s.made makes;
      answers = answers ∙ counted;
      left = left;
    }

-- ---- bytes that come

-- nothing was read yet
pub so_far_start : (sink : Option (List ℕ)) (told : Option (List ReportedExchange)) (client : State) (f : Filter) (held : List ℕ) → held ≡ [] → f.is_ready ≡ false → TracksAt f.tracker [] → f.answers ≡ 0 → f.holdup ≡ (client.spans, nothing_held)
    → SoFar (around sink told client) [] held f (around sink told client)
so_far_start sink told client f held none h tracks zero holdup = record {
  lines = [];
  stage = BeforeReady;
  steps = [];
  text = [];
  whole = rw none (record { whole = refl; each = tt });
  reaches = tt;
  is_at = (h, tracks, zero);
  spans = ap (λ x. x.0) holdup;
  has_text = (refl, refl, ap (λ x. x.1) holdup);
  written = Appends-nil sink;
  exchanged = Tells-none told;
  made = makes_none client;
}

-- a read gave a piece
pub so_far_fed : (o : Outside) (pieces : List (List ℕ)) (held held' piece : List ℕ) (f : Filter) (now : Outside) → held' ≡ held ++ piece
    → SoFar o (concat pieces) held f now → SoFar o (concat (pieces ++ piece ∷ [])) held' f now
so_far_fed o pieces held held' piece f now e s = record {
  lines = s.lines;
  stage = s.stage;
  steps = s.steps;
  text = s.text;
  whole = rw e (record { whole = concat_push pieces piece ∙ ap (λ (l : List ℕ). l ++ piece) s.whole.whole ∙ append_assoc (text_of s.lines) held piece; each = s.whole.each });
  reaches = s.reaches;
  is_at = s.is_at;
  spans = s.spans;
  has_text = s.has_text;
  written = s.written;
  exchanged = s.exchanged;
  made = s.made;
}

-- a read gave nothing
pub so_far_none : (o : Outside) (pieces : List (List ℕ)) (piece held : List ℕ) (f : Filter) (now : Outside) → piece ≡ []
    → SoFar o (concat pieces) held f now → SoFar o (concat (pieces ++ piece ∷ [])) held f now
so_far_none o pieces piece held f now e s =
    so_far_fed o pieces held held piece f now (sym (ap (λ (l : List ℕ). held ++ l) e ∙ append-nil held)) s

pub is_line_none : (held : List ℕ) → held ≡ [] → IsLine held
is_line_none held e = rw e (record { one = search rules; short = omega arith })
