use Rattle.std.proofs.Common.{◌≡◌, ◌≤◌, ◌∷◌, [], ◌++◌, length, take, refl, ap, arith, rules, inl, inr, None, length-append}
use Rattle.std.proofs.lemmas.Result.{IfErr-weaker, IfOk-weaker, on_ok_weaker}
use Rattle.mq_client.proofs.Words.{IsAtEnd, concat, length-take-le}
use Rattle.mq_lemmas.proofs.Streams.{consumes_kept}
use Rattle.mq_client.specs.declared.fault.FilterFault.TheVariants as faults
use Rattle.mq_client.proofs.Looping.{Does-still, stops, so_far_start, so_far_fed, so_far_none, is_line_none}
use Rattle.mq_client.proofs.Supplying.{supplied_start, supplied_more}
use Rattle.mq_client.proofs.filter.read_all.Goals as goal

pub loop-read-init : goal.loop-read-init
loop-read-init g c = record {
  pieces = [];
  supplied = supplied_start _;
  so_far = so_far_start _ _ c.args.client.now _ c.args.feed.now.rest c.requires.empty c.requires.ready c.requires.tracker c.requires.count c.requires.holdup;
  held = is_line_none _ c.requires.empty;
  written = λ ready. cc (ready, c.requires.ready);
  sink_works = λ works. works;
  flushed = λ flushed. flushed;
  source_works = λ works. works;
  reads = refl;
  count = omega (arith, c.requires.count, ap length c.requires.empty);
}

-- the read failed
pub returns-in-Err-clause-fault : goal.returns-in-Err-clause-fault
returns-in-Err-clause-fault g c =
    let i = c.loop-read.invariant in (
      i.pieces ++ [] ∷ [],
      supplied_more _ _ _ i.pieces [] i.supplied (consumes_kept _ _ c.in-Err.ensures.bytes) c.in-Err.ensures.told (omega arith) (omega (arith, i.reads)),
      stops _ (i.pieces ++ [] ∷ []) c.loop-read.feed.rest c.loop-read.filter _ _ _ _ _ faults.Read None [] []
          (so_far_none _ i.pieces [] c.loop-read.feed.rest c.loop-read.filter _ refl i.so_far) (Does-still _)
          (λ stage a. (i.held, inl (c.in-Err.ensures.failed)))
          (λ stage a. (refl, refl)),
    )

-- there was no memory for what was read
pub returns-in-Err-feed-clause-fault : goal.returns-in-Err-feed-clause-fault
returns-in-Err-feed-clause-fault g c =
    let i = c.loop-read.invariant in
    let piece = take c.in-Ok.count c.read.new.piece in
    let fits : c.in-Ok.count ≤ length c.read.new.piece = search rules in
    let long = length-take-le c.in-Ok.count c.read.new.piece fits in (
      i.pieces ++ piece ∷ [],
      supplied_more _ _ _ i.pieces piece i.supplied c.in-Ok.ensures.bytes.0 c.in-Ok.ensures.told (omega (arith, long)) (omega (arith, i.reads)),
      stops _ (i.pieces ++ piece ∷ []) (c.loop-read.feed.rest ++ piece) c.loop-read.filter _ _ _ _ _ faults.Memory None [] []
          (so_far_fed _ i.pieces c.loop-read.feed.rest (c.loop-read.feed.rest ++ piece) piece c.loop-read.filter _ refl i.so_far) (Does-still _)
          (λ stage a. inl (record { before = i.pieces; piece = piece; held = c.loop-read.feed.rest; last = refl; whole = refl; is_line = i.held; some = omega (arith, long) }))
          (λ stage a. inl (refl, refl)),
    )

-- a line stopped the run
pub returns-in-Err-take_lines-clause-fault : goal.returns-in-Err-take_lines-clause-fault
returns-in-Err-take_lines-clause-fault g c =
    let i = c.loop-read.invariant in
    let piece = take c.in-Ok.count c.read.new.piece in
    let fed : c.feed.new.self.rest ≡ c.loop-read.feed.rest ++ piece = search rules in
    let fits : c.in-Ok.count ≤ length c.read.new.piece = search rules in
    let long = length-take-le c.in-Ok.count c.read.new.piece fits in (
      i.pieces ++ piece ∷ [],
      supplied_more _ _ _ i.pieces piece i.supplied c.in-Ok.ensures.bytes.0 c.in-Ok.ensures.told (omega (arith, long)) (omega (arith, i.reads)),
      (c.in-Err-take_lines.ensures.fault _ (i.pieces ++ piece ∷ []) _ _
          (so_far_fed _ i.pieces c.loop-read.feed.rest c.feed.new.self.rest piece c.loop-read.filter _ fed i.so_far)).0,
    )

pub loop-read-preserved : goal.loop-read-preserved
loop-read-preserved g c =
    let i = c.loop-read.invariant in
    let piece = take c.in-Ok.count c.read.new.piece in
    let fed : c.feed.new.self.rest ≡ c.loop-read.feed.rest ++ piece = search rules in
    let fits : c.in-Ok.count ≤ length c.read.new.piece = search rules in
    let long = length-take-le c.in-Ok.count c.read.new.piece fits in
    let e = c.in-Ok-take_lines.ensures in
    record {
      pieces = i.pieces ++ piece ∷ [];
      supplied = supplied_more _ _ _ i.pieces piece i.supplied c.in-Ok.ensures.bytes.0 c.in-Ok.ensures.told (omega (arith, long)) (omega (arith, i.reads));
      so_far = e.ok _ (concat (i.pieces ++ piece ∷ [])) (so_far_fed _ i.pieces c.loop-read.feed.rest c.feed.new.self.rest piece c.loop-read.filter _ fed i.so_far);
      held = e.left;
      written = e.written i.written;
      sink_works = λ works. e.works (i.sink_works works) (λ no. cc (no));
      flushed = λ flushed. e.flushed (i.flushed flushed) (λ no. cc (no));
      source_works = λ works. c.in-Ok.ensures.failed;
      reads = omega (arith, i.reads, length-append i.pieces (piece ∷ []));
      count = omega (arith, i.count, e.count, ap length fed, length-append c.loop-read.feed.rest piece, long);
    }

-- all reads were made
pub returns-clause-fault : goal.returns-clause-fault
returns-clause-fault g c =
    let i = c.loop-read.invariant in
    let all : length i.pieces ≡ 1099511627776 = omega (arith, i.reads) in (
      i.pieces,
      i.supplied,
      stops _ i.pieces c.loop-read.feed.rest c.loop-read.filter _ _ _ _ _ faults.Read None [] [] i.so_far (Does-still _)
          (λ stage a. (i.held, inr all))
          (λ stage a. (refl, refl)),
    )

-- the input ended, and so did the run
pub returns-then-count-eq0-clause-ok : goal.returns-then-count-eq0-clause-ok
returns-then-count-eq0-clause-ok g c =
    let i = c.loop-read.invariant in
    let piece = take c.in-Ok.count c.read.new.piece in
    let none : piece ≡ [] = ap (λ n. take n c.read.new.piece) c.if-count-eq0.true in
    IfOk-weaker c.finish.result _ _ (λ e ends. (
      i.pieces ++ piece ∷ [],
      supplied_more _ _ _ i.pieces piece i.supplied c.in-Ok.ensures.bytes.0 c.in-Ok.ensures.told (omega (arith, ap length none)) (omega (arith, i.reads)),
      c.in-Ok.ensures.bytes.1 c.if-count-eq0.true (omega arith),
      ends _ (concat (i.pieces ++ piece ∷ [])) _ (so_far_none _ i.pieces piece c.loop-read.feed.rest c.loop-read.filter _ none i.so_far),
    )) c.finish.ensures.ok

pub returns-then-count-eq0-clause-written : goal.returns-then-count-eq0-clause-written
returns-then-count-eq0-clause-written g c = on_ok_weaker c.finish.result c.loop-read.invariant.written c.finish.ensures.ready

-- the input ended where the run can't
pub returns-then-count-eq0-clause-fault : goal.returns-then-count-eq0-clause-fault
returns-then-count-eq0-clause-fault g c =
    let i = c.loop-read.invariant in
    let piece = take c.in-Ok.count c.read.new.piece in
    let none : piece ≡ [] = ap (λ n. take n c.read.new.piece) c.if-count-eq0.true in
    let at_end : IsAtEnd (g.S.Source.remaining c.read.new.self) = c.in-Ok.ensures.bytes.1 c.if-count-eq0.true (omega arith) in
    IfErr-weaker c.finish.result _ _ (λ f halts. (
      i.pieces ++ piece ∷ [],
      supplied_more _ _ _ i.pieces piece i.supplied c.in-Ok.ensures.bytes.0 c.in-Ok.ensures.told (omega (arith, ap length none)) (omega (arith, i.reads)),
      halts _ (i.pieces ++ piece ∷ []) _ _ _ _ at_end (so_far_none _ i.pieces piece c.loop-read.feed.rest c.loop-read.filter _ none i.so_far),
    )) c.finish.ensures.fault
