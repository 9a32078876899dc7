use Rattle.std.proofs.Common.{Err, Result, [], ap, arith, get_or, length, length-append, map, subst, sym, ◌++◌, ◌<◌, ◌∙◌, ◌∷◌, ◌≡◌}
use Rattle.mq_server.proofs.Words.{ConnectionEnd, EndCause, ServeFault, Store, Tells, Tells-trans, left_both, length-map, length-set, map-append, result_of, served}
use Rattle.mq_server.proofs.Deliveries.{Follows, history_more}
use Rattle.mq_server.proofs.Turns.{agree_more, each_end, read_end, still_next, stopped, told_turn, turn, write_end}
use Rattle.mq_server.proofs.connections.serve_all.Goals as goal

pub returns-in_err-end-clause-store : goal.returns-in_err-end-clause-store
returns-in_err-end-clause-store g c = λ _.
    let i = c.loop-i.invariant in
    let e = c.serve.ensures in
    let inputs = c.loop-i.inputs in
    let outputs = c.loop-i.outputs in
    let ends = c.loop-i.ends.items in
    let here : c.loop-i.i < length inputs = omega (arith, c.loop-i-test.true) in
    let failed : c.serve.result ≡ Err Store = c.in_err-end.ensures.store.1 in
    let counted : length ends ≡ c.loop-i.i = sym c.loop-i.ends.ok.0 ∙ i.counted in (
      ends,
      agree_more g.S.Source.has_failed g.W.Sink.has_failed g.W.Sink.has_flushed inputs c.args.inputs.now outputs c.args.outputs.now c.loop-i.i c.index-inputs-i.result c.serve.new.input c.index-outputs-i.result c.serve.new.output (map result_of ends) _ c.serve.result
          (length-map ends result_of ∙ counted) here (omega (arith, here, i.pairs)) i.inputs_left i.outputs_left e.read e.write e.source_works e.sink_works e.flushed (ap (λ (r : Result EndCause ServeFault). map result_of ends ++ r ∷ []) failed) i.devices,
      λ kept sound.
          let before = e.leaves.kept kept in
          let (seen, told, stored, tells) = i.so_far before sound in
          let b = g.L.Ledger.book c.args.ledger.now in
          let k = g.L.Ledger.book c.loop-i.ledger in
          let f : Follows b k seen = record { zone = i.leaves.same_zone; default = i.leaves.same_default; legal = g.met.L.Ledger.sound_is_legal c.loop-i.ledger (i.leaves.sound before sound); history = stored } in
          let (came, served, after, more) = e.serves kept (i.leaves.sound before sound) in
          let (stop, called) = stopped g.S.Source.remaining g.W.Sink.contents b k _ inputs outputs c.loop-i.i (get_or inputs c.loop-i.i c.index-inputs-i.result) c.serve.new.input (get_or outputs c.loop-i.i c.index-outputs-i.result) c.serve.new.output seen i.pairs here (ap (get_or inputs c.loop-i.i) c.index-inputs-i.is) (ap (get_or outputs c.loop-i.i) c.index-outputs-i.is) f ends came c.serve.result counted told failed served in
          (seen ++ came, stop, after ∙ history_more b k seen came f, subst (Tells (g.L.Ledger.told c.args.ledger.now) (g.L.Ledger.told c.serve.new.ledger)) (sym called) (Tells-trans _ _ _ _ _ tells more)),
    )

pub loop-i-preserved : goal.loop-i-preserved
loop-i-preserved g c =
    let i = c.loop-i.invariant in
    let e = c.serve.ensures in
    let inputs = c.loop-i.inputs in
    let outputs = c.loop-i.outputs in
    let ends = c.loop-i.ends.items in
    let here : c.loop-i.i < length inputs = omega (arith, c.loop-i-test.true) in
    let end : ConnectionEnd = c.in_ok-end.end in
    let grown : c.push.new.self.items ≡ ends ++ end ∷ [] = rw c.unwrap.ensures at c.push.ensures.items in
    let ended : result_of end ≡ c.serve.result = c.in_ok-end.ensures.ok in
    let counted : length (map result_of ends) ≡ c.loop-i.i = length-map ends result_of ∙ sym c.loop-i.ends.ok.0 ∙ i.counted in
    let named : map result_of ends ++ c.serve.result ∷ [] ≡ map result_of c.push.new.self.items =
    ap (λ (r : Result EndCause ServeFault). map result_of ends ++ r ∷ []) (sym ended) ∙ sym (map-append result_of ends (end ∷ [])) ∙ ap (map result_of) (sym grown) in
    record {
      room = omega (arith, i.room, c.push.ensures.capacity);
      counted = c.push.new.self.ok.0 ∙ ap length grown ∙ omega (arith, length-append ends (end ∷ []), c.loop-i.ends.ok.0, i.counted);
      pairs = omega (arith, i.pairs, length-set inputs c.loop-i.i c.serve.new.input, length-set outputs c.loop-i.i c.serve.new.output);
      devices = agree_more g.S.Source.has_failed g.W.Sink.has_failed g.W.Sink.has_flushed inputs c.args.inputs.now outputs c.args.outputs.now c.loop-i.i c.index-inputs-i.result c.serve.new.input c.index-outputs-i.result c.serve.new.output (map result_of ends) _ c.serve.result
          counted here (omega (arith, here, i.pairs)) i.inputs_left i.outputs_left e.read e.write e.source_works e.sink_works e.flushed named i.devices;
      inputs_left = still_next inputs c.args.inputs.now c.loop-i.i c.serve.new.input i.inputs_left;
      outputs_left = still_next outputs c.args.outputs.now c.loop-i.i c.serve.new.output i.outputs_left;
      leaves = left_both i.leaves e.leaves;
      so_far = λ kept sound.
          let before = e.leaves.kept kept in
          let (seen, told, stored, tells) = i.so_far before sound in
          let b = g.L.Ledger.book c.args.ledger.now in
          let k = g.L.Ledger.book c.loop-i.ledger in
          let f : Follows b k seen = record { zone = i.leaves.same_zone; default = i.leaves.same_default; legal = g.met.L.Ledger.sound_is_legal c.loop-i.ledger (i.leaves.sound before sound); history = stored } in
          let (came, served, after, more) = e.serves kept (i.leaves.sound before sound) in (
            seen ++ came,
            turn g.S.Source.remaining g.W.Sink.contents b k _ inputs outputs c.loop-i.i (get_or inputs c.loop-i.i c.index-inputs-i.result) c.serve.new.input (get_or outputs c.loop-i.i c.index-outputs-i.result) c.serve.new.output seen i.pairs here (ap (get_or inputs c.loop-i.i) c.index-inputs-i.is) (ap (get_or outputs c.loop-i.i) c.index-outputs-i.is) f (map result_of ends) _ c.serve.result came counted told served named,
            after ∙ history_more b k seen came f,
            told_turn b k _ _ _ seen came end c.serve.result served f ended tells more,
          );
    }

pub returns-clause-read : goal.returns-clause-read
returns-clause-read g c = let i = c.loop-i.invariant in each_end _ (λ e a p is. p (ap result_of is)) c.loop-i.ends.items c.loop-i.inputs (omega (arith, c.loop-i-test.false, c.loop-i.ends.ok.0, i.counted)) i.devices.read

pub returns-clause-write : goal.returns-clause-write
returns-clause-write g c = let i = c.loop-i.invariant in each_end _ (λ e a p is. p (ap result_of is)) c.loop-i.ends.items c.loop-i.outputs (omega (arith, c.loop-i-test.false, c.loop-i.ends.ok.0, i.counted, i.pairs)) i.devices.write

pub returns-clause-source_works : goal.returns-clause-source_works
returns-clause-source_works g c = λ all. let i = c.loop-i.invariant in each_end _ (λ e a p not. p (λ is. not (read_end e is))) c.loop-i.ends.items c.loop-i.inputs (omega (arith, c.loop-i-test.false, c.loop-i.ends.ok.0, i.counted)) (i.devices.source_works all)

pub returns-clause-sink_works : goal.returns-clause-sink_works
returns-clause-sink_works g c = λ all. let i = c.loop-i.invariant in each_end _ (λ e a p not. p (λ is. not (write_end e is))) c.loop-i.ends.items c.loop-i.outputs (omega (arith, c.loop-i-test.false, c.loop-i.ends.ok.0, i.counted, i.pairs)) (i.devices.sink_works all)

pub returns-clause-flushed : goal.returns-clause-flushed
returns-clause-flushed g c = λ all. let i = c.loop-i.invariant in each_end _ (λ e a p not. p (λ is. not (write_end e is))) c.loop-i.ends.items c.loop-i.outputs (omega (arith, c.loop-i-test.false, c.loop-i.ends.ok.0, i.counted, i.pairs)) (i.devices.flushed all)
