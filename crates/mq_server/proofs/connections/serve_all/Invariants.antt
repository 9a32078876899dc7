use Rattle.std.proofs.Common.{List, [], drop, length, map, vec_capacity, vec_len, ◌≡◌, ◌≤◌}
use Rattle.mq_server.proofs.Words.{AreServed, Delivery, DevicesAgree, LeavesLedger, Tells, answer_to, calls, history_after, result_of, wires}
use Rattle.mq_server.proofs.connections.serve_all.Given as goal

abbrev pub invariant-loop-i : goal.invariant-loop-i
invariant-loop-i g l =
    let book = g.L.Ledger.book in
    let kept = g.L.Ledger.has_kept in
    let sound = g.L.Ledger.is_sound in
    let left = g.S.Source.remaining in
    let held = g.W.Sink.contents in
    record {
      room : length l.fn.inputs ≤ vec_capacity l.ends;
      counted : vec_len l.ends ≡ l.i;
      pairs : length l.inputs ≡ length l.outputs;
      devices : DevicesAgree g.S.Source.has_failed g.W.Sink.has_failed g.W.Sink.has_flushed l.fn.inputs l.inputs l.fn.outputs l.outputs (map result_of l.ends.items);
      inputs_left : drop l.i l.inputs ≡ drop l.i l.fn.inputs;
      outputs_left : drop l.i l.outputs ≡ drop l.i l.fn.outputs;
      leaves : LeavesLedger book kept sound g.L.Ledger.has_store l.fn.ledger l.ledger;
      so_far : kept l.ledger → sound l.fn.ledger → (seen : List Delivery)
          × AreServed (book l.fn.ledger) [] (wires (map left l.fn.inputs) (map held l.fn.outputs)) (wires (map left l.inputs) (map held l.outputs)) (map result_of l.ends.items) seen
          × ((book l.ledger).history ≡ history_after (book l.fn.ledger) seen)
          × Tells (g.L.Ledger.told l.fn.ledger) (g.L.Ledger.told l.ledger) (calls (answer_to (book l.fn.ledger)) seen);
    }
