use Rattle.std.proofs.Common.{IsTrue, ap, arith, subst, sym}
use Rattle.mq_store.proofs.Words.{AreUnnamed, lacks_sequence, memory_is_clean, over_memory, state}
use Rattle.mq_store.specs.Forgetting.{IsFree}
use Rattle.mq_store.proofs.Renewals.{carried_none, carried_all}
use Rattle.mq_store.proofs.fill.carry_apart.Goals as goal

pub returns-clause-carried : goal.returns-clause-carried
returns-clause-carried g c clean clean_into = λ H has blank.
    let (opens, live, schema) = c.in_ok-memory.ensures.empty in
    let free : IsFree (state over_memory c.in_ok-memory.memory).now = record { counters = ap lacks_sequence schema; unnamed = subst AreUnnamed (sym schema) tt } in
    let scratch = rw c.transaction-scratch.ensures.begun at (c.in_ok-make.ensures.blank (memory_is_clean c.make.new.tx.conn.now)) free in
    let t = c.args.terms.now in
    let start = carried_none t.zone t.default t.day H c.nothing-nothing.result _ _ c.nothing-nothing.ensures.0 c.nothing-nothing.ensures.1 blank scratch in
    let through : IsTrue c.in_ok-_all._all.is_through = c.in_ok-_all.ensures.all (omega arith) in
    carried_all t.zone t.default t.day H _ _ _ (c.in_ok-_all.ensures.renews clean clean_into H has start) (c.in_ok-_all.ensures.through clean through H has)

pub go_through-requires-clause-inside : goal.go_through-requires-clause-inside
go_through-requires-clause-inside g c = c.in_ok-make.ensures.inside (memory_is_clean c.make.new.tx.conn.now)
