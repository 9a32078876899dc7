use Rattle.std.proofs.Common.{ℕ, ◌<◌, ◌^◌, ◌∙◌, ap, arith, Some, None, inl, inr, Option}
use Rattle.mq_rows.proofs.Words.{FoundRows, Granted, Id, IsId, IsRequest, Release, Released, Reply, Request, Reserve, Retire, RetiredRecord, Settle, Settled, TransactionRecord, day_of, either, floor_by, given_up_by, id_range, moved, moved_or_made, moves, raised_to, retired_write, transaction_write, written}
use Rattle.mq_rows.specs.Storable.{IsStorable, IsStorableIf, IsStorableWrite, IsStorableFloor, AreStorableRuns, IsStorableFloorWrite}
use Rattle.mq_rows.proofs.write.decide.Goals as goal

moved_has : (count : ℕ) (a : Reply) (t : TransactionRecord) → IsStorable t → IsStorable (moved count a t)
moved_has count (Granted id used) t h = h
moved_has count (Settled id n) t h = h
moved_has count (Released id held) t h = h
moved_has count a t h = h

moved_or_made_has : (count : ℕ) (a : Reply) (new : TransactionRecord) (o : Option TransactionRecord) → IsStorable new → IsStorableIf o → IsStorableWrite (moved_or_made count a new o)
moved_or_made_has count a new None made has = moved_has count a new made
moved_or_made_has count a new (Some t) made has = elim (either (moves a)) [
  | inl yes_moves ↦ rw yes_moves (moved_has count a t has)
  | inr stays ↦ rw stays tt
]

write_has : (day : ℕ → ℕ) (r : Request) (a : Reply) (o : Option TransactionRecord) → IsRequest r → IsStorableIf o → IsStorableWrite (transaction_write day r a o)
write_has day (Reserve id txn moment login count) a o h has = moved_or_made_has count a _ o (omega (arith, h.0.run.to), omega (arith, h.2.to)) has
write_has day (Settle id txn moment login count) a o h has = moved_or_made_has count a _ o (omega (arith, h.0.run.to), omega (arith, h.2.to)) has
write_has day (Release id txn moment login) a o h has = moved_or_made_has 0 a _ o (omega (arith, h.0.run.to), omega (arith, h.2.to)) has
write_has day r a o h has = tt

floor_has : (o : Option RetiredRecord) → IsStorableFloor o → floor_by o < 2 ^ 63
floor_has None has = omega arith
floor_has (Some r) has = has

runs_have : (r : Request) (f : FoundRows) → IsRequest r → IsStorableFloor f.floor → AreStorableRuns (given_up_by r f)
runs_have (Retire id) f h has = (floor_has f.floor has, omega (arith, h.run.to))
runs_have r f h has = tt

raised_has : (id : Id) (o : Option RetiredRecord) → IsId id → IsStorableFloorWrite (raised_to id o)
raised_has id None h = omega (arith, h.run.to)
raised_has id (Some r) h = omega (arith, h.run.to)

run_has : (r : Request) (o : Option RetiredRecord) → IsRequest r → IsStorableFloorWrite (retired_write r o)
run_has (Retire id) o h = raised_has id o h
run_has r o h = tt

pub returns-clause-plan : goal.returns-clause-plan
returns-clause-plan c =
    c.in_ok-plan.ensures c.args.arrivals c.in_ok-answer.ensures
    ∙ ap (λ (a : Reply). written (day_of c.args.zone) c.args.arrivals c.args.request.now c.args.found a) (c.in_ok-reply.ensures ∙ c.in_ok-outcome.ensures.outcome c.args.id.now c.requires.number)

pub returns-clause-storable : goal.returns-clause-storable
returns-clause-storable c = λ has floor_has.
    let limit = (id_range c.args.request.now c.args.id.now c.requires.in_range c.requires.number).run.to in
    rw (c.in_ok-plan.ensures c.args.arrivals c.in_ok-answer.ensures) record {
      place = omega arith;
      run = rw c.requires.number (omega (arith, limit));
      arrivals = omega arith;
      transaction = write_has (day_of c.args.zone) c.args.request.now c.in_ok-reply.reply c.args.found.transaction c.requires.in_range has;
      given_up = runs_have c.args.request.now c.args.found c.requires.in_range floor_has;
      retired = run_has c.args.request.now c.args.found.floor c.requires.in_range;
    }

pub returns-clause-in_range : goal.returns-clause-in_range
returns-clause-in_range c =
    let replied = c.in_ok-outcome.ensures.in_range c.args.id.now (id_range c.args.request.now c.args.id.now c.requires.in_range c.requires.number) in
    rw (c.in_ok-plan.ensures c.args.arrivals c.in_ok-answer.ensures) (rw c.in_ok-reply.ensures replied)
