use Rattle.mq_command.proofs.Words.{arith, false≢true, inl, no_number, refl}
use Rattle.mq_command.proofs.allow.set_limit.Goals as goal

-- a limit that memory is refused for isn't sent
pub returns-in-Err : goal.returns-in-Err
returns-in-Err g c = record {
  count = 0;
  mid = _;
  few = omega arith;
  taken = no_number;
  last = inl refl;
  fresh = λ never. absurd (false≢true never);
}
