use Rattle.std.proofs.Common.{refl}
use Rattle.mq_remote.proofs.subcommands.filter.answer_lines.Goals as goal

pub returns-in-Ok : goal.returns-in-Ok
returns-in-Ok g c =
    let all = c.in-Ok.ensures.ok in
    (refl, record { pieces = _; ended = _; supplied = all.1; at_end = all.2; ends = all.3; works = c.in-Ok.ensures.written })

pub returns-in-Err : goal.returns-in-Err
returns-in-Err g c = let part = c.in-Err.ensures.fault in record { pieces = part.0; supplied = part.1; stops = part.2 }
