use Rattle.mq_ledger.proofs.Words.{arith, clock, of_z, pos, refl, signed_arith, to_z, to_z_pos, w64, ℤ, ◌*ℤ◌, ◌+ℤ◌, ◌≡◌, ◌≤ℤ◌}
use Rattle.mq_ledger.proofs.Clocks.{kept_seconds, day_of_seconds}
use Rattle.mq_ledger.proofs.zone.day_at_offset.Goals as goal

pub returns : goal.returns
returns c =
    let m : ℤ = c.args.minutes in
    let first : pos 0 ≤ℤ clock m c.args.moment = omega (arith, signed_arith, c.requires.offset.from, c.requires.moment.from) in
    let last : clock m c.args.moment ≤ℤ pos 32503766340 = omega (arith, signed_arith, c.requires.offset.to, c.requires.moment.to) in
    let wide : to_z w64 c.args.moment ≡ pos c.args.moment = to_z_pos w64 c.args.moment (omega arith) in
    let ahead : c.from.result ≡ pos 60 *ℤ m = omega (arith, signed_arith, c.from.ensures, c.requires.offset.from, c.requires.offset.to) in
    let held : to_z w64 (of_z w64 c.from.result) ≡ c.from.result = omega (arith, signed_arith, ahead, c.requires.offset.from, c.requires.offset.to) in
    let sum : to_z w64 c.args.moment +ℤ to_z w64 (of_z w64 c.from.result) ≡ clock m c.args.moment = rw wide (rw held (rw ahead refl)) in
    rw sum (rw (kept_seconds (clock m c.args.moment) first last) (day_of_seconds (clock m c.args.moment) first last))
