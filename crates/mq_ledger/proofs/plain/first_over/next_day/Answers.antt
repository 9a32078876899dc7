use Rattle.mq_ledger.proofs.Words.{IfSome, IsDay, None, Option, Some, ap, day_of, either, inl, inr, lesser, nat_lt, option_cases, sym, take, take_more, ℕ, ◌∙◌}
use Rattle.mq_ledger.proofs.Overs.{next_other, next_more}
use Rattle.mq_ledger.proofs.plain.first_over.next_day.Goals.{in-Some, in_default}
use Rattle.mq_ledger.proofs.plain.first_over.next_day.Goals as goal

lesser_day : (d : ℕ) (o : Option ℕ) → IsDay d → IfSome o IsDay → IsDay (lesser d o)
lesser_day d None h k = h
lesser_day d (Some e) h k = elim (either (nat_lt e d)) [ inl t ↦ rw t k | inr f ↦ rw f h ]

pub loop-entry-preserved : goal.loop-entry-preserved
loop-entry-preserved c =
    let kept = c.loop-entry.invariant in
    let given = c.day_from.ensures in
    rw (take_more c.args.entries.now c.loop-entry.entry-index c.entry-item.result c.loop-entry-test.true, ← c.entry-item.is)
    (elim c.match-day_from.branch [
      | in-Some w ↦ (let day = sym given.value ∙ w.in-Some.is in
          let is = w.found-is ∙ ap Some (w.lesser.ensures ∙ ap (lesser w.in-Some.day) kept.so_far) in
          record {
            so_far = is ∙ sym (next_more (day_of c.args.zone) (take c.loop-entry.entry-index c.args.entries.now) c.args.login.now c.args.from c.entry-item.result w.in-Some.day day);
            in_range = rw (w.found-is, w.lesser.ensures) (lesser_day w.in-Some.day c.loop-entry.found (rw w.in-Some.is at given.in_range) kept.in_range);
          })
      | in_default w ↦ elim (option_cases c.day_from.result) [
        | inr p ↦ absurd (w.in_default.not-Some p.0 p.1)
        | inl none ↦ record {
          so_far = w.found-is ∙ kept.so_far ∙ sym (next_other (day_of c.args.zone) (take c.loop-entry.entry-index c.args.entries.now) c.args.login.now c.args.from c.entry-item.result (sym given.value ∙ none));
          in_range = rw w.found-is kept.in_range;
        }
      ]
    ])
