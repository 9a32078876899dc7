use Rattle.mq_nights.proofs.lookout.due_at.Goals as goal

pub returns-clause-due : goal.returns-clause-due
returns-clause-due g c = λ kept sound.
    let night = rw c.zone.ensures at c.night_of-night.ensures.value in
    record {
      days = c.in_ok-days.days;
      are_days = rw night at (c.in_ok-days.ensures.days kept sound);
      due = rw night at c.what_is_due.ensures.value;
    }
