use Rattle.mq_store.proofs.auditing.audit_by.Goals as goal

pub returns-clause-audited : goal.returns-clause-audited
returns-clause-audited g c clean = λ zone default none f has.
    let given = c.in_ok-read_figures.ensures.given clean f has zone default none in
    record {
      read = given.0;
      same = record { usage = given.1.usage; transactions = given.1.transactions; limits = given.1.limits };
      audited = c.in_ok-audit.ensures zone default given.0 given.2;
    }

pub returns-clause-open : goal.returns-clause-open
returns-clause-open g c clean = (c.in_ok-read_figures.ensures.same clean).0.was_open
