-- The figures of typed rows.
use Rattle.std.specs.Prelude.{pos, map}
use Rattle.mq_rows.specs.declared.audited.LimitFigures.{LimitFigures}
use Rattle.mq_rows.specs.declared.audited.TransactionFigures.{TransactionFigures}
use Rattle.mq_rows.specs.declared.audited.UsageFigures.{UsageFigures}
use Rattle.mq_rows.specs.declared.record.LimitRecord.{LimitRecord}
use Rattle.mq_rows.specs.declared.record.TransactionRecord.{TransactionRecord}
use Rattle.mq_rows.specs.declared.record.UsageRecord.{UsageRecord}
use Rattle.mq_rows.specs.Audit.{Figures}
use Rattle.mq_rows.specs.Tables.{Tables}

-- those of a row of `usage`
abbrev pub usage_figures : UsageRecord → UsageFigures
usage_figures u = record {
  pair = record { login = u.login; day = pos u.day };
  settled = pos u.settled;
  reserved = pos u.reserved;
}

-- those of a row of `trans`
abbrev pub transaction_figures : TransactionRecord → TransactionFigures
transaction_figures t = record {
  pair = record { login = t.login; day = pos t.day };
  moment = pos t.moment;
  held = pos t.held;
  settled = pos t.settled;
}

-- those of a row of `ceiling`
abbrev pub limit_figures : LimitRecord → LimitFigures
limit_figures c = record { pair = record { login = c.login; day = pos c.day }; cap = pos c.cap }

-- those of all rows
abbrev pub figures : Tables → Figures
figures t = record {
  usage = map usage_figures t.usage;
  transactions = map transaction_figures t.transactions;
  limits = map limit_figures t.limits;
}
