-- What an id and a row in a body stand for.
use Rattle.mq_frame.specs.declared.fields.IdParts.{IdParts}
use Rattle.mq_frame.specs.declared.page.RowParts.{RowParts}
use Rattle.mq_request.specs.declared.message.Id.{Id}
use Rattle.mq_request.specs.declared.usage.UsageRow.{UsageRow}

-- the id, with its host as bytes
abbrev pub shown_id : IdParts → Id
shown_id x = record { host = x.host.now; run = x.run; number = x.number }

-- the row, with its login as bytes
abbrev pub shown_row : RowParts → UsageRow
shown_row x = record { login = x.login.now; settled = x.settled; reserved = x.reserved; cap = x.cap }
