-- The rows of a history: for each table a rule over the whole of it.
--
-- `day` gives the day of a moment. A table but the answers has at most one row under a key, and the
-- rule gives the row of each key, where there is one.
use Rattle.std.specs.Prelude.{◌≡◌, ℕ, List, [], map, length, Bool, true, ◌==◌, ◌&&◌, ◌||◌, if◌then◌else◌, Option, Some}
use Rattle.std.specs.Prelude.{None, option_map, unwrap_or}
use Rattle.std.specs.List.{enumerate_from}
use Rattle.mq_request.specs.declared.message.Id.{Id}
use Rattle.mq_request.specs.declared.message.Request.{Request}
use Rattle.mq_request.specs.declared.message.Request.TheVariants.{Reserve, Settle, Release}
use Rattle.mq_request.specs.Same.{same_text}
use Rattle.mq_frame.specs.Spelling.{request_body, reply_body}
use Rattle.mq_ledger.specs.declared.entry.Entry.{Entry}
use Rattle.mq_ledger.specs.declared.zone.Zone.{Zone}
use Rattle.mq_ledger.specs.Arrivals.{id_of, floor, is_below}
use Rattle.mq_ledger.specs.Day.{ByOffset, ByRule, minutes_in, rule_in}
use Rattle.mq_ledger.specs.History.{requests, Transaction, same_transaction, named, closed, held, settled_in, settled, moment_of}
use Rattle.mq_ledger.specs.History.{reserved}
use Rattle.mq_ledger.specs.Legal.{Book}
use Rattle.mq_ledger.specs.Limits.{set_cap}
use Rattle.mq_ledger.specs.Page.{has_reserve}
use Rattle.mq_rows.specs.declared.record.SettingRecord.{SettingRecord}
use Rattle.mq_rows.specs.declared.record.AnswerRecord.{AnswerRecord}
use Rattle.mq_rows.specs.declared.record.TransactionRecord.{TransactionRecord}
use Rattle.mq_rows.specs.declared.record.UsageRecord.{UsageRecord}
use Rattle.mq_rows.specs.declared.record.LimitRecord.{LimitRecord}
use Rattle.mq_rows.specs.declared.record.RetiredRecord.{RetiredRecord}
use Rattle.mq_rows.specs.declared.setting.TheConstants.{VERSION}

-- the version of the tables that a ledger was made with before there were floors: 1 with an offset, 2 with a rule
abbrev pub older_version : Zone → ℕ
older_version (ByOffset minutes) = 1
older_version (ByRule text) = 2

-- whether tables of this version may be those of a ledger that goes by this zone
abbrev pub is_version : Zone → ℕ → Bool
is_version zone version = (version == VERSION) || (version == older_version zone)

-- setting: the version of the tables, what a store keeps of the zone, the default limit, and the length of the history
abbrev pub setting_row : ℕ → Book → SettingRecord
setting_row version b = record {
  version = version;
  minutes = minutes_in b.zone;
  cap = b.default;
  arrivals = length b.history;
  rule = rule_in b.zone;
}

-- the row is that of the book, in a version that tables of its zone may have
pub record IsSetting (b : Book) (s : SettingRecord) : Type 0 where
  pub row : s ≡ setting_row s.version b
  pub version : is_version b.zone s.version ≡ true

-- the number of a request; every request of a history has one
abbrev pub number_of : Request → Id
number_of r = unwrap_or (id_of r) (record { host = []; run = 0; number = 0 })

-- the n-th entry's number, and the bodies that spell its request and its reply
abbrev pub answer_of : ℕ → Entry → AnswerRecord
answer_of n e =
    record { n = n; id = number_of e.request; request = request_body e.request; reply = reply_body e.reply }

-- answer: so for each entry, but with no reply where its run is below the floor
abbrev pub answer_row : List Entry → ℕ → Entry → AnswerRecord
answer_row H n e = record {
  n = n;
  id = number_of e.request;
  request = request_body e.request;
  reply = if is_below (requests H) (number_of e.request) then [] else reply_body e.reply;
}

-- the rows of all entries, in their order, from n = 1 on
abbrev pub answer_rows : List Entry → List AnswerRecord
answer_rows H = map (λ p. answer_row H p.0 p.1) (enumerate_from 1 H)

-- the login of a reserve, settle or release
abbrev pub login_of : Request → List ℕ
login_of (Reserve id txn moment login count) = login
login_of (Settle id txn moment login count) = login
login_of (Release id txn moment login) = login
login_of _ = []

-- the row of a transaction that the entry is the first of
abbrev pub transaction_of : (ℕ → ℕ) → List Entry → Transaction → Entry → TransactionRecord
transaction_of day H t e = record {
  host = t.host;
  run = t.run;
  txn = t.txn;
  login = login_of e.request;
  moment = moment_of e.request;
  day = day (moment_of e.request);
  held = held H t;
  settled = settled_in H t;
  closed = closed H t;
}

-- trans: a row for each transaction that has an entry, with the login and the moment of the first
abbrev pub transaction_row : (ℕ → ℕ) → List Entry → Transaction → Option TransactionRecord
transaction_row day H t = option_map (transaction_of day H t) (named H t)

-- usage: a row for each login and day that has a granted reserve
abbrev pub usage_row : (ℕ → ℕ) → List Entry → List ℕ → ℕ → Option UsageRecord
usage_row day H l d =
    if has_reserve day H d l
    then Some (record { login = l; day = d; settled = settled day H l d; reserved = reserved day H l d })
    else None

-- `ceiling`: a row for each login and day from which a limit was set, with the cap of the last of them
abbrev pub limit_row : List Entry → List ℕ → ℕ → Option LimitRecord
limit_row H l d = option_map (λ c. record { login = l; day = d; cap = c }) (set_cap H l d)

-- retired: a row for each host whose floor is above 0
abbrev pub retired_row : List Entry → List ℕ → Option RetiredRecord
retired_row H h = if floor (requests H) h == 0 then None else Some (record { host = h; run = floor (requests H) h })

-- the row is of that host
abbrev pub is_host : List ℕ → RetiredRecord → Bool
is_host h r = same_text h r.host

-- the row is of that transaction
abbrev pub is_transaction : Transaction → TransactionRecord → Bool
is_transaction t r = same_transaction t (record { host = r.host; run = r.run; txn = r.txn })

-- the row is of that login and day
abbrev pub is_usage : List ℕ → ℕ → UsageRecord → Bool
is_usage l d r = same_text l r.login && (r.day == d)

-- the row is of that login and day
abbrev pub is_limit : List ℕ → ℕ → LimitRecord → Bool
is_limit l d r = same_text l r.login && (r.day == d)
