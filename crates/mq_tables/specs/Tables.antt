-- The tables as the schema has them.
use Rattle.sqlite.specs.Collation.TheVariants.{Binary}
use Rattle.std.specs.Prelude.{true, false, [], ◌∷◌, Option, Some, None, codes, List, ℕ, map}
use Rattle.sqlite.specs.declared.types.Value.TheVariants.{Null}
use Rattle.sqlite.specs.Table.{Table}
use Rattle.sqlite.specs.Kind.{Kind}
use Rattle.sqlite.specs.Kind.TheVariants.{Integer, Blob}
use Rattle.sqlite_schema.specs.declared.schema.Column.{Column}
use Rattle.sqlite_value.specs.Keys.{plain}

-- a column that always has a value of its kind
abbrev pub required : List ℕ → Kind → Column
required name kind =
    record { name = name; kind = kind; is_strict = true; not_null = true; default = Null; collation = Binary }

-- the column of a whole number that is the row's key
abbrev pub keyed : List ℕ → Column
keyed name =
    record { name = name; kind = Integer; is_strict = true; not_null = false; default = Null; collation = Binary }

-- a table of these columns, of which none has a CHECK, refers to another table or is computed
abbrev pub made_of : List ℕ → List Column → Option ℕ → List ℕ → List (List ℕ) → Table
made_of name columns key primary uniques = record {
  name = name;
  tree = 0;
  columns = columns;
  key = key;
  primary = primary;
  uniques = uniques;
  orders = map (λ _. plain) uniques;
  checks = [];
  references = [];
  computed = [];
  stamps = record { places = []; terms = []; formats = [] };
  is_counted = false;
}

-- one row: what the ledger was made with, and how many answers it has
abbrev pub setting_table : Table
setting_table =
    made_of (codes "setting")
    (keyed (codes "id") ∷ required (codes "version") Integer ∷ required (codes "minutes") Integer ∷
    required (codes "cap") Integer ∷ required (codes "arrivals") Integer ∷ []) (Some 0) (0 ∷ []) []

-- a row for each entry of the history, by its place, and by the number of its request
abbrev pub answer_table : Table
answer_table =
    made_of (codes "answer")
    (keyed (codes "n") ∷ required (codes "host") Blob ∷ required (codes "run") Integer ∷
    required (codes "seq") Integer ∷ required (codes "request") Blob ∷
    required (codes "reply") Blob ∷ []) (Some 0) (0 ∷ []) ((2 ∷ 3 ∷ 4 ∷ []) ∷ [])

-- a row for each transaction, by host, run and number
abbrev pub trans_table : Table
trans_table =
    made_of (codes "trans")
    (required (codes "host") Blob ∷ required (codes "run") Integer ∷ required (codes "txn") Integer ∷
    required (codes "login") Blob ∷ required (codes "moment") Integer ∷
    required (codes "day") Integer ∷ required (codes "held") Integer ∷
    required (codes "settled") Integer ∷ required (codes "closed") Integer ∷ [])
    None (1 ∷ 2 ∷ 3 ∷ []) ((1 ∷ 2 ∷ 3 ∷ []) ∷ [])

-- a row for each login and day with a granted reserve
abbrev pub usage_table : Table
usage_table =
    made_of (codes "usage")
    (required (codes "login") Blob ∷ required (codes "day") Integer ∷
    required (codes "settled") Integer ∷ required (codes "reserved") Integer ∷ [])
    None (1 ∷ 2 ∷ []) ((1 ∷ 2 ∷ []) ∷ [])

-- a row for each login and from-day of a limit that was set
abbrev pub ceiling_table : Table
ceiling_table =
    made_of (codes "ceiling")
    (required (codes "login") Blob ∷ required (codes "day") Integer ∷ required (codes "cap") Integer ∷ [])
    None (1 ∷ 2 ∷ []) ((1 ∷ 2 ∷ []) ∷ [])

-- one row with the zone rule, or none with an offset
abbrev pub rule_table : Table
rule_table =
    made_of (codes "rule") (keyed (codes "id") ∷ required (codes "bytes") Blob ∷ []) (Some 0) (0 ∷ []) []

-- a row for the floor of each host that has one
abbrev pub retired_table : Table
retired_table =
    made_of (codes "retired") (required (codes "host") Blob ∷ required (codes "run") Integer ∷ [])
    None (1 ∷ []) ((1 ∷ []) ∷ [])
