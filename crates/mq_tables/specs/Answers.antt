-- What the table of answers means, whatever the store holds: the requests as bytes.
use Rattle.std.specs.Prelude.{ℕ, List, [], Option, Some, None, slice_get, option_and_then, option_map, unwrap_or, codes}
use Rattle.std.specs.List.{filter_map}
use Rattle.sqlite.specs.declared.types.Value.{Value}
use Rattle.sqlite.specs.declared.types.Value.TheVariants.{Blob}
use Rattle.sqlite.specs.Order.{Row, column}
use Rattle.sqlite.specs.Effect.{Database}
use Rattle.sqlite.specs.Schema.{Schema}
use Rattle.sqlite_schema.specs.Names.{table_named}

-- the tree of a table that goes by this name, where there is one
abbrev pub tree_named : Schema → List ℕ → Option ℕ
tree_named s name = option_map (λ t. t.tree) (option_and_then (slice_get s.tables) (table_named s name))

-- its rows, in the order of their rowids
abbrev pub rows_named : Database → List ℕ → List Row
rows_named db name = unwrap_or (option_map db.trees (tree_named db.schema name)) []

-- the bytes of a value, where it is bytes
abbrev pub blob_in : Value → Option (List ℕ)
blob_in (Blob bytes) = Some bytes
blob_in _ = None

-- the requests as bytes, in the order of n
abbrev pub bodies_in : Database → List (List ℕ)
bodies_in db = filter_map (λ row. blob_in (column row 5)) (rows_named db (codes "answer"))
