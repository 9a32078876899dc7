-- What the entries of a list write, one after the other.
use Rattle.std.proofs.Common.{List, [], ◌∷◌, ◌++◌}
use Rattle.toml.specs.View.{items_view, view}
use Rattle.toml.specs.declared.value.Value.{Value}
use Rattle.mq_permits.specs.declared.permits.Origin.{Origin}
use Rattle.mq_permits_file.specs.Lists.{AreOrigins, IsOrigin}

-- one more entry, and what it writes
pub origins_more : (values : List Value) (origins : List Origin) (value : Value) (origin : Origin) → AreOrigins (items_view values) origins → IsOrigin (view value) origin
    → AreOrigins (items_view (values ++ value ∷ [])) (origins ++ origin ∷ [])
origins_more [] [] value origin are is = (is, tt)
origins_more [] (o ∷ os) value origin are is = absurd are
origins_more (v ∷ vs) [] value origin are is = absurd are
origins_more (v ∷ vs) (o ∷ os) value origin are is = (are.0, origins_more vs os value origin are.1 is)
