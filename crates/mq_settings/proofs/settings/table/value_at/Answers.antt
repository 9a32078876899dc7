use Rattle.std.proofs.Common.{◌∙◌, ap}
use Rattle.toml.specs.Data.{get_member}
use Rattle.toml.specs.View.{members_view}
use Rattle.toml.proofs.Views.{table_get}
use Rattle.mq_settings.proofs.settings.table.value_at.Goals as goal

pub returns : goal.returns
returns c = table_get c.get.result c.name.result.now c.args.table.now.entries c.get.ensures.value ∙ ap (λ k. get_member k (members_view c.args.table.now.entries)) c.name.ensures
