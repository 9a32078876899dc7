use Rattle.std.proofs.Common.{Ok, Err, refl}
use Rattle.std.specs.Net.Grammar.{IsSocketText}
use Rattle.toml.specs.Data.{get_member}
use Rattle.toml.specs.View.{table_view}
use Rattle.mq_settings.specs.Keys.{key_name}
use Rattle.mq_settings.specs.Settings.{IsAddressFault}
use Rattle.mq_settings.specs.declared.settings.fault.SettingsFault.TheVariants.{Address}
use Rattle.mq_settings.proofs.TextLaws.{found_or, failed_or}
use Rattle.mq_settings.proofs.settings.value.read_address.Goals as goal

pub returns-in-Ok : goal.returns-in-Ok
returns-in-Ok c =
    found_or (IsAddressFault c.args.key) c.args.key IsSocketText (get_member (key_name c.args.key) (table_view c.args.table.now)) c.in_ok-text.text (Ok c.in-Ok.address) c.in_ok-text.ensures c.in-Ok.ensures.value

pub returns-in-Err : goal.returns-in-Err
returns-in-Err c =
    found_or (IsAddressFault c.args.key) c.args.key IsSocketText (get_member (key_name c.args.key) (table_view c.args.table.now)) c.in_ok-text.text (Err (Address c.args.key c.address_flaw.result)) c.in_ok-text.ensures ((c.address_flaw.result, refl), c.in-Err.ensures.value)

pub returns-in_err-text : goal.returns-in_err-text
returns-in_err-text c =
    failed_or (IsAddressFault c.args.key) c.args.key IsSocketText (get_member (key_name c.args.key) (table_view c.args.table.now)) c.in_err-text.field-0.0 c.from_residual.result c.in_err-text.ensures c.from_residual.ensures.1
