use Rattle.std.proofs.Common.{sym}
use Rattle.toml.specs.View.{table_view}
use Rattle.mq_settings.specs.Settings.{IsFilterRefusal}
use Rattle.mq_settings.proofs.SettingsFaults.{of_error, filter_at_host, filter_at_tries, filter_at_timeout, filter_at_pause, filter_at_hold, filter_at_keep_connection, filter_at_log, filter_at_metrics}
use Rattle.mq_settings.proofs.settings.read_filter_settings.Goals as goal

pub returns-in_err-host-clause-refusal : goal.returns-in_err-host-clause-refusal
returns-in_err-host-clause-refusal c =
    of_error (IsFilterRefusal c.args.text.now) _ c.in_err-host.field-0.0 c.from_residual-in_err-host.ensures.1
    (filter_at_host _ (table_view c.in_ok-table.table) _ c.in_ok-table.ensures.table c.in_ok-table.ensures.names c.in_err-host.ensures.fault)

pub returns-in_err-tries-clause-refusal : goal.returns-in_err-tries-clause-refusal
returns-in_err-tries-clause-refusal c =
    of_error (IsFilterRefusal c.args.text.now) _ c.in_err-tries.field-0.0 c.from_residual-in_err-tries.ensures.1
    (filter_at_tries _ (table_view c.in_ok-table.table) _ _ _ c.in_ok-table.ensures.table c.in_ok-table.ensures.names c.in_ok-host.ensures.ok c.in_ok-server.ensures (sym c.in_err-tries.ensures))

pub returns-in_err-timeout-clause-refusal : goal.returns-in_err-timeout-clause-refusal
returns-in_err-timeout-clause-refusal c =
    of_error (IsFilterRefusal c.args.text.now) _ c.in_err-timeout.field-0.0 c.from_residual-in_err-timeout.ensures.1
    (filter_at_timeout _ (table_view c.in_ok-table.table) _ _ _ _ c.in_ok-table.ensures.table c.in_ok-table.ensures.names c.in_ok-host.ensures.ok c.in_ok-server.ensures (sym c.in_ok-tries.ensures) (sym c.in_err-timeout.ensures))

pub returns-in_err-pause-clause-refusal : goal.returns-in_err-pause-clause-refusal
returns-in_err-pause-clause-refusal c =
    of_error (IsFilterRefusal c.args.text.now) _ c.in_err-pause.field-0.0 c.from_residual-in_err-pause.ensures.1
    (filter_at_pause _ (table_view c.in_ok-table.table) _ _ _ _ _ c.in_ok-table.ensures.table c.in_ok-table.ensures.names c.in_ok-host.ensures.ok c.in_ok-server.ensures (sym c.in_ok-tries.ensures) (sym c.in_ok-timeout.ensures) (sym c.in_err-pause.ensures))

pub returns-in_err-hold-clause-refusal : goal.returns-in_err-hold-clause-refusal
returns-in_err-hold-clause-refusal c =
    of_error (IsFilterRefusal c.args.text.now) _ c.in_err-hold.field-0.0 c.from_residual-in_err-hold.ensures.1
    (filter_at_hold _ (table_view c.in_ok-table.table) _ _ _ _ _ _ c.in_ok-table.ensures.table c.in_ok-table.ensures.names c.in_ok-host.ensures.ok c.in_ok-server.ensures (sym c.in_ok-tries.ensures) (sym c.in_ok-timeout.ensures) (sym c.in_ok-pause.ensures) (sym c.in_err-hold.ensures))

pub returns-in_err-keep_connection-clause-refusal : goal.returns-in_err-keep_connection-clause-refusal
returns-in_err-keep_connection-clause-refusal c =
    of_error (IsFilterRefusal c.args.text.now) _ c.in_err-keep_connection.field-0.0 c.from_residual-in_err-keep_connection.ensures.1
    (filter_at_keep_connection _ (table_view c.in_ok-table.table) _ _ _ _ _ _ _ c.in_ok-table.ensures.table c.in_ok-table.ensures.names c.in_ok-host.ensures.ok c.in_ok-server.ensures (sym c.in_ok-tries.ensures) (sym c.in_ok-timeout.ensures) (sym c.in_ok-pause.ensures) (sym c.in_ok-hold.ensures) (sym c.in_err-keep_connection.ensures))

pub returns-in_err-log-clause-refusal : goal.returns-in_err-log-clause-refusal
returns-in_err-log-clause-refusal c =
    of_error (IsFilterRefusal c.args.text.now) _ c.in_err-log.field-0.0 c.from_residual-in_err-log.ensures.1
    (filter_at_log _ (table_view c.in_ok-table.table) _ _ _ _ _ _ _ _ c.in_ok-table.ensures.table c.in_ok-table.ensures.names c.in_ok-host.ensures.ok c.in_ok-server.ensures (sym c.in_ok-tries.ensures) (sym c.in_ok-timeout.ensures) (sym c.in_ok-pause.ensures) (sym c.in_ok-hold.ensures) (sym c.in_ok-keep_connection.ensures) (sym c.in_err-log.ensures))

pub returns-in_err-metrics-clause-refusal : goal.returns-in_err-metrics-clause-refusal
returns-in_err-metrics-clause-refusal c =
    of_error (IsFilterRefusal c.args.text.now) _ c.in_err-metrics.field-0.0 c.from_residual-in_err-metrics.ensures.1
    (filter_at_metrics _ (table_view c.in_ok-table.table) _ _ _ _ _ _ _ _ _ c.in_ok-table.ensures.table c.in_ok-table.ensures.names c.in_ok-host.ensures.ok c.in_ok-server.ensures (sym c.in_ok-tries.ensures) (sym c.in_ok-timeout.ensures) (sym c.in_ok-pause.ensures) (sym c.in_ok-hold.ensures) (sym c.in_ok-keep_connection.ensures) (sym c.in_ok-log.ensures) c.in_err-metrics.ensures.fault)
