use Rattle.std.proofs.Common.{sym}
use Rattle.toml.specs.View.{table_view}
use Rattle.mq_settings.specs.Settings.{IsServerRefusal}
use Rattle.mq_settings.proofs.SettingsFaults.{of_error, server_at_store, server_at_default, server_at_zone, server_at_keep, server_at_timeout, server_at_idle, server_at_log, server_at_permits, server_at_metrics}
use Rattle.mq_settings.proofs.settings.read_server_settings.Goals as goal

pub returns-in_err-default-clause-refusal : goal.returns-in_err-default-clause-refusal
returns-in_err-default-clause-refusal c =
    of_error (IsServerRefusal c.args.text.now) _ c.in_err-default.field-0.0 c.from_residual-in_err-default.ensures.1
    (server_at_default _ (table_view c.in_ok-table.table) _ _ _ c.in_ok-table.ensures.table c.in_ok-table.ensures.names c.in_ok-listen.ensures c.in_ok-store.ensures.ok (sym c.in_err-default.ensures))

pub returns-in_err-zone-clause-refusal : goal.returns-in_err-zone-clause-refusal
returns-in_err-zone-clause-refusal c =
    of_error (IsServerRefusal c.args.text.now) _ c.in_err-zone.field-0.0 c.from_residual-in_err-zone.ensures.1
    (server_at_zone _ (table_view c.in_ok-table.table) _ _ _ _ c.in_ok-table.ensures.table c.in_ok-table.ensures.names c.in_ok-listen.ensures c.in_ok-store.ensures.ok (sym c.in_ok-default.ensures) c.in_err-zone.ensures)

pub returns-in_err-keep-clause-refusal : goal.returns-in_err-keep-clause-refusal
returns-in_err-keep-clause-refusal c =
    of_error (IsServerRefusal c.args.text.now) _ c.in_err-keep.field-0.0 c.from_residual-in_err-keep.ensures.1
    (server_at_keep _ (table_view c.in_ok-table.table) _ _ _ _ _ c.in_ok-table.ensures.table c.in_ok-table.ensures.names c.in_ok-listen.ensures c.in_ok-store.ensures.ok (sym c.in_ok-default.ensures) c.in_ok-zone.ensures (sym c.in_err-keep.ensures))

pub returns-in_err-timeout-clause-refusal : goal.returns-in_err-timeout-clause-refusal
returns-in_err-timeout-clause-refusal c =
    of_error (IsServerRefusal c.args.text.now) _ c.in_err-timeout.field-0.0 c.from_residual-in_err-timeout.ensures.1
    (server_at_timeout _ (table_view c.in_ok-table.table) _ _ _ _ _ _ c.in_ok-table.ensures.table c.in_ok-table.ensures.names c.in_ok-listen.ensures c.in_ok-store.ensures.ok (sym c.in_ok-default.ensures) c.in_ok-zone.ensures (sym c.in_ok-keep.ensures) (sym c.in_err-timeout.ensures))

pub returns-in_err-idle-clause-refusal : goal.returns-in_err-idle-clause-refusal
returns-in_err-idle-clause-refusal c =
    of_error (IsServerRefusal c.args.text.now) _ c.in_err-idle.field-0.0 c.from_residual-in_err-idle.ensures.1
    (server_at_idle _ (table_view c.in_ok-table.table) _ _ _ _ _ _ _ c.in_ok-table.ensures.table c.in_ok-table.ensures.names c.in_ok-listen.ensures c.in_ok-store.ensures.ok (sym c.in_ok-default.ensures) c.in_ok-zone.ensures (sym c.in_ok-keep.ensures) (sym c.in_ok-timeout.ensures) (sym c.in_err-idle.ensures))

pub returns-in_err-log-clause-refusal : goal.returns-in_err-log-clause-refusal
returns-in_err-log-clause-refusal c =
    of_error (IsServerRefusal c.args.text.now) _ c.in_err-log.field-0.0 c.from_residual-in_err-log.ensures.1
    (server_at_log _ (table_view c.in_ok-table.table) _ _ _ _ _ _ _ _ c.in_ok-table.ensures.table c.in_ok-table.ensures.names c.in_ok-listen.ensures c.in_ok-store.ensures.ok (sym c.in_ok-default.ensures) c.in_ok-zone.ensures (sym c.in_ok-keep.ensures) (sym c.in_ok-timeout.ensures) (sym c.in_ok-idle.ensures) (sym c.in_err-log.ensures))

pub returns-in_err-store-clause-refusal : goal.returns-in_err-store-clause-refusal
returns-in_err-store-clause-refusal c =
    of_error (IsServerRefusal c.args.text.now) _ c.in_err-store.field-0.0 c.from_residual-in_err-store.ensures.1
    (server_at_store _ (table_view c.in_ok-table.table) _ _ c.in_ok-table.ensures.table c.in_ok-table.ensures.names c.in_ok-listen.ensures c.in_err-store.ensures.fault)

pub returns-in_err-permits-clause-refusal : goal.returns-in_err-permits-clause-refusal
returns-in_err-permits-clause-refusal c =
    of_error (IsServerRefusal c.args.text.now) _ c.in_err-permits.field-0.0 c.from_residual-in_err-permits.ensures.1
    (server_at_permits _ (table_view c.in_ok-table.table) _ _ _ _ _ _ _ _ _ c.in_ok-table.ensures.table c.in_ok-table.ensures.names c.in_ok-listen.ensures c.in_ok-store.ensures.ok (sym c.in_ok-default.ensures) c.in_ok-zone.ensures (sym c.in_ok-keep.ensures) (sym c.in_ok-timeout.ensures) (sym c.in_ok-idle.ensures) (sym c.in_ok-log.ensures) c.in_err-permits.ensures.fault)

pub returns-in_err-metrics-clause-refusal : goal.returns-in_err-metrics-clause-refusal
returns-in_err-metrics-clause-refusal c =
    of_error (IsServerRefusal c.args.text.now) _ c.in_err-metrics.field-0.0 c.from_residual-in_err-metrics.ensures.1
    (server_at_metrics _ (table_view c.in_ok-table.table) _ _ _ _ _ _ _ _ _ _ c.in_ok-table.ensures.table c.in_ok-table.ensures.names c.in_ok-listen.ensures c.in_ok-store.ensures.ok (sym c.in_ok-default.ensures) c.in_ok-zone.ensures (sym c.in_ok-keep.ensures) (sym c.in_ok-timeout.ensures) (sym c.in_ok-idle.ensures) (sym c.in_ok-log.ensures) c.in_ok-permits.ensures.ok c.in_err-metrics.ensures.fault)
