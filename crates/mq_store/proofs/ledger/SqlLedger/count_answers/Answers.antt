use Rattle.std.proofs.Common.{ap, ◌∙◌}
use Rattle.mq_store.proofs.Words.{SettingRecord, state}
use Rattle.mq_store.proofs.Sound.{sound_still}
use Rattle.mq_store.proofs.ledger.SqlLedger.count_answers.Goals as goal

pub returns-in-Ok-clause-counted : goal.returns-in-Ok-clause-counted
returns-in-Ok-clause-counted g c = rw (← c.self.view_is) (λ kept sound.
    c.in-Ok.ensures.counted kept.clean sound.tables sound.holds ∙ ap (λ (s : SettingRecord). s.arrivals) sound.rows.setting.row)

pub returns-in-Ok-clause-sound : goal.returns-in-Ok-clause-sound
returns-in-Ok-clause-sound g c = rw (← c.self.view_is) (λ kept sound.
    sound_still c.self.inside.zone c.self.inside.default (state g.S.Store c.self.inside.connection) (state g.S.Store c.count_store.new.connection) sound kept ((c.count_store.ensures.spares kept.clean).now kept.is_open))
