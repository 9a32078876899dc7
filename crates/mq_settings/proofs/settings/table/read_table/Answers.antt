use Rattle.std.proofs.Common.{◌≡◌, List, ℕ, Result, Ok, Err, sym, subst, ◌∙◌, rules, string_bytes}
use Rattle.std.specs.Prelude.{IfErr}
use Rattle.std.specs.Result.{IsErrAnd}
use Rattle.std.proofs.lemmas.Bool.{false≢true}
use Rattle.toml.specs.View.{table_view}
use Rattle.mq_settings.specs.Keys.{IsLeastUnknown}
use Rattle.mq_settings.specs.Settings.{IsTableRefusal, memory, no_table, unknown_name}
use Rattle.mq_settings.specs.declared.settings.key.Key.{Key}
use Rattle.mq_settings.specs.declared.settings.fault.SettingsFault.{SettingsFault}
use Rattle.mq_settings.specs.declared.settings.fault.SettingsFault.TheVariants.{Memory}
use Rattle.mq_settings.proofs.settings.table.read_table.Goals as goal
use Rattle.mq_settings.proofs.settings.table.read_table.Goals.{then-is_memory, else-is_memory}

out_of_memory : {T : Type 0} (keys : List Key) (text : List ℕ) (r : Result T SettingsFault) → IsErrAnd r (λ e. e ≡ Memory) → IfErr r (IsTableRefusal keys text)
out_of_memory keys text (Ok x) h = tt
out_of_memory keys text (Err e) h = subst (λ f. IsTableRefusal keys text f) (sym h) memory

pub returns-in-Err-clause-refusal : goal.returns-in-Err-clause-refusal
returns-in-Err-clause-refusal c =
    elim c.if-is_memory.branch [
      | then-is_memory w ↦ subst (λ f. IsTableRefusal c.args.keys.now c.args.text.now f) (sym w.result-is) memory
      | else-is_memory w ↦
          subst (λ f. IsTableRefusal c.args.keys.now c.args.text.now f) (sym w.result-is)
          (no_table w.new.result (λ table spells.
          let none = c.in-Err.ensures.refused (λ out. false≢true (sym w.if-is_memory.false ∙ c.is_memory.ensures.1 out)) spells.utf8 in
          let some = spells.document in
          cc))
    ]

pub returns-in_err-clone-clause-refusal : goal.returns-in_err-clone-clause-refusal
returns-in_err-clone-clause-refusal c = out_of_memory c.args.keys.now c.args.text.now c.from_residual.result (c.from_residual.ensures.1)

pub returns-in-Some-clause-refusal : goal.returns-in-Some-clause-refusal
returns-in-Some-clause-refusal c =
    let same : string_bytes c.in_ok-clone.field-0 ≡ string_bytes c.in-Some.name.now = search rules in
    unknown_name (table_view c.in-Ok.table) c.in_ok-clone.field-0 (record { utf8 = c.in-Ok.ensures.ok.0; document = c.in-Ok.ensures.ok.1 }) (subst (λ n. IsLeastUnknown c.args.keys.now (table_view c.in-Ok.table) n) (sym same) c.in-Some.ensures.some)
