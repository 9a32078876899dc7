use Rattle.std.proofs.Common.{[], ap, sym, take, ◌+◌, ◌++◌, ◌∙◌, ◌∷◌, ◌≡◌}
use Rattle.std.proofs.lemmas.List.{take_more}
use Rattle.toml.specs.declared.value.Value.{Value}
use Rattle.mq_permits_file.proofs.Reading.{origins_more}
use Rattle.mq_permits_file.proofs.read.Reader.read_entries.Goals as goal

pub loop-entry-preserved : goal.loop-entry-preserved
loop-entry-preserved c =
    let vs = c.args.entries.now in
    let at = c.loop-entry.entry-index in
    let v = c.entry-item.result in
    let place : take (at + 1) vs ≡ take at vs ++ v ∷ [] = take_more vs at v c.loop-entry-test.true ∙ ap (λ (x : Value). take at vs ++ x ∷ []) (sym c.entry-item.is) in
    record { read = rw (place, c.in_ok-push.ensures.items) (origins_more (take at vs) c.loop-entry.origins.items v _ c.loop-entry.invariant.read c.in_ok-read_entry.ensures) }
