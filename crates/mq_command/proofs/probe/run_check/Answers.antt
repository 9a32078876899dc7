use Rattle.mq_command.proofs.Words.{Appends, List, Option, PrintsLine, inl, inr, settings_line, sym, ℕ, ◌∙◌, ◌≡◌}
use Rattle.mq_command.proofs.probe.run_check.Goals as goal

whole : (line : List ℕ) (old new : Option (List ℕ)) (status : ℕ) → status ≡ 0 → PrintsLine line old new status → Appends old new line
whole line old new status none (inl (same, all)) = all
whole line old new status none (inr (one, front)) = absurd (let never = sym none ∙ one in cc)

-- the settings' line was printed, and then the server was asked
pub returns-clause-checks : goal.returns-clause-checks
returns-clause-checks g c =
    let (ended, asked, prints) = c.run_host_probe.ensures.probes in
    inr (_, ended, whole settings_line _ _ _ c.if-printed-ne0.false c.tell_text-printed.ensures.prints, asked, prints)
