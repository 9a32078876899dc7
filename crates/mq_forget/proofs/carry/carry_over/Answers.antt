use Rattle.mq_forget.proofs.Words.{Entry, List, [], ap, day_of, false, history_of, requests, stays, sym, take, true, ℕ, ◌++◌, ◌∙◌, ◌∷◌, ◌≡◌}
use Rattle.mq_lemmas.proofs.Options.{on_err}
use Rattle.mq_ledger.specs.Legal.{Book}
use Rattle.mq_forget.specs.Carried.{IsAt}
use Rattle.mq_forget.proofs.Carrying.{front_at}
use Rattle.mq_forget.proofs.carry.carry_over.Goals.{then-stays+in_ok-ask, else-stays}
use Rattle.mq_forget.proofs.carry.carry_over.Goals as goal

pub returns-in_err-ask-clause-err : goal.returns-in_err-ask-clause-err
returns-in_err-ask-clause-err g c = λ kept sound empty.
    let i = c.loop-entry.invariant in
    let before = c.in_err-ask.ensures.kept kept in
    on_err c.from_residual.result _ (
      take c.loop-entry.entry-index c.args.history.now,
      front_at c.args.history.now c.loop-entry.entry-index,
      c.in_err-ask.ensures.fault kept (i.stays_sound before sound) ∙ i.so_far before sound empty,
    )

pub loop-entry-preserved : goal.loop-entry-preserved
loop-entry-preserved g c =
    let i = c.loop-entry.invariant in
    let b : Book = g.L.Ledger.book c.args.ledger.now in
    let day : ℕ → ℕ = day_of b.zone in
    let D : ℕ = c.args.day in
    let H : List Entry = c.args.history.now in
    let e : Entry = c.entry-item.result in
    let told : c.stays.result ≡ stays day D H e = c.stays.ensures ∙ ap (λ z. stays (day_of z) D H e) c.zone.ensures in
    let there : IsAt H c.loop-entry.entry-index e = record { within = c.loop-entry-test.true; is = c.entry-item.is } in
    elim c.if-stays.branch [
      | then-stays+in_ok-ask w ↦ rw w.ledger-is (record {
        same_zone = w.in_ok-ask.ensures.same_zone ∙ i.same_zone;
        same_default = w.in_ok-ask.ensures.same_default ∙ i.same_default;
        was_kept = λ kept. i.was_kept (w.in_ok-ask.ensures.kept kept);
        stays_sound = λ kept sound. w.in_ok-ask.ensures.sound kept (i.stays_sound (w.in_ok-ask.ensures.kept kept) sound);
        so_far = λ kept sound empty.
            let before = w.in_ok-ask.ensures.kept kept in
            let stay : stays day D H e ≡ true = sym told ∙ w.if-stays.true in
            let was = i.so_far before sound empty in
            w.in_ok-ask.ensures.history kept (i.stays_sound before sound)
            ∙ (λ j. history_of (day_of (i.same_zone j)) (i.same_default j) (requests (was j) ++ e.request ∷ []))
            ∙ c.next_place_is_carried_over.ensures.stays day b.default D H c.loop-entry.entry-index e c.requires there stay;
      })
      | else-stays w ↦ rw w.ledger-is (record {
        same_zone = i.same_zone;
        same_default = i.same_default;
        was_kept = i.was_kept;
        stays_sound = i.stays_sound;
        so_far = λ kept sound empty.
            let go : stays day D H e ≡ false = sym told ∙ w.if-stays.false in
            i.so_far kept sound empty ∙ c.next_place_is_carried_over.ensures.goes day b.default D H c.loop-entry.entry-index e c.requires there go;
      })
    ]
