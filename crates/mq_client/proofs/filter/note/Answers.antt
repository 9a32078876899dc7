use Rattle.std.proofs.Common.{◌≡◌, Bool, subst, sym, ap, ◌∙◌, Err, Option, None}
use Rattle.mq_client.specs.Holding.{freed_in}
use Rattle.mq_client.proofs.Words.{Closes, Closing, FilterFault, Holding, IsRefused, Spans, closing, meaning, noted, seconds_in, times_out, track_fault as fault}
use Rattle.mq_client.specs.declared.fault.FilterFault.TheVariants as faults
use Rattle.mq_client.proofs.Looping.{accepted}
use Rattle.mq_client.proofs.Refusing.{refused, may_by_closing}
use Rattle.mq_client.proofs.filter.note.Goals as goal

pub returns-in-Ok-close-clause-ok : goal.returns-in-Ok-close-clause-ok
returns-in-Ok-close-clause-ok g c =
    let m = meaning c.args.line.now in
    let (step, told, made, closes, late, full, freed) = c.in-Ok-close.ensures.ok in
    let h = c.args.holdup.now in (
      step,
      told,
      made,
      λ L st.
          let none = accepted (fault L m) c.in-Ok.closing (c.in-Ok.ensures.refused L st) in
          (none, subst (λ (b : Bool). Closes b (closing L m) step) c.is_paused-paused.ensures (subst (λ (x : Option Closing). Closes c.is_paused-paused.result x step) (c.in-Ok.ensures.accepted L st none) closes), c.in-Ok.ensures.stands L st),
      c.note.ensures ∙ ap (λ (k : Spans × Holding). (k.0, noted k.0 c.seconds_of.result c.in-Ok-close.timed_out None k.1)) freed
          ∙ ap (λ s. (h.0, noted h.0 s c.in-Ok-close.timed_out None (freed_in step h.1))) c.seconds_of.ensures
          ∙ ap (λ b. (h.0, noted h.0 (seconds_in m) b None (freed_in step h.1))) late
          ∙ ap (λ o. (h.0, noted h.0 (seconds_in m) (times_out step) o (freed_in step h.1))) (sym full),
    )

pub returns-in-Err-clause-fault : goal.returns-in-Err-clause-fault
returns-in-Err-clause-fault g c = λ L st.
    subst (λ (f : FilterFault). IsRefused f L (meaning c.args.line.now)) (sym c.fault_of.ensures) (refused _ L (meaning c.args.line.now) c.in-Err.fault (c.in-Err.ensures.refused L st) (c.in-Err.ensures.accepted L st) (λ e. c.in-Err.ensures.memory (ap Err e)))

pub returns-in-Err-close-clause-fault : goal.returns-in-Err-close-clause-fault
returns-in-Err-close-clause-fault g c = λ L st.
    let m = meaning c.args.line.now in
    let k = c.in-Ok.closing in
    let (memory, some) = c.in-Err-close.ensures.memory in
    let none = accepted (fault L m) k (c.in-Ok.ensures.refused L st) in
    let is : faults.Memory ≡ c.in-Err-close.fault = cc (memory) in
    subst (λ (f : FilterFault). IsRefused f L m) is (none, may_by_closing L m k (sym (c.in-Ok.ensures.accepted L st none)) some)
