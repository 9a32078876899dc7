-- A line that the tracker refuses.
use Rattle.std.proofs.Common.{◌≡◌, ℕ, true, List, refl, sym, ap, ◌∙◌, subst, Option, None, Some, is_some}
use Rattle.mq_client.proofs.Words.{or_first, or_second, Closing, Err, FilterFault, IfErr, IfSome, IsRefused, Meaning, Ok, OnErr, ReportLine, Result, TrackFault, begin_count, bytes_eq, closing, codes, filter_fault, is_exhausted, is_filter, is_none, may_ask_for_memory, option_or, track_fault as fault}
use Rattle.mq_line.specs.Parameters.{auth, message}
use Rattle.mq_track.specs.Events.{event, has_message, report_fault, unreadable}
use Rattle.mq_track.specs.declared.fault.TrackFault.TheVariants as track
use Rattle.mq_track.specs.Steps.{needs_memory}
use Rattle.mq_client.specs.declared.fault.FilterFault.TheVariants as faults
use Rattle.mq_client.proofs.Basics.{of_either}

-- no lack of memory
abbrev IsTold : Option TrackFault → Type 0
IsTold (Some track.Memory) = ⊥
IsTold _ = Unit {0}

told_or : (x y : Option TrackFault) → IsTold x → IsTold y → IsTold (option_or x y)
told_or None y h i = i
told_or (Some f) y h i = h

told_report : (name params : List ℕ) → IsTold (report_fault name params)
told_report name params =
    of_either IsTold (bytes_eq name (codes "link-auth")) _ _
    (of_either IsTold (is_none (auth params)) (Some track.Auth) None tt tt)
    (of_either IsTold (has_message name) _ None (of_either IsTold (is_none (message params)) (Some track.Message) None tt tt) tt)

told_unreadable : (m : Meaning) → IsTold (unreadable m)
told_unreadable (ReportLine seconds subsystem name session params) = of_either IsTold (bytes_eq subsystem (codes "smtp-in")) (report_fault name params) None (told_report name params) tt
told_unreadable m = tt

-- what a line says is never refused as a lack of memory
told_fault : (L : List Meaning) (m : Meaning) → IsTold (fault L m)
told_fault L m = told_or (unreadable m) _ (told_unreadable m) (of_either IsTold (is_exhausted (begin_count L) (event m)) (Some track.Exhausted) None tt tt)

refused_by : (L : List Meaning) (m : Meaning) (e : TrackFault) → fault L m ≡ Some e → IsRefused (filter_fault e) L m
refused_by L m track.Auth is = is
refused_by L m track.Message is = is
refused_by L m track.Exhausted is = is
refused_by L m track.Memory is = absurd (subst IsTold is (told_fault L m))

pub may_by_tracker : (L : List Meaning) (m : Meaning) → needs_memory (event m) ≡ true → may_ask_for_memory L m ≡ true
may_by_tracker L m e = or_second (is_filter m) _ (or_second (is_some (closing L m)) (needs_memory (event m)) e)

pub may_by_closing : (L : List Meaning) (m : Meaning) (c : Option Closing) → closing L m ≡ c → is_some c ≡ true → may_ask_for_memory L m ≡ true
may_by_closing L m c e is = or_second (is_filter m) _ (or_first (is_some (closing L m)) (needs_memory (event m)) (ap is_some e ∙ is))

-- why a line is refused, by the tracker's contract
pub refused : (X : Type 0) (L : List Meaning) (m : Meaning) (e : TrackFault) → IfSome (fault L m) (λ f. ◌≡◌ {A = Result X TrackFault} (Err e) (Err f)) → (fault L m ≡ None → e ≡ track.Memory) → (e ≡ track.Memory → needs_memory (event m) ≡ true) → IsRefused (filter_fault e) L m
refused X L m e told memory needs = by_fault (fault L m) refl told
  where
    by_fault : (o : Option TrackFault) → fault L m ≡ o → IfSome o (λ f. ◌≡◌ {A = Result X TrackFault} (Err e) (Err f)) → IsRefused (filter_fault e) L m
    by_fault None is h = subst (λ (x : TrackFault). IsRefused (filter_fault x) L m) (sym (memory is)) (is, may_by_tracker L m (needs (memory is)))
    by_fault (Some f) is h = let same : e ≡ f = cc (h) in refused_by L m e (is ∙ ap Some (sym same))

-- a closing that wasn't made
pub closing_refused : {X : Type 0} (r : Result X FilterFault) (B : Type 0) (P : FilterFault → Type 0) → OnErr r ((r ≡ Err faults.Memory) × B) → (B → P faults.Memory) → IfErr r P
closing_refused (Ok x) B P h f = tt
closing_refused (Err e) B P h f = let same : e ≡ faults.Memory = cc (h.0) in subst P (sym same) (f h.1)
