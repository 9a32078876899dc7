-- What questions to a ledger leave of it.
use Rattle.std.proofs.Common.{◌≡◌, ℕ, ◌+◌, List, [], ◌∷◌, ◌++◌, append_assoc, sym, subst, arith, Option, Result, Ok, Err}
use Rattle.std.specs.Prelude.{IfOk, IfSome}
use Rattle.std.proofs.lemmas.List.Elements.{All-append, All-nil}
use Rattle.mq_request.specs.declared.message.Reply.{Reply}
use Rattle.mq_request.specs.declared.message.Reply.TheVariants.{Usage as UsageReply}
use Rattle.mq_ledger.specs.declared.ledger.LedgerFault.{LedgerFault}
use Rattle.mq_ledger.specs.declared.ledger.LedgerFault.TheVariants.{Memory, Store}
use Rattle.mq_ledger.specs.declared.ledger.ReportedCall.{ReportedCall}
use Rattle.mq_lemmas.specs.Told.{Tells}
use Rattle.mq_lemmas.proofs.Telling.{Tells-trans}
use Rattle.mq_watch.specs.Asked.{AsksOnly, CallsOnce, IsQuestion, usage_in}

-- a call came
pub calls_it : (a b : Option (List ReportedCall)) (call : ReportedCall) → Tells a b (call ∷ []) → CallsOnce call a b
calls_it a b call told = record { before = []; after = []; tells = told; all_before = All-nil IsQuestion; all_after = All-nil IsQuestion }

-- questions came before the call
pub calls_after : (a b c : Option (List ReportedCall)) (call : ReportedCall) → AsksOnly a b → CallsOnce call b c → CallsOnce call a c
calls_after a b c call h i = record {
  before = h.questions ++ i.before;
  after = i.after;
  tells = let P : List ReportedCall → Type 0 = λ l. Tells a c l in subst P (sym (append_assoc h.questions i.before (call ∷ i.after))) (Tells-trans a b c h.questions (i.before ++ call ∷ i.after) h.tells i.tells);
  all_before = All-append IsQuestion h.questions i.before h.all i.all_before;
  all_after = i.all_after;
}

-- questions came after the call
pub calls_before : (a b c : Option (List ReportedCall)) (call : ReportedCall) → CallsOnce call a b → AsksOnly b c → CallsOnce call a c
calls_before a b c call h i = record {
  before = h.before;
  after = h.after ++ i.questions;
  tells = let P : List ReportedCall → Type 0 = λ l. Tells a c l in subst P (append_assoc h.before (call ∷ h.after) i.questions) (Tells-trans a b c (h.before ++ call ∷ h.after) i.questions h.tells i.tells);
  all_before = h.all_before;
  all_after = All-append IsQuestion h.after i.questions h.all_after i.all;
}

-- what a usage reply says is used, and the cap
pub usage_is : (login l : List ℕ) (day d settled reserved cap settled' reserved' cap' : ℕ)
    → UsageReply l d settled reserved cap ≡ UsageReply login day settled' reserved' cap' → (settled + reserved ≡ reserved' + settled') × (cap ≡ cap')
usage_is login l day d settled reserved cap settled' reserved' cap' said =
    let s : settled ≡ settled' = cc in
    let r : reserved ≡ reserved' = cc in
    (omega arith, cc)

-- what an answer says is what the usage reply says
pub usage_said : (answer : Result Reply LedgerFault) (login : List ℕ) (day settled reserved cap : ℕ) → IfOk answer (λ r. r ≡ UsageReply login day settled reserved cap)
    → IfOk (usage_in answer) (λ found. IfSome found (λ usage. (usage.used ≡ reserved + settled) × (usage.cap ≡ cap)))
usage_said (Ok (UsageReply l d s r c)) login day settled reserved cap said = usage_is login l day d s r c settled reserved cap said
usage_said (Ok _) login day settled reserved cap said = tt
usage_said (Err Memory) login day settled reserved cap said = tt
usage_said (Err Store) login day settled reserved cap said = tt
