-- How an order ends where a word of it is at fault.
use Rattle.std.proofs.Common.{◌≡◌, ℕ, List, Option, None, Some, Result, Ok, Err, ap, inl, subst, sym, ◌∙◌}
use Rattle.std.specs.Borrow.{Bor}
use Rattle.std.specs.Prelude.{IfSome, IsErrAnd}
use Rattle.mq_request.specs.Range.{IsHost}
use Rattle.mq_process.specs.declared.arguments.ProbeArguments.{ProbeArguments}
use Rattle.mq_process.specs.declared.arguments.ReportArguments.{ReportArguments}
use Rattle.mq_process.specs.declared.arguments.RetireArguments.{RetireArguments}
use Rattle.mq_process.specs.declared.arguments.LoginArgument.{LoginArgument}
use Rattle.mq_remote.specs.Asked.{words_of}
use Rattle.mq_process.specs.Refusals.{HasNoAddress, IsNoAddress, NamesLogin, OrderRefuses, ProbeRefuses, ReportRefuses, RetireRefuses}
use Rattle.mq_process.specs.declared.fault.ProcessFault.{ProcessFault}
use Rattle.mq_process.specs.declared.fault.ProcessFault.TheVariants.{Host, Login, Address}

-- another way to say how an order ends
pub for_order : (host : List ℕ) (login : LoginArgument) (servers : List (List ℕ)) (A B : ProcessFault → Type 0) → ((fault : ProcessFault) → A fault → B fault)
    → OrderRefuses host login servers A → OrderRefuses host login servers B
for_order host login servers A B step refuses = record {
  bad_host = λ no. step Host (refuses.bad_host no);
  bad_login = λ is no. step Login (refuses.bad_login is no);
  bad_address = λ is names no. step Address (refuses.bad_address is names no);
}

-- an order ends by the fault of its words
pub order_refused : {X : Type 0} (host : List ℕ) (login : LoginArgument) (texts servers : List (List ℕ)) (checked : Result X ProcessFault) (fault : ProcessFault)
    (ended : Result ℕ ProcessFault) → texts ≡ servers → checked ≡ Err fault → IsErrAnd ended (λ f. f ≡ fault) → OrderRefuses host login texts (λ f. checked ≡ Err f)
    → OrderRefuses host login servers (λ f. ended ≡ Err f)
order_refused host login texts servers checked fault (Ok status) same was is refuses = absurd is
order_refused host login texts servers checked fault (Err other) same was is refuses =
    for_order host login servers (λ f. checked ≡ Err f) (λ f. Err other ≡ Err f) (λ f e. let same = sym was ∙ e in cc)
    (subst (λ s. OrderRefuses host login s (λ f. checked ≡ Err f)) same refuses)

-- a word that is right isn't refused
right_or : {X : Type 0} (word : Option X) (IsRight : X → Type 0) (Refused : Type 0) → IfSome word IsRight → IfSome word (λ w. (IsRight w → ⊥) → Refused)
right_or None IsRight Refused is = is
right_or (Some w) IsRight Refused is = λ no. absurd (no is)

-- whatever a word is, it ends so
whatever : {X : Type 0} (word : Option X) (Is : X → Type 0) (RunEnd : Type 0) → RunEnd → IfSome word (λ w. Is w → RunEnd)
whatever None Is RunEnd ended = tt
whatever (Some w) Is RunEnd ended = λ is. ended

-- `status` whose words are right isn't refused
pub probe_right : (given : ProbeArguments) (EndsBy : ProcessFault → Type 0) → IfSome given.host (λ host. IsHost host.now) → (HasNoAddress given.servers → ⊥) → ProbeRefuses given EndsBy
probe_right given EndsBy host right = record {
  bad_host = right_or given.host (λ h. IsHost h.now) (EndsBy Host) host;
  bad_address = λ is no. absurd (right no);
}

-- nor is `report`
pub report_right : (given : ReportArguments) (EndsBy : ProcessFault → Type 0) → IfSome given.login NamesLogin → (HasNoAddress given.servers → ⊥) → ReportRefuses given EndsBy
report_right given EndsBy login right = record {
  login = right_or given.login NamesLogin (EndsBy Login) login;
  address = λ is no. absurd (right no);
}

by_address : (ended : Result ℕ ProcessFault) (fault : ProcessFault) → fault ≡ Address → IsErrAnd ended (λ f. f ≡ fault) → ended ≡ Err Address
by_address (Ok status) fault is same = absurd same
by_address (Err other) fault is same = ap Err (same ∙ is)

-- `retire` ends by an address that is none
pub retire_refused : (given : RetireArguments) (ended : Result ℕ ProcessFault) (fault : ProcessFault) → IfSome given.host (λ host. IsHost host.now) → fault ≡ Address
    → IsErrAnd ended (λ f. f ≡ fault) → RetireRefuses given (λ f. ended ≡ Err f)
retire_refused given ended fault host is same = record {
  host = right_or given.host (λ h. IsHost h.now) (ended ≡ Err Host) host;
  address = λ right. whatever given.server _ (ended ≡ Err Address) (by_address ended fault is same);
}

-- a server that is an address isn't refused
server_right : (server : Option (Bor (List ℕ))) (Refused : Type 0) → (HasNoAddress (words_of server) → ⊥) → IfSome server (λ s. IsNoAddress s.now → Refused)
server_right None Refused right = tt
server_right (Some text) Refused right = λ no. absurd (right (inl no))

-- nor is `retire` whose words are right
pub retire_right : (given : RetireArguments) (EndsBy : ProcessFault → Type 0) → IfSome given.host (λ host. IsHost host.now) → (HasNoAddress (words_of given.server) → ⊥) → RetireRefuses given EndsBy
retire_right given EndsBy host right = record {
  host = right_or given.host (λ h. IsHost h.now) (EndsBy Host) host;
  address = λ is. server_right given.server (EndsBy Address) right;
}
