-- How a subcommand that asks a server ends where a word of it is at fault.
use Rattle.std.specs.Prelude.{◌≡◌, ◌⊎◌, ℕ, List, [], ◌∷◌, IfSome}
use Rattle.std.specs.Net.Grammar.{IsSocketText}
use Rattle.std.specs.declared.net.SocketAddr.{SocketAddr}
use Rattle.mq_request.specs.Range.{IsHost, IsLogin}
use Rattle.mq_process.specs.declared.arguments.LoginArgument.{LoginArgument}
use Rattle.mq_process.specs.declared.arguments.LoginArgument.TheVariants.{Reported, Printed}
use Rattle.mq_process.specs.declared.arguments.ProbeArguments.{ProbeArguments}
use Rattle.mq_process.specs.declared.arguments.RetireArguments.{RetireArguments}
use Rattle.mq_process.specs.declared.arguments.ReportArguments.{ReportArguments}
use Rattle.mq_command.specs.Printed.{IsLoginText, IsTextOf}
use Rattle.mq_process.specs.declared.fault.ProcessFault.{ProcessFault}
use Rattle.mq_process.specs.declared.fault.ProcessFault.TheVariants.{Host, Login, Address}

-- the text spells no numeric address and port
abbrev pub IsNoAddress : List ℕ → Type 0
IsNoAddress text = (address : SocketAddr) → ¬ IsSocketText text address

-- one of these texts spells no numeric address and port
abbrev pub HasNoAddress : List (List ℕ) → Type 0
HasNoAddress [] = ⊥
HasNoAddress (text ∷ texts) = IsNoAddress text ⊎ HasNoAddress texts

-- the words name this login
abbrev pub Names : LoginArgument → List ℕ → Type 0
Names (Reported text) login = login ≡ text.now
Names (Printed text) login = IsTextOf text.now login

-- the words name a login
abbrev pub NamesLogin : LoginArgument → Type 0
NamesLogin (Reported text) = IsLogin text.now
NamesLogin (Printed text) = IsLoginText text.now

-- how an order about a login ends where a word of it is at fault: the host goes first, then the login, then the addresses
pub record OrderRefuses (host : List ℕ) (login : LoginArgument) (servers : List (List ℕ)) (EndsBy : ProcessFault → Type 0)
    : Type 0 where
  pub bad_host : ¬ IsHost host → EndsBy Host
  pub bad_login : IsHost host → ¬ NamesLogin login → EndsBy Login
  pub bad_address : IsHost host → NamesLogin login → HasNoAddress servers → EndsBy Address

-- how `status` of addresses ends where a word of it is at fault: the host goes before the addresses
pub record ProbeRefuses (given : ProbeArguments) (EndsBy : ProcessFault → Type 0) : Type 0 where
  pub bad_host : IfSome given.host (λ host. ¬ IsHost host.now → EndsBy Host)
  pub bad_address : IfSome given.host (λ host. IsHost host.now) → HasNoAddress given.servers → EndsBy Address

-- how `retire` ends where a word of it is at fault: the host goes before the address
pub record RetireRefuses (given : RetireArguments) (EndsBy : ProcessFault → Type 0) : Type 0 where
  pub host : IfSome given.host (λ host. ¬ IsHost host.now → EndsBy Host)
  pub address : IfSome given.host (λ host. IsHost host.now) → IfSome given.server (λ server. IsNoAddress server.now → EndsBy Address)

-- how `report` ends where a word of it is at fault: the login goes before the addresses
pub record ReportRefuses (given : ReportArguments) (EndsBy : ProcessFault → Type 0) : Type 0 where
  pub login : IfSome given.login (λ login. ¬ NamesLogin login → EndsBy Login)
  pub address : IfSome given.login NamesLogin → HasNoAddress given.servers → EndsBy Address
