-- Whom a command asks, by its words, or else by settings.
use Rattle.std.specs.Prelude.{◌≡◌, ◌⊎◌, ℕ, List, [], ◌∷◌, map, Option, None, Some, Result, Ok, Err}
use Rattle.std.specs.Net.Addr.{MatchIp, IsUnspecifiedV4, IsUnspecifiedV6, IsLoopbackV4, IsLoopbackV6}
use Rattle.std.specs.Net.Socket.{socket_ip, socket_port}
use Rattle.std.specs.Net.Text.{socket_text}
use Rattle.std.specs.declared.net.SocketAddr.{SocketAddr}
use Rattle.mq_settings.specs.declared.settings.FilterSettings.{FilterSettings}
use Rattle.mq_settings.specs.declared.settings.ServerSettings.{ServerSettings}
use Rattle.mq_process.specs.Settings.{ReadsFilter, ReadsServer, ReadsServers}
use Rattle.mq_process.specs.declared.fault.ProcessFault.{ProcessFault}
use Rattle.mq_process.specs.declared.fault.ProcessFault.TheVariants.{EveryAddress, Memory, NoServer}

-- it stands for all addresses of a machine
abbrev pub IsEveryAddress : SocketAddr → Type 0
IsEveryAddress listen = MatchIp (socket_ip listen) IsUnspecifiedV4 IsUnspecifiedV6

-- this machine itself, at the port of the address
pub record IsHere (listen address : SocketAddr) : Type 0 where
  pub ip : MatchIp (socket_ip address) IsLoopbackV4 IsLoopbackV6
  pub port : socket_port address ≡ socket_port listen

-- where a server is asked that listens so: there, or on this machine where it listens at all addresses
abbrev pub IsAskedAt : SocketAddr → SocketAddr → Type 0
IsAskedAt listen address = (¬ IsEveryAddress listen × (address ≡ listen)) ⊎ (IsEveryAddress listen × IsHere listen address)

-- where the server is asked whose settings a file spells
abbrev pub Listens : {F : Type 0} → (F → Option (List ℕ)) → SocketAddr → Type 0
Listens remaining address =
    (settings : ServerSettings) × ReadsServer remaining (Ok settings) × IsAskedAt settings.listen address

-- why it isn't: a file spells no settings, or some that don't say at which address it can be asked
abbrev pub IsUnheard : {F : Type 0} → (F → Option (List ℕ)) → ProcessFault → Type 0
IsUnheard remaining fault =
    ReadsServer remaining (Err fault)
    ⊎ ((settings : ServerSettings) × ReadsServer remaining (Ok settings) × IsEveryAddress settings.listen × (fault ≡ EveryAddress))

-- where the filter asks whose settings a file spells
abbrev pub AsksAsFilter : {F : Type 0} → (F → Option (List ℕ)) → SocketAddr → Type 0
AsksAsFilter remaining address = (settings : FilterSettings) × ReadsFilter remaining (Ok settings) × (address ≡ settings.server)

-- The address that settings have: of the server's settings that the words name, else of those in their place, or of the
-- filter's settings in theirs; it doesn't say which of the two go first.
abbrev pub FindsAddress : {F X : Type 0} → (F → Option (List ℕ)) → Option X → Result SocketAddr ProcessFault → Type 0
FindsAddress remaining (Some file) (Ok address) = Listens remaining address
FindsAddress remaining None (Ok address) = Listens remaining address ⊎ AsksAsFilter remaining address
FindsAddress remaining (Some file) (Err fault) = IsUnheard remaining fault
FindsAddress remaining None (Err fault) = (fault ≡ NoServer) ⊎ (IsUnheard remaining fault ⊎ ReadsFilter remaining (Err fault))

-- one server, whose address settings have
abbrev pub FindsOne : {F X : Type 0} → (F → Option (List ℕ)) → Option X → List SocketAddr → Type 0
FindsOne remaining named servers = (address : SocketAddr) × FindsAddress remaining named (Ok address) × (servers ≡ address ∷ [])

-- why there is none, where memory may run out
abbrev pub FindsNone : {F X : Type 0} → (F → Option (List ℕ)) → Option X → ProcessFault → Type 0
FindsNone remaining named fault = (fault ≡ Memory) ⊎ FindsAddress remaining named (Err fault)

-- The servers of settings: the one of the server's settings that the words name, else those that a file lists, or the one whose
-- address other settings have; it doesn't say which go first.
abbrev pub FindsServers : {F X : Type 0} → (F → Option (List ℕ)) → Option X → Result (List SocketAddr) ProcessFault → Type 0
FindsServers remaining (Some file) (Ok servers) = FindsOne remaining (Some file) servers
FindsServers {F} {X} remaining None (Ok servers) = ReadsServers remaining (Ok servers) ⊎ FindsOne {X = X} remaining None servers
FindsServers remaining (Some file) (Err fault) = FindsNone remaining (Some file) fault
FindsServers {F} {X} remaining None (Err fault) = ReadsServers remaining (Err fault) ⊎ FindsNone {X = X} remaining None fault

-- the servers of the words, or those of settings where the words name none
abbrev pub IsWhom : {F X : Type 0} → (F → Option (List ℕ)) → Option X → List (List ℕ) → List (List ℕ) → Type 0
IsWhom remaining named [] servers =
    (found : List SocketAddr) × FindsServers remaining named (Ok found) × (servers ≡ map socket_text found)
IsWhom remaining named (given ∷ more) servers = servers ≡ given ∷ more

-- the servers of the words, or these where the words name none
abbrev pub servers_or : List (List ℕ) → List (List ℕ) → List (List ℕ)
servers_or found [] = found
servers_or found (given ∷ more) = given ∷ more
