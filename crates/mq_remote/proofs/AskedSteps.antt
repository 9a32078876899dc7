-- What the servers of a command were asked.
use Rattle.std.proofs.Common.{◌≡◌, ◌==◌, ℕ, List, Bool, [], ◌∷◌, length, map, Option, None, Some, Result, Ok, Err, ap, inl, inr, refl, sym, ◌∙◌, subst}
use Rattle.std.specs.Prelude.{IfSome, IfOk, IfErr, MatchOption, MatchResult}
use Rattle.std.proofs.lemmas.List.{length-map}
use Rattle.std.specs.Borrow.{Bor}
use Rattle.std.specs.Net.Text.{socket_text}
use Rattle.std.specs.declared.net.SocketAddr.{SocketAddr}
use Rattle.std.specs.declared.time.SystemTime.{SystemTime}
use Rattle.mq_client.specs.declared.spans.Spans.{Spans}
use Rattle.mq_process.specs.declared.arguments.LimitArgument.{LimitArgument}
use Rattle.mq_process.specs.declared.arguments.OutputArgument.{OutputArgument}
use Rattle.mq_command.specs.declared.allow.Setter.{Setter}
use Rattle.mq_link.specs.declared.link.ReportedExchange.{ReportedExchange}
use Rattle.mq_request.specs.Range.{IsRun}
use Rattle.mq_request.specs.declared.message.Request.{Request}
use Rattle.mq_process.specs.Faults.{process_status}
use Rattle.mq_process.specs.Clocks.{IsRunAt}
use Rattle.mq_process.specs.Links.{AsksOver}
use Rattle.mq_process.specs.Servers.{AsksEach, server}
use Rattle.mq_process.specs.Servers.{no_server as none_asked}
use Rattle.mq_process.specs.Whom.{FindsServers, IsWhom, servers_or}
use Rattle.mq_process.specs.declared.asking.TheConstants.{TIMEOUT}
use Rattle.mq_process.specs.declared.fault.ProcessFault.{ProcessFault}
use Rattle.mq_process.specs.declared.fault.ProcessFault.TheVariants.{Memory}
use Rattle.mq_remote.specs.Asked.{AsksAt, IsRunBy, IsTarget, LimitsBy, ResumesBy, SendsLimit, is_bare, words_of}
use Rattle.mq_remote.specs.declared.subcommands.retire.Target.{Target}
use Rattle.mq_command.specs.Orders.{PrintsLine}
use Rattle.mq_remote.specs.Servers.{AsksAll, asks_one, none_left}

-- what each call of this state brings was asked at each server
all_asked : {F : Type 0} {Asks : F → SocketAddr → ℕ → F → Type 0} {At : SocketAddr → ℕ → Type 0} {is_alone : Bool} {last : F} {status : ℕ} (state : F)
    → ((address : SocketAddr) (said : ℕ) (after : F) → Asks state address said after → At address said × (after ≡ state))
    → (before : F) (texts : List (List ℕ)) (so_far : ℕ) → before ≡ state → AsksEach Asks is_alone last status before texts so_far → AsksAll At is_alone status texts so_far
all_asked state each before texts so_far is none_asked = none_left
all_asked {Asks = Asks} state each before texts so_far is (server before' after text others address so_far' told said spelled alone asked rest) =
    let one = each address said after (subst (λ b. Asks b address said after) is asked) in
    asks_one text others address so_far told said spelled alone one.0 (all_asked state each after others _ one.1 rest)

-- the same of all servers, whether one is asked alone or not
pub asked_in_turn : {F : Type 0} {Asks : F → SocketAddr → ℕ → F → Type 0} {At : SocketAddr → ℕ → Type 0} {last : F} {status : ℕ} (is_alone : Bool) (state : F) (texts : List (Bor (List ℕ)))
    → ((address : SocketAddr) (said : ℕ) (after : F) → Asks state address said after → At address said × (after ≡ state))
    → AsksEach Asks is_alone last status state (map (λ s. s.now) texts) 0 → AsksAll At is_alone status (map (λ s. s.now) texts) 0
asked_in_turn is_alone state texts each asked = all_asked state each state _ _ refl asked

-- the same of all servers
pub servers_asked : {F : Type 0} {Asks : F → SocketAddr → ℕ → F → Type 0} {At : SocketAddr → ℕ → Type 0} {last : F} {status : ℕ} (state : F) (texts : List (Bor (List ℕ)))
    → ((address : SocketAddr) (said : ℕ) (after : F) → Asks state address said after → At address said × (after ≡ state))
    → AsksEach Asks (length texts == 1) last status state (map (λ s. s.now) texts) 0
    → AsksAll At (length (map (λ s. s.now) texts) == 1) status (map (λ s. s.now) texts) 0
servers_asked {At = At} {status = status} state texts each asked =
    subst (λ n. AsksAll At (n == 1) status (map (λ s. s.now) texts) 0) (sym (length-map texts (λ s. s.now))) (all_asked state each state _ _ refl asked)

-- the same by how many are asked, and whether as JSON
pub bare_so : (At : SocketAddr → ℕ → Type 0) (output : OutputArgument) (bare : Bool) (count status : ℕ) (texts : List (Bor (List ℕ))) → bare ≡ is_bare output count → count ≡ length texts
    → AsksAll At bare status (map (λ s. s.now) texts) 0 → AsksAll At (is_bare output (length (map (λ s. s.now) texts))) status (map (λ s. s.now) texts) 0
bare_so At output bare count status texts is counted asked =
    subst (λ n. AsksAll At (is_bare output n) status (map (λ s. s.now) texts) 0) (counted ∙ sym (length-map texts (λ s. s.now)))
    (subst (λ b. AsksAll At b status (map (λ s. s.now) texts) 0) is asked)

-- the servers of the words, or those that were found
pub whom_of : {F X : Type 0} (remaining : F → Option (List ℕ)) (named : Option X) (words given asked servers found shown : List (List ℕ)) → words ≡ given → shown ≡ found
    → (words ≡ [] → (at : List SocketAddr) × FindsServers remaining named (Ok at) × (found ≡ map socket_text at))
    → servers ≡ servers_or shown words → asked ≡ servers → IsWhom remaining named given asked
whom_of remaining named words [] asked servers found shown same texts finds chosen is =
    let it = finds same in
    (it.0, it.1, is ∙ chosen ∙ ap (servers_or shown) same ∙ texts ∙ it.2)
whom_of remaining named words (given ∷ more) asked servers found shown same texts finds chosen is = is ∙ chosen ∙ ap (servers_or shown) same

-- the one server of the words, where they name one
pub words_are : (server : Option (Bor (List ℕ))) (words : List (Bor (List ℕ))) → MatchOption server (words ≡ []) (λ s. words ≡ s ∷ []) → map (λ s. s.now) words ≡ words_of server
words_are None words is = ap (map (λ s. s.now)) is
words_are (Some text) words is = ap (map (λ s. s.now)) is

-- whose runs are given up, and where, by the words that were given
pub target_by : {F X : Type 0} (remaining : F → Option (List ℕ)) (named : Option X) (host : Option (List ℕ)) (target : Target) (words given : List (List ℕ)) → words ≡ given
    → IsTarget remaining named host words target → IsTarget remaining named host given target
target_by remaining named host target words given is found = subst (λ w. IsTarget remaining named host w target) is found

-- the run that is given, or the clock's
pub run_by : (Shows : SystemTime → Type 0) (given : Option ℕ) (run : ℕ) (numbered : Result ℕ ProcessFault) → numbered ≡ Ok run → IfSome given (λ g. numbered ≡ Ok g) → IsRun run
    → (given ≡ None → IsRunAt Shows run) → IsRunBy Shows given run
run_by Shows (Some g) run numbered was is in_range clock = let e = sym was ∙ is in cc
run_by Shows None run numbered was is in_range clock = (in_range, clock refl)

-- a server was asked, or memory ran out before
pub asked_or_not : {L : Type 0} (leads : L → SocketAddr → ℕ → Type 0) (told : L → Option (List ReportedExchange))
    (Asks : ℕ → Option (List ReportedExchange) → Option (List ReportedExchange) → Option (List ℕ) → Option (List ℕ) → Type 0) (address : SocketAddr) (asked : Result ℕ ProcessFault) (said : ℕ)
    → IfOk asked (λ status. AsksOver leads told address TIMEOUT (Asks status)) → IfErr asked (λ fault. fault ≡ Memory)
    → MatchResult asked (λ status. said ≡ status) (λ fault. said ≡ process_status fault) → AsksAt leads told Asks address said
asked_or_not leads told Asks address (Ok status) said over memory is = inr (subst (λ s. AsksOver leads told address TIMEOUT (Asks s)) (sym is) over)
asked_or_not leads told Asks address (Err fault) said over memory is = inl (is ∙ ap (λ f. process_status f) memory)

-- the run of the setter is that one
pub run_set : (Shows : SystemTime → Type 0) (given : Option ℕ) (set run : ℕ) → set ≡ run → IsRunBy Shows given run → IsRunBy Shows given set
run_set Shows given set run is by = subst (λ r. IsRunBy Shows given r) (sym is) by

-- a limit was sent that is this one
pub limit_sent : {L : Type 0} (leads : L → SocketAddr → ℕ → Type 0) (told : L → Option (List ReportedExchange)) (is_given same : Bool) (request other : Request) (address : SocketAddr)
    (status : ℕ) → is_given ≡ same → request ≡ other → AsksAt leads told (SendsLimit same request) address status → AsksAt leads told (SendsLimit is_given other) address status
limit_sent leads told is_given same request other address status is are asked =
    subst (λ b. AsksAt leads told (SendsLimit b other) address status) (sym is) (subst (λ r. AsksAt leads told (SendsLimit same r) address status) are asked)

-- a limit was set by the words that were given
pub limit_words : {L : Type 0} (leads : L → SocketAddr → ℕ → Type 0) (told : L → Option (List ReportedExchange)) (is_given given : Bool) (setter : Setter) (day : ℕ) (cap : LimitArgument)
    (words same servers : List (List ℕ)) (status : ℕ) → is_given ≡ given → words ≡ same → LimitsBy leads told is_given setter day cap words servers status
    → LimitsBy leads told given setter day cap same servers status
limit_words leads told is_given given setter day cap words same servers status is are asked =
    subst (λ w. LimitsBy leads told given setter day cap w servers status) are (subst (λ b. LimitsBy leads told b setter day cap words servers status) is asked)

-- a login was to have more again by the words that were given
pub resume_words : {L : Type 0} (leads : L → SocketAddr → ℕ → Type 0) (told : L → Option (List ReportedExchange)) (setter : Setter) (day : ℕ) (more : Option ℕ)
    (words same servers : List (List ℕ)) (status : ℕ) → words ≡ same → ResumesBy leads told setter day more words servers status
    → ResumesBy leads told setter day more same servers status
resume_words leads told setter day more words same servers status are asked = subst (λ w. ResumesBy leads told setter day more w servers status) are asked

-- another link that is this one leads there too
pub led_by : {L : Type 0} (leads : L → SocketAddr → ℕ → Type 0) (link same : L) (address : SocketAddr) (timeout given : ℕ) → same ≡ link → timeout ≡ given → leads link address timeout
    → leads same address given
led_by leads link same address timeout given is is_timeout led =
    subst (λ l. leads l address given) (sym is) (subst (λ t. leads link address t) is_timeout led)

-- spans of so many seconds
abbrev pub spans : ℕ → ℕ → Spans
spans pause hold = record { pause = pause; hold = hold }

-- the spans of these seconds
pub spans_are : (pause hold seconds more : ℕ) → pause ≡ seconds → hold ≡ more → spans pause hold ≡ spans seconds more
spans_are pause hold seconds more is_pause is_hold =
    ap (λ p. spans p hold) is_pause ∙ ap (λ h. spans seconds h) is_hold

-- a line that couldn't be printed whole
pub not_printed : (line : List ℕ) (old new : Option (List ℕ)) (status : ℕ) → (status ≡ 0 → ⊥) → PrintsLine line old new status → (status ≡ 1) × PrintsLine line old new 1
not_printed line old new status never (inl whole) = absurd (never whole.0)
not_printed line old new status never (inr front) = (front.0, inr (refl, front.1))
