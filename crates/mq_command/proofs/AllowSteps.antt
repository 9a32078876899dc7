-- The room that grows with each refusal, and the line that is told.
use Rattle.mq_command.proofs.Words.{arith, None, FoundLower, AsksUsed, ClearsLater, DayUsage, Err, GivesLimit, Failed, IfOk, Keeps, LaterLimit, List, LooksLater, MatchResult, Ok, Option, OrderFault, PrintsLine, ReportedExchange, Result, SetsBoth, Setter, StopEnd, StopOrder, StoppedLogin, [], ap, appends_kept, arith, at_least, inr, later_end, min, refl, room, subst, suc, sym, zero, ℕ, ◌*◌, ◌+◌, ◌∙◌, ◌≡◌}

pub room_more : (refused grown : ℕ) → grown ≡ room refused → min (grown * 2 + 8) 1000000 ≡ room (refused + 1)
room_more refused grown is =
    let next : suc refused ≡ refused + 1 = omega arith in
    ap (λ r. min (r * 2 + 8) 1000000) is ∙ ap room next

-- a line that was told, or that there was no memory for
pub line_told : {S E : Type 0} (bytes_of : S → List ℕ) (line : Result S E) (text : List ℕ) (old new : Option (List ℕ)) (status : ℕ) → IfOk line (λ l. bytes_of l ≡ text)
    → MatchResult line (λ l. PrintsLine (bytes_of l) old new status) (λ _. (status ≡ 1) × Keeps old new) → PrintsLine text old new status
line_told bytes_of (Ok line) text old new status is printed = subst (λ t. PrintsLine t old new status) is printed
line_told bytes_of (Err error) text old new status is (same, kept) = inr (same, ([], text, refl, appends_kept old new kept))

-- what is used was answered, and then both limits were sent
pub limit_given : (setter : Setter) (day limit most : ℕ) (usage : DayUsage) (old asked new : Option (List ReportedExchange)) (ended : Result ℕ OrderFault)
    → AsksUsed setter.login day old asked (Ok usage) → most ≡ at_least limit usage.used → SetsBoth setter day most limit usage.used asked new ended
    → GivesLimit setter day limit old new ended
limit_given setter day limit most usage old asked new (Ok cap) answered is sent =
    (usage, asked, answered, subst (λ m. SetsBoth setter day m limit usage.used asked new (Ok cap)) is sent)
limit_given setter day limit most usage old asked new (Err fault) answered is sent =
    inr (usage, asked, answered, subst (λ m. SetsBoth setter day m limit usage.used asked new (Err fault)) is sent)

-- nothing more was asked where what was printed isn't whole
pub not_later : (setter : Setter) (order : StopOrder) (stopped : StoppedLogin) (first : ℕ) (told : Option (List ReportedExchange)) → (first ≡ 0 → ⊥)
    → LooksLater setter order (Ok stopped) first Failed told told
not_later setter order stopped zero told never = absurd (never refl)
not_later setter order stopped (suc first) told never = (refl, refl)

-- and limits of later days were looked for where it is
pub looked_later : (setter : Setter) (order : StopOrder) (stopped : StoppedLogin) (first : ℕ) (end : StopEnd) (old new : Option (List ReportedExchange)) (found : Result (Option LaterLimit) OrderFault)
    → first ≡ 0 → end ≡ later_end found → ClearsLater setter order.day stopped.later order.is_all old new found
    → LooksLater setter order (Ok stopped) first end old new
looked_later setter order stopped first end old new found whole is looks =
    subst (λ f. LooksLater setter order (Ok stopped) f end old new) (sym whole) (found, is, looks)

-- nothing was said by either, where both say nothing
pub quiet_both : {E : Type 0} (before between after : E) (status : ℕ) (found : FoundLower) → (status ≡ 0 → between ≡ before) → (found ≡ Ok None → after ≡ between)
    → status ≡ 0 → found ≡ Ok None → after ≡ before
quiet_both before between after status found first second done none = second none ∙ first done

-- it isn't asked where that failed
pub quiet_never : {E : Type 0} (before after : E) (status : ℕ) (found : FoundLower) → status ≡ 1 → status ≡ 0 → found ≡ Ok None → after ≡ before
quiet_never before after status found one done none = absurd (omega (arith, one, done))
