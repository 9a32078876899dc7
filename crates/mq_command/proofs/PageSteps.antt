-- One page more of a report.
use Rattle.mq_command.proofs.Words.{All, All-append, All-nil, Appends, Appends-trans, AppendsFront, AreFullPages, AsksPage, Brings, CollectsAll, Err, IsAfter, IsAscendingAbove, IsErrAnd, IsListing, IsLogin, IsPage, IsPageInRange, IsRow, List, Ok, Option, OutputFault, PrintsFront, Reply, ReportFault, ReportedExchange, ReportsAll, Result, UsageRow, [], ap, arith, flat_map-append, front_later, get_or, inl, inr, last_login, length, no_page, output_fault, page, refl, report_lines, row_line, subst, suc, sym, ℕ, ◌++◌, ◌+◌, ◌-◌, ◌<◌, ◌∙◌, ◌∷◌, ◌≡◌, ◌≤◌}
use Rattle.mq_request.specs.Range.{IsReply}
use Rattle.mq_request.specs.declared.message.Reply.TheVariants as says
use Rattle.mq_link.specs.declared.link.ExchangeOutcome.{ExchangeOutcome}
use Rattle.mq_link.specs.declared.link.ExchangeOutcome.TheVariants.{Answered, Faulted}
use Rattle.mq_command.specs.declared.output.OutputFault.TheVariants as outputs
use Rattle.mq_command.specs.declared.report.ReportFault.TheVariants as fault

-- so many full pages were accepted, which have these rows, and the next begins after this login
pub record AreHeld (day : ℕ) (start told : Option (List ReportedExchange)) (count : ℕ) (after : List ℕ) (rows : List UsageRow) : Type 0 where
  pub pages : AreFullPages day start count after told rows
  pub in_range : IsAfter after

pub held_none : (day : ℕ) (told : Option (List ReportedExchange)) (after : List ℕ) → after ≡ [] → AreHeld day told told 0 after []
held_none day told after none = record {
  pages = subst (λ l. AreFullPages day told 0 l told []) (sym none) no_page;
  in_range = record { from = omega arith; to = omega (arith, ap length none) };
}

-- the login of the last row
last_step : {X : Type 0} (x y : X) (xs : List X) (d : X) → get_or (x ∷ y ∷ xs) (length (x ∷ y ∷ xs) - 1) d ≡ get_or (y ∷ xs) (length (y ∷ xs) - 1) d
last_step x y xs d =
    let place : length (x ∷ y ∷ xs) - 1 ≡ suc (length (y ∷ xs) - 1) = omega arith in
    ap (λ k. get_or (x ∷ y ∷ xs) k d) place

last_of : (after : List ℕ) (rows : List UsageRow) (d : UsageRow) → 0 < length rows → last_login after rows ≡ (get_or rows (length rows - 1) d).login
last_of after [] d h = absurd (omega (arith, h))
last_of after (row ∷ []) d h = refl
last_of after (row ∷ next ∷ rows) d h =
    last_of row.login (next ∷ rows) d (omega arith) ∙ sym (ap {A = UsageRow} (λ r. r.login) (last_step row next rows d))

-- a full page more, as the slice of its rows has it; the next begins after the login of its last row
pub held_more : (day : ℕ) (start told told' : Option (List ReportedExchange)) (count : ℕ) (after next : List ℕ) (rows more slice : List UsageRow) (row : UsageRow)
    → AreHeld day start told count after rows → IsPage day after told told' more → IsPageInRange more → slice ≡ more → 100 ≤ length slice → row ≡ get_or slice (length slice - 1) row → next ≡ row.login
    → AreHeld day start told' (count + 1) next (rows ++ more)
held_more day start told told' count after next rows more slice row held accepted in_range is long place same =
    let long' : 100 ≤ length more = omega (arith, long, ap length is) in
    let full : length more ≡ 100 = omega (arith, long', in_range.size.to) in
    let place' : row ≡ get_or more (length more - 1) row = place ∙ ap (λ l. get_or l (length l - 1) row) is in
    let each = in_range.each (length more - 1) row (omega (arith, long')) in
    let login : IsLogin row.login = subst (λ (r : UsageRow). IsLogin r.login) (sym place') each.login in
    let last : next ≡ last_login after more = same ∙ ap {A = UsageRow} (λ r. r.login) place' ∙ sym (last_of after more row (omega (arith, long'))) in
    record {
      pages = subst (λ l. AreFullPages day start (count + 1) l told' (rows ++ more)) (sym last) (page count after told told' rows more held.pages accepted full);
      in_range = record { from = omega arith; to = omega (arith, ap length same, login.to) };
    }

-- ---- what a server lists

ascending_more : (after : List ℕ) (rows more : List UsageRow) → IsAscendingAbove after rows → IsAscendingAbove (last_login after rows) more → IsAscendingAbove after (rows ++ more)
ascending_more after [] more first next = next
ascending_more after (row ∷ rows) more (above, first) next = (above, ascending_more row.login rows more first next)

last_more : (after : List ℕ) (rows more : List UsageRow) → last_login after (rows ++ more) ≡ last_login (last_login after rows) more
last_more after [] more = refl
last_more after (row ∷ rows) more = last_more row.login rows more

-- the rows of full pages ascend, and the last is that after which the next page begins
ascend : (day : ℕ) (start told : Option (List ReportedExchange)) (count : ℕ) (after : List ℕ) (rows : List UsageRow) → AreFullPages day start count after told rows
    → IsAscendingAbove [] rows × (last_login [] rows ≡ after)
ascend day start _ _ _ _ no_page = (tt, refl)
ascend day start _ _ _ _ (page count after mid new rows more pages accepted full) =
    let (first, last) = ascend day start mid count after rows pages in
    (ascending_more [] rows more first (subst (λ l. IsAscendingAbove l more) (sym last) accepted.ascending), last_more [] rows more ∙ ap (λ l. last_login l more) last)

-- a reply that was brought is in range
brought_in_range : (outcome : ExchangeOutcome) (reply : Reply) → Brings outcome reply → IsReply reply
brought_in_range (Answered body) reply brought = brought.in_range
brought_in_range (Faulted fault) reply brought = absurd brought

page_in_range : (day : ℕ) (after : List ℕ) (old new : Option (List ReportedExchange)) (rows : List UsageRow) → IsPage day after old new rows → IsPageInRange rows
page_in_range day after old new rows accepted = (brought_in_range accepted.answered.last.outcome (says.List day rows) accepted.answered.brought).1

each_in_range : (day : ℕ) (start told : Option (List ReportedExchange)) (count : ℕ) (after : List ℕ) (rows : List UsageRow) → AreFullPages day start count after told rows → All IsRow rows
each_in_range day start _ _ _ _ no_page = All-nil IsRow
each_in_range day start _ _ _ _ (page count after mid new rows more pages accepted full) =
    All-append IsRow rows more (each_in_range day start mid count after rows pages) (page_in_range day after mid new more accepted).each

-- the rows that a server lists are in range, and ascend
pub listing : (day : ℕ) (old new : Option (List ReportedExchange)) (all : List UsageRow) → CollectsAll day old new (Ok all) → IsListing all
listing day old new all (count, after, mid, rows, few, pages, (more, accepted, short, is)) =
    let (first, last) = ascend day old mid count after rows pages in
    subst IsListing (sym is) (record {
      in_range = All-append IsRow rows more (each_in_range day old mid count after rows pages) (page_in_range day after mid new more accepted).each;
      ascending = ascending_more [] rows more first (subst (λ l. IsAscendingAbove l more) (sym last) accepted.ascending);
    })

-- a page that didn't come
pub not_collected : (day : ℕ) (start told told' : Option (List ReportedExchange)) (count : ℕ) (after : List ℕ) (rows : List UsageRow) (given : ReportFault)
    → AreHeld day start told count after rows → count < 100000 → AsksPage day after told told' (Err given) → CollectsAll day start told' (Err given)
not_collected day start told told' count after rows (fault.Unanswered cause) held few asked = (count, after, told, rows, few, held.pages, asked)
not_collected day start told told' count after rows fault.BadPage held few asked = (count, after, told, rows, few, held.pages, asked)
not_collected day start told told' count after rows fault.Memory held few asked = (count, after, told, rows, few, held.pages, inl asked)
not_collected day start told told' count after rows given held few asked = absurd asked

-- a page that came after those that are held and printed
module _ (day : ℕ) (start told told' : Option (List ReportedExchange)) (old mid new : Option (List ℕ)) (count : ℕ) (after : List ℕ) (rows more : List UsageRow)
    (held : AreHeld day start told count after rows) (printed : Appends old mid (report_lines rows)) (few : count < 100000) (accepted : IsPage day after told told' more) where
  front : AppendsFront mid new (report_lines more) → PrintsFront day told' old new after told rows
  front written = (more, accepted, rw (flat_map-append row_line rows more) (front_later old mid new (report_lines rows) (report_lines more) printed written))

  pub whole : Appends mid new (report_lines more) → Appends old new (report_lines (rows ++ more))
  whole written = rw (flat_map-append row_line rows more) (Appends-trans old mid new (report_lines rows) (report_lines more) printed written)

  pub stopped : (given : OutputFault) → AppendsFront mid new (report_lines more) → ReportsAll day start told' old new (Err (output_fault given))
  stopped outputs.Write written = (count, after, told, rows, few, held.pages, front written)
  stopped outputs.Memory written = (count, after, told, rows, few, held.pages, inr (front written))

  -- the same, with the fault as it is passed on
  pub stopped_by : (given : OutputFault) (r : Result (Unit {0}) ReportFault) → IsErrAnd r (λ fault. fault ≡ output_fault given) → AppendsFront mid new (report_lines more) → ReportsAll day start told' old new r
  stopped_by given (Ok done) e written = absurd e
  stopped_by given (Err fault) e written = subst (λ f. ReportsAll day start told' old new (Err f)) (sym e) (stopped given written)
