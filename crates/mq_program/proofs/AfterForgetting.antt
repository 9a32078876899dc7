-- What a serving answers that begins with what is remembered.
use Rattle.std.proofs.Common.{◌≡◌, ℕ, List, [], ◌∷◌, ◌++◌, Bool, true, false, refl, sym, ap, subst, ◌∙◌, append-nil, append_assoc}
use Rattle.std.specs.Prelude.{All, eqb, filter, if◌then◌else◌, Option}
use Rattle.std.specs.List.{AllByRecursion, AllZip}
use Rattle.std.proofs.lemmas.Bool.{eq-eqb}
use Rattle.std.proofs.lemmas.List.Elements.{All-append, All-from_recursion, All-map}
use Rattle.mq_request.specs.Range.{IsRequest}
use Rattle.mq_request.specs.declared.message.Request.{Request}
use Rattle.mq_request.specs.declared.message.Reply.{Reply}
use Rattle.mq_frame.specs.Spelling.{SpellsRequest}
use Rattle.mq_ledger.specs.declared.entry.Entry.{Entry}
use Rattle.mq_ledger.specs.declared.zone.Zone.{Zone}
use Rattle.mq_ledger.specs.Answer.{history_of, reply, with_arrival}
use Rattle.mq_ledger.specs.Arrivals.{id_of}
use Rattle.mq_ledger.specs.Day.{day_of}
use Rattle.mq_ledger.specs.History.{requests}
use Rattle.mq_ledger.specs.Legal.{Book, IsLegal}
use Rattle.mq_forget.specs.Remembered.{AreLaterOrLate, is_about, is_of_no_forgotten, remembered}
use Rattle.mq_server.specs.Delivery.{Delivery, answer_to, answers_after, arrivals, asked, history_after}
use Rattle.mq_server.specs.Life.{Exchange, deliveries, replies_of}
use Rattle.mq_connections.specs.Gained.{Callers}
use Rattle.mq_connections.specs.Sessions.{Outside, HaveServed, Placed, all_of, those_of}
use Rattle.mq_program.specs.AfterForgetting.{AnswersAsWhole, grown}

-- each answer is the one that was to be given in its place
answer_at : (f : List Delivery → Delivery → Reply) (earlier : List Delivery) (before after : List Exchange) (x : Exchange)
    → replies_of (before ++ x ∷ after) ≡ answers_after f earlier (deliveries (before ++ x ∷ after))
    → x.answer ≡ f (earlier ++ deliveries before) x.delivery
answer_at f earlier [] after x is = cc is ∙ ap (λ (q : List Delivery). f q x.delivery) (sym (append-nil earlier))
answer_at f earlier (y ∷ before) after x is =
    answer_at f (earlier ++ y.delivery ∷ []) before after x (cc is)
    ∙ ap (λ (q : List Delivery). f q x.delivery) (append_assoc earlier (y.delivery ∷ []) (deliveries before))

abbrev InRange : Exchange → Type 0
InRange x = IsRequest x.delivery.request

-- requests that are spelled are in range
spelled_in_range : (bodies : List (List ℕ)) (xs : List Exchange) → AllZip SpellsRequest bodies (asked (deliveries xs)) → AllByRecursion InRange xs
spelled_in_range bodies [] spelled = tt
spelled_in_range [] (x ∷ xs) spelled = absurd spelled
spelled_in_range (body ∷ bodies) (x ∷ xs) spelled = (spelled.0.in_range, spelled_in_range bodies xs spelled.1)

-- what holds of the exchanges of each connection holds of all
first_of : (is : Bool) (p : Placed) (ps : List Placed) → is ≡ true → AllByRecursion InRange (all_of (if is then p ∷ ps else ps)) → InRange p.exchange
first_of true p ps e all = all.0
first_of false p ps e all = absurd (cc e)

rest_of : (is : Bool) (p : Placed) (ps : List Placed) → AllByRecursion InRange (all_of (if is then p ∷ ps else ps)) → AllByRecursion InRange (all_of ps)
rest_of true p ps all = all.1
rest_of false p ps all = all

each_in_range : (ps : List Placed) → ((n : ℕ) → AllByRecursion InRange (those_of n ps)) → AllByRecursion InRange (all_of ps)
each_in_range [] each = tt
each_in_range (p ∷ ps) each = (
  first_of (eqb p.number p.number) p (filter (λ q. eqb q.number p.number) ps) (eq-eqb p.number p.number refl) (each p.number),
  each_in_range ps (λ n. rest_of (eqb p.number n) p (filter (λ q. eqb q.number n) ps) (each n)),
)

-- so it does of the first of them, and of those that the ledger took
front_in_range : (before after : List Exchange) → AllByRecursion InRange (before ++ after) → AllByRecursion InRange before
front_in_range [] after all = tt
front_in_range (x ∷ before) after all = (all.0, front_in_range before after all.1)

taken_first : (is : Bool) (d : Delivery) (ds : List Delivery) → IsRequest d.request → AllByRecursion IsRequest (asked ds) → AllByRecursion IsRequest (asked (if is then d ∷ ds else ds))
taken_first true d ds first all = (first, all)
taken_first false d ds first all = all

taken_in_range : (xs : List Exchange) → AllByRecursion InRange xs → AllByRecursion IsRequest (arrivals (deliveries xs))
taken_in_range [] all = tt
taken_in_range (x ∷ xs) all = taken_first x.delivery.taken x.delivery (filter (λ (d : Delivery). d.taken) (deliveries xs)) all.0 (taken_in_range xs all.1)

-- what the law of late requests says
abbrev pub AnswerAlike : Type 0
AnswerAlike = (day : ℕ → ℕ) (default D : ℕ) (H : List Entry) (A : List Request) (r : Request) →
    IsLegal day default H → All IsRequest A → AreLaterOrLate day default D H A →
    is_about day D (history_of day default (requests H ++ A)) r ≡ true →
    is_of_no_forgotten day D H (id_of r) ≡ true →
    reply day default (history_of day default (requests (remembered day D H) ++ A)) r
    ≡ reply day default (history_of day default (requests H ++ A)) r

-- what one more arrival does, and what a legal history is built of
abbrev pub OneMore : Type 0
OneMore = (day : ℕ → ℕ) (default : ℕ) (A : List Request) (r : Request) →
    history_of day default (A ++ r ∷ []) ≡ with_arrival day default (history_of day default A) r

abbrev pub Again : Type 0
Again = (day : ℕ → ℕ) (default : ℕ) (H : List Entry) → IsLegal day default H → history_of day default (requests H) ≡ H

abbrev pub Built : Type 0
Built = (day : ℕ → ℕ) (default : ℕ) (A : List Request) → All IsRequest A → IsLegal day default (history_of day default A)

module _ (alike : AnswerAlike) (one_more : OneMore) (again : Again) (built : Built) (zone : Zone) (default D : ℕ) (H : List Entry) (came : List Request)
    (legal : IsLegal (day_of zone) default H) (came_in_range : All IsRequest came) where
  abbrev build_of : List Request → List Entry
  build_of = history_of (day_of zone) default

  abbrev less : Book
  less = grown zone default (remembered (day_of zone) D H) came

  abbrev whole : Book
  whole = grown zone default H came

  -- arrivals that make one history make one with whatever comes after them
  more : (A B C : List Request) → build_of A ≡ build_of B → build_of (A ++ C) ≡ build_of (B ++ C)
  more A B [] same = ap build_of (append-nil A) ∙ same ∙ ap build_of (sym (append-nil B))
  more A B (r ∷ C) same =
      ap build_of (sym (append_assoc A (r ∷ []) C))
      ∙ more (A ++ r ∷ []) (B ++ r ∷ []) C (one_more (day_of zone) default A r ∙ ap (λ (G : List Entry). with_arrival (day_of zone) default G r) same ∙ sym (one_more (day_of zone) default B r))
      ∙ ap build_of (append_assoc B (r ∷ []) C)

  -- what comes after a history that was grown comes after all of it
  behind : (G : List Entry) (C : List Request) → IsLegal (day_of zone) default (build_of (requests G ++ came))
      → build_of (requests (build_of (requests G ++ came)) ++ C) ≡ build_of (requests G ++ (came ++ C))
  behind G C is =
      more (requests (build_of (requests G ++ came))) (requests G ++ came) C (again (day_of zone) default (build_of (requests G ++ came)) is)
      ∙ ap build_of (append_assoc (requests G) came C)

  whole_legal : IsLegal (day_of zone) default whole.history
  whole_legal = built (day_of zone) default (requests H ++ came) (All-append IsRequest (requests H) came (All-map IsRequest (λ (e : Entry). e.request) H legal.range) came_in_range)

  module _ (less_legal : IsLegal (day_of zone) default less.history) where
    answered_alike : (seen : List Delivery) (taken : Bool) (r : Request) → All IsRequest (arrivals seen)
        → AreLaterOrLate (day_of zone) default D H (came ++ arrivals seen)
        → is_about (day_of zone) D (history_after whole seen) r ≡ true
        → is_of_no_forgotten (day_of zone) D H (id_of r) ≡ true
        → answer_to less seen (record { request = r; taken = taken }) ≡ answer_to whole seen (record { request = r; taken = taken })
    answered_alike seen true r in_range late about number =
        let all = came ++ arrivals seen in
        let e = behind H (arrivals seen) whole_legal in
        ap (λ (G : List Entry). reply (day_of zone) default G r) (behind (remembered (day_of zone) D H) (arrivals seen) less_legal)
        ∙ alike (day_of zone) default D H all r legal (All-append IsRequest came (arrivals seen) came_in_range in_range) late
        (subst (λ (G : List Entry). is_about (day_of zone) D G r ≡ true) e about) number
        ∙ ap (λ (G : List Entry). reply (day_of zone) default G r) (sym e)
    answered_alike seen false r in_range late about number = refl

    pub answers_as_whole : {who : Callers} (old new : Outside) (failed : Option Request) → old.book ≡ less → (served : HaveServed who old new failed) → AnswersAsWhole zone default D H came (all_of served.placed)
    answers_as_whole old new failed book served before after x split late about number =
        let xs = all_of served.placed in
        let ranges : AllByRecursion InRange xs = each_in_range served.placed (λ n.
        let session = served.each n in
        let asks = session.lives.asks in
        subst (AllByRecursion InRange) session.placed (spelled_in_range asks.bodies session.life.exchanges asks.each)) in
        let before_in_range = front_in_range before (x ∷ after) (subst (AllByRecursion InRange) split ranges) in
        let replies : replies_of xs ≡ answers_after (answer_to less) [] (deliveries xs) =
        served.answered.replies ∙ ap (λ (b : Book). answers_after (answer_to b) [] (deliveries xs)) book in
        answer_at (answer_to less) [] before after x (subst (λ (ys : List Exchange). replies_of ys ≡ answers_after (answer_to less) [] (deliveries ys)) split replies)
        ∙ answered_alike (deliveries before) x.delivery.taken x.delivery.request (All-from_recursion IsRequest (arrivals (deliveries before)) (taken_in_range before before_in_range)) late about number
