use Rattle.mq_ledger.proofs.Words.{Book, Entry, List, None, Option, Some, answer, ap, day_of, false, id_of, inl, inr, is_some, known_by, option_cases, option_copied, refl, sym, true, with_arrival, ◌∙◌, ◌≡◌}
use Rattle.std.specs.Borrow.{Bor}
use Rattle.mq_ledger.proofs.Books.{arrival_of_known, arrival_unnumbered, book_arrival, book_reply, book_history, book_appended, book_fresh_reply}
use Rattle.mq_ledger.proofs.plain.PlainLedgerLedger.apply.Goals.{then-is_some+in_ok-append, else-is_some}
use Rattle.mq_ledger.proofs.plain.PlainLedgerLedger.apply.Goals as goal

pub returns-in-Some-clause-in_range : goal.returns-in-Some-clause-in_range
returns-in-Some-clause-in_range c =
    let told = rw (c.in-Some.is, c.deref.ensures.value) at c.in_ok-reply.ensures in
    book_reply _ c.args.request.now c.in-Some.reply c.self.invariant c.requires (told.1 (day_of c.self.inside.zone) c.self.inside.default)

pub returns-in-Some-clause-history : goal.returns-in-Some-clause-history
returns-in-Some-clause-history c =
    let told = rw (c.in-Some.is, c.deref.ensures.value) at c.in_ok-reply.ensures in
    rw (← c.self.view_is) (book_history _ c.args.request.now _ c.self.invariant (sym (arrival_of_known (day_of c.self.inside.zone) c.self.inside.default c.self.inside.entries.items c.args.request.now (id_of c.args.request.now) told.0)))

copied_some : {X : Type 0} (o : Option (Bor X)) → is_some (option_copied o) ≡ is_some o
copied_some None = refl
copied_some (Some b) = refl

pub invariant_of-self : goal.invariant_of-self
invariant_of-self c = elim (option_cases c.in_ok-reply.field-0) [
  | inr p ↦ absurd (c.in_default.not-Some p.0 p.1)
  | inl none ↦ (let b : Book = record { zone = c.self.inside.zone; default = c.self.inside.default; history = c.self.inside.entries.items } in
      let r = c.args.request.now in
      let fresh : known_by b.history (id_of r) ≡ false = rw (none, c.deref.ensures.value) at c.in_ok-reply.ensures in
      let numbered : is_some (id_of r) ≡ true = ap is_some (sym c.id_of.ensures) ∙ copied_some c.id_of.result ∙ sym c.if-is_some.ensures in
      let is : c.in_ok-reply-2.reply ≡ answer (day_of b.zone) b.default b.history r = rw (← c.self.view_is) at c.in_ok-reply-2.ensures in
      book_arrival b (record { zone = b.zone; default = b.default; history = c.append.new.entries.items }) r c.self.invariant c.requires refl refl
      (c.in_ok-append.ensures.ok ∙ book_appended b r c.in_ok-reply-2.reply fresh numbered is))
]

pub returns-clause-in_range : goal.returns-clause-in_range
returns-clause-in_range c = elim (option_cases c.in_ok-reply.field-0) [
  | inr p ↦ absurd (c.in_default.not-Some p.0 p.1)
  | inl none ↦ (let b : Book = record { zone = c.self.inside.zone; default = c.self.inside.default; history = c.self.inside.entries.items } in
      let r = c.args.request.now in
      let fresh : known_by b.history (id_of r) ≡ false = rw (none, c.deref.ensures.value) at c.in_ok-reply.ensures in
      let is : c.in_ok-reply-2.reply ≡ answer (day_of b.zone) b.default b.history r = rw (← c.self.view_is) at c.in_ok-reply-2.ensures in
      book_reply b r c.in_ok-reply-2.reply c.self.invariant c.requires (book_fresh_reply b r c.in_ok-reply-2.reply fresh is))
]

-- the book at the end is the one at the beginning with the arrival
after : (c : goal.Joined-is_some) → c.if-is_some.self ≡ record { zone = c.self.inside.zone; default = c.self.inside.default; history = with_arrival (day_of c.self.inside.zone) c.self.inside.default c.self.inside.entries.items c.args.request.now }
after c = elim (option_cases c.in_ok-reply.field-0) [
  | inr p ↦ absurd (c.in_default.not-Some p.0 p.1)
  | inl none ↦ (let b : Book = record { zone = c.self.inside.zone; default = c.self.inside.default; history = c.self.inside.entries.items } in
      let r = c.args.request.now in
      let fresh : known_by b.history (id_of r) ≡ false = rw (none, c.deref.ensures.value) at c.in_ok-reply.ensures in
      let is : c.in_ok-reply-2.reply ≡ answer (day_of b.zone) b.default b.history r = rw (← c.self.view_is) at c.in_ok-reply-2.ensures in
      let with_history : List Entry → Book = λ H. record { zone = b.zone; default = b.default; history = H } in
      elim c.if-is_some.branch [
        | then-is_some+in_ok-append w ↦ (let numbered : is_some (id_of r) ≡ true = ap is_some (sym c.id_of.ensures) ∙ copied_some c.id_of.result ∙ sym w.if-is_some.ensures in
            w.self-is ∙ ap with_history (w.in_ok-append.ensures.ok ∙ book_appended b r c.in_ok-reply-2.reply fresh numbered is))
        | else-is_some w ↦ (let unnumbered : is_some (id_of r) ≡ false = ap is_some (sym c.id_of.ensures) ∙ copied_some c.id_of.result ∙ sym w.if-is_some.ensures in
            w.self-is ∙ sym c.self.view_is ∙ ap with_history (sym (arrival_unnumbered (day_of b.zone) b.default b.history r (id_of r) unnumbered)))
      ])
]

pub returns-clause-history : goal.returns-clause-history
returns-clause-history c =
    rw (← c.self.view_is) (book_history _ c.args.request.now _ c.self.invariant (ap (λ (b : Book). b.history) (after c)))

pub returns-clause-sound : goal.returns-clause-sound
returns-clause-sound c =
    let b : Book = record { zone = c.self.inside.zone; default = c.self.inside.default; history = c.self.inside.entries.items } in
    book_arrival b c.if-is_some.self c.args.request.now c.self.invariant c.requires (ap (λ (x : Book). x.zone) (after c)) (ap (λ (x : Book). x.default) (after c)) (ap (λ (x : Book). x.history) (after c))
