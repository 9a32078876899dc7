-- An open transaction stays open, or the line closes it.
use Rattle.std.proofs.Common.{◌≡◌, ℕ, List, ◌∷◌, Bool, true, false, refl, ap, ◌∙◌, inl, inr}
use Rattle.std.specs.Prelude.{◌⊎◌, Option, None, Some, if◌then◌else◌}
use Rattle.std.specs.Option.{option_and_then}
use Rattle.std.specs.Str.{bytes_eq}
use Rattle.std.specs.Cmp.Lexicographic.{bytes_decides}
use Rattle.mq_line.specs.Grammar.{Meaning}
use Rattle.mq_track.specs.Events.{Event, Passed, Began, Ended, Left, Nothing, event}
use Rattle.mq_track.specs.Sessions.{Transaction, is_named, open_transaction, begin_count, session_of, closing_of}
use Rattle.mq_track.specs.Steps.{left_open}
use Rattle.mq_track.specs.Laws.{NoneVanishes}
use Rattle.mq_track.specs.declared.closing.Closing.{Closing}
use Rattle.mq_track.specs.declared.closing.CloseEnd.{CloseEnd}
use Rattle.mq_track.specs.declared.closing.CloseEnd.TheVariants.{Rollback}
use Rattle.mq_track.proofs.Lookback.{open_after, open-more}
use Rattle.mq_track.proofs.Moves.{same_bytes}

-- the closing that an event of the session u brings
abbrev brought_in : List Meaning → Event → List ℕ → Option Closing
brought_in past e u = option_and_then (closing_of u e) (open_transaction past u)

abbrev Closes : Option Closing → Transaction → Type 0
Closes c t = (end : CloseEnd) × (c ≡ Some (record { txn = t.txn; end = end }))

at_u : (past : List Meaning) (u s : List ℕ) (t : Transaction) → u ≡ s → open_transaction past s ≡ Some t → open_transaction past u ≡ Some t
at_u past u s t same is = rw same is

by_begin : (b : Bool) (past : List Meaning) (u message s : List ℕ) (moment n : ℕ) (t : Transaction) → (b ≡ true → u ≡ s) → open_transaction past s ≡ Some t
    → ((if b then Some (record { txn = n; message = message; moment = moment }) else Some t) ≡ Some t) ⊎ Closes (brought_in past (Began u message moment) u) t
by_begin true past u message s moment n t same is = inr (Rollback, rw (at_u past u s t (same refl) is, same_bytes u) refl)
by_begin false past u message s moment n t same is = inl refl

by_leaving : (b : Bool) (past : List Meaning) (u s : List ℕ) (t : Transaction) → (b ≡ true → u ≡ s) → open_transaction past s ≡ Some t
    → ((if b then None else Some t) ≡ Some t) ⊎ Closes (brought_in past (Left u) u) t
by_leaving true past u s t same is = inr (Rollback, rw (at_u past u s t (same refl) is, same_bytes u) refl)
by_leaving false past u s t same is = inl refl

by_name : (named : Bool) (past : List Meaning) (u s : List ℕ) (message : Option (List ℕ)) (end : CloseEnd) (t : Transaction) → u ≡ s → is_named message t.message ≡ named → open_transaction past s ≡ Some t
    → (option_and_then (left_open message) (Some t) ≡ Some t) ⊎ Closes (brought_in past (Ended u message end) u) t
by_name true past u s message end t same is_named is = inr (end, rw (at_u past u s t same is, same_bytes u, is_named) refl)
by_name false past u s message end t same is_named is = inl (rw is_named refl)

by_end : (b : Bool) (past : List Meaning) (u s : List ℕ) (message : Option (List ℕ)) (end : CloseEnd) (t : Transaction) → (b ≡ true → u ≡ s) → open_transaction past s ≡ Some t
    → ((if b then option_and_then (left_open message) (Some t) else Some t) ≡ Some t) ⊎ Closes (brought_in past (Ended u message end) u) t
by_end true past u s message end t same is = by_name (is_named message t.message) past u s message end t (same refl) refl is
by_end false past u s message end t same is = inl refl

by_event : (e : Event) (n : ℕ) (past : List Meaning) (s : List ℕ) (t : Transaction) → open_transaction past s ≡ Some t
    → (open_after s n e (Some t) ≡ Some t) ⊎ Closes (option_and_then (brought_in past e) (session_of e)) t
by_event (Passed u login) n past s t is = inl refl
by_event (Began u message moment) n past s t is = by_begin (bytes_eq u s) past u message s moment n t (bytes_decides u s).0 is
by_event (Ended u message end) n past s t is = by_end (bytes_eq u s) past u s message end t (bytes_decides u s).0 is
by_event (Left u) n past s t is = by_leaving (bytes_eq u s) past u s t (bytes_decides u s).0 is
by_event Nothing n past s t is = inl refl

pub none_vanishes : NoneVanishes
none_vanishes past line s t is =
    elim (by_event (event line) (begin_count (line ∷ past)) past s t is) [
      | inl stays ↦ inl (open-more line past s ∙ ap (open_after s (begin_count (line ∷ past)) (event line)) is ∙ stays)
      | inr brings ↦ inr brings
    ]
