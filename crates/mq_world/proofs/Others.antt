-- What others do is the same wherever one run stands.
use Rattle.mq_world.proofs.Words.{Bool, IsPlayed, List, Meaning, Some, Source, ap, arith, clash, either, false, fault, inl, inr, length, none_some, refl, request_frame, subst, suc, sym, true, ◌∙◌, ◌∷◌, ◌≡◌}
use Rattle.mq_world.specs.World.{Site, Run, World, IsUp, ReadsOn, after_line, after_end, next_request, with_on_way, after_exchange, after_stop, with_run, with_sent, put, same_source, Next, Reads, ReadsEnd, Sends, Ends, Takes, OthersSend, Stops}
use Rattle.mq_world.proofs.Worlds.{same_itself, source_is}

-- ---- runs in their places

-- the world with these runs, and all else as it was
abbrev with_runs : World → (Source → Run) → World
with_runs w runs = record { runs = runs; ledger = w.ledger; sent = w.sent; written = w.written }

put_twice : (s : Source) (r q : Run) (runs : Source → Run) (v : Source) → put s q (put s r runs) v ≡ put s q runs v
put_twice s r q runs v = elim (either (same_source s v)) [
  | inl same ↦ rw same refl
  | inr differs ↦ rw differs refl
]

pub twice : (w : World) (s : Source) (r q : Run) → with_run (with_run w s r) s q ≡ with_run w s q
twice w s r q = λ i. with_runs w (λ v. put_twice s r q w.runs v i)

put_itself : (w : World) (s : Source) (v : Source) → put s (w.runs s) w.runs v ≡ w.runs v
put_itself w s v = elim (either (same_source s v)) [
  | inl same ↦ rw same (ap w.runs (source_is s v same))
  | inr differs ↦ rw differs refl
]

-- a world has its runs in their places
pub itself : (w : World) (s : Source) (r : Run) → w.runs s ≡ r → with_run w s r ≡ w
itself w s r is = ap (with_run w s) (sym is) ∙ (λ i. with_runs w (λ v. put_itself w s v i))

put_swapped : (s u : Source) (r x : Run) (runs : Source → Run) → same_source s u ≡ false → (v : Source) → put u x (put s r runs) v ≡ put s r (put u x runs) v
put_swapped s u r x runs apart v = elim (either (same_source u v)) [
  | inl same ↦ (let other : same_source s v ≡ false = subst (λ y. same_source s y ≡ false) (source_is u v same) apart in rw (same, other) refl)
  | inr differs ↦ rw differs refl
]

swapped : (w : World) (s u : Source) (r x : Run) → same_source s u ≡ false → with_run (with_run w s r) u x ≡ with_run (with_run w u x) s r
swapped w s u r x apart = λ i. with_runs w (λ v. put_swapped s u r x w.runs apart v i)

-- ---- a step of others

-- another run stands as it did
stands : (w : World) (s u : Source) (r : Run) → same_source s u ≡ false → (with_run w s r).runs u ≡ w.runs u
stands w s u r apart = rw apart refl

-- a run is where it was put
pub placed : (w : World) (s : Source) (r : Run) → (with_run w s r).runs s ≡ r
placed w s r = rw (same_itself s) refl

-- a run that was moved stands elsewhere
moved : (w : World) (s u : Source) (x : Run) → same_source s u ≡ true → (with_run w u x).runs s ≡ w.runs s → x ≡ w.runs u
moved w s u x same is =
    let one : s ≡ u = source_is s u same in
    let there : (with_run w u x).runs u ≡ w.runs u = subst (λ y. (with_run w u x).runs y ≡ w.runs y) one is in
    subst (λ (y : Run). y ≡ w.runs u) (placed w u x) there

is_up : (site : Site) (w : World) (s u : Source) (r : Run) → same_source s u ≡ false → IsUp site w u → IsUp site (with_run w s r) u
is_up site w s u r apart up = record { is_run = up.is_run; is_up = ap (λ (x : Run). x.is_stopped) (stands w s u r apart) ∙ up.is_up }

reads_on : (site : Site) (w : World) (s u : Source) (r : Run) → same_source s u ≡ false → ReadsOn site w u → ReadsOn site (with_run w s r) u
reads_on site w s u r apart on = record {
  up = is_up site w s u r apart on.up;
  before_end = ap (λ (x : Run). x.is_at_end) (stands w s u r apart) ∙ on.before_end;
  none_on_way = ap (λ (x : Run). x.on_way) (stands w s u r apart) ∙ on.none_on_way;
  played = subst (λ (x : Run). IsPlayed u (site.tries u) x.past) (sym (stands w s u r apart)) on.played;
}

-- where another run comes to from where it stands
comes_to : (site : Site) (w : World) (s u : Source) (r : Run) (f : Run → Run) → same_source s u ≡ false
    → Next site (with_run w s r) (with_run (with_run w s r) u (f ((with_run w s r).runs u))) → Next site (with_run w s r) (with_run (with_run w u (f (w.runs u))) s r)
comes_to site w s u r f apart n =
    subst (Next site (with_run w s r)) (ap (λ x. with_run (with_run w s r) u (f x)) (stands w s u r apart) ∙ swapped w s u r (f (w.runs u)) apart) n

longer : {A : Type 0} (x : A) (l : List A) → x ∷ l ≡ l → ⊥
longer x l e = let more : suc (length l) ≡ length l = ap length e in absurd (omega (arith, more))

not_there : (line : Meaning) (quiet : Bool) (r : Run) → after_line quiet line r ≡ r → ⊥
not_there line quiet r e = longer line r.lines (ap (λ (x : Run). x.lines) e)

-- a run that was moved, while this one stands as it did, is another
elsewhere : {T : Type 0} → (w : World) (s u : Source) (x : Run) → (with_run w u x).runs s ≡ w.runs s → (x ≡ w.runs u → ⊥) → (same_source s u ≡ false → T) → T
elsewhere w s u x is moves other = elim (either (same_source s u)) [ inl same ↦ absurd (moves (moved w s u x same is)) | inr apart ↦ other apart ]

-- a step that leaves the run as it is, is one wherever the run stands
pub anywhere : (site : Site) (w later : World) (s : Source) (r : Run) → Next site w later → later.runs s ≡ w.runs s → Next site (with_run w s r) (with_run later s r)
anywhere site w later s r (Reads u line quiet on ok) is = elsewhere w s u (after_line quiet line (w.runs u)) is (λ e. not_there line quiet (w.runs u) e)
    (λ apart. comes_to site w s u r (after_line quiet line) apart (Reads u line quiet (reads_on site w s u r apart on) (ap (λ (x : Run). fault x.lines line) (stands w s u r apart) ∙ ok)))
anywhere site w later s r (ReadsEnd u on) is = elsewhere w s u (after_end (w.runs u)) is (λ e. clash (w.runs u).is_at_end (sym (ap (λ (x : Run). x.is_at_end) e)) on.before_end)
    (λ apart. comes_to site w s u r after_end apart (ReadsEnd u (reads_on site w s u r apart on)))
anywhere site w later s r (Sends u q up none asks) is = elsewhere w s u (with_on_way (Some q) (w.runs u)) is (λ e. none_some q (sym none ∙ sym (ap (λ (x : Run). x.on_way) e)))
    (λ apart. (let at : (with_run w s r).runs u ≡ w.runs u = stands w s u r apart in
    subst (λ v. Next site (with_run w s r) (with_sent v (request_frame q)))
    (ap (λ x. with_run (with_run w s r) u (with_on_way (Some q) x)) at ∙ swapped w s u r (with_on_way (Some q) (w.runs u)) apart)
    (Sends u q (is_up site w s u r apart up) (ap (λ (x : Run). x.on_way) at ∙ none) (ap (λ (x : Run). next_request u (site.tries u) x.past) at ∙ asks))))
anywhere site w later s r (Ends u x up on_way may decision) is = elsewhere w s u (after_exchange x (w.runs u)) is (λ e. none_some x.request (ap (λ (y : Run). y.on_way) e ∙ on_way))
    (λ apart. comes_to site w s u r (after_exchange x) apart (Ends u x (is_up site w s u r apart up) (ap (λ (y : Run). y.on_way) (stands w s u r apart) ∙ on_way) may decision))
anywhere site w later s r (Takes which body q there spells) is = Takes which body q there spells
anywhere site w later s r (OthersSend bytes others) is = OthersSend bytes others
anywhere site w later s r (Stops u up) is = elsewhere w s u (after_stop (w.runs u)) is (λ e. clash (w.runs u).is_stopped (sym (ap (λ (x : Run). x.is_stopped) e)) up.is_up)
    (λ apart. comes_to site w s u r after_stop apart (Stops u (is_up site w s u r apart up)))
