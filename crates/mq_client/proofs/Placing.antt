-- The place where a run comes to its end follows from its whole input.
use Rattle.std.proofs.Common.{◌≡◌, ℕ, ◌<◌, if◌then◌else◌, true, false, List, [], ◌∷◌, ◌++◌, length, refl, sym, ap, ◌∙◌, subst, append_assoc, length-append, arith, Option, None, Some}
use Rattle.mq_client.proofs.Words.{le-leb, lt-leb, nat_le, AfterReady, AllByRecursion, AreRead, BeforeReady, ConfigLine, FilterFault, FilterLine, Filters, HasText, Holding, IsEarly, IsLine, IsReady, IsTooLong, Meaning, OtherLine, Reaches, Reads, ReadyLine, Spans, Stage, Step, Takes, TrackFault, at_line, fault, is_early, is_stamped, none_some, some_is, track_fault, true_false, ◌≢◌, same_from_push}
use Rattle.mq_line.specs.declared.fault.LineFault.{LineFault}
use Rattle.mq_client.specs.declared.fault.FilterFault.TheVariants as faults
use Rattle.mq_line.specs.Text.{max_line}
use Rattle.mq_lemmas.proofs.Lists.{by_pushes, all_split}
use Rattle.mq_client.proofs.Sameness.{early_apart, same_after, same_read, same_lines}
use Rattle.mq_client.proofs.Basics.{nil_cons, cons_head, cons_tail}

-- a line has one meaning, and none where it has a fault
pub record Grammar : Type 0 where
  pub unique : (line : List ℕ) (m n : Meaning) → Reads line m → Reads line n → m ≡ n
  pub no_fault : (line : List ℕ) (m : Meaning) → Reads line m → fault line ≡ None

-- ---- how a run ends that no device and no lack of memory ends

-- at the line in front
pub data Front (stage : Stage) (line : List ℕ) (o : Option FilterFault) : Type 0 where
  Unread : (f : LineFault) → fault line ≡ Some f → o ≡ Some (faults.Line f) → Front stage line o
  Untracked : (m : Meaning) (L : List Meaning) (f : TrackFault) → stage ≡ AfterReady L → Reads line m → track_fault L m ≡ Some f → o ≡ Some (faults.Track f) → Front stage line o
  TooEarly : (m : Meaning) → stage ≡ BeforeReady → Reads line m → is_stamped m ≡ true → o ≡ Some faults.NotReady → Front stage line o

-- after the last line
pub data End (stage : Stage) (last : List ℕ) (o : Option FilterFault) : Type 0 where
  NeverReady : stage ≡ BeforeReady → last ≡ [] → o ≡ Some faults.EndedEarly → End stage last o
  Over : (L : List Meaning) → stage ≡ AfterReady L → last ≡ [] → o ≡ None → End stage last o
  InLine : last ≢ [] → IsLine last → o ≡ Some faults.CutLine → End stage last o
  Long : IsTooLong last → o ≡ Some faults.TooLong → End stage last o

pub data Fate (stage : Stage) (next : List (List ℕ)) (last : List ℕ) (o : Option FilterFault) : Type 0 where
  AtLine : (line : List ℕ) (more : List (List ℕ)) → next ≡ line ∷ more → Front stage line o → Fate stage next last o
  AtEnd : next ≡ [] → End stage last o → Fate stage next last o

apart_stages : (stage : Stage) (L : List Meaning) → stage ≡ BeforeReady → stage ≡ AfterReady L → ⊥
apart_stages stage L e f = cc

read_no_fault : (G : Grammar) (line : List ℕ) (m : Meaning) (f : LineFault) → Reads line m → fault line ≡ Some f → ⊥
read_no_fault G line m f r e = none_some f (sym (G.no_fault line m r) ∙ e)

front_apart : (G : Grammar) (stage : Stage) (line : List ℕ) (L : List Meaning) (m n : Meaning) (f g : TrackFault) → stage ≡ AfterReady L → track_fault L m ≡ Some f → Reads line m
    → (M : List Meaning) → stage ≡ AfterReady M → track_fault M n ≡ Some g → Reads line n → f ≡ g
front_apart G stage line L m n f g s e r M s' e' r' =
    let same_past : L ≡ M = cc in
    let same : m ≡ n = G.unique line m n r r' in
    some_is f g (sym e ∙ ap (λ l. track_fault l m) same_past ∙ ap (track_fault M) same ∙ e')

same_front : (G : Grammar) (stage : Stage) (line : List ℕ) (a b : Option FilterFault) → Front stage line a → Front stage line b → a ≡ b
same_front G stage line a b (Unread f e i) (Unread g e' i') = i ∙ ap (λ x. Some (faults.Line x)) (some_is f g (sym e ∙ e')) ∙ sym i'
same_front G stage line a b (Unread f e i) (Untracked m L g s r e' i') = absurd (read_no_fault G line m f r e)
same_front G stage line a b (Unread f e i) (TooEarly m s r p i') = absurd (read_no_fault G line m f r e)
same_front G stage line a b (Untracked m L f s r e i) (Unread g e' i') = absurd (read_no_fault G line m g r e')
same_front G stage line a b (Untracked m L f s r e i) (Untracked n M g s' r' e' i') = i ∙ ap (λ x. Some (faults.Track x)) (front_apart G stage line L m n f g s e r M s' e' r') ∙ sym i'
same_front G stage line a b (Untracked m L f s r e i) (TooEarly n s' r' p i') = absurd (apart_stages stage L s' s)
same_front G stage line a b (TooEarly m s r p i) (Unread g e' i') = absurd (read_no_fault G line m g r e')
same_front G stage line a b (TooEarly m s r p i) (Untracked n M g s' r' e' i') = absurd (apart_stages stage M s s')
same_front G stage line a b (TooEarly m s r p i) (TooEarly n s' r' p' i') = i ∙ sym i'

too_long : (last : List ℕ) → IsTooLong last → max_line < length last
too_long last long = omega (arith, ap length long.whole ∙ length-append long.front long.rest, long.long)

-- how a run ends after its last line
abbrev ending : Stage → List ℕ → Option FilterFault
ending BeforeReady [] = Some faults.EndedEarly
ending (AfterReady L) [] = None
ending stage (x ∷ last) = if nat_le (length (x ∷ last)) max_line then Some faults.CutLine else Some faults.TooLong

end_is : (stage : Stage) (last : List ℕ) (o : Option FilterFault) → End stage last o → o ≡ ending stage last
end_is stage last o (NeverReady s e i) = rw (s, e) i
end_is stage last o (Over L s e i) = rw (s, e) i
end_is stage [] o (InLine e l i) = absurd (e refl)
end_is stage (x ∷ last) o (InLine e l i) = rw (le-leb (length (x ∷ last)) max_line l.short) i
end_is stage [] o (Long l i) = absurd (omega (arith, too_long [] l))
end_is stage (x ∷ last) o (Long l i) = rw (lt-leb (length (x ∷ last)) max_line (too_long (x ∷ last) l)) i

same_end : (stage : Stage) (last : List ℕ) (a b : Option FilterFault) → End stage last a → End stage last b → a ≡ b
same_end stage last a b h i = end_is stage last a h ∙ sym (end_is stage last b i)

same_fate : (G : Grammar) (stage : Stage) (next : List (List ℕ)) (last : List ℕ) (a b : Option FilterFault) → Fate stage next last a → Fate stage next last b → a ≡ b
same_fate G stage next last a b (AtLine line more e f) (AtLine line' more' e' f') =
    same_front G stage line' a b (subst (λ (l : List ℕ). Front stage l a) (cons_head line line' more more' (sym e ∙ e')) f) f'
same_fate G stage next last a b (AtLine line more e f) (AtEnd e' f') = absurd (nil_cons line more (sym e' ∙ e))
same_fate G stage next last a b (AtEnd e f) (AtLine line' more' e' f') = absurd (nil_cons line' more' (sym e ∙ e'))
same_fate G stage next last a b (AtEnd e f) (AtEnd e' f') = same_end stage last a b f f'

-- ---- a line that was passed

data Passed (stage : Stage) (line : List ℕ) : Type 0 where
  Early : (m : Meaning) → stage ≡ BeforeReady → Reads line m → is_stamped m ≡ false → Passed stage line
  Taken : (L : List Meaning) (m : Meaning) → stage ≡ AfterReady L → Reads line m → track_fault L m ≡ None → Passed stage line

passed_on : (G : Grammar) (stage : Stage) (line : List ℕ) (o : Option FilterFault) → Front stage line o → Passed stage line → ⊥
passed_on G stage line o (Unread f e i) (Early m s r p) = read_no_fault G line m f r e
passed_on G stage line o (Unread f e i) (Taken L m s r p) = read_no_fault G line m f r e
passed_on G stage line o (Untracked m L f s r e i) (Early n s' r' p) = apart_stages stage L s' s
passed_on G stage line o (Untracked m L f s r e i) (Taken M n s' r' p) =
    let same_past : L ≡ M = cc in
    let same : m ≡ n = G.unique line m n r r' in
    none_some f (sym p ∙ sym (ap (track_fault M) same) ∙ sym (ap (λ l. track_fault l m) same_past) ∙ e)
passed_on G stage line o (TooEarly m s r p i) (Early n s' r' p') = true_false (sym p ∙ ap is_stamped (G.unique line m n r r') ∙ p')
passed_on G stage line o (TooEarly m s r p i) (Taken M n s' r' p') = apart_stages stage M s s'

early_plain : (m : Meaning) → is_early m ≡ true → is_stamped m ≡ false
early_plain (ConfigLine key value) e = refl
early_plain OtherLine e = refl
early_plain m e = absurd (true_false (sym e))

takes_sound : (h : Holding) (L : List Meaning) (m : Meaning) (step : Option Step) (text : List ℕ) → Takes h L m step text → track_fault L m ≡ None
takes_sound k L (FilterLine seconds subsystem phase session token rest) step text t = refl
takes_sound k L m step text t = t.0

-- the line after early ones is early, or it is the first `config|ready`
early_or_ready : (G : Grammar) (before ls : List (List ℕ)) (r y : List ℕ) (after d : List (List ℕ)) → AllByRecursion IsEarly before → AllByRecursion IsEarly ls → Reads r ReadyLine → ls ++ y ∷ d ≡ before ++ r ∷ after → Passed BeforeReady y
early_or_ready G [] [] r y after d hb hl hr e =
    Early ReadyLine refl (subst (λ (l : List ℕ). Reads l ReadyLine) (sym (cons_head y r d after e)) hr) refl
early_or_ready G [] (x ∷ ls) r y after d hb hl hr e =
    absurd (early_apart G.unique x hl.0 (subst (λ (l : List ℕ). Reads l ReadyLine) (sym (cons_head x r (ls ++ y ∷ d) after e)) hr))
early_or_ready G (b ∷ before) [] r y after d hb hl hr e =
    let (m, reads, early) = subst IsEarly (sym (cons_head y b d (before ++ r ∷ after) e)) hb.0 in
    Early m refl reads (early_plain m early)
early_or_ready G (b ∷ before) (x ∷ ls) r y after d hb hl hr e = early_or_ready G before ls r y after d hb.1 hl.1 hr (cons_tail x b (ls ++ y ∷ d) (before ++ r ∷ after) e)

ready_not_early : (G : Grammar) (ls : List (List ℕ)) (L : List Meaning) → IsReady ls L → AllByRecursion IsEarly ls → ⊥
ready_not_early G ls L h all =
    early_apart G.unique h.ready ((all_split IsEarly h.before (h.ready ∷ h.after) (subst (AllByRecursion IsEarly) h.whole all)).1.0) h.reads_ready

-- the line was taken after what those before it say
abbrev IsTaken : List Meaning → List ℕ → Type 0
IsTaken L y = (m : Meaning) × Reads y m × (track_fault L m ≡ None)

-- a line after others that were read was taken after what those say
taken_at : (spans : Spans) (k : Holding) (G : Grammar) (xs d : List (List ℕ)) (y : List ℕ) (L M : List Meaning) (steps : List Step) (text : List ℕ) → AreRead xs L → AreRead (xs ++ y ∷ d) M → Filters spans M steps text k → IsTaken L y
taken_at spans k G xs d y L [] steps text h i f = absurd (no_lines xs i)
  where
    no_lines : (l : List (List ℕ)) → l ++ y ∷ d ≡ [] → ⊥
    no_lines [] e = nil_cons y d (sym e)
    no_lines (x ∷ l) e = nil_cons x (l ++ y ∷ d) (sym e)
taken_at spans k G xs d y L (m ∷ M) steps text h (before, line, whole, reads, rest) (step, b, written, next, held, filters, takes, e, g, more) = by_pushes (λ l. xs ++ y ∷ l ≡ before ++ line ∷ [] → IsTaken L y) last (earlier (λ front read. taken_at spans held G xs front y L M b written h read filters)) d whole
  where
    last : xs ++ y ∷ [] ≡ before ++ line ∷ [] → IsTaken L y
    last whole =
        let (same, same_line) = same_from_push xs before y line whole in
        let past : M ≡ L = same_read G.unique before xs M L (sym same) rest h in
        (m, subst (λ (l : List ℕ). Reads l m) (sym same_line) reads, ap (λ l. track_fault l m) (sym past) ∙ takes_sound (at_line spans m held) M m step next takes)

    earlier : ((front : List (List ℕ)) → AreRead (xs ++ y ∷ front) M → IsTaken L y) → (front : List (List ℕ)) (z : List ℕ) → (xs ++ y ∷ front ≡ before ++ line ∷ [] → IsTaken L y) → xs ++ y ∷ (front ++ z ∷ []) ≡ before ++ line ∷ [] → IsTaken L y
    earlier again front z _ whole =
        let (same, same_line) = same_from_push (xs ++ y ∷ front) before z line (append_assoc xs (y ∷ front) (z ∷ []) ∙ whole) in
        again front (subst (λ (l : List (List ℕ)). AreRead l M) (sym same) rest)

passes : (spans : Spans) (k : Holding) (G : Grammar) (ls : List (List ℕ)) (y : List ℕ) (d : List (List ℕ)) (stage stage' : Stage) (steps : List Step) (text : List ℕ) → Reaches ls stage → Reaches (ls ++ y ∷ d) stage' → HasText spans stage' steps text k → Passed stage y
passes spans k G ls y d BeforeReady BeforeReady steps text h i t =
    let (m, reads, early) = (all_split IsEarly ls (y ∷ d) i).1.0 in
    Early m refl reads (early_plain m early)
passes spans k G ls y d BeforeReady (AfterReady M) steps text h i t = early_or_ready G i.before ls i.ready y i.after d i.early h i.reads_ready i.whole
passes spans k G ls y d (AfterReady L) BeforeReady steps text h i t = absurd (ready_not_early G ls L h (all_split IsEarly ls (y ∷ d) i).0)
passes spans k G ls y d (AfterReady L) (AfterReady M) steps text h i (results, filters, whole) =
    let longer = ap (λ l. l ++ y ∷ d) h.whole ∙ append_assoc h.before (h.ready ∷ h.after) (y ∷ d) in
    let after : h.after ++ y ∷ d ≡ i.after = same_after G.unique h.before i.before h.ready i.ready (h.after ++ y ∷ d) i.after h.early i.early h.reads_ready i.reads_ready (sym longer ∙ i.whole) in
    let (m, reads, none) = taken_at spans k G h.after d y L M steps results h.read (subst (λ (l : List (List ℕ)). AreRead l M) (sym after) i.read) filters in
    Taken L m refl reads none

-- ---- two runs

data Compared (ls next ms next' : List (List ℕ)) : Type 0 where
  Equal : ls ≡ ms → next ≡ next' → Compared ls next ms next'
  Further : (y : List ℕ) (d : List (List ℕ)) → ms ≡ ls ++ y ∷ d → next ≡ y ∷ (d ++ next') → Compared ls next ms next'
  Shorter : (y : List ℕ) (d : List (List ℕ)) → ls ≡ ms ++ y ∷ d → next' ≡ y ∷ (d ++ next) → Compared ls next ms next'

compare : (ls next ms next' : List (List ℕ)) → ls ++ next ≡ ms ++ next' → Compared ls next ms next'
compare [] next [] next' e = Equal refl e
compare [] next (y ∷ ms) next' e = Further y ms refl e
compare (x ∷ ls) next [] next' e = Shorter x ls refl (sym e)
compare (x ∷ ls) next (y ∷ ms) next' e = one_more (cons_head x y (ls ++ next) (ms ++ next') e) (compare ls next ms next' (cons_tail x y (ls ++ next) (ms ++ next') e))
  where
    one_more : x ≡ y → Compared ls next ms next' → Compared (x ∷ ls) next (y ∷ ms) next'
    one_more h (Equal f g) = Equal (ap (λ z. z ∷ ls) h ∙ ap (λ l. y ∷ l) f) g
    one_more h (Further z d f g) = Further z d (ap (λ l. y ∷ l) f ∙ ap (λ w. w ∷ (ls ++ z ∷ d)) (sym h)) g
    one_more h (Shorter z d f g) = Shorter z d (ap (λ w. w ∷ ls) h ∙ ap (λ l. y ∷ l) f) g

same_stage : (G : Grammar) (ls : List (List ℕ)) (stage stage' : Stage) → Reaches ls stage → Reaches ls stage' → stage ≡ stage'
same_stage G ls BeforeReady BeforeReady h i = refl
same_stage G ls BeforeReady (AfterReady M) h i = absurd (ready_not_early G ls M i h)
same_stage G ls (AfterReady L) BeforeReady h i = absurd (ready_not_early G ls L h i)
same_stage G ls (AfterReady L) (AfterReady M) h i = ap AfterReady (same_lines G.unique ls ls L M refl h i)

-- no run ends at a line that another one passed
not_passed : (spans : Spans) (k : Holding) (G : Grammar) (ls ms next more : List (List ℕ)) (y : List ℕ) (d : List (List ℕ)) (last : List ℕ) (stage stage' : Stage) (steps : List Step) (text : List ℕ) (o : Option FilterFault)
    → Reaches ls stage → Reaches ms stage' → HasText spans stage' steps text k → ms ≡ ls ++ y ∷ d → next ≡ y ∷ more → Fate stage next last o → ⊥
not_passed spans k G ls ms next more y d last stage stage' steps text o h i t e n (AtEnd none end) = nil_cons y more (sym none ∙ n)
not_passed spans k G ls ms next more y d last stage stage' steps text o h i t e n (AtLine line others same front) =
    let passed : Passed stage y = passes spans k G ls y d stage stage' steps text h (subst (λ (l : List (List ℕ)). Reaches l stage') e i) t in
    passed_on G stage y o (subst (λ (l : List ℕ). Front stage l o) (cons_head line y others more (sym same ∙ n)) front) passed

-- two runs over the same lines come to the same place, and end there alike
pub same_place : (spans spans' : Spans) (k k' : Holding) (G : Grammar) (ls ms next next' : List (List ℕ)) (last : List ℕ) (stage stage' : Stage) (steps steps' : List Step) (text text' : List ℕ) (a b : Option FilterFault)
    → ls ++ next ≡ ms ++ next' → Reaches ls stage → HasText spans stage steps text k → Reaches ms stage' → HasText spans' stage' steps' text' k' → Fate stage next last a → Fate stage' next' last b
    → (ls ≡ ms) × (stage ≡ stage') × (a ≡ b)
same_place spans spans' k k' G ls ms next next' last stage stage' steps steps' text text' a b e h t i t' f g = by_place (compare ls next ms next' e)
  where
    by_place : Compared ls next ms next' → (ls ≡ ms) × (stage ≡ stage') × (a ≡ b)
    by_place (Further y d more rest) = absurd (not_passed spans' k' G ls ms next (d ++ next') y d last stage stage' steps' text' a h i t' more rest f)
    by_place (Shorter y d more rest) = absurd (not_passed spans k G ms ls next' (d ++ next) y d last stage' stage steps text b i h t more rest g)
    by_place (Equal same rest) =
        let stages : stage ≡ stage' = same_stage G ls stage stage' h (subst (λ (l : List (List ℕ)). Reaches l stage') (sym same) i) in
        (same, stages, same_fate G stage' next' last a b (subst (λ (s : Stage). Fate s next' last a) stages (subst (λ (l : List (List ℕ)). Fate stage l last a) rest f)) g)
