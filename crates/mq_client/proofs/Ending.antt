-- Two runs over the same input, whose exchanges ended alike, do and write the same.
use Rattle.std.proofs.Common.{◌≡◌, ℕ, Bool, true, false, List, [], ◌∷◌, ◌++◌, length, refl, sym, ap, ◌∙◌, subst, append_assoc, inl, inr, ◌⊎◌, Option, None, Some}
use Rattle.mq_client.proofs.Words.{AfterReady, ArePlayed, BeforeReady, Drain, RunEnd, EndsWith, FilterFault, Filters, HasText, Holding, Holds, IsFound, IsInHand, IsLine, IsTooLong, Meaning, Outside, Reaches, Source, Spans, Stage, StandsAt, StandsFirst, State, Step, StopsAt, actions, all_lines, all_outcomes, answer_count, concat, drained, left_over, no_rest, none_some, outcomes, push, quiets, registration, some_is, true_false, view}
use Rattle.mq_client.specs.InputFaults.{is_of_input}
use Rattle.mq_client.specs.declared.fault.FilterFault.TheVariants as faults
use Rattle.mq_line.proofs.TextLaws.{holds-fed, left-ends}
use Rattle.mq_client.proofs.Looping.{is_line_none}
use Rattle.mq_client.proofs.Turning.{OneReply}
use Rattle.mq_client.proofs.Sameness.{same_filters, same_played, same_lines}
use Rattle.mq_client.proofs.Placing.{Grammar, Front, Unread, Untracked, TooEarly, NeverReady, Over, InLine, Long, Fate, AtLine, AtEnd, same_place}
use Rattle.mq_client.proofs.Basics.{cons_head}

-- how a text is cut into lines
pub record Cutting : Type 0 where
  pub unique : (text : List ℕ) (ls : List (List ℕ)) (rest : List ℕ) → Holds text ls rest → IsLine rest ⊎ IsTooLong rest → (all_lines text ≡ ls) × (left_over text ≡ rest)
  pub held : (text : List ℕ) (taken : List (List ℕ)) (held : List ℕ) → Holds text taken held → (all_lines text ≡ taken ++ all_lines held) × (left_over text ≡ left_over held)
  pub too_long : (held more : List ℕ) → IsTooLong held → IsTooLong (held ++ more)

nothing_left : (text : List ℕ) → text ≡ [] → (all_lines text ≡ []) × (left_over text ≡ [])
nothing_left text e = let (f, g) = left-ends text (inl (is_line_none text e)) in (f, g ∙ e)

-- the line in front of some bytes is the first of all that come
first_line : (C : Cutting) (line left rest : List ℕ) (s : StandsFirst line left) → all_lines (left ++ rest) ≡ line ∷ all_lines (s.rest ++ rest)
first_line C line left rest s =
    (C.held (left ++ rest) (line ∷ []) (s.rest ++ rest) (record {
      whole = ap (λ (l : List ℕ). l ++ rest) s.whole ∙ append_assoc line (10 ∷ s.rest) rest ∙ sym (append_assoc line (10 ∷ []) (s.rest ++ rest));
      each = (s.is_line, tt);
    })).0

at_line : (C : Cutting) (stage : Stage) (line left rest : List ℕ) (o : Option FilterFault) → StandsFirst line left → Front stage line o → Fate stage (all_lines (left ++ rest)) (left_over (left ++ rest)) o
at_line C stage line left rest o s f = AtLine line (all_lines (s.rest ++ rest)) (first_line C line left rest s) f

found_fate : (C : Cutting) (f : FilterFault) (stage : Stage) (pieces : List (List ℕ)) (left rest : List ℕ) (read_failed write_failed : Bool) → is_of_input f ≡ true → IsFound f stage pieces left (Some rest) read_failed write_failed
    → Fate stage (all_lines (left ++ rest)) (left_over (left ++ rest)) (Some f)
found_fate C (faults.Line f) stage pieces left rest read_failed write_failed i (line, first, e) = at_line C stage line left rest (Some (faults.Line f)) first (Unread f e refl)
found_fate C (faults.Track f) stage pieces left rest read_failed write_failed i (L, m, line, s, first, reads, e) = at_line C stage line left rest (Some (faults.Track f)) first (Untracked m L f s reads e refl)
found_fate C faults.NotReady stage pieces left rest read_failed write_failed i (m, line, s, first, reads, e) = at_line C stage line left rest (Some faults.NotReady) first (TooEarly m s reads e refl)
found_fate C faults.EndedEarly stage pieces left rest read_failed write_failed i (s, none, end) =
    let (f, g) = nothing_left (left ++ rest) (ap (λ (l : List ℕ). l ++ rest) none ∙ end) in
    AtEnd f (NeverReady s g refl)
found_fate C faults.CutLine stage pieces left rest read_failed write_failed i (some, one, end) =
    let same = no_rest left rest end in
    let F : List ℕ → Type 0 = IsLine in
    let all : IsLine (left ++ rest) = subst F (sym same) one in
    let (f, g) = left-ends (left ++ rest) (inl all) in
    AtEnd f (InLine (λ none. some (sym (g ∙ same) ∙ none)) (subst F (sym g) all) refl)
found_fate C faults.TooLong stage pieces left rest read_failed write_failed i long =
    let all = C.too_long left rest long in
    let (f, g) = left-ends (left ++ rest) (inr all) in
    AtEnd f (Long (subst IsTooLong (sym g) all) refl)
found_fate C f stage pieces left rest read_failed write_failed i found = absurd (true_false (sym i))

-- at a fault of the input no line is in hand
quiet : (f : FilterFault) (spans : Spans) (k : Holding) (stage : Stage) (left : List ℕ) (step : Option Step) (next : List ℕ) → is_of_input f ≡ true → IsInHand f spans k stage left step next → (step ≡ None) × (next ≡ [])
quiet faults.Write spans k stage left step next i h = absurd (true_false (sym i))
quiet faults.Memory spans k stage left step next i h = absurd (true_false (sym i))
quiet f spans k stage left step next i h = h

front_nil : (front rest : List ℕ) → front ++ rest ≡ [] → front ≡ []
front_nil [] rest e = refl
front_nil (x ∷ front) rest e = absurd (cc (e))

-- two runs over the same input come to the same place
meets : (spans spans' : Spans) (k k' : Holding) (G : Grammar) (C : Cutting) (text text' : List ℕ) (ls ms : List (List ℕ)) (left left' : List ℕ) (stage stage' : Stage) (steps steps' : List Step) (written written' : List ℕ) (a b : Option FilterFault)
    → text ≡ text' → Holds text ls left → Holds text' ms left' → Reaches ls stage → HasText spans stage steps written k → Reaches ms stage' → HasText spans' stage' steps' written' k'
    → Fate stage (all_lines left) (left_over left) a → Fate stage' (all_lines left') (left_over left') b → (ls ≡ ms) × (stage ≡ stage') × (a ≡ b)
meets spans spans' k k' G C text text' ls ms left left' stage stage' steps steps' written written' a b e h i r t r' t' f g =
    let (lines_h, left_h) = C.held text ls left h in
    let (lines_i, left_i) = C.held text' ms left' i in
    let same : ls ++ all_lines left ≡ ms ++ all_lines left' = sym lines_h ∙ ap all_lines e ∙ lines_i in
    let last : left_over left' ≡ left_over left = sym left_i ∙ sym (ap left_over e) ∙ left_h in
    same_place spans spans' k k' G ls ms (all_lines left) (all_lines left') (left_over left) stage stage' steps steps' written written' a b same r t r' t' f (subst (λ (l : List ℕ). Fate stage' (all_lines left') l b) last g)

-- ---- what was done

same_done : OneReply → (spans : Spans) (s : Source) (n : ℕ) (P : List Step) (stage : Stage) (steps others : List Step) (text more : List ℕ) (k j : Holding) → HasText spans stage steps text k → HasText spans stage others more j
    → ArePlayed s n P steps → ArePlayed s n P others → all_outcomes steps ≡ all_outcomes others → (steps ≡ others) × (text ≡ more)
same_done U spans s n P BeforeReady steps others text more k j h i p q e = (h.0 ∙ sym i.0, h.1 ∙ sym i.1)
same_done U spans s n P (AfterReady L) steps others text more k j (results, filters, whole) (results', filters', whole') p q e =
    let told = same_filters U spans s n P L steps others results results' k j [] [] filters filters' p q e in
    (told.steps, whole ∙ ap (λ (t : List ℕ). registration ++ t) told.text_is ∙ sym whole')

played_from : (c d : State) (P steps : List Step) → d ≡ c → ArePlayed d.source d.tries P steps → ArePlayed c.source c.tries P steps
played_from c d P steps e h = subst (λ (x : State). ArePlayed x.source x.tries P steps) e h

stands_from : (c d : State) (P : List Step) → d ≡ c → StandsAt c P → StandsAt d P
stands_from c d P e h = subst (λ (x : State). StandsAt x P) (sym e) h

-- two runs that stop at faults of the same input stop at the same one, and do the same where their exchanges ended alike
pub same_stops : OneReply → (G : Grammar) (C : Cutting) (o p : Outside) (pieces others : List (List ℕ)) (rest more : List ℕ) (now last : Outside) (read_failed write_failed read_failed' write_failed' : Bool) (f g : FilterFault)
    (h : StopsAt o pieces (Some rest) now read_failed write_failed f) (i : StopsAt p others (Some more) last read_failed' write_failed' g)
    → concat pieces ++ rest ≡ concat others ++ more → is_of_input f ≡ true → is_of_input g ≡ true
    → (f ≡ g) × (h.lines ≡ i.lines) × ((P : List Step) → StandsAt o.client P → p.client ≡ o.client → all_outcomes (push h.step h.steps) ≡ all_outcomes (push i.step i.steps)
    → (push h.step h.steps ≡ push i.step i.steps) × (h.text ++ h.front ≡ i.text ++ i.front))
same_stops U G C o p pieces others rest more now last read_failed write_failed read_failed' write_failed' f g h i e of_f of_g =
    let (same, stages, faults) = meets o.client.spans p.client.spans h.holding i.holding G C (concat pieces ++ rest) (concat others ++ more) h.lines i.lines (h.left ++ rest) (i.left ++ more) h.stage i.stage h.steps i.steps h.text i.text (Some f) (Some g) e
    (holds-fed (concat pieces) h.lines h.left rest h.whole) (holds-fed (concat others) i.lines i.left more i.whole) h.reaches h.has_text i.reaches i.has_text
    (found_fate C f h.stage pieces h.left rest read_failed write_failed of_f h.found) (found_fate C g i.stage others i.left more read_failed' write_failed' of_g i.found) in
    let (no_step, no_next) = quiet f o.client.spans h.holding h.stage h.left h.step (h.front ++ h.rest) of_f h.in_hand in
    let (no_step', no_next') = quiet g p.client.spans i.holding i.stage i.left i.step (i.front ++ i.rest) of_g i.in_hand in
    let steps : push h.step h.steps ≡ h.steps = ap (λ s. push s h.steps) no_step in
    let steps' : push i.step i.steps ≡ i.steps = ap (λ s. push s i.steps) no_step' in
    let text : h.text ++ h.front ≡ h.text = no_rest h.text h.front (front_nil h.front h.rest no_next) in
    let text' : i.text ++ i.front ≡ i.text = no_rest i.text i.front (front_nil i.front i.rest no_next') in (
      some_is f g faults,
      same,
      λ P st start ended.
          let S : Stage → State → Type 0 = λ s c. HasText c.spans s i.steps i.text i.holding in
          let T : List Step → Type 0 = λ l. ArePlayed o.client.source o.client.tries P l in
          let mine = h.made.plays P st in
          let theirs = played_from o.client p.client P (push i.step i.steps) start (i.made.plays P (stands_from o.client p.client P start st)) in
          let (done, wrote) = same_done U o.client.spans o.client.source o.client.tries P h.stage h.steps i.steps h.text i.text h.holding i.holding h.has_text (subst (S h.stage) start (subst (λ (s : Stage). S s p.client) (sym stages) i.has_text))
          (subst T steps mine) (subst T steps' theirs) (sym (ap all_outcomes steps) ∙ ended ∙ ap all_outcomes steps') in
          (steps ∙ done ∙ sym steps', text ∙ wrote ∙ sym text'),
    )

-- a run to the end of the input
end_fate : (L : List Meaning) → Fate (AfterReady L) (all_lines []) (left_over []) None
end_fate L = let (f, g) = nothing_left [] refl in AtEnd f (Over L refl g refl)

pub no_stop_and_end : (G : Grammar) (C : Cutting) (o p : Outside) (bytes more : List ℕ) (others : List (List ℕ)) (now last : Outside) (read_failed write_failed : Bool) (e : RunEnd) (g : FilterFault)
    → EndsWith o bytes now e → StopsAt p others (Some more) last read_failed write_failed g → bytes ≡ concat others ++ more → is_of_input g ≡ false
no_stop_and_end G C o p bytes more others now last read_failed write_failed e g h i same = by_kind (is_of_input g) refl
  where
    clash : is_of_input g ≡ true → ⊥
    clash of_g =
        let texted : HasText o.client.spans (AfterReady h.after_ready) h.steps (registration ++ h.results) h.holding = (h.results, h.filters, refl) in
        let (ls, stages, faults) = meets o.client.spans p.client.spans h.holding i.holding G C bytes (concat others ++ more) h.lines i.lines [] (i.left ++ more) (AfterReady h.after_ready) i.stage h.steps i.steps (registration ++ h.results) i.text None (Some g) same
        h.whole (holds-fed (concat others) i.lines i.left more i.whole) h.ready texted i.reaches i.has_text
        (end_fate h.after_ready) (found_fate C g i.stage others i.left more read_failed write_failed of_g i.found) in
        none_some g faults

    by_kind : (b : Bool) → is_of_input g ≡ b → is_of_input g ≡ false
    by_kind false k = k
    by_kind true k = absurd (clash k)

same_ended : (e f : RunEnd) → e.answers ≡ f.answers → e.left ≡ f.left → e ≡ f
same_ended e f a l = ap (λ (n : ℕ). record e { answers = n }) a ∙ ap (λ (n : ℕ). record f { left = n }) l

-- two runs to the end of the same input, whose exchanges ended alike, do the same
pub same_ends : OneReply → (G : Grammar) (C : Cutting) (o p : Outside) (bytes : List ℕ) (now last : Outside) (e f : RunEnd) (P : List Step)
    (h : EndsWith o bytes now e) (i : EndsWith p bytes last f)
    → StandsAt o.client P → p.client ≡ o.client → all_outcomes (drained h.group h.steps) ≡ all_outcomes (drained i.group i.steps)
    → (h.steps ≡ i.steps) × (h.group ≡ i.group) × (h.results ≡ i.results) × (e ≡ f)
same_ends U G C o p bytes now last e f P h i st start ended =
    let none = inl (is_line_none [] refl) in
    let lines : h.lines ≡ i.lines = sym ((C.unique bytes h.lines [] h.whole none).0) ∙ (C.unique bytes i.lines [] i.whole none).0 in
    let past : h.after_ready ≡ i.after_ready = same_lines G.unique h.lines i.lines h.after_ready i.after_ready lines h.ready i.ready in
    let c = o.client in
    let filters : Filters c.spans i.after_ready h.steps h.results h.holding = subst (λ (l : List Meaning). Filters c.spans l h.steps h.results h.holding) past h.filters in
    let mine : List Step = drained h.group h.steps in
    let theirs : List Step = drained i.group i.steps in
    let st' = stands_from o.client p.client P start st in
    let played = h.made.plays P st in
    let played' = played_from o.client p.client P theirs start (i.made.plays P st') in
    let told = same_filters U c.spans c.source c.tries P i.after_ready h.steps i.steps h.results i.results h.holding i.holding (outcomes h.group) (outcomes i.group) filters (subst (λ (x : State). Filters x.spans i.after_ready i.steps i.results i.holding) start i.filters) played.1 played'.1 ended in
    let steps : h.steps ≡ i.steps = told.steps in
    let all : mine ≡ theirs = same_played U c.source c.tries P mine theirs played played' (ap (λ l. Drain ∷ actions l) steps) (ap (λ l. false ∷ quiets l) steps) ended in
    let group : h.group ≡ i.group = ap (λ (x : Step). x.group) (cons_head (record { action = Drain; group = h.group; quiet = false }) (record { action = Drain; group = i.group; quiet = false }) h.steps i.steps all) in
    let source : now.client.source ≡ last.client.source = h.made.source ∙ sym (ap (λ (c : State). c.source) start) ∙ sym i.made.source in
    let left : e.left ≡ f.left = h.left (mine ++ P) (h.made.stands P st)
    ∙ ap (λ (s : Source). length (view s (mine ++ P)).waiting) source
    ∙ ap (λ (l : List Step). length (view last.client.source (l ++ P)).waiting) all
    ∙ sym (i.left (theirs ++ P) (i.made.stands P st')) in
    (steps, group, told.text_is, same_ended e f (h.answers ∙ ap answer_count past ∙ sym i.answers) left)
