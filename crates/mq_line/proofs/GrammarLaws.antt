-- What fields mean, and which fault they have.
use Rattle.std.proofs.Common.{◌≡◌, ◌<◌, ℕ, Bool, true, false, not, ◌||◌, eqb, List, [], ◌∷◌, length, map, refl, sym, ap, ◌∙◌, subst, arith, inl, inr}
use Rattle.std.specs.Prelude.{◌≢◌, ◌⊎◌, codes, Option, Some, None, Result, Ok, Err, MatchResult, IsOkAnd, is_none, if◌then◌else◌}
use Rattle.std.specs.Option.{option_map}
use Rattle.std.specs.Borrow.{Bor}
use Rattle.std.specs.List.{AllByRecursion, list_any}
use Rattle.std.specs.Str.{bytes_eq}
use Rattle.std.proofs.lemmas.Bool.{or_parts, eqb-false, ne_eqb, false_from_ne_true, not-false, true≢false}
use Rattle.std.proofs.lemmas.List.Splits.{join_with_byte-slice_split}
use Rattle.std.proofs.lemmas.Slice.Eq.{bytes_eq-Decides}
use Rattle.mq_line.specs.Pieces.{fields, fields_left, joined}
use Rattle.mq_line.specs.Grammar.{Meaning, ConfigLine, ReadyLine, ReportLine, FilterLine, OtherLine, IsStamp, stamp_fault, config_fault, report_fault, filter_fault, first_fault, seconds_of, Means, meaning}
use Rattle.mq_line.specs.declared.reading.Line.{Line}
use Rattle.mq_line.specs.declared.fault.LineFault.{LineFault}
use Rattle.mq_line.specs.declared.fault.LineFault.TheVariants.{Short, Version, Time, EmptyField}
use Rattle.mq_line.proofs.PieceLaws.{some_piece}

-- a config line that has a value
pub config_means : (fs : List (List ℕ)) (key : List ℕ) (left : Option (Bor (List ℕ))) (value : Bor (List ℕ)) → fs ≡ key ∷ fields_left left → left ≡ Some value → Means (codes "config" ∷ fs) (ConfigLine key value.now)
config_means fs key left value e is =
    let p = some_piece 124 value.now in (
      p.0,
      p.1,
      ap (λ (l : List (List ℕ)). codes "config" ∷ l) (e ∙ ap (λ (o : Option (Bor (List ℕ))). key ∷ fields_left o) is ∙ ap (λ (l : List (List ℕ)). key ∷ l) p.2),
      sym (join_with_byte-slice_split 124 value.now) ∙ ap joined p.2,
    )

-- fields that aren't empty
abbrev is_empty : List ℕ → Bool
is_empty name = eqb (length name) 0

list_any-names : (names : List (Bor (List ℕ))) → list_any is_empty (map (λ name. name.now) names) ≡ list_any (λ name. eqb (length name.now) 0) names
list_any-names [] = refl
list_any-names (name ∷ names) = ap (λ (t : Bool). eqb (length name.now) 0 || t) (list_any-names names)

all_named : (names : List (List ℕ)) → list_any is_empty names ≡ false → AllByRecursion (λ name. name ≢ []) names
all_named [] h = tt
all_named (name ∷ names) h =
    let p = or_parts _ _ h in (λ e. eqb-false _ _ p.0 (ap length e), all_named names p.1)

pub is_stamp : (version time : List ℕ) (names : List (Bor (List ℕ))) (seconds : ℕ) → version ≡ codes "0.7" → Some seconds ≡ seconds_of time → list_any (λ name. eqb (length name.now) 0) names ≡ false → IsStamp version time (map (λ name. name.now) names) seconds
is_stamp version time names seconds v t n = record {
  protocol = v;
  moment = sym t;
  named = all_named (map (λ name. name.now) names) (list_any-names names ∙ n);
}

pub is_unnamed : (version time : List ℕ) (names : List (Bor (List ℕ))) (seconds : ℕ) → version ≡ codes "0.7" → Some seconds ≡ seconds_of time → list_any (λ name. eqb (length name.now) 0) names ≡ true → stamp_fault version time (map (λ name. name.now) names) ≡ Some EmptyField
is_unnamed version time names seconds v t n = rw (v, ← t, list_any-names names ∙ n) refl

-- what fields mean, where they mean something
abbrev config_reading : List (List ℕ) → Option Meaning
config_reading [] = None
config_reading (second ∷ []) = Some ReadyLine
config_reading (key ∷ first ∷ more) = Some (ConfigLine key (joined (first ∷ more)))

abbrev report_reading : List (List ℕ) → Option Meaning
report_reading (version ∷ time ∷ subsystem ∷ event ∷ session ∷ more) = option_map (λ n. ReportLine n subsystem event session (joined more)) (seconds_of time)
report_reading _ = None

abbrev filter_reading : List (List ℕ) → Option Meaning
filter_reading (version ∷ time ∷ subsystem ∷ phase ∷ session ∷ token ∷ more) = option_map (λ n. FilterLine n subsystem phase session token (joined more)) (seconds_of time)
filter_reading _ = None

abbrev by_first : {X : Type 0} → List ℕ → X → X → X → X → X
by_first first config report filter other =
    if bytes_eq first (codes "config") then config
    else (if bytes_eq first (codes "report") then report
    else (if bytes_eq first (codes "filter") then filter else other))

abbrev reading : List (List ℕ) → Option Meaning
reading [] = None
reading (first ∷ more) = by_first first (config_reading more) (report_reading more) (filter_reading more) (Some OtherLine)

differs : (a b : List ℕ) → a ≢ b → bytes_eq a b ≡ false
differs a b ne = false_from_ne_true _ (λ e. ne ((bytes_eq-Decides a b).0 e))

another : {X : Type 0} (first : List ℕ) (config report filter other : X) → first ≢ codes "config" → first ≢ codes "report" → first ≢ codes "filter" → by_first first config report filter other ≡ other
another first config report filter other a b c = rw (differs _ _ a, differs _ _ b, differs _ _ c) refl

-- a meaning is the one that its fields have
means_reading : (fs : List (List ℕ)) (m : Meaning) → Means fs m → reading fs ≡ Some m
means_reading fs (ConfigLine key value) h = ap reading h.2 ∙ ap (λ (v : List ℕ). Some (ConfigLine key v)) (sym h.3)
means_reading fs ReadyLine h = ap reading h
means_reading fs (ReportLine seconds subsystem event session params) h =
    ap reading h.3
    ∙ ap (λ (o : Option ℕ). option_map (λ n. ReportLine n subsystem event session (joined h.2)) o) h.4.moment
    ∙ ap (λ (p : List ℕ). Some (ReportLine seconds subsystem event session p)) (sym h.5)
means_reading fs (FilterLine seconds subsystem phase session token rest) h =
    ap reading h.3
    ∙ ap (λ (o : Option ℕ). option_map (λ n. FilterLine n subsystem phase session token (joined h.2)) o) h.4.moment
    ∙ ap (λ (p : List ℕ). Some (FilterLine seconds subsystem phase session token p)) (sym h.5)
means_reading fs OtherLine h = ap reading h.2 ∙ another h.0 _ _ _ (Some OtherLine) h.3 h.4 h.5

pub one_meaning : (fs : List (List ℕ)) (m n : Meaning) → Means fs m → Means fs n → m ≡ n
one_meaning fs m n h k = let e : Some m ≡ Some n = sym (means_reading fs m h) ∙ means_reading fs n k in cc

none_empty : (names : List (List ℕ)) → AllByRecursion (λ name. name ≢ []) names → list_any is_empty names ≡ false
none_empty [] h = refl
none_empty ([] ∷ names) h = absurd (h.0 refl)
none_empty ((b ∷ bytes) ∷ names) h =
    ap (λ (t : Bool). t || list_any is_empty names) (ne_eqb (length (b ∷ bytes)) 0 (λ e. omega arith)) ∙ none_empty names h.1

no_stamp_fault : (version time : List ℕ) (names : List (List ℕ)) (seconds : ℕ) → IsStamp version time names seconds → stamp_fault version time names ≡ None
no_stamp_fault version time names seconds s = rw (s.protocol, s.moment, none_empty names s.named) refl

-- fields with a meaning have no fault
pub no_fault : (fs : List (List ℕ)) (m : Meaning) → Means fs m → first_fault fs ≡ None
no_fault fs (ConfigLine key value) h = ap first_fault h.2
no_fault fs ReadyLine h = ap first_fault h
no_fault fs (ReportLine seconds subsystem event session params) h = ap first_fault h.3 ∙ no_stamp_fault _ _ _ seconds h.4
no_fault fs (FilterLine seconds subsystem phase session token rest) h = ap first_fault h.3 ∙ no_stamp_fault _ _ _ seconds h.4
no_fault fs OtherLine h = ap first_fault h.2 ∙ another h.0 (config_fault h.1) (report_fault h.1) (filter_fault h.1) None h.3 h.4 h.5

-- so the answer is the meaning, where there is one
pub answers_meaning : (fs : List (List ℕ)) (r : Result Line LineFault) → MatchResult r (λ v. Means fs (meaning v)) (λ e. first_fault fs ≡ Some e) → (m : Meaning) → Means fs m → IsOkAnd r (λ v. meaning v ≡ m)
answers_meaning fs (Ok v) h m means = one_meaning fs (meaning v) m h means
answers_meaning fs (Err e) h m means = let clash : None ≡ Some e = sym (no_fault fs m means) ∙ h in cc

-- and the fault, where there is one
pub answers_fault : (fs : List (List ℕ)) (r : Result Line LineFault) → MatchResult r (λ v. Means fs (meaning v)) (λ e. first_fault fs ≡ Some e) → (e : LineFault) → first_fault fs ≡ Some e → r ≡ Err e
answers_fault fs (Ok v) h e has = let clash : None ≡ Some e = sym (no_fault fs (meaning v) h) ∙ has in cc
answers_fault fs (Err d) h e has = let same : Some d ≡ Some e = sym h ∙ has in cc

chosen : {X : Type 0} (b : Bool) (x y z : X) → (if b then x else y) ≡ z → ((b ≡ true) × (x ≡ z)) ⊎ ((b ≡ false) × (y ≡ z))
chosen true x y z e = inl (refl, e)
chosen false x y z e = inr (refl, e)

clash : (e : LineFault) → Some e ≡ None → ⊥
clash e h = cc

equals : (a b : List ℕ) → bytes_eq a b ≡ true → a ≡ b
equals a b e = (bytes_eq-Decides a b).0 e

unlike : (a b : List ℕ) → bytes_eq a b ≡ false → a ≢ b
unlike a b e same = true≢false (sym ((bytes_eq-Decides a b).1 same) ∙ e)

some_moment : (o : Option ℕ) → is_none o ≡ false → (seconds : ℕ) × (o ≡ Some seconds)
some_moment None h = absurd (true≢false h)
some_moment (Some n) h = (n, refl)

some_stamp : (version time : List ℕ) (names : List (List ℕ)) → stamp_fault version time names ≡ None → (seconds : ℕ) × IsStamp version time names seconds
some_stamp version time names h = elim (chosen (not (bytes_eq version (codes "0.7"))) _ _ _ h) [
  | inl v ↦ absurd (clash Version v.1)
  | inr v ↦ (elim (chosen (is_none (seconds_of time)) _ _ _ v.1) [
    | inl t ↦ absurd (clash Time t.1)
    | inr t ↦ (elim (chosen (list_any is_empty names) _ _ _ t.1) [
      | inl n ↦ absurd (clash EmptyField n.1)
      | inr n ↦
          (let m = some_moment (seconds_of time) t.0 in (
            m.0,
            record {
              protocol = equals version (codes "0.7") (not-false _ v.0);
              moment = m.1;
              named = all_named names n.0;
            },
          ))
    ])
  ])
]

some_config : (more : List (List ℕ)) → config_fault more ≡ None → (m : Meaning) × Means (codes "config" ∷ more) m
some_config [] h = absurd (clash Short h)
some_config (second ∷ []) h = elim (chosen (bytes_eq second (codes "ready")) _ _ _ h) [
  | inl r ↦ (ReadyLine, ap (λ (w : List ℕ). codes "config" ∷ w ∷ []) (equals second (codes "ready") r.0))
  | inr r ↦ absurd (clash Short r.1)
]
some_config (key ∷ first ∷ more) h = (ConfigLine key (joined (first ∷ more)), (first, more, refl, refl))

some_report : (more : List (List ℕ)) → report_fault more ≡ None → (m : Meaning) × Means (codes "report" ∷ more) m
some_report [] h = absurd (clash Short h)
some_report (a ∷ []) h = absurd (clash Short h)
some_report (a ∷ b ∷ []) h = absurd (clash Short h)
some_report (a ∷ b ∷ c ∷ []) h = absurd (clash Short h)
some_report (a ∷ b ∷ c ∷ d ∷ []) h = absurd (clash Short h)
some_report (version ∷ time ∷ subsystem ∷ event ∷ session ∷ more) h =
    let s = some_stamp version time (subsystem ∷ event ∷ session ∷ []) h in
    (ReportLine s.0 subsystem event session (joined more), (version, time, more, refl, s.1, refl))

some_filter : (more : List (List ℕ)) → filter_fault more ≡ None → (m : Meaning) × Means (codes "filter" ∷ more) m
some_filter [] h = absurd (clash Short h)
some_filter (a ∷ []) h = absurd (clash Short h)
some_filter (a ∷ b ∷ []) h = absurd (clash Short h)
some_filter (a ∷ b ∷ c ∷ []) h = absurd (clash Short h)
some_filter (a ∷ b ∷ c ∷ d ∷ []) h = absurd (clash Short h)
some_filter (a ∷ b ∷ c ∷ d ∷ e ∷ []) h = absurd (clash Short h)
some_filter (version ∷ time ∷ subsystem ∷ phase ∷ session ∷ token ∷ more) h =
    let s = some_stamp version time (subsystem ∷ phase ∷ session ∷ token ∷ []) h in
    (FilterLine s.0 subsystem phase session token (joined more), (version, time, more, refl, s.1, refl))

some_fields : (first : List ℕ) (more : List (List ℕ)) → first_fault (first ∷ more) ≡ None → (m : Meaning) × Means (first ∷ more) m
some_fields first more h = elim (chosen (bytes_eq first (codes "config")) _ _ _ h) [
  | inl a ↦ (let m = some_config more a.1 in (m.0, subst (λ (w : List ℕ). Means (w ∷ more) m.0) (sym (equals first (codes "config") a.0)) m.1))
  | inr a ↦ (elim (chosen (bytes_eq first (codes "report")) _ _ _ a.1) [
    | inl b ↦ (let m = some_report more b.1 in (m.0, subst (λ (w : List ℕ). Means (w ∷ more) m.0) (sym (equals first (codes "report") b.0)) m.1))
    | inr b ↦ (elim (chosen (bytes_eq first (codes "filter")) _ _ _ b.1) [
      | inl c ↦ (let m = some_filter more c.1 in (m.0, subst (λ (w : List ℕ). Means (w ∷ more) m.0) (sym (equals first (codes "filter") c.0)) m.1))
      | inr c ↦ (OtherLine, (first, more, refl, unlike first _ a.0, unlike first _ b.0, unlike first _ c.0))
    ])
  ])
]

-- what has no fault means something
pub some_meaning : (line : List ℕ) → first_fault (fields line) ≡ None → (m : Meaning) × Means (fields line) m
some_meaning line h =
    let p = some_piece 124 line in
    let m = some_fields p.0 p.1 (ap first_fault (sym p.2) ∙ h) in
    (m.0, subst (λ (fs : List (List ℕ)). Means fs m.0) (sym p.2) m.1)
