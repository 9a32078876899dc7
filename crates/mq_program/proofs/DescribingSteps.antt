-- What is printed of a ledger that no server has open.
use Rattle.std.proofs.Common.{◌≡◌, ◌∙◌, ℕ, List, [], ◌∷◌, ◌++◌, Option, Some, None, Result, Ok, Err, refl, ap, sym, subst, subst₂}
use Rattle.std.specs.Prelude.{IfErr, IfOk, OnOk, IsSomeAnd, codes}
use Rattle.std.specs.Fmt.{decimal}
use Rattle.std.specs.Io.KnownBytes.{Appends}
use Rattle.sqlite.specs.Effect.{Database}
use Rattle.sqlite.specs.Recovery.{Image}
use Rattle.sqlite.specs.State.{State}
use Rattle.mq_request.specs.Escaped.{escaped}
use Rattle.mq_ledger.specs.declared.zone.Zone.{Zone}
use Rattle.mq_ledger.specs.Day.{ByOffset, ByRule, minutes_in, rule_in}
use Rattle.mq_stream.specs.Flow.{AppendsFront}
use Rattle.mq_store.specs.Soundness.{IsSound}
use Rattle.mq_store.specs.declared.auditing.RowCounts.{RowCounts}
use Rattle.mq_program.specs.Describing.{AreCounts, Describes, DescribesFile, DescribesFront, ledger_text, offset_line, terms_line}
use Rattle.mq_program.specs.Opened.{AreCountsIn, MeansFile}
use Rattle.mq_program.specs.declared.describing.LedgerCounts.{LedgerCounts}
use Rattle.mq_program.specs.declared.fault.ProgramFault.{ProgramFault}
use Rattle.mq_program.specs.declared.fault.ProgramFault.TheVariants.{Write}

abbrev rule_text : ℕ → List ℕ → List ℕ
rule_text default text = codes "default " ++ decimal default ++ codes ", rule " ++ escaped text ++ 10 ∷ []

abbrev offset_text : Zone → ℕ → List ℕ
offset_text zone default = offset_line default (minutes_in zone)

rule_of : (zone : Zone) (default : ℕ) (text : List ℕ) → Some text ≡ rule_in zone → rule_text default text ≡ terms_line zone default
rule_of (ByOffset minutes) default text is = absurd (cc is)
rule_of (ByRule rule) default text is =
    let same : text ≡ rule = cc is in
    ap (rule_text default) same

offset_of : (zone : Zone) (default : ℕ) → None ≡ rule_in zone → offset_text zone default ≡ terms_line zone default
offset_of (ByOffset minutes) default is = refl
offset_of (ByRule rule) default is = absurd (cc is)

-- the line of a zone by a rule
pub by_rule : {S E : Type 0} (bytes_of : S → List ℕ) (zone : Zone) (default : ℕ) (text : List ℕ) (made : Result S E) → Some text ≡ rule_in zone
    → IfOk made (λ line. bytes_of line ≡ rule_text default text) → IfOk made (λ line. bytes_of line ≡ terms_line zone default)
by_rule bytes_of zone default text (Ok line) is made = made ∙ rule_of zone default text is
by_rule bytes_of zone default text (Err fault) is made = tt

-- and of one by no rule
pub by_offset : {S E : Type 0} (bytes_of : S → List ℕ) (zone : Zone) (default : ℕ) (made : Result S E) → None ≡ rule_in zone
    → IfOk made (λ line. bytes_of line ≡ offset_text zone default) → IfOk made (λ line. bytes_of line ≡ terms_line zone default)
by_offset bytes_of zone default (Ok line) is made = made ∙ offset_of zone default is
by_offset bytes_of zone default (Err fault) is made = tt

module _ (path : List ℕ) (bytes : ℕ) (zone z : Zone) (default d : ℕ) (db : Database) (found : RowCounts) (counts : LedgerCounts) (old new : Option (List ℕ)) (text : List ℕ) (ended : Result (Unit {0}) ProgramFault)
    (of_zone : z ≡ zone) (of_default : d ≡ default) (are : AreCounts zone default db found counts) (is : text ≡ ledger_text path bytes z d counts) where
  its_text : text ≡ ledger_text path bytes zone default counts
  its_text = is ∙ subst₂ (λ k n. ledger_text path bytes z d counts ≡ ledger_text path bytes k n counts) of_zone of_default refl

  -- the lines of a ledger were printed
  pub described : OnOk ended (Appends old new text) → IfOk ended (λ _. Describes path bytes zone default db found old new)
  described whole = printed ended whole
    where
      printed : (r : Result (Unit {0}) ProgramFault) → OnOk r (Appends old new text) → IfOk r (λ _. Describes path bytes zone default db found old new)
      printed (Ok u) all = (counts, are, subst (λ (b : List ℕ). Appends old new b) its_text all)
      printed (Err fault) all = tt

  -- or a prefix of them was
  pub described_front : AppendsFront old new text → IfErr ended (λ fault. fault ≡ Write → DescribesFront path bytes zone default db found old new)
  described_front front = printed ended
    where
      printed : (r : Result (Unit {0}) ProgramFault) → IfErr r (λ fault. fault ≡ Write → DescribesFront path bytes zone default db found old new)
      printed (Ok u) = tt
      printed (Err fault) = λ _. (counts, are, subst (λ (b : List ℕ). AppendsFront old new b) its_text front)

-- the lines are those of the ledger whose rows the files hold
pub described_file : (zone z : Zone) (default d : ℕ) (image : Image) (path : Option (List ℕ)) (p : List ℕ) (before after : State) (found : RowCounts) (old new : Option (List ℕ))
    → z ≡ zone → d ≡ default → path ≡ Some p → after.now ≡ before.now → AreCountsIn zone default image found.days found.transactions
    → (IsSound z d before → (bytes : ℕ) × Describes p bytes z d before.now found old new)
    → MeansFile zone default image before → DescribesFile zone default image path after.now old new
described_file zone z default d image path p before after found old new of_zone of_default path_is same audited described means b keeps =
    let (bz, bd, is, book) = means b keeps in
    let it = subst₂ (λ k n. IsSound k n before → (bytes : ℕ) × Describes p bytes k n before.now found old new) of_zone of_default described is in
    let (bytes, lines) = subst (λ (x : Database). (bytes : ℕ) × Describes p bytes zone default x found old new) (sym same) it in
    subst (λ (o : Option (List ℕ)). IsSomeAnd o (λ q. (bytes : ℕ) × (f : RowCounts) × AreCountsIn zone default image f.days f.transactions × Describes q bytes zone default after.now f old new)) (sym path_is)
    (bytes, found, audited, lines)
