-- What an audit prints.
use Rattle.std.proofs.Common.{◌≡◌, ◌≢◌, ◌∙◌, ℕ, ℤ, List, Option, Some, None, Result, Ok, Err, inl, subst, sym}
use Rattle.std.specs.Prelude.{IfErr, MatchResult}
use Rattle.mq_lemmas.proofs.Options.{ok_not}
use Rattle.std.specs.Io.KnownBytes.{Appends, Keeps}
use Rattle.mq_stream.specs.Flow.{AppendsFront}
use Rattle.mq_process.specs.declared.arguments.OutputArgument.{OutputArgument}
use Rattle.mq_program.specs.Auditing.{FailsAfter, SaysFault, SaysWrong, wrong_at}
use Rattle.mq_program.specs.declared.fault.ProgramFault.{ProgramFault}
use Rattle.mq_program.specs.declared.fault.ProgramFault.TheVariants.{Write}

-- where printing failed, a prefix of the line was printed
pub only_a_front : (line bytes : List ℕ) (old new : Option (List ℕ)) (ended : Result (Unit {0}) ProgramFault) → bytes ≡ line
    → IfErr ended (λ f. f ≡ Write) → AppendsFront old new bytes → IfErr ended (FailsAfter line old new)
only_a_front line bytes old new (Ok u) same fault front = tt
only_a_front line bytes old new (Err f) same fault front = inl (fault, subst (λ b. AppendsFront old new b) same front)

appended_since : (a b c : Option (List ℕ)) (bytes : List ℕ) → Keeps a b → Appends b c bytes → Appends a c bytes
appended_since None b c bytes keeps appends = tt
appended_since (Some xs) None c bytes keeps appends = absurd keeps
appended_since (Some xs) (Some ys) c bytes keeps appends = subst (λ z. Appends (Some z) c bytes) keeps appends

kept_since : (a b c : Option (List ℕ)) → Keeps a b → Keeps b c → Keeps a c
kept_since None b c keeps kept = tt
kept_since (Some xs) None c keeps kept = absurd keeps
kept_since (Some xs) (Some ys) c keeps kept = subst (λ z. Keeps (Some z) c) keeps kept

wrong_since : (wrong : Option (List ℕ × ℤ)) (a b c : Option (List ℕ)) → Keeps a b → SaysWrong wrong b c → SaysWrong wrong a c
wrong_since (Some (login, day)) a b c keeps (text, is, appends) = (text, is, appended_since a b c text keeps appends)
wrong_since None a b c keeps kept = kept_since a b c keeps kept

-- a fault is told since then, and nothing was printed before
says_since : (form : OutputArgument) (fault : ProgramFault) (a b c : Option (List ℕ)) → Keeps a b → SaysFault form fault b c → SaysFault form fault a c
says_since form fault a b c keeps says = wrong_since (wrong_at form fault) a b c keeps says

-- what is told of an audit that failed, which printed nothing but where the output failed
pub told_since : {A : Type 0} (form : OutputArgument) (told : ProgramFault) (done : Result A ProgramFault) (ended : Result ℕ ProgramFault) (fault : ProgramFault) (a b c : Option (List ℕ))
    → MatchResult done (λ _. ended ≡ Ok 0) (λ f. ended ≡ Err f) → ended ≡ Err fault → IfErr done (λ f. f ≢ Write → Keeps a b)
    → (fault ≡ Write → told ≡ Write) → (told ≢ Write → SaysFault form told b c) → told ≢ Write → SaysFault form told a c
told_since form told (Ok x) ended fault a b c gave is silent write says other = absurd (ok_not 0 fault (sym gave ∙ is))
told_since form told (Err f) ended fault a b c gave is silent write says other =
    let same : f ≡ fault = cc in
    says_since form told a b c (silent (λ failed. other (write (sym same ∙ failed)))) (says other)
