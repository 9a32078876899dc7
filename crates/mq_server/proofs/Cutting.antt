-- Nothing depends on how an input was cut into pieces.
use Rattle.std.proofs.Common.{List, None, Ok, Option, Some, [], ap, append-nil, append_assoc, arith, inl, inr, length, map, refl, subst, sym, ℕ, ◌++◌, ◌+◌, ◌<◌, ◌∙◌, ◌∷◌, ◌≡◌, ◌⊎◌}
use Rattle.mq_server.proofs.Words.{AllZip, AppendEach, Appends, AreServed, AreServedWhole, Asks, BadFrame, BeginsWith, Book, Consumes, CutFrame, Delivery, EmptyHead, EndCause, Enough, Front, InputEnd, IsAtEnd, IsBad, IsEnd, IsServed, LongHead, LosesAlike, Reply, Request, Serves, SpellsNone, SpellsRequest, Whole, Wire, answer_to, asked, front, next, served, whole_is, whole_stays, wires}
use Rattle.mq_server.proofs.Running.{asks_more}

-- ---- bytes after the end

-- heads that are refused stay as bytes come after them
pub record Stay : Type 0 where
  pub empty : (limit : ℕ) (bytes more : List ℕ) → front limit bytes ≡ EmptyHead → front limit (bytes ++ more) ≡ EmptyHead
  pub long : (limit : ℕ) (bytes more : List ℕ) → front limit bytes ≡ LongHead → front limit (bytes ++ more) ≡ LongHead

bad_at : Stay → (bytes more : List ℕ) (at : Front) → next bytes ≡ at → IsBad at → IsBad (next (bytes ++ more))
bad_at stay bytes more EmptyHead e bad = subst IsBad (sym (stay.empty 512 bytes more e)) tt
bad_at stay bytes more LongHead e bad = subst IsBad (sym (stay.long 512 bytes more e)) tt
bad_at stay bytes more (Whole body after) e bad = subst IsBad (sym (whole_stays 512 bytes more body after e)) bad
bad_at stay bytes more at e bad = absurd bad

abbrev end : EndCause → ℕ → List ℕ → Option (List ℕ) → Type 0
end e count rest left = IsEnd e count (next rest) left

pub served_more : Stay → (input more : List ℕ) (came : List Delivery) (e : EndCause) → (e ≡ BadFrame) ⊎ (e ≡ Enough) → IsServed input came e → IsServed (input ++ more) came e
served_more stay input more came e (inl bad) s =
    let ends : end BadFrame (length came) s.rest (Some []) = subst (λ (x : EndCause). end x (length came) s.rest (Some [])) bad s.ends in
    subst (λ (x : EndCause). IsServed (input ++ more) came x) (sym bad) (record { rest = s.rest ++ more; asks = asks_more input more (asked came) s.rest s.asks; ends = (ends.0, bad_at stay s.rest more (next s.rest) refl ends.1) })
served_more stay input more came e (inr enough) s =
    let ends : end Enough (length came) s.rest (Some []) = subst (λ (x : EndCause). end x (length came) s.rest (Some [])) enough s.ends in
    subst (λ (x : EndCause). IsServed (input ++ more) came x) (sym enough) (record { rest = s.rest ++ more; asks = asks_more input more (asked came) s.rest s.asks; ends = ends })

-- ---- the whole input

consumed_all : (input read : List ℕ) (left : Option (List ℕ)) → Consumes (Some input) left read → (more : List ℕ) × (left ≡ Some more) × (input ≡ read ++ more)
consumed_all input read None c = absurd c
consumed_all input read (Some more) c = (more, refl, c)

at_end : (read more : List ℕ) → IsAtEnd (Some more) → read ≡ read ++ more
at_end read more e = sym (append-nil read) ∙ ap (λ (q : List ℕ). read ++ q) (sym e)

-- an end by the bytes read is an end by all of them
all_read : Stay → (read more : List ℕ) (came : List Delivery) (rest : List ℕ) (e : EndCause) → Asks read (asked came) rest → end e (length came) rest (Some more) → IsServed (read ++ more) came e
all_read stay read more came rest InputEnd asks (few, nothing, over) = subst (λ (q : List ℕ). IsServed q came InputEnd) (at_end read more over) (record { rest = rest; asks = asks; ends = (few, nothing, refl) })
all_read stay read more came rest CutFrame asks (few, cut, over) = subst (λ (q : List ℕ). IsServed q came CutFrame) (at_end read more over) (record { rest = rest; asks = asks; ends = (few, cut, refl) })
all_read stay read more came rest BadFrame asks (few, bad) = served_more stay read more came BadFrame (inl refl) (record { rest = rest; asks = asks; ends = (few, bad) })
all_read stay read more came rest Enough asks all = served_more stay read more came Enough (inr refl) (record { rest = rest; asks = asks; ends = all })

pub served_whole : Stay → (answer : List Delivery → Delivery → Reply) (came : List Delivery) (old new : Wire) (e : EndCause) (input : List ℕ) → Serves answer came old new (Ok e) → old.remaining ≡ Some input
    → IsServed input came e × Appends old.contents new.contents (served answer came e)
served_whole stay answer came old new e input s known =
    let (more, left, split) = consumed_all input s.read new.remaining (subst (λ (q : Option (List ℕ)). Consumes q new.remaining s.read) known s.consumed) in
    let Q : Option (List ℕ) → Type 0 = λ q. end e (length came) s.rest q in
    (subst (λ (q : List ℕ). IsServed q came e) (sym split) (all_read stay s.read more came s.rest e s.asks (subst Q left s.leaves.1)), subst (Appends old.contents new.contents) s.leaves.0 s.written)

-- ---- one way

same_end : (count : ℕ) (behind : Front) (e f : EndCause) → IsEnd e count behind (Some []) → IsEnd f count behind (Some []) → e ≡ f
same_end count behind InputEnd InputEnd p q = refl
same_end count behind CutFrame CutFrame p q = refl
same_end count behind BadFrame BadFrame p q = refl
same_end count behind Enough Enough p q = refl
same_end count behind InputEnd BadFrame p q = absurd (subst IsBad p.1 q.1)
same_end count behind CutFrame BadFrame p q = absurd (subst IsBad p.1 q.1)
same_end count behind BadFrame InputEnd p q = absurd (subst IsBad q.1 p.1)
same_end count behind BadFrame CutFrame p q = absurd (subst IsBad q.1 p.1)
same_end count behind e f p q = grind (arith, p, q)

at_most : (count : ℕ) (behind : Front) (left : Option (List ℕ)) (e : EndCause) → IsEnd e count behind left → count < 10001
at_most count behind left Enough p = omega (arith, p)
at_most count behind left e p = omega (arith, p.0)

-- where a frame of a request stands, only the count ends a connection
goes_on : (count : ℕ) (behind : Front) (body after : List ℕ) (r : Request) (e : EndCause) → behind ≡ Whole body after → SpellsRequest body r → IsEnd e count behind (Some []) → count ≡ 10000
goes_on count behind body after r BadFrame at s p = let none : SpellsNone body = subst IsBad at p.1 in absurd (none r s)
goes_on count behind body after r Enough at s p = p
goes_on count behind body after r e at s p = absurd (cc (at, p.1))

-- two frames of requests in one place are one, and so are their requests
abbrev pub OneRequest : Type 0
OneRequest = (body : List ℕ) (request other : Request) → SpellsRequest body request → SpellsRequest body other → request ≡ other

-- the deliveries of some bytes, after so many others, and the end
pub record Reads (count : ℕ) (bytes : List ℕ) (bodies : List (List ℕ)) (came : List Delivery) (rest : List ℕ) (e : EndCause) : Type 0 where
  pub frames : BeginsWith 512 bytes bodies rest
  pub each : AllZip SpellsRequest bodies (asked came)
  pub ends : end e (count + length came) rest (Some [])

pub one_way : OneRequest → (count : ℕ) (bytes : List ℕ) (xs ys : List (List ℕ)) (came others : List Delivery) (rest stop : List ℕ) (e f : EndCause)
    → Reads count bytes xs came rest e → Reads count bytes ys others stop f → LosesAlike came others → (came ≡ others) × (e ≡ f)
one_way one count bytes [] [] [] [] rest stop e f p q alike =
    (refl, same_end (count + 0) (next bytes) e f (subst (λ (b : List ℕ). end e (count + 0) b (Some [])) (sym p.frames) p.ends) (subst (λ (b : List ℕ). end f (count + 0) b (Some [])) (sym q.frames) q.ends))
one_way one count bytes [] (y ∷ ys) [] (d ∷ others) rest stop e f p q alike =
    let all = goes_on (count + 0) (next bytes) y q.frames.0 d.request e q.frames.1 q.each.0 (subst (λ (b : List ℕ). end e (count + 0) b (Some [])) (sym p.frames) p.ends) in
    absurd (omega (arith, all, at_most (count + length (d ∷ others)) (next stop) (Some []) f q.ends))
one_way one count bytes (x ∷ xs) [] (c ∷ came) [] rest stop e f p q alike =
    let all = goes_on (count + 0) (next bytes) x p.frames.0 c.request f p.frames.1 p.each.0 (subst (λ (b : List ℕ). end f (count + 0) b (Some [])) (sym q.frames) q.ends) in
    absurd (omega (arith, all, at_most (count + length (c ∷ came)) (next rest) (Some []) e p.ends))
one_way one count bytes (x ∷ xs) (y ∷ ys) (c ∷ came) (d ∷ others) rest stop e f p q (same, alike) =
    let (body, after) = whole_is x p.frames.0 y q.frames.0 (sym p.frames.1 ∙ q.frames.1) in
    let request : c.request ≡ d.request = one y c.request d.request (subst (λ (b : List ℕ). SpellsRequest b c.request) body p.each.0) q.each.0 in
    let E : EndCause → List ℕ → ℕ → Type 0 = λ end_ b n. end end_ n b (Some []) in
    let first : Reads (count + 1) q.frames.0 xs came rest e = record { frames = subst (λ (b : List ℕ). BeginsWith 512 b xs rest) after p.frames.2; each = p.each.1; ends = subst (E e rest) (omega arith) p.ends } in
    let second : Reads (count + 1) q.frames.0 ys others stop f = record { frames = q.frames.2; each = q.each.1; ends = subst (E f stop) (omega arith) q.ends } in
    let (rest_same, end_same) = one_way one (count + 1) q.frames.0 xs ys came others rest stop e f first second alike in
    (λ i. record { request = request i; taken = same i } ∷ rest_same i, end_same)
one_way one count bytes xs ys came others rest stop e f p q alike = absurd (grind (arith, p.each, q.each))

pub served_one_way : OneRequest → (input : List ℕ) (came others : List Delivery) (e f : EndCause) → IsServed input came e → IsServed input others f → LosesAlike came others → (came ≡ others) × (e ≡ f)
served_one_way one input came others e f p q alike =
    let E : ℕ → Type 0 = λ n. end e n p.rest (Some []) in
    let F : ℕ → Type 0 = λ n. end f n q.rest (Some []) in
    one_way one 0 input p.asks.bodies q.asks.bodies came others p.rest q.rest e f
    (record { frames = p.asks.frames; each = p.asks.each; ends = subst E (omega arith) p.ends })
    (record { frames = q.asks.frames; each = q.asks.each; ends = subst F (omega arith) q.ends }) alike

-- ---- several inputs, one after another

pub all_whole : Stay → (b : Book) (earlier all : List Delivery) (inputs : List (List ℕ)) (holds : List (Option (List ℕ))) (news : List Wire) (ends : List EndCause)
    → length holds ≡ length inputs → length ends ≡ length inputs → AreServed b earlier (wires (map Some inputs) holds) news (map Ok ends) all
    → (texts : List (List ℕ)) × AreServedWhole b earlier inputs texts ends all × AppendEach holds news texts
all_whole stay b earlier all [] [] [] [] h e s = ([], s.0, tt)
all_whole stay b earlier all (input ∷ inputs) (x ∷ holds) (new ∷ news) (end ∷ ends) h e (came, one, s) =
    let (is, grown) = served_whole stay (λ ds d. answer_to b (earlier ++ ds) d) came (record { remaining = Some input; contents = x }) new end input one refl in
    let (texts, rest, each) = all_whole stay b (earlier ++ came) all inputs holds news ends (omega (arith, h)) (omega (arith, e)) s in
    (served (λ ds d. answer_to b (earlier ++ ds) d) came end ∷ texts, (came, is, refl, rest), (grown, each))
all_whole stay b earlier all [] [] (new ∷ news) [] h e s = cc
all_whole stay b earlier all [] (x ∷ holds) news ends h e s = absurd (omega (arith, h))
all_whole stay b earlier all [] [] news (x ∷ ends) h e s = absurd (omega (arith, e))
all_whole stay b earlier all (input ∷ inputs) [] news ends h e s = absurd (omega (arith, h))
all_whole stay b earlier all (input ∷ inputs) (x ∷ holds) news [] h e s = absurd (omega (arith, e))
all_whole stay b earlier all (input ∷ inputs) (x ∷ holds) [] (end ∷ ends) h e s = absurd s

begins : (b : Book) (earlier all : List Delivery) (inputs texts : List (List ℕ)) (ends : List EndCause) → AreServedWhole b earlier inputs texts ends all → (more : List Delivery) × (all ≡ earlier ++ more)
begins b earlier all [] [] [] s = ([], s ∙ sym (append-nil earlier))
begins b earlier all (input ∷ inputs) (text ∷ texts) (e ∷ ends) (came, is, same, s) =
    let (more, all_is) = begins b (earlier ++ came) all inputs texts ends s in
    (came ++ more, all_is ∙ append_assoc earlier came more)
begins b earlier all inputs texts ends s = absurd s

alike_first : (came others more rest : List Delivery) → LosesAlike (came ++ more) (others ++ rest) → LosesAlike came others
alike_first (d ∷ came) (x ∷ others) more rest h = (h.0, alike_first came others more rest h.1)
alike_first came others more rest h = tt

alike_behind : (earlier came others : List Delivery) → LosesAlike (earlier ++ came) (earlier ++ others) → LosesAlike came others
alike_behind [] came others h = h
alike_behind (d ∷ earlier) came others h = alike_behind earlier came others h.1

alike_here : (earlier all others came came' more rest : List Delivery) → all ≡ (earlier ++ came) ++ more → others ≡ (earlier ++ came') ++ rest → LosesAlike all others → LosesAlike came came'
alike_here earlier all others came came' more rest p q h =
    let first : LosesAlike (earlier ++ (came ++ more)) others = subst (λ (x : List Delivery). LosesAlike x others) (p ∙ append_assoc earlier came more) h in
    alike_first came came' more rest (alike_behind earlier (came ++ more) (came' ++ rest) (subst (LosesAlike (earlier ++ (came ++ more))) (q ∙ append_assoc earlier came' rest) first))

pub all_one_way : OneRequest → (b : Book) (earlier all others : List Delivery) (inputs texts written : List (List ℕ)) (ends stops : List EndCause)
    → AreServedWhole b earlier inputs texts ends all → AreServedWhole b earlier inputs written stops others → LosesAlike all others → (texts ≡ written) × (ends ≡ stops) × (all ≡ others)
all_one_way one b earlier all others [] [] [] [] [] p q alike = (refl, refl, p ∙ sym q)
all_one_way one b earlier all others (input ∷ inputs) (text ∷ texts) (w ∷ written) (e ∷ ends) (f ∷ stops) (came, is, text_is, s) (came', is', w_is, s') alike =
    let (more, all_is) = begins b (earlier ++ came) all inputs texts ends s in
    let (rest, others_is) = begins b (earlier ++ came') others inputs written stops s' in
    let (same, same_end) = served_one_way one input came came' e f is is' (alike_here earlier all others came came' more rest all_is others_is alike) in
    let P : List Delivery → Type 0 = λ c. AreServedWhole b (earlier ++ c) inputs written stops others in
    let (texts_same, ends_same, all_same) = all_one_way one b (earlier ++ came) all others inputs texts written ends stops s (subst P (sym same) s') alike in
    let here : text ≡ w = text_is ∙ (λ i. served (λ ds d. answer_to b (earlier ++ ds) d) (same i) (same_end i)) ∙ sym w_is in
    (λ i. here i ∷ texts_same i, λ i. same_end i ∷ ends_same i, all_same)
all_one_way one b earlier all others inputs texts written ends stops p q alike = absurd (grind (arith, p, q))
