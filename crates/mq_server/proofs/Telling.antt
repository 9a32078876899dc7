-- What a ledger reports of one delivery after another.
use Rattle.std.proofs.Common.{List, Option, [], ap, append-nil, subst, sym, ◌++◌, ◌∙◌, ◌∷◌, ◌≡◌}
use Rattle.mq_server.proofs.Words.{Delivery, Reply, ReportedCall, Tells, Tells-trans, call, calls}
use Rattle.mq_server.proofs.Deliveries.{behind, each_more}

-- nothing more was told
pub Tells-kept : (a b c : Option (List ReportedCall)) (xs : List ReportedCall) → Tells a b xs → Tells b c [] → Tells a c xs
Tells-kept a b c xs h i = subst (Tells a c) (append-nil xs) (Tells-trans a b c xs [] h i)

pub Tells-all : (a b : Option (List ReportedCall)) (xs : List ReportedCall) → Tells a b xs → Tells a b (xs ++ [])
Tells-all a b xs h = subst (Tells a b) (sym (append-nil xs)) h

-- the calls of more deliveries after those of earlier ones
pub calls_more : (answer : List Delivery → Delivery → Reply) (seen came : List Delivery) → calls answer (seen ++ came) ≡ calls answer seen ++ calls (behind answer seen) came
calls_more answer seen came = each_more (λ es d. call d (answer es d)) seen came

-- one call more
pub told_push : (answer : List Delivery → Delivery → Reply) (came : List Delivery) (d : Delivery) (x : Reply) (a b c : Option (List ReportedCall))
    → x ≡ answer came d → Tells a b (calls answer came) → Tells b c (call d x ∷ []) → Tells a c (calls answer (came ++ d ∷ []))
told_push answer came d x a b c is h i =
    let more : calls answer came ++ call d x ∷ [] ≡ calls answer (came ++ d ∷ []) =
    ap (λ (r : Reply). calls answer came ++ call d r ∷ []) (is ∙ ap (λ (q : List Delivery). answer q d) (sym (append-nil came))) ∙ sym (calls_more answer came (d ∷ [])) in
    subst (Tells a c) more (Tells-trans a b c (calls answer came) (call d x ∷ []) h i)
