-- The tests that two ids or requests are the same are true of equal ones alone.
use Rattle.std.proofs.Common.{◌≡◌, ℕ, Bool, true, false, List, refl, subst}
use Rattle.std.specs.Prelude.{◌==◌, ◌&&◌}
use Rattle.std.specs.Cmp.Lexicographic.{bytes_decides}
use Rattle.mq_lemmas.proofs.Booleans.{first_so, second_so, both_so}
use Rattle.mq_lemmas.proofs.Numbers.{number_is, number_itself}
use Rattle.mq_request.specs.Same.{same_text, same_id, same_request}
use Rattle.mq_request.specs.declared.message.Id.{Id}
use Rattle.mq_request.specs.declared.message.Request.{Request}
use Rattle.mq_request.specs.declared.message.Request.TheVariants.{Reserve, Settle, Release, Limit, Usage, List as ListRequest, Retire}

pub text_is : (a b : List ℕ) → same_text a b ≡ true → a ≡ b
text_is a b h = (bytes_decides a b).0 h

pub text_itself : (a : List ℕ) → same_text a a ≡ true
text_itself a = (bytes_decides a a).1 refl

id_of : (a b : Id) → a.host ≡ b.host → a.run ≡ b.run → a.number ≡ b.number → a ≡ b
id_of a b p q r = λ i. record { host = p i; run = q i; number = r i }

pub id_is : (a b : Id) → same_id a b ≡ true → a ≡ b
id_is a b h =
    let rest = second_so (same_text a.host b.host) ((a.run == b.run) && (a.number == b.number)) h in
    id_of a b (text_is a.host b.host (first_so (same_text a.host b.host) ((a.run == b.run) && (a.number == b.number)) h)) (number_is a.run b.run (first_so (a.run == b.run) (a.number == b.number) rest)) (number_is a.number b.number (second_so (a.run == b.run) (a.number == b.number) rest))

pub id_itself : (a : Id) → same_id a a ≡ true
id_itself a = both_so (same_text a.host a.host) ((a.run == a.run) && (a.number == a.number)) (text_itself a.host) (both_so (a.run == a.run) (a.number == a.number) (number_itself a.run) (number_itself a.number))

pub same_from_id : (a b : Id) → a ≡ b → same_id a b ≡ true
same_from_id a b e = subst (λ (x : Id). same_id a x ≡ true) e (id_itself a)

five_so : (a b c d e : Bool) → (a && (b && (c && (d && e)))) ≡ true → (a ≡ true) × (b ≡ true) × (c ≡ true) × (d ≡ true) × (e ≡ true)
five_so true true true true e h = (refl, refl, refl, refl, h)
five_so true true true false e h = absurd cc
five_so true true false d e h = absurd cc
five_so true false c d e h = absurd cc
five_so false b c d e h = absurd cc

four_so : (a b c d : Bool) → (a && (b && (c && d))) ≡ true → (a ≡ true) × (b ≡ true) × (c ≡ true) × (d ≡ true)
four_so true true true d h = (refl, refl, refl, h)
four_so true true false d h = absurd cc
four_so true false c d h = absurd cc
four_so false b c d h = absurd cc

pub request_is : (a b : Request) → same_request a b ≡ true → a ≡ b
request_is (Reserve i t moment l n) (Reserve i' t' moment' l' n') h =
    let g = five_so (same_id i i') (t == t') (moment == moment') (same_text l l') (n == n') h in
    let p0 = id_is i i' g.0 in
    let p1 = number_is t t' g.1 in
    let p2 = number_is moment moment' g.2 in
    let p3 = text_is l l' g.3 in
    let p4 = number_is n n' g.4 in
    cc
request_is (Settle i t moment l n) (Settle i' t' moment' l' n') h =
    let g = five_so (same_id i i') (t == t') (moment == moment') (same_text l l') (n == n') h in
    let p0 = id_is i i' g.0 in
    let p1 = number_is t t' g.1 in
    let p2 = number_is moment moment' g.2 in
    let p3 = text_is l l' g.3 in
    let p4 = number_is n n' g.4 in
    cc
request_is (Release i t moment l) (Release i' t' moment' l') h =
    let g = four_so (same_id i i') (t == t') (moment == moment') (same_text l l') h in
    let p0 = id_is i i' g.0 in
    let p1 = number_is t t' g.1 in
    let p2 = number_is moment moment' g.2 in
    let p3 = text_is l l' g.3 in
    cc
request_is (Limit i d cap l) (Limit i' d' cap' l') h =
    let g = four_so (same_id i i') (d == d') (cap == cap') (same_text l l') h in
    let p0 = id_is i i' g.0 in
    let p1 = number_is d d' g.1 in
    let p2 = number_is cap cap' g.2 in
    let p3 = text_is l l' g.3 in
    cc
request_is (Usage l d) (Usage l' d') h =
    let p0 = text_is l l' (first_so (same_text l l') (d == d') h) in
    let p1 = number_is d d' (second_so (same_text l l') (d == d') h) in
    cc
request_is (ListRequest d l) (ListRequest d' l') h =
    let p0 = number_is d d' (first_so (d == d') (same_text l l') h) in
    let p1 = text_is l l' (second_so (d == d') (same_text l l') h) in
    cc
request_is (Retire i) (Retire i') h =
    let p0 = id_is i i' h in
    cc
request_is _ _ h = absurd cc

pub request_itself : (a : Request) → same_request a a ≡ true
request_itself (Reserve i t moment l n) = rw (id_itself i, number_itself t, number_itself moment, text_itself l, number_itself n) refl
request_itself (Settle i t moment l n) = rw (id_itself i, number_itself t, number_itself moment, text_itself l, number_itself n) refl
request_itself (Release i t moment l) = rw (id_itself i, number_itself t, number_itself moment, text_itself l) refl
request_itself (Limit i d cap l) = rw (id_itself i, number_itself d, number_itself cap, text_itself l) refl
request_itself (Usage l d) = rw (text_itself l, number_itself d) refl
request_itself (ListRequest d l) = rw (number_itself d, text_itself l) refl
request_itself (Retire i) = rw (id_itself i) refl

pub same_from_request : (a b : Request) → a ≡ b → same_request a b ≡ true
same_from_request a b e = subst (λ (x : Request). same_request a x ≡ true) e (request_itself a)
