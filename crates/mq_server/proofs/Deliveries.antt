-- What a legal ledger answers to deliveries, one after another.
use Rattle.std.proofs.Common.{Bool, List, [], ap, append-nil, append_assoc, false, fold, if◌then◌else◌, refl, sym, true, ℕ, ◌++◌, ◌∙◌, ◌∷◌, ◌≡◌}
use Rattle.mq_server.proofs.Words.{Book, Delivery, Entry, IsLegalBook, Reply, Request, Retry, answer, answer_to, answers, arrivals, asked, build, day_of, each_after, filter-append, first, fold-append, history_after, history_of, map-append, replies_after, reply, requests, requests_steps, taken_answers, taken_answers_after}

abbrev pub taken : Request → Delivery
taken r = record { request = r; taken = true }

abbrev pub lost : Request → Delivery
lost r = record { request = r; taken = false }

-- with no delivery the history is as it was
pub history_none : (b : Book) → IsLegalBook b → history_after b [] ≡ b.history
history_none b legal = ap (build (day_of b.zone) b.default) (ap first (append-nil (requests b.history)) ∙ legal.legal.distinct) ∙ sym legal.legal.built

-- ---- a ledger to which deliveries came, and then more

again : {A : Type 0} (f : List A → A → List A) (xs ys : List A) → fold f [] (fold f [] xs) ≡ fold f [] xs → fold f [] (fold f [] xs ++ ys) ≡ fold f [] (xs ++ ys)
again f xs ys e = fold-append f [] (fold f [] xs) ys ∙ ap (λ q. fold f q ys) e ∙ sym (fold-append f [] xs ys)

arrivals-append : (xs ys : List Delivery) → arrivals (xs ++ ys) ≡ arrivals xs ++ arrivals ys
arrivals-append xs ys = ap asked (filter-append (λ (d : Delivery). d.taken) xs ys) ∙ map-append (λ (d : Delivery). d.request) _ _

-- the same zone and default, and a history of deliveries
pub record Follows (b k : Book) (came : List Delivery) : Type 0 where
  pub zone : k.zone ≡ b.zone
  pub default : k.default ≡ b.default
  pub legal : IsLegalBook k
  pub history : k.history ≡ history_after b came

history_behind : (day : ℕ → ℕ) (default : ℕ) (H K : List Entry) (xs ys : List Request) → first (requests K) ≡ requests K → K ≡ history_of day default (requests H ++ xs)
    → history_of day default (requests K ++ ys) ≡ history_of day default (requests H ++ (xs ++ ys))
history_behind day default H K xs ys distinct e =
    let all = requests H ++ xs in
    let same : requests K ≡ first all = ap requests e ∙ requests_steps day default [] (first all) in
    let once : first (first all) ≡ first all = ap first (sym same) ∙ distinct ∙ same in
    ap (build day default) (ap (λ (q : List Request). first (q ++ ys)) same ∙ again _ all ys once ∙ ap first (append_assoc (requests H) xs ys))

-- the first ledger's rules with the second's history
abbrev with_history : Book → List Entry → Book
with_history b H = record { zone = b.zone; default = b.default; history = H }

same_rules : (b k : Book) (came : List Delivery) → Follows b k came → k ≡ with_history b k.history
same_rules b k came f = λ i. record { zone = f.zone i; default = f.default i; history = k.history }

history_with : (b k : Book) (came more : List Delivery) → Follows b k came → history_after (with_history b k.history) more ≡ history_after b (came ++ more)
history_with b k came more f =
    history_behind (day_of b.zone) b.default b.history k.history (arrivals came) (arrivals more) f.legal.legal.distinct f.history
    ∙ ap (λ (q : List Request). history_of (day_of b.zone) b.default (requests b.history ++ q)) (sym (arrivals-append came more))

-- more deliveries to it are more to the first
pub history_more : (b k : Book) (came more : List Delivery) → Follows b k came → history_after k more ≡ history_after b (came ++ more)
history_more b k came more f = ap (λ (x : Book). history_after x more) (same_rules b k came f) ∙ history_with b k came more f

pub answer_more : (b k : Book) (came more : List Delivery) (d : Delivery) → Follows b k came → answer_to k more d ≡ answer_to b (came ++ more) d
answer_more b k came more d f =
    ap (λ (x : Book). answer_to x more d) (same_rules b k came f)
    ∙ ap (λ (H : List Entry). (if d.taken then reply (day_of b.zone) b.default H d.request else Retry)) (history_with b k came more f)

-- answers that look back over earlier deliveries too
abbrev pub behind : {A : Type 0} → (List Delivery → Delivery → A) → List Delivery → List Delivery → Delivery → A
behind f seen ds d = f (seen ++ ds) d

pub same_answers : (b k : Book) (seen : List Delivery) → Follows b k seen → answer_to k ≡ behind (answer_to b) seen
same_answers b k seen f = λ i ds d. answer_more b k seen ds d f i

-- ---- what each delivery comes to by those before it, as its answer or its call

each_split : {A : Type 0} (f : List Delivery → Delivery → A) (earlier xs ys : List Delivery) → each_after f earlier (xs ++ ys) ≡ each_after f earlier xs ++ each_after f (earlier ++ xs) ys
each_split f earlier [] ys = ap (λ (q : List Delivery). each_after f q ys) (sym (append-nil earlier))
each_split {A} f earlier (x ∷ xs) ys =
    ap (λ (q : List A). f earlier x ∷ q) (each_split f (earlier ++ x ∷ []) xs ys ∙ ap (λ (q : List Delivery). each_after f (earlier ++ x ∷ []) xs ++ each_after f q ys) (append_assoc earlier (x ∷ []) xs))

each_behind : {A : Type 0} (f : List Delivery → Delivery → A) (seen earlier ds : List Delivery) → each_after f (seen ++ earlier) ds ≡ each_after (behind f seen) earlier ds
each_behind f seen earlier [] = refl
each_behind {A} f seen earlier (d ∷ ds) =
    ap (λ (q : List A). f (seen ++ earlier) d ∷ q) (ap (λ (q : List Delivery). each_after f q ds) (append_assoc seen earlier (d ∷ [])) ∙ each_behind f seen (earlier ++ d ∷ []) ds)

pub each_more : {A : Type 0} (f : List Delivery → Delivery → A) (seen came : List Delivery) → each_after f [] (seen ++ came) ≡ each_after f [] seen ++ each_after (behind f seen) [] came
each_more {A} f seen came =
    each_split f [] seen came ∙ ap (λ (q : List A). each_after f [] seen ++ q) (ap (λ (q : List Delivery). each_after f q came) (sym (append-nil seen)) ∙ each_behind f seen [] came)

pub answers_more : (answer : List Delivery → Delivery → Reply) (seen came : List Delivery) → answers answer (seen ++ came) ≡ answers answer seen ++ answers (behind answer seen) came
answers_more answer seen came = each_more answer seen came

-- ---- the answers to arrivals

abbrev made : Request → Bool → Delivery
made r t = record { request = r; taken = t }

replies_step : (b : Book) (earlier ds : List Delivery) (r : Request) (t : Bool)
    → taken_answers_after (answer_to b) (earlier ++ made r t ∷ []) ds ≡ replies_after (day_of b.zone) b.default (requests b.history ++ arrivals (earlier ++ made r t ∷ [])) (arrivals ds)
    → taken_answers_after (answer_to b) earlier (made r t ∷ ds) ≡ replies_after (day_of b.zone) b.default (requests b.history ++ arrivals earlier) (arrivals (made r t ∷ ds))
replies_step b earlier ds r true h =
    let more : requests b.history ++ arrivals (earlier ++ taken r ∷ []) ≡ (requests b.history ++ arrivals earlier) ++ r ∷ [] =
    ap (λ (q : List Request). requests b.history ++ q) (arrivals-append earlier (taken r ∷ [])) ∙ sym (append_assoc (requests b.history) (arrivals earlier) (r ∷ [])) in
    ap (λ (q : List Reply). reply (day_of b.zone) b.default (history_after b earlier) r ∷ q) (h ∙ ap (λ (q : List Request). replies_after (day_of b.zone) b.default q (arrivals ds)) more)
replies_step b earlier ds r false h =
    let more : requests b.history ++ arrivals (earlier ++ lost r ∷ []) ≡ requests b.history ++ arrivals earlier =
    ap (λ (q : List Request). requests b.history ++ q) (arrivals-append earlier (lost r ∷ []) ∙ append-nil (arrivals earlier)) in
    h ∙ ap (λ (q : List Request). replies_after (day_of b.zone) b.default q (arrivals ds)) more

replies_of : (b : Book) (earlier ds : List Delivery) → taken_answers_after (answer_to b) earlier ds ≡ replies_after (day_of b.zone) b.default (requests b.history ++ arrivals earlier) (arrivals ds)
replies_of b earlier [] = refl
replies_of b earlier (d ∷ ds) = replies_step b earlier ds d.request d.taken (replies_of b (earlier ++ d ∷ []) ds)

pub replies_of_all : (b : Book) (came : List Delivery) → taken_answers (answer_to b) came ≡ replies_after (day_of b.zone) b.default (requests b.history) (arrivals came)
replies_of_all b came = replies_of b [] came ∙ ap (λ (q : List Request). replies_after (day_of b.zone) b.default q (arrivals came)) (append-nil (requests b.history))
