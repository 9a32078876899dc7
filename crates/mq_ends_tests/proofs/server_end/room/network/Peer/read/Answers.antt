use Rattle.std.proofs.Common.{◌≡◌, ℕ, ◌+◌, ◌-◌, ◌<◌, List, [], ◌++◌, length, take, drop, ap, sym, ◌∙◌, arith, rules}
use Rattle.std.proofs.lemmas.List.{drop-drop, length-drop, take-append-drop, take_all}
use Rattle.mq_ends_tests.specs.Peers.{Stream}
use Rattle.mq_ends_tests.proofs.server_end.room.network.Peer.read.Goals as goal

-- the bytes that are to come, as the slice has them
whole_of : (bytes sends : List ℕ) (sent : ℕ) → bytes ≡ sends → take (length bytes - sent) (drop sent bytes) ≡ drop sent sends
whole_of bytes sends sent e = take_all (length bytes - sent) (drop sent bytes) (omega (arith, length-drop sent bytes)) ∙ ap (drop sent) e

-- what was read are the next bytes of what is sent
reads_next : (was sends piece slice : List ℕ) (sent count : ℕ) → was ≡ drop sent sends → take count piece ≡ take count slice → (count ≡ 0 → 0 < length piece → slice ≡ []) → slice ≡ drop sent sends
    → (was ≡ take count piece ++ drop (sent + count) sends) × (count ≡ 0 → 0 < length piece → drop (sent + count) sends ≡ [])
reads_next was sends piece slice sent count is given at_end same = (
  is ∙ sym (ap (λ (q : List ℕ). q ++ drop (sent + count) sends) (given ∙ ap (take count) same) ∙ ap (λ (q : List ℕ). take count (drop sent sends) ++ q) (sym (drop-drop count sent sends)) ∙ take-append-drop count (drop sent sends)),
  λ none some. let still : sent + count ≡ sent = omega (arith, none) in ap (λ (n : ℕ). drop n sends) still ∙ sym same ∙ at_end none some,
)

pub returns-clause-bytes : goal.returns-clause-bytes
returns-clause-bytes c =
    let sends = c.self.inside.sends.items in
    let lent : c.deref.result.now ≡ sends = search rules in
    reads_next c.args.self.now.coming sends c.read_next.new.piece _ c.self.inside.sent c.in_ok-count.count (ap (λ (p : Stream). p.coming) (sym (c.self.view_is ∙ c.next_read-most.ensures)))
    c.in_ok-count.ensures.given c.in_ok-count.ensures.end (whole_of c.deref.result.now sends c.self.inside.sent lent)
