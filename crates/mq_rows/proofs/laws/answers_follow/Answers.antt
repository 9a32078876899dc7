use Rattle.std.proofs.Common.{◌≡◌, ℕ, ◌+◌, List, [], ◌∷◌, true, false, refl, arith, length, is_some}
use Rattle.mq_rows.proofs.Words.{Entry, IsUnretired, ListRequest, Request, Usage, id_of, is_below, number_of, requests}
use Rattle.mq_rows.proofs.Clearing.{Floors, all_cleared, other_rows}
use Rattle.mq_rows.proofs.Numbered.{rows_from}
use Rattle.mq_rows.proofs.Trans.{retires_nothing}
use Rattle.mq_rows.proofs.laws.answers_follow.Goals as goal

as_many : (G : List Entry) (n : ℕ) (H : List Entry) → length (rows_from G n H) ≡ length H
as_many G n [] = refl
as_many G n (x ∷ H) = omega (arith, as_many G (n + 1) H)

own_number : (H : List Entry) (r : Request) → IsUnretired H r → is_some (id_of r) ≡ true → is_below (requests H) (number_of r) ≡ false
own_number H (Usage login d) above some = absurd (cc some)
own_number H (ListRequest d l) above some = absurd (cc some)
own_number H r above some = above (number_of r) refl

pub returns : goal.returns
returns c =
    let floors : Floors = record { more = c.one_more_floor.ensures.floor; below = c.one_more_floor.ensures.below } in
    record {
      row = λ H e plain above some. other_rows floors H e (λ t. retires_nothing e.request t plain) (own_number H e.request above some);
      retired = λ H id some above. all_cleared floors H id some above;
      count = λ H. as_many H 1 H;
    }
