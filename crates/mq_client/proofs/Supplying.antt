-- Reads made one after another.
use Rattle.mq_lemmas.proofs.Telling.{Tells-none, Tells-trans}
use Rattle.std.proofs.Common.{◌≡◌, ◌<◌, ◌≤◌, ℕ, List, [], ◌∷◌, ◌++◌, length, length-append, sym, ap, ◌∙◌, subst, append-nil, arith}
use Rattle.std.proofs.lemmas.List.Folds.{concat-append}
use Rattle.mq_client.proofs.Words.{Consumes, Consumes-trans, IsPiece, Supplies, Supply, Tells, all_push, concat, Consumes-nil}

pub concat_push : (pieces : List (List ℕ)) (piece : List ℕ) → concat (pieces ++ piece ∷ []) ≡ concat pieces ++ piece
concat_push pieces piece = concat-append pieces (piece ∷ []) ∙ ap (λ (l : List ℕ). concat pieces ++ l) (append-nil piece)

pub supplied_start : (a : Supply) → Supplies a a []
supplied_start a = record { consumed = Consumes-nil a.remaining; told = Tells-none a.reads; each = tt; few = omega arith }

-- one more read was made
pub supplied_more : (a b c : Supply) (pieces : List (List ℕ)) (piece : List ℕ) → Supplies a b pieces → Consumes b.remaining c.remaining piece → Tells b.reads c.reads (piece ∷ []) → length piece ≤ 4096
    → length pieces < 1099511627776 → Supplies a c (pieces ++ piece ∷ [])
supplied_more a b c pieces piece s consumed told small few =
    record {
      consumed = subst (Consumes a.remaining c.remaining) (sym (concat_push pieces piece)) (Consumes-trans _ _ _ _ _ s.consumed consumed);
      told = Tells-trans a.reads b.reads c.reads pieces (piece ∷ []) s.told told;
      each = all_push IsPiece pieces piece s.each small;
      few = omega (arith, few, length-append pieces (piece ∷ []));
    }
