-- What requests leave of a ledger, one after another.
use Rattle.mq_ledger.proofs.Words.{Book, refl, ◌∙◌}
use Rattle.mq_ledger.specs.Leaving.{LeavesLedger}

-- nothing was asked
pub left_alone : {S : Type 0} {book : S → Book} {has_kept is_sound has_store : S → Type 0} {s : S} → LeavesLedger book has_kept is_sound has_store s s
left_alone = record {
  same_zone = refl;
  same_default = refl;
  kept = λ kept. kept;
  no_store = λ has. has;
  sound = λ kept sound. sound;
}

-- more was asked after that
pub left_both : {S : Type 0} {book : S → Book} {has_kept is_sound has_store : S → Type 0} {old mid new : S}
    → LeavesLedger book has_kept is_sound has_store old mid → LeavesLedger book has_kept is_sound has_store mid new → LeavesLedger book has_kept is_sound has_store old new
left_both a b = record {
  same_zone = b.same_zone ∙ a.same_zone;
  same_default = b.same_default ∙ a.same_default;
  kept = λ kept. a.kept (b.kept kept);
  no_store = λ has. a.no_store (b.no_store has);
  sound = λ kept sound. b.sound kept (a.sound (b.kept kept) sound);
}
