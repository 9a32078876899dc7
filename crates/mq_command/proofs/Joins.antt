-- Parts that are appended in turn.
use Rattle.mq_command.proofs.Words.{List, append_assoc, ℕ, ◌++◌, ◌≡◌}

pub four_joined : (t u v w x a b c d : List ℕ) → u ≡ t ++ a → v ≡ u ++ b → w ≡ v ++ c → x ≡ w ++ d → x ≡ t ++ (((a ++ b) ++ c) ++ d)
four_joined t u v w x a b c d first second third fourth = rw (fourth, third, second, first) (simp append_assoc)

pub five_joined : (t u v w x y a b c d e : List ℕ) → u ≡ t ++ a → v ≡ u ++ b → w ≡ v ++ c → x ≡ w ++ d → y ≡ x ++ e → y ≡ t ++ ((((a ++ b) ++ c) ++ d) ++ e)
five_joined t u v w x y a b c d e first second third fourth fifth = rw (fifth, fourth, third, second, first) (simp append_assoc)
