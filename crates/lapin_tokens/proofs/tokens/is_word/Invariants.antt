use Rattle.std.proofs.Common.{◌≡◌, ◌-◌, length, drop}
use Rattle.std.specs.Str.{bytes_eq}
use Rattle.lapin_tokens.proofs.tokens.is_word.Given as goal

-- what is left is the same where the whole is
abbrev pub invariant-loop-place : goal.invariant-loop-place
invariant-loop-place l = bytes_eq (drop l.place l.piece) (drop l.place l.word) ≡ bytes_eq l.piece l.word

abbrev pub decreases-loop-place : goal.decreases-loop-place
decreases-loop-place l = length l.piece - l.place
