use Rattle.std.proofs.Common.{◌≡◌, ◌-◌, length, take}
use Rattle.lapin_tokens.proofs.tokens.begins_with.Given as goal

-- the same bytes so far
abbrev pub invariant-loop-place : goal.invariant-loop-place
invariant-loop-place l = take l.place l.line ≡ take l.place l.word

abbrev pub decreases-loop-place : goal.decreases-loop-place
decreases-loop-place l = length l.word - l.place
