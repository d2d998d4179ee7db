use Rattle.std.proofs.Common.{◌≡◌, ℕ, ◌<◌, ◌≤◌, ◌-◌, ◌^◌, length, get_or, take, eqb, false}
use Rattle.std.specs.Str.Parse.{digits_value, AllDigits}
use Rattle.lapin_tokens.proofs.digits.digits_ahead.Given as goal

-- what was read up to here are digits, and the number is their value
abbrev pub invariant-loop-digit : goal.invariant-loop-digit
invariant-loop-digit l = record {
  within : l.place ≤ length l.line;
  few : l.place ≤ 19;
  small : l.number < 10 ^ l.place;
  value : l.number ≡ digits_value 10 (take l.place l.line);
  digits : AllDigits 10 (take l.place l.line);
  before : (k : ℕ) → k < l.place → eqb (get_or l.line k 0) 32 ≡ false;
}

abbrev pub decreases-loop-digit : goal.decreases-loop-digit
decreases-loop-digit l = 19 - l.place
