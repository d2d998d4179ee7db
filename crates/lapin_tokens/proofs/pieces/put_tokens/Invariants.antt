use Rattle.std.proofs.Common.{◌≡◌, map, drop}
use Rattle.lapin_tokens.specs.TokenText.{text_of, onto}
use Rattle.lapin_tokens.proofs.pieces.put_tokens.Given as goal

abbrev pub invariant-loop-token : goal.invariant-loop-token
invariant-loop-token l = onto l.out.items (map text_of (drop l.token-index l.tokens)) ≡ onto l.fn.out.items (map text_of l.tokens)
