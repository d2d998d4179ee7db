use Rattle.std.proofs.Common.{◌∙◌, ◌+◌, ◌<◌, ◌≤◌, ◌^◌, List, ℕ, [], ◌∷◌, length, drop, sym, ap, eqb, arith}
use Rattle.std.specs.List.{slice_split}
use Rattle.std.proofs.lemmas.List.{take_rest}
use Rattle.lapin_tokens.proofs.SaidLaws.{digits_plain, one_piece, first_piece}
use Rattle.lapin_tokens.proofs.tokens.Tokens.number.Goals as goal

pub returns-then-place-line-clause-some : goal.returns-then-place-line-clause-some
returns-then-place-line-clause-some c =
    let line = c.self.inside.rest.now in
    let read = c.digits_ahead-number in
    let yes = c.if-not-begins_plainly.false in
    let small : read.result.0 < 2 ^ 64 = omega arith in
    let plain = digits_plain line read.result.0 read.result.1 read.ensures.within (c.begins_plainly.ensures.some yes) (c.begins_plainly.ensures.plain yes) read.ensures.value read.ensures.digits small in
    let all : length line ≤ read.result.1 = omega arith in
    (sym c.self.view_is ∙ rw c.if-not-self.false (one_piece line read.result.1 all read.ensures.no_space ∙ ap (λ (p : List ℕ). p ∷ []) plain), small)

pub returns-clause-some : goal.returns-clause-some
returns-clause-some c =
    let line = c.self.inside.rest.now in
    let read = c.digits_ahead-number in
    let yes = c.if-not-begins_plainly.false in
    let small : read.result.0 < 2 ^ 64 = omega arith in
    let plain = digits_plain line read.result.0 read.result.1 read.ensures.within (c.begins_plainly.ensures.some yes) (c.begins_plainly.ensures.plain yes) read.ensures.value read.ensures.digits small in
    let lt : read.result.1 < length line = omega arith in
    (sym c.self.view_is ∙ rw (c.if-not-self.false, take_rest) (first_piece line read.result.1 lt read.ensures.no_space c.if-line-place-ne32.false ∙ ap (λ (p : List ℕ). p ∷ slice_split (λ b. eqb b 32) (drop (read.result.1 + 1) line)) plain), small)
