-- Slots whose front was let go or passed over.
use Rattle.std.proofs.Common.{◌≡◌, ◌≢◌, ℕ, zero, suc, ◌+◌, ◌-◌, ◌<◌, ◌≤◌, ◌==◌, cond, List, [], ◌∷◌, ◌++◌, length, length-append, replicate, Option, Some, None, refl, sym, ◌∙◌, ap, subst, arith, slice_set, get_or, inl, inr, true, false}
use Rattle.std.specs.Option.{IsSome, option_map}
use Rattle.std.specs.Prelude.{is_some, is_none}
use Rattle.std.proofs.lemmas.Bool.{cases_lt}
use Rattle.std.proofs.lemmas.List.{get_or_past, get_or-set_same, set_past, set-get_or, get_or-append_right, set-append_right}
use Rattle.lapin_tables.specs.ByChannel.{at_channel, on_channel}
use Rattle.lapin_tables.specs.Index.{place_of}
use Rattle.lapin_tables.specs.Numbered.{under, with_under, first_kept, starts_taken}
use Rattle.lapin_tables.specs.Behind.{spread, Rises, EndsBy}
use Rattle.lapin_tables.proofs.Channels.{at-on_same, at-on_other, found, absent, unplaced, place-on}
use Rattle.lapin_tables.proofs.Passed.{length_spread, rises-below, spread-agree, get-spread, set-spread, spread-none, first-passed}

module _ {T : Type 0} where
  pub length_shown : (g : ℕ) (es : List (ℕ × T)) (xs : List (Option T)) → length (spread 0 g es ++ xs) ≡ g + length xs
  length_shown g es xs = length-append (spread 0 g es) xs ∙ ap (λ n. n + length xs) (length_spread 0 g es)

  pub under_kept : (g p n : ℕ) (es : List (ℕ × T)) (xs : List (Option T)) → n ≡ g + p + 1 → under n (spread 0 g es ++ xs) ≡ get_or xs p None
  under_kept g p zero es xs h = absurd (omega arith)
  under_kept g p (suc k) es xs h = let at : k - g ≡ p = omega arith in get_or-append_right (spread 0 g es) xs g k None (length_spread 0 g es) (omega arith) ∙ ap (λ i. get_or xs i None) at

  -- a slot that was read, put back at its place
  pub put-back : (p : ℕ) (xs : List (Option T)) (now : Option T) → now ≡ get_or xs p now → slice_set xs p now ≡ xs
  put-back p xs now read = ap (slice_set xs p) read ∙ set-get_or xs p now

  pub under-read : (g p n : ℕ) (es : List (ℕ × T)) (xs : List (Option T)) (now : Option T) → n ≡ g + p + 1 → p < length xs → now ≡ get_or xs p now → under n (spread 0 g es ++ xs) ≡ now
  under-read g p n es xs now place within read = under_kept g p n es xs place ∙ ap (λ (ys : List (Option T)). get_or ys p None) (sym (put-back p xs now read)) ∙ get_or-set_same xs p now None within

  pub under_passed : (g n : ℕ) (es : List (ℕ × T)) (xs : List (Option T)) → n ≤ g → Rises 0 es → under n (spread 0 g es ++ xs) ≡ at_channel n es
  under_passed g zero es xs h r = sym (rises-below 0 0 es r (omega arith))
  under_passed g (suc k) es xs h r = let at : 0 + k + 1 ≡ suc k = omega arith in get-spread 0 g k es xs (omega arith) ∙ ap (λ n. at_channel n es) at

  pub with-kept : (g p n : ℕ) (o : Option T) (es : List (ℕ × T)) (xs : List (Option T)) → n ≡ g + p + 1 → with_under n o (spread 0 g es ++ xs) ≡ spread 0 g es ++ slice_set xs p o
  with-kept g p zero o es xs h = absurd (omega arith)
  with-kept g p (suc k) o es xs h = let at : k - g ≡ p = omega arith in set-append_right (spread 0 g es) xs g k o (length_spread 0 g es) (omega arith) ∙ ap (λ i. spread 0 g es ++ slice_set xs i o) at

  -- another value beside a number that was passed over, or none
  pub with-passed : (g n : ℕ) (o : Option T) (es fs : List (ℕ × T)) (xs : List (Option T)) → n ≤ g → at_channel n fs ≡ o → ((m : ℕ) → m ≢ n → at_channel m fs ≡ at_channel m es) → with_under n o (spread 0 g es ++ xs) ≡ spread 0 g fs ++ xs
  with-passed g zero o es fs xs h here same = ap (λ ys. ys ++ xs) (spread-agree 0 g es fs (λ m past. same m (omega arith)))
  with-passed g (suc k) o es fs xs h here same =
      let at : suc k ≡ 0 + k + 1 = omega arith in
      set-spread 0 g k o es fs xs (omega arith) (subst (λ n. at_channel n fs ≡ o) at here) (λ m apart. same m (omega arith))

  pub with-written : (g n : ℕ) (w old : T) (es : List (ℕ × T)) (xs : List (Option T)) → n ≤ g → at_channel n es ≡ Some old → with_under n (Some w) (spread 0 g es ++ xs) ≡ spread 0 g (on_channel n (λ _. w) es) ++ xs
  with-written g n w old es xs h there = with-passed g n (Some w) es (on_channel n (λ _. w) es) xs h (at-on_same n (λ _. w) es ∙ ap (option_map (λ _. w)) there) (λ m apart. at-on_other n m (λ _. w) es (λ e. apart (sym e)))

  some-there : (o : Option T) → IsSome o → (x : T) × (o ≡ Some x)
  some-there None some = cc
  some-there (Some x) some = (x, refl)

  pub with-set : (g n : ℕ) (w : T) (es : List (ℕ × T)) (xs : List (Option T)) → n ≤ g → Rises 0 es → IsSome (under n (spread 0 g es ++ xs)) → with_under n (Some w) (spread 0 g es ++ xs) ≡ spread 0 g (on_channel n (λ _. w) es) ++ xs
  with-set g n w es xs h r some =
      let there = some-there (at_channel n es) (rw (under_passed g n es xs h r) at some) in
      with-written g n w there.0 es xs h there.1

  -- a write at the place of a number
  pub written-at : (n p : ℕ) (es : List (ℕ × T)) (w : T) → place_of n es ≡ Some p → slice_set es p (n, w) ≡ on_channel n (λ _. w) es
  written-at n p es w placed = let s = found n p es placed in ap (λ k. slice_set es p (k, w)) (sym (s.channel (n, w))) ∙ s.write (n, w) w

  pub rises-on : (i n : ℕ) (f : T → T) (es : List (ℕ × T)) → Rises i es → Rises i (on_channel n f es)
  rises-on i n f [] r = r
  rises-on i n f (e ∷ es) r =
      elim (e.0 == n) as (λ b. Rises i (cond b ((e.0, f e.1) ∷ es) (e ∷ on_channel n f es))) [
        | true ↦ r
        | false ↦ (r.0, rises-on e.0 n f es r.1)
      ]

  pub ends-on : (g n : ℕ) (f : T → T) (es : List (ℕ × T)) → EndsBy g es → EndsBy g (on_channel n f es)
  ends-on g n f es ends = λ m past. absent m (on_channel n f es) (place-on n m f es ∙ unplaced m es (ends m past))

  pub within-kept : (g p n : ℕ) (es : List (ℕ × T)) (xs : List (Option T)) → n ≡ g + p + 1 → IsSome (under n (spread 0 g es ++ xs)) → p < length xs
  within-kept g p n es xs h some =
      elim (cases_lt p (length xs)) [
        | inl below ↦ below
        | inr past ↦
            let none : under n (spread 0 g es ++ xs) ≡ None = under_kept g p n es xs h ∙ get_or_past xs p None past in
            let no : is_some {T = T} None ≡ true = rw none at some in
            cc
      ]

  pub with-past : (g p n : ℕ) (o : Option T) (es : List (ℕ × T)) (xs : List (Option T)) → n ≡ g + p + 1 → length xs ≤ p → with_under n o (spread 0 g es ++ xs) ≡ spread 0 g es ++ xs
  with-past g p n o es xs h past = with-kept g p n o es xs h ∙ ap (λ ys. spread 0 g es ++ ys) (set_past xs p o past)

  -- the first number that is there, behind those that were let go
  pub first-none : (g : ℕ) (xs : List (Option T)) → length xs ≡ 0 → first_kept (replicate g None ++ xs) ≡ None
  first-none zero [] none = refl
  first-none zero (x ∷ xs) none = absurd (omega arith)
  first-none (suc g) xs none = ap (option_map suc) (first-none g xs none)

  pub first-some : (g : ℕ) (xs : List (Option T)) → starts_taken xs ≡ false → 0 < length xs → first_kept (replicate g None ++ xs) ≡ Some (g + 1)
  first-some g [] kept more = absurd (omega arith)
  first-some g (None ∷ xs) kept more = cc
  first-some zero (Some x ∷ xs) kept more = refl
  first-some (suc g) (Some x ∷ xs) kept more = let next : suc (g + 1) ≡ suc g + 1 = omega arith in ap (option_map suc) (first-some g (Some x ∷ xs) kept more) ∙ ap Some next

  pub kept-push : (xs : List (Option T)) (x : T) → starts_taken xs ≡ false → starts_taken (xs ++ Some x ∷ []) ≡ false
  kept-push [] x kept = refl
  kept-push (None ∷ xs) x kept = cc
  kept-push (Some y ∷ xs) x kept = refl

  pub kept-set : (xs : List (Option T)) (i : ℕ) (x : T) → starts_taken xs ≡ false → starts_taken (slice_set xs i (Some x)) ≡ false
  kept-set [] i x kept = refl
  kept-set (None ∷ xs) i x kept = cc
  kept-set (Some y ∷ xs) zero x kept = refl
  kept-set (Some y ∷ xs) (suc i) x kept = refl

  -- what the first slot holds
  pub starts-read : (xs : List (Option T)) (x : Option T) → 0 < length xs → x ≡ get_or xs 0 x → is_none x ≡ starts_taken xs
  starts-read [] x more read = absurd (omega arith)
  starts-read (None ∷ xs) x more read = ap is_none read
  starts-read (Some y ∷ xs) x more read = ap is_none read

  pub starts-empty : (xs : List (Option T)) → length xs ≡ 0 → starts_taken xs ≡ false
  starts-empty [] none = refl
  starts-empty (x ∷ xs) none = absurd (omega arith)

  pub none-passed : (g : ℕ) (es : List (ℕ × T)) (xs : List (Option T)) → length es ≡ 0 → length xs ≡ 0 → first_kept (spread 0 g es ++ xs) ≡ None
  none-passed g [] xs none h = ap (λ (ys : List (Option T)). first_kept (ys ++ xs)) (spread-none 0 g [] (λ n past. refl)) ∙ first-none g xs h
  none-passed g (e ∷ es) xs none h = absurd (omega arith)

  pub first-window : (g : ℕ) (es : List (ℕ × T)) (xs : List (Option T)) → length es ≡ 0 → starts_taken xs ≡ false → 0 < length xs → first_kept (spread 0 g es ++ xs) ≡ Some (g + 1)
  first-window g [] xs none kept more = ap (λ (ys : List (Option T)). first_kept (ys ++ xs)) (spread-none 0 g [] (λ n past. refl)) ∙ first-some g xs kept more
  first-window g (e ∷ es) xs none kept more = absurd (omega arith)

  pub first-front : (g : ℕ) (e : ℕ × T) (es : List (ℕ × T)) (xs : List (Option T)) → 0 < length es → e ≡ get_or es 0 e → Rises 0 es → EndsBy g es → first_kept (spread 0 g es ++ xs) ≡ Some e.0
  first-front g e [] xs more read r ends = absurd (omega arith)
  first-front g e (f ∷ es) xs more read r ends = first-passed g f es xs r ends ∙ ap (λ (d : ℕ × T). Some d.0) (sym read)
