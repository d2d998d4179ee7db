-- Laws of the words of a table by channel number, for its own code and for crates above.
use Rattle.std.proofs.Common.{◌≡◌, ◌≢◌, ℕ, zero, suc, ◌<◌, ◌==◌, Bool, true, false, cond, List, [], ◌∷◌, ◌++◌, length, map, Option, Some, None, refl, sym, ◌∙◌, ap, arith, slice_set, get_or, inl, inr, ne_eqb}
use Rattle.std.specs.Option.{option_map, option_or}
use Rattle.std.proofs.lemmas.Bool.Decides.{eqb_tells}
use Rattle.lapin_tables.specs.ByChannel.{at_channel, on_channel}
use Rattle.lapin_tables.specs.Index.{place_of}

pub nowhere-later : (o : Option ℕ) → option_map suc o ≡ None → o ≡ None
nowhere-later None h = refl
nowhere-later (Some q) h = cc

pub or-none : {X : Type 0} (o : Option X) → option_or o None ≡ o
or-none None = refl
or-none (Some x) = refl

suc-or : (o : Option ℕ) (b : Bool) (n : ℕ) → option_map suc (option_or o (cond b (Some n) None)) ≡ option_or (option_map suc o) (cond b (Some (suc n)) None)
suc-or None true n = refl
suc-or None false n = refl
suc-or (Some q) b n = refl

module _ {T : Type 0} where
  -- what stands at the place of a channel
  pub record Stands (c p : ℕ) (es : List (ℕ × T)) : Type 0 where
    pub within : p < length es
    pub channel : (d : ℕ × T) → (get_or es p d).0 ≡ c
    pub value : (d : ℕ × T) → at_channel c es ≡ Some (get_or es p d).1
    -- a write there is one of the channel's value
    pub write : (d : ℕ × T) (w : T) → slice_set es p ((get_or es p d).0, w) ≡ on_channel c (λ _. w) es

  stands-here : (c p : ℕ) (e : ℕ × T) (es : List (ℕ × T)) → (e.0 == c) ≡ true → e.0 ≡ c → Some 0 ≡ Some p → Stands c p (e ∷ es)
  stands-here c zero e es is on h = record { within = omega arith; channel = λ d. on; value = λ d. rw is refl; write = λ d w. rw is refl }
  stands-here c (suc p) e es is on h = cc

  stands-later : (c p : ℕ) (e : ℕ × T) (es : List (ℕ × T)) (o : Option ℕ) → (e.0 == c) ≡ false → ((q : ℕ) → o ≡ Some q → Stands c q es) → option_map suc o ≡ Some p → Stands c p (e ∷ es)
  stands-later c p e es None not rest h = cc
  stands-later c zero e es (Some q) not rest h = cc
  stands-later c (suc p) e es (Some q) not rest h =
      let same : Some q ≡ Some p = cc in
      let there : Stands c p es = rest p same in
      let within : p < length es = there.within in
      record { within = omega arith; channel = there.channel; value = λ d. rw not (there.value d); write = λ d w. rw not (ap (λ ks. e ∷ ks) (there.write d w)) }

  pub found : (c p : ℕ) (es : List (ℕ × T)) → place_of c es ≡ Some p → Stands c p es
  found c p [] h = cc
  found c p (e ∷ es) h =
      elim (eqb_tells e.0 c) [
        | inl same ↦ stands-here c p e es same.0 same.1 (rw same.0 at h)
        | inr other ↦ stands-later c p e es (place_of c es) other.0 (λ q. found c q es) (rw other.0 at h)
      ]

  -- a write at the place of a channel, beside the number that was read there
  pub written : (c p : ℕ) (es : List (ℕ × T)) (read : ℕ × T) (w : T) → place_of c es ≡ Some p → read ≡ get_or es p read → slice_set es p (read.0, w) ≡ on_channel c (λ _. w) es
  written c p es read w placed is = ap (λ (e : ℕ × T). slice_set es p (e.0, w)) is ∙ (found c p es placed).write read w

  pub absent : (c : ℕ) (es : List (ℕ × T)) → place_of c es ≡ None → at_channel c es ≡ None
  absent c [] h = refl
  absent c (e ∷ es) h =
      elim (e.0 == c) as (λ b. cond b (Some 0) (option_map suc (place_of c es)) ≡ None → cond b (Some e.1) (at_channel c es) ≡ None) [
        | true ↦ λ h. cc
        | false ↦ λ h. absent c es (nowhere-later (place_of c es) h)
      ] h

  -- the pair that stands at a channel's place
  pub entry-found : (c p : ℕ) (es : List (ℕ × T)) → Stands c p es → (d : ℕ × T) → Some (get_or es p d) ≡ option_map (λ v. (c, v)) (at_channel c es)
  entry-found c p es s d = ap (λ k. Some (k, (get_or es p d).1)) (s.channel d) ∙ sym (ap (option_map (λ v. (c, v))) (s.value d))

  pub unplaced : (c : ℕ) (es : List (ℕ × T)) → at_channel c es ≡ None → place_of c es ≡ None
  unplaced c [] h = refl
  unplaced c (e ∷ es) h =
      elim (e.0 == c) as (λ b. cond b (Some e.1) (at_channel c es) ≡ None → cond b (Some 0) (option_map suc (place_of c es)) ≡ None) [
        | true ↦ λ h. cc
        | false ↦ λ h. ap (option_map suc) (unplaced c es h)
      ] h

  pub place-on : (c d : ℕ) (f : T → T) (es : List (ℕ × T)) → place_of d (on_channel c f es) ≡ place_of d es
  place-on c d f [] = refl
  place-on c d f (e ∷ es) =
      elim (e.0 == c) as (λ b. place_of d (cond b ((e.0, f e.1) ∷ es) (e ∷ on_channel c f es)) ≡ cond (e.0 == d) (Some 0) (option_map suc (place_of d es))) [
        | true ↦ refl
        | false ↦ ap (λ (o : Option ℕ). cond (e.0 == d) (Some 0) (option_map suc o)) (place-on c d f es)
      ]

  pub place-push : (c d : ℕ) (v : T) (es : List (ℕ × T)) → place_of d (es ++ (c, v) ∷ []) ≡ option_or (place_of d es) (cond (c == d) (Some (length es)) None)
  place-push c d v [] = elim (c == d) as (λ b. cond b (Some 0) (option_map suc None) ≡ option_or {T = ℕ} None (cond b (Some 0) None)) [ true ↦ refl | false ↦ refl ]
  place-push c d v (e ∷ es) =
      elim (e.0 == d) as (λ b. cond b (Some 0) (option_map suc (place_of d (es ++ (c, v) ∷ []))) ≡ option_or (cond b (Some 0) (option_map suc (place_of d es))) (cond (c == d) (Some (suc (length es))) None)) [
        | true ↦ refl
        | false ↦ ap (option_map suc) (place-push c d v es) ∙ suc-or (place_of d es) (c == d) (length es)
      ]

  -- the value of a channel after a new channel was added
  pub at-push : (c d : ℕ) (v : T) (es : List (ℕ × T)) → at_channel d (es ++ (c, v) ∷ []) ≡ option_or (at_channel d es) (cond (c == d) (Some v) None)
  at-push c d v [] = refl
  at-push c d v (e ∷ es) =
      elim (e.0 == d) as (λ b. cond b (Some e.1) (at_channel d (es ++ (c, v) ∷ [])) ≡ option_or (cond b (Some e.1) (at_channel d es)) (cond (c == d) (Some v) None)) [
        | true ↦ refl
        | false ↦ at-push c d v es
      ]

  -- the value of a channel after a change of that channel
  pub at-on_same : (c : ℕ) (f : T → T) (es : List (ℕ × T)) → at_channel c (on_channel c f es) ≡ option_map f (at_channel c es)
  at-on_same c f [] = refl
  at-on_same c f (e ∷ es) =
      elim (eqb_tells e.0 c) [
        | inl same ↦ rw (same.0, same.0) refl
        | inr other ↦ rw (other.0, other.0) (at-on_same c f es)
      ]

  -- the value of a channel after a change of another
  pub at-on_other : (c d : ℕ) (f : T → T) (es : List (ℕ × T)) → c ≢ d → at_channel d (on_channel c f es) ≡ at_channel d es
  at-on_other c d f [] apart = refl
  at-on_other c d f (e ∷ es) apart =
      elim (eqb_tells e.0 c) [
        | inl same ↦
            let away : (e.0 == d) ≡ false = ne_eqb e.0 d (λ h. apart (sym same.1 ∙ h)) in
            rw (same.0, away) refl
        | inr other ↦ rw other.0 (ap (λ o. cond (e.0 == d) (Some e.1) o) (at-on_other c d f es apart))
      ]

  -- a change of a channel that is not there
  pub on-absent : (c : ℕ) (f : T → T) (es : List (ℕ × T)) → at_channel c es ≡ None → on_channel c f es ≡ es
  on-absent c f [] none = refl
  on-absent c f (e ∷ es) none =
      elim (e.0 == c) as (λ b. cond b (Some e.1) (at_channel c es) ≡ None → cond b ((e.0, f e.1) ∷ es) (e ∷ on_channel c f es) ≡ e ∷ es) [
        | true ↦ λ none. cc
        | false ↦ λ none. ap (λ ks. e ∷ ks) (on-absent c f es none)
      ] none

  -- a change of a channel, where its value is known
  pub on-known : (c : ℕ) (f : T → T) (x : T) (es : List (ℕ × T)) → at_channel c es ≡ Some x → on_channel c f es ≡ on_channel c (λ _. f x) es
  on-known c f x [] known = refl
  on-known c f x (e ∷ es) known =
      elim (e.0 == c) as (λ b. cond b (Some e.1) (at_channel c es) ≡ Some x → cond b ((e.0, f e.1) ∷ es) (e ∷ on_channel c f es) ≡ cond b ((e.0, f x) ∷ es) (e ∷ on_channel c (λ _. f x) es)) [
        | true ↦ λ known. let same : e.1 ≡ x = cc in ap (λ v. (e.0, f v) ∷ es) same
        | false ↦ λ known. ap (λ ks. e ∷ ks) (on-known c f x es known)
      ] known

  -- the value that is there already
  pub on-same : (c : ℕ) (x : T) (es : List (ℕ × T)) → at_channel c es ≡ Some x → on_channel c (λ _. x) es ≡ es
  on-same c x [] known = refl
  on-same c x (e ∷ es) known =
      elim (e.0 == c) as (λ b. cond b (Some e.1) (at_channel c es) ≡ Some x → cond b ((e.0, x) ∷ es) (e ∷ on_channel c (λ _. x) es) ≡ e ∷ es) [
        | true ↦ λ known. let same : e.1 ≡ x = cc in ap (λ v. (e.0, v) ∷ es) (sym same)
        | false ↦ λ known. ap (λ ks. e ∷ ks) (on-same c x es known)
      ] known

-- a list of channels with their values, each value through f
abbrev pub map_values : {T U : Type 0} → (T → U) → List (ℕ × T) → List (ℕ × U)
map_values f es = map (λ e. (e.0, f e.1)) es

-- the value of a channel, each value through f
pub at-values : {T U : Type 0} (f : T → U) (c : ℕ) (es : List (ℕ × T)) → at_channel c (map_values f es) ≡ option_map f (at_channel c es)
at-values f c [] = refl
at-values f c (e ∷ es) =
    elim (e.0 == c) as (λ b. cond b (Some (f e.1)) (at_channel c (map_values f es)) ≡ option_map f (cond b (Some e.1) (at_channel c es))) [
      | true ↦ refl
      | false ↦ at-values f c es
    ]

-- a change of a channel's value, each value through f
pub on-values : {T U : Type 0} (f : T → U) (c : ℕ) (w : T) (es : List (ℕ × T)) → map_values f (on_channel c (λ _. w) es) ≡ on_channel c (λ _. f w) (map_values f es)
on-values f c w [] = refl
on-values f c w (e ∷ es) =
    elim (e.0 == c) as (λ b. map_values f (cond b ((e.0, w) ∷ es) (e ∷ on_channel c (λ _. w) es)) ≡ cond b ((e.0, f w) ∷ map_values f es) ((e.0, f e.1) ∷ on_channel c (λ _. f w) (map_values f es))) [
      | true ↦ refl
      | false ↦ ap (λ ks. (e.0, f e.1) ∷ ks) (on-values f c w es)
    ]
