-- What a drop takes out, and what repeated drops leave.
use Rattle.std.proofs.Common.{◌≡◌, ℕ, ◌==◌, Bool, true, false, cond, ◌||◌, not, List, [], ◌∷◌, ◌++◌, map, drop, Option, Some, None, refl, sym, ◌∙◌, ap, subst, slice_get, inl, inr}
use Rattle.std.specs.Bool.{if◌then◌else◌}
use Rattle.std.specs.Option.{option_map}
use Rattle.std.specs.List.{find, filter, list_any}
use Rattle.std.proofs.lemmas.Bool.Decides.{eqb_tells}
use Rattle.lapin_types.specs.Types.{Frame, ContentHeader}
use Rattle.lapin_rules.specs.Words.{without_first}
use Rattle.lapin_rules.specs.Frames.{MethodEntry, RestEntry, is_empty}
use Rattle.lapin_rules.specs.Drops.{frame_channel, no_lists, is_on, method_channel, publish_channel, is_rest_of, without_publishes_of, without_channel}
use Rattle.lapin_rules.specs.Leaving.{Lists}
use Rattle.lapin_types.specs.declared.leaving.Publish.{Publish}
use Rattle.lapin_outbox.specs.declared.dropped.Dropped.{Dropped}
use Rattle.lapin_outbox.specs.declared.queues.Waiting.{Waiting}
use Rattle.lapin_outbox.specs.Begun.{following, frames_left}
use Rattle.lapin_outbox.specs.Outgoing.{has_entries}
use Rattle.lapin_outbox.specs.Drops.{AreOn, told_rest, told_rest_of, told_method, told_publish, unbegun_of, entries_of, all_entries, without_unbegun, without_entry_of, without_entry}

-- ---- the first of a list that passes

module _ {X : Type 0} (p : X → Bool) where
  pub found-any : (xs : List X) (x : X) → find p xs ≡ Some x → list_any p xs ≡ true
  found-any [] x h = cc
  found-any (y ∷ ys) x h = elim (p y) as (λ b. cond b (Some y) (find p ys) ≡ Some x → (b || list_any p ys) ≡ true) [
    | true ↦ λ here. refl
    | false ↦ λ later. found-any ys x later
  ] h

  pub none-any : (xs : List X) → find p xs ≡ None → list_any p xs ≡ false
  none-any [] h = refl
  none-any (y ∷ ys) h = elim (p y) as (λ b. cond b (Some y) (find p ys) ≡ None → (b || list_any p ys) ≡ false) [
    | true ↦ λ here. cc
    | false ↦ λ later. none-any ys later
  ] h

  pub none-without : (xs : List X) → find p xs ≡ None → without_first p xs ≡ xs
  none-without [] h = refl
  none-without (y ∷ ys) h = elim (p y) as (λ b. cond b (Some y) (find p ys) ≡ None → cond b ys (y ∷ without_first p ys) ≡ y ∷ ys) [
    | true ↦ λ here. cc
    | false ↦ λ later. ap (λ zs. y ∷ zs) (none-without ys later)
  ] h

  -- it is the first of all that pass
  pub found-told : {Y : Type 0} (t : X → Y) (zs : List Y) (xs : List X) (x : X) → find p xs ≡ Some x → Some (t x) ≡ slice_get (map t (filter p xs) ++ zs) 0
  found-told t zs [] x h = cc
  found-told t zs (y ∷ ys) x h = elim (p y) as (λ b. cond b (Some y) (find p ys) ≡ Some x → Some (t x) ≡ slice_get (map t (cond b (y ∷ filter p ys) (filter p ys)) ++ zs) 0) [
    | true ↦ λ here. let same : y ≡ x = cc in ap (λ z. Some (t z)) (sym same)
    | false ↦ λ later. found-told t zs ys x later
  ] h

  pub none-told : {Y : Type 0} (t : X → Y) (xs : List X) → find p xs ≡ None → map t (filter p xs) ≡ []
  none-told t [] h = refl
  none-told t (y ∷ ys) h = elim (p y) as (λ b. cond b (Some y) (find p ys) ≡ None → map t (cond b (y ∷ filter p ys) (filter p ys)) ≡ []) [
    | true ↦ λ here. cc
    | false ↦ λ later. none-told t ys later
  ] h

  pub first-told : {Y : Type 0} (t : X → Y) (xs : List X) → option_map t (find p xs) ≡ slice_get (map t (filter p xs)) 0
  first-told t [] = refl
  first-told t (y ∷ ys) = elim (p y) as (λ b. option_map t (cond b (Some y) (find p ys)) ≡ slice_get (map t (cond b (y ∷ filter p ys) (filter p ys))) 0) [
    | true ↦ refl
    | false ↦ first-told t ys
  ]

  -- what passes, once the first is gone
  pub told-behind : {Y : Type 0} (t : X → Y) (xs : List X) → map t (filter p (without_first p xs)) ≡ drop 1 (map t (filter p xs))
  told-behind t [] = refl
  told-behind t (y ∷ ys) = elim (p y) as (λ b. p y ≡ b → map t (filter p (cond b ys (y ∷ without_first p ys))) ≡ drop 1 (map t (cond b (y ∷ filter p ys) (filter p ys)))) [
    | true ↦ λ passes. refl
    | false ↦ λ not. rw not (told-behind t ys)
  ] refl

  -- what does not pass stays, once the first is gone
  pub off-behind : (xs : List X) → filter (λ x. not (p x)) (without_first p xs) ≡ filter (λ x. not (p x)) xs
  off-behind [] = refl
  off-behind (y ∷ ys) = elim (p y) as (λ b. p y ≡ b → filter (λ x. not (p x)) (cond b ys (y ∷ without_first p ys)) ≡ cond (not b) (y ∷ filter (λ x. not (p x)) ys) (filter (λ x. not (p x)) ys)) [
    | true ↦ λ passes. refl
    | false ↦ λ fails. rw fails (ap (λ zs. y ∷ zs) (off-behind ys))
  ] refl

  -- where none passes all stay
  pub off-all : (xs : List X) → filter p xs ≡ [] → filter (λ x. not (p x)) xs ≡ xs
  off-all [] h = refl
  off-all (y ∷ ys) h = elim (p y) as (λ b. cond b (y ∷ filter p ys) (filter p ys) ≡ [] → cond (not b) (y ∷ filter (λ x. not (p x)) ys) (filter (λ x. not (p x)) ys) ≡ y ∷ ys) [
    | true ↦ λ here. cc
    | false ↦ λ later. ap (λ zs. y ∷ zs) (off-all ys later)
  ] h

  pub any-filter : {Y : Type 0} (t : X → Y) (xs : List X) → list_any p xs ≡ true → (y : Y) × (ys : List Y) × (map t (filter p xs) ≡ y ∷ ys)
  any-filter t [] h = cc
  any-filter {Y = Y} t (x ∷ xs) h = elim (p x) as (λ b. (b || list_any p xs) ≡ true → (y : Y) × (ys : List Y) × (map t (cond b (x ∷ filter p xs) (filter p xs)) ≡ y ∷ ys)) [
    | true ↦ λ here. (t x, map t (filter p xs), refl)
    | false ↦ λ later. any-filter t xs later
  ] h

  pub any-none : {Y : Type 0} (t : X → Y) (xs : List X) → list_any p xs ≡ false → map t (filter p xs) ≡ []
  any-none t [] h = refl
  any-none t (x ∷ xs) h = elim (p x) as (λ b. (b || list_any p xs) ≡ false → map t (cond b (x ∷ filter p xs) (filter p xs)) ≡ []) [
    | true ↦ λ here. cc
    | false ↦ λ later. any-none t xs later
  ] h

-- through a function that keeps the test
module _ {X Y : Type 0} (e : X → Y) (p : X → Bool) (q : Y → Bool) (same : (x : X) → q (e x) ≡ p x) where
  pub map-find : (xs : List X) → find q (map e xs) ≡ option_map e (find p xs)
  map-find [] = refl
  map-find (x ∷ xs) = rw (same x) (elim (p x) as (λ b. cond b (Some (e x)) (find q (map e xs)) ≡ option_map e (cond b (Some x) (find p xs))) [
    | true ↦ refl
    | false ↦ map-find xs
  ])

  pub map-without : (xs : List X) → map e (without_first p xs) ≡ without_first q (map e xs)
  map-without [] = refl
  map-without (x ∷ xs) = rw (same x) (elim (p x) as (λ b. map e (cond b xs (x ∷ without_first p xs)) ≡ cond b (map e xs) (e x ∷ without_first q (map e xs))) [
    | true ↦ refl
    | false ↦ ap (λ ys. e x ∷ ys) (map-without xs)
  ])

abbrev pub waiting_channel : Waiting → ℕ
waiting_channel w = w.channel

-- ---- the begun publish

pub rest-told : (ticket confirm : ℕ) (fs : List Frame) → is_empty (following ticket confirm fs) ≡ false → Some (record { ticket = Some ticket; publish = Some confirm }) ≡ slice_get (told_rest (following ticket confirm fs)) 0
rest-told ticket confirm [] h = cc
rest-told ticket confirm (f ∷ fs) h = refl

module _ (ticket confirm channel : ℕ) where
  on-channel : (c : ℕ) (pieces : List (List ℕ)) → is_empty (following ticket confirm (frames_left channel None pieces)) ≡ false → (channel == c) ≡ is_rest_of c (following ticket confirm (frames_left channel None pieces))
  on-channel c [] h = cc
  on-channel c (p ∷ ps) h = refl

  pub rest-on : (c : ℕ) (header : Option ContentHeader) (pieces : List (List ℕ)) → is_empty (following ticket confirm (frames_left channel header pieces)) ≡ false → (channel == c) ≡ is_rest_of c (following ticket confirm (frames_left channel header pieces))
  rest-on c None pieces h = on-channel c pieces h
  rest-on c (Some header) pieces h = refl

  bodies-on : (pieces : List (List ℕ)) → AreOn channel (following ticket confirm (frames_left channel None pieces))
  bodies-on [] = tt
  bodies-on (p ∷ ps) = (refl, bodies-on ps)

  pub all-on : (header : Option ContentHeader) (pieces : List (List ℕ)) → AreOn channel (following ticket confirm (frames_left channel header pieces))
  all-on None pieces = bodies-on pieces
  all-on (Some header) pieces = (refl, bodies-on pieces)

pub on-whole : (d c : ℕ) (fs : List RestEntry) → AreOn d fs → is_rest_of c fs ≡ true → AreOn c fs
on-whole d c [] on first = cc
on-whole d c (f ∷ fs) on first = elim (eqb_tells (frame_channel f.frame) c) [
  | inl same ↦ let is : d ≡ c = sym on.0 ∙ same.1 in let P : ℕ → Type 0 = λ n. AreOn n (f ∷ fs) in subst P is on
  | inr other ↦ let no : true ≡ false = sym first ∙ other.0 in cc
]

-- where a drop finds nothing of it
pub rest-none : (c : ℕ) (fs : List RestEntry) → None ≡ slice_get (told_rest_of c fs) 0 → (is_rest_of c fs ≡ false) × (told_rest_of c fs ≡ [])
rest-none c [] h = (refl, refl)
rest-none c (f ∷ fs) h = elim (frame_channel f.frame == c) as (λ b. None ≡ slice_get (if b then told_rest (f ∷ fs) else []) 0 → (b ≡ false) × ((if b then told_rest (f ∷ fs) else []) ≡ [])) [
  | true ↦ λ here. cc
  | false ↦ λ later. (refl, refl)
] h

-- ---- a drop of a channel's entry

module _ (c : ℕ) (l : Lists) (none : None ≡ slice_get (told_rest_of c l.rest) 0) where
  pub rest-stays : (fs : List RestEntry) → fs ≡ (if is_rest_of c l.rest then [] else l.rest) → fs ≡ l.rest
  rest-stays fs h = h ∙ ap (λ b. if b then [] else l.rest) (rest-none c l.rest none).0

  pub method-told : (m : MethodEntry) → find (is_on method_channel c) l.methods ≡ Some m → Some (told_method m) ≡ slice_get (entries_of c l) 0
  method-told m found =
      found-told (is_on method_channel c) told_method (unbegun_of c l) l.methods m found
      ∙ ap (λ (xs : List Dropped). slice_get (xs ++ (map told_method (filter (is_on method_channel c) l.methods) ++ unbegun_of c l)) 0) (sym (rest-none c l.rest none).1)

  pub method-left : (m : MethodEntry) → find (is_on method_channel c) l.methods ≡ Some m → record { rest = l.rest; methods = without_first (is_on method_channel c) l.methods; publishes = l.publishes } ≡ without_entry_of c l
  method-left m found = rw ((rest-none c l.rest none).0, found-any (is_on method_channel c) l.methods m found) refl

  pub publish-told : find (is_on method_channel c) l.methods ≡ None → option_map told_publish (find (is_on publish_channel c) l.publishes) ≡ slice_get (entries_of c l) 0
  publish-told absent =
      first-told (is_on publish_channel c) told_publish l.publishes
      ∙ ap (λ (xs : List Dropped). slice_get (xs ++ unbegun_of c l) 0) (sym (none-told (is_on method_channel c) told_method l.methods absent))
      ∙ ap (λ (xs : List Dropped). slice_get (xs ++ (map told_method (filter (is_on method_channel c) l.methods) ++ unbegun_of c l)) 0) (sym (rest-none c l.rest none).1)

  pub publish-left : find (is_on method_channel c) l.methods ≡ None → without_unbegun c l ≡ without_entry_of c l
  publish-left absent = rw ((rest-none c l.rest none).0, none-any (is_on method_channel c) l.methods absent) refl

pub no-first : {X : Type 0} (xs : List X) → slice_get xs 0 ≡ None → xs ≡ []
no-first [] h = refl
no-first (x ∷ xs) h = cc

pub no-entry : {X Y : Type 0} (f : X → Y) (xs : List X) → slice_get xs 0 ≡ None → slice_get (map f xs) 0 ≡ None
no-entry f [] h = refl
no-entry f (x ∷ xs) h = cc

last-of : (fs : List RestEntry) (ms : List MethodEntry) (ps : List Publish) (p : Publish) → None ≡ slice_get (told_rest fs) 0 → slice_get ms 0 ≡ None → slice_get ps 0 ≡ Some p → (Some (told_publish p) ≡ slice_get (all_entries (record { rest = fs; methods = ms; publishes = ps })) 0) × (true ≡ has_entries (record { rest = fs; methods = ms; publishes = ps })) × (record { rest = []; methods = []; publishes = drop 1 ps } ≡ without_entry (record { rest = fs; methods = ms; publishes = ps }))
last-of (f ∷ fs) ms ps p none absent first = cc
last-of [] (m ∷ ms) ps p none absent first = cc
last-of [] [] [] p none absent first = cc
last-of [] [] (q ∷ qs) p none absent first = let same : q ≡ p = cc in (ap (λ x. Some (told_publish x)) (sym same), refl, refl)

-- a drop of a publish, where there is nothing before it
pub last-told : (l : Lists) (p : Publish) → None ≡ slice_get (told_rest l.rest) 0 → slice_get l.methods 0 ≡ None → slice_get l.publishes 0 ≡ Some p → (Some (told_publish p) ≡ slice_get (all_entries l) 0) × (true ≡ has_entries l) × (record { rest = []; methods = []; publishes = drop 1 l.publishes } ≡ without_entry l)
last-told l p none absent first = last-of l.rest l.methods l.publishes p none absent first

pub lists-are : (fs gs : List RestEntry) (ms ns : List MethodEntry) (ps qs : List Publish) → fs ≡ gs → ms ≡ ns → ps ≡ qs → ◌≡◌ {A = Lists} (record { rest = fs; methods = ms; publishes = ps }) (record { rest = gs; methods = ns; publishes = qs })
lists-are fs gs ms ns ps qs r m p = cc

-- ---- repeated drops

module _ {X : Type 0} where
  front-gone : (y : X) (xs ys zs : List X) → xs ≡ y ∷ ys → drop 1 xs ++ zs ≡ drop 1 (xs ++ zs)
  front-gone y [] ys zs h = cc
  front-gone y (x ∷ xs) ys zs h = refl

  both-empty : (xs ys : List X) → xs ++ ys ≡ [] → (xs ≡ []) × (ys ≡ [])
  both-empty [] ys h = (refl, h)
  both-empty (x ∷ xs) ys h = cc

  map-empty : {Y : Type 0} (t : X → Y) (xs : List X) → map t xs ≡ [] → xs ≡ []
  map-empty t [] h = refl
  map-empty t (x ∷ xs) h = cc

rest-empty : (c : ℕ) (fs : List RestEntry) → told_rest_of c fs ≡ [] → is_rest_of c fs ≡ false
rest-empty c [] h = refl
rest-empty c (f ∷ fs) h = elim (frame_channel f.frame == c) as (λ b. (if b then told_rest (f ∷ fs) else []) ≡ [] → b ≡ false) [
  | true ↦ λ here. cc
  | false ↦ λ later. refl
] h

abbrev lists : List RestEntry → List MethodEntry → List Publish → Lists
lists fs ms ps = record { rest = fs; methods = ms; publishes = ps }

module _ (c : ℕ) where
  told-if : (fs : List RestEntry) (ms : List MethodEntry) (ps : List Publish) (r m : Bool) → is_rest_of c fs ≡ r → list_any (is_on method_channel c) ms ≡ m → entries_of c (without_entry_of c (lists fs ms ps)) ≡ drop 1 (entries_of c (lists fs ms ps))
  told-if [] ms ps true m rest any = cc
  told-if (f ∷ fs) ms ps true m rest any = rw rest refl
  told-if fs ms ps false true rest any =
      let some = any-filter (is_on method_channel c) told_method ms any in
      rw (rest, any) (
      rw rest (
      ap (λ (xs : List Dropped). xs ++ unbegun_of c (lists fs ms ps)) (told-behind (is_on method_channel c) told_method ms)
      ∙ front-gone some.0 (map told_method (filter (is_on method_channel c) ms)) some.1 (unbegun_of c (lists fs ms ps)) some.2
      )
      )
  told-if fs ms ps false false rest any =
      rw (rest, any) (rw (rest, any-none (is_on method_channel c) told_method ms any) (told-behind (is_on publish_channel c) told_publish ps))

  others-if : (fs : List RestEntry) (ms : List MethodEntry) (ps : List Publish) (r m : Bool) → is_rest_of c fs ≡ r → list_any (is_on method_channel c) ms ≡ m → without_channel c (without_entry_of c (lists fs ms ps)) ≡ without_channel c (lists fs ms ps)
  others-if [] ms ps true m rest any = cc
  others-if (f ∷ fs) ms ps true m rest any = rw rest refl
  others-if fs ms ps false true rest any = rw (rest, any) (rw rest (lists-are _ _ _ _ _ _ refl (off-behind (is_on method_channel c) ms) refl))
  others-if fs ms ps false false rest any = rw (rest, any) (rw rest (lists-are _ _ _ _ _ _ refl refl (off-behind (is_on publish_channel c) ps)))

  pub channel-told : (l : Lists) → entries_of c (without_entry_of c l) ≡ drop 1 (entries_of c l)
  channel-told l = told-if l.rest l.methods l.publishes (is_rest_of c l.rest) (list_any (is_on method_channel c) l.methods) refl refl

  pub channel-others : (l : Lists) → without_channel c (without_entry_of c l) ≡ without_channel c l
  channel-others l = others-if l.rest l.methods l.publishes (is_rest_of c l.rest) (list_any (is_on method_channel c) l.methods) refl refl

  pub channel-empty : (l : Lists) → slice_get (entries_of c l) 0 ≡ None → without_channel c l ≡ l
  channel-empty l none =
      let parts = both-empty (told_rest_of c l.rest) (map told_method (filter (is_on method_channel c) l.methods) ++ unbegun_of c l) (no-first (entries_of c l) none) in
      let waiting = both-empty (map told_method (filter (is_on method_channel c) l.methods)) (unbegun_of c l) parts.1 in
      let rest : (if is_rest_of c l.rest then [] else l.rest) ≡ l.rest = rw (rest-empty c l.rest parts.0) refl in
      lists-are _ _ _ _ _ _ rest
      (off-all (is_on method_channel c) l.methods (map-empty told_method (filter (is_on method_channel c) l.methods) waiting.0))
      (off-all (is_on publish_channel c) l.publishes (map-empty told_publish (filter (is_on publish_channel c) l.publishes) waiting.1))

  pub unbegun-told : (l : Lists) → unbegun_of c (without_unbegun c l) ≡ drop 1 (unbegun_of c l)
  unbegun-told l = told-behind (is_on publish_channel c) told_publish l.publishes

  pub unbegun-others : (l : Lists) → without_publishes_of c (without_unbegun c l) ≡ without_publishes_of c l
  unbegun-others l = lists-are _ _ _ _ _ _ refl refl (off-behind (is_on publish_channel c) l.publishes)

  pub unbegun-empty : (l : Lists) → slice_get (unbegun_of c l) 0 ≡ None → without_publishes_of c l ≡ l
  unbegun-empty l none = lists-are _ _ _ _ _ _ refl refl (off-all (is_on publish_channel c) l.publishes (map-empty told_publish (filter (is_on publish_channel c) l.publishes) (no-first (unbegun_of c l) none)))

all-if : (fs : List RestEntry) (ms : List MethodEntry) (ps : List Publish) → all_entries (without_entry (lists fs ms ps)) ≡ drop 1 (all_entries (lists fs ms ps))
all-if (f ∷ fs) ms ps = refl
all-if [] (m ∷ ms) ps = refl
all-if [] [] (p ∷ ps) = refl
all-if [] [] [] = refl

none-if : (fs : List RestEntry) (ms : List MethodEntry) (ps : List Publish) → slice_get (all_entries (lists fs ms ps)) 0 ≡ None → lists fs ms ps ≡ no_lists
none-if (f ∷ fs) ms ps h = cc
none-if [] (m ∷ ms) ps h = cc
none-if [] [] (p ∷ ps) h = cc
none-if [] [] [] h = refl

pub all-told : (l : Lists) → all_entries (without_entry l) ≡ drop 1 (all_entries l)
all-told l = all-if l.rest l.methods l.publishes

pub all-empty : (l : Lists) → slice_get (all_entries l) 0 ≡ None → l ≡ no_lists
all-empty l none = none-if l.rest l.methods l.publishes none
