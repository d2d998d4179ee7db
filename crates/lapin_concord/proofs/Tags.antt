-- Two publishes of one opening that have tags have different tags: the later of them counts the earlier.
use Rattle.std.proofs.Common.{◌≡◌, ℕ, zero, suc, ◌+◌, ◌<◌, ◌≤◌, Bool, true, false, cond, ◌||◌, List, [], ◌∷◌, ◌++◌, refl, sym, ◌∙◌, ap, subst, append_assoc, append-nil, Option, Some, None, inl, inr, eq-eqb, arith}
use Rattle.std.specs.List.{list_any, count_by}
use Rattle.std.proofs.lemmas.Bool.Decides.{eqb_tells}
use Rattle.std.proofs.lemmas.List.Folds.{list_any-append}
use Rattle.std.proofs.lemmas.List.Sums.{sum_by-append}
use Rattle.lapin_types.specs.declared.outcome.Outcome.{Outcome}
use Rattle.lapin_rules.specs.ConfirmMarks.{ConfirmMark}
use Rattle.lapin_rules.specs.ConfirmMarks as mark
use Rattle.lapin_rules.specs.Words.{after, through, since, many}
use Rattle.lapin_rules.specs.ConfirmReadings.{adds, begins, selects, leaves_on, leaves, opening, is_selected, place, has_left, channel_of, channel_in, added, tag_on, tag_of, first_settled, first_rejected, life}
use Rattle.lapin_rules.specs.ReturnReadings.{is_gone}
use Rattle.lapin_rules.proofs.ConfirmLaws.{accepted-push}
use Rattle.lapin_rules.proofs.ListLaws.{since_none}
use Rattle.lapin_confirm.specs.Follows.{pending_cell, left_cell, queued_cell, open_cell, cell_in, WasAdded, MayCome, CameAfter}
use Rattle.lapin_confirm.specs.declared.cell.Cell.TheVariants as cell
use Rattle.lapin_concord.specs.Openings.{opening_of}
use Rattle.lapin_tables.proofs.Bools.{same_number, only_first}

-- ---- lists

module _ {X : Type 0} where
  -- which of two comes first
  pub data Order (p q : X → Bool) (xs : List X) : Type 0 where
    Same : (x : X) → p x ≡ true → q x ≡ true → Order p q xs
    First : (us vs ws : List X) (x y : X) → xs ≡ us ++ x ∷ (vs ++ y ∷ ws) → q y ≡ true → through p xs ≡ us ++ x ∷ [] → through q xs ≡ us ++ x ∷ (vs ++ y ∷ []) → Order p q xs
    Second : (us vs ws : List X) (x y : X) → xs ≡ us ++ x ∷ (vs ++ y ∷ ws) → p y ≡ true → through q xs ≡ us ++ x ∷ [] → through p xs ≡ us ++ x ∷ (vs ++ y ∷ []) → Order p q xs

  record There (p : X → Bool) (xs : List X) : Type 0 where
    before : List X
    it : X
    behind : List X
    is : xs ≡ before ++ it ∷ behind
    passes : p it ≡ true
    through_ : through p xs ≡ before ++ it ∷ []

  there_behind : (p : X → Bool) (x : X) (xs : List X) → p x ≡ false → There p xs → There p (x ∷ xs)
  there_behind p x xs n t = record { before = x ∷ t.before; it = t.it; behind = t.behind; is = ap (λ ys. x ∷ ys) t.is; passes = t.passes; through_ = rw n (ap (λ ys. x ∷ ys) t.through_) }

  there : (p : X → Bool) (xs : List X) → list_any p xs ≡ true → There p xs
  there p [] h = cc
  there p (x ∷ xs) h = (elim (p x) as (λ b. p x ≡ b → (b || list_any p xs) ≡ true → There p (x ∷ xs)) [
    | true ↦ λ e h. record { before = []; it = x; behind = xs; is = refl; passes = e; through_ = rw e refl }
    | false ↦ λ e h. there_behind p x xs e (there p xs h)
  ]) refl h

  order_behind : (p q : X → Bool) (x : X) (xs : List X) → p x ≡ false → q x ≡ false → Order p q xs → Order p q (x ∷ xs)
  order_behind p q x xs a b (Same y c d) = Same y c d
  order_behind p q x xs a b (First us vs ws y z is h s t) = First (x ∷ us) vs ws y z (ap (λ ys. x ∷ ys) is) h (rw a (ap (λ ys. x ∷ ys) s)) (rw b (ap (λ ys. x ∷ ys) t))
  order_behind p q x xs a b (Second us vs ws y z is h s t) = Second (x ∷ us) vs ws y z (ap (λ ys. x ∷ ys) is) h (rw b (ap (λ ys. x ∷ ys) s)) (rw a (ap (λ ys. x ∷ ys) t))

  order_at : (p q : X → Bool) (x : X) (xs : List X) (a b : Bool) → p x ≡ a → q x ≡ b → (a || list_any p xs) ≡ true → (b || list_any q xs) ≡ true → (a ≡ false → b ≡ false → Order p q xs) → Order p q (x ∷ xs)
  order_at p q x xs true true e f h k r = Same x e f
  order_at p q x xs true false e f h k r = let t = there q xs k in First [] t.before t.behind x t.it (ap (λ ys. x ∷ ys) t.is) t.passes (rw e refl) (rw f (ap (λ ys. x ∷ ys) t.through_))
  order_at p q x xs false true e f h k r = let t = there p xs h in Second [] t.before t.behind x t.it (ap (λ ys. x ∷ ys) t.is) t.passes (rw f refl) (rw e (ap (λ ys. x ∷ ys) t.through_))
  order_at p q x xs false false e f h k r = order_behind p q x xs e f (r refl refl)

  none_left : (p : X → Bool) (x : X) (xs : List X) → p x ≡ false → list_any p (x ∷ xs) ≡ true → list_any p xs ≡ true
  none_left p x xs n h = ap (λ b. b || list_any p xs) (sym n) ∙ h

  pub order : (p q : X → Bool) (xs : List X) → list_any p xs ≡ true → list_any q xs ≡ true → Order p q xs
  order p q [] h k = cc
  order p q (x ∷ xs) h k = order_at p q x xs (p x) (q x) refl refl h k (λ a b. order p q xs (none_left p x xs a h) (none_left q x xs b k))

  -- of a longer list
  many-append : (p : X → Bool) (xs ys : List X) → many p (xs ++ ys) ≡ many p xs + many p ys
  many-append p [] ys = omega arith
  many-append p (x ∷ xs) ys =
      let h : many p (xs ++ ys) ≡ many p xs + many p ys = many-append p xs ys in
      elim (p x) as (λ b. cond b (many p (xs ++ ys) + 1) (many p (xs ++ ys)) ≡ cond b (many p xs + 1) (many p xs) + many p ys) [ true ↦ omega (arith, h) | false ↦ h ]

  many_none : (p : X → Bool) (xs : List X) → many p xs ≡ 0 → list_any p xs ≡ false
  many_none p [] h = refl
  many_none p (x ∷ xs) h = elim (p x) as (λ b. cond b (many p xs + 1) (many p xs) ≡ 0 → (b || list_any p xs) ≡ false) [ true ↦ λ h. absurd (omega (arith, h)) | false ↦ λ h. many_none p xs h ] h

  since_at : (p : X → Bool) (x : X) (xs ys : List X) (b : Bool) → list_any p ys ≡ false → list_any p xs ≡ b → (b ≡ true → since p (xs ++ ys) ≡ since p xs ++ ys) → (p x || b) ≡ true → since p ((x ∷ xs) ++ ys) ≡ since p (x ∷ xs) ++ ys
  since_at p x xs ys true n e r h =
      let any : list_any p (xs ++ ys) ≡ true = list_any-append p xs ys ∙ ap (λ b. b || list_any p ys) e in
      rw (any, e) (r refl)
  since_at p x xs ys false n e r h =
      let any : list_any p (xs ++ ys) ≡ false = list_any-append p xs ys ∙ (ap (λ b. b || list_any p ys) e ∙ n) in
      let here : p x ≡ true = only_first (p x) h in
      rw (any, e, here) refl

  since-append : (p : X → Bool) (xs ys : List X) → list_any p ys ≡ false → list_any p xs ≡ true → since p (xs ++ ys) ≡ since p xs ++ ys
  since-append p [] ys n h = cc
  since-append p (x ∷ xs) ys n h = since_at p x xs ys (list_any p xs) n refl (λ e. since-append p xs ys n e) h

  after-append : (p : X → Bool) (xs ys : List X) → list_any p xs ≡ true → after p (xs ++ ys) ≡ after p xs ++ ys
  after-append p [] ys h = cc
  after-append p (x ∷ xs) ys h = elim (p x) as (λ b. (b || list_any p xs) ≡ true → cond b (xs ++ ys) (after p (xs ++ ys)) ≡ cond b xs (after p xs) ++ ys) [ true ↦ λ h. refl | false ↦ λ h. after-append p xs ys h ] h

  count-append : (p : X → Bool) (xs ys : List X) → count_by p (xs ++ ys) ≡ count_by p xs + count_by p ys
  count-append p xs ys = sum_by-append (λ x. cond (p x) 1 0) xs ys

  count_last : (p : X → Bool) (xs : List X) (y : X) → p y ≡ true → 0 < count_by p (xs ++ y ∷ [])
  count_last p xs y h =
      let one : count_by p (y ∷ []) ≡ 1 = rw h refl in
      let all : count_by p (xs ++ y ∷ []) ≡ count_by p xs + count_by p (y ∷ []) = count-append p xs (y ∷ []) in
      omega (arith, one, all)

-- ---- the later of two tags is greater

tag_there : (c t : ℕ) (ms : List ConfirmMark) → tag_on c ms ≡ Some t → (is_selected c ms ≡ true) × (place c ms ≡ t)
tag_there c t ms h = by_selection (is_selected c ms) refl
  where
    by_selection : (b : Bool) → is_selected c ms ≡ b → (is_selected c ms ≡ true) × (place c ms ≡ t)
    by_selection true e = (e, let k : Some (place c ms) ≡ Some t = sym (ap (λ b. cond b (Some (place c ms)) None) e) ∙ h in cc)
    by_selection false e = let k : None ≡ Some t = sym (ap (λ b. cond b (Some (place c ms)) None) e) ∙ h in absurd cc

selected_begun : (c : ℕ) (ms : List ConfirmMark) → is_selected c ms ≡ true → list_any (begins c) ms ≡ true
selected_begun c ms h = by_begun (list_any (begins c) ms) refl
  where
    by_begun : (b : Bool) → list_any (begins c) ms ≡ b → list_any (begins c) ms ≡ true
    by_begun true e = e
    by_begun false e = let k : false ≡ true = sym (ap (list_any (selects c)) (since_none (begins c) ms e)) ∙ h in absurd cc

later_greater : (c t : ℕ) (p d : List ConfirmMark) (y : ConfirmMark) → leaves_on c y ≡ true → many (begins c) p ≡ many (begins c) (p ++ (d ++ y ∷ [])) → tag_on c p ≡ Some t → tag_on c (p ++ (d ++ y ∷ [])) ≡ Some t → ⊥
later_greater c t p d y l o a b =
    let r : List ConfirmMark = d ++ y ∷ [] in
    let x = tag_there c t p a in
    let z = tag_there c t (p ++ r) b in
    let both : many (begins c) (p ++ r) ≡ many (begins c) p + many (begins c) r = many-append (begins c) p r in
    let zero_ : many (begins c) r ≡ 0 = omega (arith, o, both) in
    let none = many_none (begins c) r zero_ in
    let begun = selected_begun c p x.0 in
    let open_ : opening c (p ++ r) ≡ opening c p ++ r = since-append (begins c) p r none begun in
    let sel : list_any (selects c) (opening c p) ≡ true = x.0 in
    let tail_ : after (selects c) (opening c p ++ r) ≡ after (selects c) (opening c p) ++ r = after-append (selects c) (opening c p) r sel in
    let count : place c (p ++ r) ≡ count_by (leaves_on c) (after (selects c) (opening c p)) + count_by (leaves_on c) r =
    ap (λ ms. count_by (leaves_on c) (after (selects c) ms)) open_ ∙ (ap (count_by (leaves_on c)) tail_ ∙ count-append (leaves_on c) (after (selects c) (opening c p)) r) in
    let more : 0 < count_by (leaves_on c) r = count_last (leaves_on c) d y l in
    let first : place c p ≡ t = x.1 in
    let second : place c (p ++ r) ≡ t = z.1 in
    absurd (omega (arith, count, more, first, second))

-- ---- a publish leaves on its channel

came_split : (before us : List ConfirmMark) (y : ConfirmMark) (ws : List ConfirmMark) → CameAfter before (us ++ y ∷ ws) → MayCome (before ++ us) y
came_split before [] y ws h = subst (λ ms. MayCome ms y) (sym (append-nil before)) h.0
came_split before (u ∷ us) y ws h = subst (λ ms. MayCome ms y) (append_assoc before (u ∷ []) us) (came_split (before ++ u ∷ []) us y ws h.1)

queued_here : (c d : ℕ) (o : Option Outcome) → queued_cell c o ≡ cell.Queued d → c ≡ d
queued_here c d None h = cc
queued_here c d (Some x) h = cc

pending_not : (c t d : ℕ) (o : Option Outcome) → pending_cell c t o ≡ cell.Queued d → ⊥
pending_not c t d None h = cc
pending_not c t d (Some x) h = cc

left_not : (c d : ℕ) (t : Option ℕ) (later : List ConfirmMark) → left_cell c t later ≡ cell.Queued d → ⊥
left_not c d None later h = cc
left_not c d (Some t) later h = pending_not c t d (first_settled c t later) h

queued_channel : (n d : ℕ) (ms : List ConfirmMark) → cell_in n ms ≡ Some (cell.Queued d) → channel_of n ms ≡ d
queued_channel n d ms h = by_gone (is_gone n ms) refl
  where
    by_left : (b : Bool) → has_left n ms ≡ b → open_cell n ms ≡ cell.Queued d → channel_of n ms ≡ d
    by_left true e k = absurd (left_not (channel_of n ms) d (tag_of n ms) (after (leaves n) ms) (sym (ap (λ b. cond b (left_cell (channel_of n ms) (tag_of n ms) (after (leaves n) ms)) (queued_cell (channel_of n ms) (first_rejected (channel_of n ms) (life n ms)))) e) ∙ k))
    by_left false e k = queued_here (channel_of n ms) d (first_rejected (channel_of n ms) (life n ms)) (sym (ap (λ b. cond b (left_cell (channel_of n ms) (tag_of n ms) (after (leaves n) ms)) (queued_cell (channel_of n ms) (first_rejected (channel_of n ms) (life n ms)))) e) ∙ k)

    by_gone : (b : Bool) → is_gone n ms ≡ b → channel_of n ms ≡ d
    by_gone true e = let k : None ≡ Some (cell.Queued d) = sym (ap (λ b. cond b None (Some (open_cell n ms))) e) ∙ h in absurd cc
    by_gone false e = let k : Some (open_cell n ms) ≡ Some (cell.Queued d) = sym (ap (λ b. cond b None (Some (open_cell n ms))) e) ∙ h in by_left (has_left n ms) refl cc

-- further marks take back no publish
pub added-append : (ms ks : List ConfirmMark) → added ms ≤ added (ms ++ ks)
added-append ms ks = let h : added (ms ++ ks) ≡ added ms + many adds ks = many-append adds ms ks in omega (arith, h)

-- it was accepted on that channel for good
channel_kept : (n : ℕ) (ms ks : List ConfirmMark) → n < added ms → channel_of (suc n) (ms ++ ks) ≡ channel_of (suc n) ms
channel_kept n ms [] lt = ap (channel_of (suc n)) (append-nil ms)
channel_kept n ms (k ∷ ks) lt =
    let more : added ms ≤ added (ms ++ k ∷ []) = added-append ms (k ∷ []) in
    ap (channel_of (suc n)) (sym (append_assoc ms (k ∷ []) ks)) ∙ (channel_kept n (ms ++ k ∷ []) ks (omega (arith, lt, more)) ∙ ap channel_in (accepted-push n ms k lt))

pub channel_stays : (n : ℕ) (ms ks : List ConfirmMark) → WasAdded n ms → channel_of n (ms ++ ks) ≡ channel_of n ms
channel_stays zero ms ks w = let h : 1 ≤ 0 = w.0 in absurd (omega (arith, h))
channel_stays (suc n) ms ks w = let h : suc n ≤ added ms = w.1 in channel_kept n ms ks (omega (arith, h))

leaves_there : (n : ℕ) (us : List ConfirmMark) (y : ConfirmMark) (ws : List ConfirmMark) → leaves n y ≡ true → MayCome us y → leaves_on (channel_of n (us ++ ws)) y ≡ true
leaves_there n us (mark.Left d j) ws l m =
    let e : j ≡ n = same_number j n l in
    let w : WasAdded n us = subst (λ k. WasAdded k us) e m.0 in
    let q : cell_in n us ≡ Some (cell.Queued d) = ap (λ k. cell_in k us) (sym e) ∙ m.1 in
    let c : channel_of n (us ++ ws) ≡ d = channel_stays n us ws w ∙ queued_channel n d us q in
    eq-eqb d (channel_of n (us ++ ws)) (sym c)
leaves_there n us _ ws l m = cc

-- ---- two publishes

-- the second of them leaves behind the first, and has another tag
second_differs : (n t : ℕ) (ms us vs ws : List ConfirmMark) (x y : ConfirmMark) → CameAfter [] ms → ms ≡ us ++ x ∷ (vs ++ y ∷ ws) → leaves n y ≡ true → many (begins (channel_of n ms)) (us ++ x ∷ []) ≡ many (begins (channel_of n ms)) (us ++ x ∷ (vs ++ y ∷ [])) → tag_on (channel_of n ms) (us ++ x ∷ []) ≡ Some t → tag_on (channel_of n ms) (us ++ x ∷ (vs ++ y ∷ [])) ≡ Some t → ⊥
second_differs n t ms us vs ws x y came is l o a b =
    let front : List ConfirmMark = us ++ x ∷ vs in
    let split : ms ≡ front ++ y ∷ ws = is ∙ sym (append_assoc us (x ∷ vs) (y ∷ ws)) in
    let may : MayCome front y = came_split [] front y ws (subst (CameAfter []) split came) in
    let here : leaves_on (channel_of n ms) y ≡ true = ap (λ k. leaves_on (channel_of n k) y) split ∙ leaves_there n front y (y ∷ ws) l may in
    let longer : us ++ x ∷ (vs ++ y ∷ []) ≡ (us ++ x ∷ []) ++ (vs ++ y ∷ []) = sym (append_assoc us (x ∷ []) (vs ++ y ∷ [])) in
    later_greater (channel_of n ms) t (us ++ x ∷ []) vs y here (o ∙ ap (many (begins (channel_of n ms))) longer) a (ap (tag_on (channel_of n ms)) (sym longer) ∙ b)

pub tags_differ : (m n t : ℕ) (ms : List ConfirmMark) → CameAfter [] ms → has_left m ms ≡ true → has_left n ms ≡ true → channel_of m ms ≡ channel_of n ms → opening_of m ms ≡ opening_of n ms → tag_of m ms ≡ Some t → tag_of n ms ≡ Some t → m ≡ n
tags_differ m n t ms came hm hn c o a b = by_order (order (leaves m) (leaves n) ms hm hn)
  where
    both : (x : ConfirmMark) → leaves m x ≡ true → leaves n x ≡ true → m ≡ n
    both (mark.Left d j) p q = elim (eqb_tells j m) [
      | inl y ↦ elim (eqb_tells j n) [ inl z ↦ sym y.1 ∙ z.1 | inr z ↦ let k : true ≡ false = sym q ∙ z.0 in absurd cc ]
      | inr y ↦ let k : true ≡ false = sym p ∙ y.0 in absurd cc
    ]
    both _ p q = cc

    by_order : Order (leaves m) (leaves n) ms → m ≡ n
    by_order (Same x p q) = both x p q
    by_order (First us vs ws x y is l s r) = absurd (second_differs n t ms us vs ws x y came is l
        (ap (λ k. many (begins k) (us ++ x ∷ [])) (sym c) ∙ (ap (many (begins (channel_of m ms))) (sym s) ∙ (o ∙ ap (many (begins (channel_of n ms))) r)))
        (ap (λ k. tag_on k (us ++ x ∷ [])) (sym c) ∙ (ap (tag_on (channel_of m ms)) (sym s) ∙ a))
        (ap (tag_on (channel_of n ms)) (sym r) ∙ b))
    by_order (Second us vs ws x y is l s r) = absurd (second_differs m t ms us vs ws x y came is l
        (ap (λ k. many (begins k) (us ++ x ∷ [])) c ∙ (ap (many (begins (channel_of n ms))) (sym s) ∙ (sym o ∙ ap (many (begins (channel_of m ms))) r)))
        (ap (λ k. tag_on k (us ++ x ∷ [])) c ∙ (ap (tag_on (channel_of n ms)) (sym s) ∙ b))
        (ap (tag_on (channel_of m ms)) (sym r) ∙ a))
