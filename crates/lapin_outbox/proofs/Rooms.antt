-- Room for open requests: by channel it stands in the channel's queue, or in the one that is set aside for it.
use Rattle.std.proofs.Common.{◌≡◌, ◌≢◌, ℕ, ◌+◌, ◌<◌, ◌≤◌, ◌==◌, true, false, cond, nat_eq, List, [], ◌∷◌, ◌++◌, Option, Some, None, refl, sym, ◌∙◌, ap, arith, inl, inr, subst, ne_eqb, IsSome, is_some}
use Rattle.std.specs.Prelude.{Result, Ok, Err, IsOk, IfOk, if◌then◌else◌}
use Rattle.std.specs.Option.{option_map, option_or}
use Rattle.std.specs.Map.{lookup}
use Rattle.std.proofs.lemmas.Bool.{eq-eqb, true≢false}
use Rattle.std.proofs.lemmas.Bool.Decides.{eqb_tells}
use Rattle.lapin_tables.specs.ByChannel.{Table, at_channel, on_channel}
use Rattle.lapin_tables.proofs.Channels.{at-values, at-on_same, at-on_other, at-push, or-none}
use Rattle.lapin_outbox.specs.Open.{OpenOnChannel, OpenRequests, rooms_in, room_of, spare_on, seen, KeepsRoom, KeepsOtherRoom, IsAside, AreAside}

abbrev room : OpenOnChannel → ℕ
room q = q.spare

-- the room of a channel, by its own queue and by the one that is set aside for it
abbrev pub room-between : Option OpenOnChannel → Option OpenOnChannel → ℕ
room-between (Some q) o = q.spare
room-between None None = 0
room-between None (Some q) = q.spare

between : (o p : Option OpenOnChannel) → room_of (option_or (option_map room o) (option_map room p)) ≡ room-between o p
between (Some q) p = refl
between None None = refl
between None (Some q) = refl

at-append : {X : Type 0} (d : ℕ) (xs ys : List (ℕ × X)) → at_channel d (xs ++ ys) ≡ option_or (at_channel d xs) (at_channel d ys)
at-append d [] ys = refl
at-append d (x ∷ xs) ys =
    elim (x.0 == d) as (λ b. cond b (Some x.1) (at_channel d (xs ++ ys)) ≡ option_or (cond b (Some x.1) (at_channel d xs)) (at_channel d ys)) [
      | true ↦ refl
      | false ↦ at-append d xs ys
    ]

-- what a map gives is what its entries have at the channel
pub looked-up : {X : Type 0} (d : ℕ) (es : List (ℕ × X)) → at_channel d es ≡ lookup (nat_eq d) es
looked-up d [] = refl
looked-up d (e ∷ es) =
    elim (eqb_tells e.0 d) [
      | inl same ↦ rw (same.0, eq-eqb d e.0 (sym same.1)) refl
      | inr other ↦ rw (other.0, ne_eqb d e.0 (λ h. other.1 (sym h))) (looked-up d es)
    ]

spare-seen : (es aside : List (ℕ × OpenOnChannel)) (d : ℕ) → spare_on d (seen es aside) ≡ room-between (at_channel d es) (lookup (nat_eq d) aside)
spare-seen es aside d =
    ap room_of (at-append d (rooms_in es) (rooms_in aside))
    ∙ ap (λ o. room_of (option_or o (at_channel d (rooms_in aside)))) (at-values room d es)
    ∙ ap (λ o. room_of (option_or (option_map room (at_channel d es)) o)) (at-values room d aside ∙ ap (option_map room) (looked-up d aside))
    ∙ between (at_channel d es) (lookup (nat_eq d) aside)

is-none : {X : Type 0} (o : Option X) → false ≡ is_some o → o ≡ None
is-none None h = refl
is-none (Some x) h = absurd (true≢false (sym h))

module _ (es aside : List (ℕ × OpenOnChannel)) (now : OpenRequests) (view : seen es aside ≡ now) where
  pub spare-is : (d : ℕ) → spare_on d now ≡ room-between (at_channel d es) (lookup (nat_eq d) aside)
  spare-is d = ap (spare_on d) (sym view) ∙ spare-seen es aside d

  -- a channel whose two queues are as before has the room that it had
  pub other-room : (d : ℕ) (later laid : List (ℕ × OpenOnChannel)) → at_channel d later ≡ at_channel d es → lookup (nat_eq d) laid ≡ lookup (nat_eq d) aside → spare_on d (seen later laid) ≡ spare_on d now
  other-room d later laid own other =
      spare-seen later laid d
      ∙ ap (λ o. room-between o (lookup (nat_eq d) laid)) own
      ∙ ap (room-between (at_channel d es)) other
      ∙ sym (spare-is d)

  -- nothing was done but that memory was taken
  pub all-room : (later laid : List (ℕ × OpenOnChannel)) → later ≡ es → ((d : ℕ) → lookup (nat_eq d) laid ≡ lookup (nat_eq d) aside) → KeepsRoom now (seen later laid)
  all-room later laid own other d = let same = other-room d later laid (ap (at_channel d) own) (other d) in omega (arith, same)

-- ---- a channel that has an entry: its own queue changes

module _ (c : ℕ) (q new : OpenOnChannel) (es aside : List (ℕ × OpenOnChannel)) (now : OpenRequests) (view : seen es aside ≡ now) (at : at_channel c es ≡ Some q) where
  abbrev after : OpenRequests
  after = seen (on_channel c (λ _. new) es) aside

  room-was : spare_on c now ≡ q.spare
  room-was = spare-is es aside now view c ∙ ap (λ o. room-between o (lookup (nat_eq c) aside)) at

  room-is : spare_on c after ≡ new.spare
  room-is =
      spare-seen (on_channel c (λ _. new) es) aside c
      ∙ ap (λ o. room-between o (lookup (nat_eq c) aside)) (at-on_same c (λ _. new) es ∙ ap (option_map (λ _. new)) at)

  others-same : (d : ℕ) → c ≢ d → spare_on d after ≡ spare_on d now
  others-same d apart = other-room es aside now view d (on_channel c (λ _. new) es) aside (at-on_other c d (λ _. new) es apart) refl

  pub had-room : 0 < spare_on c now → 0 < q.spare
  had-room some = let was = room-was in omega (arith, was)

  pub has-room : 0 < new.spare → 0 < spare_on c after
  has-room some = let is = room-is in omega (arith, is)

  pub room-used : q.spare ≤ new.spare + 1 → spare_on c now ≤ spare_on c after + 1
  room-used one = let was = room-was in let is = room-is in omega (arith, was, is)

  pub others-kept : KeepsOtherRoom c now after
  others-kept d apart = let same = others-same d (λ h. apart (sym h)) in omega (arith, same)

  pub room-kept : q.spare ≤ new.spare → KeepsRoom now after
  room-kept more d =
      elim (eqb_tells c d) [
        | inl same ↦
            let was = room-was in
            let is = room-is in
            let here : spare_on c now ≤ spare_on c after = omega (arith, was, is) in
            subst (λ k. spare_on k now ≤ spare_on k after) same.1 here
        | inr other ↦ let same = others-same d other.1 in omega (arith, same)
      ]

-- ---- a channel that has no entry yet

module _ (c : ℕ) (es aside : List (ℕ × OpenOnChannel)) (now : OpenRequests) (view : seen es aside ≡ now) (at : at_channel c es ≡ None) where
  pub room-aside : spare_on c now ≡ room-between None (lookup (nat_eq c) aside)
  room-aside = spare-is es aside now view c ∙ ap (λ o. room-between o (lookup (nat_eq c) aside)) at

  -- where it has room a queue is set aside for it, and where none is it has no room
  pub is-aside : 0 < spare_on c now → IsSome (lookup (nat_eq c) aside)
  is-aside some = found (lookup (nat_eq c) aside) (let was = room-aside in omega (arith, was))
    where
      found : (o : Option OpenOnChannel) → 0 < room-between None o → IsSome o
      found None h = absurd (let no : ⊥ = omega (arith, h) in no)
      found (Some q) h = refl

  pub not-aside : {P : Type 0} → false ≡ is_some (lookup (nat_eq c) aside) → 0 < spare_on c now → P
  not-aside none some = absurd (true≢false (sym (is-aside some) ∙ sym none))

  pub room-there : (q : OpenOnChannel) → lookup (nat_eq c) aside ≡ Some q → spare_on c now ≡ q.spare
  room-there q there = room-aside ∙ ap (room-between None) there

  -- a queue that is set aside has room
  pub aside-room : ((q : OpenOnChannel) → lookup (nat_eq c) aside ≡ Some q → 0 < q.spare) → true ≡ is_some (lookup (nat_eq c) aside) → 0 < spare_on c now
  aside-room each some = found (lookup (nat_eq c) aside) refl some
    where
      found : (o : Option OpenOnChannel) → lookup (nat_eq c) aside ≡ o → true ≡ is_some o → 0 < spare_on c now
      found None is h = absurd (true≢false h)
      found (Some q) is h = let room = each q is in let there = room-there q is in omega (arith, room, there)

  -- one is set aside
  module _ (new : OpenOnChannel) (later laid : List (ℕ × OpenOnChannel)) (own : later ≡ es) (put : (d : ℕ) → lookup (nat_eq d) laid ≡ cond (nat_eq c d) (Some new) (lookup (nat_eq d) aside)) where
    pub put-room : 0 < new.spare → 0 < spare_on c (seen later laid)
    put-room some =
        let here : lookup (nat_eq c) laid ≡ Some new = put c ∙ ap (λ b. cond b (Some new) (lookup (nat_eq c) aside)) (eq-eqb c c refl) in
        let is : spare_on c (seen later laid) ≡ new.spare = spare-seen later laid c ∙ ap (λ o. room-between o (lookup (nat_eq c) laid)) (ap (at_channel c) own ∙ at) ∙ ap (room-between None) here in
        omega (arith, is)

    pub put-kept : false ≡ is_some (lookup (nat_eq c) aside) → KeepsRoom now (seen later laid)
    put-kept none d =
        elim (eqb_tells c d) [
          | inl same ↦
              let was : spare_on c now ≡ 0 = room-aside ∙ ap (room-between None) (is-none (lookup (nat_eq c) aside) none) in
              let here : spare_on c now ≤ spare_on c (seen later laid) = omega (arith, was) in
              subst (λ k. spare_on k now ≤ spare_on k (seen later laid)) same.1 here
          | inr other ↦
              let same = other-room es aside now view d later laid (ap (at_channel d) own) (put d ∙ ap (λ b. cond b (Some new) (lookup (nat_eq d) aside)) other.0) in
              omega (arith, same)
        ]

  -- it gets its entry, of what was set aside
  module _ (q new : OpenOnChannel) (later laid : List (ℕ × OpenOnChannel)) (there : lookup (nat_eq c) aside ≡ Some q) (own : later ≡ es ++ (c, new) ∷ []) (took : (d : ℕ) → lookup (nat_eq d) laid ≡ cond (nat_eq c d) None (lookup (nat_eq d) aside)) where
    pub entry-used : q.spare ≤ new.spare + 1 → spare_on c now ≤ spare_on c (seen later laid) + 1
    entry-used one =
        let was = room-there q there in
        let entry : at_channel c later ≡ Some new = ap (at_channel c) own ∙ at-push c c new es ∙ ap (λ o. option_or o (cond (c == c) (Some new) None)) at ∙ ap (λ b. cond b (Some new) None) (eq-eqb c c refl) in
        let is : spare_on c (seen later laid) ≡ new.spare = spare-seen later laid c ∙ ap (λ o. room-between o (lookup (nat_eq c) laid)) entry in
        omega (arith, was, is)

    pub entry-others : KeepsOtherRoom c now (seen later laid)
    entry-others d apart =
        let away : nat_eq c d ≡ false = ne_eqb c d (λ h. apart (sym h)) in
        let entry : at_channel d later ≡ at_channel d es = ap (at_channel d) own ∙ at-push c d new es ∙ ap (λ b. option_or (at_channel d es) (cond b (Some new) None)) away ∙ or-none (at_channel d es) in
        let same = other-room es aside now view d later laid entry (took d ∙ ap (λ b. cond b None (lookup (nat_eq d) aside)) away) in
        omega (arith, same)

-- a queue that was set aside is taken, and its place in the table
pub aside-taken : (c : ℕ) (old new : ℕ → Option OpenOnChannel) (t after : Table OpenOnChannel) (n m : ℕ) → AreAside old n t → ((d : ℕ) → new d ≡ cond (nat_eq c d) None (old d)) → m + 1 ≡ n → t.spare ≤ after.spare + 1 → after.reach ≡ t.reach → AreAside new m after
aside-taken c old new t after n m are took count room reach = record {
  each = λ d p h.
      elim (eqb_tells c d) [
        | inl same ↦
            let here : None ≡ Some p = sym (took d ∙ ap (λ b. cond b None (old d)) same.0) ∙ h in
            absurd (let no : ⊥ = cc in no)
        | inr other ↦ subst (λ r. IsAside r d p) (sym reach) (are.each d p (sym (took d ∙ ap (λ b. cond b None (old d)) other.0) ∙ h))
      ];
  room = let was = are.room in omega (arith, count, room, was);
}

-- memory was taken, and nothing else was done
pub aside-kept : (old new : ℕ → Option OpenOnChannel) (t after : Table OpenOnChannel) (n m : ℕ) → AreAside old n t → ((d : ℕ) → new d ≡ old d) → m ≡ n → t.spare ≤ after.spare → t.reach ≤ after.reach → AreAside new m after
aside-kept old new t after n m are same count room reach = record {
  each = λ d p h.
      let was = are.each d p (sym (same d) ∙ h) in
      let reached : d < t.reach = was.reached in
      record { is_empty = was.is_empty; room = was.room; reached = omega arith };
  room = let was : n ≤ t.spare = are.room in omega arith;
}

-- an empty queue with room is set aside for a channel that the table reaches, beside the others
pub aside-put : (c : ℕ) (q : OpenOnChannel) (old new : ℕ → Option OpenOnChannel) (t after : Table OpenOnChannel) (n m : ℕ) → AreAside old n t → ((d : ℕ) → new d ≡ cond (nat_eq c d) (Some q) (old d)) → m ≤ n + 1 → n < after.spare → t.reach ≤ after.reach → IsAside after.reach c q → AreAside new m after
aside-put c q old new t after n m are put count room reach is = record {
  each = λ d p h.
      elim (eqb_tells c d) [
        | inl same ↦
            let here : Some q ≡ Some p = sym (put d ∙ ap (λ b. cond b (Some q) (old d)) same.0) ∙ h in
            let one : q ≡ p = cc in
            subst (λ x. IsAside after.reach d x) one (subst (λ x. IsAside after.reach x q) same.1 is)
        | inr other ↦
            let was = are.each d p (sym (put d ∙ ap (λ b. cond b (Some q) (old d)) other.0) ∙ h) in
            let reached : d < t.reach = was.reached in
            record { is_empty = was.is_empty; room = was.room; reached = omega arith }
      ];
  room = omega arith;
}

-- an insertion makes a map longer by one at most
pub one-more : {V E : Type 0} (r : Result (Option V) E) (n m : ℕ) → IsOk r → IfOk r (λ o. m ≡ n + (if is_some o then 0 else 1)) → m ≤ n + 1
one-more (Ok None) n m ok h = omega (arith, h)
one-more (Ok (Some x)) n m ok h = omega (arith, h)
one-more (Err e) n m ok h = absurd cc
