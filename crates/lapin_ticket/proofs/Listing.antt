-- The numbers of a channel after a write, and the open tickets that stand among them.
use Rattle.std.proofs.Common.{◌≡◌, ℕ, zero, suc, ◌<◌, ◌≤◌, ◌==◌, true, false, cond, not, ◌&&◌, ◌+◌, ◌⊎◌, List, [], ◌∷◌, ◌++◌, drop, length, Bool, Option, Some, None, refl, sym, ◌∙◌, ap, subst, arith, slice_get, inl, inr, eq-eqb}
use Rattle.std.specs.Option.{option_or, option_map}
use Rattle.std.proofs.lemmas.Bool.Decides.{eqb_tells}
use Rattle.lapin_tables.specs.ByChannel.{at_channel, on_channel}
use Rattle.lapin_tables.specs.Numbered.{under}
use Rattle.lapin_tables.proofs.Channels.{at-push, at-on_same, at-on_other}
use Rattle.lapin_tables.proofs.SlotLaws.{under-pushed}
use Rattle.lapin_rules.specs.declared.marks.AtLeaving.{AtLeaving}
use Rattle.lapin_rules.specs.TicketReadings.{is_publish}
use Rattle.lapin_rules.proofs.ChannelLaws.{at-on}
use Rattle.lapin_ticket.specs.declared.Slot.{Slot}
use Rattle.lapin_ticket.specs.declared.Slot.TheVariants as slot
use Rattle.lapin_ticket.specs.Slots.{rejects, is_open_on}
use Rattle.lapin_ticket.specs.Given.{GivenOnChannel, numbers_in, numbers_on, HasRoomIn, IsReady, Stands, AreListed, starts_closed}

-- ---- a write of one channel's numbers

module _ (c d : ℕ) (q : GivenOnChannel) (es : List (ℕ × GivenOnChannel)) where
  pub numbers-written : (old : GivenOnChannel) → at_channel c es ≡ Some old → numbers_on d (on_channel c (λ _. q) es) ≡ cond (c == d) q.numbers (numbers_on d es)
  numbers-written old at = elim (eqb_tells c d) [
    | inl same ↦ let P : ℕ → Type 0 = λ k. at_channel k es ≡ Some old in let there : at_channel d es ≡ Some old = subst P same.1 at in rw (at-on c d (λ _. q) es, same.0, there) refl
    | inr other ↦ rw (at-on c d (λ _. q) es, other.0) refl
  ]

  or-none : (o : Option GivenOnChannel) → numbers_in (option_or o None) ≡ numbers_in o
  or-none None = refl
  or-none (Some g) = refl

  pub numbers-added : at_channel c es ≡ None → numbers_on d (es ++ (c, q) ∷ []) ≡ cond (c == d) q.numbers (numbers_on d es)
  numbers-added at = elim (eqb_tells c d) [
    | inl same ↦ let P : ℕ → Type 0 = λ k. at_channel k es ≡ None in let there : at_channel d es ≡ None = subst P same.1 at in rw (at-push c d q es, same.0, there) refl
    | inr other ↦ rw (at-push c d q es, other.0) (or-none (at_channel d es))
  ]

-- a channel whose numbers stay
pub numbers-spared : (c d : ℕ) (q old : GivenOnChannel) (es : List (ℕ × GivenOnChannel)) → at_channel c es ≡ Some old → q.numbers ≡ old.numbers → numbers_on d (on_channel c (λ _. q) es) ≡ numbers_on d es
numbers-spared c d q old es at same =
    numbers-written c d q es old at
    ∙ elim (eqb_tells c d) [
      | inl here ↦ let P : ℕ → Type 0 = λ k. at_channel k es ≡ Some old in let there : at_channel d es ≡ Some old = subst P here.1 at in rw (here.0, there) same
      | inr other ↦ rw other.0 refl
    ]

-- a channel that gets its first entry, without a number
pub numbers-empty : (c d : ℕ) (q : GivenOnChannel) (es : List (ℕ × GivenOnChannel)) → at_channel c es ≡ None → q.numbers ≡ [] → numbers_on d (es ++ (c, q) ∷ []) ≡ numbers_on d es
numbers-empty c d q es at none =
    numbers-added c d q es at
    ∙ elim (eqb_tells c d) [
      | inl here ↦ let P : ℕ → Type 0 = λ k. at_channel k es ≡ None in let there : at_channel d es ≡ None = subst P here.1 at in rw (here.0, there) none
      | inr other ↦ rw other.0 refl
    ]

-- the numbers of one channel are changed by a function
pub numbers-by : (f : List ℕ → List ℕ) (c d : ℕ) (q old : GivenOnChannel) (es : List (ℕ × GivenOnChannel)) → at_channel c es ≡ Some old → q.numbers ≡ f old.numbers → numbers_on d (on_channel c (λ _. q) es) ≡ cond (c == d) (f (numbers_on d es)) (numbers_on d es)
numbers-by f c d q old es at is =
    numbers-written c d q es old at
    ∙ elim (eqb_tells c d) [
      | inl here ↦ let P : ℕ → Type 0 = λ k. at_channel k es ≡ Some old in let there : at_channel d es ≡ Some old = subst P here.1 at in rw (here.0, there) is
      | inr other ↦ rw other.0 refl
    ]

-- a channel without an entry has no number to drop
pub none-dropped : (c d : ℕ) (es : List (ℕ × GivenOnChannel)) → at_channel c es ≡ None → numbers_on d es ≡ cond (c == d) (drop 1 (numbers_on d es)) (numbers_on d es)
none-dropped c d es at = elim (eqb_tells c d) [
  | inl here ↦ let P : ℕ → Type 0 = λ k. at_channel k es ≡ None in let there : at_channel d es ≡ None = subst P here.1 at in rw (here.0, there) refl
  | inr other ↦ rw other.0 refl
]

-- ---- room

pub room-found : (c : ℕ) (q old : GivenOnChannel) (es : List (ℕ × GivenOnChannel)) → at_channel c es ≡ Some old → 0 < q.spare → HasRoomIn (at_channel c (on_channel c (λ _. q) es))
room-found c q old es at room = let is : at_channel c (on_channel c (λ _. q) es) ≡ Some q = at-on_same c (λ _. q) es ∙ ap (option_map (λ _. q)) at in rw is room

pub room-added : (c : ℕ) (q : GivenOnChannel) (es : List (ℕ × GivenOnChannel)) → at_channel c es ≡ None → 0 < q.spare → HasRoomIn (at_channel c (es ++ (c, q) ∷ []))
room-added c q es at room = let same : (c == c) ≡ true = eq-eqb c c refl in rw (at-push c c q es, same, at) room

-- room stays where a channel has no less than before
pub room-spared : (ready : Option ℕ) (c : ℕ) (q old : GivenOnChannel) (es : List (ℕ × GivenOnChannel)) → at_channel c es ≡ Some old → old.spare ≤ q.spare → IsReady ready es → IsReady ready (on_channel c (λ _. q) es)
room-spared None c q old es at more ready = tt
room-spared (Some d) c q old es at more ready = elim (eqb_tells c d) [
  | inl same ↦
      let P : ℕ → Type 0 = λ k. HasRoomIn (at_channel k es) in
      let here : HasRoomIn (at_channel c es) = subst P (sym same.1) ready in
      let Q : Option GivenOnChannel → Type 0 = λ o. HasRoomIn o in
      let some : 0 < old.spare = subst Q at here in
      let R : ℕ → Type 0 = λ k. HasRoomIn (at_channel k (on_channel c (λ _. q) es)) in
      subst R same.1 (room-found c q old es at (omega arith))
  | inr other ↦ rw (at-on_other c d (λ _. q) es other.1) ready
]

-- there is an entry where there is room
pub entry-there : {X : Type 0} (c : ℕ) (es : List (ℕ × GivenOnChannel)) → HasRoomIn (at_channel c es) → at_channel c es ≡ None → X
entry-there c es room at = let Q : Option GivenOnChannel → Type 0 = λ o. HasRoomIn o in absurd (subst Q at room)

-- ---- places

pub get-within : (ns : List ℕ) (k n : ℕ) → slice_get ns k ≡ Some n → k < length ns
get-within [] k n h = cc
get-within (m ∷ ns) zero n h = omega arith
get-within (m ∷ ns) (suc k) n h = let rest : k < length ns = get-within ns k n h in omega arith

pub stands-push : (n m : ℕ) (ns : List ℕ) → Stands n ns → Stands n (ns ++ m ∷ [])
stands-push n m ns s = (s.0, spared ns s.0 s.1)
  where
    spared : (ns : List ℕ) (k : ℕ) → slice_get ns k ≡ Some n → slice_get (ns ++ m ∷ []) k ≡ Some n
    spared [] k h = cc
    spared (x ∷ ns) zero h = h
    spared (x ∷ ns) (suc k) h = spared ns k h

pub stands-last : (n : ℕ) (ns : List ℕ) → Stands n (ns ++ n ∷ [])
stands-last n [] = (0, refl)
stands-last n (x ∷ ns) = let rest = stands-last n ns in (suc rest.0, rest.1)

-- ---- open tickets stand among the numbers

-- a mark that opens no ticket
pub listed-less : (old new : List (Option Slot)) (all : List (ℕ × GivenOnChannel)) → ((c n : ℕ) → is_open_on c (under n new) ≡ true → is_open_on c (under n old) ≡ true) → AreListed old all → AreListed new all
listed-less old new all less listed = λ c n h. listed c n (less c n h)

-- the same numbers
pub listed-by : (slots : List (Option Slot)) (old new : List (ℕ × GivenOnChannel)) → ((c : ℕ) → numbers_on c new ≡ numbers_on c old) → AreListed slots old → AreListed slots new
listed-by slots old new same listed = λ c n h. let P : List ℕ → Type 0 = λ ns. Stands n ns in subst P (sym (same c)) (listed c n h)

-- one more ticket is given on a channel, under its number
pub listed-push : (c m : ℕ) (s : Slot) (slots : List (Option Slot)) (old new : List (ℕ × GivenOnChannel)) → m ≡ length slots + 1 → ((d : ℕ) → is_open_on d (Some s) ≡ true → c ≡ d)
    → ((d : ℕ) → numbers_on d new ≡ cond (c == d) (numbers_on d old ++ m ∷ []) (numbers_on d old)) → AreListed slots old → AreListed (slots ++ Some s ∷ []) new
listed-push c m s slots old new at on is listed = λ d n h.
    elim (open-pushed d n h) [
      | inl was ↦ subst (P n) (sym (is d)) (still d n (listed d n was))
      | inr new_ ↦
          let here : c ≡ d = on d new_.1 in
          let same : (c == d) ≡ true = eq-eqb c d here in
          let Q : ℕ → Type 0 = λ k. Stands k (numbers_on d new) in
          let last : Stands m (numbers_on d new) = subst (P m) (sym (is d)) (rw same (stands-last m (numbers_on d old))) in
          subst Q (at ∙ sym new_.0) last
    ]
  where
    P : ℕ → List ℕ → Type 0
    P n ns = Stands n ns

    still : (d n : ℕ) → Stands n (numbers_on d old) → Stands n (cond (c == d) (numbers_on d old ++ m ∷ []) (numbers_on d old))
    still d n st = elim (c == d) as (λ b. Stands n (cond b (numbers_on d old ++ m ∷ []) (numbers_on d old))) [ true ↦ stands-push n m (numbers_on d old) st | false ↦ st ]

    open-pushed : (d n : ℕ) → is_open_on d (under n (slots ++ Some s ∷ [])) ≡ true → (is_open_on d (under n slots) ≡ true) ⊎ ((n ≡ length slots + 1) × (is_open_on d (Some s) ≡ true))
    open-pushed d n h = found (under n (slots ++ Some s ∷ [])) refl h
      where
        found : (o : Option Slot) → under n (slots ++ Some s ∷ []) ≡ o → is_open_on d o ≡ true → (is_open_on d (under n slots) ≡ true) ⊎ ((n ≡ length slots + 1) × (is_open_on d (Some s) ≡ true))
        found None e h = cc
        found (Some x) e h = elim (under-pushed n (Some s) x slots e) [
          | inl old_ ↦ inl (ap (is_open_on d) old_ ∙ h)
          | inr last ↦ inr (last.0, ap (is_open_on d) last.1 ∙ h)
        ]

-- the first number of a channel goes, whose ticket is not open
pub listed-drop : (c : ℕ) (slots : List (Option Slot)) (old new : List (ℕ × GivenOnChannel)) → starts_closed c slots (numbers_on c old) ≡ true
    → ((d : ℕ) → numbers_on d new ≡ cond (c == d) (drop 1 (numbers_on d old)) (numbers_on d old)) → AreListed slots old → AreListed slots new
listed-drop c slots old new closed is listed = λ d n h.
    let P : List ℕ → Type 0 = λ ns. Stands n ns in
    subst P (sym (is d)) (elim (eqb_tells c d) [
      | inl same ↦
          let S : ℕ → Type 0 = λ k. starts_closed k slots (numbers_on k old) ≡ true in
          rw same.0 (behind (numbers_on d old) d n (subst S same.1 closed) h (listed d n h))
      | inr other ↦ rw other.0 (listed d n h)
    ])
  where
    behind : (ns : List ℕ) (d n : ℕ) → starts_closed d slots ns ≡ true → is_open_on d (under n slots) ≡ true → Stands n ns → Stands n (drop 1 ns)
    behind [] d n closed h st = cc
    behind (m ∷ ns) d n closed h (zero, e) =
        let same : m ≡ n = cc in
        let F : ℕ → Type 0 = λ k. not (is_open_on d (under k slots)) ≡ true in
        let shut : not (is_open_on d (under n slots)) ≡ true = subst F same closed in
        let open_ : not (is_open_on d (under n slots)) ≡ false = ap not h in
        cc
    behind (m ∷ ns) d n closed h (suc k, e) = (k, e)

-- what a close looks for is open
pub rejects-open : (c : ℕ) (o : Option Slot) → rejects c o ≡ true → is_open_on c o ≡ true
rejects-open c None h = cc
rejects-open c (Some (slot.Open d l b)) h = elim (c == d) as (λ x. (x && (is_publish l && not b)) ≡ true → x ≡ true) [ true ↦ λ h. refl | false ↦ λ h. cc ] h
rejects-open c (Some (slot.Held a)) h = cc

-- the channel of an open ticket
pub open-here : (d c : ℕ) (l : AtLeaving) (b : Bool) → is_open_on d (Some (slot.Open c l b)) ≡ true → c ≡ d
open-here d c l b h = elim (eqb_tells d c) [ inl same ↦ sym same.1 | inr other ↦ cc ]
