-- What the broker keeps of a channel is what the tally of its last opening says, and it settles only what it counted.
use Rattle.std.proofs.Common.{◌≡◌, ◌∙◌, ℕ, ◌+◌, ◌-◌, ◌==◌, Bool, true, false, cond, List, [], ◌∷◌, ◌++◌, length, Option, Some, None, inl, inr, refl, sym, ap, subst, arith, eq-eqb, length-append}
use Rattle.std.specs.Prelude.{nat_le}
use Rattle.std.proofs.lemmas.Bool.{and_parts}
use Rattle.std.proofs.lemmas.Bool.Decides.{eqb_tells, nat_tests}
use Rattle.lapin_methods.specs.declared.frame.ContentHeader.{ContentHeader}
use Rattle.lapin_types.specs.Types.{Frame}
use Rattle.lapin_broker.specs.declared.content.Content.{Content}
use Rattle.lapin_broker.specs.declared.content.Content.TheVariants as content
use Rattle.lapin_broker.specs.declared.frames.ClientFrame.{ClientFrame}
use Rattle.lapin_broker.specs.declared.frames.ClientFrame.TheVariants as client
use Rattle.lapin_broker.specs.declared.peer.Peer.{Peer}
use Rattle.lapin_broker.specs.declared.peer.Peer.TheVariants as peer
use Rattle.lapin_broker.specs.Contents.{is_idle, of_size}
use Rattle.lapin_broker.specs.States.{Channel, free_channel}
use Rattle.lapin_broker.specs.Reads.{content_after, admits, with_next_number}
use Rattle.lapin_broker.specs.Sends.{is_read_on}
use Rattle.lapin_verdicts.specs.Deeds.{is_open}
use Rattle.lapin_verdicts.specs.Publishes.{Message, Coming, Idle, Begun, Headed, Tally, no_tally, with_whole, with_bytes, with_header, with_body, tally_after}
use Rattle.lapin_verdicts.proofs.Sorting.{IsBegun, Sorts}

-- ---- a content that is being read

abbrev pub IsHeaded : ℕ → Coming → Type 0
IsHeaded n (Headed size m) = size ≡ length m.payload + n
IsHeaded n _ = ⊥

abbrev pub IsPart : Content → Coming → Type 0
IsPart content.Begun co = IsBegun co
IsPart (content.Left n) co = IsHeaded n co
IsPart content.Idle co = ⊥

abbrev pub AlongAt : Bool → Content → Coming → Type 0
AlongAt true r co = IsPart r co
AlongAt false r co = co ≡ Idle

-- of the channel: what is being read on it, if that is on it
abbrev pub IsAlong : ℕ → Option (ℕ × Content) → Coming → Type 0
IsAlong c None co = co ≡ Idle
IsAlong c (Some r) co = AlongAt (r.0 == c) r.1 co

pub record Counts (x : Channel) (y : Tally) : Type 0 where
  pub selected : x.selected ≡ y.selected
  pub numbers : length x.numbers ≡ length y.numbered

-- by where the channel stands
abbrev pub Fits : Peer → ℕ → Option (ℕ × Content) → Channel → Tally → Type 0
Fits peer.Free c r x y = (x ≡ free_channel) × (is_read_on c r ≡ false)
Fits peer.Asked c r x y = (x ≡ record free_channel { peer = peer.Asked }) × (is_read_on c r ≡ false) × (y ≡ no_tally)
Fits peer.Open c r x y = Counts x y × IsAlong c r y.coming
Fits peer.Leaving c r x y = Counts x y × (is_read_on c r ≡ false)
Fits _ c r x y = is_read_on c r ≡ false

-- ---- a piece of a content

abbrev pub PieceFits : Bool → Content → Channel → Tally → Type 0
PieceFits true r x y = Counts (with_next_number x) y × (y.coming ≡ Idle)
PieceFits false r x y = Counts x y × IsPart r y.coming

next_counts : (m : Message) (x : Channel) (y : Tally) (b : Bool) → x.selected ≡ b → y.selected ≡ b → length x.numbers ≡ length y.numbered → Counts (cond b (record x { numbers = x.numbers ++ Some tt ∷ [] }) x) (record { selected = y.selected; numbered = cond b (y.numbered ++ m ∷ []) y.numbered; coming = Idle })
next_counts m x y true e f n = record { selected = e ∙ sym f; numbers = length-append x.numbers _ ∙ (ap (λ k. k + 1) n ∙ sym (length-append y.numbered _)) }
next_counts m x y false e f n = record { selected = e ∙ sym f; numbers = n }

whole_counts : (m : Message) (x : Channel) (y : Tally) → Counts x y → Counts (with_next_number x) (with_whole m y)
whole_counts m x y k =
    let P : Bool → Type 0 = λ b. Counts (cond b (record x { numbers = x.numbers ++ Some tt ∷ [] }) x) (with_whole m y) in
    subst P (sym k.selected) (next_counts m x y y.selected k.selected refl k.numbers)

bytes_fit : (left size : ℕ) (m : Message) (x : Channel) (y : Tally) → Counts x y → size ≡ length m.payload + left → PieceFits (is_idle (of_size left)) (of_size left) x (with_bytes size m y)
bytes_fit left size m x y k e = elim (eqb_tells left 0) [
  | inl z ↦
      let all : (length m.payload == size) ≡ true = eq-eqb _ _ (let w = z.1 in omega arith) in
      rw (z.0, all) (whole_counts m x y k, refl)
  | inr z ↦
      let some : (length m.payload == size) ≡ false = elim (eqb_tells (length m.payload) size) as (λ _. (length m.payload == size) ≡ false) [ inl w ↦ absurd (z.1 (let v = w.1 in omega arith)) | inr w ↦ w.0 ] in
      rw (z.0, some) (record { selected = k.selected; numbers = k.numbers }, e)
]

header_fits : (h : ContentHeader) (co : Coming) (x : Channel) (y : Tally) → Counts x y → IsBegun co → PieceFits (is_idle (of_size h.body_size)) (of_size h.body_size) x (with_header h co y)
header_fits h (Begun m) x y k b = bytes_fit h.body_size h.body_size (record m { properties = h.properties }) x y k (let e : length m.payload ≡ 0 = ap length b in omega (arith, e))
header_fits h Idle x y k b = absurd b
header_fits h (Headed size m) x y k b = absurd b

left_over : (n size a b : ℕ) → size ≡ a + n → nat_le b n ≡ true → size ≡ (a + b) + (n - b)
left_over n size a b e h = grind (arith, nat_tests)

body_fits : (bytes : List ℕ) (n : ℕ) (co : Coming) (x : Channel) (y : Tally) → Counts x y → IsHeaded n co → nat_le (length bytes) n ≡ true → PieceFits (is_idle (of_size (n - length bytes))) (of_size (n - length bytes)) x (with_body bytes co y)
body_fits bytes n (Headed size m) x y k e h = bytes_fit (n - length bytes) size (record m { payload = m.payload ++ bytes }) x y k (left_over n size (length m.payload) (length bytes) e h ∙ ap (λ v. v + (n - length bytes)) (sym (length-append m.payload bytes)))
body_fits bytes n Idle x y k e h = absurd e
body_fits bytes n (Begun m) x y k e h = absurd e

abbrev pub Piece : Content → ClientFrame → Frame → Channel → Tally → Type 0
Piece r u f x y = (is_open f ≡ false) × PieceFits (is_idle (content_after r u)) (content_after r u) x (tally_after y f)

pub piece : (most : ℕ) (r : Content) (u : ClientFrame) (f : Frame) (x : Channel) (y : Tally) → Counts x y → IsPart r y.coming → admits most r u ≡ true → Sorts u f y → Piece r u f x y
piece most content.Begun (client.Header class size) f x y k p a (o, h, hs, e) =
    let P : ℕ → Type 0 = λ n. PieceFits (is_idle (of_size n)) (of_size n) x (tally_after y f) in
    (o, subst P hs (rw e (header_fits h y.coming x y k p)))
piece most (content.Left n) (client.Body len) f x y k p a (o, bytes, bs, e) =
    let within : nat_le len n ≡ true = (and_parts _ _ (and_parts _ _ a).0).1 in
    let P : ℕ → Type 0 = λ m. PieceFits (is_idle (of_size (n - m))) (of_size (n - m)) x (tally_after y f) in
    (o, subst P bs (rw e (body_fits bytes n y.coming x y k p (subst (λ m. nat_le m n ≡ true) (sym bs) within))))
piece most content.Idle u f x y k p a s = absurd p
piece most _ _ f x y k p a s = absurd cc
