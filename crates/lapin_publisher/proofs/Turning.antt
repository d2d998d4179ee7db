-- A turn is its parts, one behind the other.
use Rattle.std.proofs.Common.{◌≡◌, ◌∙◌, inl, inr, Bool, true, false, ◌&&◌, cond, List, sym, ap, subst}
use Rattle.lapin_machine.specs.World.{World}
use Rattle.lapin_rules.specs.Wire.{state_of, is_open}
use Rattle.lapin_keeping.specs.declared.kept.Kept.{Kept}
use Rattle.lapin_keeping.specs.declared.keeping.Keeping.{Keeping}
use Rattle.lapin_publisher.specs.declared.turn.Turn.{Turn}
use Rattle.lapin_publisher.specs.Opening.{Opening, opened, selected}
use Rattle.lapin_publisher.specs.Polls.{IsPolled}
use Rattle.lapin_publisher.specs.Publishes.{all_placed, Stopped}
use Rattle.lapin_publisher.specs.Turns.{published_all, opening_of, OnlyMessages, IsTurn, IsTurnInPart}

opening_is : (t : Turn) (w x y : World) (s a b : Bool) → (a, x) ≡ opened t.channel (s, w) → (b, y) ≡ selected t.channel (a, x) → (b, y) ≡ opening_of t s w
opening_is t w x y s a b opens selects = selects ∙ ap (selected t.channel) opens

-- what waits was published
pub turned : (t : Turn) (w x y z v : World) (old polled new : Keeping) (s a b : Bool) → IsPolled w x old polled → (a, y) ≡ opened t.channel (s, x) → (b, z) ≡ selected t.channel (a, y)
    → (new.kept.items, v) ≡ published_all t (b, z) polled.kept.items → OnlyMessages polled new → IsTurn t w v old new s b
turned t w x y z v old polled new s a b polls opens selects places others =
    let is : (b, z) ≡ opening_of t s x = opening_is t x y z s a b opens selects in
    record {
      polled = polled;
      session = x;
      is_polled = polls;
      selects_is = ap (λ (o : Opening). o.0) is;
      kept = places ∙ ap (λ (o : Opening). published_all t o polled.kept.items) is;
      others = others;
    }

-- a publish was refused
pub stopped : (t : Turn) (w x y z v : World) (old polled new : Keeping) (s a b : Bool) → IsPolled w x old polled → (a, y) ≡ opened t.channel (s, x) → (b, z) ≡ selected t.channel (a, y)
    → Stopped t z v polled.kept.items new.kept.items → OnlyMessages polled new → IsTurnInPart t w v old new s b
stopped t w x y z v old polled new s a b polls opens selects stop others =
    let is : (b, z) ≡ opening_of t s x = opening_is t x y z s a b opens selects in
    let there : z ≡ (opening_of t s x).1 = ap (λ (o : Opening). o.1) is in
    record {
      ended = inr (record {
        polled = polled;
        session = x;
        is_polled = polls;
        ended = inr (ap (λ (o : Opening). o.0) is, subst (λ (u : World). Stopped t u v polled.kept.items new.kept.items) there stop);
        others = others;
      });
    }

-- nothing was published
pub places_none : (t : Turn) (o : Opening) (ks : List Kept) → (o.0 && is_open (state_of t.channel o.1.wire)) ≡ false → (ks, o.1) ≡ published_all t o ks
places_none t o ks e = sym (ap (λ (b : Bool). cond b ((all_placed t o.1 ks).0, (all_placed t o.1 ks).1.0) (ks, o.1)) e)

pub places_all : (t : Turn) (o : Opening) (ks : List Kept) → (o.0 && is_open (state_of t.channel o.1.wire)) ≡ true → ((all_placed t o.1 ks).0, (all_placed t o.1 ks).1.0) ≡ published_all t o ks
places_all t o ks e = sym (ap (λ (b : Bool). cond b ((all_placed t o.1 ks).0, (all_placed t o.1 ks).1.0) (ks, o.1)) e)

-- ---- where the open and the select leave what is kept

untouched : (a b : Keeping) → b ≡ a → OnlyMessages a b
untouched a b e = record { settled = ap (λ (k : Keeping). k.settled.items) e; back = ap (λ (k : Keeping). k.back.items) e; handed = ap (λ (k : Keeping). k.handed) e }

module _ (t : Turn) (w x : World) (old polled : Keeping) (s : Bool) (polls : IsPolled w x old polled) where
  pub ended_at_open : (v : World) (new : Keeping) (a : Bool) → v ≡ x → a ≡ s → new ≡ polled → IsTurnInPart t w v old new s a
  ended_at_open v new a still same kept =
      record { ended = inr (record { polled = polled; session = x; is_polled = polls; ended = inl (ap (λ (k : Keeping). k.kept.items) kept, inl (same, still)); others = untouched polled new kept }) }

  pub ended_at_select : (y v : World) (open_ new : Keeping) (a b : Bool) → (a, y) ≡ opened t.channel (s, x) → open_ ≡ polled → v ≡ y → b ≡ a → new ≡ open_ → IsTurnInPart t w v old new s b
  ended_at_select y v open_ new a b opens kept still same stays =
      let whole : new ≡ polled = stays ∙ kept in
      record {
        ended = inr (record {
          polled = polled;
          session = x;
          is_polled = polls;
          ended = inl (ap (λ (k : Keeping). k.kept.items) whole, inr (same ∙ ap (λ (o : Opening). o.0) opens, still ∙ ap (λ (o : Opening). o.1) opens));
          others = untouched polled new whole;
        });
      }

  pub ended_at_publish : (y z v : World) (open_ select_ new : Keeping) (a b c : Bool) → (a, y) ≡ opened t.channel (s, x) → open_ ≡ polled → (b, z) ≡ selected t.channel (a, y) → select_ ≡ open_
      → Stopped t z v select_.kept.items new.kept.items → OnlyMessages select_ new → c ≡ b → IsTurnInPart t w v old new s c
  ended_at_publish y z v open_ select_ new a b c opens kept selects stays stop others same =
      let whole : select_ ≡ polled = stays ∙ kept in
      subst (λ (u : Bool). IsTurnInPart t w v old new s u) (sym same)
      (stopped t w x y z v old polled new s a b polls opens selects (subst (λ (k : Keeping). Stopped t z v k.kept.items new.kept.items) whole stop) (subst (λ (k : Keeping). OnlyMessages k new) whole others))

  pub came_through : (y z v : World) (open_ select_ new : Keeping) (a b c : Bool) → (a, y) ≡ opened t.channel (s, x) → open_ ≡ polled → (b, z) ≡ selected t.channel (a, y) → select_ ≡ open_
      → (new.kept.items, v) ≡ published_all t (b, z) select_.kept.items → OnlyMessages select_ new → c ≡ b → IsTurn t w v old new s c
  came_through y z v open_ select_ new a b c opens kept selects stays places others same =
      let whole : select_ ≡ polled = stays ∙ kept in
      subst (λ (u : Bool). IsTurn t w v old new s u) (sym same)
      (turned t w x y z v old polled new s a b polls opens selects (places ∙ ap (λ (k : Keeping). published_all t (b, z) k.kept.items) whole) (subst (λ (k : Keeping). OnlyMessages k new) whole others))
