-- After a turn on an open channel that was asked for confirms what is due is out.
use Rattle.std.proofs.Common.{◌≡◌, ◌∙◌, ◌⊎◌, inl, inr, ℕ, ◌+◌, ◌==◌, Bool, true, false, true≢false, cond, not, ◌&&◌, List, [], ◌∷◌, refl, sym, ap, subst}
use Rattle.std.specs.Bool.{MatchBool}
use Rattle.std.specs.List.{filter, AllByRecursion}
use Rattle.std.specs.Option.{is_some}
use Rattle.lapin_types.specs.declared.record.Record.{Record}
use Rattle.lapin_types.specs.declared.record.Record.TheVariants as record_
use Rattle.lapin_rules.specs.Wire.{Wire, state_of, is_open}
use Rattle.lapin_machine.specs.World.{World, next, told_by}
use Rattle.lapin_keeping.specs.declared.kept.Kept.{Kept}
use Rattle.lapin_keeping.specs.declared.keeping.Keeping.{Keeping}
use Rattle.lapin_keeping.specs.Fates.{waits}
use Rattle.lapin_keeping.specs.Keepings.{is_unsettled}
use Rattle.lapin_publisher.specs.declared.turn.Turn.{Turn}
use Rattle.lapin_publisher.specs.Due.{IsOut, AreOut}
use Rattle.lapin_publisher.specs.Each.{each}
use Rattle.lapin_publisher.specs.Opening.{Opening, called, set_aside}
use Rattle.lapin_publisher.specs.Publishes.{Placing, placed, waiting_placed, goes, stays, room_taken, publish_of, publishing, published_one, confirm_of, all_placed}
use Rattle.lapin_publisher.specs.Turns.{IsTurn, opening_of, published_all}

-- ---- tests

match_true : (b : Bool) (P Q : Type 0) → b ≡ true → P → MatchBool b P Q
match_true true P Q e p = p
match_true false P Q e p = absurd (true≢false (sym e))

match_false : (b : Bool) (P Q : Type 0) → b ≡ false → Q → MatchBool b P Q
match_false true P Q e q = absurd (true≢false e)
match_false false P Q e q = q

both : (a b : Bool) → (a && b) ≡ true → (a ≡ true) × (b ≡ true)
both true b e = (refl, e)
both false b e = absurd (true≢false (sym e))

is_false : (b : Bool) → not b ≡ true → b ≡ false
is_false true e = absurd (true≢false (sym e))
is_false false e = refl

none_out : (f o : Bool) → (not f && not o) ≡ true → o ≡ false
none_out true o e = absurd (true≢false (sym e))
none_out false o e = is_false o e

some_out : (f o : Bool) → not f ≡ true → (not f && not o) ≡ false → o ≡ true
some_out true o u e = absurd (true≢false (sym u))
some_out false true u e = refl
some_out false false u e = absurd (true≢false e)

-- ---- a publish on an open channel is accepted, and leaves it open

accepted : (b : Bool) (t c : ℕ) (r : Record) → b ≡ true → is_some (confirm_of (cond b (record_.Publish t c) r)) ≡ true
accepted true t c r e = refl
accepted false t c r e = absurd (true≢false (sym e))

publish_out : (c : ℕ) (w : World) (k : Kept) → is_open (state_of c w.wire) ≡ true → is_some (published_one c w k).0.outstanding ≡ true
publish_out c w k opened = accepted (is_open (state_of c w.wire)) (w.wire.tickets + 1) (w.wire.published + 1) _ opened

same_state : (c : ℕ) (b : Bool) (x y : Wire) → state_of c x ≡ state_of c y → state_of c (cond b x y) ≡ state_of c y
same_state c true x y e = e
same_state c false x y e = refl

publish_state : (c : ℕ) (w : World) (k : Kept) → state_of c (next w (publishing c k)).wire ≡ state_of c w.wire
publish_state c w k = same_state c (is_open (state_of c w.wire)) _ w.wire refl

aside_state : (c : ℕ) (r : Record) (w : World) → state_of c (set_aside r w).wire ≡ state_of c w.wire
aside_state c (record_.Publish ticket confirm) w = refl
aside_state c (record_.Ticket ticket) w = refl
aside_state c _ w = refl

pub still_open : (c : ℕ) (w : World) (k : Kept) → is_open (state_of c w.wire) ≡ true → is_open (state_of c (called c (publish_of k.message) w).wire) ≡ true
still_open c w k opened =
    ap is_open (aside_state c (told_by w (publishing c k)) (next w (publishing c k)) ∙ publish_state c w k) ∙ opened

-- ---- all messages, in order

module _ (t : Turn) where
  abbrev IsUp : Placing → Type 0
  IsUp p = is_open (state_of t.channel p.0.wire) ≡ true

  -- what the messages behind it come to
  abbrev Behind : List Kept → Type 0
  Behind ks = (p : Placing) → IsUp p → IsOut t p.1 (each (placed t) p ks).0

  abbrev HereAt : Bool → Placing → List Kept → Kept × Placing → Type 0
  HereAt b p ks q = MatchBool b (Unit {0}) (MatchBool (is_some q.0.outstanding) (IsOut t (room_taken q.0 p.1) (each (placed t) q.1 ks).0)
      (((q.0.failed ≡ true) × ((t.retry ≡ false) × IsOut t p.1 (each (placed t) q.1 ks).0)) ⊎ ((q.0.suspect ≡ true) × (p.1.taken ≡ true))))

  waiting_out : (p : Placing) (k : Kept) (ks : List Kept) → IsUp p → Behind ks → is_some k.outstanding ≡ false → (a b : Bool) → (a ≡ true → (k.failed ≡ true) × (t.retry ≡ false)) → (b ≡ true → (k.suspect ≡ true) × (p.1.taken ≡ true))
      → HereAt false p ks (cond a (stays p k) (cond b (k, (p.0, record p.1 { left = 0 })) (goes t.channel p k)))
  waiting_out p k ks up rest none true b failed alone = match_false (is_some k.outstanding) _ _ none (inl ((failed refl).0, ((failed refl).1, rest p up)))
  waiting_out p k ks up rest none false true failed alone = match_false (is_some k.outstanding) _ _ none (inr (alone refl))
  waiting_out p k ks up rest none false false failed alone =
      match_true (is_some (goes t.channel p k).0.outstanding) _ _ (publish_out t.channel p.0 k up) (rest (goes t.channel p k).1 (still_open t.channel p.0 k up))

  here_out : (p : Placing) (k : Kept) (ks : List Kept) → IsUp p → is_unsettled k ≡ true → Behind ks → (b w : Bool) → waits k ≡ w
      → HereAt b p ks (cond b (stays p k) (cond w (waiting_placed t p k) (k, (p.0, room_taken k p.1))))
  here_out p k ks up unsettled rest true w e = tt
  here_out p k ks up unsettled rest false true e =
      waiting_out p k ks up rest (none_out (is_some k.fate) (is_some k.outstanding) e) (k.failed && not t.retry) (k.suspect && p.1.taken)
      (λ h. let two = both k.failed (not t.retry) h in (two.0, is_false t.retry two.1)) (λ h. both k.suspect p.1.taken h)
  here_out p k ks up unsettled rest false false e =
      match_true (is_some k.outstanding) _ _ (some_out (is_some k.fate) (is_some k.outstanding) unsettled e) (rest (p.0, room_taken k p.1) up)

  pub each_out : (ks : List Kept) → AllByRecursion (λ k. is_unsettled k ≡ true) ks → (p : Placing) → IsUp p → IsOut t p.1 (each (placed t) p ks).0
  each_out [] all p up = tt
  each_out (k ∷ ks) all p up = here_out p k ks up all.0 (each_out ks all.1) (p.1.left == 0) (waits k) refl

-- ---- a turn

all_unsettled : (ks : List Kept) → AllByRecursion (λ k. is_unsettled k ≡ true) (filter is_unsettled ks)
all_unsettled [] = tt
all_unsettled (k ∷ ks) = at (is_unsettled k) refl (all_unsettled ks)
  where
    at : (b : Bool) → is_unsettled k ≡ b → AllByRecursion (λ l. is_unsettled l ≡ true) (filter is_unsettled ks) → AllByRecursion (λ l. is_unsettled l ≡ true) (cond b (k ∷ filter is_unsettled ks) (filter is_unsettled ks))
    at true e rest = (e, rest)
    at false e rest = rest

published_out : (t : Turn) (o : Opening) (ks : List Kept) → AllByRecursion (λ k. is_unsettled k ≡ true) ks → o.0 ≡ true
    → is_open (state_of t.channel (published_all t o ks).1.wire) ≡ true → AreOut t (published_all t o ks).0
published_out t o ks all asks up = at (o.0 && is_open (state_of t.channel o.1.wire)) refl up
  where
    at : (b : Bool) → (o.0 && is_open (state_of t.channel o.1.wire)) ≡ b → is_open (state_of t.channel (cond {A = List Kept × World} b ((all_placed t o.1 ks).0, (all_placed t o.1 ks).1.0) (ks, o.1)).1.wire) ≡ true
        → AreOut t (cond {A = List Kept × World} b ((all_placed t o.1 ks).0, (all_placed t o.1 ks).1.0) (ks, o.1)).0
    at true e h = each_out t ks all (o.1, record { left = t.window; taken = false }) (both o.0 (is_open (state_of t.channel o.1.wire)) e).1
    at false e h = absurd (true≢false (sym (ap (λ (b : Bool). b && is_open (state_of t.channel o.1.wire)) asks ∙ h) ∙ e))

pub due_is_out : (t : Turn) (w v : World) (old new : Keeping) (s u : Bool) → IsTurn t w v old new s u → u ≡ true → is_open (state_of t.channel v.wire) ≡ true → AreOut t new.kept.items
due_is_out t w v old new s u i asks up =
    let all : AllByRecursion (λ k. is_unsettled k ≡ true) i.polled.kept.items =
    subst (λ (ks : List Kept). AllByRecursion (λ k. is_unsettled k ≡ true) ks) (sym i.is_polled.kept) (all_unsettled i.is_polled.noted) in
    let there : is_open (state_of t.channel (published_all t (opening_of t s i.session) i.polled.kept.items).1.wire) ≡ true =
    ap (λ (p : List Kept × World). is_open (state_of t.channel p.1.wire)) (sym i.kept) ∙ up in
    subst (λ (p : List Kept × World). AreOut t p.0) (sym i.kept) (published_out t (opening_of t s i.session) i.polled.kept.items all (sym i.selects_is ∙ asks) there)
