-- The record of a frame request tells which publish began: the first of its channel. So what a request leaves goes by its record.
use Rattle.std.proofs.Common.{◌≡◌, ℕ, ◌==◌, Bool, true, false, cond, List, [], ◌∷◌, Option, Some, None, refl, sym, ◌∙◌, ap, subst, eq-eqb, ne_eqb}
use Rattle.std.specs.Prelude.{Result, Ok, Err, OnOk}
use Rattle.std.specs.List.{find, fold}
use Rattle.std.specs.Option.{option_map}
use Rattle.lapin_types.specs.declared.leaving.Publish.{Publish}
use Rattle.lapin_types.specs.declared.leaving.Left.{Left}
use Rattle.lapin_types.specs.declared.record.Record.{Record}
use Rattle.lapin_types.specs.declared.event.Event.TheVariants as event
use Rattle.lapin_rules.specs.Words.{without_first}
use Rattle.lapin_rules.specs.Frames.{RestEntry, MethodEntry, left_publish}
use Rattle.lapin_rules.specs.Leaving.{Lists, may_begin, begun_rest, handed_of, left_of, left_lists}
use Rattle.lapin_rules.specs.Flow.{begins_on, is_flowing, unless_full}
use Rattle.lapin_rules.specs.Handing.{handed_out, handed_as, began_on, frame_record, sent, left_marks, left_tickets}
use Rattle.lapin_rules.specs.Wire.{Wire, lists_of, with_lists}
use Rattle.lapin_confirm.specs.Machine as confirm_state
use Rattle.lapin_ticket.specs.Slots as answers
use Rattle.lapin_machine.specs.World.{World, next_anew, handing, full_in}
use Rattle.lapin_machine.proofs.Seen.{world_is}
use Rattle.lapin_machine.proofs.Brought.{none_begins, never_begins}

-- ---- the publish that begins

pub may_begin_found : (t : ℕ → Bool) (ps : List Publish) (q : Publish) → find (may_begin t) ps ≡ Some q → t q.channel ≡ true
may_begin_found t [] q e = cc
may_begin_found t (p ∷ ps) q e = elim (t p.channel) as (λ b. t p.channel ≡ b → cond b (Some p) (find (may_begin t) ps) ≡ Some q → t q.channel ≡ true) [
  | true ↦ λ on here. let same : p ≡ q = cc in let P : Publish → Type 0 = λ r. t r.channel ≡ true in subst P same on
  | false ↦ λ off later. may_begin_found t ps q later
] refl e

-- it is the first of its channel
pub record IsFirstThere (t : ℕ → Bool) (ps : List Publish) (q : Publish) : Type 0 where
  pub found : find (may_begin (λ c. c == q.channel)) ps ≡ Some q
  pub stay : without_first (may_begin (λ c. c == q.channel)) ps ≡ without_first (may_begin t) ps

pub first_there : (t : ℕ → Bool) (ps : List Publish) (q : Publish) → find (may_begin t) ps ≡ Some q → IsFirstThere t ps q
first_there t [] q e = cc
first_there t (p ∷ ps) q e = elim (t p.channel) as (λ b. t p.channel ≡ b → cond b (Some p) (find (may_begin t) ps) ≡ Some q → IsFirstThere t (p ∷ ps) q) [
  | true ↦ λ on here.
      let same : p ≡ q = cc in
      let on_it : (p.channel == q.channel) ≡ true = eq-eqb p.channel q.channel (ap (λ (r : Publish). r.channel) same) in
      record { found = rw on_it (ap Some same); stay = rw (on_it, on) refl }
  | false ↦ λ off later.
      let behind = first_there t ps q later in
      let may : t q.channel ≡ true = may_begin_found t ps q later in
      let other : (p.channel == q.channel) ≡ false = ne_eqb p.channel q.channel (λ same. let no : false ≡ true = sym off ∙ ap t same ∙ may in cc) in
      record { found = rw other behind.found; stay = rw (other, off) (ap (λ xs. p ∷ xs) behind.stay) }
] refl e

-- ---- a request by its record

pub record ByRecord (n : ℕ) (t u : ℕ → Bool) (rest : List RestEntry) (methods : List MethodEntry) (ps : List Publish) : Type 0 where
  pub handed : handed_of u rest methods ps ≡ handed_of t rest methods ps
  pub left : left_of n u rest methods ps ≡ left_of n t rest methods ps

pub by_record : (n : ℕ) (t : ℕ → Bool) (rest : List RestEntry) (methods : List MethodEntry) (ps : List Publish) → ByRecord n t (began_on (frame_record (handed_of t rest methods ps))) rest methods ps
by_record n t (f ∷ fs) methods ps = record { handed = refl; left = refl }
by_record n t [] (m ∷ ms) ps = record { handed = refl; left = refl }
by_record n t [] [] ps = at (find (may_begin t) ps) refl
  where
    lists : Option Publish → List Publish → Lists
    lists o qs = record { rest = begun_rest n o; methods = []; publishes = qs }

    at : (o : Option Publish) → find (may_begin t) ps ≡ o → ByRecord n t (began_on (frame_record (option_map left_publish o))) [] [] ps
    at None e = record {
      handed = ap (option_map left_publish) (never_begins ps ∙ sym e);
      left = ap (λ o. lists o (without_first (λ _. false) ps)) (never_begins ps ∙ sym e) ∙ ap (lists (find (may_begin t) ps)) (none_begins (λ _. false) ps (never_begins ps) ∙ sym (none_begins (may_begin t) ps e));
    }
    at (Some q) e =
        let first = first_there t ps q e in
        record {
          handed = ap (option_map left_publish) (first.found ∙ sym e);
          left = ap (λ o. lists o (without_first (may_begin (λ c. c == q.channel)) ps)) (first.found ∙ sym e) ∙ ap (lists (find (may_begin t) ps)) first.stay;
        }

pub handed_told : (t : ℕ → Bool) (b : Wire) → handed_as (frame_record (handed_out t b)) b ≡ handed_out t b
handed_told t b = (by_record b.frame_max t b.rest b.methods b.publishes).handed

pub left_told : (t : ℕ → Bool) (b : Wire) → left_lists b.frame_max (began_on (frame_record (handed_out t b))) (lists_of b) ≡ left_lists b.frame_max t (lists_of b)
left_told t b = (by_record b.frame_max t b.rest b.methods b.publishes).left

-- a request leaves what its record says
pub handing_told : (flow : Bool) (w : World) → next_anew w (event.Next flow) ≡ handing (begins_on flow (full_in w.confirm_state) w.wire) w
handing_told flow w =
    let t : ℕ → Bool = begins_on flow (full_in w.confirm_state) w.wire in
    let r : Record = frame_record (handed_out t w.wire) in
    let o : handed_as r w.wire ≡ handed_out t w.wire = handed_told t w.wire in
    world_is _ _
    (ap (λ x. sent x (with_lists (left_lists w.wire.frame_max (began_on r) (lists_of w.wire)) w.wire)) o ∙ ap (λ ls. sent (handed_out t w.wire) (with_lists ls w.wire)) (left_told t w.wire))
    (ap (λ x. fold confirm_state.after_mark w.confirm_state (left_marks x)) o)
    (ap (λ x. fold answers.after_mark w.slots (left_tickets x)) o)
    refl

pub next_handed : {E : Type 0} (res : Result (Option Left) E) (v w : World) (flow flowing : Bool) → flowing ≡ is_flowing flow w.wire → OnOk res (v ≡ handing (unless_full flowing (full_in w.confirm_state)) w) → OnOk res (v ≡ next_anew w (event.Next flow))
next_handed (Ok x) v w flow flowing is made = made ∙ ap (λ t. handing (unless_full t (full_in w.confirm_state)) w) is ∙ sym (handing_told flow w)
next_handed (Err e) v w flow flowing is made = tt
