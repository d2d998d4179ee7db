-- Frame requests of a client, as steps of a joined run: what they hand out stands on the link up, and its octets behind those that leave.
use Rattle.std.proofs.Common.{◌≡◌, ℕ, zero, suc, ◌≤◌, Bool, List, [], ◌∷◌, ◌++◌, length, Option, Some, None, refl, sym, ap, subst, ◌∙◌}
use Rattle.std.proofs.lemmas.List.{append_assoc, append-nil}
use Rattle.lapin_types.specs.declared.event.Event.TheVariants as event
use Rattle.lapin_types.specs.declared.leaving.Left.{Left}
use Rattle.lapin_types.specs.declared.record.Record.TheVariants as record_
use Rattle.lapin_frames.specs.Frames.{bytes_of}
use Rattle.lapin_rules.specs.Handing.{frame_record, handed}
use Rattle.lapin_joint.specs.declared.step.Step.{Step}
use Rattle.lapin_joint.specs.declared.step.Step.TheVariants as step
use Rattle.lapin_joint.specs.Joint.{Joint, run, after, handed_by, left_alone}
use Rattle.lapin_joint.specs.Order.{along}
use Rattle.lapin_verdicts.specs.Deeds.{Deed, deed_in}
use Rattle.lapin_machine.specs.Way.{Way, by_machine}
use Rattle.lapin_machine.specs.World.{World, told_by, full_in}
use Rattle.lapin_machine.proofs.Back.{told_none, still_none}
use Rattle.lapin_client.specs.Sending.{after_requests, bytes_handed, record_bytes, AllWithin, RecordFits, AllFit as AllFitOut, HeldFits, held_bytes}
use Rattle.lapin_clients.specs.Joined.{hearing, held_frames}
use Rattle.lapin_clients.specs.Pieces.{Piece, Of, Beat, Notice, octets_in, octets_of, frames_in, frames_left, AllFit}
use Rattle.lapin_clients.proofs.Deaf.{event_less}
use Rattle.lapin_clients.proofs.Strays.{HearsLess, hears_same, less_then}

pub run_append : {S : Type 0} (m : Way S) (ss ts : List Step) (j : Joint S) → run m (ss ++ ts) j ≡ run m ts (run m ss j)
run_append m [] ts j = refl
run_append m (s ∷ ss) ts j = run_append m ss ts (after m s j)

pub along_append : {S A : Type 0} (m : Way S) (part : Step → Joint S → List A) (ss ts : List Step) (j : Joint S) → along m part (ss ++ ts) j ≡ along m part ss j ++ along m part ts (run m ss j)
along_append m part [] ts j = refl
along_append m part (s ∷ ss) ts j = ap (λ xs. part s j ++ xs) (along_append m part ss ts (after m s j)) ∙ sym (append_assoc (part s j) (along m part ss (after m s j)) (along m part ts (run m ss (after m s j))))

-- n requests as steps, and what they hand out
abbrev pub asks : ℕ → Bool → List Step
asks zero flow = []
asks (suc n) flow = asks n flow ++ step.Client (event.Next flow) ∷ []

abbrev pub lefts_of : ℕ → Bool → World → List Left
lefts_of zero flow w = []
lefts_of (suc n) flow w = lefts_of n flow w ++ handed_by by_machine (event.Next flow) (after_requests n flow w)

abbrev pub with_asked : ℕ → Bool → Joint World → Joint World
with_asked n flow j = record { session = after_requests n flow j.session; broker = j.broker; up = j.up ++ lefts_of n flow j.session; down = j.down }

abbrev with_up : Joint World → World → List Left → Joint World
with_up j w ls = record { session = w; broker = j.broker; up = ls; down = j.down }

pub asks_run : (n : ℕ) (flow : Bool) (j : Joint World) → run by_machine (asks n flow) j ≡ with_asked n flow j
asks_run zero flow j = ap (with_up j j.session) (sym (append-nil j.up))
asks_run (suc n) flow j =
    run_append by_machine (asks n flow) (step.Client (event.Next flow) ∷ []) j
    ∙ ap (after by_machine (step.Client (event.Next flow))) (asks_run n flow j)
    ∙ ap (with_up j (after_requests (suc n) flow j.session)) (append_assoc j.up (lefts_of n flow j.session) (handed_by by_machine (event.Next flow) (after_requests n flow j.session)))

-- the broker does nothing meanwhile
pub asks_quiet : (n : ℕ) (flow : Bool) (j : Joint World) → along by_machine deed_in (asks n flow) j ≡ []
asks_quiet zero flow j = refl
asks_quiet (suc n) flow j = along_append by_machine deed_in (asks n flow) (step.Client (event.Next flow) ∷ []) j ∙ ap (λ (ds : List Deed). ds ++ []) (asks_quiet n flow j)

-- and no more contents are heard
pub asks_less : (n : ℕ) (flow : Bool) (w : World) → HearsLess (hearing w) (hearing (after_requests n flow w))
asks_less zero flow w = hears_same (hearing w)
asks_less (suc n) flow w = less_then (hearing w) (hearing (after_requests n flow w)) (hearing (after_requests (suc n) flow w)) (asks_less n flow w) (event_less (after_requests n flow w) (event.Next flow) refl)

-- ---- as octets

abbrev pub pieces_left : List Left → List Piece
pieces_left [] = []
pieces_left (l ∷ ls) = Of l.frame ∷ pieces_left ls

pub octets_both : (ps qs : List Piece) → octets_of (ps ++ qs) ≡ octets_of ps ++ octets_of qs
octets_both [] qs = refl
octets_both (p ∷ ps) qs = ap (λ xs. octets_in p ++ xs) (octets_both ps qs) ∙ sym (append_assoc _ (octets_of ps) (octets_of qs))

pub frames_both : (ps qs : List Piece) → frames_in (ps ++ qs) ≡ frames_in ps ++ frames_in qs
frames_both [] qs = refl
frames_both (Of f ∷ ps) qs = ap (λ xs. f ∷ xs) (frames_both ps qs)
frames_both (Beat ∷ ps) qs = frames_both ps qs
frames_both (Notice b os ∷ ps) qs = frames_both ps qs

pub fit_both : (most : ℕ) (ps qs : List Piece) → AllFit most ps → AllFit most qs → AllFit most (ps ++ qs)
fit_both most [] qs h k = k
fit_both most (p ∷ ps) qs h k = (h.0, fit_both most ps qs h.1 k)

pub left_both : (ls ks : List Left) → pieces_left (ls ++ ks) ≡ pieces_left ls ++ pieces_left ks
left_both [] ks = refl
left_both (l ∷ ls) ks = ap (λ xs. Of l.frame ∷ xs) (left_both ls ks)

pub left_frames : (ls : List Left) → frames_in (pieces_left ls) ≡ frames_left ls
left_frames [] = refl
left_frames (l ∷ ls) = ap (λ xs. l.frame ∷ xs) (left_frames ls)

one_octets : (o : Option Left) → record_bytes (frame_record o) ≡ octets_of (pieces_left (left_alone o))
one_octets None = refl
one_octets (Some l) = sym (append-nil (bytes_of l.frame))

one_fits : (most : ℕ) (o : Option Left) → RecordFits (frame_record o) → length (record_bytes (frame_record o)) ≤ most → AllFit most (pieces_left (left_alone o))
one_fits most None h k = tt
one_fits most (Some l) h k = ((h, k), tt)

pub none_after : (n : ℕ) (flow : Bool) (w : World) → w.returned ≡ None → (after_requests n flow w).returned ≡ None
none_after zero flow w h = h
none_after (suc n) flow w h = still_none (after_requests n flow w) (event.Next flow) (none_after n flow w h)

module _ (flow : Bool) (w : World) (none : w.returned ≡ None) where
  pub told_handed : (n : ℕ) → told_by (after_requests n flow w) (event.Next flow) ≡ frame_record (handed flow (full_in (after_requests n flow w).confirm_state) (after_requests n flow w).wire)
  told_handed n = told_none (after_requests n flow w) (event.Next flow) (none_after n flow w none)

  pub handed_octets : (n : ℕ) → bytes_handed n flow w ≡ octets_of (pieces_left (lefts_of n flow w))
  handed_octets zero = refl
  handed_octets (suc n) =
      let o : Option Left = handed flow (full_in (after_requests n flow w).confirm_state) (after_requests n flow w).wire in
      ap (λ xs. xs ++ record_bytes (told_by (after_requests n flow w) (event.Next flow))) (handed_octets n)
      ∙ ap (λ r. octets_of (pieces_left (lefts_of n flow w)) ++ record_bytes r) (told_handed n)
      ∙ ap (λ xs. octets_of (pieces_left (lefts_of n flow w)) ++ xs) (one_octets o)
      ∙ sym (octets_both (pieces_left (lefts_of n flow w)) (pieces_left (left_alone o)))
      ∙ ap octets_of (sym (left_both (lefts_of n flow w) (left_alone o)))

  pub handed_fit : (most n : ℕ) → AllFitOut n flow w → AllWithin most n flow w → AllFit most (pieces_left (lefts_of n flow w))
  handed_fit most zero h k = tt
  handed_fit most (suc n) h k =
      let o : Option Left = handed flow (full_in (after_requests n flow w).confirm_state) (after_requests n flow w).wire in
      let one : AllFit most (pieces_left (left_alone o)) = one_fits most o (subst RecordFits (told_handed n) h.1) (subst (λ r. length (record_bytes r) ≤ most) (told_handed n) k.1) in
      subst (AllFit most) (sym (left_both (lefts_of n flow w) (left_alone o))) (fit_both most (pieces_left (lefts_of n flow w)) (pieces_left (left_alone o)) (handed_fit most n h.0 k.0) one)

-- ---- with the frame that was held before them

pub held_octets : (u : Option Left) → held_bytes u ≡ octets_of (pieces_left (left_alone u))
held_octets None = refl
held_octets (Some l) = sym (append-nil (bytes_of l.frame))

pub held_in : (u : Option Left) → frames_in (pieces_left (left_alone u)) ≡ held_frames u
held_in None = refl
held_in (Some l) = refl

pub held_fits : (most : ℕ) (u : Option Left) → HeldFits most u → AllFit most (pieces_left (left_alone u))
held_fits most None h = tt
held_fits most (Some l) h = ((h.1, h.0), tt)

-- the frame that a request handed out, as its record shows it
pub shown_frame : (o : Option Left) (l : Left) → frame_record o ≡ record_.Frame l.frame → frames_left (left_alone o) ≡ l.frame ∷ []
shown_frame None l h = absurd cc
shown_frame (Some k) l h = (let e : k.frame ≡ l.frame = cc in ap (λ f. f ∷ []) e)
