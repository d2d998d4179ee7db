-- So it is in every joined run; and the message of a get's ticket is the content that was sent after its answer.
use Rattle.std.proofs.Common.{◌≡◌, ◌∙◌, ℕ, ◌==◌, Bool, true, false, cond, nat_le, ◌-◌, List, [], ◌∷◌, ◌++◌, length, Option, Some, None, ◌⊎◌, inl, inr, refl, sym, ap, subst}
use Rattle.std.specs.List.{filter}
use Rattle.std.proofs.lemmas.Bool.{and_parts}
use Rattle.std.specs.Option.{option_map}
use Rattle.lapin_types.specs.declared.event.Event.{Event}
use Rattle.lapin_methods.specs.declared.frame.ContentHeader.{ContentHeader}
use Rattle.lapin_types.specs.declared.leaving.Left.{Left}
use Rattle.lapin_types.specs.declared.record.Record.{Record}
use Rattle.lapin_types.specs.declared.record.Record.TheVariants as record_
use Rattle.lapin_types.specs.Types.{Frame}
use Rattle.lapin_types.specs.Types.frame
use Rattle.lapin_content.specs.Contents.{Begun, Expected, front_waits, front_takes, has_place_for, is_unbegun, begun_with, grown_by, grown, unless_whole, after_header, after_body, is_whole, is_zero, lacked}
use Rattle.lapin_content.specs.Channels.{expected_on}
use Rattle.lapin_rules.specs.declared.broker_frames.ContentPart.{ContentPart}
use Rattle.lapin_rules.specs.declared.broker_frames.Incoming.{Incoming}
use Rattle.lapin_rules.specs.declared.broker_frames.Incoming.TheVariants as incoming
use Rattle.lapin_rules.specs.declared.phases.ConnectionPhase.{ConnectionPhase}
use Rattle.lapin_rules.specs.declared.phases.ConnectionPhase.TheVariants as link
use Rattle.lapin_rules.specs.ConnectionClose.{receives_down}
use Rattle.lapin_rules.specs.Content.{receives_part}
use Rattle.lapin_rules.specs.History.{History}
use Rattle.lapin_rules.specs.Phases.{is_up}
use Rattle.lapin_rules.specs.Readings.{Readings}
use Rattle.lapin_rules.specs.Receiving.{incoming_record, when}
use Rattle.lapin_rules.specs.Unexpected.{refused}
use Rattle.lapin_rules.specs.Wire.{Wire}
use Rattle.lapin_broker.specs.Frames.{channel_of}
use Rattle.lapin_effects.specs.Effects.{hears}
use Rattle.lapin_concord.specs.Refusals.{is_refusal}
use Rattle.lapin_verdicts.specs.Deeds.{Deed, Read, Sent}
use Rattle.lapin_verdicts.specs.InStep.{is_frame_on}
use Rattle.lapin_verdicts.specs.Messages.{Start, Get, sent_after}
use Rattle.lapin_answers.proofs.Turns as turn
use Rattle.lapin_answers.proofs.Turns.{Turns}
use Rattle.lapin_answers.proofs.Happens.{income_in}
use Rattle.lapin_answers.proofs.Carried.{Kept}
use Rattle.lapin_answers.proofs.Getting.{on_way, header_on, body_on}
use Rattle.lapin_answers.proofs.Gets.{Gets, gets_none, getting_on, getting_read, getting_send, getting_away, getting_comes}
use Rattle.lapin_concord.specs.Held.{IsOneContent}
use Rattle.lapin_tables.proofs.Bools.{not_both}
use Rattle.lapin_messages.proofs.Hearing.{part_on}

-- ---- what is kept

pub record Carrying (c : ℕ) (h : History) (b : Wire) (down : List Frame) (opened : List Deed) : Type 0 where
  pub silent : hears c b ≡ false → expected_on c b.contents ≡ []
  pub gets : Gets c h (expected_on c b.contents) down opened

-- where the session hears the channel no more nothing is expected there
pub silent_kept : (c : ℕ) (e : Event) (x : Record) (i : Option Incoming) (b b' : Wire) → Turns c e x i b b' → Kept c b b' → (hears c b ≡ false → expected_on c b.contents ≡ []) → hears c b' ≡ false → expected_on c b'.contents ≡ []
silent_kept c e x i b b' t (inr none) s d = none
silent_kept c e x i b b' (turn.Stays calm hear o w) (inl same) s d = same ∙ s (sym hear ∙ d)
silent_kept c e x i b b' (turn.Grows calm heard hear l r o w f) (inl same) s d = absurd (not_both _ hear d)
silent_kept c e x i b b' (turn.Shrinks k on a heard hear o w) (inl same) s d = absurd (not_both _ hear d)
silent_kept c e x i b b' (turn.Begins on alive heard hear o w) (inl same) s d = absurd (not_both _ hear d)
silent_kept c e x i b b' (turn.Ends over o w none) (inl same) s d = none
silent_kept c e x i b b' (turn.Sinks heard over o w) (inl same) s d = same ∙ s heard

pub gets_on : (c : ℕ) (h : History) (v : Event) (x : Record) (es : List Expected) (down : List Frame) (opened : List Deed) → Gets c h es down opened → Gets c (h ++ (v, x) ∷ []) es down opened
gets_on c h v x es down opened g e more k tag exchange key redelivered count is at = getting_on c k h v x (Get tag redelivered exchange key count) e.begun down opened (g e more k tag exchange key redelivered count is at)

gets_at : (c : ℕ) (h : History) (es es' : List Expected) (down : List Frame) (opened : List Deed) → es' ≡ es → Gets c h es down opened → Gets c h es' down opened
gets_at c h es es' down opened same g = subst (λ v. Gets c h v down opened) (sym same) g

-- an event that brings no frame of a content
pub quiet_carried : (c : ℕ) (h : History) (v : Event) (x : Record) (b b' : Wire) (down : List Frame) (opened : List Deed) → Turns c v x (income_in v) b b' → Kept c b b' → Carrying c h b down opened → Carrying c (h ++ (v, x) ∷ []) b' down opened
quiet_carried c h v x b b' down opened t k s = record {
  silent = λ d. silent_kept c v x (income_in v) b b' t k s.silent d;
  gets = by k;
}
  where
    by : Kept c b b' → Gets c (h ++ (v, x) ∷ []) (expected_on c b'.contents) down opened
    by (inl same) = gets_at c _ (expected_on c b.contents) (expected_on c b'.contents) down opened same (gets_on c h v x (expected_on c b.contents) down opened s.gets)
    by (inr none) = gets_none c _ (expected_on c b'.contents) down opened none

-- the broker reads and sends
pub carried_read : (c : ℕ) (h : History) (b : Wire) (down : List Frame) (opened : List Deed) (l : Left) → Carrying c h b down opened → Carrying c h b down (opened ++ Read l ∷ [])
carried_read c h b down opened l s = record { silent = s.silent; gets = λ e more k tag exchange key redelivered count is at. getting_read c k h (Get tag redelivered exchange key count) e.begun down opened l (s.gets e more k tag exchange key redelivered count is at) }

pub carried_send : (c : ℕ) (h : History) (b : Wire) (down : List Frame) (opened : List Deed) (f : Frame) → (channel_of f == c) ≡ true → Carrying c h b down opened → Carrying c h b (down ++ f ∷ []) (opened ++ Sent f ∷ [])
carried_send c h b down opened f on s = record { silent = s.silent; gets = λ e more k tag exchange key redelivered count is at. getting_send c k h (Get tag redelivered exchange key count) e.begun down opened f on (s.gets e more k tag exchange key redelivered count is at) }

pub carried_away : (c : ℕ) (h : History) (b : Wire) (down down' : List Frame) (opened : List Deed) → filter (is_frame_on c) down' ≡ filter (is_frame_on c) down → Carrying c h b down opened → Carrying c h b down' opened
carried_away c h b down down' opened same s = record { silent = s.silent; gets = λ e more k tag exchange key redelivered count is at. getting_away c k h (Get tag redelivered exchange key count) e.begun down down' opened same (s.gets e more k tag exchange key redelivered count is at) }

-- ---- frames of a content on the channel

-- a content that comes further
pub further : (c : ℕ) (h : History) (es es' : List Expected) (f : Frame) (fs : List Frame) (opened : List Deed) → (channel_of f == c) ≡ true → ((e' : Expected) (more : List Expected) → es' ≡ e' ∷ more → (e : Expected) × (rest : List Expected) × (es ≡ e ∷ rest) × (e'.start ≡ e.start) × ((s : Start) → sent_after (on_way s e.begun) f ≡ on_way s e'.begun)) → Gets c h es (f ∷ fs) opened → Gets c h es' fs opened
further c h es es' f fs opened on step g e' more k tag exchange key redelivered count is at =
    let x = step e' more is in
    getting_comes c k h (Get tag redelivered exchange key count) x.0.begun e'.begun f fs opened on (x.4 (Get tag redelivered exchange key count)) (g x.0 x.1 k tag exchange key redelivered count x.2 (sym x.3 ∙ at))

pub front_is : (e' e : Expected) (more es : List Expected) → (e' ∷ more) ≡ (e ∷ es) → e' ≡ e
front_is e' e more es h = cc

pub none_is : (e : Expected) (more : List Expected) → [] ≡ e ∷ more → ⊥
none_is e more h = cc

pub unbegun_none : (o : Option Begun) → is_unbegun o ≡ true → o ≡ None
unbegun_none None h = refl
unbegun_none (Some g) h = absurd cc

abbrev pub Steps : Frame → List Expected → List Expected → Type 0
Steps f es es' = (e' : Expected) (more : List Expected) → es' ≡ e' ∷ more → (e : Expected) × (rest : List Expected) × (es ≡ e ∷ rest) × (e'.start ≡ e.start) × ((s : Start) → sent_after (on_way s e.begun) f ≡ on_way s e'.begun)

pub header_steps : (d : ℕ) (h : ContentHeader) (es : List Expected) → front_waits h.class_id es ≡ true → IsOneContent es → Steps (frame.Header d h) es (after_header h es)
header_steps d h [] w o e' more is = absurd cc
header_steps d h (e ∷ y ∷ es) w o e' more is = absurd o
header_steps d h (e ∷ []) w o e' more is = by (h.body_size == 0) refl (ap (λ v. cond v (unless_whole (begun_with h e) []) []) (sym w) ∙ is)
  where
    unbegun : e.begun ≡ None
    unbegun = unbegun_none e.begun (and_parts (is_unbegun e.begun) (e.class_id == h.class_id) w).0

    by : (v : Bool) → (h.body_size == 0) ≡ v → cond v [] (begun_with h e ∷ []) ≡ e' ∷ more → (x : Expected) × (rest : List Expected) × ((e ∷ []) ≡ x ∷ rest) × (e'.start ≡ x.start) × ((s : Start) → sent_after (on_way s x.begun) (frame.Header d h) ≡ on_way s e'.begun)
    by true q k = absurd (none_is e' more k)
    by false q k =
        let same : e' ≡ begun_with h e = sym (front_is (begun_with h e) e' [] more k) in
        (e, [], refl, ap (λ (v : Expected). v.start) same, λ s. ap (λ v. sent_after (on_way s v) (frame.Header d h)) unbegun ∙ (header_on s d h q ∙ ap (λ (v : Expected). on_way s v.begun) (sym same)))

pub body_steps : (d : ℕ) (bytes : List ℕ) (es : List Expected) → front_takes bytes es ≡ true → IsOneContent es → Steps (frame.Body d bytes) es (after_body bytes es)
body_steps d bytes [] w o e' more is = absurd cc
body_steps d bytes (e ∷ y ∷ es) w o e' more is = absurd o
body_steps d bytes (e ∷ []) w o e' more is = begun e.begun refl
  where
    begun : (g : Option Begun) → e.begun ≡ g → (x : Expected) × (rest : List Expected) × ((e ∷ []) ≡ x ∷ rest) × (e'.start ≡ x.start) × ((s : Start) → sent_after (on_way s x.begun) (frame.Body d bytes) ≡ on_way s e'.begun)
    begun None q = let z : false ≡ true = ap (has_place_for bytes) (sym q) ∙ w in absurd cc
    begun (Some g) q = by ((g.left - length bytes) == 0) refl
      where
        fits : nat_le (length bytes) g.left ≡ true
        fits = ap (has_place_for bytes) (sym q) ∙ w

        whole : is_whole (grown_by bytes e) ≡ ((g.left - length bytes) == 0)
        whole = ap (λ v. is_zero (lacked (option_map (grown bytes) v))) q

        there : cond (is_whole (grown_by bytes e)) [] (grown_by bytes e ∷ []) ≡ e' ∷ more
        there = ap (λ v. cond v (unless_whole (grown_by bytes e) []) []) (sym w) ∙ is

        by : (v : Bool) → ((g.left - length bytes) == 0) ≡ v → (x : Expected) × (rest : List Expected) × ((e ∷ []) ≡ x ∷ rest) × (e'.start ≡ x.start) × ((s : Start) → sent_after (on_way s x.begun) (frame.Body d bytes) ≡ on_way s e'.begun)
        by true z = absurd (none_is e' more (ap (λ v. cond v [] (grown_by bytes e ∷ [])) (sym (whole ∙ z)) ∙ there))
        by false z =
            let same : e' ≡ grown_by bytes e = sym (front_is (grown_by bytes e) e' [] more (ap (λ v. cond v [] (grown_by bytes e ∷ [])) (sym (whole ∙ z)) ∙ there)) in
            let now : e'.begun ≡ Some (grown bytes g) = ap (λ (v : Expected). v.begun) same ∙ ap (option_map (grown bytes)) q in
            (e, [], refl, ap (λ (v : Expected). v.start) same, λ s. ap (λ v. sent_after (on_way s v) (frame.Body d bytes)) q ∙ (body_on s d g bytes fits z ∙ ap (on_way s) (sym now)))

-- ---- a part that isn't refused is received on a channel that is heard, or passed over once the connection isn't open

pub record PartHeard (c : ℕ) (p : ContentPart) (b : Wire) (x : Record) : Type 0 where
  pub received : x ≡ record_.Received
  pub hears : hears c b ≡ true
  pub may : receives_part c p b ≡ true

pub content_down : (c : ℕ) (p : ContentPart) (l : ConnectionPhase) → receives_down l (incoming.Content c p) ≡ false
content_down c p link.Open = refl
content_down c p (link.Closing s) = refl
content_down c p link.Closed = refl
content_down c p link.Lost = refl

-- received, or passed over
abbrev pub PartComes : ℕ → ContentPart → Wire → Record → Type 0
PartComes c p b x = PartHeard c p b x ⊎ ((x ≡ record_.Passed) × (is_up b.link ≡ false))

part_when : (c : ℕ) (p : ContentPart) (b : Wire) (r : Record) (v : Bool) → is_refusal r ≡ true → receives_part c p b ≡ v → is_refusal (when v r) ≡ false → PartComes c p b (when v r)
part_when c p b r true q e f = inl (record { received = refl; hears = part_on c p b e; may = e })
part_when c p b r false q e f = let w : true ≡ false = sym q ∙ f in absurd cc

pub part_heard : (c : ℕ) (p : ContentPart) (class number : ℕ) (b : Wire) (readings : Readings) → is_refusal (incoming_record b readings (refused class number) (incoming.Content c p)) ≡ false → PartComes c p b (incoming_record b readings (refused class number) (incoming.Content c p))
part_heard c p class number b readings r = (elim (is_up b.link) as (λ v. is_up b.link ≡ v → is_refusal (cond v (when (receives_part c p b) (refused class number)) (cond (receives_down b.link (incoming.Content c p)) record_.Received record_.Passed)) ≡ false → PartComes c p b (cond v (when (receives_part c p b) (refused class number)) (cond (receives_down b.link (incoming.Content c p)) record_.Received record_.Passed))) [
  | true ↦ λ u f. part_when c p b (refused class number) (receives_part c p b) refl refl f
  | false ↦ λ u f. inr (ap (λ v. cond v record_.Received record_.Passed) (content_down c p b.link), u)
]) refl r
