-- The lines of steps: no two steps have one, and which step a line is of is told by the word in front.
use Rattle.std.proofs.Common.{◌≡◌, ◌≢◌, ℕ, ◌<◌, ◌+◌, List, [], ◌∷◌, ◌++◌, length, Option, Some, None, refl, sym, ap, subst, ◌∙◌, arith}
use Rattle.std.specs.Prelude.{Result, Ok, Err, IfOk, IfSome, IfNone, codes}
use Rattle.std.specs.List.{join_with_byte}
use Rattle.lapin_types.specs.Types.{Frame}
use Rattle.lapin_types.specs.declared.event.Event.{Event}
use Rattle.lapin_types.specs.declared.event.Event.TheVariants as event
use Rattle.lapin_tokens.proofs.Plain.{no_feed}
use Rattle.lapin_text.specs.Events as events
use Rattle.lapin_text.specs.Events.{line_of, event_tokens}
use Rattle.lapin_text.specs.Frames.{frame_text, frame_tokens, FrameFits}
use Rattle.lapin_text.proofs.InputLaws.{HasNoFeed}
use Rattle.lapin_text.proofs.LineLaws.{some_tokens, some_frame_tokens, plain_event, same_line, same_text}
use Rattle.lapin_joint.specs.declared.step.Step.{Step}
use Rattle.lapin_joint.specs.declared.step.Step.TheVariants as step
use Rattle.lapin_joint_text.specs.Steps.{step_line, HasLine, IsLineOf, NoLine, IsBare, NoBare}

-- ---- lines that begin with other letters are others

first_is : (x y : ℕ) (xs ys : List ℕ) → x ∷ xs ≡ y ∷ ys → x ≡ y
first_is x y xs ys e = cc

second_is : (x y a b : ℕ) (xs ys : List ℕ) → x ∷ a ∷ xs ≡ y ∷ b ∷ ys → a ≡ b
second_is x y a b xs ys e = cc

-- ---- an event of the client

behind_client : (rest more : List ℕ) → codes "client " ++ rest ≡ codes "client " ++ more → rest ≡ more
behind_client rest more e = cc

pub client_found : (line rest : List ℕ) (e : Event) → line ≡ codes "client " ++ rest → (rest ≡ line_of e) × events.HasLine e → IsLineOf line (step.Client e)
client_found line rest e is h = (is ∙ ap (λ (r : List ℕ). codes "client " ++ r) h.0, h.1)

pub client_none : (line rest : List ℕ) → line ≡ codes "client " ++ rest → ((e : Event) → events.HasLine e → rest ≡ line_of e → ⊥) → NoLine line
client_none line rest is other (step.Client e) fit same = other e fit (behind_client rest (line_of e) (sym is ∙ same))
client_none line rest is other step.Read fit same = absurd (omega (arith, first_is 99 114 _ _ (sym is ∙ same)))
client_none line rest is other (step.Send f) fit same = absurd (omega (arith, first_is 99 115 _ _ (sym is ∙ same)))
client_none line rest is other step.Deliver fit same = absurd (omega (arith, first_is 99 100 _ _ (sym is ∙ same)))
client_none line rest is other step.Lose fit same = absurd (omega (arith, first_is 99 108 _ _ (sym is ∙ same)))

-- ---- a frame of the broker

behind_send : (rest more : List ℕ) → codes "send " ++ rest ≡ codes "send " ++ more → rest ≡ more
behind_send rest more e = cc

pub send_found : (line rest : List ℕ) (f : Frame) → line ≡ codes "send " ++ rest → (rest ≡ frame_text f) × FrameFits f → IsLineOf line (step.Send f)
send_found line rest f is h = (is ∙ ap (λ (r : List ℕ). codes "send " ++ r) h.0, h.1)

pub send_none : (line rest : List ℕ) → line ≡ codes "send " ++ rest → ((f : Frame) → FrameFits f → rest ≡ frame_text f → ⊥) → NoLine line
send_none line rest is other (step.Client e) fit same = absurd (omega (arith, first_is 115 99 _ _ (sym is ∙ same)))
send_none line rest is other step.Read fit same = absurd (omega (arith, first_is 115 114 _ _ (sym is ∙ same)))
send_none line rest is other (step.Send f) fit same = other f fit (behind_send rest (frame_text f) (sym is ∙ same))
send_none line rest is other step.Deliver fit same = absurd (omega (arith, first_is 115 100 _ _ (sym is ∙ same)))
send_none line rest is other step.Lose fit same = absurd (omega (arith, first_is 115 108 _ _ (sym is ∙ same)))

-- so the frame that was read is that of the line
pub sent_found : {E : Type 0} (r : Result (Option Frame) E) (line rest : List ℕ) → line ≡ codes "send " ++ rest → IfOk r (λ o. IfSome o (λ f. (rest ≡ frame_text f) × FrameFits f)) → IfOk r (λ o. IfSome o (λ f. IsLineOf line (step.Send f)))
sent_found (Ok (Some f)) line rest is h = send_found line rest f is h
sent_found (Ok None) line rest is h = tt
sent_found (Err e) line rest is h = tt

pub sent_none : {E : Type 0} (r : Result (Option Frame) E) (line rest : List ℕ) → line ≡ codes "send " ++ rest → IfOk r (λ o. IfNone o ((f : Frame) → FrameFits f → rest ≡ frame_text f → ⊥)) → IfOk r (λ o. IfNone o (NoLine line))
sent_none (Ok (Some f)) line rest is h = tt
sent_none (Ok None) line rest is h = send_none line rest is h
sent_none (Err e) line rest is h = tt

-- ---- a word alone

pub bare_found : (line : List ℕ) (s : Step) → IsBare line s → IsLineOf line s
bare_found line (step.Client e) is = absurd is
bare_found line step.Read is = (is, tt)
bare_found line (step.Send f) is = absurd is
bare_found line step.Deliver is = (is, tt)
bare_found line step.Lose is = (is, tt)

pub bare_none : (line : List ℕ) → ((rest : List ℕ) → line ≢ codes "client " ++ rest) → ((rest : List ℕ) → line ≢ codes "send " ++ rest) → NoBare line → NoLine line
bare_none line client send other (step.Client e) fit same = client (line_of e) same
bare_none line client send other step.Read fit same = other.0 same
bare_none line client send other (step.Send f) fit same = send (frame_text f) same
bare_none line client send other step.Deliver fit same = other.1 same
bare_none line client send other step.Lose fit same = other.2 same

-- ---- no two steps have one line

pub same_step : (a b : Step) → HasLine a → HasLine b → step_line a ≡ step_line b → a ≡ b
same_step (step.Client e) (step.Client k) fa fb is = ap step.Client (same_line e k fa fb (behind_client (line_of e) (line_of k) is))
same_step (step.Client e) step.Read fa fb is = absurd (omega (arith, first_is 99 114 _ _ is))
same_step (step.Client e) (step.Send f) fa fb is = absurd (omega (arith, first_is 99 115 _ _ is))
same_step (step.Client e) step.Deliver fa fb is = absurd (omega (arith, first_is 99 100 _ _ is))
same_step (step.Client e) step.Lose fa fb is = absurd (omega (arith, first_is 99 108 _ _ is))
same_step step.Read (step.Client k) fa fb is = absurd (omega (arith, first_is 114 99 _ _ is))
same_step step.Read step.Read fa fb is = refl
same_step step.Read (step.Send f) fa fb is = absurd (omega (arith, first_is 114 115 _ _ is))
same_step step.Read step.Deliver fa fb is = absurd (omega (arith, first_is 114 100 _ _ is))
same_step step.Read step.Lose fa fb is = absurd (omega (arith, first_is 114 108 _ _ is))
same_step (step.Send f) (step.Client k) fa fb is = absurd (omega (arith, first_is 115 99 _ _ is))
same_step (step.Send f) step.Read fa fb is = absurd (omega (arith, first_is 115 114 _ _ is))
same_step (step.Send f) (step.Send g) fa fb is = ap step.Send (same_text f g fa fb (behind_send (frame_text f) (frame_text g) is))
same_step (step.Send f) step.Deliver fa fb is = absurd (omega (arith, first_is 115 100 _ _ is))
same_step (step.Send f) step.Lose fa fb is = absurd (omega (arith, first_is 115 108 _ _ is))
same_step step.Deliver (step.Client k) fa fb is = absurd (omega (arith, first_is 100 99 _ _ is))
same_step step.Deliver step.Read fa fb is = absurd (omega (arith, first_is 100 114 _ _ is))
same_step step.Deliver (step.Send f) fa fb is = absurd (omega (arith, first_is 100 115 _ _ is))
same_step step.Deliver step.Deliver fa fb is = refl
same_step step.Deliver step.Lose fa fb is = absurd (omega (arith, first_is 100 108 _ _ is))
same_step step.Lose (step.Client k) fa fb is = absurd (omega (arith, first_is 108 99 _ _ is))
same_step step.Lose step.Read fa fb is = absurd (omega (arith, first_is 108 114 _ _ is))
same_step step.Lose (step.Send f) fa fb is = absurd (omega (arith, first_is 108 115 _ _ is))
same_step step.Lose step.Deliver fa fb is = absurd (omega (arith, first_is 108 100 _ _ is))
same_step step.Lose step.Lose fa fb is = refl

-- ---- no line has a line feed

behind_space : (word : List ℕ) (ts : List (List ℕ)) → 0 < length ts → join_with_byte 32 (word ∷ ts) ≡ word ++ 32 ∷ join_with_byte 32 ts
behind_space word [] some = absurd (omega arith)
behind_space word (t ∷ ts) some = refl

pub step_plain : (s : Step) → HasLine s → HasNoFeed (step_line s)
step_plain (step.Client e) h = subst HasNoFeed (behind_space (codes "client") (event_tokens e) (some_tokens e)) (no_feed (codes "client" ∷ event_tokens e) (refl, plain_event e h))
step_plain step.Read h = no_feed (codes "read" ∷ []) (refl, tt)
step_plain (step.Send f) h = subst HasNoFeed (behind_space (codes "send") (frame_tokens f) (some_frame_tokens f)) (no_feed (codes "send" ∷ frame_tokens f) (refl, (plain_event (event.Receive f) h).1))
step_plain step.Deliver h = no_feed (codes "deliver" ∷ []) (refl, tt)
step_plain step.Lose h = no_feed (codes "lose" ∷ []) (refl, tt)
