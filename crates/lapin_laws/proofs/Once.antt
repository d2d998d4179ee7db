-- An acker is used once: behind a call that uses it, it is not usable, whatever comes.
use Rattle.std.proofs.Common.{◌≡◌, ℕ, zero, suc, ◌+◌, ◌≤◌, ◌==◌, ◌&&◌, Bool, true, false, cond, not, List, [], ◌∷◌, ◌++◌, zip, Option, Some, None, refl, sym, ◌∙◌, ap, subst, arith, inl, inr, eq-eqb}
use Rattle.std.specs.Prelude.{slice_get}
use Rattle.std.specs.List.{fold}
use Rattle.std.specs.Option.{option_map}
use Rattle.std.proofs.lemmas.Bool.Decides.{eqb_tells}
use Rattle.std.proofs.lemmas.List.Sums.{fold-append}
use Rattle.lapin_types.specs.declared.acker_call.AckerCall.{AckerCall}
use Rattle.lapin_types.specs.declared.event.Event.{Event}
use Rattle.lapin_types.specs.declared.event.Event.TheVariants as event
use Rattle.lapin_types.specs.declared.record.Record.{Record}
use Rattle.lapin_acker.specs.declared.switch.Switch.{Switch}
use Rattle.lapin_acker.specs.declared.switch.Switch.TheVariants as switch
use Rattle.lapin_acker.specs.Marks.{AckerMark}
use Rattle.lapin_acker.specs.Marks as acker
use Rattle.lapin_acker.specs.Switches.{switch_at, usable_as, used, over_on, names, map_numbered, moved, joined, after_mark}
use Rattle.lapin_delivery.specs.Deliveries.{Deliveries, all_acker_marks}
use Rattle.lapin_delivery.specs.Deliveries as moves
use Rattle.lapin_delivery.specs.Marks.{DeliveryMark}
use Rattle.lapin_delivery.specs.Marks as deliveries
use Rattle.lapin_delivery.proofs.Histories.{ackers-follow}
use Rattle.lapin_rules.specs.Words.{many, is_some}
use Rattle.lapin_rules.specs.Wire.{Wire}
use Rattle.lapin_rules.specs.Asking.{asking_deliveries}
use Rattle.lapin_rules.specs.Ackers.{acker_asked, usable_at, acked_record, acked_deliveries, acker_told}
use Rattle.lapin_rules.specs.Events.{after_event, delivery_marks, record_of}
use Rattle.lapin_rules.specs.History.{History, Past, past, rec, run_from, run, readings_of}
use Rattle.lapin_rules.specs.Readings.{Readings}
use Rattle.lapin_machine.proofs.Standing.{past-push}
use Rattle.lapin_laws.specs.Consumers.{is_no, uses_acker}
use Rattle.lapin_machine.proofs.Deliveries.{deliveries-next}

-- ---- an acker that is not usable stays so

-- the acker was given, and is used, void or over
abbrev is_gone : Option Switch → Bool
is_gone None = false
is_gone (Some (switch.Usable c t)) = false
is_gone (Some (switch.Used c)) = true
is_gone (Some switch.Over) = true

abbrev Gone : ℕ → List Switch → Type 0
Gone n ss = is_gone (switch_at n ss) ≡ true

mapped : (f : ℕ → Switch → Switch) (i p : ℕ) (ss : List Switch) → slice_get (map_numbered i f ss) p ≡ option_map (f (suc (i + p))) (slice_get ss p)
mapped f i p [] = refl
mapped f i zero (s ∷ ss) = ap (λ k. Some (f (suc k) s)) (omega arith)
mapped f i (suc p) (s ∷ ss) = mapped f (suc i) p ss ∙ ap (λ k. option_map (f (suc k)) (slice_get ss p)) (omega arith)

over_gone : (c d : ℕ) → is_gone (Some (over_on c (switch.Used d))) ≡ true
over_gone c d = elim (d == c) as (λ t. is_gone (Some (cond t switch.Over (switch.Used d))) ≡ true) [ true ↦ refl | false ↦ refl ]

used_gone : (t : Bool) (s : Switch) → is_gone (Some s) ≡ true → is_gone (Some (cond t (used s) s)) ≡ true
used_gone t (switch.Usable c x) h = absurd cc
used_gone true (switch.Used c) h = refl
used_gone false (switch.Used c) h = refl
used_gone true switch.Over h = refl
used_gone false switch.Over h = refl

moved_gone : (m : AckerMark) (n : ℕ) (s : Switch) → is_gone (Some s) ≡ true → is_gone (Some (moved m n s)) ≡ true
moved_gone (acker.Added c o t) n s h = h
moved_gone (acker.Spent k) n s h = used_gone (k == n) s h
moved_gone (acker.Voided ks) n s h = used_gone (names ks n) s h
moved_gone (acker.Ended c) n (switch.Usable d t) h = absurd cc
moved_gone (acker.Ended c) n (switch.Used d) h = over_gone c d
moved_gone (acker.Ended c) n switch.Over h = refl

moved_given : (m : AckerMark) (n : ℕ) (s : Switch) → is_some (Some s) ≡ true → is_some (Some (moved m n s)) ≡ true
moved_given m n s h = refl

-- what no mark takes from an acker stays
module _ (f : Option Switch → Bool) (none : f None ≡ false) (keeps : (m : AckerMark) (n : ℕ) (s : Switch) → f (Some s) ≡ true → f (Some (moved m n s)) ≡ true) where
  nowhere : {A : Type 0} → f None ≡ true → A
  nowhere h = let z : true ≡ false = sym h ∙ none in absurd cc

  through : (m : AckerMark) (n : ℕ) (o : Option Switch) → f o ≡ true → f (option_map (moved m n) o) ≡ true
  through m n None h = h
  through m n (Some s) h = keeps m n s h

  pushed : (p : ℕ) (ss : List Switch) (s : Switch) → f (slice_get ss p) ≡ true → f (slice_get (ss ++ s ∷ []) p) ≡ true
  pushed p [] s h = nowhere h
  pushed zero (x ∷ xs) s h = h
  pushed (suc p) (x ∷ xs) s h = pushed p xs s h

  joined_keeps : (m : AckerMark) (p : ℕ) (ss : List Switch) → f (slice_get ss p) ≡ true → f (slice_get (joined m ss) p) ≡ true
  joined_keeps (acker.Added c o t) p ss h = pushed p ss (switch.Usable c t) h
  joined_keeps (acker.Spent k) p ss h = h
  joined_keeps (acker.Voided ks) p ss h = h
  joined_keeps (acker.Ended c) p ss h = h

  kept-next : (n : ℕ) (ss : List Switch) (m : AckerMark) → f (switch_at n ss) ≡ true → f (switch_at n (after_mark ss m)) ≡ true
  kept-next zero ss m h = nowhere h
  kept-next (suc p) ss m h = joined_keeps m p (map_numbered 0 (moved m) ss) (ap f (mapped (moved m) 0 p ss) ∙ through m (suc (0 + p)) (slice_get ss p) h)

  kept_all : (n : ℕ) (ss : List Switch) (ms : List AckerMark) → f (switch_at n ss) ≡ true → f (switch_at n (fold after_mark ss ms)) ≡ true
  kept_all n ss [] h = h
  kept_all n ss (m ∷ ms) h = kept_all n (after_mark ss m) ms (kept-next n ss m h)

-- a call on one that was given uses it up
spent_gone : (n : ℕ) (ss : List Switch) → is_some (switch_at n ss) ≡ true → Gone n (after_mark ss (acker.Spent n))
spent_gone zero ss h = absurd cc
spent_gone (suc p) ss h = ap is_gone (mapped (moved (acker.Spent (suc p))) 0 p ss) ∙ at_once (slice_get ss p) h
  where
    itself : (suc p == suc (0 + p)) ≡ true
    itself = eq-eqb (suc p) (suc (0 + p)) (omega arith)

    at_once : (o : Option Switch) → is_some o ≡ true → is_gone (option_map (moved (acker.Spent (suc p)) (suc (0 + p))) o) ≡ true
    at_once None e = absurd cc
    at_once (Some (switch.Usable c t)) e = rw itself refl
    at_once (Some (switch.Used c)) e = rw itself refl
    at_once (Some switch.Over) e = rw itself refl

usable_given : (o : Option Switch) (x : ℕ × ℕ) → usable_as o ≡ Some x → is_some o ≡ true
usable_given None x e = absurd cc
usable_given (Some s) x e = refl

-- ---- every event

abbrev IsGone : ℕ → Wire → Type 0
IsGone n b = Gone n b.deliveries.switches

gone_marks : (n : ℕ) (i : Deliveries) (ms : List DeliveryMark) → Gone n i.switches → Gone n (fold moves.after_mark i ms).switches
gone_marks n i ms h = let P : List Switch → Type 0 = λ ss. Gone n ss in subst P (sym (ackers-follow i ms)) (kept_all is_gone refl moved_gone n i.switches (all_acker_marks i ms) h)

given_marks : (n : ℕ) (i : Deliveries) (ms : List DeliveryMark) → is_some (switch_at n i.switches) ≡ true → is_some (switch_at n (fold moves.after_mark i ms).switches) ≡ true
given_marks n i ms h = ap (λ ss. is_some (switch_at n ss)) (ackers-follow i ms) ∙ kept_all is_some refl moved_given n i.switches (all_acker_marks i ms) h

stays_gone : (n : ℕ) (b : Wire) (e : Event) (r : Record) → IsGone n b → IsGone n (after_event b e r)
stays_gone n b e r h = let P : Deliveries → Type 0 = λ i. Gone n i.switches in subst P (sym (deliveries-next b e r)) (gone_marks n b.deliveries (delivery_marks b e r) h)

call_gone : (n : ℕ) (k : AckerCall) (b : Wire) (r : Record) (o : Option (ℕ × ℕ)) → usable_at n b ≡ o → is_no (acked_record o k b) ≡ false → IsGone n (after_event b (event.Acker n k) r)
call_gone n k b r None e h = absurd cc
call_gone n k b r (Some x) e h =
    let P : Deliveries → Type 0 = λ i. Gone n i.switches in
    let Q : Option (ℕ × ℕ) → Type 0 = λ o. Gone n (fold moves.after_mark b.deliveries (acked_deliveries n o k b)).switches in
    let made : List DeliveryMark = asking_deliveries x.0 (acker_asked k x.1) b in
    let first : Deliveries = fold moves.after_mark b.deliveries made in
    let spent : Gone n (moves.after_mark first (deliveries.Spent n)).switches = spent_gone n first.switches (given_marks n b.deliveries made (usable_given (switch_at n b.deliveries.switches) x e)) in
    let after : Q (Some x) = subst P (sym (fold-append moves.after_mark b.deliveries made (deliveries.Spent n ∷ []))) spent in
    subst P (sym (deliveries-next b (event.Acker n k) r)) (subst Q (sym e) after)

-- of an acker that is not usable a call says no
gone_unusable : (o : Option Switch) → is_gone o ≡ true → usable_as o ≡ None
gone_unusable None h = absurd cc
gone_unusable (Some (switch.Usable c t)) h = absurd cc
gone_unusable (Some (switch.Used c)) h = refl
gone_unusable (Some switch.Over) h = refl

gone_no : (n : ℕ) (k : AckerCall) (b : Wire) → IsGone n b → is_no (acker_told n k b) ≡ true
gone_no n k b h = ap (λ o. is_no (acked_record o k b)) (gone_unusable (switch_at n b.deliveries.switches) h)

-- an event that uses no acker of this number, or that does
abbrev Uses : ℕ → Wire → Readings → Event → Bool
Uses n b readings e = uses_acker n (e, record_of b readings e)

gone_unused : (n : ℕ) (b : Wire) (readings : Readings) (e : Event) → IsGone n b → Uses n b readings e ≡ false
gone_unused n b readings (event.Acker m k) h = elim (eqb_tells m n) [
  | inl y ↦ let P : ℕ → Type 0 = λ i. IsGone i b in let no : is_no (acker_told m k b) ≡ true = gone_no m k b (subst P (sym y.1) h) in rw (y.0, no) refl
  | inr x ↦ rw x.0 refl
]
gone_unused n b readings _ h = refl

used_gone_behind : (n : ℕ) (b : Wire) (readings : Readings) (e : Event) → Uses n b readings e ≡ true → IsGone n (after_event b e (record_of b readings e))
used_gone_behind n b readings (event.Acker m k) h = elim (eqb_tells m n) [
  | inl y ↦
      let P : ℕ → Type 0 = λ i. IsGone i (after_event b (event.Acker m k) (acker_told m k b)) in
      subst P y.1 (call_gone m k b (acker_told m k b) (usable_at m b) refl (not_no (m == n) (is_no (acker_told m k b)) h))
  | inr x ↦ absurd (off (m == n) (is_no (acker_told m k b)) x.0 h)
]
  where
    not_no : (t u : Bool) → (t && not u) ≡ true → u ≡ false
    not_no true true h = absurd cc
    not_no true false h = refl
    not_no false u h = absurd cc

    off : (t u : Bool) → t ≡ false → (t && not u) ≡ true → ⊥
    off true u e h = absurd cc
    off false u e h = absurd cc
used_gone_behind n b readings _ h = absurd cc

-- ---- every list of events

module _ (n : ℕ) where
  abbrev uses_in : ℕ → History → List Event → ℕ
  uses_in frame_max h es = many (uses_acker n) (zip es (run_from frame_max h es))

  later : (frame_max : ℕ) (h : History) (e : Event) (P : Wire → Type 0) → P (after_event (past frame_max h).wire e (rec frame_max h e)) → P (past frame_max (h ++ (e, rec frame_max h e) ∷ [])).wire
  later frame_max h e P x = let Q : Past → Type 0 = λ q. P q.wire in subst Q (sym (past-push _ h e (rec frame_max h e))) x

  -- no use behind it
  no_more : (frame_max : ℕ) (h : History) (es : List Event) → IsGone n (past frame_max h).wire → uses_in frame_max h es ≡ 0
  no_more frame_max h [] g = refl
  no_more frame_max h (e ∷ es) g =
      let before : Past = past frame_max h in
      let r : Record = rec frame_max h e in
      let unused : uses_acker n (e, r) ≡ false = gone_unused n before.wire (readings_of before.confirms before.tickets) e g in
      let rest : uses_in frame_max (h ++ (e, r) ∷ []) es ≡ 0 = no_more frame_max (h ++ (e, r) ∷ []) es (later frame_max h e (IsGone n) (stays_gone n before.wire e r g)) in
      rw unused rest

  at_most_once : (frame_max : ℕ) (h : History) (es : List Event) → uses_in frame_max h es ≤ 1
  at_most_once frame_max h [] = omega arith
  at_most_once frame_max h (e ∷ es) =
      let before : Past = past frame_max h in
      let r : Record = rec frame_max h e in
      let h' : History = h ++ (e, r) ∷ [] in
      elim (uses_acker n (e, r)) as (λ t. uses_acker n (e, r) ≡ t → cond t (uses_in frame_max h' es + 1) (uses_in frame_max h' es) ≤ 1) [
        | true ↦ λ u. let rest : uses_in frame_max h' es ≡ 0 = no_more frame_max h' es (later frame_max h e (IsGone n) (used_gone_behind n before.wire (readings_of before.confirms before.tickets) e u)) in omega arith
        | false ↦ λ u. at_most_once frame_max h' es
      ] refl

pub used_once : (frame_max : ℕ) (es : List Event) (n : ℕ) → many (uses_acker n) (zip es (run frame_max es)) ≤ 1
used_once frame_max es n = at_most_once n frame_max [] es
