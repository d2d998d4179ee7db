-- A joined run that is one step longer, and the tallies of what was handed out.
use Rattle.std.proofs.Common.{◌≡◌, ◌∙◌, ℕ, zero, suc, ◌≤◌, ◌<◌, ◌==◌, Bool, true, false, cond, ◌&&◌, ◌||◌, List, [], ◌∷◌, ◌++◌, length, Option, Some, None, refl, sym, ap, subst, append-nil, append_assoc, arith, length-append}
use Rattle.std.specs.Prelude.{nat_le}
use Rattle.std.specs.List.{fold, list_any}
use Rattle.std.proofs.lemmas.Bool.Decides.{nat_tests}
use Rattle.lapin_types.specs.declared.event.Event.{Event}
use Rattle.lapin_types.specs.declared.event.Event.TheVariants as event
use Rattle.lapin_types.specs.declared.record.Record.{Record}
use Rattle.lapin_types.specs.declared.leaving.Left.{Left}
use Rattle.lapin_types.specs.Types.{Frame, Method}
use Rattle.lapin_types.specs.Types.frame
use Rattle.lapin_types.specs.Types.method
use Rattle.lapin_types.specs.Types.basic
use Rattle.lapin_types.specs.Types.confirm
use Rattle.lapin_methods.specs.declared.frame.ContentHeader.{ContentHeader}
use Rattle.lapin_rules.specs.declared.marks.Settlement.{Settlement}
use Rattle.lapin_rules.specs.ConfirmMarks.{ConfirmMark}
use Rattle.lapin_rules.specs.ConfirmReadings.{covers}
use Rattle.lapin_rules.specs.History.{History, Past, past, past_on, longer, rec}
use Rattle.lapin_rules.specs.Events.{confirm_marks}
use Rattle.lapin_broker.specs.Frames.{channel_of}
use Rattle.lapin_broker.specs.Sends.{may}
use Rattle.lapin_joint.specs.declared.step.Step.{Step}
use Rattle.lapin_joint.specs.declared.step.Step.TheVariants as step
use Rattle.lapin_joint.specs.Joint.{Joint, new_joint, is_lawful, after, run, joined_to, read_first, deliver_first, client, send_down}
use Rattle.lapin_machine.specs.Way.{Way, by_history}
use Rattle.lapin_joint.specs.Order.{along}
use Rattle.lapin_verdicts.specs.Deeds.{Deed, Read, Sent, is_open, on_channel, joined_opening, reads, sents, deed_in, deeds}
use Rattle.lapin_verdicts.specs.Publishes.{Message, Coming, Idle, Begun, Headed, Tally, no_tally, with_whole, with_bytes, with_header, with_body, with_method, tally_after, tally}
use Rattle.lapin_verdicts.specs.Verdicts.{at_place, settles_by, settles, settlement_in}
use Rattle.lapin_verdicts.specs.InStep.{is_open_on, is_frame_on}
use Rattle.lapin_verdicts.specs.Session.{told, next_tally, next_on, frames_of}
use Rattle.lapin_verdicts.proofs.Sending.{InRange, RangeBy}
use Rattle.lapin_verdicts.proofs.TagCounts.{tally_on, tally-grown, reads-sent, AreDue}
use Rattle.std.proofs.lemmas.Bool.{or_parts}
use Rattle.lapin_joint.proofs.Steps.{run-push}

-- ---- one step more

pub along-push : {S A : Type 0} (m : Way S) (part : Step → Joint S → List A) (ss : List Step) (s : Step) (j : Joint S) → along m part (ss ++ s ∷ []) j ≡ along m part ss j ++ part s (run m ss j)
along-push m part [] s j = append-nil (part s j)
along-push m part (t ∷ ss) s j = ap (λ xs. part t j ++ xs) (along-push m part ss s (after m t j)) ∙ sym (append_assoc (part t j) _ _)

pub joined-push : (n : ℕ) (ss : List Step) (s : Step) → joined_to n (ss ++ s ∷ []) ≡ after (by_history n) s (joined_to n ss)
joined-push n ss s = run-push (by_history n) ss s (new_joint [] n)

pub deeds-push : (n : ℕ) (ss : List Step) (s : Step) → deeds n (ss ++ s ∷ []) ≡ deeds n ss ++ deed_in s (joined_to n ss)
deeds-push n ss s = along-push (by_history n) deed_in ss s (new_joint [] n)

past_on-push : (p : Past) (h : History) (e : Event) (r : Record) → past_on p (h ++ (e, r) ∷ []) ≡ longer (past_on p h) e r
past_on-push p [] e r = refl
past_on-push p (x ∷ h) e r = past_on-push (longer p x.0 x.1) h e r

pub past-push : (n : ℕ) (h : History) (e : Event) (r : Record) → past n (h ++ (e, r) ∷ []) ≡ longer (past n h) e r
past-push n h e r = past_on-push _ h e r

-- what the session has come to
abbrev pub past_at : ℕ → Joint History → Past
past_at n j = past n j.session

-- what a step does to confirms
abbrev pub delivered_marks : ℕ → List Frame → Joint History → List ConfirmMark
delivered_marks n [] j = []
delivered_marks n (f ∷ fs) j = confirm_marks (past_at n j).wire (event.Receive f) (rec n j.session (event.Receive f))

abbrev pub marks_in : ℕ → Step → Joint History → List ConfirmMark
marks_in n (step.Client e) j = cond (is_lawful e) (confirm_marks (past_at n j).wire e (rec n j.session e)) []
marks_in n step.Read j = []
marks_in n (step.Send f) j = []
marks_in n step.Deliver j = delivered_marks n j.down j
marks_in n step.Lose j = confirm_marks (past_at n j).wire event.Lost (rec n j.session event.Lost)

event_marks : (n : ℕ) (j : Joint History) (e : Event) → (past n (j.session ++ (e, rec n j.session e) ∷ [])).confirms ≡ (past_at n j).confirms ++ confirm_marks (past_at n j).wire e (rec n j.session e)
event_marks n j e = ap (λ (p : Past). p.confirms) (past-push n j.session e (rec n j.session e))

still : (n : ℕ) (j k : Joint History) → k.session ≡ j.session → (past_at n k).confirms ≡ (past_at n j).confirms ++ []
still n j k e = ap (λ h. (past n h).confirms) e ∙ sym (append-nil _)

client_marks : (n : ℕ) (v : Bool) (e : Event) (j : Joint History) → (past_at n (cond v (client (by_history n) e j) j)).confirms ≡ (past_at n j).confirms ++ cond v (confirm_marks (past_at n j).wire e (rec n j.session e)) []
client_marks n true e j = event_marks n j e
client_marks n false e j = still n j j refl

read_session : {S : Type 0} (ls : List Left) (j : Joint S) → (read_first ls j).session ≡ j.session
read_session [] j = refl
read_session (l ∷ ls) j = refl

send_session : {S : Type 0} (v : Bool) (f : Frame) (j : Joint S) → (cond v (send_down f j) j).session ≡ j.session
send_session true f j = refl
send_session false f j = refl

deliver_marks : (n : ℕ) (fs : List Frame) (j : Joint History) → (past_at n (deliver_first (by_history n) fs j)).confirms ≡ (past_at n j).confirms ++ delivered_marks n fs j
deliver_marks n [] j = still n j j refl
deliver_marks n (f ∷ fs) j = event_marks n j (event.Receive f)

pub marks_after : (n : ℕ) (s : Step) (j : Joint History) → (past_at n (after (by_history n) s j)).confirms ≡ (past_at n j).confirms ++ marks_in n s j
marks_after n (step.Client e) j = client_marks n (is_lawful e) e j
marks_after n step.Read j = still n j (read_first j.up j) (read_session j.up j)
marks_after n (step.Send f) j = still n j (cond (may j.broker f) (send_down f j) j) (send_session (may j.broker f) f j)
marks_after n step.Deliver j = deliver_marks n j.down j
marks_after n step.Lose j = event_marks n j event.Lost

-- ---- lists

-- two lists that are equal with the same behind them
pub cancel : {X : Type 0} (xs ys zs : List X) → xs ++ zs ≡ ys ++ zs → xs ≡ ys
cancel [] [] zs e = refl
cancel [] (y ∷ ys) zs e = let n : length zs ≡ length ((y ∷ ys) ++ zs) = ap length e in let m = length-append (y ∷ ys) zs in let w : ⊥ = omega (arith, n, m) in absurd w
cancel (x ∷ xs) [] zs e = let n : length ((x ∷ xs) ++ zs) ≡ length zs = ap length e in let m = length-append (x ∷ xs) zs in let w : ⊥ = omega (arith, n, m) in absurd w
cancel (x ∷ xs) (y ∷ ys) zs e = let h : x ≡ y = cc in let t : xs ++ zs ≡ ys ++ zs = cc in ap (λ v. v ∷ xs) h ∙ ap (λ v. y ∷ v) (cancel xs ys zs t)

pub any-first : {X : Type 0} (p : X → Bool) (xs ys : List X) → list_any p (xs ++ ys) ≡ false → list_any p xs ≡ false
any-first p [] ys h = refl
any-first p (x ∷ xs) ys h = elim (p x) as (λ b. (b || list_any p (xs ++ ys)) ≡ false → (b || list_any p xs) ≡ false) [ true ↦ λ e. e | false ↦ λ e. any-first p xs ys e ] h

pub at-first : {X : Type 0} (t : ℕ) (xs ys : List X) (m : X) → at_place t (xs ++ ys) ≡ Some m → t ≤ length xs → at_place t xs ≡ Some m
at-first zero [] [] m h le = h
at-first (suc t) [] ys m h le = let w : ⊥ = omega (arith, le) in absurd w
at-first zero [] (y ∷ ys) m h le = cc
at-first zero (x ∷ xs) ys m h le = h
at-first (suc zero) (x ∷ xs) ys m h le = h
at-first (suc (suc t)) (x ∷ xs) ys m h le = at-first (suc t) xs ys m h (omega (arith, le))

-- ---- a tally only grows

-- the numbered messages of y' are those of y and then these
pub record Grows (y y' : Tally) : Type 0 where
  pub more : List Message
  pub is : y'.numbered ≡ y.numbered ++ more

grows_same : (y y' : Tally) → y'.numbered ≡ y.numbered → Grows y y'
grows_same y y' e = record { more = []; is = e ∙ sym (append-nil y.numbered) }

pub grows_then : (x y z : Tally) → Grows x y → Grows y z → Grows x z
grows_then x y z a b = record { more = a.more ++ b.more; is = b.is ∙ (ap (λ v. v ++ b.more) a.is ∙ append_assoc x.numbered a.more b.more) }

whole_grows : (m : Message) (y : Tally) (b : Bool) → Grows y (record { selected = y.selected; numbered = cond b (y.numbered ++ m ∷ []) y.numbered; coming = Idle })
whole_grows m y true = record { more = m ∷ []; is = refl }
whole_grows m y false = grows_same _ _ refl

bytes_grow : (size : ℕ) (m : Message) (y : Tally) → Grows y (with_bytes size m y)
bytes_grow size m y = elim (length m.payload == size) as (λ b. Grows y (cond b (with_whole m y) (record y { coming = Headed size m }))) [ true ↦ whole_grows m y y.selected | false ↦ grows_same _ _ refl ]

header_grows : (h : ContentHeader) (co : Coming) (y : Tally) → Grows y (with_header h co y)
header_grows h (Begun m) y = bytes_grow h.body_size _ y
header_grows h Idle y = grows_same _ _ refl
header_grows h (Headed size m) y = grows_same _ _ refl

body_grows : (bytes : List ℕ) (co : Coming) (y : Tally) → Grows y (with_body bytes co y)
body_grows bytes (Headed size m) y = bytes_grow size _ y
body_grows bytes Idle y = grows_same _ _ refl
body_grows bytes (Begun m) y = grows_same _ _ refl

method_same : (m : Method) (y : Tally) → (with_method m y).numbered ≡ y.numbered
method_same (method.Basic (basic.Publish exchange key mandatory immediate)) y = refl
method_same (method.Confirm (confirm.Select nowait)) y = refl
method_same _ y = refl

pub after_grows : (f : Frame) (y : Tally) → Grows y (tally_after y f)
after_grows (frame.Method c m) y = grows_same _ _ (method_same m y)
after_grows (frame.Header c h) y = header_grows h y.coming y
after_grows (frame.Body c bytes) y = body_grows bytes y.coming y

pub fold_grows : (fs : List Frame) (y : Tally) → Grows y (fold tally_after y fs)
fold_grows [] y = grows_same _ _ refl
fold_grows (f ∷ fs) y = grows_then _ _ _ (after_grows f y) (fold_grows fs (tally_after y f))

pub grown_length : (y z : Tally) → Grows y z → length y.numbered ≤ length z.numbered
grown_length y z g = let e : length z.numbered ≡ length (y.numbered ++ g.more) = ap length g.is in let a = length-append y.numbered g.more in omega (arith, e, a)

-- ---- what was handed out on a channel

next_grows : (c : ℕ) (f : Frame) (y : Tally) → (is_frame_on c f && is_open f) ≡ false → Grows y (next_tally c f y)
next_grows c f y = elim (channel_of f == c) as (λ b. (b && is_open f) ≡ false → Grows y (cond b (told f y) y)) [
  | true ↦ elim (is_open f) as (λ b. b ≡ false → Grows y (cond b no_tally (tally_after y f))) [ true ↦ λ h. absurd cc | false ↦ λ h. after_grows f y ]
  | false ↦ λ h. grows_same _ _ refl
]

pub way_grows : (c : ℕ) (ls : List Left) (y : Tally) → list_any (is_open_on c) ls ≡ false → Grows y (fold (next_on c) y (frames_of ls))
way_grows c [] y h = grows_same _ _ refl
way_grows c (l ∷ ls) y h =
    let parts : (is_open_on c l ≡ false) × (list_any (is_open_on c) ls ≡ false) = or_parts (is_open_on c l) (list_any (is_open_on c) ls) h in
    grows_then _ _ _ (next_grows c l.frame y parts.0) (way_grows c ls (next_tally c l.frame y) parts.1)

joined_tally : (o : List Deed) (l : Left) → tally (reads (joined_opening o (Read l))) ≡ told l.frame (tally (reads o))
joined_tally o l = elim (is_open l.frame) as (λ b. tally (reads (cond b [] (o ++ Read l ∷ []))) ≡ cond b no_tally (tally_after (tally (reads o)) l.frame)) [ true ↦ refl | false ↦ tally-grown o l ]

-- the tally of the last opening, frame by frame
folds : (c : ℕ) (o : List Deed) (ds : List Deed) → fold (next_on c) (tally (reads o)) (reads ds) ≡ tally (reads (fold joined_opening o (on_channel c ds)))
folds c o [] = refl
folds c o (Read l ∷ ds) = elim (channel_of l.frame == c) as (λ b. fold (next_on c) (cond b (told l.frame (tally (reads o))) (tally (reads o))) (reads ds) ≡ tally (reads (fold joined_opening o (cond b (Read l ∷ on_channel c ds) (on_channel c ds))))) [
  | true ↦ ap (λ y. fold (next_on c) y (reads ds)) (sym (joined_tally o l)) ∙ folds c (joined_opening o (Read l)) ds
  | false ↦ folds c o ds
]
folds c o (Sent f ∷ ds) = elim (channel_of f == c) as (λ b. fold (next_on c) (tally (reads o)) (reads ds) ≡ tally (reads (fold joined_opening o (cond b (Sent f ∷ on_channel c ds) (on_channel c ds))))) [
  | true ↦ ap (λ y. fold (next_on c) y (reads ds)) (sym (ap tally (reads-sent o f))) ∙ folds c (o ++ Sent f ∷ []) ds
  | false ↦ folds c o ds
]

pub tally_folds : (c : ℕ) (ds : List Deed) → fold (next_on c) no_tally (reads ds) ≡ tally_on c ds
tally_folds c ds = folds c [] ds

-- ---- a tag that isn't counted yet is covered by nothing that was sent

cover_false : (n t : ℕ) (multiple : Bool) → 0 < n → n < t → cond multiple ((n == 0) || nat_le t n) (n == t) ≡ false
cover_false n t true z lt = grind (arith, nat_tests)
cover_false n t false z lt = grind (arith, nat_tests)

uncovered : (o : Option Settlement) (y : Tally) (t : ℕ) → RangeBy o y → length y.numbered < t → settles_by t o ≡ false
uncovered None y t r lt = refl
uncovered (Some s) y t r lt = cover_false s.tag t s.multiple r.0 (let le = r.1 in omega (arith, le, lt))

pub none_covers : (y : Tally) (o : List Deed) (t : ℕ) → AreDue y o → length (fold tally_after y (reads o)).numbered < t → list_any (settles t) (sents o) ≡ false
none_covers y [] t d lt = refl
none_covers y (Read l ∷ o) t d lt = none_covers (tally_after y l.frame) o t d.1 lt
none_covers y (Sent f ∷ o) t d lt =
    let small : length y.numbered < t = (let le = grown_length y _ (fold_grows (reads o) y) in omega (arith, le, lt)) in
    rw (uncovered (settlement_in f) y t d.0 small) (none_covers y o t d.1 lt)

-- ---- where a frame was sent

-- a list of deeds at the place where a frame is sent after these
pub record Split (ds : List Deed) (came : List Frame) (f : Frame) : Type 0 where
  pub before : List Deed
  pub behind : List Deed
  pub all : ds ≡ before ++ Sent f ∷ behind
  pub came_is : sents before ≡ came

pub split_at : (ds : List Deed) (came : List Frame) (f : Frame) (fs : List Frame) → sents ds ≡ came ++ f ∷ fs → Split ds came f
split_at [] [] f fs e = absurd cc
split_at [] (g ∷ came) f fs e = absurd cc
split_at (Read l ∷ ds) came f fs e = let s = split_at ds came f fs e in record { before = Read l ∷ s.before; behind = s.behind; all = ap (λ v. Read l ∷ v) s.all; came_is = s.came_is }
split_at (Sent g ∷ ds) [] f fs e = let h : g ≡ f = cc in record { before = []; behind = ds; all = ap (λ v. Sent v ∷ ds) h; came_is = refl }
split_at (Sent g ∷ ds) (x ∷ came) f fs e =
    let h : g ≡ x = cc in let t : sents ds ≡ came ++ f ∷ fs = cc in
    let s = split_at ds came f fs t in
    record { before = Sent g ∷ s.before; behind = s.behind; all = ap (λ v. Sent g ∷ v) s.all; came_is = ap (λ v. v ∷ sents s.before) h ∙ ap (λ v. x ∷ v) s.came_is }

-- what was sent at a place was due there
pub due_at : (y : Tally) (before behind : List Deed) (f : Frame) → AreDue y (before ++ Sent f ∷ behind) → RangeBy (settlement_in f) (fold tally_after y (reads before))
due_at y [] behind f d = d.0
due_at y (Read l ∷ before) behind f d = due_at (tally_after y l.frame) before behind f d.1
due_at y (Sent g ∷ before) behind f d = due_at y before behind f d.1

pub covered_counted : (o : Option Settlement) (s : Settlement) (y : Tally) (t : ℕ) → o ≡ Some s → RangeBy o y → covers s t ≡ true → t ≤ length y.numbered
covered_counted None s y t e r h = absurd cc
covered_counted (Some z) s y t e r h = let same : z ≡ s = cc in let i : InRange s.tag y = subst (λ (v : Settlement). InRange v.tag y) same r in within s.tag t s.multiple i.0 i.1 h
  where
    within : (n t : ℕ) (multiple : Bool) → 0 < n → n ≤ length y.numbered → cond multiple ((n == 0) || nat_le t n) (n == t) ≡ true → t ≤ length y.numbered
    within n t true z le h = grind (arith, nat_tests)
    within n t false z le h = grind (arith, nat_tests)
