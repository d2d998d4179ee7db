-- What a step does with the messages that aren't known to be stored is what it does with all.
use Rattle.std.proofs.Common.{◌≡◌, ◌∙◌, ℕ, suc, ◌+◌, Bool, true, false, true≢false, not, ◌&&◌, cond, List, [], ◌∷◌, ◌++◌, length, map, Option, Some, None, refl, sym, ap, subst, arith, slice_set, slice_get, ◌-◌}
use Rattle.std.specs.Prelude.{nat_lt}
use Rattle.std.specs.List.{filter}
use Rattle.std.specs.Option.{option_map}
use Rattle.std.proofs.lemmas.Option.{slice_get-map}
use Rattle.lapin_resend.specs.declared.message.Submitted.{Submitted}
use Rattle.lapin_resend.specs.Messages.{Standing, waits, confirm_of, forgotten}
use Rattle.lapin_resend.specs.Publisher.{Publisher, Steps, Met, All, told, with_event, state_in, in_front, poll_at, poll_one, publishing, publish_one, each, with_all, after_polls, after_opening, after_selecting, after_publishing, tended}
use Rattle.lapin_resend.specs.Resend.{after_loss, message_at, whether_stored, status_of}
use Rattle.lapin_resend.specs.Follows.{standing, place, entry_of, is_kept}
use Rattle.lapin_resend.specs.Keeping.{kept_from, but, IsSettled, AreSettled, known_report, noted}
use Rattle.lapin_rules.specs.Wire.{is_closed, is_open}
use Rattle.lapin_rules.proofs.ReturnLaws.{one-by-one}

-- the message of an entry
abbrev pub second : List (ℕ × Standing) → List Standing
second es = map (λ e. e.1) es

-- its place
abbrev pub first : List (ℕ × Standing) → List ℕ
first es = map (λ e. e.0) es

-- ---- places

places_same : (k : ℕ) (known : List Bool) (ss ts : List Standing) → length ss ≡ length ts → first (kept_from k known ss) ≡ first (kept_from k known ts)
places_same k known [] [] same = refl
places_same k known [] (t ∷ ts) same = absurd (omega arith)
places_same k known (s ∷ ss) [] same = absurd (omega arith)
places_same k [] (s ∷ ss) (t ∷ ts) same = ap (λ ps. k ∷ ps) (places_same (suc k) [] ss ts (omega arith))
places_same k (true ∷ known) (s ∷ ss) (t ∷ ts) same = places_same (suc k) known ss ts (omega arith)
places_same k (false ∷ known) (s ∷ ss) (t ∷ ts) same = ap (λ ps. k ∷ ps) (places_same (suc k) known ss ts (omega arith))

each_long : (meet : Steps → Standing → Met) (made : Steps) (ss : List Standing) → length (each meet made ss).0 ≡ length ss
each_long meet made [] = refl
each_long meet made (s ∷ ss) = ap suc (each_long meet (meet made s).1 ss)

-- ---- what is done with each message

-- a settled message is left alone
abbrev Leaves : (Steps → Standing → Met) → Type 0
Leaves meet = (made : Steps) (s : Standing) → IsSettled s → meet made s ≡ (s, made)

-- what is done with all is done with those that are kept, and leaves the others
abbrev Each : (Steps → Standing → Met) → Steps → ℕ → List Bool → List Standing → Type 0
Each meet made k known ss =
    (each meet made (second (kept_from k known ss)) ≡ (second (kept_from k known (each meet made ss).0), (each meet made ss).1))
    × AreSettled known (each meet made ss).0

each_front : (meet : Steps → Standing → Met) (s : Standing) (rest : All) (a : All) → a ≡ rest → in_front s a ≡ in_front s rest
each_front meet s rest a same = ap (in_front s) same

each_but : (meet : Steps → Standing → Met) → Leaves meet → (made : Steps) (k : ℕ) (known : List Bool) (ss : List Standing) → AreSettled known ss → Each meet made k known ss
each_but meet leaves made k [] [] settled = (refl, tt)
each_but meet leaves made k (b ∷ known) [] settled = absurd settled
each_but meet leaves made k [] (s ∷ ss) settled =
    let rest = each_but meet leaves (meet made s).1 (suc k) [] ss tt in
    (ap (in_front (meet made s).0) rest.0, tt)
each_but meet leaves made k (true ∷ known) (s ∷ ss) settled =
    let quiet : IsSettled s = settled.0 refl in
    let same : meet made s ≡ (s, made) = leaves made s quiet in
    let rest = each_but meet leaves made (suc k) known ss settled.1 in
    let whole : each meet made (s ∷ ss) ≡ in_front s (each meet made ss) = ap (λ (x : Met). in_front x.0 (each meet x.1 ss)) same in (
      rest.0 ∙ sym (ap (λ (a : All). (second (kept_from k (true ∷ known) a.0), a.1)) whole),
      subst (λ (a : All). AreSettled (true ∷ known) a.0) (sym whole) (λ _. quiet, rest.1),
    )
each_but meet leaves made k (false ∷ known) (s ∷ ss) settled =
    let rest = each_but meet leaves (meet made s).1 (suc k) known ss settled.1 in
    (ap (in_front (meet made s).0) rest.0, (λ is. absurd (true≢false (sym is)), rest.1))

-- ---- polls and publishes leave it

poll_leaves : (n : ℕ) → Leaves (poll_one n)
poll_leaves n made s quiet = ap (poll_at n made s) quiet.alone

no_wait : (s : Standing) → s.stored ≡ true → waits s ≡ false
no_wait s stored = rw stored refl

publish_leaves : (n : ℕ) → Leaves (publish_one n)
publish_leaves n made s quiet =
    ap (λ (b : Bool). cond {A = Met} b (record s { outstanding = confirm_of (told n made (publishing s)) }, with_event (publishing s) made) (s, made)) (no_wait s quiet.stored)

-- ---- tending

-- what the publisher does over the kept messages is what it does over all
pub record Keeps (goes : Publisher → Publisher) (known : List Bool) (p : Publisher) : Type 0 where
  pub same : goes (but known p) ≡ but known (goes p)
  pub settled : AreSettled known (goes p).messages
  pub long : length (goes p).messages ≡ length p.messages

keeps_each : (meet : Steps → Standing → Met) → Leaves meet → (known : List Bool) (p : Publisher) → AreSettled known p.messages → Keeps (λ q. with_all (each meet q.present q.messages) q) known p
keeps_each meet leaves known p settled =
    let all = each_but meet leaves p.present 0 known p.messages settled in
    record {
      same = ap (λ (a : All). record p { messages = a.0; present = a.1 }) all.0;
      settled = all.1;
      long = each_long meet p.present p.messages;
    }

keeps_chosen : (goes : Publisher → Publisher) (known : List Bool) (p : Publisher) (b : Bool) → Keeps goes known p → AreSettled known p.messages → (cond b (goes (but known p)) (but known p) ≡ but known (cond b (goes p) p)) × AreSettled known (cond b (goes p) p).messages × (length (cond b (goes p) p).messages ≡ length p.messages)
keeps_chosen goes known p true h settled = (h.same, h.settled, h.long)
keeps_chosen goes known p false h settled = (refl, settled, refl)

keeps_opening : (n : ℕ) (known : List Bool) (p : Publisher) → AreSettled known p.messages → Keeps (after_opening n) known p
keeps_opening n known p settled = at (is_closed (state_in n p.present)) refl
  where
    at : (b : Bool) → is_closed (state_in n p.present) ≡ b → Keeps (after_opening n) known p
    at true is = record { same = rw is refl; settled = rw is settled; long = rw is refl }
    at false is = record { same = rw is refl; settled = rw is settled; long = rw is refl }

keeps_selecting : (n : ℕ) (known : List Bool) (p : Publisher) → AreSettled known p.messages → Keeps (after_selecting n) known p
keeps_selecting n known p settled = at (not p.selects && is_open (state_in n p.present)) refl
  where
    at : (b : Bool) → (not p.selects && is_open (state_in n p.present)) ≡ b → Keeps (after_selecting n) known p
    at true is = record { same = rw is refl; settled = rw is settled; long = rw is refl }
    at false is = record { same = rw is refl; settled = rw is settled; long = rw is refl }

keeps_publishing : (n : ℕ) (known : List Bool) (p : Publisher) → AreSettled known p.messages → Keeps (after_publishing n) known p
keeps_publishing n known p settled =
    let one = keeps_chosen (λ q. with_all (each (publish_one n) q.present q.messages) q) known p (is_open (state_in n p.present)) (keeps_each (publish_one n) (publish_leaves n) known p settled) settled in
    record { same = one.0; settled = one.1; long = one.2 }

-- one after the other
keeps_both : (f g : Publisher → Publisher) (known : List Bool) (p : Publisher) → Keeps f known p → Keeps g known (f p) → Keeps (λ q. g (f q)) known p
keeps_both f g known p one other = record { same = ap g one.same ∙ other.same; settled = other.settled; long = other.long ∙ one.long }

pub keeps_tending : (n : ℕ) (known : List Bool) (p : Publisher) → AreSettled known p.messages → Keeps (tended n) known p
keeps_tending n known p settled =
    let polls : Keeps (after_polls n) known p = keeps_each (poll_one n) (poll_leaves n) known p settled in
    let opens : Keeps (after_opening n) known (after_polls n p) = keeps_opening n known (after_polls n p) polls.settled in
    let two = keeps_both (after_polls n) (after_opening n) known p polls opens in
    let selects = keeps_selecting n known (after_opening n (after_polls n p)) two.settled in
    let three = keeps_both (λ q. after_opening n (after_polls n q)) (after_selecting n) known p two selects in
    let publishes = keeps_publishing n known (after_selecting n (after_opening n (after_polls n p))) three.settled in
    keeps_both (λ q. after_selecting n (after_opening n (after_polls n q))) (after_publishing n) known p three publishes

-- the places of the kept messages stay
pub places_kept : (goes : Publisher → Publisher) (known : List Bool) (p : Publisher) → Keeps goes known p → first (kept_from 0 known (goes p).messages) ≡ first (kept_from 0 known p.messages)
places_kept goes known p h = places_same 0 known (goes p).messages p.messages h.long

-- ---- a loss

kept_forgotten : (k : ℕ) (known : List Bool) (ss : List Standing) → second (kept_from k known (map forgotten ss)) ≡ map forgotten (second (kept_from k known ss))
kept_forgotten k known [] = refl
kept_forgotten k [] (s ∷ ss) = ap (λ ts. forgotten s ∷ ts) (kept_forgotten (suc k) [] ss)
kept_forgotten k (true ∷ known) (s ∷ ss) = kept_forgotten (suc k) known ss
kept_forgotten k (false ∷ known) (s ∷ ss) = ap (λ ts. forgotten s ∷ ts) (kept_forgotten (suc k) known ss)

settled_forgotten : (known : List Bool) (ss : List Standing) → AreSettled known ss → AreSettled known (map forgotten ss)
settled_forgotten [] ss h = tt
settled_forgotten (b ∷ known) [] h = absurd h
settled_forgotten (b ∷ known) (s ∷ ss) h = (λ is. record { stored = (h.0 is).stored; alone = refl }, settled_forgotten known ss h.1)

length_mapped : (f : Standing → Standing) (ss : List Standing) → length (map f ss) ≡ length ss
length_mapped f [] = refl
length_mapped f (s ∷ ss) = ap suc (length_mapped f ss)

pub keeps_loss : (known : List Bool) (p : Publisher) → AreSettled known p.messages → Keeps after_loss known p
keeps_loss known p settled = record {
  same = ap (λ (ss : List Standing). record (after_loss p) { messages = ss }) (sym (kept_forgotten 0 known p.messages));
  settled = settled_forgotten known p.messages settled;
  long = length_mapped forgotten p.messages;
}

-- ---- one message more

pub kept_more : (k : ℕ) (known : List Bool) (ss : List Standing) (s : Standing) → AreSettled known ss → kept_from k known (ss ++ s ∷ []) ≡ kept_from k known ss ++ (k + length ss, s) ∷ []
kept_more k [] [] s settled = ap (λ (i : ℕ). (i, s) ∷ []) (omega arith)
kept_more k (b ∷ known) [] s settled = absurd settled
kept_more k [] (t ∷ ts) s settled =
    let at : suc k + length ts ≡ k + length (t ∷ ts) = omega arith in
    ap (λ es. (k, t) ∷ es) (kept_more (suc k) [] ts s tt ∙ ap (λ (i : ℕ). kept_from (suc k) [] ts ++ (i, s) ∷ []) at)
kept_more k (true ∷ known) (t ∷ ts) s settled =
    let at : suc k + length ts ≡ k + length (t ∷ ts) = omega arith in
    kept_more (suc k) known ts s settled.1 ∙ ap (λ (i : ℕ). kept_from (suc k) known ts ++ (i, s) ∷ []) at
kept_more k (false ∷ known) (t ∷ ts) s settled =
    let at : suc k + length ts ≡ k + length (t ∷ ts) = omega arith in
    ap (λ es. (k, t) ∷ es) (kept_more (suc k) known ts s settled.1 ∙ ap (λ (i : ℕ). kept_from (suc k) known ts ++ (i, s) ∷ []) at)

pub settled_more : (known : List Bool) (ss ts : List Standing) → AreSettled known ss → AreSettled known (ss ++ ts)
settled_more [] ss ts h = tt
settled_more (b ∷ known) [] ts h = absurd h
settled_more (b ∷ known) (s ∷ ss) ts h = (h.0, settled_more known ss ts h.1)

-- ---- questions

at_place : (o : Option Standing) → status_of o ≡ known_report (option_map (λ s. s.stored) o)
at_place None = refl
at_place (Some s) = at s.stored refl
  where
    at : (b : Bool) → s.stored ≡ b → status_of (Some s) ≡ known_report (Some s.stored)
    at true is = rw is refl
    at false is = rw is refl

pub status_known : (n : ℕ) (ss : List Standing) → status_of (message_at n ss) ≡ known_report (whether_stored n (map (λ s. s.stored) ss))
status_known n ss = at (nat_lt 0 n)
  where
    at : (b : Bool) → status_of (cond b (slice_get ss (n - 1)) None) ≡ known_report (cond b (slice_get (map (λ (s : Standing). s.stored) ss) (n - 1)) None)
    at true = at_place (slice_get ss (n - 1)) ∙ ap known_report (sym (slice_get-map (λ (s : Standing). s.stored) ss (n - 1)))
    at false = refl

-- ---- what is noted after a step

-- the first of these are settled for good, as they are noted
noted_from : (known : List Bool) (done : List Bool) (ss : List Standing) → AreSettled known ss → length known ≡ length ss → noted (kept_from (length done) known ss) (done ++ known) ≡ done ++ map (λ s. s.stored) ss
noted_from [] done [] settled long = refl
noted_from [] done (s ∷ ss) settled long = absurd (omega arith)
noted_from (b ∷ known) done [] settled long = absurd settled
noted_from (true ∷ known) done (s ∷ ss) settled long =
    let is : s.stored ≡ true = (settled.0 refl).stored in
    let more : length (done ++ true ∷ []) ≡ suc (length done) = one_more done true in
    let rest = noted_from known (done ++ true ∷ []) ss settled.1 (omega arith) in
    ap (noted (kept_from (suc (length done)) known ss)) (sym (one-by-one done true known))
    ∙ ap (λ (k : ℕ). noted (kept_from k known ss) ((done ++ true ∷ []) ++ known)) (sym more)
    ∙ rest
    ∙ one-by-one done true (map (λ (t : Standing). t.stored) ss)
    ∙ ap (λ (b : Bool). done ++ b ∷ map (λ (t : Standing). t.stored) ss) (sym is)
  where
    one_more : (xs : List Bool) (x : Bool) → length (xs ++ x ∷ []) ≡ suc (length xs)
    one_more [] x = refl
    one_more (z ∷ zs) x = ap suc (one_more zs x)
noted_from (false ∷ known) done (s ∷ ss) settled long =
    let more : length (done ++ s.stored ∷ []) ≡ suc (length done) = one_more done s.stored in
    let rest = noted_from known (done ++ s.stored ∷ []) ss settled.1 (omega arith) in
    ap (noted (kept_from (suc (length done)) known ss)) (set_here done false s.stored known ∙ sym (one-by-one done s.stored known))
    ∙ ap (λ (k : ℕ). noted (kept_from k known ss) ((done ++ s.stored ∷ []) ++ known)) (sym more)
    ∙ rest
    ∙ one-by-one done s.stored (map (λ (t : Standing). t.stored) ss)
  where
    one_more : (xs : List Bool) (x : Bool) → length (xs ++ x ∷ []) ≡ suc (length xs)
    one_more [] x = refl
    one_more (z ∷ zs) x = ap suc (one_more zs x)

    set_here : (xs : List Bool) (x y : Bool) (ys : List Bool) → slice_set (xs ++ x ∷ ys) (length xs) y ≡ xs ++ y ∷ ys
    set_here [] x y ys = refl
    set_here (z ∷ zs) x y ys = ap (λ vs. z ∷ vs) (set_here zs x y ys)

pub noted_all : (known : List Bool) (ss : List Standing) → AreSettled known ss → length known ≡ length ss → noted (kept_from 0 known ss) known ≡ map (λ s. s.stored) ss
noted_all known ss settled long = noted_from known [] ss settled long

-- those that are kept from then on are those that aren't stored
abbrev pub not_stored : ℕ × Standing → Bool
not_stored e = not e.1.stored

kept_then : (k : ℕ) (known : List Bool) (ss : List Standing) → AreSettled known ss → length known ≡ length ss → filter not_stored (kept_from k known ss) ≡ kept_from k (map (λ s. s.stored) ss) ss
kept_then k [] [] settled long = refl
kept_then k [] (s ∷ ss) settled long = absurd (omega arith)
kept_then k (b ∷ known) [] settled long = absurd settled
kept_then k (true ∷ known) (s ∷ ss) settled long =
    kept_then (suc k) known ss settled.1 (omega arith) ∙ ap (λ (b : Bool). kept_from k (b ∷ map (λ (t : Standing). t.stored) ss) (s ∷ ss)) (sym (settled.0 refl).stored)
kept_then k (false ∷ known) (s ∷ ss) settled long = at s.stored (kept_then (suc k) known ss settled.1 (omega arith))
  where
    at : (b : Bool) → filter not_stored (kept_from (suc k) known ss) ≡ kept_from (suc k) (map (λ (t : Standing). t.stored) ss) ss → cond (not b) ((k, s) ∷ filter not_stored (kept_from (suc k) known ss)) (filter not_stored (kept_from (suc k) known ss)) ≡ kept_from k (b ∷ map (λ (t : Standing). t.stored) ss) (s ∷ ss)
    at true rest = rest
    at false rest = ap (λ es. (k, s) ∷ es) rest

pub kept_after : (known : List Bool) (ss : List Standing) → AreSettled known ss → length known ≡ length ss → filter not_stored (kept_from 0 known ss) ≡ kept_from 0 (map (λ s. s.stored) ss) ss
kept_after known ss settled long = kept_then 0 known ss settled long

-- the code's entries through that
pub entries_kept : (xs : List Submitted) → map entry_of (filter is_kept xs) ≡ filter not_stored (map entry_of xs)
entries_kept [] = refl
entries_kept (x ∷ xs) = at x.stored (entries_kept xs)
  where
    at : (b : Bool) → map entry_of (filter is_kept xs) ≡ filter not_stored (map entry_of xs) → map entry_of (cond (not b) (x ∷ filter is_kept xs) (filter is_kept xs)) ≡ cond (not b) (entry_of x ∷ filter not_stored (map entry_of xs)) (filter not_stored (map entry_of xs))
    at true rest = rest
    at false rest = ap (λ es. entry_of x ∷ es) rest

-- entries by their parts
pub entries_are : (xs : List Submitted) (es : List (ℕ × Standing)) → map place xs ≡ first es → map standing xs ≡ second es → map entry_of xs ≡ es
entries_are [] [] one other = refl
entries_are [] (e ∷ es) one other = cc
entries_are (x ∷ xs) [] one other = cc
entries_are (x ∷ xs) (e ∷ es) one other =
    let here : x.place ≡ e.0 = cc in
    let there : standing x ≡ e.1 = cc in
    let rest : map entry_of xs ≡ es = entries_are xs es (cc) (cc) in
    ap (λ (p : ℕ). (p, standing x) ∷ map entry_of xs) here ∙ ap (λ (s : Standing). (e.0, s) ∷ map entry_of xs) there ∙ ap (λ (fs : List (ℕ × Standing)). e ∷ fs) rest

pub entry_parts : (xs : List Submitted) (es : List (ℕ × Standing)) → map entry_of xs ≡ es → (map place xs ≡ first es) × (map standing xs ≡ second es)
entry_parts xs es is = (places xs ∙ ap first is, standings xs ∙ ap second is)
  where
    places : (ys : List Submitted) → map place ys ≡ first (map entry_of ys)
    places [] = refl
    places (y ∷ ys) = ap (λ (ps : List ℕ). y.place ∷ ps) (places ys)

    standings : (ys : List Submitted) → map standing ys ≡ second (map entry_of ys)
    standings [] = refl
    standings (y ∷ ys) = ap (λ (ss : List Standing). standing y ∷ ss) (standings ys)

-- what is known of a message that came new
pub kept_known : (k : ℕ) (known : List Bool) (ss : List Standing) → AreSettled known ss → length ss ≡ length known + 1 → (kept_from k (known ++ false ∷ []) ss ≡ kept_from k known ss) × AreSettled (known ++ false ∷ []) ss
kept_known k [] [] settled long = absurd (omega arith)
kept_known k [] (s ∷ []) settled long = (refl, (λ is. absurd (true≢false (sym is)), tt))
kept_known k [] (s ∷ t ∷ ss) settled long = absurd (omega arith)
kept_known k (b ∷ known) [] settled long = absurd settled
kept_known k (true ∷ known) (s ∷ ss) settled long = let rest = kept_known (suc k) known ss settled.1 (omega arith) in (rest.0, (settled.0, rest.1))
kept_known k (false ∷ known) (s ∷ ss) settled long = let rest = kept_known (suc k) known ss settled.1 (omega arith) in (ap (λ es. (k, s) ∷ es) rest.0, (settled.0, rest.1))
