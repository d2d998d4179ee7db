-- No two messages share one outstanding publish, over any calls.
use Rattle.std.proofs.Common.{◌≡◌, ◌⊎◌, inl, inr, ℕ, zero, suc, ◌+◌, ◌≤◌, Bool, true, false, cond, not, ◌&&◌, List, refl, sym, ap, subst, arith}
use Rattle.lapin_types.specs.declared.call.Call.TheVariants as call
use Rattle.lapin_rules.specs.Wire.{state_of, is_open, is_closed}
use Rattle.lapin_machine.specs.World.{World, next}
use Rattle.lapin_keeping.specs.declared.kept.Kept.{Kept}
use Rattle.lapin_keeping.specs.declared.keeping.Keeping.{Keeping}
use Rattle.lapin_keeping.specs.Keepings.{new_kept, is_unsettled}
use Rattle.lapin_publisher.specs.Courses.{Course, IsNew, IsCall, IsAnyTurn, SessionGoesOn, Follows}
use Rattle.lapin_publisher.specs.declared.turn.Turn.{Turn}
use Rattle.lapin_publisher.specs.Opening.{Opening, called, opened, selected}
use Rattle.lapin_publisher.specs.Polls.{IsPolled, IsPolledInPart, PollsEnded, all_polled, poll_one}
use Rattle.lapin_publisher.specs.Publishes.{placed, all_placed}
use Rattle.lapin_publisher.specs.Shares.{NoneShare, AreApart}
use Rattle.lapin_publisher.specs.Turns.{IsTurn, IsTurnInPart, EndedEarly, EndedAt, EndedBehind, opening_of, published_all}
use Rattle.lapin_publisher.proofs.Apart.{apart_more, noted_apart, filter_apart, joined_by_one, all_begun}
use Rattle.lapin_publisher.proofs.Numbering.{each_apart, until_apart}
use Rattle.lapin_publisher.proofs.Rising.{count, event_counts, called_counts}
use Rattle.lapin_publisher.proofs.Taking.{polls_counted, poll_takes, places_counted, placed_takes}

-- the messages and their session
abbrev Stand : Type 0
Stand = List Kept × World

abbrev StandApart : Stand → Type 0
StandApart s = AreApart (count s.1) s.0

-- ---- the polls

polls_apart : (w : World) (old : Keeping) → AreApart (count w) old.kept.items → AreApart (count (all_polled w old).1.0) (all_polled w old).0
polls_apart w old h = each_apart poll_one polls_counted poll_takes (w, old.back.items) old.kept.items h

polled_apart : (w v : World) (old new : Keeping) → IsPolled w v old new → AreApart (count w) old.kept.items → AreApart (count v) new.kept.items
polled_apart w v old new i h =
    let noted : AreApart (count (all_polled w old).1.0) i.noted = noted_apart _ (all_polled w old).1.1 (all_polled w old).0 i.noted i.is_noted (polls_apart w old h) in
    let kept : AreApart (count (all_polled w old).1.0) new.kept.items = subst (λ (ks : List Kept). AreApart (count (all_polled w old).1.0) ks) (sym i.kept) (filter_apart _ is_unsettled i.noted noted) in
    subst (λ (u : World). AreApart (count u) new.kept.items) (sym i.session) kept

part_apart : (w v : World) (old new : Keeping) → IsPolledInPart w v old new → AreApart (count w) old.kept.items → AreApart (count v) new.kept.items
part_apart w v old new i h = at i.polls
  where
    at : PollsEnded w v old new → AreApart (count v) new.kept.items
    at (inl until) = until_apart poll_one polls_counted poll_takes (w, old.back.items) (v, new.back.items) old.kept.items new.kept.items until h
    at (inr all) =
        subst (λ (u : World). AreApart (count u) new.kept.items) (sym all.0)
        (noted_apart _ (all_polled w old).1.1 (all_polled w old).0 new.kept.items all.1.1 (polls_apart w old h))

-- ---- the channel is opened, and asked for confirms

either_counts : (b : Bool) (n : ℕ) (x y : Opening) → n ≤ count x.1 → n ≤ count y.1 → n ≤ count (cond b x y).1
either_counts true n x y one other = one
either_counts false n x y one other = other

opened_counts : (c : ℕ) (o : Opening) → count o.1 ≤ count (opened c o).1
opened_counts c o = either_counts (is_closed (state_of c o.1.wire)) (count o.1) (false, called c call.OpenChannel o.1) o (called_counts c call.OpenChannel o.1) (omega arith)

selected_counts : (c : ℕ) (o : Opening) → count o.1 ≤ count (selected c o).1
selected_counts c o =
    either_counts (not o.0 && is_open (state_of c o.1.wire)) (count o.1) (true, called c (call.ConfirmSelect (record { nowait = true })) o.1) o (called_counts c (call.ConfirmSelect (record { nowait = true })) o.1) (omega arith)

opening_counts : (t : Turn) (s : Bool) (w : World) → count w ≤ count (opening_of t s w).1
opening_counts t s w =
    let one : count w ≤ count (opened t.channel (s, w)).1 = opened_counts t.channel (s, w) in
    let two : count (opened t.channel (s, w)).1 ≤ count (opening_of t s w).1 = selected_counts t.channel (opened t.channel (s, w)) in
    omega (arith, one, two)

-- ---- a turn

placed_apart : (t : Turn) (w : World) (ks : List Kept) → AreApart (count w) ks → StandApart ((all_placed t w ks).0, (all_placed t w ks).1.0)
placed_apart t w ks h = each_apart (placed t) places_counted (placed_takes t) (w, record { left = t.window; taken = false }) ks h

published_apart : (t : Turn) (o : Opening) (ks : List Kept) → AreApart (count o.1) ks → StandApart (published_all t o ks)
published_apart t o ks h = at (o.0 && is_open (state_of t.channel o.1.wire))
  where
    at : (b : Bool) → StandApart (cond b ((all_placed t o.1 ks).0, (all_placed t o.1 ks).1.0) (ks, o.1))
    at true = placed_apart t o.1 ks h
    at false = h

opening_apart : (t : Turn) (s : Bool) (w : World) (ks : List Kept) → AreApart (count w) ks → AreApart (count (opening_of t s w).1) ks
opening_apart t s w ks h = apart_more (count w) (count (opening_of t s w).1) ks (opening_counts t s w) h

turn_apart : (t : Turn) (w v : World) (old new : Keeping) (s u : Bool) → IsTurn t w v old new s u → AreApart (count w) old.kept.items → AreApart (count v) new.kept.items
turn_apart t w v old new s u i h =
    subst StandApart (sym i.kept) (published_apart t (opening_of t s i.session) i.polled.kept.items (opening_apart t s i.session i.polled.kept.items (polled_apart w i.session old i.polled i.is_polled h)))

stopped_apart : (t : Turn) (w v : World) (old new : Keeping) (s u : Bool) → IsTurnInPart t w v old new s u → AreApart (count w) old.kept.items → AreApart (count v) new.kept.items
stopped_apart t w v old new s u i h = at i.ended
  where
    early : (x : World) (ks : List Kept) → AreApart (count x) ks → EndedEarly t x v s u → AreApart (count v) ks
    early x ks g (inl same) = subst (λ (y : World). AreApart (count y) ks) (sym same.1) g
    early x ks g (inr opens) = subst (λ (y : World). AreApart (count y) ks) (sym opens.1) (apart_more (count x) (count (opened t.channel (s, x)).1) ks (opened_counts t.channel (s, x)) g)

    ends : (x : World) (ks : List Kept) → AreApart (count x) ks → EndedAt t x v s u ks new.kept.items → AreApart (count v) new.kept.items
    ends x ks g (inl same) = subst (λ (ls : List Kept). AreApart (count v) ls) (sym same.0) (early x ks g same.1)
    ends x ks g (inr stop) =
        until_apart (placed t) places_counted (placed_takes t) ((opening_of t s x).1, record { left = t.window; taken = false }) (v, stop.1.0) ks new.kept.items stop.1.1 (opening_apart t s x ks g)

    at : (IsPolledInPart w v old new × (u ≡ s)) ⊎ EndedBehind t w v old new s u → AreApart (count v) new.kept.items
    at (inl polls) = part_apart w v old new polls.0 h
    at (inr more) = ends more.session more.polled.kept.items (polled_apart w more.session old more.polled more.is_polled h) more.ended

-- ---- one call, and any number

abbrev CourseApart : Course → Type 0
CourseApart p = AreApart (count p.session) p.keeping.kept.items

moved : (p q : Course) (ks : List Kept) → q.keeping.kept.items ≡ ks → count p.session ≤ count q.session → AreApart (count p.session) ks → CourseApart q
moved p q ks kept rises h = subst (λ (ls : List Kept). AreApart (count q.session) ls) (sym kept) (apart_more (count p.session) (count q.session) ks rises h)

call_apart : (p q : Course) → IsCall p q → CourseApart p → CourseApart q
call_apart p q (inl handed) h =
    let same : count p.session ≡ count q.session = ap count (sym handed.session) in
    moved p q _ handed.kept (omega (arith, same)) (joined_by_one (count p.session) p.keeping.kept.items (new_kept (p.keeping.handed + 1) handed.message handed.most) refl h)
call_apart p q (inr (inl taken)) h =
    let same : count p.session ≡ count q.session = ap count (sym taken.session) in
    moved p q p.keeping.kept.items taken.kept (omega (arith, same)) h
call_apart p q (inr (inr (inl tended))) h = at tended.tended
  where
    at : IsAnyTurn tended.turn p.session q.session p.keeping q.keeping p.selects q.selects → CourseApart q
    at (inl whole) = turn_apart tended.turn p.session q.session p.keeping q.keeping p.selects q.selects whole h
    at (inr part) = stopped_apart tended.turn p.session q.session p.keeping q.keeping p.selects q.selects part h
call_apart p q (inr (inr (inr (inl on)))) h = moved p q p.keeping.kept.items on.messages.kept (rises on.session) h
  where
    rises : SessionGoesOn p.session q.session → count p.session ≤ count q.session
    rises (inl event) = let same : count q.session ≡ count (next p.session event.0) = ap count event.1 in let more : count p.session ≤ count (next p.session event.0) = event_counts p.session event.0 in omega (arith, same, more)
    rises (inr back) = let same : count q.session ≡ count p.session = ap count back.1 in omega (arith, same)
call_apart p q (inr (inr (inr (inr away)))) h =
    subst (λ (ks : List Kept). AreApart (count q.session) ks) (sym away.left.kept) (all_begun (count q.session) away.left.asked.kept.items)

follows_apart : (n : ℕ) (p q : Course) → Follows n p q → CourseApart p → CourseApart q
follows_apart zero p q e h = subst CourseApart (sym e) h
follows_apart (suc n) p q calls h = follows_apart n calls.0 q calls.1.1 (call_apart p calls.0 calls.1.0 h)

pub none_share : (n : ℕ) (p q : Course) → IsNew p → Follows n p q → NoneShare q.keeping.kept.items
none_share n p q new calls =
    let begins : CourseApart p = subst (λ (ks : List Kept). AreApart (count p.session) ks) (sym new.kept) (record { below = tt; apart = tt }) in
    (follows_apart n p q calls begins).apart
