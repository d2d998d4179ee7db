use Rattle.std.proofs.Common.{◌≡◌, ◌∙◌, ◌-◌, ◌<◌, ◌++◌, ℕ, inl, sym, ap, refl, arith, length, slice_set, List, Option, Some, None}
use Rattle.std.specs.Option.{ghost_name_of}
use Rattle.std.specs.VecDeque.{deque_len, deque_capacity}
use borrow.Follows.Closed.{read_of}
use Rattle.std.proofs.lemmas.List.{get_or_past}
use Rattle.lapin_tables.specs.ByChannel.{at_channel}
use Rattle.lapin_tables.specs.Index.{place_of}
use Rattle.lapin_tables.specs.Numbered.{Slots, with_under}
use Rattle.lapin_tables.specs.Behind.{spread}
use Rattle.lapin_tables.proofs.Channels.{found, absent, written}
use Rattle.lapin_tables.proofs.Slots.{put-back, under-read, with-kept, with-written, under_kept, under_passed, rises-on, ends-on}
use Rattle.lapin_tables.proofs.numbered.Numbered.get_mut.Goals as goal

pub returns-in-Some : goal.returns-in-Some
returns-in-Some g c =
    let gone = c.self.inside.let_go in
    let es = c.self.inside.behind.items in
    let xs = c.self.inside.slots.items in
    let here = c.in-Some.place in
    let now = c.index_mut.result.now in
    let within : here < length xs = omega arith in
    let same : slice_set xs here now ≡ xs = put-back here xs now c.index_mut.ensures.value in
    let held : List (Option g.row.T.Denot) → Slots g.row.T.Denot = λ ys. record { slots = ys; spare = deque_capacity c.self.inside.slots - deque_len c.self.inside.slots } in
    rw (← c.self.view_is) (
      λ t. read_of (ghost_name_of c.as_mut.result) (λ (w : g.row.T.Denot). held (sym (with-kept gone here c.args.number (Some w) es xs c.in-Some.ensures) t)) (held (spread 0 gone es ++ same t)),
      record { writes_back = tt; value = c.as_mut.ensures.value ∙ sym (under-read gone here c.args.number es xs now c.in-Some.ensures within c.index_mut.ensures.value) },
    )

pub index_mut-entry-requires : goal.index_mut-entry-requires
index_mut-entry-requires g c =
    let within : c.in-Some-find.place < length c.self.inside.behind.items = (found _ _ _ (sym c.in-Some-find.ensures)).within in
    omega arith

pub invariant_of-self-lent-in-Some-find : goal.invariant_of-self-lent-in-Some-find
invariant_of-self-lent-in-Some-find g c w =
    rw (written c.args.number c.in-Some-find.place c.self.inside.behind.items c.index_mut-entry.result.now w (sym c.in-Some-find.ensures) c.index_mut-entry.ensures.value)
    (c.self.invariant.0, c.self.invariant.1, rises-on 0 _ _ _ c.self.invariant.2, ends-on _ _ _ _ c.self.invariant.3)

pub returns-in-Some-2 : goal.returns-in-Some-2
returns-in-Some-2 g c =
    rw (← c.self.view_is) (refl, record { writes_back = tt; value = sym (under_kept _ _ _ _ _ c.in-Some.ensures ∙ get_or_past c.self.inside.slots.items c.in-Some.place None (omega arith)) })

pub returns-in-Some-find : goal.returns-in-Some-find
returns-in-Some-find g c =
    let gone = c.self.inside.let_go in
    let es = c.self.inside.behind.items in
    let xs = c.self.inside.slots.items in
    let here = c.in-Some-find.place in
    let read = c.index_mut-entry.result.now in
    let there : at_channel c.args.number es ≡ Some read.1 = (found _ _ _ (sym c.in-Some-find.ensures)).value read ∙ ap (λ (e : ℕ × g.row.T.Denot). Some e.1) (sym c.index_mut-entry.ensures.value) in
    let held : List (Option g.row.T.Denot) → Slots g.row.T.Denot = λ ys. record { slots = ys; spare = deque_capacity c.self.inside.slots - deque_len c.self.inside.slots } in
    let same : (w : g.row.T.Denot) → spread 0 gone (slice_set es here (read.0, w)) ++ xs ≡ with_under c.args.number (Some w) (spread 0 gone es ++ xs) =
    λ w. ap (λ fs. spread 0 gone fs ++ xs) (written c.args.number here es read w (sym c.in-Some-find.ensures) c.index_mut-entry.ensures.value) ∙ sym (with-written gone c.args.number w read.1 es xs c.in-None.ensures there) in
    rw (← c.self.view_is) (
      λ t. inl (c.entry-1.given, λ (w : g.row.T.Denot). held (same w t)),
      record { writes_back = tt; value = sym (under_passed gone c.args.number es xs c.in-None.ensures c.self.invariant.2 ∙ there) },
    )

pub returns-in-None-find : goal.returns-in-None-find
returns-in-None-find g c =
    let none : place_of c.args.number c.self.inside.behind.items ≡ None = sym c.in-None-find.ensures in
    rw (← c.self.view_is) (refl, record { writes_back = tt; value = sym (under_passed _ _ _ _ c.in-None.ensures c.self.invariant.2 ∙ absent c.args.number c.self.inside.behind.items none) })
