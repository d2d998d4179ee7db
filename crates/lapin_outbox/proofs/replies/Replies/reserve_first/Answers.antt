-- A queue is set aside for a channel that has no entry yet.
use Rattle.std.proofs.Common.{◌<◌, Some, cond, nat_eq, refl, sym, ◌∙◌, ap, arith, hash_map_len}
use Rattle.std.specs.HashMap.{spare}
use Rattle.lapin_outbox.proofs.Chains.{ok-then}
use Rattle.lapin_outbox.proofs.Waiting.{waiting-is, not-there}
use Rattle.lapin_outbox.proofs.Rooms.{not-aside, aside-room, put-room, put-kept, aside-kept, aside-put, one-more}
use Rattle.lapin_outbox.proofs.replies.Replies.reserve_first.Goals as goal

pub returns-then-contains_key-clause-room : goal.returns-then-contains_key-clause-room
returns-then-contains_key-clause-room c =
    let at = not-there _ _ _ (waiting-is _ _ _ c.self.view_is) c.requires in
    aside-room _ _ _ _ c.self.view_is at (λ q there. (c.self.invariant.each c.args.channel q there).room) (sym c.if-contains_key.true ∙ c.contains_key.ensures)

pub returns-in_err-reserve-clause-succeeds : goal.returns-in_err-reserve-clause-succeeds
returns-in_err-reserve-clause-succeeds c some =
    let at = not-there _ _ _ (waiting-is _ _ _ c.self.view_is) c.requires in
    not-aside _ _ _ _ c.self.view_is at (sym c.if-contains_key.false ∙ c.contains_key.ensures) some

pub returns-in_err-reserve_beside-clause-succeeds : goal.returns-in_err-reserve_beside-clause-succeeds
returns-in_err-reserve_beside-clause-succeeds c some =
    let at = not-there _ _ _ (waiting-is _ _ _ c.self.view_is) c.requires in
    not-aside _ _ _ _ c.self.view_is at (sym c.if-contains_key.false ∙ c.contains_key.ensures) some

pub returns-in_err-reserve-2-clause-succeeds : goal.returns-in_err-reserve-2-clause-succeeds
returns-in_err-reserve-2-clause-succeeds c some =
    let at = not-there _ _ _ (waiting-is _ _ _ c.self.view_is) c.requires in
    not-aside _ _ _ _ c.self.view_is at (sym c.if-contains_key.false ∙ c.contains_key.ensures) some

pub returns-clause-room : goal.returns-clause-room
returns-clause-room c =
    let at = not-there _ _ _ (waiting-is _ _ _ c.self.view_is) c.requires in
    let fits : 0 < spare c.reserve-2.new.self = ok-then _ (rw (c.in_ok-reserve-2.was) refl) c.reserve-2.ensures.ok in
    let updates = ok-then _ (c.insert.ensures.succeeds fits) c.insert.ensures.updates in
    put-room c.args.channel _ _ _ c.self.view_is at c.reserve.new.self _ c.insert.new.self.entries c.reserve_beside.ensures.same (λ d. updates.0 d ∙ ap (λ o. cond (nat_eq c.args.channel d) (Some c.reserve.new.self) o) (c.reserve-2.ensures.entries.2 d)) (ok-then _ (rw (c.in_ok-reserve.was) refl) c.reserve.ensures.room)

pub returns-clause-kept : goal.returns-clause-kept
returns-clause-kept c =
    let at = not-there _ _ _ (waiting-is _ _ _ c.self.view_is) c.requires in
    let fits : 0 < spare c.reserve-2.new.self = ok-then _ (rw (c.in_ok-reserve-2.was) refl) c.reserve-2.ensures.ok in
    let updates = ok-then _ (c.insert.ensures.succeeds fits) c.insert.ensures.updates in
    put-kept c.args.channel _ _ _ c.self.view_is at c.reserve.new.self _ c.insert.new.self.entries c.reserve_beside.ensures.same (λ d. updates.0 d ∙ ap (λ o. cond (nat_eq c.args.channel d) (Some c.reserve.new.self) o) (c.reserve-2.ensures.entries.2 d)) (sym c.if-contains_key.false ∙ c.contains_key.ensures)

pub invariant_of-self-in_err-reserve-2 : goal.invariant_of-self-in_err-reserve-2
invariant_of-self-in_err-reserve-2 c =
    aside-kept _ _ _ _ _ _ c.self.invariant c.reserve-2.ensures.entries.2 c.reserve-2.ensures.entries.1 c.reserve_beside.ensures.kept.0 c.reserve_beside.ensures.kept.1

pub invariant_of-self-2 : goal.invariant_of-self-2
invariant_of-self-2 c =
    let fits : 0 < spare c.reserve-2.new.self = ok-then _ (rw (c.in_ok-reserve-2.was) refl) c.reserve-2.ensures.ok in
    let done = c.insert.ensures.succeeds fits in
    let updates = ok-then _ done c.insert.ensures.updates in
    let beside = ok-then c.reserve_beside.result (rw (c.in_ok-reserve_beside.was) refl) c.reserve_beside.ensures.room in
    let more = one-more c.insert.result (hash_map_len c.reserve-2.new.self) (hash_map_len c.insert.new.self) done c.insert.ensures.len in
    aside-put c.args.channel c.reserve.new.self _ _ _ _ _ _ c.self.invariant (λ d. updates.0 d ∙ ap (λ o. cond (nat_eq c.args.channel d) (Some c.reserve.new.self) o) (c.reserve-2.ensures.entries.2 d))
    (omega (arith, more, c.reserve-2.ensures.entries.1))
    (omega (arith, beside.0, c.len.ensures.len))
    c.reserve_beside.ensures.kept.1
    (record {
      is_empty = c.reserve.ensures.same ∙ c.new-requests.ensures;
      room = ok-then _ (rw (c.in_ok-reserve.was) refl) c.reserve.ensures.room;
      reached = beside.1;
    })
