-- The first request of a channel takes the queue and the place in the table that were set aside.
use Rattle.std.proofs.Common.{◌≡◌, ◌+◌, ◌++◌, ◌∷◌, [], IsSome, sym, ◌∙◌, ap, arith, subst}
use Rattle.std.specs.HashMap.{hash_map_len}
use Rattle.lapin_outbox.specs.Open.{waiting_in}
use Rattle.lapin_outbox.proofs.Waiting.{waiting-is, not-there, requests-absent, added}
use Rattle.lapin_outbox.proofs.Rooms.{is-aside, entry-used, entry-others, aside-taken}
use Rattle.lapin_outbox.proofs.replies.Replies.open_first.Goals as goal

pub unwrap-requests-requires : goal.unwrap-requests-requires
unwrap-requests-requires c =
    let at = not-there _ _ _ (waiting-is _ _ _ c.self.view_is) c.requires.absent in
    subst IsSome (sym c.remove.ensures.value) (is-aside _ _ _ _ c.self.view_is at c.requires.room)

pub push_reserved-requires : goal.push_reserved-requires
push_reserved-requires c = (c.self.invariant.each c.args.channel c.unwrap-requests.result (sym c.remove.ensures.value ∙ c.unwrap-requests.ensures)).room

pub insert_reserved-requires-clause-room : goal.insert_reserved-requires-clause-room
insert_reserved-requires-clause-room c =
    let aside = c.self.invariant.each c.args.channel c.unwrap-requests.result (sym c.remove.ensures.value ∙ c.unwrap-requests.ensures) in
    let count : hash_map_len c.remove.new.self + 1 ≡ hash_map_len c.self.inside.aside = rw c.unwrap-requests.ensures at c.remove.ensures.len in
    let room = c.self.invariant.room in
    (omega (arith, count, room), aside.reached)

pub invariant_of-self : goal.invariant_of-self
invariant_of-self c =
    let count : hash_map_len c.remove.new.self + 1 ≡ hash_map_len c.self.inside.aside = rw c.unwrap-requests.ensures at c.remove.ensures.len in
    aside-taken c.args.channel _ _ c.self.inside.channels c.insert_reserved.new.self _ _ c.self.invariant c.remove.ensures.updates.0 count c.insert_reserved.ensures.spare c.insert_reserved.ensures.reach

pub insert_reserved-requires-clause-absent : goal.insert_reserved-requires-clause-absent
insert_reserved-requires-clause-absent c = not-there _ _ _ (waiting-is _ _ _ c.self.view_is) c.requires.absent

pub returns-clause-used : goal.returns-clause-used
returns-clause-used c =
    let at = not-there _ _ _ (waiting-is _ _ _ c.self.view_is) c.requires.absent in
    entry-used _ _ _ _ c.self.view_is at _ _ _ c.remove.new.self.entries (sym c.remove.ensures.value ∙ c.unwrap-requests.ensures) c.insert_reserved.ensures.entries c.remove.ensures.updates.0 c.push_reserved.ensures.used

pub returns-clause-others : goal.returns-clause-others
returns-clause-others c =
    let at = not-there _ _ _ (waiting-is _ _ _ c.self.view_is) c.requires.absent in
    entry-others _ _ _ _ c.self.view_is at _ _ _ c.remove.new.self.entries (sym c.remove.ensures.value ∙ c.unwrap-requests.ensures) c.insert_reserved.ensures.entries c.remove.ensures.updates.0

pub returns-clause-what : goal.returns-clause-what
returns-clause-what c =
    let view = waiting-is _ _ _ c.self.view_is in
    let at = not-there _ _ _ view c.requires.absent in
    let aside = c.self.invariant.each c.args.channel c.unwrap-requests.result (sym c.remove.ensures.value ∙ c.unwrap-requests.ensures) in
    ap waiting_in c.insert_reserved.ensures.entries ∙ added _ _ _ _ _ view at (c.push_reserved.ensures.others ∙ ap (λ rs. rs ++ c.args.request ∷ []) (aside.is_empty ∙ sym (requests-absent _ _ _ view at)))
