use Rattle.std.proofs.Common.{rules, ◌≡◌, ◌∙◌, ◌++◌, false, length, map, take, ap, subst}
use Rattle.std.specs.Prelude.{drop, reverse}
use Rattle.lapin_threads.specs.Tallied.{Tallied}
use Rattle.lapin_pool.specs.declared.seating.Dealt.{Dealt}
use Rattle.lapin_pool.specs.Seats.{caller_of, cards_of, unread_of}
use Rattle.lapin_pool.specs.Pooled.{HaveWorked}
use Rattle.lapin_pool.proofs.Pooling.{SeatEnded, have_worked, whole, seats_grown, grown_length, if_ok}
use Rattle.lapin_pool.proofs.pool.deal_work.Goals as goal

-- the callers that took seats worked there and left them
pub returns-clause-worked : goal.returns-clause-worked
returns-clause-worked g c =
    let may = g.D.Duty.may c.args.duty.now in
    let xs = c.in_ok-seats.seats.items in
    let ys = c.work_all-tally.new.seats in
    let sum = c.work_all-tally.result in
    let dealt = c.unseat.new.dealt in
    let front = c.seat_last.new.callers.items in
    let sat : c.as_mut_slice.result.now ≡ xs = search rules in
    let same : length ys ≡ length xs = c.work_all-tally.ensures.count ∙ ap length sat in
    let left = take c.in_ok-seats.seats.len (ys ++ drop (length ys) xs) in
    let is : left ≡ ys = whole c.in_ok-seats.seats.len xs ys same (search rules) in
    if_ok ((sum.short ≡ false) × (dealt.short ≡ false)) (λ (d : Dealt). (d.cards.items ≡ dealt.cards.items) × (d.unread.items ≡ dealt.unread.items))
    (λ d. HaveWorked may c.args.turns c.args.workers c.args.callers.now.items d.cards.items d.unread.items c.unseat.new.callers.items)
    c.all_dealt.result c.all_dealt.ensures.fine c.all_dealt.ensures.same
    (λ d fine own. have_worked may c.args.turns c.args.workers c.args.callers.now.items front c.unseat.new.callers.items xs ys sum d.cards.items d.unread.items
    c.in_ok-seats.ensures.callers c.in_ok-seats.ensures.count c.in_ok-seats.ensures.new
    (subst (λ l. Tallied (SeatEnded may c.args.turns) l sum ys) sat c.work_all-tally.ensures.each)
    fine.0
    (own.0 ∙ c.unseat.ensures.cards fine.1 ∙ ap (λ l. l ++ cards_of left) c.in_ok-dealt.ensures.cards.0 ∙ ap cards_of is)
    (own.1 ∙ c.unseat.ensures.left ∙ ap (λ l. l ++ unread_of left) c.in_ok-dealt.ensures.cards.1 ∙ ap unread_of is)
    (c.unseat.ensures.callers ∙ ap (λ l. front ++ reverse (map caller_of l)) is))

pub returns-clause-grown : goal.returns-clause-grown
returns-clause-grown g c =
    let may = g.D.Duty.may c.args.duty.now in
    let xs = c.in_ok-seats.seats.items in
    let ys = c.work_all-tally.new.seats in
    let front = c.seat_last.new.callers.items in
    let sat : c.as_mut_slice.result.now ≡ xs = search rules in
    let same : length ys ≡ length xs = c.work_all-tally.ensures.count ∙ ap length sat in
    let is : take c.in_ok-seats.seats.len (ys ++ drop (length ys) xs) ≡ ys = whole c.in_ok-seats.seats.len xs ys same (search rules) in
    seats_grown may c.args.turns c.args.callers.now.items front c.unseat.new.callers.items xs ys c.work_all-tally.result c.in_ok-seats.ensures.callers
    (subst (λ l. Tallied (SeatEnded may c.args.turns) l c.work_all-tally.result ys) sat c.work_all-tally.ensures.each)
    (c.unseat.ensures.callers ∙ ap (λ l. front ++ reverse (map caller_of l)) is)

pub returns-clause-count : goal.returns-clause-count
returns-clause-count g c = grown_length c.args.callers.now.items c.unseat.new.callers.items (returns-clause-grown g c)
