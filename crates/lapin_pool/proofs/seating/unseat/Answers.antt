use Rattle.std.proofs.Common.{◌≡◌, ◌∙◌, ◌+◌, ◌++◌, [], ◌∷◌, map, length, sym, ap, arith, append_assoc, length-append}
use Rattle.std.specs.Prelude.{reverse, option_to_list}
use Rattle.lapin_pool.specs.Seats.{caller_of, cards_of, unread_of}
use Rattle.lapin_pool.proofs.Seated.{callers_snoc, cards_snoc, unread_snoc}
use Rattle.lapin_pool.proofs.seating.unseat.Goals as goal

pub loop-seat-preserved : goal.loop-seat-preserved
loop-seat-preserved g c =
    let ss = c.pop.new.self.items in
    let s = c.in-Some.seat in
    let all = c.loop-seat.callers.items in
    let cards = c.loop-seat.dealt.cards.items in
    let left = c.loop-seat.dealt.unread.items in
    let was : c.loop-seat.seats.items ≡ ss ++ s ∷ [] = c.in-Some.ensures.items in
    let one_less : length c.loop-seat.seats.items ≡ length ss + 1 = ap length was ∙ length-append ss (s ∷ []) in
    record {
      callers = ap (λ l. l ++ reverse (map caller_of ss)) (c.push_reserved.ensures.items ∙ ap (λ x. all ++ x ∷ []) c.leave.ensures.caller)
          ∙ append_assoc all (s.caller ∷ []) (reverse (map caller_of ss))
          ∙ ap (λ l. all ++ l) (sym (callers_snoc ss s) ∙ ap (λ l. reverse (map caller_of l)) (sym was)) ∙ c.loop-seat.invariant.callers;
      cards = λ e. ap (λ l. l ++ cards_of ss) (c.leave.ensures.cards e) ∙ append_assoc cards s.cards.items (cards_of ss)
          ∙ ap (λ l. cards ++ l) (sym (cards_snoc ss s) ∙ ap cards_of (sym was)) ∙ c.loop-seat.invariant.cards (c.leave.ensures.short e);
      left = ap (λ l. l ++ unread_of ss) c.leave.ensures.left ∙ append_assoc left (option_to_list s.unread) (unread_of ss)
          ∙ ap (λ l. left ++ l) (sym (unread_snoc ss s) ∙ ap unread_of (sym was)) ∙ c.loop-seat.invariant.left;
      room = omega (arith, ap length c.push_reserved.ensures.items, length-append all (c.leave.result ∷ []), one_less, c.loop-seat.invariant.room, c.push_reserved.ensures.capacity);
      noted = omega (arith, c.leave.ensures.count, one_less, c.loop-seat.invariant.noted, c.leave.ensures.room);
    }
