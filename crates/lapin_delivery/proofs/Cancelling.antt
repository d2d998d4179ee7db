-- A consumer whose cancel was asked for is found as before, and the room that was made for its end is there.
use Rattle.std.proofs.Common.{◌≡◌, ℕ, suc, cond, List, Option, Some, None, sym, ◌∙◌, ap, subst}
use Rattle.std.specs.Prelude.{IfSome}
use Rattle.std.specs.Option.{option_map}
use Rattle.lapin_consumer.specs.Marks as mark
use Rattle.lapin_consumer.specs.WithRoom.{WithRoom, HasRoom, KeepsRoom}
use Rattle.lapin_consumer.specs.Subscriptions.{Consumer, Subscriptions, after_mark, is_under, canceling, moved, first_place, found}
use Rattle.lapin_consumer.proofs.Places.{tested, places-map_at}

under-asked : (c : ℕ) (t : List ℕ) (x : Consumer) → is_under c t (cond (is_under c t x) (canceling x) x) ≡ is_under c t x
under-asked c t x = tested (is_under c t x) (λ on. ap (λ b. is_under c t (cond b (canceling x) x)) on) (λ off. ap (λ b. is_under c t (cond b (canceling x) x)) off)

found-asked : (c : ℕ) (t : List ℕ) (r : Subscriptions) → found c t (after_mark r (mark.CancelAsked c t)) ≡ found c t r
found-asked c t r = ap (λ ps. option_map suc (first_place ps)) (places-map_at (λ _ x. is_under c t x) (λ _ x. is_under c t x) (moved (mark.CancelAsked c t)) r.consumers (λ i x. under-asked c t x))

pub asked-room : (c : ℕ) (t : List ℕ) (old new : WithRoom) → new.subscriptions ≡ after_mark old.subscriptions (mark.CancelAsked c t) → KeepsRoom old new → IfSome (found c t old.subscriptions) (λ n. HasRoom n old) → IfSome (found c t new.subscriptions) (λ n. HasRoom n new)
asked-room c t old new is keeps fits =
    let same : found c t new.subscriptions ≡ found c t old.subscriptions = ap (found c t) is ∙ found-asked c t old.subscriptions in
    subst (λ o. IfSome o (λ n. HasRoom n new)) (sym same) (kept (found c t old.subscriptions) fits)
  where
    kept : (o : Option ℕ) → IfSome o (λ n. HasRoom n old) → IfSome o (λ n. HasRoom n new)
    kept None h = h
    kept (Some n) h = keeps n h
