-- Contents that come to a channel which hears none, between the frames of a link.
use Rattle.std.proofs.Common.{◌≡◌, ℕ, ◌+◌, ◌≤◌, ◌==◌, Bool, true, false, cond, ◌&&◌, not, List, [], ◌∷◌, ◌++◌, length, refl, sym, ap, ◌∙◌, inl, inr, subst, arith}
use Rattle.lapin_types.specs.Types.{Frame}
use Rattle.lapin_broker.specs.declared.frames.BrokerFrame.{BrokerFrame}
use Rattle.lapin_broker.specs.declared.frames.BrokerFrame.TheVariants as broker
use Rattle.lapin_broker.specs.Frames.{channel_of, broker_frame}
use Rattle.lapin_broker.specs.Sends.{is_connection_close}
use Rattle.lapin_tables.proofs.Bools.{and_false}
use Rattle.lapin_clients.specs.Pieces.{ArePieces}
use Rattle.lapin_clients.specs.Strays.{AreComing, AreWithStrays, Hearing, hear_behind, heard_from, hears_on, is_part}

-- ---- who hears less

-- one hears nothing that the other doesn't hear
pub record HearsLess (hear less : Hearing) : Type 0 where
  pub up : hear.up ≡ false → less.up ≡ false
  pub on : (c : ℕ) → hear.on c ≡ false → less.on c ≡ false

pub hears_same : (hear : Hearing) → HearsLess hear hear
hears_same hear = record { up = λ h. h; on = λ c h. h }

pub less_then : (hear less least : Hearing) → HearsLess hear less → HearsLess less least → HearsLess hear least
less_then hear less least h k = record { up = λ u. k.up (h.up u); on = λ c o. k.on c (h.on c o) }

pub less_on : (hear less : Hearing) (c : ℕ) → HearsLess hear less → hears_on hear c ≡ false → hears_on less c ≡ false
less_on hear less c k h = by hear.up refl
  where
    by : (u : Bool) → hear.up ≡ u → hears_on less c ≡ false
    by true u = ap (λ v. less.up && v) (k.on c (sym (ap (λ v. v && hear.on c) u) ∙ h)) ∙ and_false less.up
    by false u = ap (λ v. v && less.on c) (k.up u)

less_from : (d : BrokerFrame) (was less : Bool) → (was ≡ false → less ≡ false) → heard_from d was ≡ false → heard_from d less ≡ false
less_from broker.OpenOk was less k h = absurd cc
less_from broker.Close was less k h = refl
less_from broker.CloseOk was less k h = refl
less_from _ was less k h = k h

less_and : (v was less : Bool) → (was ≡ false → less ≡ false) → (was && v) ≡ false → (less && v) ≡ false
less_and v false less k h = ap (λ u. u && v) (k refl)
less_and true true less k h = absurd cc
less_and false true less k h = and_false less

pub less_behind : (f : Frame) (hear less : Hearing) → HearsLess hear less → HearsLess (hear_behind f hear) (hear_behind f less)
less_behind f hear less k = record { up = less_and (not (is_connection_close (broker_frame f))) hear.up less.up k.up; on = λ c. by c (channel_of f == c) }
  where
    by : (c : ℕ) (here : Bool) → cond here (heard_from (broker_frame f) (hear.on c)) (hear.on c) ≡ false → cond here (heard_from (broker_frame f) (less.on c)) (less.on c) ≡ false
    by c true h = less_from (broker_frame f) (hear.on c) (less.on c) (k.on c) h
    by c false h = k.on c h

pub strays_less : (way frames : List Frame) (hear less : Hearing) → HearsLess hear less → AreWithStrays hear way frames → AreWithStrays less way frames
strays_less [] frames hear less k h = h
strays_less (f ∷ way) frames hear less k (inl h) = inl (h.0, less_on hear less (channel_of f) k h.1, strays_less way frames hear less k h.2)
strays_less (f ∷ way) frames hear less k (inr h) = inr (h.0, h.1, strays_less way h.0 (hear_behind f hear) (hear_behind f less) (less_behind f hear less k) h.2)

-- ---- what is heard once frames came

abbrev pub hear_at_end : List Frame → Hearing → Hearing
hear_at_end [] hear = hear
hear_at_end (f ∷ fs) hear = hear_at_end fs (hear_behind f hear)

pub end_less : (fs : List Frame) (hear less : Hearing) → HearsLess hear less → HearsLess (hear_at_end fs hear) (hear_at_end fs less)
end_less [] hear less k = k
end_less (f ∷ fs) hear less k = end_less fs (hear_behind f hear) (hear_behind f less) (less_behind f hear less k)

pub end_more : (fs : List Frame) (f : Frame) (hear : Hearing) → hear_at_end (fs ++ f ∷ []) hear ≡ hear_behind f (hear_at_end fs hear)
end_more [] f hear = refl
end_more (g ∷ fs) f hear = end_more fs f (hear_behind g hear)

-- ---- one more at the back

-- a frame of the link
pub frame_more : (way frames : List Frame) (f : Frame) (hear : Hearing) → AreWithStrays hear way frames → AreWithStrays hear (way ++ f ∷ []) (frames ++ f ∷ [])
frame_more [] frames f hear h = inr ([], ap (λ fs. fs ++ f ∷ []) h, refl)
frame_more (g ∷ way) frames f hear (inl h) = inl (h.0, h.1, frame_more way frames f hear h.2)
frame_more (g ∷ way) frames f hear (inr h) = inr (h.0 ++ f ∷ [], ap (λ fs. fs ++ f ∷ []) h.1, frame_more way h.0 f (hear_behind g hear) h.2)

-- a content that comes to a channel which hears none once all frames of the link came
pub stray_more : (way frames : List Frame) (f : Frame) (hear : Hearing) → is_part f ≡ true → hears_on (hear_at_end frames hear) (channel_of f) ≡ false → AreWithStrays hear way frames → AreWithStrays hear (way ++ f ∷ []) frames
stray_more [] frames f hear part deaf h = inl (part, sym (ap (λ fs. hears_on (hear_at_end fs hear) (channel_of f)) h) ∙ deaf, h)
stray_more (g ∷ way) frames f hear part deaf (inl h) = inl (h.0, h.1, stray_more way frames f hear part deaf h.2)
stray_more (g ∷ way) frames f hear part deaf (inr h) = inr (h.0, h.1, stray_more way h.0 f (hear_behind g hear) part (sym (ap (λ fs. hears_on (hear_at_end fs hear) (channel_of f)) h.1) ∙ deaf) h.2)

-- ---- as octets

-- the same octets, to who hears less
pub coming_so : (most : ℕ) (os os' : List ℕ) (hear less : Hearing) (n n' : ℕ) (frames : List Frame) → os' ≡ os → n' ≡ n → HearsLess hear less → AreComing most os hear n frames → AreComing most os' less n' frames
coming_so most os os' hear less n n' frames e same k a = record {
  way = a.way;
  written = record { pieces = a.written.pieces; are = e ∙ a.written.are; frames_are = a.written.frames_are; fit = a.written.fit };
  carried = a.carried;
  strays = strays_less a.way frames hear less k a.strays;
  few = subst (λ m. length a.way ≤ length frames + m) (sym same) a.few;
}

-- the same, to who hears the same
pub coming_as : (most : ℕ) (os os' : List ℕ) (hear : Hearing) (n n' : ℕ) (frames : List Frame) → os' ≡ os → n' ≡ n → AreComing most os hear n frames → AreComing most os' hear n' frames
coming_as most os os' hear n n' frames e same a = coming_so most os os' hear hear n n' frames e same (hears_same hear) a

-- ---- none besides

-- with others between them they are as many at least
no_fewer : (way frames : List Frame) (hear : Hearing) → AreWithStrays hear way frames → length frames ≤ length way
no_fewer [] frames hear h = let none = ap length h in omega (arith, none)
no_fewer (f ∷ way) frames hear (inl h) = let less = no_fewer way frames hear h.2 in omega (arith, less)
no_fewer (f ∷ way) frames hear (inr h) = let less = no_fewer way h.0 (hear_behind f hear) h.2 in let same = ap length h.1 in omega (arith, less, same)

-- and where they are no more there are no others
none_between : (way frames : List Frame) (hear : Hearing) → AreWithStrays hear way frames → length way ≤ length frames → way ≡ frames
none_between [] frames hear h few = sym h
none_between (f ∷ way) frames hear (inl h) few = let less = no_fewer way frames hear h.2 in absurd (omega (arith, less, few))
none_between (f ∷ way) frames hear (inr h) few =
    let same = ap length h.1 in
    ap (λ fs. f ∷ fs) (none_between way h.0 (hear_behind f hear) h.2 (omega (arith, same, few))) ∙ sym h.1

pub alone_coming : (most : ℕ) (os : List ℕ) (hear : Hearing) (frames : List Frame) → AreComing most os hear 0 frames → ArePieces most os frames
alone_coming most os hear frames a = subst (λ fs. ArePieces most os fs) (none_between a.way frames hear a.strays (let few = a.few in omega (arith, few))) a.written
