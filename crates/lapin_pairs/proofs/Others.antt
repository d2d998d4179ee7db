-- The connection, to which every frame of a channel is one like any other.
use Rattle.std.proofs.Common.{◌≡◌, Bool, true, false, List, [], ◌∷◌, ◌++◌, refl, ◌∙◌}
use Rattle.lapin_pairs.specs.Machine.{Up, UOpen, UCloseOk, UOther, Down, DCloseOk, Opened, Peer, Free, Open, Stopping, StoppingOwes, World, read}
use Rattle.lapin_pairs.proofs.Pairs.{Good, tight, reads, reads-append, shape_of, is_dead, accepts, not_dead, live}

-- to the connection: frames of channels only
abbrev pub others : List Up → Bool
others [] = true
others (UOther ∷ us) = others us
others (_ ∷ us) = false

pub others-append : (us vs : List Up) → others us ≡ true → others vs ≡ true → others (us ++ vs) ≡ true
others-append [] vs h k = k
others-append (UOther ∷ us) vs h k = others-append us vs h k
others-append (_ ∷ us) vs h k = cc

pub opened_back : (m : Peer) (u : Up) → is_dead (shape_of Opened (tight m u)) ≡ false → (is_dead (shape_of Opened m) ≡ false) × (u ≡ UOther)
opened_back Open UOther h = (refl, refl)
opened_back Stopping UOther h = (refl, refl)
opened_back Free UOpen h = absurd cc
opened_back StoppingOwes UCloseOk h = absurd cc
opened_back _ _ h = absurd cc

pub opened_way : (m : Peer) (us : List Up) → is_dead (shape_of Opened (reads m us)) ≡ false → (is_dead (shape_of Opened m) ≡ false) × (others us ≡ true)
opened_way m [] h = (h, refl)
opened_way m (u ∷ us) h =
    let k = opened_way (tight m u) us h in
    let j = opened_back m u k.0 in
    (j.0, rw j.1 k.1)

pub reads_others : (m : Peer) (us : List Up) → is_dead (shape_of Opened m) ≡ false → others us ≡ true → reads m us ≡ m
reads_others m [] h o = refl
reads_others Open (UOther ∷ us) h o = reads_others Open us h o
reads_others Stopping (UOther ∷ us) h o = reads_others Stopping us h o
reads_others _ (UOther ∷ us) h o = absurd cc
reads_others _ (_ ∷ us) h o = absurd cc

-- while the connection is open, frames of channels may be dropped and queued
pub swap : (w : World) (vs : List Up) → w.sess ≡ Opened → others vs ≡ true → Good w → Good (record w { unsent = vs })
swap w vs e o g =
    let a : is_dead (shape_of Opened (reads (reads w.peer w.up) w.unsent)) ≡ false = rw (e, reads-append) at (live w g) in
    let k = opened_way (reads w.peer w.up) w.unsent a in
    let x = reads-append w.peer w.up w.unsent ∙ reads_others (reads w.peer w.up) w.unsent k.0 k.1 in
    let y = reads-append w.peer w.up vs ∙ reads_others (reads w.peer w.up) vs k.0 o in
    record { pair = rw (y, ← x) g.pair; clean = rw e refl }

pub opened_others : (w : World) → w.sess ≡ Opened → Good w → others w.unsent ≡ true
opened_others w e g =
    let a : is_dead (shape_of Opened (reads (reads w.peer w.up) w.unsent)) ≡ false = rw (e, reads-append) at (live w g) in
    (opened_way (reads w.peer w.up) w.unsent a).1

pub serving_back : (b : Peer) (u : Up) → read b u ≡ Open → (b ≡ Open) × (u ≡ UOther)
serving_back Open UOther h = (refl, refl)
serving_back Free UOpen h = absurd cc
serving_back Stopping UOpen h = absurd cc
serving_back StoppingOwes UOpen h = absurd cc
serving_back _ _ h = absurd cc

pub no_ok_opened : (q : Peer) (ds : List Down) → accepts (shape_of Opened q) (DCloseOk ∷ ds) ≡ true → ⊥
no_ok_opened Open ds h = not_dead ds h
no_ok_opened Stopping ds h = not_dead ds h
no_ok_opened _ ds h = not_dead ds h
