-- The frames of a publish, as the pair of machines has them.
use Rattle.std.proofs.Common.{◌≡◌, ℕ, zero, suc, ◌+◌, ◌-◌, ◌<◌, ◌≤◌, List, [], ◌∷◌, map, length, take, drop, refl, sym, ◌∙◌, ap, ap₂, arith, length-append, length-drop}
use Rattle.std.proofs.lemmas.List.{take-append-drop}
use Rattle.lapin_types.specs.Types.frame
use Rattle.lapin_types.specs.declared.leaving.Publish.{Publish}
use Rattle.lapin_rules.specs.Frames.{behind, rest_of, pieces, cut, room_for_body}
use Rattle.lapin_pairs.specs.Channel.{FHeader, FBody, sum_suc, bodies_of}
use Rattle.lapin_pairs.specs.Every.{OnU, on_all}
use Rattle.lapin_pairs.specs.Asking.{Plain, plains}
use Rattle.lapin_concord.specs.Wires.{rest_as}
use Rattle.lapin_concord.specs.Held.{AreOn, IsWhole, AreRestSent}

abbrev pub sizes : List (List ℕ) → List ℕ
sizes [] = []
sizes (p ∷ ps) = (length p - 1) ∷ sizes ps

pub record Cut (bytes : List ℕ) (ps : List (List ℕ)) : Type 0 where
  pub total : sum_suc (sizes ps) ≡ length bytes
  pub bodies : (p : Publish) → map rest_as (behind p (map (λ piece. frame.Body p.channel piece) ps)) ≡ on_all p.channel (plains (bodies_of (sizes ps)))

one_body : (c n : ℕ) (p : List ℕ) → length p ≡ suc n → OnU c (Plain (FBody (length p))) ≡ OnU c (Plain (FBody ((length p - 1) + 1)))
one_body c n p e =
    let k : (length p - 1) + 1 ≡ length p = omega (arith, e) in
    ap (λ x. OnU c (Plain (FBody x))) (sym k)

pub pieces_cut : (most n : ℕ) (bytes : List ℕ) → 0 < n → length bytes ≤ most → Cut bytes (pieces most n bytes)
pieces_cut zero n [] a h = record { total = refl; bodies = λ p. refl }
pieces_cut zero n (b ∷ bs) a h = absurd (omega arith)
pieces_cut (suc most) n [] a h = record { total = refl; bodies = λ p. refl }
pieces_cut (suc most) zero (b ∷ bs) a h = absurd (omega arith)
pieces_cut (suc most) (suc k) (b ∷ bs) a h =
    let d : length (drop (suc k) (b ∷ bs)) ≡ length (b ∷ bs) - suc k = length-drop (suc k) (b ∷ bs) in
    let l : length (drop (suc k) (b ∷ bs)) ≤ most = omega (arith, d, h) in
    let r : Cut (drop (suc k) (b ∷ bs)) (pieces most (suc k) (drop (suc k) (b ∷ bs))) = pieces_cut most (suc k) (drop (suc k) (b ∷ bs)) a l in
    let t : length (take (suc k) (b ∷ bs)) + length (drop (suc k) (b ∷ bs)) ≡ length (b ∷ bs) = sym (length-append (take (suc k) (b ∷ bs)) (drop (suc k) (b ∷ bs))) ∙ ap length (take-append-drop (suc k) (b ∷ bs)) in
    let s : length (take (suc k) (b ∷ bs)) ≡ suc (length (take k bs)) = refl in
    record {
      total = omega (arith, r.total, t, s);
      bodies = λ p. ap₂ (λ x xs. x ∷ xs) (one_body p.channel (length (take k bs)) (take (suc k) (b ∷ bs)) s) (r.bodies p);
    }

abbrev pub sizes_of : ℕ → Publish → List ℕ
sizes_of frame_max p = sizes (cut (room_for_body frame_max) p.payload)

pub rest_frames : (frame_max : ℕ) (p : Publish) → 8 < frame_max → map rest_as (rest_of frame_max p) ≡ on_all p.channel (plains (FHeader (sum_suc (sizes_of frame_max p)) ∷ bodies_of (sizes_of frame_max p)))
rest_frames frame_max p m =
    let r : Cut p.payload (cut (room_for_body frame_max) p.payload) = pieces_cut (length p.payload) (room_for_body frame_max) p.payload (omega (arith, m)) (omega arith) in
    ap₂ (λ x xs. x ∷ xs) (ap (λ x. OnU p.channel (Plain (FHeader x))) (sym r.total)) (r.bodies p)

-- they are on one channel
bodies_on : (p : Publish) (ps : List (List ℕ)) → AreOn p.channel (behind p (map (λ piece. frame.Body p.channel piece) ps))
bodies_on p [] = tt
bodies_on p (x ∷ xs) = (refl, (FBody (length x), refl, refl), bodies_on p xs)

pub whole_rest : (frame_max : ℕ) (p : Publish) → IsWhole (rest_of frame_max p)
whole_rest frame_max p = (refl, (FHeader (length p.payload), refl, refl), bodies_on p (cut (room_for_body frame_max) p.payload))

-- and fit into frames
take_short : (n : ℕ) (xs : List ℕ) → length (take n xs) ≤ n
take_short zero xs = omega arith
take_short (suc n) [] = omega arith
take_short (suc n) (x ∷ xs) = let h : length (take n xs) ≤ n = take_short n xs in omega (arith, h)

bodies_fit : (frame_max k : ℕ) (bytes : List ℕ) (p : Publish) → AreRestSent frame_max (behind p (map (λ piece. frame.Body p.channel piece) (pieces k (frame_max - 8) bytes)))
bodies_fit frame_max zero bytes p = tt
bodies_fit frame_max (suc k) [] p = tt
bodies_fit frame_max (suc k) (b ∷ bs) p = (take_short (frame_max - 8) (b ∷ bs), bodies_fit frame_max k (drop (frame_max - 8) (b ∷ bs)) p)

pub rest_fits : (frame_max : ℕ) (p : Publish) → AreRestSent frame_max (rest_of frame_max p)
rest_fits frame_max p = (refl, bodies_fit frame_max (length p.payload) p.payload p)
