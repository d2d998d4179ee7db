-- The frames of one publish come to its message.
use Rattle.std.proofs.Common.{◌≡◌, ◌∙◌, ℕ, zero, suc, ◌+◌, ◌-◌, ◌≤◌, ◌<◌, ◌==◌, true, false, List, [], ◌∷◌, ◌++◌, map, length, take, drop, inl, inr, refl, sym, ap, append-nil, append_assoc, arith, eq-eqb, length-append}
use Rattle.std.specs.List.{fold}
use Rattle.std.proofs.lemmas.Bool.Decides.{eqb_tells}
use Rattle.lapin_types.specs.declared.leaving.Publish.{Publish}
use Rattle.lapin_types.specs.Types.{Frame}
use Rattle.lapin_types.specs.Types.frame
use Rattle.lapin_rules.specs.Frames.{RestEntry, pieces, cut, room_for_body, publish_method, contents, behind}
use Rattle.lapin_verdicts.specs.Publishes.{Message, Begun, Headed, Tally, with_whole, with_bytes, tally_after}

-- the message of a publish that waits
abbrev pub message_in : Publish → Message
message_in p = record { exchange = p.exchange; routing_key = p.routing_key; mandatory = p.options.mandatory; immediate = p.options.immediate; properties = p.properties; payload = p.payload }

abbrev Coming_at : ℕ → Message → Tally → Tally
Coming_at size m y = record { selected = y.selected; numbered = y.numbered; coming = Headed size m }

abbrev With : Message → List ℕ → Message
With m bytes = record m { payload = bytes }

-- the last piece makes it whole
last_piece : (size : ℕ) (m : Message) (acc piece : List ℕ) (y : Tally) → size ≡ length acc + length piece → with_bytes size (With m (acc ++ piece)) y ≡ with_whole (With m (acc ++ piece)) y
last_piece size m acc piece y e =
    let all : (length (acc ++ piece) == size) ≡ true = eq-eqb _ _ (length-append acc piece ∙ sym e) in
    rw all refl

-- an earlier one doesn't
more_piece : (size : ℕ) (m : Message) (acc piece : List ℕ) (y : Tally) → length acc + length piece < size → with_bytes size (With m (acc ++ piece)) y ≡ record y { coming = Headed size (With m (acc ++ piece)) }
more_piece size m acc piece y lt =
    let some : (length (acc ++ piece) == size) ≡ false = elim (eqb_tells (length (acc ++ piece)) size) as (λ _. (length (acc ++ piece) == size) ≡ false) [
      | inl w ↦ let v = w.1 in let a = length-append acc piece in let z : ⊥ = omega (arith, v, a, lt) in absurd z
      | inr w ↦ w.0
    ] in
    rw some refl

take-drop : {X : Type 0} (n : ℕ) (xs : List X) → take n xs ++ drop n xs ≡ xs
take-drop zero xs = refl
take-drop (suc n) [] = refl
take-drop (suc n) (x ∷ xs) = ap (λ v. x ∷ v) (take-drop n xs)

length-parts : {X : Type 0} (n : ℕ) (xs : List X) → length (take n xs) + length (drop n xs) ≡ length xs
length-parts n xs = sym (length-append (take n xs) (drop n xs)) ∙ ap length (take-drop n xs)

length-dropped : {X : Type 0} (n : ℕ) (xs : List X) → length (drop n xs) ≡ length xs - n
length-dropped zero xs = omega arith
length-dropped (suc n) [] = omega arith
length-dropped (suc n) (x ∷ xs) = let e = length-dropped n xs in omega (arith, e)

no_pieces : (most n : ℕ) → pieces most n [] ≡ []
no_pieces zero n = refl
no_pieces (suc most) n = refl

pieces_come : (c most n : ℕ) (bytes acc : List ℕ) (size : ℕ) (m : Message) (y : Tally) → 0 < n → 0 < length bytes → length bytes ≤ most → size ≡ length acc + length bytes → fold tally_after (Coming_at size (With m acc) y) (map (λ piece. frame.Body c piece) (pieces most n bytes)) ≡ with_whole (With m (acc ++ bytes)) y
pieces_come c zero n bytes acc size m y z some le e = let w : ⊥ = omega (arith, some, le) in absurd w
pieces_come c (suc most) n [] acc size m y z some le e = let w : ⊥ = omega (arith, some) in absurd w
pieces_come c (suc most) n (b ∷ bs) acc size m y z some le e = by (pieces_come c most n (drop n (b ∷ bs)) (acc ++ take n (b ∷ bs)) size m y z) (drop n (b ∷ bs)) refl
  where
    by : (0 < length (drop n (b ∷ bs)) → length (drop n (b ∷ bs)) ≤ most → size ≡ length (acc ++ take n (b ∷ bs)) + length (drop n (b ∷ bs)) → fold tally_after (Coming_at size (With m (acc ++ take n (b ∷ bs))) y) (map (λ piece. frame.Body c piece) (pieces most n (drop n (b ∷ bs)))) ≡ with_whole (With m ((acc ++ take n (b ∷ bs)) ++ drop n (b ∷ bs))) y) → (left : List ℕ) → drop n (b ∷ bs) ≡ left → fold tally_after (Coming_at size (With m acc) y) (map (λ piece. frame.Body c piece) (take n (b ∷ bs) ∷ pieces most n (drop n (b ∷ bs)))) ≡ with_whole (With m (acc ++ b ∷ bs)) y
    by go [] d =
        let whole : take n (b ∷ bs) ≡ b ∷ bs = sym (append-nil _) ∙ (ap (λ v. take n (b ∷ bs) ++ v) (sym d) ∙ take-drop n (b ∷ bs)) in
        let none : pieces most n (drop n (b ∷ bs)) ≡ [] = ap (pieces most n) d ∙ no_pieces most n in
        let y0 : Tally = Coming_at size (With m acc) y in
        ap (λ ps. fold tally_after y0 (map (λ piece. frame.Body c piece) (take n (b ∷ bs) ∷ ps))) none
        ∙ (ap (λ p. with_bytes size (With m (acc ++ p)) y0) whole ∙ last_piece size m acc (b ∷ bs) y0 e)
    by go (x ∷ xs) d =
        let y0 : Tally = Coming_at size (With m acc) y in
        let p : List ℕ = take n (b ∷ bs) in
        let r : List ℕ = drop n (b ∷ bs) in
        let parts = length-parts n (b ∷ bs) in
        let shorter = length-dropped n (b ∷ bs) in
        let there : length r ≡ length (x ∷ xs) = ap length d in
        let there' : length (x ∷ xs) ≡ suc (length xs) = refl in
        let some' : 0 < length r = omega (arith, there, there') in
        let fewer : length r ≤ most = omega (arith, shorter, le, z, some) in
        let lt : length acc + length p < size = omega (arith, parts, e, some') in
        let e' : size ≡ length (acc ++ p) + length r = let a = length-append acc p in omega (arith, a, parts, e) in
        let first : tally_after y0 (frame.Body c p) ≡ Coming_at size (With m (acc ++ p)) y = more_piece size m acc p y0 lt in
        let rest = go some' fewer e' in
        ap (λ v. fold tally_after v (map (λ piece. frame.Body c piece) (pieces most n r))) first
        ∙ (rest ∙ ap (λ v. with_whole (With m v) y) (append_assoc acc p r ∙ ap (λ v. acc ++ v) (take-drop n (b ∷ bs))))

-- the publish's method has come
abbrev Begun_at : Message → Tally → Tally
Begun_at m y = record { selected = y.selected; numbered = y.numbered; coming = Begun m }

-- its header and bodies make it whole
payload_comes : (c n : ℕ) (bytes : List ℕ) (m : Message) (y : Tally) → 0 < n → fold tally_after (with_bytes (length bytes) (With m []) y) (map (λ piece. frame.Body c piece) (cut n bytes)) ≡ with_whole (With m bytes) y
payload_comes c n [] m y z = refl
payload_comes c n (b ∷ bs) m y z =
    let some : 0 < length (b ∷ bs) = let e : length (b ∷ bs) ≡ suc (length bs) = refl in omega (arith, e) in
    let first : with_bytes (length (b ∷ bs)) (With m []) y ≡ Coming_at (length (b ∷ bs)) (With m []) y = more_piece (length (b ∷ bs)) m [] [] y (omega (arith, some)) in
    ap (λ v. fold tally_after v (map (λ piece. frame.Body c piece) (cut n (b ∷ bs)))) first
    ∙ pieces_come c (length (b ∷ bs)) n (b ∷ bs) [] (length (b ∷ bs)) m y z some (omega arith) (omega arith)

-- the frames of a publish: it is whole
pub publish_comes : (n : ℕ) (q : Publish) (y : Tally) → 8 < n → fold tally_after (tally_after y (frame.Method q.channel (publish_method q))) (contents n q) ≡ with_whole (message_in q) y
publish_comes n q y big = payload_comes q.channel (room_for_body n) q.payload (message_in q) (tally_after y (frame.Method q.channel (publish_method q))) (omega (arith, big))

pub behind_frames : (q : Publish) (fs : List Frame) → map (λ (f : RestEntry). f.frame) (behind q fs) ≡ fs
behind_frames q [] = refl
behind_frames q (f ∷ fs) = ap (λ v. f ∷ v) (behind_frames q fs)
