-- The broker's last close of a channel is the last one among the frames that were taken.
use Rattle.std.proofs.Common.{◌≡◌, ℕ, zero, suc, List, [], ◌∷◌, ◌++◌, Option, Some, None, refl, sym, ap, ◌∙◌}
use Rattle.std.proofs.lemmas.List.{append-nil}
use Rattle.lapin_client.specs.declared.client.Client.{Client}
use Rattle.lapin_client.specs.declared.closes.Close.{Close}
use Rattle.lapin_client.specs.Closes.{close_on, close_said, last_close, or_before}
use Rattle.lapin_client.specs.Receiving.{Comes}
use Rattle.lapin_client.specs.Taken.{Took, frames_in}
use Rattle.lapin_types.specs.Types.{Frame}

last_more : (ch : ℕ) (gs : List Frame) (f : Frame) (x : Option Close) → last_close ch (gs ++ f ∷ []) x ≡ or_before ch (close_said f) (last_close ch gs x)
last_more ch [] f x = refl
last_more ch (g ∷ gs) f x = last_more ch gs f (or_before ch (close_said g) x)

kept : (n : ℕ) (fs : List Frame) (c d : Client) → Took n fs c d → (ch : ℕ) → close_on ch d ≡ last_close ch fs (close_on ch c)
kept zero fs c d t ch = ap (λ (x : Client). close_on ch x) t.1 ∙ ap (λ (l : List Frame). last_close ch l (close_on ch c)) (sym t.0)
kept (suc n) fs c d (b, gs, None, took, turn, is) ch =
    turn.5 ch ∙ kept n gs c b took ch ∙ ap (λ (l : List Frame). last_close ch l (close_on ch c)) (sym (is ∙ append-nil gs))
kept (suc n) fs c d (b, gs, Some f, took, turn, is) ch =
    turn.5 ch ∙ ap (λ (o : Option Close). or_before ch (close_said f) o) (kept n gs c b took ch) ∙ sym (last_more ch gs f (close_on ch c)) ∙ ap (λ (l : List Frame). last_close ch l (close_on ch c)) (sym is)

took_of : (n : ℕ) (c d : Client) → Comes n c d → (fs : List Frame) × Took n fs c d
unfolding Comes
took_of zero c d h = ([], (refl, h))
took_of (suc n) c d (b, comes, (o, turn, hears)) = let t = took_of n c b comes in (t.0 ++ frames_in o, (b, t.0, o, t.1, turn, refl))

pub last_is_kept : (n : ℕ) (c d : Client) → Comes n c d → (fs : List Frame) × Took n fs c d × ((ch : ℕ) → close_on ch d ≡ last_close ch fs (close_on ch c))
last_is_kept n c d h = let t = took_of n c d h in (t.0, t.1, kept n t.0 c d t.1)
