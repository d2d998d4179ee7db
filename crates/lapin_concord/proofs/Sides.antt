-- The broker's channels after a change of one of them.
use Rattle.std.proofs.Common.{◌≡◌, ◌≢◌, ℕ, ◌==◌, true, false, cond, List, [], ◌∷◌, ◌++◌, refl, sym, ◌∙◌, ap, Option, Some, None, inl, inr, eq-eqb}
use Rattle.std.specs.Prelude.{is_some}
use Rattle.std.specs.Option.{option_map, option_or}
use Rattle.std.proofs.lemmas.Bool.Decides.{eqb_tells}
use mathlib.Core.Path.{fun_ext}
use Rattle.lapin_tables.specs.ByChannel.{at_channel, on_channel}
use Rattle.lapin_tables.proofs.Channels.{at-push, at-on_same, at-on_other, or-none}
use Rattle.lapin_broker.specs.declared.content.Content.{Content}
use Rattle.lapin_broker.specs.States.{Channel, free_channel, channel_in, with_channel}
use Rattle.lapin_pairs.specs.Channel as kept
use Rattle.lapin_pairs.specs.Every.{put}
use Rattle.lapin_pairs.specs.Asking.{B2}
use Rattle.lapin_concord.specs.Peers.{content_as, reading_as}
use Rattle.lapin_broker.proofs.SoundLaw.{at_with}

abbrev pub chan : ℕ → List (ℕ × Channel) → Channel
chan c es = channel_in (at_channel c es)

pub at_away : (c e : ℕ) (x : Channel) (es : List (ℕ × Channel)) → (c == e) ≡ false → at_channel e (with_channel c x es) ≡ at_channel e es
at_away c e x es n = elim (is_some (at_channel c es)) as (λ b. at_channel e (cond b (on_channel c (λ _. x) es) (es ++ (c, x) ∷ [])) ≡ at_channel e es) [
  | true ↦ at-on_other c e (λ _. x) es apart
  | false ↦ at-push c e x es ∙ (ap (λ b. option_or (at_channel e es) (cond b (Some x) None)) n ∙ or-none (at_channel e es))
]
  where
    apart : c ≢ e
    apart h = let y : true ≡ false = sym (eq-eqb c e h) ∙ n in cc

pub chan_with : (c : ℕ) (x : Channel) (es : List (ℕ × Channel)) → chan c (with_channel c x es) ≡ x
chan_with c x es = ap channel_in (at_with c x es)

pub chan_away : (c e : ℕ) (x : Channel) (es : List (ℕ × Channel)) → (c == e) ≡ false → chan e (with_channel c x es) ≡ chan e es
chan_away c e x es n = ap channel_in (at_away c e x es n)

-- a function at one channel
pub chan_on : (c : ℕ) (f : Channel → Channel) (es : List (ℕ × Channel)) → (at_channel c es ≡ None → f free_channel ≡ free_channel) → chan c (on_channel c f es) ≡ f (chan c es)
chan_on c f es n = ap channel_in (at-on_same c f es) ∙ here (at_channel c es) n
  where
    here : (o : Option Channel) → (o ≡ None → f free_channel ≡ free_channel) → channel_in (option_map f o) ≡ f (channel_in o)
    here None h = sym (h refl)
    here (Some x) h = refl

pub chan_on_away : (c e : ℕ) (f : Channel → Channel) (es : List (ℕ × Channel)) → (c == e) ≡ false → chan e (on_channel c f es) ≡ chan e es
chan_on_away c e f es n = ap channel_in (at-on_other c e f es (λ h. let y : true ≡ false = sym (eq-eqb c e h) ∙ n in cc))

-- the sides, by what became of one channel
pub put_is : (c : ℕ) (s : B2) (f g : ℕ → B2) → f c ≡ s → ((e : ℕ) → (c == e) ≡ false → f e ≡ g e) → f ≡ put c s g
put_is c s f g here away = fun_ext (λ e. elim (eqb_tells c e) [
  | inl y ↦ rw y.0 (ap f (sym y.1) ∙ here)
  | inr n ↦ rw n.0 (away e n.0)
])

pub reading_here : (c : ℕ) (x : Content) → reading_as c (Some (c, x)) ≡ Some (content_as x)
reading_here c x = rw (eq-eqb c c refl) refl

pub reading_away : (c e : ℕ) (x : Content) → (c == e) ≡ false → reading_as e (Some (c, x)) ≡ Some kept.Idle
reading_away c e x n = rw n refl
