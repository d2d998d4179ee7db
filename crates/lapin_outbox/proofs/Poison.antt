-- Which poison a push meets once a channel's was set or cleared.
use Rattle.std.proofs.Common.{◌≡◌, ◌≢◌, ℕ, Some, None, cond, Option, sym, ◌∙◌, ap, refl, ne_eqb}
use Rattle.std.specs.Option.{option_map, option_or, option_flatten}
use Rattle.std.proofs.lemmas.Bool.{eq-eqb}
use Rattle.lapin_tables.specs.ByChannel.{at_channel}
use Rattle.lapin_tables.proofs.Channels.{at-on_same, at-on_other}
use Rattle.lapin_types.specs.Types.{Error}
use Rattle.lapin_rules.proofs.ChannelLaws.{at-with}
use Rattle.lapin_outbox.specs.Outgoing.{OutboxState}
use Rattle.lapin_outbox.specs.Poison.{poison_on, channel_poisoned, channel_cleared}

abbrev met : OutboxState → Option (Option Error) → Option Error
met o found = option_or (option_flatten found) o.poison

pub poison-set : (c : ℕ) (e : Error) (o : OutboxState) → poison_on c (channel_poisoned c e o) ≡ Some e
poison-set c e o = ap (met o) (at-with c c (Some e) o.errors ∙ ap (λ b. cond b (Some (Some e)) (at_channel c o.errors)) (eq-eqb c c refl))

pub poison-cleared : (c : ℕ) (o : OutboxState) → poison_on c (channel_cleared c o) ≡ o.poison
poison-cleared c o = ap (met o) (at-on_same c (λ _. None) o.errors) ∙ nothing (at_channel c o.errors)
  where
    nothing : (found : Option (Option Error)) → met o (option_map (λ _. None) found) ≡ o.poison
    nothing None = refl
    nothing (Some e) = refl

pub poison-others : (c d : ℕ) (e : Error) (o : OutboxState) → d ≢ c → (poison_on d (channel_poisoned c e o) ≡ poison_on d o) × (poison_on d (channel_cleared c o) ≡ poison_on d o)
poison-others c d e o apart =
    let away : c ≢ d = λ h. apart (sym h) in
    (ap (met o) (at-with c d (Some e) o.errors ∙ ap (λ b. cond b (Some (Some e)) (at_channel d o.errors)) (ne_eqb c d away)), ap (met o) (at-on_other c d (λ _. None) o.errors away))
