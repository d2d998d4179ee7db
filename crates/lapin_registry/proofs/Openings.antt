-- What a request that is completed leaves of the registries of all channels.
use Rattle.std.proofs.Common.{◌≡◌, ℕ, Some, None, Result, Ok, Err, sym, ◌∙◌, ap}
use Rattle.std.specs.Prelude.{OnOk, OnErr}
use Rattle.lapin_tables.specs.ByChannel.{at_channel, on_channel}
use Rattle.lapin_tables.proofs.Channels.{on-known, on-same, on-absent}
use Rattle.lapin_types.specs.declared.answer.Answer.{Answer}
use Rattle.lapin_types.specs.declared.request.Reply.{Reply}
use Rattle.lapin_registry.specs.declared.registry.ChannelDefinition.{ChannelDefinition}
use Rattle.lapin_registry.specs.Topologies.{Topologies, with_completed, completed_on}

-- what follows where it went well, and where it failed
pub on-ok : {T E : Type 0} (r : Result T E) (P Q : Type 0) → (P → Q) → OnOk r P → OnOk r Q
on-ok (Ok x) P Q f h = f h
on-ok (Err e) P Q f h = tt

pub on-err : {T E : Type 0} (r : Result T E) (P Q : Type 0) → (P → Q) → OnErr r P → OnErr r Q
on-err (Ok x) P Q f h = tt
on-err (Err e) P Q f h = f h

module _ (c : ℕ) (all : Topologies) where
  module _ (r : Reply) (a : Answer) where
    -- the registry recorded what was completed
    pub recorded : (old new : ChannelDefinition) → Some old ≡ at_channel c all → new ≡ with_completed r a old → on_channel c (λ _. new) all ≡ completed_on c r a all
    recorded old new at is = ap (λ x. on_channel c (λ _. x) all) is ∙ sym (on-known c (with_completed r a) old all (sym at))

    -- there was no registry
    pub nowhere : None ≡ at_channel c all → all ≡ completed_on c r a all
    nowhere at = sym (on-absent c (with_completed r a) all (sym at))

  -- the registry stayed
  pub stayed : (old new : ChannelDefinition) → Some old ≡ at_channel c all → new ≡ old → on_channel c (λ _. new) all ≡ all
  stayed old new at is = ap (λ x. on_channel c (λ _. x) all) is ∙ on-same c old all (sym at)
