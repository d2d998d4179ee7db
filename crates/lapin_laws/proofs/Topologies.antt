-- The registries after the marks of a history are what the history says of each channel.
use Rattle.std.proofs.Common.{◌≡◌, ◌≢◌, ℕ, ◌==◌, true, false, cond, List, [], ◌∷◌, ◌++◌, zip, Option, Some, None, refl, sym, ◌∙◌, ap, inl, inr, ne_eqb, eq-eqb}
use Rattle.std.specs.List.{fold, list_any}
use Rattle.std.specs.Option.{option_map, option_or}
use Rattle.std.proofs.lemmas.Bool.Decides.{eqb_tells}
use Rattle.lapin_tables.specs.ByChannel.{at_channel}
use Rattle.lapin_tables.proofs.Channels.{at-push, at-on_same, at-on_other, or-none}
use Rattle.lapin_types.specs.declared.answer.Answer.{Answer}
use Rattle.lapin_types.specs.declared.event.Event.{Event}
use Rattle.lapin_types.specs.declared.request.Reply.{Reply}
use Rattle.lapin_registry.specs.declared.registry.ChannelDefinition.{ChannelDefinition}
use Rattle.lapin_registry.specs.Marks.{RegistryMark}
use Rattle.lapin_registry.specs.Completed.{recorded}
use Rattle.lapin_registry.specs.Topology.{empty_definition, after_mark as after_registry_mark, after_marks, topology}
use Rattle.lapin_registry.specs.Topologies.{Topologies, with_completed, completed_on, emptied, begun_at, begun_on}
use Rattle.lapin_delivery.specs.Deliveries.{Deliveries, empty_deliveries, topologies_after}
use Rattle.lapin_delivery.specs.Marks.{DeliveryMark}
use Rattle.lapin_delivery.specs.Marks as deliveries
use Rattle.lapin_delivery.proofs.Histories.{registries-follow}
use Rattle.lapin_rules.specs.History.{run}
use Rattle.lapin_rules.specs.Words.{since}
use Rattle.lapin_laws.specs.Consumers.{deliveries_history}
use Rattle.lapin_laws.specs.Registry.{opens_on, recorded_on, all_recorded_on, topology_of}
use Rattle.lapin_laws.specs.Runs.{world_after}
use Rattle.lapin_laws.proofs.Subscriptions.{deliveries_after}

-- ---- an opening begins

begun-same : (c : ℕ) (t : Topologies) → at_channel c (begun_on c t) ≡ Some empty_definition
begun-same c t = elim (at_channel c t) as (λ o. at_channel c t ≡ o → at_channel c (begun_at o c t) ≡ Some empty_definition) [
  | None ↦ λ e. at-push c c empty_definition t ∙ rw (e, eq-eqb c c refl) refl
  | Some d ↦ λ e. at-on_same c emptied t ∙ ap (option_map emptied) e
] refl

begun-other : (d c : ℕ) (t : Topologies) → d ≢ c → at_channel c (begun_on d t) ≡ at_channel c t
begun-other d c t apart = elim (at_channel d t) as (λ o. at_channel c (begun_at o d t) ≡ at_channel c t) [
  | None ↦ at-push d c empty_definition t ∙ ap (λ b. option_or (at_channel c t) (cond b (Some empty_definition) None)) (ne_eqb d c apart) ∙ or-none (at_channel c t)
  | Some x ↦ at-on_other d c emptied t apart
]

-- ---- the reading, from what the channel had before

after-join : (d : ChannelDefinition) (ms ns : List RegistryMark) → after_marks d (ms ++ ns) ≡ after_marks (after_marks d ms) ns
after-join d [] ns = refl
after-join d (m ∷ ms) ns = after-join (after_registry_mark d m) ms ns

module _ (c : ℕ) where
  abbrev later : List DeliveryMark → ChannelDefinition
  later ms = topology (all_recorded_on c (since (opens_on c) ms))

  abbrev reading : Option ChannelDefinition → List DeliveryMark → Option ChannelDefinition
  reading o ms = cond (list_any (opens_on c) ms) (Some (later ms)) (option_map (λ d. after_marks d (all_recorded_on c ms)) o)

  -- a mark that is nothing to the channel
  passed : (m : DeliveryMark) (ms : List DeliveryMark) (o : Option ChannelDefinition) → opens_on c m ≡ false → recorded_on c m ≡ [] → reading o ms ≡ reading o (m ∷ ms)
  passed m ms o shut none = rw (shut, none) (elim (list_any (opens_on c) ms) as (λ b. cond b (Some (later ms)) (option_map (λ d. after_marks d (all_recorded_on c ms)) o) ≡ cond b (Some (topology (all_recorded_on c (cond b (since (opens_on c) ms) [])))) (option_map (λ d. after_marks d (all_recorded_on c ms)) o)) [ true ↦ refl | false ↦ refl ])

  -- its opening begins
  opened : (m : DeliveryMark) (ms : List DeliveryMark) (o : Option ChannelDefinition) → opens_on c m ≡ true → reading (Some empty_definition) ms ≡ reading o (m ∷ ms)
  opened m ms o opens = rw opens (elim (list_any (opens_on c) ms) as (λ b. cond b (Some (later ms)) (Some (after_marks empty_definition (all_recorded_on c ms))) ≡ Some (topology (all_recorded_on c (cond b (since (opens_on c) ms) ms)))) [ true ↦ refl | false ↦ refl ])

  joined : (rs : List RegistryMark) (o : Option ChannelDefinition) (ms : List DeliveryMark) → option_map (λ d. after_marks d (all_recorded_on c ms)) (option_map (λ d. after_marks d rs) o) ≡ option_map (λ d. after_marks d (rs ++ all_recorded_on c ms)) o
  joined rs None ms = refl
  joined rs (Some d) ms = ap Some (sym (after-join d rs (all_recorded_on c ms)))

  -- a request of its is completed
  completed : (d : ℕ) (r : Reply) (a : Answer) (ms : List DeliveryMark) (o : Option ChannelDefinition) → (d == c) ≡ true → reading (option_map (with_completed r a) o) ms ≡ reading o (deliveries.Completed d r a ∷ ms)
  completed d r a ms o here = rw here (elim (list_any (opens_on c) ms) as (λ b. cond b (Some (later ms)) (option_map (λ d. after_marks d (all_recorded_on c ms)) (option_map (with_completed r a) o)) ≡ cond b (Some (topology (all_recorded_on c (cond b (since (opens_on c) ms) [])))) (option_map (λ d. after_marks d (recorded r a ++ all_recorded_on c ms)) o)) [ true ↦ refl | false ↦ joined (recorded r a) o ms ])

  step : (m : DeliveryMark) (t : Topologies) (ms : List DeliveryMark) → reading (at_channel c (topologies_after t m)) ms ≡ reading (at_channel c t) (m ∷ ms)
  step (deliveries.Opened d) t ms = elim (eqb_tells d c) [
    | inl same ↦ ap (λ k. reading (at_channel c (begun_on k t)) ms) same.1 ∙ ap (λ o. reading o ms) (begun-same c t) ∙ opened (deliveries.Opened d) ms (at_channel c t) same.0
    | inr other ↦ ap (λ o. reading o ms) (begun-other d c t other.1) ∙ passed (deliveries.Opened d) ms (at_channel c t) other.0 refl
  ]
  step (deliveries.Completed d r a) t ms = elim (eqb_tells d c) [
    | inl same ↦ ap (λ k. reading (at_channel c (completed_on k r a t)) ms) same.1 ∙ ap (λ o. reading o ms) (at-on_same c (with_completed r a) t) ∙ completed d r a ms (at_channel c t) same.0
    | inr other ↦ ap (λ o. reading o ms) (at-on_other d c (with_completed r a) t other.1) ∙ passed (deliveries.Completed d r a) ms (at_channel c t) refl (rw other.0 refl)
  ]
  step m t ms = passed m ms (at_channel c t) refl refl

  kept : (o : Option ChannelDefinition) → o ≡ option_map (λ d. after_marks d []) o
  kept None = refl
  kept (Some d) = refl

  reads : (t : Topologies) (ms : List DeliveryMark) → at_channel c (fold topologies_after t ms) ≡ reading (at_channel c t) ms
  reads t [] = kept (at_channel c t)
  reads t (m ∷ ms) = reads (topologies_after t m) ms ∙ step m t ms

-- ---- after every list of events

pub topology_after : (n : ℕ) (es : List Event) (c : ℕ) → at_channel c (world_after n es).wire.deliveries.topologies ≡ topology_of c (deliveries_history n (zip es (run n es)))
topology_after n es c = ap (λ (i : Deliveries). at_channel c i.topologies) (deliveries_after n es) ∙ ap (at_channel c) (registries-follow empty_deliveries (deliveries_history n (zip es (run n es)))) ∙ reads c [] (deliveries_history n (zip es (run n es)))
