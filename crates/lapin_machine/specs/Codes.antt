-- How the value of a session is stored as tuples of its fields, by which a proof tells two of them apart. No clause cites this.
use Rattle.std.specs.Prelude.{ℕ, List, Option, refl}
use Rattle.std.specs.Coded.{Coded, code_by, coded×, coded_ℕ, coded_list, coded_option}
use Rattle.lapin_types.specs.declared.leaving.Publish.{Publish}
use Rattle.lapin_types.specs.declared.request.Request.{Request}
use Rattle.lapin_rules.specs.declared.phases.ChannelPhase.{ChannelPhase}
use Rattle.lapin_rules.specs.declared.phases.ConnectionPhase.{ConnectionPhase}
use Rattle.lapin_rules.specs.contracts.phases.ChannelPhase as phase_row
use Rattle.lapin_rules.specs.contracts.phases.ConnectionPhase as link_row
use Rattle.lapin_types.specs.contracts.leaving.Publish as publish_row
use Rattle.lapin_types.specs.declared.leaving.Left.{Left}
use Rattle.lapin_types.specs.contracts.leaving.Left as left_row
use Rattle.lapin_types.specs.contracts.request.Request as request_row
use Rattle.lapin_acker.specs.declared.switch.Switch.{Switch}
use Rattle.lapin_acker.specs.contracts.switch.Switch as switch_row
use Rattle.lapin_consumer.specs.Subscriptions.{Subscriptions}
use Rattle.lapin_consumer.specs.Codes.{subscriptions_code}
use Rattle.lapin_registry.specs.contracts.registry.ChannelDefinition as definition_row
use Rattle.lapin_registry.specs.Topologies.{Topologies}
use Rattle.lapin_delivery.specs.Deliveries.{Deliveries}
use Rattle.lapin_confirm.specs.Codes.{confirm_state_code}
use Rattle.lapin_content.specs.Channels.{Channels}
use Rattle.lapin_content.specs.Codes.{channels_code}
use Rattle.lapin_ticket.specs.contracts.Slot as slot_row
use Rattle.lapin_rules.specs.Frames.{MethodEntry, RestEntry}
use Rattle.lapin_rules.specs.Wire.{Wire}
use Rattle.lapin_outbox.specs.Codes.{rest_entry_code, method_entry_code}
use Rattle.lapin_confirm.specs.ConfirmState.{ConfirmState}
use Rattle.lapin_ticket.specs.declared.Slot.{Slot}
use Rattle.lapin_machine.specs.World.{World}

-- the consumers with their jobs, the ackers, and what each channel declared
abbrev pub deliveries_code : Coded Deliveries
deliveries_code =
    code_by
    (Subscriptions × (List Switch × Topologies))
    (coded× subscriptions_code (coded× (coded_list switch_row.the_row.coded) (coded_list (coded× coded_ℕ definition_row.the_row.coded))))
    (λ i. (i.subscriptions, (i.switches, i.topologies)))
    (λ p. record { subscriptions = p.0; switches = p.1.0; topologies = p.1.1 })
    (λ _. refl)

-- states, lists, requests, contents and counters, with the deliveries
abbrev pub base_code : Coded Wire
base_code =
    code_by
    (ℕ × (ConnectionPhase × (List (ℕ × ChannelPhase) × (List RestEntry × (List MethodEntry × (List Publish × (List (ℕ × List Request) × (Channels × (ℕ × (ℕ × Deliveries))))))))))
    (coded× coded_ℕ (coded× link_row.the_row.coded (coded× (coded_list (coded× coded_ℕ phase_row.the_row.coded)) (coded× (coded_list rest_entry_code) (coded× (coded_list method_entry_code) (coded× (coded_list publish_row.the_row.coded) (coded× (coded_list (coded× coded_ℕ (coded_list request_row.the_row.coded))) (coded× channels_code (coded× coded_ℕ (coded× coded_ℕ deliveries_code))))))))))
    (λ b. (b.frame_max, (b.link, (b.phases, (b.rest, (b.methods, (b.publishes, (b.requests, (b.contents, (b.tickets, (b.published, b.deliveries)))))))))))
    (λ p. record { frame_max = p.0; link = p.1.0; phases = p.1.1.0; rest = p.1.1.1.0; methods = p.1.1.1.1.0; publishes = p.1.1.1.1.1.0; requests = p.1.1.1.1.1.1.0; contents = p.1.1.1.1.1.1.1.0; tickets = p.1.1.1.1.1.1.1.1.0; published = p.1.1.1.1.1.1.1.1.1.0; deliveries = p.1.1.1.1.1.1.1.1.1.1 })
    (λ _. refl)

-- the whole value of a session
abbrev pub world_code : Coded World
world_code =
    code_by
    (Wire × (ConfirmState × (List (Option Slot) × Option Left)))
    (coded× base_code (coded× confirm_state_code (coded× (coded_list (coded_option slot_row.the_row.coded)) (coded_option left_row.the_row.coded))))
    (λ w. (w.wire, (w.confirm_state, (w.slots, w.returned))))
    (λ p. record { wire = p.0; confirm_state = p.1.0; slots = p.1.1.0; returned = p.1.1.1 })
    (λ _. refl)
