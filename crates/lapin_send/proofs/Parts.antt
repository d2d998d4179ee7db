-- The parts of a session and the session: they may move to another thread.
use denote.Param.Send.{IsSend, recorded_send, sendable}
use Rattle.std.proofs.Crossing.{crosses}
use Rattle.std.proofs.MapsCrossing as maps
use Rattle.lapin_values.proofs.payload.Payload.TheSendSync as payload
use Rattle.lapin_send.proofs.Types.{text_send, table_send, method_field_send, header_field_send, publish_field_send, left_field_send, request_field_send, answer_send, returned_send, properties_send, delivery_send, job_send}
use Rattle.lapin_outbox.specs.contracts.order.Order as order_
use Rattle.lapin_outbox.specs.contracts.queues.Waiting as waiting_
use Rattle.lapin_outbox.specs.contracts.begun.Begun as begun_
use Rattle.lapin_outbox.specs.contracts.queues.Queues as queues_
use Rattle.lapin_outbox.specs.contracts.outbox.Outbox as outbox_
use Rattle.lapin_outbox.specs.contracts.requests.Requests as requests_
use Rattle.lapin_outbox.specs.contracts.replies.Replies as replies_
use Rattle.lapin_ticket.specs.contracts.Slot as slot_
use Rattle.lapin_ticket.specs.contracts.given.Given as given_
use Rattle.lapin_ticket.specs.contracts.Tickets as tickets_
use Rattle.lapin_confirm.specs.contracts.lists.Lists as lists_
use Rattle.lapin_confirm.specs.contracts.returned.Returned as returned_messages_
use Rattle.lapin_confirm.specs.contracts.confirms.Confirms as confirms_
use Rattle.lapin_content.specs.contracts.entry.Entry as entry_
use Rattle.lapin_content.specs.contracts.contents.Contents as contents_
use Rattle.lapin_acker.specs.contracts.switches.Switches as switches_
use Rattle.lapin_consumer.specs.contracts.seat.Seat as seat_
use Rattle.lapin_consumer.specs.contracts.hall.Hall as hall_
use Rattle.lapin_consumer.specs.contracts.line.Line as line_
use Rattle.lapin_consumer.specs.contracts.consumers.Consumers as consumers_
use Rattle.lapin_registry.specs.contracts.bindings.BindingDefinition as binding_
use Rattle.lapin_registry.specs.contracts.bindings.Bindings as bindings_
use Rattle.lapin_registry.specs.contracts.exchanges.ExchangeDefinition as exchange_
use Rattle.lapin_registry.specs.contracts.queues.QueueDefinition as queue_
use Rattle.lapin_registry.specs.contracts.registry.ChannelDefinition as definition_
use Rattle.lapin_registry.specs.contracts.registry.Registry as registry_
use Rattle.lapin_registry.specs.contracts.topologies.Topologies as topologies_
use Rattle.lapin_delivery.specs.contracts.deliveries.Deliveries as deliveries_
use Rattle.lapin_outstanding.specs.contracts.outstanding.Outstanding as outstanding_
use Rattle.lapin_phases.specs.contracts.Phases as phases_
use Rattle.lapin_machine.specs.contracts.session.Session as session_

pub order_send : IsSend order_.the_row
order_send = search (maps.crosses, crosses, sendable) depth 400 fits 200000

pub waiting_field_send : IsSend (waiting_.the_field).row
waiting_field_send = search (method_field_send, crosses, sendable) depth 400 fits 200000

pub begun_send : IsSend begun_.the_row
begun_send = search (header_field_send, payload.the_send, crosses, sendable) depth 400 fits 200000

pub queues_send : IsSend queues_.the_row
queues_send = search (order_send, waiting_field_send, begun_send, publish_field_send, crosses, sendable) depth 400 fits 200000

pub outbox_send : IsSend outbox_.the_row
outbox_send = search (queues_send, left_field_send, crosses, sendable) depth 400 fits 200000

pub requests_send : IsSend requests_.the_row
requests_send = search (order_send, request_field_send, crosses, sendable) depth 400 fits 200000

pub replies_send : IsSend replies_.the_row
replies_send = search (requests_send, maps.crosses, crosses, sendable) depth 400 fits 200000

pub slot_field_send : IsSend (slot_.the_field).row
slot_field_send = search (answer_send, crosses, sendable) depth 400 fits 200000

pub given_send : IsSend given_.the_row
given_send = search (crosses, sendable) depth 400 fits 200000

pub tickets_send : IsSend tickets_.the_row
tickets_send = search (slot_field_send, given_send, crosses, sendable) depth 400 fits 200000

pub lists_send : IsSend lists_.the_row
lists_send = search (returned_send, crosses, sendable) depth 400 fits 200000

pub returned_messages_send : IsSend returned_messages_.the_row
returned_messages_send = search (lists_send, crosses, sendable) depth 400 fits 200000

pub confirms_send : IsSend confirms_.the_row
confirms_send = search (returned_messages_send, returned_send, crosses, sendable) depth 400 fits 200000

pub entry_send : IsSend entry_.the_row
entry_send = search (properties_send, text_send, crosses, sendable) depth 400 fits 200000

pub contents_send : IsSend contents_.the_row
contents_send = search (entry_send, crosses, sendable) depth 400 fits 200000

pub switches_send : IsSend switches_.the_row
switches_send = search (crosses, sendable) depth 400 fits 200000

pub seat_send : IsSend seat_.the_row
seat_send = search (delivery_send, text_send, crosses, sendable) depth 400 fits 200000

pub hall_send : IsSend hall_.the_row
hall_send = search (seat_send, job_send, crosses, sendable) depth 400 fits 200000

pub line_send : IsSend line_.the_row
line_send = search (maps.crosses, crosses, sendable) depth 400 fits 200000

pub consumers_send : IsSend consumers_.the_row
consumers_send = search (hall_send, line_send, crosses, sendable) depth 400 fits 200000

pub binding_field_send : IsSend (binding_.the_field).row
binding_field_send = search (table_send, text_send, crosses, sendable) depth 400 fits 200000

pub binding_send : IsSend binding_.the_row
binding_send = recorded_send (binding_.the_field).row _ _ (binding_.the_type).to_one binding_field_send

pub bindings_send : IsSend bindings_.the_row
bindings_send = search (binding_send, crosses, sendable) depth 400 fits 200000

pub exchange_field_send : IsSend (exchange_.the_field).row
exchange_field_send = search (bindings_send, table_send, text_send, crosses, sendable) depth 400 fits 200000

pub exchange_send : IsSend exchange_.the_row
exchange_send = recorded_send (exchange_.the_field).row _ _ (exchange_.the_type).to_one exchange_field_send

pub queue_field_send : IsSend (queue_.the_field).row
queue_field_send = search (bindings_send, table_send, text_send, crosses, sendable) depth 400 fits 200000

pub queue_send : IsSend queue_.the_row
queue_send = recorded_send (queue_.the_field).row _ _ (queue_.the_type).to_one queue_field_send

pub definition_field_send : IsSend (definition_.the_field).row
definition_field_send = search (exchange_send, queue_send, crosses, sendable) depth 400 fits 200000

pub registry_send : IsSend registry_.the_row
registry_send = search (definition_field_send, crosses, sendable) depth 400 fits 200000

pub topologies_send : IsSend topologies_.the_row
topologies_send = search (registry_send, crosses, sendable) depth 400 fits 200000

pub deliveries_field_send : IsSend (deliveries_.the_field).row
deliveries_field_send = search (consumers_send, switches_send, topologies_send, crosses, sendable) depth 400 fits 200000

pub outstanding_field_send : IsSend (outstanding_.the_field).row
outstanding_field_send = search (outbox_send, replies_send, tickets_send, crosses, sendable) depth 400 fits 200000

pub phases_send : IsSend phases_.the_row
phases_send = search (crosses, sendable) depth 400 fits 200000

pub session_send : IsSend session_.the_row
session_send = search (phases_send, outstanding_field_send, confirms_send, contents_send, deliveries_field_send, crosses, sendable) depth 400 fits 200000
