-- The values that events and records hold, from tables up: which of them may cross threads.
use denote.Param.Send.{IsSend, IsSync, recorded_send, recorded_sync, sendable}
use Rattle.std.proofs.Crossing.{crosses}
pub use Rattle.lapin_values.proofs.Crosses.{text_send, text_sync, table_send, table_sync, properties_send, properties_sync}
use Rattle.lapin_values.proofs.payload.Payload.TheSendSync as payload
use Rattle.lapin_methods.specs.contracts.frame.ContentHeader as header_
use Rattle.lapin_methods.specs.contracts.basic.BasicMethod as basic_
use Rattle.lapin_methods.specs.contracts.queue.QueueMethod as queue_
use Rattle.lapin_methods.specs.contracts.exchange.ExchangeMethod as exchange_
use Rattle.lapin_methods.specs.contracts.method.Method as method_
use Rattle.lapin_methods.specs.contracts.frame.Frame as frame_
use Rattle.lapin_types.specs.contracts.call.Call as call_
use Rattle.lapin_types.specs.contracts.message.Delivery as delivery_
use Rattle.lapin_types.specs.contracts.message.BasicReturnMessage as returned_
use Rattle.lapin_types.specs.contracts.returned.ReturnedList as list_
use Rattle.lapin_types.specs.contracts.message.BasicGetMessage as got_
use Rattle.lapin_types.specs.contracts.confirmation.Confirmation as confirmation_
use Rattle.lapin_types.specs.contracts.answer.Answer as answer_
use Rattle.lapin_types.specs.contracts.event.Event as event_
use Rattle.lapin_types.specs.contracts.job.JobKind as kind_
use Rattle.lapin_types.specs.contracts.job.Job as job_
use Rattle.lapin_types.specs.contracts.record.Record as record_
use Rattle.lapin_types.specs.contracts.leaving.Left as left_
use Rattle.lapin_types.specs.contracts.leaving.Publish as publish_
use Rattle.lapin_types.specs.contracts.request.Reply as reply_
use Rattle.lapin_types.specs.contracts.request.Request as request_

pub header_field_send : IsSend (header_.the_field).row
header_field_send = search (properties_send, crosses, sendable) depth 400 fits 200000

pub header_field_sync : IsSync (header_.the_field).row
header_field_sync = search (properties_sync, crosses, sendable) depth 400 fits 200000

pub basic_field_send : IsSend (basic_.the_field).row
basic_field_send = search (table_send, text_send, crosses, sendable) depth 400 fits 200000

pub basic_field_sync : IsSync (basic_.the_field).row
basic_field_sync = search (table_sync, text_sync, crosses, sendable) depth 400 fits 200000

pub queue_field_send : IsSend (queue_.the_field).row
queue_field_send = search (table_send, text_send, crosses, sendable) depth 400 fits 200000

pub queue_field_sync : IsSync (queue_.the_field).row
queue_field_sync = search (table_sync, text_sync, crosses, sendable) depth 400 fits 200000

pub exchange_field_send : IsSend (exchange_.the_field).row
exchange_field_send = search (table_send, text_send, crosses, sendable) depth 400 fits 200000

pub exchange_field_sync : IsSync (exchange_.the_field).row
exchange_field_sync = search (table_sync, text_sync, crosses, sendable) depth 400 fits 200000

pub method_field_send : IsSend (method_.the_field).row
method_field_send = search (basic_field_send, queue_field_send, exchange_field_send, text_send, crosses, sendable) depth 400 fits 200000

pub method_field_sync : IsSync (method_.the_field).row
method_field_sync = search (basic_field_sync, queue_field_sync, exchange_field_sync, text_sync, crosses, sendable) depth 400 fits 200000

pub frame_field_send : IsSend (frame_.the_field).row
frame_field_send = search (method_field_send, header_field_send, payload.the_send, crosses, sendable) depth 400 fits 200000

pub frame_field_sync : IsSync (frame_.the_field).row
frame_field_sync = search (method_field_sync, header_field_sync, payload.the_sync, crosses, sendable) depth 400 fits 200000

pub call_field_send : IsSend (call_.the_field).row
call_field_send = search (table_send, properties_send, text_send, payload.the_send, crosses, sendable) depth 400 fits 200000

pub call_field_sync : IsSync (call_.the_field).row
call_field_sync = search (table_sync, properties_sync, text_sync, payload.the_sync, crosses, sendable) depth 400 fits 200000

pub delivery_field_send : IsSend (delivery_.the_field).row
delivery_field_send = search (properties_send, text_send, payload.the_send, crosses, sendable) depth 400 fits 200000

pub delivery_send : IsSend delivery_.the_row
delivery_send = recorded_send (delivery_.the_field).row _ _ (delivery_.the_type).to_one delivery_field_send

pub delivery_field_sync : IsSync (delivery_.the_field).row
delivery_field_sync = search (properties_sync, text_sync, payload.the_sync, crosses, sendable) depth 400 fits 200000

pub delivery_sync : IsSync delivery_.the_row
delivery_sync = recorded_sync (delivery_.the_field).row _ _ (delivery_.the_type).to_one delivery_field_sync

pub returned_field_send : IsSend (returned_.the_field).row
returned_field_send = search (delivery_field_send, text_send, crosses, sendable) depth 400 fits 200000

pub returned_send : IsSend returned_.the_row
returned_send = recorded_send (returned_.the_field).row _ _ (returned_.the_type).to_one returned_field_send

pub returned_field_sync : IsSync (returned_.the_field).row
returned_field_sync = search (delivery_field_sync, text_sync, crosses, sendable) depth 400 fits 200000

pub returned_sync : IsSync returned_.the_row
returned_sync = recorded_sync (returned_.the_field).row _ _ (returned_.the_type).to_one returned_field_sync

pub list_send : IsSend list_.the_row
list_send = search (returned_send, crosses, sendable) depth 400 fits 200000

pub list_sync : IsSync list_.the_row
list_sync = search (returned_sync, crosses, sendable) depth 400 fits 200000

pub got_field_send : IsSend (got_.the_field).row
got_field_send = search (delivery_field_send, crosses, sendable) depth 400 fits 200000

pub got_send : IsSend got_.the_row
got_send = recorded_send (got_.the_field).row _ _ (got_.the_type).to_one got_field_send

pub got_field_sync : IsSync (got_.the_field).row
got_field_sync = search (delivery_field_sync, crosses, sendable) depth 400 fits 200000

pub got_sync : IsSync got_.the_row
got_sync = recorded_sync (got_.the_field).row _ _ (got_.the_type).to_one got_field_sync

pub confirmation_field_send : IsSend (confirmation_.the_field).row
confirmation_field_send = search (returned_send, crosses, sendable) depth 400 fits 200000

pub confirmation_send : IsSend confirmation_.the_row
confirmation_send = recorded_send (confirmation_.the_field).row _ _ (confirmation_.the_type).to_one confirmation_field_send

pub confirmation_field_sync : IsSync (confirmation_.the_field).row
confirmation_field_sync = search (returned_sync, crosses, sendable) depth 400 fits 200000

pub confirmation_sync : IsSync confirmation_.the_row
confirmation_sync = recorded_sync (confirmation_.the_field).row _ _ (confirmation_.the_type).to_one confirmation_field_sync

pub answer_field_send : IsSend (answer_.the_field).row
answer_field_send = search (got_send, text_send, crosses, sendable) depth 400 fits 200000

pub answer_send : IsSend answer_.the_row
answer_send = recorded_send (answer_.the_field).row _ _ (answer_.the_type).to_one answer_field_send

pub answer_field_sync : IsSync (answer_.the_field).row
answer_field_sync = search (got_sync, text_sync, crosses, sendable) depth 400 fits 200000

pub answer_sync : IsSync answer_.the_row
answer_sync = recorded_sync (answer_.the_field).row _ _ (answer_.the_type).to_one answer_field_sync

pub kind_field_send : IsSend (kind_.the_field).row
kind_field_send = search (delivery_send, crosses, sendable) depth 400 fits 200000

pub kind_field_sync : IsSync (kind_.the_field).row
kind_field_sync = search (delivery_sync, crosses, sendable) depth 400 fits 200000

pub job_field_send : IsSend (job_.the_field).row
job_field_send = search (kind_field_send, crosses, sendable) depth 400 fits 200000

pub job_field_sync : IsSync (job_.the_field).row
job_field_sync = search (kind_field_sync, crosses, sendable) depth 400 fits 200000

pub job_send : IsSend job_.the_row
job_send = recorded_send (job_.the_field).row _ _ (job_.the_type).to_one job_field_send

pub event_field_send : IsSend (event_.the_field).row
event_field_send = search (call_field_send, frame_field_send, crosses, sendable) depth 400 fits 200000

pub event_send : IsSend event_.the_row
event_send = recorded_send (event_.the_field).row _ _ (event_.the_type).to_one event_field_send

pub event_field_sync : IsSync (event_.the_field).row
event_field_sync = search (call_field_sync, frame_field_sync, crosses, sendable) depth 400 fits 200000

pub event_sync : IsSync event_.the_row
event_sync = recorded_sync (event_.the_field).row _ _ (event_.the_type).to_one event_field_sync

pub record_field_send : IsSend (record_.the_field).row
record_field_send = search (frame_field_send, answer_send, confirmation_send, delivery_send, job_field_send, list_send, crosses, sendable) depth 400 fits 200000

pub record_send : IsSend record_.the_row
record_send = recorded_send (record_.the_field).row _ _ (record_.the_type).to_one record_field_send

pub record_field_sync : IsSync (record_.the_field).row
record_field_sync = search (frame_field_sync, answer_sync, confirmation_sync, delivery_sync, job_field_sync, list_sync, crosses, sendable) depth 400 fits 200000

pub left_field_send : IsSend (left_.the_field).row
left_field_send = search (frame_field_send, crosses, sendable) depth 400 fits 200000

pub publish_field_send : IsSend (publish_.the_field).row
publish_field_send = search (properties_send, text_send, payload.the_send, crosses, sendable) depth 400 fits 200000

pub reply_field_send : IsSend (reply_.the_field).row
reply_field_send = search (table_send, text_send, crosses, sendable) depth 400 fits 200000

pub request_field_send : IsSend (request_.the_field).row
request_field_send = search (reply_field_send, crosses, sendable) depth 400 fits 200000
