-- What a completed request records: that of a declare, bind, unbind or delete what it asked for (AMQP 0-9-1, classes exchange and
-- queue), as its answer is made. A queue is recorded under the name that the answer gives it, since the broker may have made the name.
-- Every other request records nothing.
use Rattle.std.specs.Prelude.{List, [], ◌∷◌}
use Rattle.lapin_methods.specs.declared.options.QueueDeclareOptions.{QueueDeclareOptions}
use Rattle.lapin_types.specs.declared.answer.Answer.{Answer}
use Rattle.lapin_types.specs.declared.answer.Answer.TheVariants as answer
use Rattle.lapin_types.specs.declared.request.Reply.{Reply}
use Rattle.lapin_types.specs.declared.request.Reply.TheVariants as reply
use Rattle.lapin_registry.specs.Marks.{Arguments, RegistryMark}
use Rattle.lapin_registry.specs.Marks as mark

-- what a completed queue.declare records: its options and arguments, under the name that the answer gives
abbrev pub queue_recorded : QueueDeclareOptions → Arguments → Answer → List RegistryMark
queue_recorded options arguments (answer.Queue queue) = mark.QueueDeclared queue.name options arguments ∷ []
queue_recorded options arguments _ = []

-- what a completed request records, by its reply: a declare, bind, unbind or delete what it asked for, any other nothing
abbrev pub recorded : Reply → Answer → List RegistryMark
recorded (reply.ExchangeDeclareOk name kind options arguments) a = mark.ExchangeDeclared name kind options arguments ∷ []
recorded (reply.ExchangeDeleteOk name) a = mark.ExchangeDeleted name ∷ []
recorded (reply.ExchangeBindOk destination source key arguments) a = mark.ExchangeBound destination source key arguments ∷ []
recorded (reply.ExchangeUnbindOk destination source key arguments) a = mark.ExchangeUnbound destination source key arguments ∷ []
recorded (reply.QueueDeclareOk options arguments) a = queue_recorded options arguments a
recorded (reply.QueueBindOk queue source key arguments) a = mark.QueueBound queue source key arguments ∷ []
recorded (reply.QueueUnbindOk queue source key arguments) a = mark.QueueUnbound queue source key arguments ∷ []
recorded (reply.QueueDeleteOk queue) a = mark.QueueDeleted queue ∷ []
recorded _ a = []
