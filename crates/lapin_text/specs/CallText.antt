-- The text of calls, written and read. A call's text is that of the method that it queues, and a publish is followed by its bytes and its
-- properties. Four calls have a text of their own: a close has its code and its text alone, a publish that may be refused has what a
-- publish has, behind a name that is no method's, and the limit of outstanding confirms has a number.
use Rattle.std.specs.Prelude.{ℕ, List, [], ◌∷◌, ◌++◌, codes, Option, Some, None, if◌then◌else◌}
use Rattle.std.specs.Str.{bytes_eq}
use Rattle.lapin_types.specs.Types.{Method}
use Rattle.lapin_types.specs.declared.call.Call.{Call}
use Rattle.lapin_types.specs.declared.call.Call.TheVariants as call
use Rattle.lapin_types.specs.Types.method
use Rattle.lapin_types.specs.Types.basic as basic_method
use Rattle.lapin_tokens.specs.Fields.{Field, Values, tokens, AllFit, short_number, wide_number}
use Rattle.lapin_tokens.specs.Fields.Field.{text, bytes, props, flag}
use Rattle.lapin_tokens.specs.Reading.{◌>>=◌, fields_at}
use Rattle.lapin_method_text.specs.Methods.{method_tokens, MethodFits}
use Rattle.lapin_method_text.specs.MethodReading.{method_at}
use Rattle.lapin_text.specs.Calls.{IsNamed, method_of, call_of}

-- ---- the tokens of a call

-- what the line of a close has: its code and its text
abbrev pub close_fields : List Field
close_fields = short_number ∷ text ∷ []

-- what follows the method of a publish: its bytes and its properties
abbrev pub content_fields : List Field
content_fields = bytes ∷ props ∷ []

-- what the line of a publish has: the fields of its method, and what follows them
abbrev pub publish_fields : List Field
publish_fields = text ∷ text ∷ flag ∷ flag ∷ content_fields

-- what the line of a limit has: how many confirms may be outstanding
abbrev pub limit_fields : List Field
limit_fields = wide_number ∷ []

-- the tokens of the method that a call queues; none where it queues no method
abbrev pub queued_tokens : Option Method → List (List ℕ)
queued_tokens None = []
queued_tokens (Some m) = method_tokens m

-- a call's name and the tokens of its arguments
abbrev pub call_tokens : Call → List (List ℕ)
call_tokens (call.ChannelClose reply_code reply_text) = codes "channel.close" ∷ tokens close_fields (reply_code, (reply_text, tt))
call_tokens (call.ConnectionClose reply_code reply_text) = codes "connection.close" ∷ tokens close_fields (reply_code, (reply_text, tt))
call_tokens (call.BasicPublish exchange routing_key options payload properties) =
    queued_tokens (method_of (call.BasicPublish exchange routing_key options payload properties)) ++ tokens content_fields (payload, (properties, tt))
call_tokens (call.TryBasicPublish exchange routing_key options payload properties) =
    codes "basic.try-publish" ∷ tokens publish_fields (exchange, (routing_key, (options.mandatory, (options.immediate, (payload, (properties, tt))))))
call_tokens (call.ConfirmLimit limit) = codes "confirm.limit" ∷ tokens limit_fields (limit, tt)
call_tokens c = queued_tokens (method_of c)

-- the method that a call queues has a text, and there is one
abbrev pub QueuedFits : Option Method → Type 0
QueuedFits None = ⊥
QueuedFits (Some m) = MethodFits m

-- the calls that have a text: each argument has a token, and the kind of an exchange is what its text stands for
abbrev pub CallFits : Call → Type 0
CallFits (call.ChannelClose reply_code reply_text) = AllFit close_fields (reply_code, (reply_text, tt))
CallFits (call.ConnectionClose reply_code reply_text) = AllFit close_fields (reply_code, (reply_text, tt))
CallFits (call.BasicPublish exchange routing_key options payload properties) =
    QueuedFits (method_of (call.BasicPublish exchange routing_key options payload properties)) × AllFit content_fields (payload, (properties, tt))
CallFits (call.TryBasicPublish exchange routing_key options payload properties) =
    AllFit publish_fields (exchange, (routing_key, (options.mandatory, (options.immediate, (payload, (properties, tt))))))
CallFits (call.ConfirmLimit limit) = AllFit limit_fields (limit, tt)
CallFits (call.ExchangeDeclare exchange kind options arguments) =
    QueuedFits (method_of (call.ExchangeDeclare exchange kind options arguments)) × IsNamed kind
CallFits c = QueuedFits (method_of c)

-- ---- reading a call from left to right: its name and the fields of its method, and then the call that queues this method

-- the call of a method that was read, a publish with what follows it
abbrev pub call_with : Method → List (List ℕ) → Option (Call × List (List ℕ))
call_with (method.Basic (basic_method.Publish exchange routing_key mandatory immediate)) pieces =
    fields_at content_fields (λ v. call.BasicPublish exchange routing_key (record { mandatory = mandatory; immediate = immediate }) v.0 v.1.0) pieces
call_with m pieces = call_of m >>= λ c. Some (c, pieces)

-- the plain publish, of the values of its line
abbrev pub publish_of : Values publish_fields → Call
publish_of v = call.BasicPublish v.0 v.1.0 (record { mandatory = v.1.1.0; immediate = v.1.1.1.0 }) v.1.1.1.1.0 v.1.1.1.1.1.0

-- the publish that may be refused, of the values of its line
abbrev pub try_publish_of : Values publish_fields → Call
try_publish_of v = call.TryBasicPublish v.0 v.1.0 (record { mandatory = v.1.1.0; immediate = v.1.1.1.0 }) v.1.1.1.1.0 v.1.1.1.1.1.0

-- the call of this name: one of those with a text of their own, else the one that queues the method of this name
unfoldable pub call_named : List ℕ → List (List ℕ) → Option (Call × List (List ℕ))
call_named name pieces =
    if bytes_eq name (codes "channel.close") then fields_at close_fields (λ v. call.ChannelClose v.0 v.1.0) pieces else
    if bytes_eq name (codes "connection.close") then fields_at close_fields (λ v. call.ConnectionClose v.0 v.1.0) pieces else
    if bytes_eq name (codes "basic.try-publish") then fields_at publish_fields try_publish_of pieces else
    if bytes_eq name (codes "confirm.limit") then fields_at limit_fields (λ v. call.ConfirmLimit v.0) pieces else
    (method_at (name ∷ pieces) >>= λ m. call_with m.0 m.1)

unfoldable pub call_at : List (List ℕ) → Option (Call × List (List ℕ))
call_at [] = None
call_at (name ∷ pieces) = call_named name pieces
