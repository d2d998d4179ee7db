-- What comes from octets is carried: a content header's list of properties, and the table of a method's arguments, as the octets that they are.
use Rattle.std.specs.Prelude.{◌≡◌, ℕ, List, [], ◌∷◌, Option, Some, None, if◌then◌else◌, nat_eq}
use Rattle.std.specs.Cmp.Lexicographic.{pointwise}
use Rattle.lapin_values.specs.Data.{Data}
use Rattle.lapin_values.specs.Properties.{Properties, no_properties}
use Rattle.lapin_fields.specs.Opaque.{carrier, opaque, table_octets}
use Rattle.lapin_methods.specs.declared.frame.ContentHeader.{ContentHeader}
use Rattle.lapin_methods.specs.declared.frame.Frame.{Frame}
use Rattle.lapin_methods.specs.declared.frame.Frame.TheVariants as frame
use Rattle.lapin_methods.specs.declared.method.Method.{Method}
use Rattle.lapin_methods.specs.declared.method.Method.TheVariants as method
use Rattle.lapin_methods.specs.declared.exchange.ExchangeMethod.{ExchangeMethod}
use Rattle.lapin_methods.specs.declared.exchange.ExchangeMethod.TheVariants as exchange_method
use Rattle.lapin_methods.specs.declared.queue.QueueMethod.{QueueMethod}
use Rattle.lapin_methods.specs.declared.queue.QueueMethod.TheVariants as queue_method
use Rattle.lapin_methods.specs.declared.basic.BasicMethod.{BasicMethod}
use Rattle.lapin_methods.specs.declared.basic.BasicMethod.TheVariants as basic_method
use Rattle.lapin_frames.specs.Headers.{properties_bytes}

-- The properties that carry a list: its octets, flags and all, stand in the headers alone. The list of no property is that of properties of which
-- none is given, and these take no memory.
abbrev pub carrying : List ℕ → Properties
carrying list = if pointwise nat_eq list (0 ∷ 0 ∷ []) then no_properties else record no_properties { headers = Some (carrier list) }

-- ---- the table of a method's arguments, where it has one

-- of a method of the class exchange
abbrev pub exchange_arguments : ExchangeMethod → Option (List (List ℕ × Data))
exchange_arguments (exchange_method.Declare exchange kind passive durable auto_delete internal nowait arguments) = Some arguments
exchange_arguments (exchange_method.Bind destination source routing_key nowait arguments) = Some arguments
exchange_arguments (exchange_method.Unbind destination source routing_key nowait arguments) = Some arguments
exchange_arguments _ = None

-- of a method of the class queue
abbrev pub queue_arguments : QueueMethod → Option (List (List ℕ × Data))
queue_arguments (queue_method.Declare queue passive durable exclusive auto_delete nowait arguments) = Some arguments
queue_arguments (queue_method.Bind queue exchange routing_key nowait arguments) = Some arguments
queue_arguments (queue_method.Unbind queue exchange routing_key arguments) = Some arguments
queue_arguments _ = None

-- of a method of the class basic
abbrev pub basic_arguments : BasicMethod → Option (List (List ℕ × Data))
basic_arguments (basic_method.Consume queue consumer_tag no_local no_ack exclusive nowait arguments) = Some arguments
basic_arguments _ = None

-- of any method: those of the other classes have none
abbrev pub arguments_of : Method → Option (List (List ℕ × Data))
arguments_of (method.Exchange m) = exchange_arguments m
arguments_of (method.Queue m) = queue_arguments m
arguments_of (method.Basic m) = basic_arguments m
arguments_of _ = None

-- ---- which frames are carried

-- the table of arguments that octets are
abbrev pub IsOpaque : List (List ℕ × Data) → Type 0
IsOpaque t = (octets : List ℕ) × (t ≡ opaque octets)

-- there is no table of arguments, or one that carries octets
abbrev pub ArgumentsCarried : Option (List (List ℕ × Data)) → Type 0
ArgumentsCarried None = Unit {0}
ArgumentsCarried (Some t) = IsOpaque t

-- a method is as it comes from octets
abbrev pub MethodCarried : Method → Type 0
MethodCarried m = ArgumentsCarried (arguments_of m)

-- properties carry a list
abbrev pub PropertiesCarried : Properties → Type 0
PropertiesCarried p = (list : List ℕ) × (p ≡ carrying list)

-- a frame is as it comes from octets
abbrev pub IsCarried : Frame → Type 0
IsCarried (frame.Method channel m) = MethodCarried m
IsCarried (frame.Header channel h) = PropertiesCarried h.properties
IsCarried (frame.Body channel payload) = Unit {0}

-- ---- what is read of a frame that was written: it, but that its table and its properties carry what was written of them

-- a method of the class exchange
abbrev pub exchange_again : ExchangeMethod → ExchangeMethod
exchange_again (exchange_method.Declare exchange kind passive durable auto_delete internal nowait arguments) = exchange_method.Declare exchange kind passive durable auto_delete internal nowait (opaque (table_octets arguments))
exchange_again (exchange_method.Bind destination source routing_key nowait arguments) = exchange_method.Bind destination source routing_key nowait (opaque (table_octets arguments))
exchange_again (exchange_method.Unbind destination source routing_key nowait arguments) = exchange_method.Unbind destination source routing_key nowait (opaque (table_octets arguments))
exchange_again m = m

-- a method of the class queue
abbrev pub queue_again : QueueMethod → QueueMethod
queue_again (queue_method.Declare queue passive durable exclusive auto_delete nowait arguments) = queue_method.Declare queue passive durable exclusive auto_delete nowait (opaque (table_octets arguments))
queue_again (queue_method.Bind queue exchange routing_key nowait arguments) = queue_method.Bind queue exchange routing_key nowait (opaque (table_octets arguments))
queue_again (queue_method.Unbind queue exchange routing_key arguments) = queue_method.Unbind queue exchange routing_key (opaque (table_octets arguments))
queue_again m = m

-- a method of the class basic
abbrev pub basic_again : BasicMethod → BasicMethod
basic_again (basic_method.Consume queue consumer_tag no_local no_ack exclusive nowait arguments) = basic_method.Consume queue consumer_tag no_local no_ack exclusive nowait (opaque (table_octets arguments))
basic_again m = m

-- any method
abbrev pub method_again : Method → Method
method_again (method.Exchange m) = method.Exchange (exchange_again m)
method_again (method.Queue m) = method.Queue (queue_again m)
method_again (method.Basic m) = method.Basic (basic_again m)
method_again m = m

-- a content header: its properties carry the list that was written of them
abbrev pub header_again : ContentHeader → ContentHeader
header_again h = record h { properties = carrying (properties_bytes h.properties) }

-- a frame
abbrev pub frame_again : Frame → Frame
frame_again (frame.Method channel m) = frame.Method channel (method_again m)
frame_again (frame.Header channel h) = frame.Header channel (header_again h)
frame_again (frame.Body channel payload) = frame.Body channel payload
