-- A frame that is read again: it has the same octets and can be written, and it is carried.
use Rattle.std.proofs.Common.{◌≡◌, ℕ, List, [], ◌∷◌, ◌++◌, Option, Some, None, refl, sym, ap, subst, arith}
use Rattle.lapin_values.specs.Data.{Data}
use Rattle.lapin_methods.specs.declared.frame.ContentHeader.{ContentHeader}
use Rattle.lapin_methods.specs.declared.frame.Frame.{Frame}
use Rattle.lapin_methods.specs.declared.frame.Frame.TheVariants as frame
use Rattle.lapin_methods.specs.declared.method.Method.{Method}
use Rattle.lapin_methods.specs.declared.method.Method.TheVariants as method
use Rattle.lapin_methods.specs.declared.exchange.ExchangeMethod.{ExchangeMethod}
use Rattle.lapin_methods.specs.declared.exchange.ExchangeMethod.TheVariants as exchange_method
use Rattle.lapin_methods.specs.declared.queue.QueueMethod.{QueueMethod}
use Rattle.lapin_methods.specs.declared.queue.QueueMethod.TheVariants as queue_method
use Rattle.lapin_methods.specs.declared.basic.BasicMethod.{BasicMethod}
use Rattle.lapin_methods.specs.declared.basic.BasicMethod.TheVariants as basic_method
use Rattle.lapin_fields.specs.Around.{around}
use Rattle.lapin_fields.specs.Fields.{short, text, counted, flags}
use Rattle.lapin_fields.specs.Fits.{StringFits, ValueFits, PairsFit}
use Rattle.lapin_fields.specs.Opaque.{carried, opaque, octets_by, table_octets, arguments_bytes, FitsBy, ArgumentsFit}
use Rattle.lapin_fields.specs.Values.{pairs_bytes}
use Rattle.lapin_fields.proofs.OpaqueLaws.{octets_again}
use Rattle.lapin_fields.proofs.ValueLaws.{table_long}
use Rattle.lapin_frames.specs.Carried.{exchange_arguments, queue_arguments, basic_arguments, ArgumentsCarried, MethodCarried, IsCarried, exchange_again, queue_again, basic_again, method_again, header_again, frame_again}
use Rattle.lapin_frames.specs.FrameFits.{ExchangeFits, QueueFits, BasicFits, MethodFits, FrameFits}
use Rattle.lapin_frames.specs.Frames.{bytes_of}
use Rattle.lapin_frames.specs.Headers.{header_bytes, header_front, properties_bytes}
use Rattle.lapin_frames.specs.Methods.{exchange_bytes, queue_bytes, basic_bytes, method_bytes}
use Rattle.lapin_frames.proofs.AgainLaws.{carried_again, list_fits, list_untouched}
use Rattle.lapin_clients.specs.Pieces.{IsReadAgain}

-- ---- its octets

table_same : (t : List (List ℕ × Data)) → arguments_bytes (opaque (table_octets t)) ≡ arguments_bytes t
table_same t = ap counted (octets_again (table_octets t))

exchange_same : (m : ExchangeMethod) → exchange_bytes (exchange_again m) ≡ exchange_bytes m
exchange_same (exchange_method.Declare exchange kind passive durable auto_delete internal nowait arguments) =
    ap (λ (os : List ℕ). short 10 ++ short 0 ++ text exchange ++ text kind ++ flags (passive ∷ durable ∷ auto_delete ∷ internal ∷ nowait ∷ []) ++ os) (table_same arguments)
exchange_same (exchange_method.Bind destination source routing_key nowait arguments) = ap (λ (os : List ℕ). short 30 ++ short 0 ++ text destination ++ text source ++ text routing_key ++ flags (nowait ∷ []) ++ os) (table_same arguments)
exchange_same (exchange_method.Unbind destination source routing_key nowait arguments) = ap (λ (os : List ℕ). short 40 ++ short 0 ++ text destination ++ text source ++ text routing_key ++ flags (nowait ∷ []) ++ os) (table_same arguments)
exchange_same _ = refl

queue_same : (m : QueueMethod) → queue_bytes (queue_again m) ≡ queue_bytes m
queue_same (queue_method.Declare queue passive durable exclusive auto_delete nowait arguments) =
    ap (λ (os : List ℕ). short 10 ++ short 0 ++ text queue ++ flags (passive ∷ durable ∷ exclusive ∷ auto_delete ∷ nowait ∷ []) ++ os) (table_same arguments)
queue_same (queue_method.Bind queue exchange routing_key nowait arguments) = ap (λ (os : List ℕ). short 20 ++ short 0 ++ text queue ++ text exchange ++ text routing_key ++ flags (nowait ∷ []) ++ os) (table_same arguments)
queue_same (queue_method.Unbind queue exchange routing_key arguments) = ap (λ (os : List ℕ). short 50 ++ short 0 ++ text queue ++ text exchange ++ text routing_key ++ os) (table_same arguments)
queue_same _ = refl

basic_same : (m : BasicMethod) → basic_bytes (basic_again m) ≡ basic_bytes m
basic_same (basic_method.Consume queue consumer_tag no_local no_ack exclusive nowait arguments) =
    ap (λ (os : List ℕ). short 20 ++ short 0 ++ text queue ++ text consumer_tag ++ flags (no_local ∷ no_ack ∷ exclusive ∷ nowait ∷ []) ++ os) (table_same arguments)
basic_same _ = refl

method_same : (m : Method) → method_bytes (method_again m) ≡ method_bytes m
method_same (method.Exchange m) = ap (λ (os : List ℕ). short 40 ++ os) (exchange_same m)
method_same (method.Queue m) = ap (λ (os : List ℕ). short 50 ++ os) (queue_same m)
method_same (method.Basic m) = ap (λ (os : List ℕ). short 60 ++ os) (basic_same m)
method_same _ = refl

header_same : (h : ContentHeader) → header_bytes (header_again h) ≡ header_bytes h
header_same h = ap (λ (os : List ℕ). header_front h ++ os) (list_untouched (properties_bytes h.properties))

pub bytes_again : (f : Frame) → bytes_of (frame_again f) ≡ bytes_of f
bytes_again (frame.Method channel m) = ap (around 1 channel) (method_same m)
bytes_again (frame.Header channel h) = ap (around 2 channel) (header_same h)
bytes_again (frame.Body channel payload) = refl

-- ---- it can be written

octets_fit : (o : Option (List ℕ)) (t : List (List ℕ × Data)) → FitsBy o t → StringFits (octets_by o t)
octets_fit (Some os) t fit = fit
octets_fit None t fit = table_long t fit

opaque_fits : (os : List ℕ) → StringFits os → ArgumentsFit (opaque os)
unfolding ValueFits PairsFit pairs_bytes
opaque_fits [] fit = (tt, refl, omega arith)
opaque_fits (o ∷ os) fit = fit

arguments_fit : (t : List (List ℕ × Data)) → ArgumentsFit t → ArgumentsFit (opaque (table_octets t))
arguments_fit t fit = opaque_fits (table_octets t) (octets_fit (carried t) t fit)

exchange_fits : (m : ExchangeMethod) → ExchangeFits m → ExchangeFits (exchange_again m)
exchange_fits (exchange_method.Declare exchange kind passive durable auto_delete internal nowait arguments) fit = (fit.0, fit.1, arguments_fit arguments fit.2)
exchange_fits (exchange_method.Bind destination source routing_key nowait arguments) fit = (fit.0, fit.1, fit.2, arguments_fit arguments fit.3)
exchange_fits (exchange_method.Unbind destination source routing_key nowait arguments) fit = (fit.0, fit.1, fit.2, arguments_fit arguments fit.3)
exchange_fits _ fit = fit

queue_fits : (m : QueueMethod) → QueueFits m → QueueFits (queue_again m)
queue_fits (queue_method.Declare queue passive durable exclusive auto_delete nowait arguments) fit = (fit.0, arguments_fit arguments fit.1)
queue_fits (queue_method.Bind queue exchange routing_key nowait arguments) fit = (fit.0, fit.1, fit.2, arguments_fit arguments fit.3)
queue_fits (queue_method.Unbind queue exchange routing_key arguments) fit = (fit.0, fit.1, fit.2, arguments_fit arguments fit.3)
queue_fits _ fit = fit

basic_fits : (m : BasicMethod) → BasicFits m → BasicFits (basic_again m)
basic_fits (basic_method.Consume queue consumer_tag no_local no_ack exclusive nowait arguments) fit = (fit.0, fit.1, arguments_fit arguments fit.2)
basic_fits _ fit = fit

method_fits : (m : Method) → MethodFits m → MethodFits (method_again m)
method_fits (method.Exchange m) fit = exchange_fits m fit
method_fits (method.Queue m) fit = queue_fits m fit
method_fits (method.Basic m) fit = basic_fits m fit
method_fits _ fit = fit

pub fits_again : (f : Frame) → FrameFits f → FrameFits (frame_again f)
fits_again (frame.Method channel m) fit = (fit.0, method_fits m fit.1, subst StringFits (sym (method_same m)) fit.2)
fits_again (frame.Header channel h) fit = (fit.0, (fit.1.0, fit.1.1, list_fits (properties_bytes h.properties)), subst StringFits (sym (header_same h)) fit.2)
fits_again (frame.Body channel payload) fit = fit

-- ---- it is carried

exchange_carried : (m : ExchangeMethod) → ArgumentsCarried (exchange_arguments (exchange_again m))
exchange_carried (exchange_method.Declare exchange kind passive durable auto_delete internal nowait arguments) = (table_octets arguments, refl)
exchange_carried (exchange_method.Bind destination source routing_key nowait arguments) = (table_octets arguments, refl)
exchange_carried (exchange_method.Unbind destination source routing_key nowait arguments) = (table_octets arguments, refl)
exchange_carried _ = tt

queue_carried : (m : QueueMethod) → ArgumentsCarried (queue_arguments (queue_again m))
queue_carried (queue_method.Declare queue passive durable exclusive auto_delete nowait arguments) = (table_octets arguments, refl)
queue_carried (queue_method.Bind queue exchange routing_key nowait arguments) = (table_octets arguments, refl)
queue_carried (queue_method.Unbind queue exchange routing_key arguments) = (table_octets arguments, refl)
queue_carried _ = tt

basic_carried : (m : BasicMethod) → ArgumentsCarried (basic_arguments (basic_again m))
basic_carried (basic_method.Consume queue consumer_tag no_local no_ack exclusive nowait arguments) = (table_octets arguments, refl)
basic_carried _ = tt

method_carried : (m : Method) → MethodCarried (method_again m)
method_carried (method.Exchange m) = exchange_carried m
method_carried (method.Queue m) = queue_carried m
method_carried (method.Basic m) = basic_carried m
method_carried _ = tt

pub again_carried : (f : Frame) → IsCarried (frame_again f)
again_carried (frame.Method channel m) = method_carried m
again_carried (frame.Header channel h) = (properties_bytes h.properties, refl)
again_carried (frame.Body channel payload) = tt

pub is_read_again : IsReadAgain
is_read_again f = (bytes_again f, fits_again f, again_carried f, carried_again f)
