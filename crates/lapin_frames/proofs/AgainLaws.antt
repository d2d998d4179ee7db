-- What is carried is read again as itself.
use Rattle.std.proofs.Common.{◌≡◌, ℕ, Bool, true, false, cond, List, [], ◌∷◌, Some, refl, sym, ap, ◌∙◌}
use Rattle.std.specs.Prelude.{nat_eq}
use Rattle.std.specs.Cmp.Lexicographic.{pointwise, bytes_decides}
use Rattle.lapin_values.specs.Data.{Data}
use Rattle.lapin_values.specs.Properties.{Properties, no_properties}
use Rattle.lapin_methods.specs.declared.frame.Frame.{Frame}
use Rattle.lapin_methods.specs.declared.frame.Frame.TheVariants as frame
use Rattle.lapin_methods.specs.declared.method.Method.{Method}
use Rattle.lapin_methods.specs.declared.method.Method.TheVariants as method
use Rattle.lapin_methods.specs.declared.exchange.ExchangeMethod.{ExchangeMethod}
use Rattle.lapin_methods.specs.declared.exchange.ExchangeMethod.TheVariants as exchange_method
use Rattle.lapin_methods.specs.declared.queue.QueueMethod.{QueueMethod}
use Rattle.lapin_methods.specs.declared.queue.QueueMethod.TheVariants as queue_method
use Rattle.lapin_methods.specs.declared.basic.BasicMethod.{BasicMethod}
use Rattle.lapin_methods.specs.declared.basic.BasicMethod.TheVariants as basic_method
use Rattle.lapin_fields.specs.Opaque.{carrier, opaque, table_octets}
use Rattle.lapin_fields.proofs.OpaqueLaws.{octets_again}
use Rattle.lapin_frames.specs.Carried.{carrying, exchange_arguments, queue_arguments, basic_arguments, IsOpaque, ArgumentsCarried, MethodCarried, PropertiesCarried, IsCarried, exchange_again, queue_again, basic_again, method_again, frame_again}
use Rattle.lapin_frames.specs.FrameFits.{PropertiesFit}
use Rattle.lapin_frames.specs.Headers.{properties_bytes}

-- ---- tables

table_again : (t : List (List ℕ × Data)) → IsOpaque t → opaque (table_octets t) ≡ t
table_again t h = ap (λ (u : List (List ℕ × Data)). opaque (table_octets u)) h.1 ∙ (ap opaque (octets_again h.0) ∙ sym h.1)

exchange_same : (m : ExchangeMethod) → ArgumentsCarried (exchange_arguments m) → exchange_again m ≡ m
exchange_same (exchange_method.Declare exchange kind passive durable auto_delete internal nowait arguments) h = ap (exchange_method.Declare exchange kind passive durable auto_delete internal nowait) (table_again arguments h)
exchange_same (exchange_method.Bind destination source routing_key nowait arguments) h = ap (exchange_method.Bind destination source routing_key nowait) (table_again arguments h)
exchange_same (exchange_method.Unbind destination source routing_key nowait arguments) h = ap (exchange_method.Unbind destination source routing_key nowait) (table_again arguments h)
exchange_same _ h = refl

queue_same : (m : QueueMethod) → ArgumentsCarried (queue_arguments m) → queue_again m ≡ m
queue_same (queue_method.Declare queue passive durable exclusive auto_delete nowait arguments) h = ap (queue_method.Declare queue passive durable exclusive auto_delete nowait) (table_again arguments h)
queue_same (queue_method.Bind queue exchange routing_key nowait arguments) h = ap (queue_method.Bind queue exchange routing_key nowait) (table_again arguments h)
queue_same (queue_method.Unbind queue exchange routing_key arguments) h = ap (queue_method.Unbind queue exchange routing_key) (table_again arguments h)
queue_same _ h = refl

basic_same : (m : BasicMethod) → ArgumentsCarried (basic_arguments m) → basic_again m ≡ m
basic_same (basic_method.Consume queue consumer_tag no_local no_ack exclusive nowait arguments) h = ap (basic_method.Consume queue consumer_tag no_local no_ack exclusive nowait) (table_again arguments h)
basic_same _ h = refl

method_same : (m : Method) → MethodCarried m → method_again m ≡ m
method_same (method.Exchange m) h = ap method.Exchange (exchange_same m h)
method_same (method.Queue m) h = ap method.Queue (queue_same m h)
method_same (method.Basic m) h = ap method.Basic (basic_same m h)
method_same _ h = refl

-- ---- lists of properties

module _ (list : List ℕ) where
  abbrev is_none : Bool
  is_none = pointwise nat_eq list (0 ∷ 0 ∷ [])

  written_by : (b : Bool) → is_none ≡ b → properties_bytes (cond b no_properties (record no_properties { headers = Some (carrier list) })) ≡ list
  written_by true none = sym (of_none none)
    where
      of_none : is_none ≡ true → list ≡ 0 ∷ 0 ∷ []
      of_none none = (bytes_decides list (0 ∷ 0 ∷ [])).0 none
  written_by false some = refl

  -- what is written of properties that carry a list is the list
  pub list_untouched : properties_bytes (carrying list) ≡ list
  list_untouched = written_by is_none refl

  fits_by : (b : Bool) → PropertiesFit (cond b no_properties (record no_properties { headers = Some (carrier list) }))
  fits_by true = ((tt, tt, tt, tt), (tt, tt, tt, tt), (tt, tt, tt, tt, tt, tt))
  fits_by false = tt

  pub list_fits : PropertiesFit (carrying list)
  list_fits = fits_by is_none

properties_again : (p : Properties) → PropertiesCarried p → carrying (properties_bytes p) ≡ p
properties_again p h = ap (λ (q : Properties). carrying (properties_bytes q)) h.1 ∙ (ap carrying (list_untouched h.0) ∙ sym h.1)

-- ---- frames

pub carried_again : (f : Frame) → IsCarried f → frame_again f ≡ f
carried_again (frame.Method channel m) h = ap (frame.Method channel) (method_same m h)
carried_again (frame.Header channel h) carried = ap (λ (p : Properties). frame.Header channel (record h { properties = p })) (properties_again h.properties carried)
carried_again (frame.Body channel payload) h = refl
