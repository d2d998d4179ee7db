-- Properties: what was written is read, and what was read is spelled so.
use Rattle.std.proofs.Common.{◌≡◌, ◌^◌, ℕ, List, [], ◌∷◌, ◌++◌, Option, Some, None, refl, sym, ap, subst, ◌∙◌, Bool, true, false, cond, eqb, append_assoc}
use Rattle.std.specs.Prelude.{◌&&◌, ◌==◌, if◌then◌else◌}
use Rattle.std.specs.List.{join_with_byte}
use Rattle.lapin_values.specs.Properties.{Properties, no_properties}
use Rattle.lapin_scalars.specs.Scalars.Scalar.{text as a_text, number as a_number}
use Rattle.lapin_scalars.specs.Reading.{scalar_of}
use Rattle.lapin_scalars.proofs.ScalarLaws.{scalar_found}
use Rattle.lapin_tokens.specs.declared.names.Property.{Property}
use Rattle.lapin_tokens.specs.declared.names.Property.TheVariants as property
use Rattle.lapin_tokens.specs.declared.names.TheConstants.{PROPERTIES}
use Rattle.lapin_tokens.specs.Cursor.{◌>>=◌, after_mark, after_text, is_separator, word_of, after_word}
use Rattle.lapin_tokens.specs.Values.{bracketed}
use Rattle.lapin_tokens.specs.Properties.{Kind, KindValue, short, headers, octet, moment, kind_text, kind_fits, name, kind, given, part_text, with_part, part_texts, properties_text, part_fits, parts_fit, properties_fit}
use Rattle.lapin_tokens.specs.PropertyReading.{kind_at, set_at, mark, value_behind, part_at, parts_at, closed, properties_at}
use Rattle.lapin_tokens.proofs.Words.{word_rest}
use Rattle.lapin_tokens.proofs.MemberLaws.{bind_some, some_is, same_mark, mark_found}
use Rattle.lapin_tokens.proofs.ValueLaws.{word_again, rest_again}
use Rattle.lapin_tokens.proofs.NestedLaws.{table_again, table_found}
use Rattle.lapin_tokens.proofs.Prefixes.{text_again, text_found}
use Rattle.std.proofs.lemmas.Bool.{and_parts, and_from}

-- ---- one value

kind_again : (k : Kind) (x : KindValue k) (d : ℕ) (rest : List ℕ) → kind_fits k x ≡ true → is_separator d ≡ true → kind_at k (kind_text k x ++ d ∷ rest) ≡ Some (x, d ∷ rest)
unfolding kind_at
kind_again short x d rest fit sep = rw (word_again a_text x d rest fit sep, rest_again a_text x d rest fit sep) refl
kind_again headers x d rest fit sep = table_again 7 x (d ∷ rest) fit
kind_again octet x d rest fit sep = rw (word_again (a_number (2 ^ 8)) x d rest fit sep, rest_again (a_number (2 ^ 8)) x d rest fit sep) refl
kind_again moment x d rest fit sep = rw (word_again (a_number (2 ^ 64)) x d rest fit sep, rest_again (a_number (2 ^ 64)) x d rest fit sep) refl

abbrev KindFound : (k : Kind) → List ℕ → KindValue k × List ℕ → Type 0
KindFound k text x = (text ≡ kind_text k x.0 ++ x.1) × (kind_fits k x.0 ≡ true)

kind_found : (k : Kind) (text : List ℕ) (x : KindValue k × List ℕ) → kind_at k text ≡ Some x → KindFound k text x
unfolding kind_at
kind_found short text x e =
    let a = bind_some (scalar_of a_text (word_of text)) _ x e in
    let f = scalar_found a_text (word_of text) a.0 a.1 in
    subst (λ (y : List ℕ × List ℕ). KindFound short text y) (some_is (a.0, after_word text) x a.2) (sym (word_rest text) ∙ ap (λ (t : List ℕ). t ++ after_word text) f.is, f.fits)
kind_found headers text x e = table_found 7 text x e
kind_found octet text x e =
    let a = bind_some (scalar_of (a_number (2 ^ 8)) (word_of text)) _ x e in
    let f = scalar_found (a_number (2 ^ 8)) (word_of text) a.0 a.1 in
    subst (λ (y : ℕ × List ℕ). KindFound octet text y) (some_is (a.0, after_word text) x a.2) (sym (word_rest text) ∙ ap (λ (t : List ℕ). t ++ after_word text) f.is, f.fits)
kind_found moment text x e =
    let a = bind_some (scalar_of (a_number (2 ^ 64)) (word_of text)) _ x e in
    let f = scalar_found (a_number (2 ^ 64)) (word_of text) a.0 a.1 in
    subst (λ (y : ℕ × List ℕ). KindFound moment text y) (some_is (a.0, after_word text) x a.2) (sym (word_rest text) ∙ ap (λ (t : List ℕ). t ++ after_word text) f.is, f.fits)

-- ---- one property

-- the properties with one of them as given
abbrev over : (p : Property) → Option (KindValue (kind p)) → Properties → Properties
over property.ContentType x v = record v { content_type = x }
over property.ContentEncoding x v = record v { content_encoding = x }
over property.Headers x v = record v { headers = x }
over property.DeliveryMode x v = record v { delivery_mode = x }
over property.Priority x v = record v { priority = x }
over property.CorrelationId x v = record v { correlation_id = x }
over property.ReplyTo x v = record v { reply_to = x }
over property.Expiration x v = record v { expiration = x }
over property.MessageId x v = record v { message_id = x }
over property.Timestamp x v = record v { timestamp = x }
over property.Kind x v = record v { kind = x }
over property.UserId x v = record v { user_id = x }
over property.AppId x v = record v { app_id = x }
over property.ClusterId x v = record v { cluster_id = x }

set_is : (p : Property) (v : Properties) (text : List ℕ) → set_at p v text ≡ (kind_at (kind p) text >>= λ x. Some (over p (Some x.0) v, x.1))
set_is property.ContentType v text = refl
set_is property.ContentEncoding v text = refl
set_is property.Headers v text = refl
set_is property.DeliveryMode v text = refl
set_is property.Priority v text = refl
set_is property.CorrelationId v text = refl
set_is property.ReplyTo v text = refl
set_is property.Expiration v text = refl
set_is property.MessageId v text = refl
set_is property.Timestamp v text = refl
set_is property.Kind v text = refl
set_is property.UserId v text = refl
set_is property.AppId v text = refl
set_is property.ClusterId v text = refl

abbrev put_maybe : (p : Property) → Option (KindValue (kind p)) → Properties → Properties
put_maybe p None v = v
put_maybe p (Some x) v = over p (Some x) v

-- where nothing was given before
keeps : (p : Property) (x : Option (KindValue (kind p))) (v : Properties) → given p v ≡ None → put_maybe p x v ≡ over p x v
keeps property.ContentType None v e = ap (λ x. over property.ContentType x v) e
keeps property.ContentEncoding None v e = ap (λ x. over property.ContentEncoding x v) e
keeps property.Headers None v e = ap (λ x. over property.Headers x v) e
keeps property.DeliveryMode None v e = ap (λ x. over property.DeliveryMode x v) e
keeps property.Priority None v e = ap (λ x. over property.Priority x v) e
keeps property.CorrelationId None v e = ap (λ x. over property.CorrelationId x v) e
keeps property.ReplyTo None v e = ap (λ x. over property.ReplyTo x v) e
keeps property.Expiration None v e = ap (λ x. over property.Expiration x v) e
keeps property.MessageId None v e = ap (λ x. over property.MessageId x v) e
keeps property.Timestamp None v e = ap (λ x. over property.Timestamp x v) e
keeps property.Kind None v e = ap (λ x. over property.Kind x v) e
keeps property.UserId None v e = ap (λ x. over property.UserId x v) e
keeps property.AppId None v e = ap (λ x. over property.AppId x v) e
keeps property.ClusterId None v e = ap (λ x. over property.ClusterId x v) e
keeps p (Some x) v e = refl

-- ---- all properties

abbrev PartValues : List Property → Type 0
PartValues [] = Unit {0}
PartValues (p ∷ ps) = Option (KindValue (kind p)) × PartValues ps

abbrev values_of : (ps : List Property) → Properties → PartValues ps
values_of [] v = tt
values_of (p ∷ ps) v = (given p v, values_of ps v)

abbrev put_all : (ps : List Property) → PartValues ps → Properties → Properties
put_all [] xs v = v
put_all (p ∷ ps) xs v = put_all ps xs.1 (put_maybe p xs.0 v)

abbrev all_fit : (ps : List Property) → PartValues ps → Bool
all_fit [] xs = true
all_fit (p ∷ ps) xs = part_fits p xs.0 && all_fit ps xs.1

fit_values : (ps : List Property) (v : Properties) → all_fit ps (values_of ps v) ≡ parts_fit ps v
fit_values [] v = refl
fit_values (p ∷ ps) v = ap (λ b. part_fits p (given p v) && b) (fit_values ps v)

step : (p : Property) (x : Option (KindValue (kind p))) (w v : Properties) → w ≡ v → given p v ≡ None → put_maybe p x w ≡ over p x v
step p x w v e none = ap (put_maybe p x) e ∙ keeps p x v none

abbrev made : PartValues PROPERTIES → Properties
made xs = record { content_type = xs.0; content_encoding = xs.1.0; headers = xs.1.1.0; delivery_mode = xs.1.1.1.0; priority = xs.1.1.1.1.0; correlation_id = xs.1.1.1.1.1.0; reply_to = xs.1.1.1.1.1.1.0; expiration = xs.1.1.1.1.1.1.1.0; message_id = xs.1.1.1.1.1.1.1.1.0; timestamp = xs.1.1.1.1.1.1.1.1.1.0; kind = xs.1.1.1.1.1.1.1.1.1.1.0; user_id = xs.1.1.1.1.1.1.1.1.1.1.1.0; app_id = xs.1.1.1.1.1.1.1.1.1.1.1.1.0; cluster_id = xs.1.1.1.1.1.1.1.1.1.1.1.1.1.0 }

all_put : (xs : PartValues PROPERTIES) → put_all PROPERTIES xs no_properties ≡ made xs
all_put xs =
    step property.ClusterId xs.1.1.1.1.1.1.1.1.1.1.1.1.1.0 _ _ (step property.AppId xs.1.1.1.1.1.1.1.1.1.1.1.1.0 _ _ (step property.UserId xs.1.1.1.1.1.1.1.1.1.1.1.0 _ _ (step property.Kind xs.1.1.1.1.1.1.1.1.1.1.0 _ _ (step property.Timestamp xs.1.1.1.1.1.1.1.1.1.0 _ _ (step property.MessageId xs.1.1.1.1.1.1.1.1.0 _ _ (step property.Expiration xs.1.1.1.1.1.1.1.0 _ _ (step property.ReplyTo xs.1.1.1.1.1.1.0 _ _ (step property.CorrelationId xs.1.1.1.1.1.0 _ _ (step property.Priority xs.1.1.1.1.0 _ _ (step property.DeliveryMode xs.1.1.1.0 _ _ (step property.Headers xs.1.1.0 _ _ (step property.ContentEncoding xs.1.0 _ _ (step property.ContentType xs.0 _ _ (refl) refl) refl) refl) refl) refl) refl) refl) refl) refl) refl) refl) refl) refl) refl

-- ---- texts

-- the bytes from the properties on: the mark before the next says whether it is the first
abbrev ended : Bool → List ℕ → List ℕ
ended true rest = 91 ∷ 93 ∷ rest
ended false rest = 93 ∷ rest

abbrev part_then : (p : Property) → Option (KindValue (kind p)) → Bool → (Bool → List ℕ) → List ℕ
part_then p None first more = more first
part_then p (Some x) first more = mark first ∷ (part_text p x ++ more false)

abbrev tail_text : (ps : List Property) → PartValues ps → Bool → List ℕ → List ℕ
tail_text [] xs first rest = ended first rest
tail_text (p ∷ ps) xs first rest = part_then p xs.0 first (λ f. tail_text ps xs.1 f rest)

abbrev stays : {A : Type 0} → Option A → Bool → Bool
stays None first = first
stays (Some x) first = false

abbrev last_first : (ps : List Property) → PartValues ps → Bool → Bool
last_first [] xs first = first
last_first (p ∷ ps) xs first = last_first ps xs.1 (stays xs.0 first)

abbrev pub commas : List (List ℕ) → List ℕ → List ℕ
commas [] rest = 93 ∷ rest
commas (t ∷ ts) rest = 44 ∷ (t ++ commas ts rest)

joined : (t : List ℕ) (ts : List (List ℕ)) (rest : List ℕ) → join_with_byte 44 (t ∷ ts) ++ 93 ∷ rest ≡ t ++ commas ts rest
joined t [] rest = refl
joined t (u ∷ us) rest = append_assoc t (44 ∷ join_with_byte 44 (u ∷ us)) (93 ∷ rest) ∙ ap (λ (r : List ℕ). t ++ 44 ∷ r) (joined u us rest)

abbrev pub opened : List (List ℕ) → List ℕ → List ℕ
opened [] rest = 91 ∷ 93 ∷ rest
opened (t ∷ ts) rest = 91 ∷ (t ++ commas ts rest)

pub bracketed_is : (ts : List (List ℕ)) (rest : List ℕ) → bracketed 91 93 ts ++ rest ≡ opened ts rest
bracketed_is [] rest = refl
bracketed_is (t ∷ ts) rest = ap (λ (r : List ℕ). 91 ∷ r) (append_assoc (join_with_byte 44 (t ∷ ts)) (93 ∷ []) rest ∙ joined t ts rest)

comma_then : (p : Property) (x : Option (KindValue (kind p))) (more : Bool → List ℕ) (ts : List (List ℕ)) (rest : List ℕ) → more false ≡ commas ts rest → part_then p x false more ≡ commas (with_part p x ts) rest
comma_then p None more ts rest e = e
comma_then p (Some x) more ts rest e = ap (λ (r : List ℕ). 44 ∷ (part_text p x ++ r)) e

tail_commas : (ps : List Property) (v : Properties) (rest : List ℕ) → tail_text ps (values_of ps v) false rest ≡ commas (part_texts ps v) rest
tail_commas [] v rest = refl
tail_commas (p ∷ ps) v rest = comma_then p (given p v) (λ f. tail_text ps (values_of ps v) f rest) (part_texts ps v) rest (tail_commas ps v rest)

open_then : (p : Property) (x : Option (KindValue (kind p))) (more : Bool → List ℕ) (ts : List (List ℕ)) (rest : List ℕ) → more true ≡ opened ts rest → more false ≡ commas ts rest → part_then p x true more ≡ opened (with_part p x ts) rest
open_then p None more ts rest e f = e
open_then p (Some x) more ts rest e f = ap (λ (r : List ℕ). 91 ∷ (part_text p x ++ r)) f

tail_opened : (ps : List Property) (v : Properties) (rest : List ℕ) → tail_text ps (values_of ps v) true rest ≡ opened (part_texts ps v) rest
tail_opened [] v rest = refl
tail_opened (p ∷ ps) v rest = open_then p (given p v) (λ f. tail_text ps (values_of ps v) f rest) (part_texts ps v) rest (tail_opened ps v rest) (tail_commas ps v rest)

-- ---- what is not given

-- two texts differ before one of them ends
abbrev apart : List ℕ → List ℕ → Bool
apart [] ds = false
apart (c ∷ cs) [] = false
apart (c ∷ cs) (d ∷ ds) = if d == c then apart cs ds else true

apart_none : (cs ds rest : List ℕ) → apart cs ds ≡ true → after_text cs (ds ++ rest) ≡ None
apart_none [] ds rest e = absurd cc
apart_none (c ∷ cs) [] rest e = absurd cc
apart_none (c ∷ cs) (d ∷ ds) rest e =
    elim (eqb d c) as (λ b. cond b (apart cs ds) true ≡ true → (cond b (Some (ds ++ rest)) None >>= λ r. after_text cs r) ≡ None) [ true ↦ λ h. apart_none cs ds rest h | false ↦ λ h. refl ] e

abbrev head : Property → List ℕ
head p = name p ++ 61 ∷ []

abbrev apart_from : Property → List Property → Bool
apart_from p [] = true
apart_from p (q ∷ qs) = apart (head p) (head q) && apart_from p qs

abbrev all_apart : List Property → Bool
all_apart [] = true
all_apart (p ∷ ps) = apart_from p ps && all_apart ps

names_apart : all_apart PROPERTIES ≡ true
names_apart = refl

not_at_end : (p : Property) (first : Bool) (rest : List ℕ) → after_text (mark first ∷ head p) (ended first rest) ≡ None
not_at_end property.ContentType true rest = refl
not_at_end property.ContentEncoding true rest = refl
not_at_end property.Headers true rest = refl
not_at_end property.DeliveryMode true rest = refl
not_at_end property.Priority true rest = refl
not_at_end property.CorrelationId true rest = refl
not_at_end property.ReplyTo true rest = refl
not_at_end property.Expiration true rest = refl
not_at_end property.MessageId true rest = refl
not_at_end property.Timestamp true rest = refl
not_at_end property.Kind true rest = refl
not_at_end property.UserId true rest = refl
not_at_end property.AppId true rest = refl
not_at_end property.ClusterId true rest = refl
not_at_end p false rest = refl

spelled_on : (p : Property) (x : KindValue (kind p)) (rest : List ℕ) → part_text p x ++ rest ≡ head p ++ (kind_text (kind p) x ++ rest)
spelled_on p x rest = append_assoc (name p) (61 ∷ kind_text (kind p) x) rest ∙ sym (append_assoc (name p) (61 ∷ []) (kind_text (kind p) x ++ rest))

not_then : (p q : Property) (x : Option (KindValue (kind q))) (first : Bool) (more : Bool → List ℕ) → apart (head p) (head q) ≡ true → after_text (mark first ∷ head p) (more first) ≡ None → after_text (mark first ∷ head p) (part_then q x first more) ≡ None
not_then p q None first more e h = h
not_then p q (Some x) first more e h =
    rw (same_mark (mark first) (part_text q x ++ more false), spelled_on q x (more false)) (apart_none (head p) (head q) (kind_text (kind q) x ++ more false) e)

not_given : (p : Property) (ps : List Property) (xs : PartValues ps) (first : Bool) (rest : List ℕ) → apart_from p ps ≡ true → after_text (mark first ∷ head p) (tail_text ps xs first rest) ≡ None
not_given p [] xs first rest e = not_at_end p first rest
not_given p (q ∷ qs) xs first rest e =
    let b = and_parts (apart (head p) (head q)) (apart_from p qs) e in
    not_then p q xs.0 first (λ f. tail_text qs xs.1 f rest) b.0 (not_given p qs xs.1 first rest b.1)

-- ---- what was written is read

pub record Begins (bytes : List ℕ) : Type 0 where
  pub first : ℕ
  pub others : List ℕ
  pub is : bytes ≡ first ∷ others
  pub ends : is_separator first ≡ true

begins_then : (p : Property) (x : Option (KindValue (kind p))) (more : Bool → List ℕ) → Begins (more false) → Begins (part_then p x false more)
begins_then p None more b = b
begins_then p (Some x) more b = record { first = 44; others = part_text p x ++ more false; is = refl; ends = refl }

tail_begins : (ps : List Property) (xs : PartValues ps) (rest : List ℕ) → Begins (tail_text ps xs false rest)
tail_begins [] xs rest = record { first = 93; others = rest; is = refl; ends = refl }
tail_begins (p ∷ ps) xs rest = begins_then p xs.0 (λ f. tail_text ps xs.1 f rest) (tail_begins ps xs.1 rest)

part_again : (p : Property) (x : Option (KindValue (kind p))) (v : Properties) (first : Bool) (more : Bool → List ℕ) → part_fits p x ≡ true → after_text (mark first ∷ head p) (more first) ≡ None → Begins (more false)
    → part_at p v first (part_then p x first more) ≡ Some (put_maybe p x v, stays x first, more (stays x first))
unfolding part_at
part_again p None v first more fit none b = rw none refl
part_again p (Some x) v first more fit none b =
    let found : after_text (mark first ∷ head p) (mark first ∷ (part_text p x ++ more false)) ≡ Some (kind_text (kind p) x ++ more false)
    = ap (λ (t : List ℕ). after_text (mark first ∷ head p) (mark first ∷ t)) (spelled_on p x (more false)) ∙ text_again (mark first ∷ head p) (kind_text (kind p) x ++ more false) in
    let read : kind_at (kind p) (kind_text (kind p) x ++ more false) ≡ Some (x, more false)
    = ap (λ (t : List ℕ). kind_at (kind p) (kind_text (kind p) x ++ t)) b.is ∙ kind_again (kind p) x b.first b.others fit b.ends ∙ ap (λ (t : List ℕ). Some (x, t)) (sym b.is) in
    rw (found, set_is p v (kind_text (kind p) x ++ more false), read) refl

parts_again : (ps : List Property) (xs : PartValues ps) (v : Properties) (first : Bool) (rest : List ℕ) → all_apart ps ≡ true → all_fit ps xs ≡ true
    → parts_at ps v first (tail_text ps xs first rest) ≡ Some (put_all ps xs v, last_first ps xs first, ended (last_first ps xs first) rest)
parts_again [] xs v first rest a fit = refl
parts_again (p ∷ ps) xs v first rest a fit =
    let aparts = and_parts (apart_from p ps) (all_apart ps) a in
    let fits = and_parts (part_fits p xs.0) (all_fit ps xs.1) fit in
    rw (part_again p xs.0 v first (λ f. tail_text ps xs.1 f rest) fits.0 (not_given p ps xs.1 first rest aparts.0) (tail_begins ps xs.1 rest))
    (parts_again ps xs.1 (put_maybe p xs.0 v) (stays xs.0 first) rest aparts.1 fits.1)

closed_again : (first : Bool) (rest : List ℕ) → closed first (ended first rest) ≡ Some rest
closed_again true rest = refl
closed_again false rest = refl

pub properties_again : (v : Properties) (rest : List ℕ) → properties_fit v ≡ true → properties_at (properties_text v ++ rest) ≡ Some (v, rest)
unfolding properties_at
properties_again v rest fit =
    let xs : PartValues PROPERTIES = values_of PROPERTIES v in
    let text = bracketed_is (part_texts PROPERTIES v) rest ∙ sym (tail_opened PROPERTIES v rest) in
    let parts = parts_again PROPERTIES xs no_properties true rest names_apart (fit_values PROPERTIES v ∙ fit) in
    rw (text, parts, closed_again (last_first PROPERTIES xs true) rest) (ap (λ (w : Properties). Some (w, rest)) (all_put xs))

-- ---- what was read is spelled so

abbrev PartFound : Property → Properties → Bool → List ℕ → Properties × Bool × List ℕ → Type 0
PartFound p v first text z = (x : Option (KindValue (kind p))) × (z.0 ≡ put_maybe p x v) × (part_fits p x ≡ true) × (z.1 ≡ stays x first) × (text ≡ part_then p x first (λ f. z.2))

part_found : (p : Property) (v : Properties) (first : Bool) (text : List ℕ) (z : Properties × Bool × List ℕ) → part_at p v first text ≡ Some z → PartFound p v first text z
unfolding part_at
part_found p v first text z e = go (after_text (mark first ∷ head p) text) refl e
  where
    go : (r : Option (List ℕ)) → after_text (mark first ∷ head p) text ≡ r → value_behind p r v first text ≡ Some z → PartFound p v first text z
    go None is h = subst (λ (y : Properties × Bool × List ℕ). PartFound p v first text y) (some_is (v, first, text) z h) (None, refl, refl, refl, refl)
    go (Some rest) is h =
        let a = bind_some (set_at p v rest) _ z h in
        let b = bind_some (kind_at (kind p) rest) _ a.0 (sym (set_is p v rest) ∙ a.1) in
        let f = kind_found (kind p) rest b.0 b.1 in
        let same : (over p (Some b.0.0) v, false, b.0.1) ≡ z = ap (λ (y : Properties × List ℕ). (y.0, false, y.1)) (some_is (over p (Some b.0.0) v, b.0.1) a.0 b.2) ∙ some_is (a.0.0, false, a.0.1) z a.2 in
        subst (λ (y : Properties × Bool × List ℕ). PartFound p v first text y) same
        (Some b.0.0, refl, f.1, refl, text_found (mark first ∷ head p) text rest is ∙ ap (λ (t : List ℕ). mark first ∷ (head p ++ t)) f.0 ∙ ap (λ (t : List ℕ). mark first ∷ t) (sym (spelled_on p b.0.0 b.0.1)))

abbrev PartsFound : (ps : List Property) → Properties → Bool → List ℕ → Properties → List ℕ → Type 0
PartsFound ps v first text w rest = (xs : PartValues ps) × (w ≡ put_all ps xs v) × (all_fit ps xs ≡ true) × (text ≡ tail_text ps xs first rest)

closed_found : (first : Bool) (text rest : List ℕ) → closed first text ≡ Some rest → text ≡ ended first rest
closed_found true text rest e = let a = bind_some (after_mark 91 text) _ rest e in mark_found 91 text a.0 a.1 ∙ ap (λ (t : List ℕ). 91 ∷ t) (mark_found 93 a.0 rest a.2)
closed_found false text rest e = mark_found 93 text rest e

then_same : (p : Property) (x : Option (KindValue (kind p))) (first f : Bool) (t : List ℕ) (more : Bool → List ℕ) → f ≡ stays x first → t ≡ more f → part_then p x first (λ g. t) ≡ part_then p x first more
then_same p None first f t more e h = h ∙ ap more e
then_same p (Some x) first f t more e h = ap (λ (r : List ℕ). mark first ∷ (part_text p x ++ r)) (h ∙ ap more e)

parts_found : (ps : List Property) (v : Properties) (first : Bool) (text : List ℕ) (y : Properties × Bool × List ℕ) (rest : List ℕ) → parts_at ps v first text ≡ Some y → closed y.1 y.2 ≡ Some rest → PartsFound ps v first text y.0 rest
parts_found [] v first text y rest e close =
    let same = some_is (v, first, text) y e in
    (tt, sym (ap (λ (z : Properties × Bool × List ℕ). z.0) same), refl, closed_found first text rest (subst (λ (z : Properties × Bool × List ℕ). closed z.1 z.2 ≡ Some rest) (sym same) close))
parts_found (p ∷ ps) v first text y rest e close =
    let a = bind_some (part_at p v first text) _ y e in
    let f = part_found p v first text a.0 a.1 in
    let more = parts_found ps a.0.0 a.0.1 a.0.2 y rest a.2 close in (
      (f.0, more.0),
      more.1 ∙ ap (put_all ps more.0) f.1,
      and_from (part_fits p f.0) (all_fit ps more.0) f.2 more.2,
      f.4 ∙ then_same p f.0 first a.0.1 a.0.2 (λ g. tail_text ps more.0 g rest) f.3 more.3,
    )

values_made : (xs : PartValues PROPERTIES) → values_of PROPERTIES (made xs) ≡ xs
values_made xs = refl

pub properties_found : (text : List ℕ) (x : Properties × List ℕ) → properties_at text ≡ Some x → (text ≡ properties_text x.0 ++ x.1) × (properties_fit x.0 ≡ true)
unfolding properties_at
properties_found text x e =
    let a = bind_some (parts_at PROPERTIES no_properties true text) _ x e in
    let b = bind_some (closed a.0.1 a.0.2) _ x a.2 in
    let f = parts_found PROPERTIES no_properties true text a.0 b.0 a.1 b.1 in
    let same = some_is (a.0.0, b.0) x b.2 in
    let is : a.0.0 ≡ made f.0 = f.1 ∙ all_put f.0 in
    let values : values_of PROPERTIES a.0.0 ≡ f.0 = ap (values_of PROPERTIES) is ∙ values_made f.0 in
    let spelled : text ≡ properties_text a.0.0 ++ b.0
    = f.3 ∙ ap (λ (xs : PartValues PROPERTIES). tail_text PROPERTIES xs true b.0) (sym values) ∙ tail_opened PROPERTIES a.0.0 b.0 ∙ sym (bracketed_is (part_texts PROPERTIES a.0.0) b.0) in
    let fit : properties_fit a.0.0 ≡ true = sym (fit_values PROPERTIES a.0.0) ∙ ap (all_fit PROPERTIES) values ∙ f.2 in
    subst (λ (y : Properties × List ℕ). (text ≡ properties_text y.0 ++ y.1) × (properties_fit y.0 ≡ true)) same (spelled, fit)
