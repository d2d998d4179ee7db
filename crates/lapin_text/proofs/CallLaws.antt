-- Calls: what was written is read, what was read is spelled so, and no token of a call has a space.
use Rattle.std.proofs.Common.{◌≡◌, ℕ, List, [], ◌∷◌, ◌++◌, Option, Some, None, Bool, true, false, refl, sym, ap, subst, ◌∙◌}
use Rattle.std.specs.Prelude.{codes, ◌||◌, if◌then◌else◌}
use Rattle.std.specs.Str.{bytes_eq}
use Rattle.std.proofs.lemmas.Slice.Eq.{bytes_eq-Decides}
use Rattle.lapin_types.specs.Types.{Method}
use Rattle.lapin_types.specs.declared.call.Call.{Call}
use Rattle.lapin_types.specs.declared.call.Call.TheVariants as call
use Rattle.lapin_types.specs.Types.method
use Rattle.lapin_types.specs.Types.channel as channel_method
use Rattle.lapin_types.specs.Types.access as access_method
use Rattle.lapin_types.specs.Types.exchange as exchange_method
use Rattle.lapin_types.specs.Types.queue as queue_method
use Rattle.lapin_types.specs.Types.basic as basic_method
use Rattle.lapin_types.specs.Types.confirm as confirm_method
use Rattle.lapin_types.specs.Types.tx as tx_method
use Rattle.lapin_types.specs.declared.exchange_kind.ExchangeKind.{ExchangeKind}
use Rattle.lapin_types.specs.declared.exchange_kind.ExchangeKind.TheVariants as exchange_kind
use Rattle.lapin_types.specs.ExchangeKinds.{kind_text}
use Rattle.lapin_tokens.specs.Fields.{Field, Values, tokens, AllFit}
use Rattle.lapin_tokens.specs.Fields.Field.{text, flag}
use Rattle.lapin_tokens.specs.Reading.{◌>>=◌, field_at, fields_at}
use Rattle.lapin_tokens.proofs.FieldLaws.{bind_some, some_is, fields_again, fields_found}
use Rattle.lapin_tokens.proofs.Plain.{AllPlain, plain_append}
use Rattle.lapin_tokens.proofs.PlainFields.{plain_tokens}
use Rattle.lapin_method_text.specs.Methods.{method_tokens, MethodFits}
use Rattle.lapin_method_text.specs.declared.kinds.MethodKind.TheVariants as kind
use Rattle.lapin_method_text.specs.declared.kinds.BasicKind.TheVariants as basic_kind
use Rattle.lapin_method_text.specs.MethodReading.{kind_at, basic_at, method_at}
use Rattle.lapin_method_text.proofs.MethodLaws.{kind_of, plain_method, method_again, method_found}
use Rattle.lapin_text.specs.Calls.{is_standard, IsNamed, kind_named, method_of, call_of}
use Rattle.lapin_text.specs.CallText.{close_fields, content_fields, publish_fields, limit_fields, queued_tokens, call_tokens, QueuedFits, CallFits, call_with, publish_of, try_publish_of, call_named, call_at}

-- ---- kinds of exchanges

-- the kind, by which of the four words the text is
abbrev picked : (direct fanout headers topic : Bool) → List ℕ → ExchangeKind
picked d f h t name =
    if d then exchange_kind.Direct else if f then exchange_kind.Fanout else if h then exchange_kind.Headers else if t then exchange_kind.Topic else exchange_kind.Custom name

custom_picked : (d f h t : Bool) (name : List ℕ) → (d || f || h || t) ≡ false → picked d f h t name ≡ exchange_kind.Custom name
custom_picked false false false false name e = refl
custom_picked _ _ _ _ name e = absurd cc

kind_again : (k : ExchangeKind) → IsNamed k → kind_named (kind_text k) ≡ k
kind_again (exchange_kind.Custom name) h = custom_picked (bytes_eq name (codes "direct")) (bytes_eq name (codes "fanout")) (bytes_eq name (codes "headers")) (bytes_eq name (codes "topic")) name h
kind_again exchange_kind.Direct h = refl
kind_again exchange_kind.Fanout h = refl
kind_again exchange_kind.Headers h = refl
kind_again exchange_kind.Topic h = refl

-- the kind has this text, and it is what the text stands for
abbrev IsKindOf : List ℕ → ExchangeKind → Type 0
IsKindOf name k = (kind_text k ≡ name) × IsNamed k

picked_found : (d f h t : Bool) (name : List ℕ) → (d ≡ true → name ≡ codes "direct") → (f ≡ true → name ≡ codes "fanout") → (h ≡ true → name ≡ codes "headers") → (t ≡ true → name ≡ codes "topic") → is_standard name ≡ (d || f || h || t) → IsKindOf name (picked d f h t name)
picked_found true f h t name p q r s e = (sym (p refl), tt)
picked_found false true h t name p q r s e = (sym (q refl), tt)
picked_found false false true t name p q r s e = (sym (r refl), tt)
picked_found false false false true name p q r s e = (sym (s refl), tt)
picked_found false false false false name p q r s e = (refl, e)

kind_found : (name : List ℕ) → IsKindOf name (kind_named name)
kind_found name = picked_found (bytes_eq name (codes "direct")) (bytes_eq name (codes "fanout")) (bytes_eq name (codes "headers")) (bytes_eq name (codes "topic")) name (bytes_eq-Decides name (codes "direct")).0 (bytes_eq-Decides name (codes "fanout")).0 (bytes_eq-Decides name (codes "headers")).0 (bytes_eq-Decides name (codes "topic")).0 refl

-- ---- what was written is read

-- the method's call is read behind it; nothing says so where there is no method
abbrev IsMade : Option Method → Call → List (List ℕ) → Type 0
IsMade None c rest = ⊥
IsMade (Some m) c rest = call_with m rest ≡ Some (c, rest)

as_method : (queued : Option Method) (c : Call) (rest : List (List ℕ)) → QueuedFits queued → call_at (queued_tokens queued ++ rest) ≡ (method_at (queued_tokens queued ++ rest) >>= λ m. call_with m.0 m.1) → IsMade queued c rest → call_at (queued_tokens queued ++ rest) ≡ Some (c, rest)
as_method None c rest h is made = absurd h
as_method (Some m) c rest h is made = is ∙ rw (method_again m rest h) made

pub call_again : (c : Call) (rest : List (List ℕ)) → CallFits c → call_at (call_tokens c ++ rest) ≡ Some (c, rest)
unfolding call_at call_named
call_again (call.ChannelClose reply_code reply_text) rest h = fields_again close_fields (λ v. call.ChannelClose v.0 v.1.0) (reply_code, (reply_text, tt)) rest h
call_again (call.ConnectionClose reply_code reply_text) rest h = fields_again close_fields (λ v. call.ConnectionClose v.0 v.1.0) (reply_code, (reply_text, tt)) rest h
call_again (call.TryBasicPublish exchange routing_key options payload properties) rest h =
    fields_again publish_fields try_publish_of (exchange, (routing_key, (options.mandatory, (options.immediate, (payload, (properties, tt)))))) rest h
call_again (call.ConfirmLimit limit) rest h = fields_again limit_fields (λ v. call.ConfirmLimit v.0) (limit, tt) rest h
call_again (call.BasicPublish exchange routing_key options payload properties) rest h =
    let m : Method = method.Basic (basic_method.Publish exchange routing_key options.mandatory options.immediate) in
    rw (method_again m (tokens content_fields (payload, (properties, tt)) ++ rest) h.0) (fields_again content_fields (λ v. call.BasicPublish exchange routing_key options v.0 v.1.0) (payload, (properties, tt)) rest h.1)
call_again (call.ExchangeDeclare exchange kind options arguments) rest h = as_method (method_of (call.ExchangeDeclare exchange kind options arguments)) (call.ExchangeDeclare exchange kind options arguments) rest h.0 refl (rw (kind_again kind h.1) refl)
call_again c rest h = as_method (method_of c) c rest h refl refl

-- ---- what was read is spelled so

-- the method's text is the call's
abbrev IsSpelled : Method → Call → Type 0
IsSpelled m c = (method_tokens m ≡ call_tokens c) × CallFits c

-- The method's text is that of the call that queues it, where one does. Where none does, the same is said of the method itself, which
-- always holds: so one answer has both forms.
abbrev IsSpelledWhereQueued : Method → Option Call → Type 0
IsSpelledWhereQueued m (Some c) = IsSpelled m c
IsSpelledWhereQueued m None = (method_tokens m ≡ method_tokens m) × MethodFits m

-- A call's text is that of its method, so each method's case computes but for the one whose field is a kind of an exchange. One
-- method of each other class stands here by name, so that the last line is taken method by method.
queued_spelled : (m : Method) → MethodFits m → IsSpelledWhereQueued m (call_of m)
queued_spelled (method.Exchange (exchange_method.Declare exchange kind passive durable auto_delete internal nowait arguments)) fit =
    let k = kind_found kind in
    let is : method.Exchange (exchange_method.Declare exchange kind passive durable auto_delete internal nowait arguments) ≡ method.Exchange (exchange_method.Declare exchange (kind_text (kind_named kind)) passive durable auto_delete internal nowait arguments) =
    ap (λ (name : List ℕ). method.Exchange (exchange_method.Declare exchange name passive durable auto_delete internal nowait arguments)) (sym k.0) in
    (ap method_tokens is, (subst MethodFits is fit, k.1))
queued_spelled (method.Channel channel_method.OpenOk) fit = (refl, fit)
queued_spelled (method.Access access_method.RequestOk) fit = (refl, fit)
queued_spelled (method.Queue queue_method.BindOk) fit = (refl, fit)
queued_spelled (method.Basic basic_method.QosOk) fit = (refl, fit)
queued_spelled (method.Confirm confirm_method.SelectOk) fit = (refl, fit)
queued_spelled (method.Tx tx_method.SelectOk) fit = (refl, fit)
queued_spelled _ fit = (refl, fit)

call_of_found : (m : Method) (c : Call) → call_of m ≡ Some c → MethodFits m → IsSpelled m c
call_of_found m c e fit = subst (λ (o : Option Call). IsSpelledWhereQueued m o) e (queued_spelled m fit)

-- the pieces are the tokens of a call that has a text, and others
abbrev pub IsCall : List (List ℕ) → Call × List (List ℕ) → Type 0
IsCall pieces x = (pieces ≡ call_tokens x.0 ++ x.1) × CallFits x.0

with_found : (m : Method) (rest : List (List ℕ)) (x : Call × List (List ℕ)) → call_with m rest ≡ Some x → MethodFits m → IsCall (method_tokens m ++ rest) x
with_found (method.Basic (basic_method.Publish exchange routing_key mandatory immediate)) rest x e fit =
    let m : Method = method.Basic (basic_method.Publish exchange routing_key mandatory immediate) in
    let r = fields_found content_fields (λ v. call.BasicPublish exchange routing_key (record { mandatory = mandatory; immediate = immediate }) v.0 v.1.0) rest x e in
    subst (λ (c : Call). IsCall (method_tokens m ++ rest) (c, x.1)) (sym r.is) (ap (λ (t : List (List ℕ)). method_tokens m ++ t) r.spelled, (fit, r.fit))
with_found m rest x e fit =
    let a = bind_some (call_of m) (λ c. Some (c, rest)) x e in
    let p = call_of_found m a.0 a.1 fit in
    subst (λ (y : Call × List (List ℕ)). IsCall (method_tokens m ++ rest) y) (some_is (a.0, rest) x a.2) (ap (λ (t : List (List ℕ)). t ++ rest) p.0, p.1)

-- a call with a text of its own: its name, and the tokens of its fields
own_found : (word : List ℕ) (fs : List Field) (made : Values fs → Call) (name : List ℕ) (rest : List (List ℕ)) (x : Call × List (List ℕ)) → ((v : Values fs) → call_tokens (made v) ≡ word ∷ tokens fs v) → ((v : Values fs) → AllFit fs v → CallFits (made v)) → name ≡ word → fields_at fs made rest ≡ Some x → IsCall (name ∷ rest) x
own_found word fs made name rest x spelled fit is e =
    let r = fields_found fs made rest x e in
    subst (λ (c : Call). IsCall (name ∷ rest) (c, x.1)) (sym r.is) (ap (λ (t : List (List ℕ)). name ∷ t) r.spelled ∙ ap (λ (n : List ℕ). n ∷ tokens fs r.vs ++ x.1) is ∙ ap (λ (t : List (List ℕ)). t ++ x.1) (sym (spelled r.vs)), fit r.vs r.fit)

-- by whether the name is that of one of the calls with a text of their own
named_found : (channel connection publish limit : Bool) (name : List ℕ) (rest : List (List ℕ)) (x : Call × List (List ℕ)) → (channel ≡ true → name ≡ codes "channel.close") → (connection ≡ true → name ≡ codes "connection.close") → (publish ≡ true → name ≡ codes "basic.try-publish") → (limit ≡ true → name ≡ codes "confirm.limit") → (if channel then fields_at close_fields (λ v. call.ChannelClose v.0 v.1.0) rest else if connection then fields_at close_fields (λ v. call.ConnectionClose v.0 v.1.0) rest else if publish then fields_at publish_fields try_publish_of rest else if limit then fields_at limit_fields (λ v. call.ConfirmLimit v.0) rest else (method_at (name ∷ rest) >>= λ m. call_with m.0 m.1)) ≡ Some x → IsCall (name ∷ rest) x
named_found true connection publish limit name rest x p q r s e = own_found (codes "channel.close") close_fields (λ v. call.ChannelClose v.0 v.1.0) name rest x (λ v. refl) (λ v h. h) (p refl) e
named_found false true publish limit name rest x p q r s e = own_found (codes "connection.close") close_fields (λ v. call.ConnectionClose v.0 v.1.0) name rest x (λ v. refl) (λ v h. h) (q refl) e
named_found false false true limit name rest x p q r s e = own_found (codes "basic.try-publish") publish_fields try_publish_of name rest x (λ v. refl) (λ v h. h) (r refl) e
named_found false false false true name rest x p q r s e = own_found (codes "confirm.limit") limit_fields (λ v. call.ConfirmLimit v.0) name rest x (λ v. refl) (λ v h. h) (s refl) e
named_found false false false false name rest x p q r s e =
    let a = bind_some (method_at (name ∷ rest)) (λ m. call_with m.0 m.1) x e in
    let f = method_found (name ∷ rest) a.0 a.1 in
    let g = with_found a.0.0 a.0.1 x a.2 f.1 in
    (f.0 ∙ g.0, g.1)

pub call_found : (pieces : List (List ℕ)) (x : Call × List (List ℕ)) → call_at pieces ≡ Some x → IsCall pieces x
unfolding call_at call_named
call_found [] x e = absurd cc
call_found (name ∷ rest) x e = named_found (bytes_eq name (codes "channel.close")) (bytes_eq name (codes "connection.close")) (bytes_eq name (codes "basic.try-publish")) (bytes_eq name (codes "confirm.limit")) name rest x (bytes_eq-Decides name (codes "channel.close")).0 (bytes_eq-Decides name (codes "connection.close")).0 (bytes_eq-Decides name (codes "basic.try-publish")).0 (bytes_eq-Decides name (codes "confirm.limit")).0 e

-- ---- a plain publish

-- three steps in a row, whichever two of them are taken together
steps : {A B C : Type 0} (r : Option A) (f : A → Option B) (g : B → Option C) (h : A → Option C) → ((x : A) → (f x >>= g) ≡ h x) → ((r >>= f) >>= g) ≡ (r >>= h)
steps None f g h e = refl
steps (Some x) f g h e = e x

-- the fields of a publish's method, and then what follows them, are read in a row
publish_row : (pieces : List (List ℕ)) → (basic_at basic_kind.Publish pieces >>= λ m. call_with (method.Basic m.0) m.1) ≡ fields_at publish_fields publish_of pieces
unfolding basic_at
publish_row pieces =
    steps (field_at text pieces) _ _ _ (λ exchange. steps (field_at text exchange.1) _ _ _ (λ routing_key. steps (field_at flag routing_key.1) _ _ _ (λ mandatory. steps (field_at flag mandatory.1) _ _ _ (λ immediate. refl))))

-- the call of the name of a publish: its method's fields and what follows them, in a row
pub publish_named : (name : List ℕ) (pieces : List (List ℕ)) → name ≡ codes "basic.publish" → call_named name pieces ≡ fields_at publish_fields publish_of pieces
unfolding call_named method_at
publish_named name pieces e =
    let at_name : call_named name pieces ≡ call_named (codes "basic.publish") pieces = ap (λ (n : List ℕ). call_named n pieces) e in
    let kind_is : kind_at (codes "basic.publish") ≡ Some (kind.Basic basic_kind.Publish) = sym (kind_of (codes "basic.publish") (kind.Basic basic_kind.Publish) refl) in
    at_name ∙ rw kind_is (steps (basic_at basic_kind.Publish pieces) _ _ _ (λ m. refl) ∙ publish_row pieces)

-- so are pieces that begin with its name
pub publish_said : (pieces rest : List (List ℕ)) → pieces ≡ codes "basic.publish" ∷ rest → call_at pieces ≡ fields_at publish_fields publish_of rest
unfolding call_at
publish_said pieces rest is = rw is (publish_named (codes "basic.publish") rest refl)

-- ---- no token has a space

plain_queued : (queued : Option Method) → QueuedFits queued → AllPlain (queued_tokens queued)
plain_queued None h = absurd h
plain_queued (Some m) h = plain_method m h

pub plain_call : (c : Call) → CallFits c → AllPlain (call_tokens c)
plain_call (call.ChannelClose reply_code reply_text) h = (refl, plain_tokens close_fields (reply_code, (reply_text, tt)) h)
plain_call (call.ConnectionClose reply_code reply_text) h = (refl, plain_tokens close_fields (reply_code, (reply_text, tt)) h)
plain_call (call.TryBasicPublish exchange routing_key options payload properties) h =
    (refl, plain_tokens publish_fields (exchange, (routing_key, (options.mandatory, (options.immediate, (payload, (properties, tt)))))) h)
plain_call (call.ConfirmLimit limit) h = (refl, plain_tokens limit_fields (limit, tt) h)
plain_call (call.BasicPublish exchange routing_key options payload properties) h =
    let m : Method = method.Basic (basic_method.Publish exchange routing_key options.mandatory options.immediate) in
    plain_append (method_tokens m) (tokens content_fields (payload, (properties, tt))) (plain_method m h.0) (plain_tokens content_fields (payload, (properties, tt)) h.1)
plain_call (call.ExchangeDeclare exchange kind options arguments) h = plain_queued (method_of (call.ExchangeDeclare exchange kind options arguments)) h.0
plain_call c h = plain_queued (method_of c) h
