-- What every event but a frame request does to consumers, beside what it does to openings, and which consumes wait then.
use Rattle.std.proofs.Common.{◌≡◌, ◌∙◌, ℕ, ◌+◌, ◌==◌, Bool, true, false, cond, not, ◌&&◌, ◌||◌, List, [], ◌∷◌, ◌++◌, Option, Some, ◌⊎◌, inl, inr, refl, sym, ap, subst}
use Rattle.std.specs.List.{filter, list_any}
use Rattle.std.proofs.lemmas.Bool.{and_parts, both_ways}
use Rattle.std.proofs.lemmas.Bool.Decides.{eqb_tells}
use Rattle.std.proofs.lemmas.List.Folds.{list_any-append}
use Rattle.lapin_types.specs.declared.message.Delivery.{Delivery}
use Rattle.lapin_types.specs.Types.{Method, BasicMethod, Error}
use Rattle.lapin_types.specs.Types.method
use Rattle.lapin_types.specs.Types.basic
use Rattle.lapin_types.specs.Types.channel
use Rattle.lapin_types.specs.Types.connection
use Rattle.lapin_broker.specs.Tags.{same_text}
use Rattle.lapin_delivery.specs.Marks.{DeliveryMark}
use Rattle.lapin_delivery.specs.Marks as deliveries
use Rattle.lapin_rules.specs.declared.calls.Asked.{Asked}
use Rattle.lapin_rules.specs.declared.calls.Asked.TheVariants as ask
use Rattle.lapin_rules.specs.declared.calls.Answered.{Answered}
use Rattle.lapin_rules.specs.declared.calls.Answered.TheVariants as answered
use Rattle.lapin_rules.specs.ConfirmMarks.{ConfirmMark}
use Rattle.lapin_rules.specs.ConfirmMarks as mark
use Rattle.lapin_rules.specs.ConfirmReadings as confirms
use Rattle.lapin_rules.specs.Words.{many}
use Rattle.lapin_rules.specs.Frames.{MethodEntry}
use Rattle.lapin_rules.specs.Drops.{is_off, method_channel}
use Rattle.lapin_rules.specs.Ends.{ends, deliveries_ends, live_channels}
use Rattle.lapin_rules.specs.Phases.{is_up}
use Rattle.lapin_rules.specs.Select.{is_select}
use Rattle.lapin_rules.specs.Wire.{Wire, state_of}
use Rattle.lapin_rules.specs.Asking.{is_allowed, after_call, asked_wire, call_deliveries, asking_deliveries, call_marks, asking_marks}
use Rattle.lapin_rules.specs.Consumers.{called_deliveries}
use Rattle.lapin_rules.specs.Registry.{line_deliveries, at_once_deliveries}
use Rattle.lapin_effects.specs.Effects.{moves}
use Rattle.lapin_verdicts.proofs.Turns.{any-less}
use Rattle.lapin_messages.specs.Openings.{begins, registers_as}
use Rattle.lapin_messages.proofs.Tags.{names_consume}
use Rattle.lapin_rules.proofs.ListLaws.{many-none}
use Rattle.lapin_effects.proofs.Happens.{quiet_select}
use Rattle.lapin_verdicts.proofs.Opens.{moves_begin}

-- ---- marks

-- the opening of channel c ends
abbrev pub ends_on : ℕ → ConfirmMark → Bool
ends_on c (mark.Ended d e) = d == c
ends_on c _ = false

abbrev pub is_end : ℕ → DeliveryMark → Bool
is_end c (deliveries.Ended d e) = d == c
is_end c _ = false

-- it registers nobody, begins no opening and hands nobody a message
abbrev pub is_plain : DeliveryMark → Bool
is_plain (deliveries.Consumed c t q) = false
is_plain (deliveries.Delivered k d) = false
is_plain (deliveries.Opened c) = false
is_plain _ = true

abbrev pub ArePlain : List DeliveryMark → Type 0
ArePlain [] = Unit {0}
ArePlain (m ∷ ms) = (is_plain m ≡ true) × ArePlain ms

-- a consume without wait of this tag waits on the channel
abbrev pub is_waiting : ℕ → List ℕ → MethodEntry → Bool
is_waiting c t m = (m.channel == c) && names_consume t m.method

abbrev pub waits_on : ℕ → List ℕ → List MethodEntry → Bool
waits_on c t ms = list_any (is_waiting c t) ms

-- what the marks of an event are, which may hand a message where it brings one
pub data Shape (brings : Bool) (X : List DeliveryMark) : Type 0 where
  Plain : (plain : ArePlain X) → Shape brings X
  Registers : (c : ℕ) (t q : List ℕ) (is : X ≡ deliveries.Consumed c t q ∷ []) → Shape brings X
  Delivers : (k : ℕ) (d : Delivery) (is : X ≡ deliveries.Delivered k d ∷ []) (by : brings ≡ true) → Shape brings X
  Opens : (c : ℕ) (is : X ≡ deliveries.Opened c ∷ []) → Shape brings X

-- a consume that waits waited before, or its consumer is registered now
pub record Waits (b b' : Wire) (X : List DeliveryMark) : Type 0 where
  pub of : (c : ℕ) (t : List ℕ) → waits_on c t b'.methods ≡ true → (waits_on c t b.methods ≡ true) ⊎ (list_any (registers_as c t) X ≡ true)

pub record Deals (brings : Bool) (b b' : Wire) (xs : List ConfirmMark) (X : List DeliveryMark) : Type 0 where
  pub shape : Shape brings X
  -- as many openings begin, and where one ends it ends for consumers
  pub begun : (c : ℕ) → many (begins c) X ≡ many (confirms.begins c) xs
  pub ended : (c : ℕ) → list_any (ends_on c) xs ≡ true → list_any (is_end c) X ≡ true
  -- none of these consumes waits once its opening ended
  pub waits : Waits b b' X
  pub dropped : (c : ℕ) (t : List ℕ) → list_any (ends_on c) xs ≡ true → is_up b'.link ≡ true → waits_on c t b'.methods ≡ true → ⊥

-- ---- marks that move no opening

pub moves_end : (c : ℕ) (m : ConfirmMark) → moves m ≡ false → ends_on c m ≡ false
moves_end c (mark.Ended d e) h = absurd cc
moves_end c _ h = refl

plain_begins : (c : ℕ) (X : List DeliveryMark) → ArePlain X → many (begins c) X ≡ 0
plain_begins c [] p = refl
plain_begins c (m ∷ ms) p = rw (unbegun m p.0) (plain_begins c ms p.1)
  where
    unbegun : (m : DeliveryMark) → is_plain m ≡ true → begins c m ≡ false
    unbegun (deliveries.Opened d) h = absurd cc
    unbegun m h = refl

pub quiet : {v : Bool} {b b' : Wire} {xs : List ConfirmMark} {X : List DeliveryMark} → list_any moves xs ≡ false → ArePlain X → Waits b b' X → Deals v b b' xs X
quiet {xs = xs} {X = X} still plain waits = record {
  shape = Plain plain;
  begun = λ c. plain_begins c X plain ∙ sym (many-none (confirms.begins c) xs (any-less moves (confirms.begins c) (moves_begin c) xs still));
  ended = λ c h. absurd (both_ways _ (any-less moves (ends_on c) (moves_end c) xs still) h);
  waits = waits;
  dropped = λ c t h. absurd (both_ways _ (any-less moves (ends_on c) (moves_end c) xs still) h);
}

-- one consumer is registered, or one message is handed
pub lone : {v : Bool} {b b' : Wire} {xs : List ConfirmMark} {X : List DeliveryMark} → list_any moves xs ≡ false → Shape v X → ((c : ℕ) → many (begins c) X ≡ 0) → Waits b b' X → Deals v b b' xs X
lone {xs = xs} still shape none waits = record {
  shape = shape;
  begun = λ c. none c ∙ sym (many-none (confirms.begins c) xs (any-less moves (confirms.begins c) (moves_begin c) xs still));
  ended = λ c h. absurd (both_ways _ (any-less moves (ends_on c) (moves_end c) xs still) h);
  waits = waits;
  dropped = λ c t h. absurd (both_ways _ (any-less moves (ends_on c) (moves_end c) xs still) h);
}

-- ---- methods

pub same_waits : {b b' : Wire} {X : List DeliveryMark} → b'.methods ≡ b.methods → Waits b b' X
same_waits e = record { of = λ c t h. inl (ap (waits_on c t) (sym e) ∙ h) }

or_second : (u v : Bool) → (u || (v || false)) ≡ true → (u ≡ true) ⊎ (v ≡ true)
or_second true v h = inl refl
or_second false true h = inr refl
or_second false false h = absurd cc

-- one more method, which names no tag of those that are not registered now
push_waits : {b b' : Wire} {X : List DeliveryMark} (m : MethodEntry) → b'.methods ≡ b.methods ++ m ∷ [] → ((c : ℕ) (t : List ℕ) → is_waiting c t m ≡ true → list_any (registers_as c t) X ≡ true) → Waits b b' X
push_waits {b = b} m e k = record { of = λ c t h. elim (or_second (waits_on c t b.methods) (is_waiting c t m) (sym (list_any-append (is_waiting c t) b.methods (m ∷ [])) ∙ (ap (waits_on c t) (sym e) ∙ h))) [ inl y ↦ inl y | inr y ↦ inr (k c t y) ] }

unnamed : (c : ℕ) (t : List ℕ) (m : MethodEntry) → names_consume t m.method ≡ false → is_waiting c t m ≡ true → ⊥
unnamed c t m n h = both_ways _ n (and_parts (m.channel == c) (names_consume t m.method) h).1

pub plain_push : {b b' : Wire} {X : List DeliveryMark} (m : MethodEntry) → b'.methods ≡ b.methods ++ m ∷ [] → ((t : List ℕ) → names_consume t m.method ≡ false) → Waits b b' X
plain_push m e n = push_waits m e (λ c t h. absurd (unnamed c t m (n t) h))

pub alone_waits : {b b' : Wire} {X : List DeliveryMark} (m : MethodEntry) → b'.methods ≡ m ∷ [] → ((t : List ℕ) → names_consume t m.method ≡ false) → Waits b b' X
alone_waits m e n = record { of = λ c t h. elim (or_second false (is_waiting c t m) (ap (waits_on c t) (sym e) ∙ h)) [ inl y ↦ absurd cc | inr y ↦ absurd (unnamed c t m (n t) y) ] }

-- ---- every opening ends

all_ended : (e : Error) (cs : List ℕ) (c : ℕ) → list_any (ends_on c) (ends e cs) ≡ list_any (is_end c) (deliveries_ends e cs)
all_ended e [] c = refl
all_ended e (d ∷ cs) c = ap (λ v. (d == c) || v) (all_ended e cs c)

pub all_plain : (e : Error) (cs : List ℕ) → ArePlain (deliveries_ends e cs)
all_plain e [] = tt
all_plain e (c ∷ cs) = (refl, all_plain e cs)

pub all_begun : (e : Error) (cs : List ℕ) (c : ℕ) → many (confirms.begins c) (ends e cs) ≡ 0
all_begun e [] c = refl
all_begun e (d ∷ cs) c = all_begun e cs c

pub falls : {v : Bool} (b b' : Wire) (e : Error) → is_up b'.link ≡ false → Waits b b' (deliveries_ends e (live_channels b.phases)) → Deals v b b' (ends e (live_channels b.phases)) (deliveries_ends e (live_channels b.phases))
falls b b' e dn waits = record {
  shape = Plain (all_plain e (live_channels b.phases));
  begun = λ c. plain_begins c _ (all_plain e (live_channels b.phases)) ∙ sym (all_begun e (live_channels b.phases) c);
  ended = λ c h. sym (all_ended e (live_channels b.phases) c) ∙ h;
  waits = waits;
  dropped = λ c t h u. absurd (both_ways _ dn u);
}

-- ---- one opening ends

off_none : (c : ℕ) (t : List ℕ) (ms : List MethodEntry) → waits_on c t (filter (is_off method_channel c) ms) ≡ false
off_none c t [] = refl
off_none c t (m ∷ ms) = elim (m.channel == c) as (λ v. (m.channel == c) ≡ v → waits_on c t (cond (not v) (m ∷ filter (is_off method_channel c) ms) (filter (is_off method_channel c) ms)) ≡ false) [
  | true ↦ λ h. off_none c t ms
  | false ↦ λ h. rw h (off_none c t ms)
] refl

off_fewer : (c d : ℕ) (t : List ℕ) (ms : List MethodEntry) → waits_on c t (filter (is_off method_channel d) ms) ≡ true → waits_on c t ms ≡ true
off_fewer c d t [] h = h
off_fewer c d t (m ∷ ms) h = elim (is_off method_channel d m) as (λ v. waits_on c t (cond v (m ∷ filter (is_off method_channel d) ms) (filter (is_off method_channel d) ms)) ≡ true → (is_waiting c t m || waits_on c t ms) ≡ true) [
  | true ↦ λ g. elim (is_waiting c t m) as (λ v. (v || waits_on c t (filter (is_off method_channel d) ms)) ≡ true → (v || waits_on c t ms) ≡ true) [ true ↦ λ _. refl | false ↦ λ k. off_fewer c d t ms k ] g
  | false ↦ λ g. elim (is_waiting c t m) as (λ v. (v || waits_on c t ms) ≡ true) [ true ↦ refl | false ↦ off_fewer c d t ms g ]
] h

-- the methods of the channel are gone, and these, which name no tag, have come
pub one_end : {v : Bool} (b b' : Wire) (d : ℕ) (e : Error) (x : Option Error) (es : List MethodEntry) → b'.methods ≡ filter (is_off method_channel d) b.methods ++ es → ((c : ℕ) (t : List ℕ) → waits_on c t es ≡ false) → Deals v b b' (mark.Ended d e ∷ []) (deliveries.Ended d x ∷ [])
one_end b b' d e x es m none = record {
  shape = Plain (refl, tt);
  begun = λ c. refl;
  ended = λ c h. h;
  waits = record { of = λ c t h. inl (off_fewer c d t b.methods (kept c t h)) };
  dropped = λ c t h u w. elim (eqb_tells d c) [
    | inl y ↦ both_ways _ (subst (λ v. waits_on v t (filter (is_off method_channel d) b.methods) ≡ false) y.1 (off_none d t b.methods)) (kept c t w)
    | inr n ↦ both_ways ((d == c) || false) (ap (λ v. v || false) n.0) h
  ];
}
  where
    or_no : (u v : Bool) → v ≡ false → (u || v) ≡ true → u ≡ true
    or_no true v f h = refl
    or_no false v f h = absurd (both_ways v f h)

    kept : (c : ℕ) (t : List ℕ) → waits_on c t b'.methods ≡ true → waits_on c t (filter (is_off method_channel d) b.methods) ≡ true
    kept c t h = or_no _ _ (none c t) (sym (list_any-append (is_waiting c t) (filter (is_off method_channel d) b.methods) es) ∙ (ap (waits_on c t) (sym m) ∙ h))

-- ---- calls

abbrev pub IsLine : Asked → Type 0
IsLine (ask.Method row) = (t : List ℕ) → names_consume t row.method ≡ false
IsLine (ask.Consume m tag queue o) = (t : List ℕ) → names_consume t m ≡ true → same_text tag t ≡ true
IsLine _ = Unit {0}

pub called_plain : (c : ℕ) (m : BasicMethod) → ArePlain (called_deliveries c m)
called_plain c (basic.Cancel tag true) = (refl, (refl, tt))
called_plain c (basic.Cancel tag false) = (refl, tt)
called_plain c (basic.Ack tag multiple) = elim (multiple && tag == 0) as (λ v. ArePlain (cond v (deliveries.Discarded c ∷ []) [])) [ true ↦ (refl, tt) | false ↦ tt ]
called_plain c (basic.Nack tag multiple requeue) = elim (multiple && tag == 0) as (λ v. ArePlain (cond v (deliveries.Discarded c ∷ []) [])) [ true ↦ (refl, tt) | false ↦ tt ]
called_plain c (basic.RecoverAsync requeue) = (refl, tt)
called_plain c _ = tt

once_plain : (c : ℕ) (a : Answered) → ArePlain (at_once_deliveries c a)
once_plain c (answered.AtOnce r a) = (refl, tt)
once_plain c _ = tt

pub line_plain : (c : ℕ) (m : Method) (a : Answered) → ArePlain (line_deliveries c m a)
line_plain c (method.Basic m) a = called_plain c m
line_plain c _ a = once_plain c a

-- the entry of a call's method
abbrev pub entry : ℕ → Method → Wire → MethodEntry
entry c m b = record { channel = c; method = m; ticket = Some (b.tickets + 1) }

call_deals : (c : ℕ) (k : Asked) (b : Wire) → IsLine k → Deals false b (after_call c k b) (call_marks c k b) (call_deliveries c k b)
call_deals c ask.Open b line = record {
  shape = Opens c refl;
  begun = λ d. refl;
  ended = λ d h. absurd cc;
  waits = plain_push (entry c (method.Channel channel.Open) b) refl (λ t. refl);
  dropped = λ d t h. absurd cc;
}
call_deals c (ask.CloseChannel code text) b line = record {
  shape = Plain (refl, tt);
  begun = λ d. refl;
  ended = λ d h. absurd cc;
  waits = plain_push (entry c (method.Channel (channel.Close code text 0 0)) b) refl (λ t. refl);
  dropped = λ d t h. absurd cc;
}
call_deals c (ask.CloseConnection code text) b line = falls b _ _ refl (alone_waits (entry c (method.Connection (connection.Close code text 0 0)) b) refl (λ t. refl))
call_deals c (ask.Publish exchange key o payload properties) b line = record {
  shape = Plain tt;
  begun = λ d. refl;
  ended = λ d h. absurd cc;
  waits = same_waits refl;
  dropped = λ d t h. absurd cc;
}
call_deals c (ask.Method row) b line = quiet (quiet_select (is_select row.method) c) (line_plain c row.method row.answered) (plain_push (entry c row.method b) refl line)
call_deals c (ask.Consume m tag queue o) b line = lone refl (Registers c tag queue refl) (λ d. refl) (push_waits (entry c m b) refl (λ d t h. registers_now d t (and_parts (c == d) (names_consume t m) h)))
  where
    registers_now : (d : ℕ) (t : List ℕ) → ((c == d) ≡ true) × (names_consume t m ≡ true) → (((c == d) && same_text tag t) || false) ≡ true
    registers_now d t both = rw (both.0, line t both.1) refl
call_deals c (ask.Limit limit) b line = quiet refl tt (same_waits refl)
call_deals c ask.Nothing b line = quiet refl tt (same_waits refl)

pub asking_deals : (c : ℕ) (k : Asked) (b : Wire) → IsLine k → Deals false b (asked_wire c k b) (asking_marks c k b) (asking_deliveries c k b)
asking_deals c k b line = elim (is_allowed k (state_of c b)) as (λ v. Deals false b (cond v (after_call c k b) b) (cond v (call_marks c k b) []) (cond v (call_deliveries c k b) [])) [
  | true ↦ call_deals c k b line
  | false ↦ quiet refl tt (same_waits refl)
]
