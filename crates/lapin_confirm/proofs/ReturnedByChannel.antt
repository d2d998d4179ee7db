-- What callers see of the returned by channel of returned messages, as one channel's changes.
use Rattle.std.proofs.Common.{◌≡◌, ℕ, ◌==◌, cond, true, false, List, [], ◌∷◌, ◌++◌, Option, Some, None, is_some, refl, sym, ◌∙◌, ap}
use Rattle.std.specs.Option.{option_map, IsSome}
use Rattle.std.proofs.lemmas.List.{map_push}
use Rattle.lapin_types.specs.declared.message.BasicReturnMessage.{BasicReturnMessage}
use Rattle.lapin_rules.specs.ReturnLists.{ReturnLists, no_return_lists, return_of, taken_out, renewed}
use Rattle.lapin_rules.specs.Words.{is_some as is_there, with_channel}
use Rattle.lapin_confirm.specs.declared.origin.Origin.{Origin}
use Rattle.lapin_confirm.specs.PublishStates.{taken}
use Rattle.lapin_confirm.specs.ConfirmState.{ConfirmState, return_lists_in, return_lists_or, origin_return_lists, on_origin, message_of, given}
use Rattle.lapin_tables.specs.Numbered.{under, with_under}
use Rattle.lapin_tables.specs.ByChannel.{at_channel, on_channel}
use Rattle.lapin_tables.proofs.Channels.{at-values, on-values, on-absent, on-known, on-same}
use Rattle.lapin_confirm.specs.ReturnedMessages.{ReturnedMessages}
use Rattle.lapin_confirm.specs.Ties.{returned_by_channel_of}
use Rattle.lapin_confirm.proofs.Places.{without-none}

pub returned_messages-at : (c : ℕ) (es : List (ℕ × ReturnedMessages)) (o : Option ReturnedMessages) → at_channel c es ≡ o → at_channel c (returned_by_channel_of es) ≡ option_map (λ t. t.return_lists) o
returned_messages-at c es o is = at-values (λ (t : ReturnedMessages). t.return_lists) c es ∙ ap (option_map (λ (t : ReturnedMessages). t.return_lists)) is

-- a channel without a returned messages
pub no-returned_messages : (c : ℕ) (es : List (ℕ × ReturnedMessages)) → at_channel c es ≡ None → IsSome (at_channel c (returned_by_channel_of es)) → ⊥
no-returned_messages c es none has = let never : false ≡ true = rw (returned_messages-at c es None none) at has in cc

pub returned_by_channel-on : (c : ℕ) (f : ReturnLists → ReturnLists) (t k : ReturnedMessages) (es : List (ℕ × ReturnedMessages)) → at_channel c es ≡ Some t → k.return_lists ≡ f t.return_lists → returned_by_channel_of (on_channel c (λ _. k) es) ≡ on_channel c f (returned_by_channel_of es)
returned_by_channel-on c f t k es is return_lists =
    on-values (λ (t : ReturnedMessages). t.return_lists) c k es
    ∙ ap (λ (l : ReturnLists). on_channel c (λ _. l) (returned_by_channel_of es)) return_lists
    ∙ sym (on-known c f t.return_lists (returned_by_channel_of es) (returned_messages-at c es (Some t) is))

pub returned_by_channel-same : (c : ℕ) (t k : ReturnedMessages) (es : List (ℕ × ReturnedMessages)) → at_channel c es ≡ Some t → k.return_lists ≡ t.return_lists → returned_by_channel_of (on_channel c (λ _. k) es) ≡ returned_by_channel_of es
returned_by_channel-same c t k es is return_lists =
    on-values (λ (t : ReturnedMessages). t.return_lists) c k es
    ∙ ap (λ (l : ReturnLists). on_channel c (λ _. l) (returned_by_channel_of es)) return_lists
    ∙ on-same c t.return_lists (returned_by_channel_of es) (returned_messages-at c es (Some t) is)

pub returned_by_channel-absent : (c : ℕ) (f : ReturnLists → ReturnLists) (es : List (ℕ × ReturnedMessages)) → at_channel c es ≡ None → on_channel c f (returned_by_channel_of es) ≡ returned_by_channel_of es
returned_by_channel-absent c f es none = on-absent c f (returned_by_channel_of es) (returned_messages-at c es None none)

-- a change that changes nothing
pub on-still : {X : Type 0} (c : ℕ) (f : X → X) (es : List (ℕ × X)) → ((x : X) → f x ≡ x) → on_channel c f es ≡ es
on-still c f [] h = refl
on-still c f (e ∷ es) h =
    elim (e.0 == c) as (λ b. cond b ((e.0, f e.1) ∷ es) (e ∷ on_channel c f es) ≡ e ∷ es) [
      | true ↦ ap (λ y. (e.0, y) ∷ es) (h e.1)
      | false ↦ ap (λ ys. e ∷ ys) (on-still c f es h)
    ]

-- a first returned messages
pub returned_by_channel-new : (c : ℕ) (t : ReturnedMessages) (ts : List (ℕ × ReturnedMessages)) → at_channel c ts ≡ None → t.return_lists ≡ no_return_lists → returned_by_channel_of (ts ++ (c, t) ∷ []) ≡ with_channel c (renewed (return_lists_in (at_channel c (returned_by_channel_of ts)))) (returned_by_channel_of ts)
returned_by_channel-new c t ts none fresh = rw (returned_messages-at c ts None none) (map_push (λ (e : ℕ × ReturnedMessages). (e.0, e.1.return_lists)) ts (c, t) ∙ ap (λ (l : ReturnLists). returned_by_channel_of ts ++ (c, l) ∷ []) fresh)

-- a returned messages that is renewed
pub returned_by_channel-again : (c : ℕ) (t k : ReturnedMessages) (ts : List (ℕ × ReturnedMessages)) → at_channel c ts ≡ Some t → k.return_lists ≡ renewed t.return_lists → returned_by_channel_of (on_channel c (λ _. k) ts) ≡ with_channel c (renewed (return_lists_in (at_channel c (returned_by_channel_of ts)))) (returned_by_channel_of ts)
returned_by_channel-again c t k ts is return_lists = rw (returned_messages-at c ts (Some t) is) (returned_by_channel-on c (λ _. renewed t.return_lists) t k ts is return_lists)

-- ---- early messages are unconfirmed alone

pub early-renewed : (ms : List BasicReturnMessage) (o : Option ReturnLists) → renewed (return_lists_in o) ≡ renewed (return_lists_or ms o)
early-renewed ms None = refl
early-renewed ms (Some l) = refl

pub early-aside : (ms : List BasicReturnMessage) (o : Option ReturnLists) → (return_lists_in o).aside ≡ (return_lists_or ms o).aside
early-aside ms None = refl
early-aside ms (Some l) = refl

pub early-attached : (ms : List BasicReturnMessage) (o : Option ReturnLists) → (return_lists_in o).attached ≡ (return_lists_or ms o).attached
early-attached ms None = refl
early-attached ms (Some l) = refl

-- on a channel that had an opening no message is early
pub early-stay : (c : ℕ) (m : BasicReturnMessage) (t : ReturnedMessages) (ts : List (ℕ × ReturnedMessages)) (es : List (ℕ × BasicReturnMessage)) → at_channel c ts ≡ Some t → cond (is_there (at_channel c (returned_by_channel_of ts))) es (es ++ (c, m) ∷ []) ≡ es
early-stay c m t ts es is = rw (returned_messages-at c ts (Some t) is) refl

-- ---- a confirm that took no message

-- the return lists stay as its message is taken out
untaken : (n : ℕ) (h : Option Origin) (ts : List (ℕ × ReturnLists)) → is_some (return_of n (origin_return_lists h ts)) ≡ false → on_origin h (taken_out n) ts ≡ ts
untaken n None ts none = refl
untaken n (Some h) ts none = by (at_channel h.channel ts) refl none
  where
    by : (o : Option ReturnLists) → at_channel h.channel ts ≡ o → is_some (return_of n (return_lists_in o)) ≡ false → on_channel h.channel (taken_out n) ts ≡ ts
    by None is none = on-absent h.channel (taken_out n) ts is
    by (Some l) is none =
        on-known h.channel (taken_out n) l ts is
        ∙ ap (λ left. on_channel h.channel (λ _. record l { attached = left }) ts) (without-none n l.attached none)
        ∙ on-same h.channel l ts is

-- its result is given without a message
pub given-bare : (n : ℕ) (p : ConfirmState) → is_some (message_of n p) ≡ false → record { publish_states = taken n p.publish_states; returned_by_channel = p.returned_by_channel; early = p.early; origins = with_under n None p.origins } ≡ given n p
given-bare n p none = ap (λ (ts : List (ℕ × ReturnLists)). record { publish_states = taken n p.publish_states; returned_by_channel = ts; early = p.early; origins = with_under n None p.origins }) (sym (untaken n (under n p.origins) p.returned_by_channel none))
