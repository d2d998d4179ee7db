-- What the walk of a drain comes to: those that are over leave with their messages, in order.
use Rattle.std.proofs.Common.{◌≡◌, ℕ, Bool, true, false, cond, List, [], ◌∷◌, ◌++◌, refl, sym, ◌∙◌, not}
use Rattle.std.specs.List.{filter}
use Rattle.std.proofs.lemmas.List.{append_assoc, append-nil}
use Rattle.lapin_types.specs.declared.message.BasicReturnMessage.{BasicReturnMessage}
use Rattle.lapin_rules.specs.ReturnLists.{ReturnLists, opt_list, message_at, without, without_all, messages_of}
use Rattle.lapin_confirm.specs.Drain.{Swept, sweep_all}

abbrev swept : List ℕ → List ℕ → List BasicReturnMessage → List (ℕ × BasicReturnMessage) → Swept
swept l o g a = record { left = l; over = o; given = g; attached = a }

pub sweep-is : (done : ℕ → Bool) (ns l o : List ℕ) (g : List BasicReturnMessage) (a : List (ℕ × BasicReturnMessage)) → sweep_all done ns (swept l o g a) ≡ swept (l ++ filter (λ n. not (done n)) ns) (o ++ filter done ns) (g ++ messages_of (filter done ns) a) (without_all (filter done ns) a)
sweep-is done [] l o g a = sym (rw (append-nil l, append-nil o, append-nil g) refl)
sweep-is done (n ∷ ns) l o g a =
    elim (done n) as (λ b. sweep_all done ns (cond b (swept l (o ++ n ∷ []) (g ++ opt_list (message_at n a)) (without n a)) (swept (l ++ n ∷ []) o g a)) ≡ swept (l ++ cond (not b) (n ∷ filter (λ m. not (done m)) ns) (filter (λ m. not (done m)) ns)) (o ++ cond b (n ∷ filter done ns) (filter done ns)) (g ++ messages_of (cond b (n ∷ filter done ns) (filter done ns)) a) (without_all (cond b (n ∷ filter done ns) (filter done ns)) a)) [
      | true ↦ sweep-is done ns l (o ++ n ∷ []) (g ++ opt_list (message_at n a)) (without n a) ∙ rw (append_assoc o (n ∷ []) (filter done ns), append_assoc g (opt_list (message_at n a)) (messages_of (filter done ns) (without n a))) refl
      | false ↦ sweep-is done ns (l ++ n ∷ []) o g a ∙ rw (append_assoc l (n ∷ []) (filter (λ m. not (done m)) ns)) refl
    ]

pub same-return_lists : (a b : List (ℕ × BasicReturnMessage)) (w u v k j : List BasicReturnMessage) (s t : List ℕ) → a ≡ b → u ≡ v → k ≡ j → s ≡ t → ◌≡◌ {A = ReturnLists} (record { attached = a; waiting = w; unconfirmed = u; kept = k; aside = s }) (record { attached = b; waiting = w; unconfirmed = v; kept = j; aside = t })
same-return_lists a b w u v k j s t attached unconfirmed kept aside = rw (attached, unconfirmed, kept, aside) refl
