-- The return lists of confirms that follow a history follow the longer one.
use Rattle.std.proofs.Common.{◌≡◌, ◌≢◌, ℕ, ◌==◌, Bool, true, false, not, cond, ◌||◌, List, [], ◌∷◌, ◌++◌, Option, Some, None, refl, sym, ◌∙◌, ap, subst, inl, inr, eq-eqb}
use Rattle.std.specs.List.{filter}
use Rattle.std.specs.Option.{option_map}
use Rattle.std.proofs.Math.Bool.{or-true}
use Rattle.std.proofs.lemmas.Bool.Decides.{eqb_tells}
use Rattle.std.proofs.lemmas.List.{append-nil}
use Rattle.lapin_types.specs.declared.message.BasicReturnMessage.{BasicReturnMessage}
use Rattle.lapin_rules.specs.ConfirmMarks.{ConfirmMark}
use Rattle.lapin_rules.specs.ConfirmMarks as mark
use Rattle.lapin_rules.specs.ConfirmReadings.{begins, is_begun, is_selected, channel_of, covers}
use Rattle.lapin_rules.specs.ReturnLists.{ReturnLists, arrived_in, attached_to_all, taken_out, set_by, drained_return_lists, drained_messages, renewed}
use Rattle.lapin_rules.specs.ReturnReadings.{is_done, is_gone, covered, return_lists_step, return_lists_of, drained}
use Rattle.lapin_rules.specs.Words.{is_some}
use Rattle.lapin_rules.proofs.ListLaws.{or_false, any-push}
use Rattle.lapin_rules.proofs.ReturnLaws.{return_lists-push}
use Rattle.lapin_rules.proofs.ChannelLaws.{at-on, at-with}
use Rattle.lapin_tables.specs.ByChannel.{at_channel, on_channel}
use Rattle.lapin_tables.proofs.Channels.{at-on_same, at-on_other}
use Rattle.lapin_tables.specs.Numbered.{under}
use Rattle.lapin_confirm.specs.declared.origin.Origin.{Origin}
use Rattle.lapin_confirm.specs.PublishStates.{is_resolved, selected_on}
use Rattle.lapin_confirm.specs.ConfirmState.{ConfirmState, messages_on, messages_off, with_early, without_early, return_lists_or, return_lists_at, on_origin, covered_in}
use Rattle.lapin_confirm.specs.Aside.{kept_by, laid_by, put_aside}
use Rattle.lapin_confirm.specs.Drain.{is_over, drained_on}
use Rattle.lapin_confirm.specs.Machine.{after_mark}
use Rattle.lapin_confirm.specs.Follows.{Follows, MayCome}
use Rattle.lapin_confirm.proofs.AsideFollowing.{stands, filter-same}
use Rattle.lapin_confirm.proofs.EarlyMessages.{on-push, on-off, on-other}
use Rattle.lapin_confirm.proofs.Facts.{facts, unfinished-kept, begun-of}
use Rattle.lapin_confirm.proofs.Reading.{selected-read, covered-read, origin-there, done-read, over-read}

-- ---- the return lists of a channel, as those of one change

return_lists-on : (c d : ℕ) (f : ReturnLists → ReturnLists) (early : List BasicReturnMessage) (ts : List (ℕ × ReturnLists)) → (at_channel d ts ≡ None → f (return_lists_or early None) ≡ return_lists_or early None) → return_lists_or early (at_channel c (on_channel d f ts)) ≡ cond (d == c) (f (return_lists_or early (at_channel c ts))) (return_lists_or early (at_channel c ts))
return_lists-on c d f early ts none =
    ap (return_lists_or early) (at-on d c f ts)
    ∙ elim (eqb_tells d c) [
      | inl same ↦ let P : ℕ → Type 0 = λ i. at_channel i ts ≡ None → f (return_lists_or early None) ≡ return_lists_or early None in rw same.0 (there (at_channel c ts) (subst P same.1 none))
      | inr other ↦ rw other.0 refl
    ]
  where
    there : (o : Option ReturnLists) → (o ≡ None → f (return_lists_or early None) ≡ return_lists_or early None) → return_lists_or early (option_map f o) ≡ f (return_lists_or early o)
    there None h = sym (h refl)
    there (Some l) h = refl

some-on : (c d : ℕ) (f : ReturnLists → ReturnLists) (ts : List (ℕ × ReturnLists)) → is_some (at_channel c (on_channel d f ts)) ≡ is_some (at_channel c ts)
some-on c d f ts =
    ap is_some (at-on d c f ts)
    ∙ elim (d == c) as (λ (b : Bool). is_some (cond b (option_map f (at_channel c ts)) (at_channel c ts)) ≡ is_some (at_channel c ts)) [
      | true ↦ elim (at_channel c ts) as (λ o. is_some (option_map f o) ≡ is_some o) [ None ↦ refl | Some l ↦ refl ]
      | false ↦ refl
    ]

some-origin : (c : ℕ) (o : Option Origin) (f : ReturnLists → ReturnLists) (ts : List (ℕ × ReturnLists)) → is_some (at_channel c (on_origin o f ts)) ≡ is_some (at_channel c ts)
some-origin c None f ts = refl
some-origin c (Some h) f ts = some-on c h.channel f ts

-- what is put aside changes the return lists of its channel
put-returned_by_channel : (n : ℕ) (p : ConfirmState) → (put_aside n p).returned_by_channel ≡ on_origin (under n p.origins) (set_by n (is_resolved (under n p.publish_states.cells))) p.returned_by_channel
put-returned_by_channel n p = elim (is_resolved (under n p.publish_states.cells)) as (λ (b : Bool). (cond b (kept_by n p) (laid_by n p)).returned_by_channel ≡ on_origin (under n p.origins) (set_by n b) p.returned_by_channel) [ true ↦ refl | false ↦ refl ]

put-early : (n : ℕ) (p : ConfirmState) → (put_aside n p).early ≡ p.early
put-early n p = elim (is_resolved (under n p.publish_states.cells)) as (λ (b : Bool). (cond b (kept_by n p) (laid_by n p)).early ≡ p.early) [ true ↦ refl | false ↦ refl ]

-- ---- a channel with an opening has return lists

returned_by_channel-follow : (ms : List ConfirmMark) (p : ConfirmState) (m : ConfirmMark) → Follows ms p → (c : ℕ) → is_some (at_channel c (after_mark p m).returned_by_channel) ≡ (is_begun c ms || begins c m)
returned_by_channel-follow ms p (mark.Begun d) f c =
    ap is_some (at-with d c (renewed (return_lists_at d p)) p.returned_by_channel)
    ∙ elim (d == c) as (λ (b : Bool). is_some (cond b (Some (renewed (return_lists_at d p))) (at_channel c p.returned_by_channel)) ≡ (is_begun c ms || b)) [ true ↦ sym (or-true (is_begun c ms)) | false ↦ f.returned_by_channel c ∙ sym (or_false (is_begun c ms)) ]
returned_by_channel-follow ms p (mark.Settled d s) f c = some-on c d (attached_to_all (covered_in d (covers s) p.publish_states)) p.returned_by_channel ∙ f.returned_by_channel c ∙ sym (or_false (is_begun c ms))
returned_by_channel-follow ms p (mark.Arrived d x) f c = some-on c d (arrived_in (selected_on d p.publish_states) x) p.returned_by_channel ∙ f.returned_by_channel c ∙ sym (or_false (is_begun c ms))
returned_by_channel-follow ms p (mark.Taken n) f c = some-origin c (under n p.origins) (taken_out n) p.returned_by_channel ∙ f.returned_by_channel c ∙ sym (or_false (is_begun c ms))
returned_by_channel-follow ms p (mark.SetAside n) f c = ap (λ ts. is_some (at_channel c ts)) (put-returned_by_channel n p) ∙ some-origin c (under n p.origins) (set_by n (is_resolved (under n p.publish_states.cells))) p.returned_by_channel ∙ f.returned_by_channel c ∙ sym (or_false (is_begun c ms))
returned_by_channel-follow ms p (mark.Drained d) f c = some-on c d (drained_return_lists (is_over p.publish_states.cells)) p.returned_by_channel ∙ f.returned_by_channel c ∙ sym (or_false (is_begun c ms))
returned_by_channel-follow ms p (mark.SelectCalled d) f c = f.returned_by_channel c ∙ sym (or_false (is_begun c ms))
returned_by_channel-follow ms p (mark.LimitSet d n) f c = f.returned_by_channel c ∙ sym (or_false (is_begun c ms))
returned_by_channel-follow ms p (mark.Added d) f c = f.returned_by_channel c ∙ sym (or_false (is_begun c ms))
returned_by_channel-follow ms p (mark.SelectLeft d) f c = f.returned_by_channel c ∙ sym (or_false (is_begun c ms))
returned_by_channel-follow ms p (mark.Left d n) f c = f.returned_by_channel c ∙ sym (or_false (is_begun c ms))
returned_by_channel-follow ms p (mark.ClosedHere d e) f c = f.returned_by_channel c ∙ sym (or_false (is_begun c ms))
returned_by_channel-follow ms p (mark.Ended d e) f c = f.returned_by_channel c ∙ sym (or_false (is_begun c ms))

pub returned_by_channel-push : (ms : List ConfirmMark) (p : ConfirmState) (m : ConfirmMark) → Follows ms p → (c : ℕ) → is_some (at_channel c (after_mark p m).returned_by_channel) ≡ is_begun c (ms ++ m ∷ [])
returned_by_channel-push ms p m f c = returned_by_channel-follow ms p m f c ∙ sym (any-push (begins c) ms m)

-- ---- what a drain takes

drained-same : (p q : ℕ → Bool) (l : ReturnLists) → ((n : ℕ) → stands n l.aside ≡ true → p n ≡ q n) → drained_return_lists p l ≡ drained_return_lists q l
drained-same p q l same =
    let over : filter p l.aside ≡ filter q l.aside = filter-same p q l.aside same in
    let left : filter (λ n. not (p n)) l.aside ≡ filter (λ n. not (q n)) l.aside = filter-same (λ n. not (p n)) (λ n. not (q n)) l.aside (λ n there. ap not (same n there)) in
    rw (over, left) refl

given-same : (p q : ℕ → Bool) (l : ReturnLists) → ((n : ℕ) → stands n l.aside ≡ true → p n ≡ q n) → drained_messages p l ≡ drained_messages q l
given-same p q l same =
    let over : filter p l.aside ≡ filter q l.aside = filter-same p q l.aside same in
    rw over refl

pub drained-read : (c : ℕ) (ms : List ConfirmMark) (p : ConfirmState) → Follows ms p → drained_on c p ≡ drained c ms
drained-read c ms p f = ap (drained_messages (is_over p.publish_states.cells)) (f.return_lists c) ∙ given-same (is_over p.publish_states.cells) (is_done ms) (return_lists_of c ms) (λ n there. over-read c n ms p f there)

-- ---- the return lists after a mark

attached_none : (ns : List ℕ) (early : List BasicReturnMessage) → attached_to_all ns (return_lists_or early None) ≡ return_lists_or early None
attached_none [] early = refl
attached_none (n ∷ ns) early = attached_none ns early

there-is : (d : ℕ) (ms : List ConfirmMark) (p : ConfirmState) → Follows ms p → is_begun d ms ≡ true → at_channel d p.returned_by_channel ≡ None → ⊥
there-is d ms p f begun none = let no : false ≡ true = sym (ap is_some none) ∙ f.returned_by_channel d ∙ begun in cc

-- a change of one channel's return lists that is the history's
same-change : (c d : ℕ) (g h : ReturnLists → ReturnLists) (l : ReturnLists) → (d ≡ c → g l ≡ h l) → cond (d == c) (g l) l ≡ cond (d == c) (h l) l
same-change c d g h l same =
    elim (eqb_tells d c) [
      | inl here ↦ rw here.0 (same here.1)
      | inr other ↦ rw other.0 refl
    ]

-- where a change is of the return lists that follow
change-follows : (c d : ℕ) (g h : ReturnLists → ReturnLists) (ms : List ConfirmMark) (p : ConfirmState) → Follows ms p → (at_channel d p.returned_by_channel ≡ None → g (return_lists_or (messages_on c p.early) None) ≡ return_lists_or (messages_on c p.early) None) → (d ≡ c → g (return_lists_of c ms) ≡ h (return_lists_of c ms)) → return_lists_or (messages_on c p.early) (at_channel c (on_channel d g p.returned_by_channel)) ≡ cond (d == c) (h (return_lists_of c ms)) (return_lists_of c ms)
change-follows c d g h ms p f none same =
    return_lists-on c d g (messages_on c p.early) p.returned_by_channel none
    ∙ ap (λ (l : ReturnLists). cond (d == c) (g l) l) (f.return_lists c)
    ∙ same-change c d g h (return_lists_of c ms) same

-- a message comes, a channel is drained: to a channel that had an opening as to its return lists, and else to its early messages

less-early : (c d : ℕ) (p : ConfirmState) → d ≢ c → messages_on c (without_early d p) ≡ messages_on c p.early
less-early c d p other = elim (is_some (at_channel d p.returned_by_channel)) as (λ b. messages_on c (cond b p.early (messages_off d p.early)) ≡ messages_on c p.early) [ true ↦ refl | false ↦ on-other c d p.early other ]

more-early : (c d : ℕ) (x : BasicReturnMessage) (p : ConfirmState) → (d == c) ≡ false → messages_on c (with_early d x p) ≡ messages_on c p.early
more-early c d x p other = elim (is_some (at_channel d p.returned_by_channel)) as (λ b. messages_on c (cond b p.early (p.early ++ (d, x) ∷ [])) ≡ messages_on c p.early) [ true ↦ refl | false ↦ on-push c d x p.early ∙ rw other (append-nil (messages_on c p.early)) ]

unselected : (c : ℕ) (ms : List ConfirmMark) (p : ConfirmState) → Follows ms p → at_channel c p.returned_by_channel ≡ None → is_selected c ms ≡ false
unselected c ms p f none =
    let unbegun : is_begun c ms ≡ false = sym (f.returned_by_channel c) ∙ ap is_some none in
    let mode : at_channel c p.publish_states.confirm_modes ≡ None = f.confirm_modes c ∙ rw unbegun refl in
    sym (selected-read c ms p f) ∙ rw mode refl

arrived-here : (c : ℕ) (x : BasicReturnMessage) (ms : List ConfirmMark) (p : ConfirmState) → Follows ms p → return_lists_at c (after_mark p (mark.Arrived c x)) ≡ arrived_in (is_selected c ms) x (return_lists_of c ms)
arrived-here c x ms p f =
    ap (return_lists_or (messages_on c (with_early c x p))) (at-on_same c (arrived_in (selected_on c p.publish_states) x) p.returned_by_channel)
    ∙ by (at_channel c p.returned_by_channel) refl
    ∙ ap (arrived_in (is_selected c ms) x) (f.return_lists c)
  where
    by : (o : Option ReturnLists) → at_channel c p.returned_by_channel ≡ o → return_lists_or (messages_on c (cond (is_some o) p.early (p.early ++ (c, x) ∷ []))) (option_map (arrived_in (selected_on c p.publish_states) x) o) ≡ arrived_in (is_selected c ms) x (return_lists_or (messages_on c p.early) o)
    by None none = rw (unselected c ms p f none) (ap (λ early. return_lists_or early None) (on-push c c x p.early ∙ rw (eq-eqb c c refl) refl))
    by (Some l) is = ap (λ (b : Bool). arrived_in b x l) (selected-read c ms p f)

arrived-follow : (c d : ℕ) (x : BasicReturnMessage) (ms : List ConfirmMark) (p : ConfirmState) → Follows ms p → return_lists_at c (after_mark p (mark.Arrived d x)) ≡ return_lists_step c ms (mark.Arrived d x) (return_lists_of c ms)
arrived-follow c d x ms p f =
    elim (eqb_tells d c) [
      | inl same ↦
          let P : ℕ → Type 0 = λ i. return_lists_at c (after_mark p (mark.Arrived i x)) ≡ return_lists_step c ms (mark.Arrived i x) (return_lists_of c ms) in
          subst P (sym same.1) (arrived-here c x ms p f ∙ rw (eq-eqb c c refl) refl)
      | inr other ↦
          rw other.0
          (ap (return_lists_or (messages_on c (with_early d x p))) (at-on_other d c (arrived_in (selected_on d p.publish_states) x) p.returned_by_channel other.1)
          ∙ ap (λ early. return_lists_or early (at_channel c p.returned_by_channel)) (more-early c d x p other.0)
          ∙ f.return_lists c)
    ]

drained-here : (c : ℕ) (ms : List ConfirmMark) (p : ConfirmState) → Follows ms p → return_lists_at c (after_mark p (mark.Drained c)) ≡ drained_return_lists (is_done ms) (return_lists_of c ms)
drained-here c ms p f =
    ap (return_lists_or (messages_on c (without_early c p))) (at-on_same c (drained_return_lists (is_over p.publish_states.cells)) p.returned_by_channel)
    ∙ by (at_channel c p.returned_by_channel)
    ∙ ap (drained_return_lists (is_over p.publish_states.cells)) (f.return_lists c)
    ∙ drained-same (is_over p.publish_states.cells) (is_done ms) (return_lists_of c ms) (λ n there. over-read c n ms p f there)
  where
    by : (o : Option ReturnLists) → return_lists_or (messages_on c (cond (is_some o) p.early (messages_off c p.early))) (option_map (drained_return_lists (is_over p.publish_states.cells)) o) ≡ drained_return_lists (is_over p.publish_states.cells) (return_lists_or (messages_on c p.early) o)
    by None = ap (λ early. return_lists_or early None) (on-off c p.early)
    by (Some l) = refl

drained-follow : (c d : ℕ) (ms : List ConfirmMark) (p : ConfirmState) → Follows ms p → return_lists_at c (after_mark p (mark.Drained d)) ≡ return_lists_step c ms (mark.Drained d) (return_lists_of c ms)
drained-follow c d ms p f =
    elim (eqb_tells d c) [
      | inl same ↦
          let P : ℕ → Type 0 = λ i. return_lists_at c (after_mark p (mark.Drained i)) ≡ return_lists_step c ms (mark.Drained i) (return_lists_of c ms) in
          subst P (sym same.1) (drained-here c ms p f ∙ rw (eq-eqb c c refl) refl)
      | inr other ↦
          rw other.0
          (ap (return_lists_or (messages_on c (without_early d p))) (at-on_other d c (drained_return_lists (is_over p.publish_states.cells)) p.returned_by_channel other.1)
          ∙ ap (λ early. return_lists_or early (at_channel c p.returned_by_channel)) (less-early c d p other.1)
          ∙ f.return_lists c)
    ]

return_lists-follow : (ms : List ConfirmMark) (p : ConfirmState) (m : ConfirmMark) → Follows ms p → MayCome ms m → (c : ℕ) → return_lists_at c (after_mark p m) ≡ return_lists_step c ms m (return_lists_of c ms)
return_lists-follow ms p (mark.Begun d) f may c =
    ap (return_lists_or (messages_on c (without_early d p))) (at-with d c (renewed (return_lists_at d p)) p.returned_by_channel)
    ∙ elim (eqb_tells d c) [
      | inl same ↦ rw same.0 (ap renewed (ap (λ i. return_lists_at i p) same.1 ∙ f.return_lists c))
      | inr other ↦ rw other.0 (ap (λ early. return_lists_or early (at_channel c p.returned_by_channel)) (less-early c d p other.1) ∙ f.return_lists c)
    ]
return_lists-follow ms p (mark.Settled d s) f may c =
    change-follows c d (attached_to_all (covered_in d (covers s) p.publish_states)) (attached_to_all (covered c s ms)) ms p f
    (λ none. attached_none (covered_in d (covers s) p.publish_states) (messages_on c p.early))
    (λ same. ap (λ (ns : List ℕ). attached_to_all ns (return_lists_of c ms)) (covered-read d s ms p f ∙ ap (λ i. covered i s ms) same))
return_lists-follow ms p (mark.Arrived d x) f may c = arrived-follow c d x ms p f
return_lists-follow ms p (mark.Taken n) f may c =
    let kept : is_gone n ms ≡ false = unfinished-kept n ms (facts ms f.came) may.1 in
    ap (λ o. return_lists_or (messages_on c p.early) (at_channel c (on_origin o (taken_out n) p.returned_by_channel))) (origin-there n ms p f may.0 kept)
    ∙ change-follows c (channel_of n ms) (taken_out n) (taken_out n) ms p f (λ none. refl) (λ same. refl)
return_lists-follow ms p (mark.SetAside n) f may c =
    let kept : is_gone n ms ≡ false = unfinished-kept n ms (facts ms f.came) may.1 in
    let done : is_resolved (under n p.publish_states.cells) ≡ is_done ms n = done-read n ms p f may.0 kept in
    ap (λ early. return_lists_or (messages_on c early) (at_channel c (put_aside n p).returned_by_channel)) (put-early n p)
    ∙ ap (λ ts. return_lists_or (messages_on c p.early) (at_channel c ts)) (put-returned_by_channel n p)
    ∙ ap (λ o. return_lists_or (messages_on c p.early) (at_channel c (on_origin o (set_by n (is_resolved (under n p.publish_states.cells))) p.returned_by_channel))) (origin-there n ms p f may.0 kept)
    ∙ change-follows c (channel_of n ms) (set_by n (is_resolved (under n p.publish_states.cells))) (set_by n (is_done ms n)) ms p f
    (λ none. absurd (there-is (channel_of n ms) ms p f (begun-of n ms (facts ms f.came) may.0) none))
    (λ same. ap (λ (b : Bool). set_by n b (return_lists_of c ms)) done)
return_lists-follow ms p (mark.Drained d) f may c = drained-follow c d ms p f
return_lists-follow ms p (mark.SelectCalled d) f may c = f.return_lists c
return_lists-follow ms p (mark.LimitSet d n) f may c = f.return_lists c
return_lists-follow ms p (mark.Added d) f may c = f.return_lists c
return_lists-follow ms p (mark.SelectLeft d) f may c = f.return_lists c
return_lists-follow ms p (mark.Left d n) f may c = f.return_lists c
return_lists-follow ms p (mark.ClosedHere d e) f may c = f.return_lists c
return_lists-follow ms p (mark.Ended d e) f may c = f.return_lists c

pub return_lists-after : (ms : List ConfirmMark) (p : ConfirmState) (m : ConfirmMark) → Follows ms p → MayCome ms m → (c : ℕ) → return_lists_at c (after_mark p m) ≡ return_lists_of c (ms ++ m ∷ [])
return_lists-after ms p m f may c = return_lists-follow ms p m f may c ∙ sym (return_lists-push c ms m)
