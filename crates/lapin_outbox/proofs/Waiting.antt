-- The table of requests, as a contract sees it.
use Rattle.std.proofs.Common.{◌≡◌, ℕ, List, [], ◌∷◌, ◌++◌, Option, Some, None, OnSome, IfNone, sym, ◌∙◌, ap, refl}
use Rattle.std.specs.Option.{option_map}
use Rattle.std.proofs.lemmas.List.{map_push}
use Rattle.lapin_tables.specs.ByChannel.{at_channel, on_channel}
use Rattle.lapin_tables.proofs.Channels.{at-values, on-values, on-same}
use Rattle.lapin_types.specs.declared.request.Request.{Request}
use Rattle.lapin_rules.specs.Words.{with_channel}
use Rattle.lapin_rules.specs.Requests.{requests_in}
use Rattle.lapin_outbox.specs.Open.{OpenOnChannel, OpenRequests, waiting_in, seen, requests_at}
use Rattle.std.proofs.lemmas.Result.{on_ok_weaker}

-- what a contract sees of the table's entries
pub waiting-is : (es aside : List (ℕ × OpenOnChannel)) (now : OpenRequests) → seen es aside ≡ now → waiting_in es ≡ now.what
waiting-is es aside now view = ap (λ (o : OpenRequests). o.what) view

abbrev requests : OpenOnChannel → List Request
requests q = q.open_requests

module _ (c : ℕ) (es : List (ℕ × OpenOnChannel)) (old : List (ℕ × List Request)) where
  -- the entry of a channel, as a contract sees it
  pub there : (o : Option OpenOnChannel) → waiting_in es ≡ old → at_channel c es ≡ o → at_channel c old ≡ option_map requests o
  there o view at = sym (ap (at_channel c) view) ∙ at-values requests c es ∙ ap (option_map requests) at

  -- a channel that a contract sees without an entry has none
  pub not-there : waiting_in es ≡ old → at_channel c old ≡ None → at_channel c es ≡ None
  not-there view absent = no-entry (at_channel c es) (sym (at-values requests c es) ∙ ap (at_channel c) view ∙ absent)
    where
      no-entry : (o : Option OpenOnChannel) → option_map requests o ≡ None → o ≡ None
      no-entry None h = refl
      no-entry (Some q) h = cc

  -- the requests of a channel that has an entry
  pub requests-found : (q : OpenOnChannel) → waiting_in es ≡ old → at_channel c es ≡ Some q → requests_at c old ≡ q.open_requests
  requests-found q view at = ap requests_in (there (Some q) view at)

  -- a channel without an entry has none
  pub requests-absent : waiting_in es ≡ old → at_channel c es ≡ None → requests_at c old ≡ []
  requests-absent view at = ap requests_in (there None view at)

  pub written : (q new : OpenOnChannel) (rs : List Request) → waiting_in es ≡ old → at_channel c es ≡ Some q → new.open_requests ≡ rs → waiting_in (on_channel c (λ _. new) es) ≡ with_channel c rs old
  written q new rs view at is = on-values requests c new es ∙ rw (view, is, there (Some q) view at) refl

  pub kept : (q new : OpenOnChannel) → waiting_in es ≡ old → at_channel c es ≡ Some q → new.open_requests ≡ q.open_requests → waiting_in (on_channel c (λ _. new) es) ≡ old
  kept q new view at is = on-values requests c new es ∙ rw (view, is) (on-same c q.open_requests old (there (Some q) view at))

  -- a channel gets its entry
  pub added : (new : OpenOnChannel) (rs : List Request) → waiting_in es ≡ old → at_channel c es ≡ None → new.open_requests ≡ rs → waiting_in (es ++ (c, new) ∷ []) ≡ with_channel c rs old
  added new rs view at is = map_push (λ (e : ℕ × OpenOnChannel). (e.0, e.1.open_requests)) es (c, new) ∙ rw (view, is, there None view at) refl

-- a fact that holds in any case, and facts that follow from others
pub on-some : {T P : Type 0} (o : Option T) → P → OnSome o P
on-some None p = tt
on-some (Some x) p = p

pub if-none : {T P Q : Type 0} (o : Option T) → (P → Q) → IfNone o P → IfNone o Q
if-none None f p = f p
if-none (Some x) f p = tt
