-- A map from tags to places, read by the bytes of the tags.
use Rattle.std.proofs.Common.{◌≡◌, ℕ, Bool, true, false, cond, List, [], ◌∷◌, Option, Some, None, refl, sym, ◌∙◌, ap, subst}
use Rattle.std.specs.Prelude.{String, string_bytes, string_eq, bytes_eq}
use Rattle.std.specs.HashMap.{HashMap, UpdatesBy, get}
use Rattle.std.specs.Map.{lookup, lookup_key}
use Rattle.std.specs.Cmp.Lexicographic.{same_text}
use Rattle.std.proofs.lemmas.Map.Made.{lookup_key_passes}
use Rattle.std.proofs.lemmas.Map.Text.{is_text, hash_map_updates_text}
use Rattle.lapin_consumer.specs.Indexed.{by_text}

module _ {Y : Type 0} where
  pub by-text : (t : List ℕ) (es : List (String Y × ℕ)) → lookup (bytes_eq t) (by_text es) ≡ lookup (is_text t) es
  by-text t [] = refl
  by-text t (e ∷ es) = ap (λ o. cond (bytes_eq t (string_bytes e.0)) (Some e.1) o) (by-text t es)

  -- a tag is put or taken out
  pub after-put : {S : Type 0} (t : List ℕ) (m n : HashMap (String Y) ℕ S) (w : Option ℕ) → UpdatesBy string_eq (is_text t) m n w → (u : List ℕ) → lookup (bytes_eq u) (by_text n.entries) ≡ cond (bytes_eq t u) w (lookup (bytes_eq u) (by_text m.entries))
  after-put t m n w updates u = by-text u n.entries ∙ hash_map_updates_text t m n w updates u ∙ ap (λ o. cond (bytes_eq t u) w o) (sym (by-text u m.entries))

  no-key : (test : String Y → Bool) (es : List (String Y × ℕ)) → lookup_key test es ≡ None → lookup test es ≡ None
  no-key test [] none = refl
  no-key test (e ∷ es) none = by (test e.0) none (no-key test es)
    where
      by : (b : Bool) → cond b (Some e.0) (lookup_key test es) ≡ None → (lookup_key test es ≡ None → lookup test es ≡ None) → cond b (Some e.1) (lookup test es) ≡ None
      by true h rest = cc
      by false h rest = rest h

  -- two lists with the same under each key have the same under each text
  same-keys : (t : List ℕ) (k : String Y) (es fs : List (String Y × ℕ)) → ((q : String Y) → lookup (string_eq q) fs ≡ lookup (string_eq q) es) → is_text t k ≡ true → lookup (is_text t) fs ≡ lookup (is_text t) es
  same-keys t k es fs same is = let P : List ℕ → Type 0 = λ u. lookup (is_text u) fs ≡ lookup (is_text u) es in subst P (sym (same_text t (string_bytes k) (sym is))) (same k)

  same-texts : (t : List ℕ) (es fs : List (String Y × ℕ)) (o p : Option (String Y)) → ((q : String Y) → lookup (string_eq q) fs ≡ lookup (string_eq q) es) → lookup_key (is_text t) es ≡ o → lookup_key (is_text t) fs ≡ p → lookup (is_text t) fs ≡ lookup (is_text t) es
  same-texts t es fs (Some k) p same at to = same-keys t k es fs same (lookup_key_passes (is_text t) es k at)
  same-texts t es fs None (Some k) same at to = same-keys t k es fs same (lookup_key_passes (is_text t) fs k to)
  same-texts t es fs None None same at to = no-key (is_text t) fs to ∙ sym (no-key (is_text t) es at)

  -- room is made
  pub after-move : {S : Type 0} (m n : HashMap (String Y) ℕ S) → ((q : String Y) → get string_eq n q ≡ get string_eq m q) → (t : List ℕ) → lookup (bytes_eq t) (by_text n.entries) ≡ lookup (bytes_eq t) (by_text m.entries)
  after-move m n same t = by-text t n.entries ∙ same-texts t m.entries n.entries (lookup_key (is_text t) m.entries) (lookup_key (is_text t) n.entries) same refl refl ∙ sym (by-text t m.entries)
