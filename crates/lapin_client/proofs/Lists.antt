-- Lists of properties that lie as octets.
use Rattle.std.proofs.Common.{◌≡◌, ◌<◌, ◌^◌, ℕ, Bool, true, false, cond, List, [], ◌∷◌, length, Option, Some, None, refl, sym, ap, ◌∙◌}
use Rattle.std.proofs.lemmas.Bool.{ltb-true, lt-ltb}
use Rattle.std.specs.Prelude.{nat_eq}
use Rattle.std.specs.Cmp.Lexicographic.{pointwise, bytes_decides}
use Rattle.lapin_client.specs.Parcels.{is_short, is_whole, list_in, list_or}
use Rattle.lapin_fields.specs.Opaque.{carrier}
use Rattle.lapin_frames.specs.Carried.{carrying}
use Rattle.lapin_frames.specs.Headers.{carried_list, list_by, listed_bytes, properties_bytes}
use Rattle.lapin_types.specs.declared.message.Delivery.{Delivery}
use Rattle.lapin_values.specs.Properties.{Properties, no_properties, properties_code}
use Rattle.lapin_values.specs.Same.{same_by, same_by-Decides}

-- the octets that stand in an option, or none
abbrev pub or_empty : Option (List ℕ) → List ℕ
or_empty None = []
or_empty (Some l) = l

list_of : (p : Properties) (o : Option (List ℕ)) (b : Bool) (list : List ℕ) → carried_list p ≡ o → same_by properties_code p no_properties ≡ b → list_or o b ≡ Some list → properties_bytes p ≡ list
list_of p (Some l) b list carried bare is = ap (λ (o : Option (List ℕ)). list_by o p) carried ∙ ap or_empty is
list_of p None true list carried bare is =
    ap (λ (o : Option (List ℕ)). list_by o p) carried ∙ ap listed_bytes ((same_by-Decides properties_code p no_properties).0 bare) ∙ ap or_empty is
list_of p None false list carried bare is = absurd cc

-- the octets of a list that lies so are those of the properties
pub list_told : (p : Properties) (list : List ℕ) → list_in p ≡ Some list → list ≡ properties_bytes p
list_told p list is = sym (list_of p (carried_list p) (same_by properties_code p no_properties) list refl refl is)

-- one of a message whose octets lie as they are told is there, and short
pub whole_short : (x : Delivery) (list : List ℕ) → is_whole x ≡ true → list_in x.properties ≡ Some list → length list < 2 ^ 32
whole_short x list whole is = ltb-true (length list) (2 ^ 32) (ap is_short (sym is) ∙ whole)

pub whole_there : (x : Delivery) → is_whole x ≡ true → list_in x.properties ≡ None → ⊥
whole_there x whole is = let s : is_short None ≡ true = ap is_short (sym is) ∙ whole in absurd cc

-- where no list is carried, none lies so but that of no property
lies_as : (p : Properties) (r : Bool) → None ≡ carried_list p → r ≡ same_by properties_code p no_properties → list_or None r ≡ list_in p
lies_as p r none is = ap (λ (o : Option (List ℕ)). list_or o r) none ∙ ap (λ (b : Bool). list_or (carried_list p) b) is

pub bare_list : (p : Properties) (r : Bool) → None ≡ carried_list p → r ≡ same_by properties_code p no_properties → r ≡ true → Some (0 ∷ 0 ∷ []) ≡ list_in p
bare_list p r none is bare = ap (λ (b : Bool). list_or None b) (sym bare) ∙ lies_as p r none is

pub no_list : (p : Properties) (r : Bool) → None ≡ carried_list p → r ≡ same_by properties_code p no_properties → r ≡ false → None ≡ list_in p
no_list p r none is given = ap (λ (b : Bool). list_or None b) (sym given) ∙ lies_as p r none is

-- a list that is carried lies so, whatever it is
lies_by : (list : List ℕ) (b : Bool) → pointwise nat_eq list (0 ∷ 0 ∷ []) ≡ b → list_in (cond b no_properties (record no_properties { headers = Some (carrier list) })) ≡ Some list
unfolding same_by
lies_by list true none = ap Some (sym ((bytes_decides list (0 ∷ 0 ∷ [])).0 none))
lies_by list false some = refl

pub carried_whole : (x : Delivery) (list : List ℕ) → x.properties ≡ carrying list → length list < 2 ^ 32 → is_whole x ≡ true
carried_whole x list is short =
    ap (λ (p : Properties). is_short (list_in p)) is ∙ ap is_short (lies_by list (pointwise nat_eq list (0 ∷ 0 ∷ [])) refl) ∙ lt-ltb (length list) (2 ^ 32) short
