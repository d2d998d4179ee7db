-- The texts of properties, as pairs of a property's number and its text.
use Rattle.std.specs.Prelude.{Some, ℕ, ◌==◌, List, [], ◌∷◌, Option, None, if◌then◌else◌}
use Rattle.lapin_values.specs.Data.{Data}
use Rattle.lapin_values.specs.Properties.{Properties}
use Rattle.lapin_values.specs.Chain.{Chain}

-- the text of property k, where it is set
abbrev pub text_of : ℕ → List (ℕ × List ℕ) → Option (List ℕ)
text_of k [] = None
text_of k (t ∷ ts) = if k == t.0 then Some t.1 else text_of k ts

-- the texts without that of property k
abbrev pub without : ℕ → List (ℕ × List ℕ) → List (ℕ × List ℕ)
without k [] = []
without k (t ∷ ts) = if k == t.0 then without k ts else t ∷ without k ts

-- the properties whose texts are given by number
abbrev pub by_slots : (ℕ → Option (List ℕ)) → Option (List (List ℕ × Data)) → Option ℕ → Option ℕ → Option ℕ → Properties
by_slots f headers mode priority time = record {
  content_type = f 0;
  content_encoding = f 1;
  headers = headers;
  delivery_mode = mode;
  priority = priority;
  correlation_id = f 2;
  reply_to = f 3;
  expiration = f 4;
  message_id = f 5;
  timestamp = time;
  kind = f 6;
  user_id = f 7;
  app_id = f 8;
  cluster_id = f 9;
}

-- the properties as they are held
abbrev pub seen : Chain → List (List ℕ × Data) → Properties
seen c headers =
    by_slots (λ k. text_of k c.texts) (if c.marks.has_headers then Some headers else None) c.marks.delivery_mode c.marks.priority (if c.marks.has_timestamp then Some c.timestamp else None)
