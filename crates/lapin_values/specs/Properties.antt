-- The properties of a message, as plain data.
use Rattle.std.specs.Prelude.{ℕ, List, Option, None, refl}
use Rattle.std.specs.Coded.{Coded, code_by, coded×, coded_ℕ, coded_option}
use Rattle.lapin_values.specs.Data.{Data}
use Rattle.lapin_values.specs.DataCode.{bytes_code, table_code}

-- each property, where it is set (AMQP 0-9-1, class basic, "properties"). `kind` is the standard's `type`
pub record Properties : Type 0 where
  pub content_type : Option (List ℕ)
  pub content_encoding : Option (List ℕ)
  pub headers : Option (List (List ℕ × Data))
  pub delivery_mode : Option ℕ
  pub priority : Option ℕ
  pub correlation_id : Option (List ℕ)
  pub reply_to : Option (List ℕ)
  pub expiration : Option (List ℕ)
  pub message_id : Option (List ℕ)
  pub timestamp : Option ℕ
  pub kind : Option (List ℕ)
  pub user_id : Option (List ℕ)
  pub app_id : Option (List ℕ)
  pub cluster_id : Option (List ℕ)

-- no property is set
abbrev pub no_properties : Properties
no_properties = record {
  content_type = None;
  content_encoding = None;
  headers = None;
  delivery_mode = None;
  priority = None;
  correlation_id = None;
  reply_to = None;
  expiration = None;
  message_id = None;
  timestamp = None;
  kind = None;
  user_id = None;
  app_id = None;
  cluster_id = None;
}

-- how the logic stores them: as a tuple
abbrev pub properties_code : Coded Properties
properties_code =
    code_by (Option (List ℕ) × (Option (List ℕ) × (Option (List (List ℕ × Data)) × (Option (ℕ) × (Option (ℕ) × (Option (List ℕ) × (Option (List ℕ) × (Option (List ℕ) × (Option (List ℕ) × (Option (ℕ) × (Option (List ℕ) × (Option (List ℕ) × (Option (List ℕ) × (Option (List ℕ)))))))))))))))
    (coded× (coded_option bytes_code) (coded× (coded_option bytes_code) (coded× (coded_option table_code) (coded× (coded_option coded_ℕ) (coded× (coded_option coded_ℕ) (coded× (coded_option bytes_code) (coded× (coded_option bytes_code) (coded× (coded_option bytes_code) (coded× (coded_option bytes_code) (coded× (coded_option coded_ℕ) (coded× (coded_option bytes_code) (coded× (coded_option bytes_code) (coded× (coded_option bytes_code) ((coded_option bytes_code)))))))))))))))
    (λ p. (p.content_type, (p.content_encoding, (p.headers, (p.delivery_mode, (p.priority, (p.correlation_id, (p.reply_to, (p.expiration, (p.message_id, (p.timestamp, (p.kind, (p.user_id, (p.app_id, p.cluster_id))))))))))))))
    (λ t. record { content_type = t.0; content_encoding = t.1.0; headers = t.1.1.0; delivery_mode = t.1.1.1.0; priority = t.1.1.1.1.0; correlation_id = t.1.1.1.1.1.0; reply_to = t.1.1.1.1.1.1.0; expiration = t.1.1.1.1.1.1.1.0; message_id = t.1.1.1.1.1.1.1.1.0; timestamp = t.1.1.1.1.1.1.1.1.1.0; kind = t.1.1.1.1.1.1.1.1.1.1.0; user_id = t.1.1.1.1.1.1.1.1.1.1.1.0; app_id = t.1.1.1.1.1.1.1.1.1.1.1.1.0; cluster_id = t.1.1.1.1.1.1.1.1.1.1.1.1.1 })
    (λ _. refl)
