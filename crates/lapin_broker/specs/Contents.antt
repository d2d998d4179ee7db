-- What is left of a content that one side has begun, and which header or body it takes. Not here: whose content it is.
-- (AMQP 0-9-1, section 4.2.6: a method, a header with a size, then bodies of that many bytes in all.)
use Rattle.std.specs.Prelude.{ℕ, ◌-◌, ◌==◌, Bool, true, false, ◌&&◌, if◌then◌else◌, nat_lt, nat_le}
use Rattle.lapin_broker.specs.declared.content.Content.{Content}
use Rattle.lapin_broker.specs.declared.content.Content.TheVariants as content

-- once a header came: a size of 0 makes the content whole
abbrev pub of_size : ℕ → Content
of_size n = if n == 0 then content.Idle else content.Left n

-- once a body came: the last byte makes the content whole
abbrev pub without_bytes : ℕ → Content → Content
without_bytes n (content.Left m) = of_size (m - n)
without_bytes n c = c

-- a header of class 60 may come once the content is begun
abbrev pub takes_header : ℕ → Content → Bool
takes_header class content.Begun = class == 60
takes_header class _ = false

-- a body may come of at least 1 byte and at most the bytes left
abbrev pub takes_body : ℕ → Content → Bool
takes_body n (content.Left m) = nat_lt 0 n && nat_le n m
takes_body n _ = false

-- no content is begun, or the last one came whole
abbrev pub is_idle : Content → Bool
is_idle content.Idle = true
is_idle _ = false
