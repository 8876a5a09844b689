-- Kinds of operations (document 01, "The session program"): "one byte of kind, then a body whose length the kind fixes .. keys 6 bytes,
-- payloads 8. Kinds: 1 insert (key, payload), 2 delete (key), 3 lookup (key), 4 band (u, v), 5 replace (key, payload)".
-- Definitions only.
use Rattle.std.specs.Prelude.{ℕ, ◌+◌, eqb, Option, Some, None}
use Rattle.laws.specs.Bytes.{key_bytes}
use Rattle.laws.specs.Pick.{pick}
use Rattle.lines.specs.declared.Kind.{Kind}
use Rattle.lines.specs.declared.Operation.{Operation}
use Rattle.lines.specs.declared.Operation.TheVariants.{Insert, Delete, Lookup, Band, Replace}

abbrev pub payload_bytes : ℕ
payload_bytes = 8

-- the length of an operation's body
abbrev pub body_length : Operation → ℕ
body_length Insert = key_bytes + payload_bytes
body_length Delete = key_bytes
body_length Lookup = key_bytes
body_length Band = key_bytes + key_bytes
body_length Replace = key_bytes + payload_bytes

-- no body is longer
abbrev pub longest_body : ℕ
longest_body = key_bytes + payload_bytes

abbrev pub kind : ℕ → Operation → Kind
kind n o = record { length = n; operation = o }

abbrev pub known : Operation → Option Kind
known o = Some (kind (body_length o) o)

-- what a byte of kind says
unfoldable pub kind_of : ℕ → Option Kind
kind_of b =
    pick (eqb b 1) (known Insert)
    (pick (eqb b 2) (known Delete)
    (pick (eqb b 3) (known Lookup)
    (pick (eqb b 4) (known Band)
    (pick (eqb b 5) (known Replace)
    None))))
