-- The events that were sent, as bytes (our choice).
use Rattle.std.specs.Prelude.{ℕ, ◌++◌, ◌&&◌, ℤ, pos, Bool, false, List, Option, Some, None, int_le}
use Rattle.std.specs.Int.{w16, w32, w64}
use Rattle.x3d_values.specs.Ranges.{max_time}
use Rattle.byte_codec.specs.Codec.{Codec, named, depends, pair, counted, number, signed}
use Rattle.x3d_values.specs.declared.field_type.FieldType.{FieldType}
use Rattle.x3d_values.specs.declared.value.Value.{Value}
use Rattle.snapshot_codec.specs.declared.input_number.Numbers.{Numbers}
use Rattle.snapshot_codec.specs.declared.trace.SentAt.{SentAt}
use Rattle.snapshot_codec.specs.declared.trace.TraceEntry.{TraceEntry}
use Rattle.snapshot_codec.specs.Inputs.{input_codec}
use Rattle.snapshot_codec.specs.Values.{restricted, value_text, value_at, value_fits}

-- 0 to 10^18 microseconds
abbrev pub is_moment : ℤ → Bool
is_moment t = int_le (pos 0) t && int_le t (pos max_time)

abbrev pub moment_codec : Codec ℤ
moment_codec = restricted is_moment (signed w64)

-- input, time, node, field
unfoldable pub sent_at_codec : Numbers → Codec SentAt
sent_at_codec numbers =
    named (λ t. record { input = t.0; time = t.1.0; node = t.1.1.0; field = t.1.1.1 })
    (λ s. (s.input, (s.time, (s.node, s.field))))
    (pair (input_codec numbers) (pair moment_codec (pair (number w32) (number w16))))

-- a value of that type; no value without a type
abbrev pub typed_at : Option FieldType → List ℕ → Option (Value × List ℕ)
typed_at None bytes = None
typed_at (Some t) bytes = value_at t bytes

abbrev pub typed_fits : Option FieldType → Value → Bool
typed_fits None v = false
typed_fits (Some t) v = value_fits t v

abbrev pub typed_codec : Option FieldType → Codec Value
typed_codec t = record { write = value_text; read = typed_at t; fits = typed_fits t }

-- where and when an event was sent, and its value; `types` gives the type of a node's output, if
-- the field sends events
unfoldable pub entry_codec : Numbers → (ℕ → ℕ → Option FieldType) → Codec TraceEntry
entry_codec numbers types = named (λ x. record { sent = x.0; value = x.1 }) (λ e. (e.sent, e.value))
    (depends (sent_at_codec numbers) (λ s. typed_codec (types s.node s.field)))

-- the bytes of an entry
abbrev pub entry_text : Numbers → SentAt → Value → List ℕ
entry_text numbers sent v = (sent_at_codec numbers).write sent ++ value_text v

-- a count, and that many entries
abbrev pub trace_codec : Numbers → (ℕ → ℕ → Option FieldType) → Codec (List TraceEntry)
trace_codec numbers types = counted w64 (entry_codec numbers types)
