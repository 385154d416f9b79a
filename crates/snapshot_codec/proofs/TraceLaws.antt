-- What is read of a trace was written so, and what is written so is read.
use Rattle.std.proofs.Common.{◌≡◌, ℕ, ◌^◌, true, leb, Option, Some, None, refl, arith}
use Rattle.std.specs.Prelude.{ℤ, pos, negsuc}
use Rattle.std.specs.Int.{w16, w32, w64}
use Rattle.std.proofs.lemmas.Bool.{lt-ltb, leb-true}
use Rattle.byte_codec.specs.Codec.{fits_signed}
use Rattle.byte_codec.specs.Exact.{IsExact}
use Rattle.byte_codec.proofs.Laws.{both, named_exact, pair_exact, depends_exact, number_exact, wide16, wide32, wide64, signed64_exact}
use Rattle.byte_codec.proofs.LawsOfLists.{counted_exact}
use Rattle.x3d_values.specs.declared.field_type.FieldType.{FieldType}
use Rattle.x3d_values.specs.declared.value.Value.{Value}
use Rattle.snapshot_codec.specs.declared.input_number.Numbers.{Numbers}
use Rattle.snapshot_codec.specs.declared.trace.SentAt.{SentAt}
use Rattle.snapshot_codec.specs.declared.trace.TraceEntry.{TraceEntry}
use Rattle.snapshot_codec.specs.Trace.{is_moment, moment_codec, sent_at_codec, typed_codec, entry_codec, trace_codec}
use Rattle.snapshot_codec.proofs.InputLaws.{input_exact}
use Rattle.snapshot_codec.proofs.ValueLaws.{restricted_exact, value_exact}

moment-signed : (t : ℤ) → is_moment t ≡ true → fits_signed w64 t ≡ true
moment-signed (pos n) e = lt-ltb _ _ (omega (arith, leb-true n (10 ^ 18) (both (leb 0 n) (leb n (10 ^ 18)) e).1))
moment-signed (negsuc n) e = absurd cc

pub moment_exact : IsExact moment_codec
moment_exact = restricted_exact is_moment _ moment-signed signed64_exact

pub sent_at_exact : (numbers : Numbers) → IsExact (sent_at_codec numbers)
unfolding sent_at_codec
sent_at_exact numbers = named_exact (λ (t : ℕ × (ℤ × (ℕ × ℕ))). let s : SentAt = record { input = t.0; time = t.1.0; node = t.1.1.0; field = t.1.1.1 } in s) (λ s. (s.input, (s.time, (s.node, s.field)))) _ (λ a. refl) (λ b. refl)
    (pair_exact _ _ (input_exact numbers) (pair_exact _ _ moment_exact (pair_exact _ _ (number_exact w32 wide32) (number_exact w16 wide16))))

typed_exact : (t : Option FieldType) → IsExact (typed_codec t)
typed_exact None = record { takes = λ bytes v rest h e. absurd cc; again = λ v rest fits. absurd cc }
typed_exact (Some t) = record { takes = (value_exact t).takes; again = (value_exact t).again }

pub entry_exact : (numbers : Numbers) (types : ℕ → ℕ → Option FieldType) → IsExact (entry_codec numbers types)
unfolding entry_codec
entry_exact numbers types = named_exact (λ (x : SentAt × Value). let e : TraceEntry = record { sent = x.0; value = x.1 } in e) (λ e. (e.sent, e.value)) _ (λ a. refl) (λ b. refl)
    (depends_exact (sent_at_codec numbers) (λ s. typed_codec (types s.node s.field)) (sent_at_exact numbers) (λ s. typed_exact (types s.node s.field)))

pub trace_exact : (numbers : Numbers) (types : ℕ → ℕ → Option FieldType) → IsExact (trace_codec numbers types)
trace_exact numbers types = counted_exact w64 (entry_codec numbers types) wide64 (entry_exact numbers types)
