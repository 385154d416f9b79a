-- The lines of a trace are its events.
use Rattle.std.proofs.Common.{◌≡◌, ℕ, ◌^◌, true, List, [], ◌∷◌, ◌++◌, length, map, Option, Some, None, refl, sym, ap, ◌∙◌, append_assoc, arith}
use Rattle.std.specs.Int.{w64}
use Rattle.std.specs.List.{flat_map}
use Rattle.std.specs.Prelude.{nat_lt}
use Rattle.std.proofs.lemmas.Bool.{lt-ltb, ltb-true}
use Rattle.std.proofs.lemmas.List.{length-map}
use Rattle.byte_codec.specs.Codec.{Codec, all_fit, number_text}
use Rattle.byte_codec.specs.Exact.{IsExact}
use Rattle.byte_codec.proofs.Laws.{and_true, both, named_exact}
use Rattle.x3d_values.specs.declared.field_type.FieldType.{FieldType}
use Rattle.scene_core.specs.Shape.{Shape}
use Rattle.snapshot_codec.specs.declared.fault.PartFault.{PartFault}
use Rattle.snapshot_codec.specs.declared.fault.PartFault.TheVariants as faults
use Rattle.snapshot_codec.specs.declared.trace.TraceEntry.{TraceEntry}
use Rattle.snapshot_codec.specs.Reads.{Fails, behind}
use Rattle.snapshot_codec.specs.Inputs.{input_codec}
use Rattle.snapshot_codec.specs.Trace.{entry_codec, sent_at_codec, trace_codec}
use Rattle.snapshot_codec.proofs.TraceLaws.{trace_exact}
use Rattle.cascade_trace.specs.declared.trace.TraceLine.{TraceLine}
use Rattle.snapshot_core.specs.declared.version.Version.{Version}
use Rattle.snapshot_core.specs.declared.version.Version.TheVariants.{One, Two, Three}
use Rattle.snapshot_core.specs.Opening.{newest, numbers_of}
use Rattle.snapshot_core.specs.WorldCodec.{line_of, entry_of, line_text, output_type, lines_codec}

entries_back : (entries : List TraceEntry) → map entry_of (map line_of entries) ≡ entries
entries_back [] = refl
entries_back (entry ∷ entries) = ap (λ (es : List TraceEntry). entry ∷ es) (entries_back entries)

lines_back : (lines : List TraceLine) → map line_of (map entry_of lines) ≡ lines
lines_back [] = refl
lines_back (line ∷ lines) = ap (λ (ls : List TraceLine). line ∷ ls) (lines_back lines)

pub lines_exact : (version : Version) (shapes : List Shape) → IsExact (lines_codec version shapes)
unfolding lines_codec
lines_exact version shapes = named_exact (map line_of) (map entry_of) (trace_codec (numbers_of version) (output_type shapes)) entries_back lines_back (trace_exact (numbers_of version) (output_type shapes))

-- ---- a trace that was read

behind_none : (r : Option (List TraceEntry × List ℕ)) → behind [] r ≡ r
behind_none None = refl
behind_none (Some x) = refl

only : (front : List TraceLine) (r : Option (List TraceEntry × List ℕ)) → front ≡ [] → r ≡ behind (map entry_of front) r
only front r none = rw none (sym (behind_none r))

pub lines_read : (version : Version) (shapes : List Shape) (front : List TraceLine) (bytes : List ℕ) (lines : List TraceLine) (rest : List ℕ) → front ≡ [] → behind (map entry_of front) ((trace_codec (numbers_of version) (output_type shapes)).read bytes) ≡ Some (map entry_of lines, rest) → (lines_codec version shapes).read bytes ≡ Some (lines, rest)
unfolding lines_codec
lines_read version shapes front bytes lines rest none e =
    let r : (trace_codec (numbers_of version) (output_type shapes)).read bytes ≡ Some (map entry_of lines, rest) = only front ((trace_codec (numbers_of version) (output_type shapes)).read bytes) none ∙ e in
    rw r (ap (λ (ls : List TraceLine). Some (ls, rest)) (lines_back lines))

pub lines_fail : (version : Version) (shapes : List Shape) (e : PartFault) (front : List TraceLine) (bytes : List ℕ) → front ≡ [] → Fails e (behind (map entry_of front) ((trace_codec (numbers_of version) (output_type shapes)).read bytes)) → Fails e ((lines_codec version shapes).read bytes)
unfolding lines_codec
lines_fail version shapes faults.Memory front bytes none h = tt
lines_fail version shapes faults.NotCanonical front bytes none h =
    let r : (trace_codec (numbers_of version) (output_type shapes)).read bytes ≡ None = only front ((trace_codec (numbers_of version) (output_type shapes)).read bytes) none ∙ h in
    rw r refl

-- ---- what is written

texts : (version : Version) (shapes : List Shape) (lines : List TraceLine) → flat_map (entry_codec (numbers_of version) (output_type shapes)).write (map entry_of lines) ≡ flat_map (line_text version) lines
unfolding entry_codec
texts version shapes [] = refl
texts version shapes (line ∷ lines) = ap (λ (z : List ℕ). line_text version line ++ z) (texts version shapes lines)

pub lines_written : (version : Version) (shapes : List Shape) (lines : List TraceLine) (old now new : List ℕ) → now ≡ old ++ number_text w64 (length lines) → new ≡ now ++ flat_map (line_text version) lines → new ≡ old ++ (lines_codec version shapes).write lines
unfolding lines_codec
lines_written version shapes lines old now new count all =
    let many : length (map entry_of lines) ≡ length lines = length-map lines entry_of in
    let text : (lines_codec version shapes).write lines ≡ number_text w64 (length lines) ++ flat_map (line_text version) lines = rw (many, texts version shapes lines) refl in
    all ∙ ap (λ (z : List ℕ). z ++ flat_map (line_text version) lines) count ∙ append_assoc old (number_text w64 (length lines)) (flat_map (line_text version) lines) ∙ ap (λ (z : List ℕ). old ++ z) (sym text)

-- ---- a trace that has bytes in a version has bytes in the newest

-- so has the number of an input
wider : (version : Version) (n : ℕ) → (input_codec (numbers_of version)).fits n ≡ true → (input_codec (numbers_of newest)).fits n ≡ true
unfolding input_codec
wider One n fits = lt-ltb n (2 ^ 64) (omega (arith, ltb-true n (2 ^ 32) fits))
wider Two n fits = lt-ltb n (2 ^ 64) (omega (arith, ltb-true n (2 ^ 32) fits))
wider Three n fits = fits

abbrev entry : Version → (ℕ → ℕ → Option FieldType) → Codec TraceEntry
entry version types = entry_codec (numbers_of version) types

newest_entry : (version : Version) (types : ℕ → ℕ → Option FieldType) (e : TraceEntry) → (entry version types).fits e ≡ true → (entry newest types).fits e ≡ true
unfolding entry_codec sent_at_codec
newest_entry version types e fits =
    let a = both ((sent_at_codec (numbers_of version)).fits e.sent) _ fits in
    let b = both ((input_codec (numbers_of version)).fits e.sent.input) _ a.0 in
    and_true _ _ (and_true _ _ (wider version e.sent.input b.0) b.1) a.1

newest_entries : (version : Version) (types : ℕ → ℕ → Option FieldType) (es : List TraceEntry) → all_fit (entry version types) es ≡ true → all_fit (entry newest types) es ≡ true
newest_entries version types [] fits = refl
newest_entries version types (e ∷ es) fits =
    let a = both ((entry version types).fits e) (all_fit (entry version types) es) fits in
    and_true _ _ (newest_entry version types e a.0) (newest_entries version types es a.1)

pub newest_lines : (version : Version) (shapes : List Shape) (lines : List TraceLine) → (lines_codec version shapes).fits lines ≡ true → (lines_codec newest shapes).fits lines ≡ true
unfolding lines_codec
newest_lines version shapes lines fits =
    let es : List TraceEntry = map entry_of lines in
    let a = both (nat_lt (length es) (2 ^ 64)) (all_fit (entry version (output_type shapes)) es) fits in
    and_true _ _ a.0 (newest_entries version (output_type shapes) es a.1)
