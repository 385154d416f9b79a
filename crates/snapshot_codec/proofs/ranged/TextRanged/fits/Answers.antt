use Rattle.std.proofs.Common.{◌≡◌, ℕ, List, Bool, true, false, nat_lt, length, ◌&&◌, ◌^◌, sym, refl}
use Rattle.std.specs.Prelude.{IsUtf8}
use Rattle.std.specs.Str.{is_utf8}
use Rattle.std.proofs.lemmas.Str.{is_utf8-from_IsUtf8, IsUtf8-from_is_utf8}
use Rattle.snapshot_codec.specs.Values.{text}
use Rattle.snapshot_codec.proofs.ranged.TextRanged.fits.Goals as goal

tested : (bytes : List ℕ) (b : Bool) → is_utf8 bytes ≡ b → ¬ (IsUtf8 bytes) → is_utf8 bytes ≡ false
tested bytes true e u = absurd (u (IsUtf8-from_is_utf8 bytes e))
tested bytes false e u = e

is_text : (bytes s : List ℕ) → bytes ≡ s → is_utf8 bytes ≡ true → nat_lt (length bytes) (2 ^ 32) ≡ (is_utf8 s && nat_lt (length s) (2 ^ 32))
is_text bytes s is u = rw (sym is, u) refl

no_text : (bytes s : List ℕ) → bytes ≡ s → is_utf8 bytes ≡ false → false ≡ (is_utf8 s && nat_lt (length s) (2 ^ 32))
no_text bytes s is u = rw (sym is, u) refl

pub returns-in-Ok : goal.returns-in-Ok
unfolding text
returns-in-Ok c = is_text c.as_bytes-bytes.result.now c.args.self.now c.as_bytes-bytes.ensures (is_utf8-from_IsUtf8 _ c.in-Ok.ensures.cases.1)

pub returns-in-Err : goal.returns-in-Err
unfolding text
returns-in-Err c = no_text c.as_bytes-bytes.result.now c.args.self.now c.as_bytes-bytes.ensures (tested c.as_bytes-bytes.result.now (is_utf8 c.as_bytes-bytes.result.now) refl c.in-Err.ensures.cases.0)
