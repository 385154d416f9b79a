use Rattle.std.proofs.Common.{◌≡◌, ℕ, List, ap, ◌∙◌, sym, true, false, Bool, Some, None, refl}
use Rattle.std.specs.Prelude.{IsUtf8}
use Rattle.std.specs.Str.{is_utf8}
use Rattle.std.proofs.lemmas.Str.{is_utf8-from_IsUtf8, IsUtf8-from_is_utf8}
use Rattle.byte_codec.specs.Codec.{string_at, ◌>>?◌, at_front, only_if}
use Rattle.snapshot_codec.specs.Values.{text}
use Rattle.snapshot_codec.proofs.coded.TextCoded.read.Goals as goal

is_text : (bytes front rest : List ℕ) → string_at bytes ≡ Some (front, rest) → IsUtf8 front → (string_at bytes >>? at_front (only_if is_utf8)) ≡ Some (front, rest)
is_text bytes front rest e u = let k : is_utf8 front ≡ true = is_utf8-from_IsUtf8 front u in rw (e, k) refl

tested : (front : List ℕ) (b : Bool) → is_utf8 front ≡ b → ¬ (IsUtf8 front) → is_utf8 front ≡ false
tested front true e u = absurd (u (IsUtf8-from_is_utf8 front e))
tested front false e u = e

no_text : (bytes front rest : List ℕ) → string_at bytes ≡ Some (front, rest) → ¬ (IsUtf8 front) → (string_at bytes >>? at_front (only_if is_utf8)) ≡ None
no_text bytes front rest e u = let k : is_utf8 front ≡ false = tested front (is_utf8 front) refl u in rw (e, k) refl

pub returns-in_ok-from_str-in-Ok : goal.returns-in_ok-from_str-in-Ok
unfolding text
returns-in_ok-from_str-in-Ok c =
    let t = c.in-Ok.ensures.cases in
    let at = is_text c.args.bytes.now c.in-Some.front.now c.in-Some.rest.now (sym c.in-Some.ensures) t.1 in
    at ∙ ap (λ (z : List ℕ). Some (z, c.in-Some.rest.now)) (sym (c.in_ok-from_str-in-Ok.ensures ∙ t.0))

pub returns-in-Err : goal.returns-in-Err
unfolding text
returns-in-Err c = no_text c.args.bytes.now c.in-Some.front.now c.in-Some.rest.now (sym c.in-Some.ensures) c.in-Err.ensures.cases.0
