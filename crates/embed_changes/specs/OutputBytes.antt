-- Outputs as bytes, in a buffer between two loops (our choice).
use Rattle.std.specs.Prelude.{ℕ, ◌==◌, List, [], ◌∷◌, Option, None, if◌then◌else◌}
use Rattle.std.specs.Int.{w16, w32}
use Rattle.std.specs.Option.{option_map}
use Rattle.byte_codec.specs.Codec.{Codec, ◌>>?◌, byte, number, pair}
use Rattle.cascade_trace.specs.declared.trace.TraceLine.{TraceLine}
use Rattle.embed_changes.specs.Outputs.{is_after}
use Rattle.scene_core.specs.declared.scene.End.{End}

-- a node's number, and that of its field
abbrev pub places : Codec (ℕ × ℕ)
places = pair (number w32) (number w16)

-- 1 and the numbers; every output has numbers that fit, and any other would be 0
abbrev pub output_bytes : End → List ℕ
output_bytes e =
    if places.fits (e.node, e.field) then 1 ∷ places.write (e.node, e.field) else 0 ∷ []

-- the output of a line of a later input, and nothing for another line
abbrev pub bytes_after : (since : ℕ) → TraceLine → List ℕ
bytes_after since line = if is_after since line then output_bytes line.source else []

abbrev pub end_with : (ℕ × ℕ) × List ℕ → End × List ℕ
end_with read = (record { node = read.0.0; field = read.0.1 }, read.1)

abbrev pub output_after : ℕ × List ℕ → Option (End × List ℕ)
output_after tag = if tag.0 == 1 then option_map end_with (places.read tag.1) else None

-- the output at the front of bytes, and the bytes after it
abbrev pub output_at : List ℕ → Option (End × List ℕ)
output_at bytes = byte.read bytes >>? output_after
