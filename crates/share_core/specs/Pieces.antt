-- A snapshot's bytes in pieces.
use Rattle.std.specs.Prelude.{ℕ, List, length, Option, None, Some, if◌then◌else◌}
use Rattle.share_wire.specs.Messages.{is_piece, piece_count}
use Rattle.share_wire.specs.declared.message.Body.{Body}
use Rattle.share_law.specs.Pieces.{piece_packet}
use Rattle.snapshot_core.specs.declared.head.ShotHead.{ShotHead}
use Rattle.snapshot_core.specs.ShotHead.{shot_head}

-- the packet of piece i of these bytes, given the head that they begin with
abbrev pub piece_with : Option ShotHead → List ℕ → (i : ℕ) → Option Body
piece_with None bytes i = None
piece_with (Some head) bytes i = piece_packet head.boot head.applied bytes i

-- the packet of piece i of a snapshot's bytes, if there is such a piece
abbrev pub piece_of : List ℕ → (i : ℕ) → Option Body
piece_of bytes i = piece_with (shot_head bytes) bytes i

abbrev pub count_with : Option ShotHead → (size : ℕ) → Option ℕ
count_with None size = None
count_with (Some head) size =
    if is_piece head.boot head.applied size 0 then Some (piece_count size) else None

-- the number of pieces of a snapshot's bytes
abbrev pub count_of : List ℕ → Option ℕ
count_of bytes = count_with (shot_head bytes) (length bytes)
