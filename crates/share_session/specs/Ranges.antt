-- The ranges of numbers in datagrams of version 2 (our choice).
use Rattle.std.specs.Prelude.{ℕ, ◌^◌, ◌&&◌, Bool, nat_le}
use Rattle.share_wire.specs.Messages.{is_piece}
use Rattle.share_session.specs.declared.piece.PieceHead.{PieceHead}

-- the largest number of an input
abbrev pub max_number : ℕ
max_number = 2 ^ 48

-- inputs are numbered from 1; what is asked for and the floor are numbers of inputs too
abbrev pub is_number : ℕ → Bool
is_number n = nat_le 1 n && nat_le n max_number

-- a snapshot has a piece with this head: as in version 1, except for the number of inputs
abbrev pub is_head : PieceHead → Bool
is_head h = is_piece h.boot 0 h.size h.index && nat_le h.applied max_number
