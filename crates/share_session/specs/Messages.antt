-- The messages of version 2 that aren't plain records (our choice).
use Rattle.std.specs.Prelude.{ℕ, List}
use Rattle.share_session.specs.declared.piece.PieceHead.{PieceHead}

-- a piece of a snapshot, as in version 1, with the chain after the inputs applied to its world
pub record PieceView2 : Type 0 where
  pub head : PieceHead
  pub bytes : List ℕ
