use Rattle.std.proofs.Common.{◌≡◌, true, length, rules}
use Rattle.share_wire.specs.Messages.{piece_size}
use Rattle.share_session.specs.Ranges.{is_head}
use Rattle.share_session.specs.Fields.{piece_parts}
use Rattle.share_session.proofs.RangeLaws.{piece_fits}
use Rattle.share_session.proofs.writing.push_piece.Goals as goal

pub returns-clause-fits : goal.returns-clause-fits
returns-clause-fits c =
    let p = c.args.piece.now in
    let head : is_head p.head ≡ true = search rules in
    let parts : piece_parts.fits p.head ≡ true = search rules in
    let size : length p.bytes ≡ piece_size p.head.size p.head.index = search rules in
    piece_fits p head parts size
