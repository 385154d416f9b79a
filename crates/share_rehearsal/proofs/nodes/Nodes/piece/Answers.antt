use Rattle.std.proofs.Common.{List, length, refl, rules, ap, sym, ◌∙◌}
use Rattle.std.specs.Prelude.{slice_get}
use Rattle.std.proofs.lemmas.Option.{slice_get_read}
use Rattle.share_rehearsal.specs.declared.nodes.Shot.{Shot}
use Rattle.share_rehearsal.specs.Calls.{seen}
use Rattle.share_rehearsal.proofs.Cuts.{cut}
use Rattle.share_rehearsal.proofs.nodes.Nodes.piece.Goals as goal

pub returns-in-Some : goal.returns-in-Some
returns-in-Some g c =
    let look = c.in-Some.ensures.lookup in
    let shots : List Shot = c.deref.result.now in
    let at = ap (λ (xs : List Shot). slice_get xs c.args.snapshot) (sym c.deref.ensures.value) ∙ slice_get_read shots (length shots) c.args.snapshot c.in-Some.shot.now refl look.3.0 look.1 in
    cut (λ p. p.items) c.piece_packet.result (seen c.args.self.now) c.args.snapshot c.args.piece c.in-Some.shot.now c.as_slice.result.now c.mark-mark.result c.send_any.result c.send_any.new.packets.items
    at (search rules) c.mark-mark.ensures.value c.mark-mark.ensures.bytes c.piece_packet.ensures.bytes c.piece_packet.ensures.again c.send_any.ensures
