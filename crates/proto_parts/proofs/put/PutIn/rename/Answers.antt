use Rattle.std.proofs.Common.{◌≡◌, false, length, Some, slice_get, refl, ap, rules}
use Rattle.std.specs.Prelude.{is_none}
use Rattle.std.proofs.lemmas.Option.{slice_get_read}
use Rattle.proto_parts.proofs.PutNamed.{renames}
use Rattle.proto_parts.specs.Put.{shown}
use Rattle.proto_parts.proofs.put.PutIn.rename.Goals as goal

pub returns : goal.returns
returns c =
    let nodes = c.args.self.now.nodes.items in
    let found : slice_get nodes c.args.number ≡ Some c.index_mut.result.now = slice_get_read nodes (length nodes) c.args.number c.index_mut.result.now refl (search rules) (search rules) in
    let named : is_none c.args.name.now ≡ false = search rules in
    ap (λ ns. record (shown c.args.self.now) { nodes = ns }) (renames nodes c.args.number c.args.name c.index_mut.result.now named found)
