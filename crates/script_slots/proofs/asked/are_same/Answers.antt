use Rattle.std.proofs.Common.{rules}
use Rattle.std.specs.Cmp.{signed_Decides}
use Rattle.std.proofs.lemmas.Slice.Eq.{slice_eq-Decides}
use Rattle.script_slots.proofs.asked.are_same.Goals as goal

pub returns : goal.returns
returns c =
    let same = slice_eq-Decides signed_Decides c.args.one.now c.args.other.now c.eq.result c.eq.ensures in
    search rules
