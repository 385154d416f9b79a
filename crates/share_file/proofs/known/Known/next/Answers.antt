use Rattle.std.proofs.Common.{◌+◌, rules}
use Rattle.share_file.proofs.Reading.{not_next}
use Rattle.share_file.proofs.known.Known.next.Goals as goal

pub returns-in-Err : goal.returns-in-Err
returns-in-Err c =
    let known = c.args.self.now in
    not_next c.args.start.now known.chain known.entries.items (c.args.start.now.below + c.len.result + 1) c.args.number c.args.frame.now c.in-Err.fault c.fault_of.result c.requires.linked
    (search rules) c.in-Err.ensures.exact c.fault_of.ensures.memory c.fault_of.ensures.either
