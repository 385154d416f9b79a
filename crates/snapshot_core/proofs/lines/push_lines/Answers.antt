use Rattle.std.proofs.Common.{rules}
use Rattle.snapshot_core.proofs.LineLaws.{lines_written}
use Rattle.snapshot_core.proofs.lines.push_lines.Goals as goal

pub returns-clause-ok : goal.returns-clause-ok
returns-clause-ok c = λ shapes. lines_written c.args.version shapes c.args.trace.now c.args.out.now.items c.push_entry_count.new.out.items c.write.new.out.items (search rules) c.in_ok-write.ensures.ok
