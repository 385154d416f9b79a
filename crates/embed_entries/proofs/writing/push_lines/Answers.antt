use Rattle.std.proofs.Common.{arith}
use Rattle.embed_entries.proofs.LineTexts.{one-line}
use Rattle.embed_entries.proofs.writing.push_lines.Goals as goal

pub loop-entry-preserved : goal.loop-entry-preserved
loop-entry-preserved c =
    let so_far = c.loop-entry.invariant in
    record {
      text = one-line c.args.entries.now c.loop-entry.entry-index c.entry-item.result c.args.first c.loop-entry.number c.args.out.now.items c.loop-entry.out.items
          c.push_line.new.out.items c.loop-entry-test.true c.entry-item.is so_far.number so_far.text c.in_ok-push_line.ensures;
      number = omega (arith, so_far.number);
    }
