use Rattle.std.proofs.Common.{◌≡◌, ◌++◌, drop, pos}
use Rattle.std.specs.List.{flat_map}
use Rattle.x3d_lists.specs.Extends.{Extends}
use Rattle.cascade_trace.specs.Trace.{lines_of}
use Rattle.cascade_trace.proofs.lines.write_lines.Given as goal

-- what is written so far, with the lines that are left
abbrev pub invariant-loop-entry : goal.invariant-loop-entry
invariant-loop-entry g l = record {
  told :
      l.out.items ++ flat_map (g.W.WritesLines.text l.writer) (lines_of (drop l.entry-index l.entries) l.moment.input l.moment.time l.left)
      ≡ l.fn.out.items ++ flat_map (g.W.WritesLines.text l.fn.writer) (lines_of l.entries 0 (pos 0) l.values);
  same : g.W.WritesLines.text l.writer ≡ g.W.WritesLines.text l.fn.writer;
  kept : Extends l.fn.out.items l.out.items;
}
