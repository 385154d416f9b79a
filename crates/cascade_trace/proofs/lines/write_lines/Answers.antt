use Rattle.std.proofs.Common.{◌∙◌}
use Rattle.cascade_trace.proofs.Told.{kept-on, told-all, told-next}
use Rattle.cascade_trace.proofs.lines.write_lines.Goals as goal

pub loop-entry-preserved : goal.loop-entry-preserved
loop-entry-preserved g c = record {
  told =
      told-next _ _ c.args.entries.now c.loop-entry.entry-index _ _ _ _ _ _ _ _ _ _ c.loop-entry-test.true
      c.in_ok-left.ensures.same c.in_ok-left.ensures.told c.loop-entry.invariant.told;
  same = c.in_ok-left.ensures.same ∙ c.loop-entry.invariant.same;
  kept = kept-on _ _ _ c.loop-entry.invariant.kept c.in_ok-left.ensures.kept;
}

pub returns-clause-ok : goal.returns-clause-ok
returns-clause-ok g c =
    told-all _ c.args.entries.now c.loop-entry.entry-index _ _ _ _ _ c.loop-entry-test.false c.loop-entry.invariant.told
