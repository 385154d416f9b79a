use Rattle.std.proofs.Common.{◌≡◌, ◌≤◌, ◌++◌, IsTrue, slice_range, subst, sym, arith}
use Rattle.share_store.specs.declared.fault.AppendFault.{AppendFault}
use Rattle.embed_logs.specs.Appending.{FailsWith}
use Rattle.embed_logs.proofs.Stored.{fails_after, stored_more}
use Rattle.embed_logs.proofs.storing.store_all.Goals as goal

pub returns-in-Err-clause-refused : goal.returns-in-Err-clause-refused
returns-in-Err-clause-refused g c =
    let known = c.loop-done.known.items in
    subst (λ (fault : AppendFault). FailsWith fault (IsTrue (g.L.Log.is_open c.store.new.log)) c.args.known.now.items c.args.entries.now c.store.new.known.items)
    (sym c.fault_after.ensures)
    (fails_after c.loop-done.done c.in-Err.fault (IsTrue (g.L.Log.is_open c.store.new.log)) c.args.known.now.items c.args.entries.now known c.store.new.known.items
    c.in-Err.ensures.still c.loop-done.invariant.stored c.in-Err.ensures.kept)

pub loop-done-preserved : goal.loop-done-preserved
loop-done-preserved g c =
    let so_far = c.loop-done.invariant in
    let at = c.loop-done.done in
    let end = c.min-end.result in
    let le : at ≤ end = omega (arith, c.min-end.ensures, c.loop-done-test.true) in
    let more : c.store.new.known.items ≡ c.loop-done.known.items ++ slice_range c.args.entries.now at end = c.in_default.ensures.stored in
    record {
      within = omega (arith, c.min-end.ensures);
      stored = stored_more c.args.entries.now c.args.known.now.items c.loop-done.known.items c.store.new.known.items at end le so_far.stored more;
      taking = c.in_default.ensures.open;
      same = c.store.ensures.same;
      clean = λ clean. so_far.clean (c.store.ensures.clean clean);
      lasts = λ clean last. c.store.ensures.lasts clean (so_far.lasts (c.store.ensures.clean clean) last);
    }
