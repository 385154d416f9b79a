use Rattle.std.proofs.Common.{◌<◌, ◌^◌, length, rules}
use Rattle.laws_calls.proofs.Saving.{save}
use Rattle.laws_calls.proofs.viewer.viewer_snapshot.Goals as goal

pub returns : goal.returns
returns g c =
    let few : c.args.viewer.now.state.boot < 2 ^ 32 = search rules in
    let held : length c.snapshot-saved.new.out.items < 2 ^ 64 = search rules in
    save c.steps_law.ensures.calls c.args.viewer.now c.snapshot-saved.result c.args.out.now.items c.snapshot-saved.new.out.items few held
    c.snapshot-saved.ensures.spoiled c.snapshot-saved.ensures.ok c.snapshot-saved.ensures.err
