use Rattle.std.proofs.Common.{inl, rules}
use Rattle.snapshot_core.proofs.StateLaws.{another_length, installed, out_of_range}
use Rattle.snapshot_core.proofs.loading.put.Goals as goal

pub returns-in-Ok : goal.returns-in-Ok
returns-in-Ok g c = inl (installed c.args.stage.now c.install.new.self c.args.found c.as_slice.result.now (search rules) c.in-Ok.ensures.fit c.in-Ok.ensures.ok)

pub returns-in-Err-StateLength : goal.returns-in-Err-StateLength
returns-in-Err-StateLength g c =
    inl (another_length c.args.stage.now c.install.new.self c.args.found c.as_slice.result.now (search rules) (rw c.in-Err-StateLength.field-0-is at c.in-Err-StateLength.ensures.refused))

pub returns-in-Err-StateRange : goal.returns-in-Err-StateRange
returns-in-Err-StateRange g c =
    inl (out_of_range c.args.stage.now c.install.new.self c.args.found c.as_slice.result.now (search rules) (rw c.in-Err-StateRange.field-0-is at c.in-Err-StateRange.ensures.refused))
