use Rattle.std.proofs.Common.{rules, ◌≡◌, Some, slice_get}
use Rattle.x3d_values.specs.Tables.{entry}
use Rattle.script_host.specs.Interface.{inputs}
use Rattle.script_running.proofs.EntryLemmas.{entry_at}
use Rattle.script_running.proofs.ports.is_of_type.Goals as goal

pub returns-in-Some : goal.returns-in-Some
returns-in-Some c =
    let look = c.in-Some.ensures.lookup in
    let here : slice_get (inputs c.args.kind) c.args.input ≡ Some (entry c.in-Some.entry.now) =
    entry_at entry c.inputs.result.now _ c.args.input c.in-Some.entry.now c.inputs.ensures.are look.3.0 look.1 in
    rw here (search rules)
