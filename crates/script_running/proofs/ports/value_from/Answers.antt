use Rattle.std.proofs.Common.{◌≡◌, ◌∙◌, Some, slice_get, sym, ap}
use Rattle.x3d_values.specs.Tables.{entry}
use Rattle.script_host.specs.Interface.{outputs}
use Rattle.script_running.specs.Ports.{value_from}
use Rattle.script_running.proofs.EntryLemmas.{entry_at}
use Rattle.script_running.proofs.ports.value_from.Goals as goal

pub returns-in-Some : goal.returns-in-Some
returns-in-Some c =
    let look = c.in-Some.ensures.lookup in
    let here : slice_get (outputs c.args.kind) c.args.output ≡ Some (entry c.in-Some.entry.now) =
    entry_at entry c.outputs.result.now _ c.args.output c.in-Some.entry.now c.outputs.ensures.are look.3.0 look.1 in
    c.value_of.ensures ∙ ap (λ found. value_from found c.args.numbers) (sym here)
