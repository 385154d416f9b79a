use Rattle.std.proofs.Common.{sym, arith}
use Rattle.snapshot_core.proofs.PartSizes.{cycle_read}
use Rattle.snapshot_core.proofs.beside.time_state_of.Goals as goal

pub state_of-requires : goal.state_of-requires
state_of-requires c = cycle_read c.args.bytes.now c.in-Some.cycle c.in-Some.rest.now (λ i. omega (arith, c.type_inv.bytes i)) (sym c.in-Some.ensures)
