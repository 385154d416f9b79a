use Rattle.std.proofs.Common.{refl, sym}
use Rattle.scene_core.proofs.BehindLemmas.{found}
use Rattle.scene_core.specs.Typed.{child}
use Rattle.scene_core.proofs.values.check_child.Goals as goal

pub returns-then-eq : goal.returns-then-eq
unfolding child
returns-then-eq c =
    let look = c.in-Some.ensures.lookup in
    rw (found c.args.nodes.now c.args.n c.in-Some.node.now look.3.0 look.1, sym c.kind.ensures, sym c.eq.ensures, c.if-eq.true) refl

pub returns-else-eq : goal.returns-else-eq
unfolding child
returns-else-eq c =
    let look = c.in-Some.ensures.lookup in
    rw (found c.args.nodes.now c.args.n c.in-Some.node.now look.3.0 look.1, sym c.kind.ensures, sym c.eq.ensures, c.if-eq.false, c.fault-else-eq.ensures) refl
