use Rattle.embed_scene.specs.Named.{Misses, is_named}
use Rattle.embed_scene.proofs.named.first_named.Given as goal

abbrev pub invariant-loop-node : goal.invariant-loop-node
invariant-loop-node l = Misses (is_named l.scene l.name) l.node
