use Rattle.std.proofs.Common.{◌≡◌, ◌≤◌, ℕ, List, length, take, min, ap, sym, subst, ◌∙◌, arith}
use Rattle.std.specs.Prelude.{All}
use Rattle.std.proofs.lemmas.List.{take_min, length-map}
use Rattle.std.proofs.lemmas.List.Elements.{All-push}
use Rattle.scene_core.specs.Scene.{shape_of, shapes_of}
use Rattle.scene_core.specs.Shape.{Shape, rows_of}
use Rattle.route_core.specs.Ends.{field_counts}
use Rattle.route_core.proofs.Fields.{counts-more}
use Rattle.route_core.proofs.resolving.field_counts.Goals as goal

pub loop-node-preserved : goal.loop-node-preserved
loop-node-preserved c =
    let counts = c.loop-node.counts.items in
    let count = c.field_count.result in (
      c.in_ok-push.ensures.items ∙ counts-more c.args.scene.now counts c.loop-node.node _ count (omega arith) c.field_count.ensures.is (omega arith) c.loop-node.invariant.0,
      subst (λ (l : List ℕ). All (λ (k : ℕ). k ≤ 65536) l) (sym c.in_ok-push.ensures.items)
          (All-push (λ (k : ℕ). k ≤ 65536) counts count c.loop-node.invariant.1 c.field_count.ensures.few),
    )

pub returns-clause-are : goal.returns-clause-are
returns-clause-are c =
    let scene = c.args.scene.now in
    let counted = length-map (shapes_of scene) (λ (s : Shape). length (rows_of s)) in
    let shaped = length-map scene.nodes shape_of in
    let e : c.loop-node.node ≡ min 4294967296 (length (field_counts scene)) = omega (arith, counted, shaped) in
    c.loop-node.invariant.0 ∙ ap (λ (k : ℕ). take k (field_counts scene)) e ∙ take_min 4294967296 (field_counts scene)
