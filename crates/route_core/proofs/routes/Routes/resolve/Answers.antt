use Rattle.std.proofs.Common.{◌≡◌, ◌≤◌, ℕ, List, length, take, sym, ap, subst, ◌∙◌, arith}
use Rattle.std.specs.Prelude.{All}
use Rattle.std.proofs.lemmas.List.{length-take}
use Rattle.scene_core.specs.declared.scene.Route.{Route}
use Rattle.route_core.specs.Ends.{IsKnown, field_counts}
use Rattle.route_core.proofs.Repeats.{All-firsts, known-fields}
use Rattle.route_core.proofs.routes.Routes.resolve.Goals as goal

pub new-requires-clause-nodes : goal.new-requires-clause-nodes
new-requires-clause-nodes c =
    let counts : c.as_slice-3.result.now ≡ take 4294967296 (field_counts c.args.scene.now) = c.as_slice-3.ensures.value ∙ c.in_ok-counts.ensures.are in
    omega (arith, ap (λ (l : List ℕ). length l) counts, length-take 4294967296 (field_counts c.args.scene.now))

pub new-requires-clause-counts : goal.new-requires-clause-counts
new-requires-clause-counts c =
    subst (λ (l : List ℕ). All (λ (count : ℕ). count ≤ 65536) l) (sym c.as_slice-3.ensures.value) c.in_ok-counts.ensures.few

pub new-requires-clause-fields : goal.new-requires-clause-fields
new-requires-clause-fields c =
    let scene = c.args.scene.now in
    let counts : c.as_slice-3.result.now ≡ take 4294967296 (field_counts scene) = c.as_slice-3.ensures.value ∙ c.in_ok-counts.ensures.are in
    let each : All (λ (r : Route). IsKnown scene r.source) c.as_slice-2.result.now =
    subst (λ (l : List Route). All (λ (r : Route). IsKnown scene r.source) l) (sym c.as_slice-2.ensures) c.in_ok-each.ensures.known in
    let kept : All (λ (r : Route). IsKnown scene r.source) c.in_ok-routes.routes =
    subst (λ (l : List Route). All (λ (r : Route). IsKnown scene r.source) l) (sym c.in_ok-routes.ensures.are)
    (All-firsts (λ (r : Route). IsKnown scene r.source) c.as_slice-2.result.now each) in
    known-fields scene c.as_slice-3.result.now c.in_ok-routes.routes counts kept
