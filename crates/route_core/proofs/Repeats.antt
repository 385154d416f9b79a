-- What holds of each route holds of those that stay without repeats.
use Rattle.std.proofs.Common.{◌≡◌, ℕ, Bool, true, false, List, [], ◌∷◌, ◌++◌, length, take, ap, arith, if◌then◌else◌}
use Rattle.std.specs.Prelude.{All, slice_index, nat_lt, Result, Ok, Err}
use Rattle.std.specs.List.{fold, list_any}
use Rattle.std.proofs.lemmas.Bool.{cond_both}
use Rattle.std.proofs.lemmas.List.{get_or-take}
use Rattle.std.proofs.lemmas.List.Elements.{All-nil, All-push, All-head, All-tail, All-weaker}
use Rattle.x3d_values.specs.Ranges.{max_routes}
use Rattle.scene_core.specs.Scene.{SceneView}
use Rattle.scene_core.specs.declared.scene.End.{End}
use Rattle.scene_core.specs.declared.scene.Route.{Route}
use Rattle.route_core.specs.Outputs.{IsField}
use Rattle.route_core.specs.Ends.{IsKnown, field_counts}
use Rattle.route_core.specs.Resolved.{added, firsts, limited, same_route}
use Rattle.route_core.specs.declared.fault.RouteFault.{RouteFault}
use Rattle.route_core.specs.declared.fault.RouteFaultKind.TheVariants.{TooMany}

abbrev good : List Route → Result (List Route) RouteFault
good routes = Ok routes

abbrev refused : Result (List Route) RouteFault
refused = Err (record { kind = TooMany; line = 0 })

All-added : (P : Route → Type 0) (routes : List Route) (r : Route) → All P routes → P r → All P (added routes r)
All-added P routes r all here = cond_both (list_any (same_route r) routes) routes (routes ++ r ∷ []) (λ l. All P l) (λ _. all) (λ _. All-push P routes r all here)

All-fold : (P : Route → Type 0) (made rs : List Route) → All P made → All P rs → All P (fold added made rs)
All-fold P made [] all more = all
All-fold P made (r ∷ rs) all more = All-fold P (added made r) rs (All-added P made r all (All-head P r rs more)) (All-tail P r rs more)

pub All-firsts : (P : Route → Type 0) (routes : List Route) → All P routes → All P (firsts routes)
All-firsts P routes all = All-fold P [] routes (All-nil P) all

-- routes that are not too many are all of them
pub limited_is : (routes kept : List Route) → limited routes ≡ Ok kept → routes ≡ kept
limited_is routes kept h = by_many (nat_lt max_routes (length routes)) h where
  by_many : (b : Bool) → (if b then refused else good routes) ≡ good kept → routes ≡ kept
  by_many true h = absurd cc
  by_many false h = cc

known-field : (scene : SceneView) (counts : List ℕ) (e : End) → counts ≡ take 4294967296 (field_counts scene) → IsKnown scene e → IsField counts e
known-field scene counts e is known =
    omega (arith, known.field, known.numbered, ap (λ (l : List ℕ). slice_index l e.node) is, get_or-take {A = ℕ} 4294967296 (field_counts scene) e.node 0 (omega (arith, known.numbered)))

-- the sources are fields of nodes that have 32-bit numbers
pub known-fields : (scene : SceneView) (counts : List ℕ) (routes : List Route) → counts ≡ take 4294967296 (field_counts scene)
    → All (λ (r : Route). IsKnown scene r.source) routes → All (λ (r : Route). IsField counts r.source) routes
known-fields scene counts routes is all =
    All-weaker (λ (r : Route). IsKnown scene r.source) (λ (r : Route). IsField counts r.source) (λ r known. known-field scene counts r.source is known) routes all
