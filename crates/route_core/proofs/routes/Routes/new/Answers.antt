use Rattle.std.proofs.Common.{◌≡◌, ◌<◌, ℕ, List, arith, length, map, sym, subst, ap, ◌∙◌}
use Rattle.std.specs.Prelude.{All, slice_index}
use Rattle.std.proofs.lemmas.List.{get_or_read}
use Rattle.scene_core.specs.declared.scene.Route.{Route}
use Rattle.route_core.specs.Outputs.{place_in}
use Rattle.route_core.specs.Grouped.{ArePlaces}
use Rattle.route_core.proofs.Sources.{places-below, last-below, grouped}
use Rattle.route_core.proofs.routes.Routes.new.Goals as goal

pub group-requires-clause-known : goal.group-requires-clause-known
group-requires-clause-known c =
    let counts = c.args.field_counts.now in
    let firsts = c.in_ok-firsts.firsts.items in
    let sums = c.in_ok-firsts.ensures in
    let keys : c.as_slice-3.result.now ≡ map (λ (r : Route). place_in firsts r.source) c.args.routes =
    c.as_slice-3.ensures.value ∙ c.in_ok-sources.ensures
    ∙ ap (λ (fs : List ℕ). map (λ (r : Route). place_in fs r.source) c.as_slice-2.result.now) c.as_slice.ensures.value
    ∙ ap (λ (rs : List Route). map (λ (r : Route). place_in firsts r.source) rs) c.as_slice-2.ensures in
    let count : c.index-count.result.now ≡ slice_index firsts (length counts) = get_or_read firsts (length counts) _ (omega (arith, sums.one_more)) c.index-count.ensures 0 in
    let below : All (λ (k : ℕ). k < slice_index firsts (length counts)) c.as_slice-3.result.now =
    subst (λ (ks : List ℕ). All (λ (k : ℕ). k < slice_index firsts (length counts)) ks) (sym keys) (places-below counts firsts c.args.routes sums c.requires.fields) in
    λ k d h. omega (arith, count, below k d h)

pub group-requires-clause-room : goal.group-requires-clause-room
group-requires-clause-room c =
    let counts = c.args.field_counts.now in
    let firsts = c.in_ok-firsts.firsts.items in
    let sums = c.in_ok-firsts.ensures in
    let count : c.index-count.result.now ≡ slice_index firsts (length counts) = get_or_read firsts (length counts) _ (omega (arith, sums.one_more)) c.index-count.ensures 0 in
    omega (arith, count, last-below counts firsts sums c.requires.counts c.requires.nodes)

pub invariant_of-result : goal.invariant_of-result
invariant_of-result c =
    let counts = c.args.field_counts.now in
    let firsts = c.in_ok-firsts.firsts.items in
    let groups = c.in_ok-starts.field-0 in
    let sums = c.in_ok-firsts.ensures in
    let keys : c.as_slice-3.result.now ≡ map (λ (r : Route). place_in firsts r.source) c.args.routes =
    c.as_slice-3.ensures.value ∙ c.in_ok-sources.ensures
    ∙ ap (λ (fs : List ℕ). map (λ (r : Route). place_in fs r.source) c.as_slice-2.result.now) c.as_slice.ensures.value
    ∙ ap (λ (rs : List Route). map (λ (r : Route). place_in firsts r.source) rs) c.as_slice-2.ensures in
    let count : c.index-count.result.now ≡ slice_index firsts (length counts) = get_or_read firsts (length counts) _ (omega (arith, sums.one_more)) c.index-count.ensures 0 in
    grouped c.args.routes counts firsts groups.starts.items groups.places.items c.index-count.result.now c.requires.few sums c.requires.fields count
    (subst (λ (ks : List ℕ). ArePlaces ks groups.starts.items groups.places.items c.index-count.result.now) keys (c.in_ok-starts.ensures))
