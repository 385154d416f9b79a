-- The numbers of an output's routes lead to its targets.
use Rattle.std.proofs.Common.{◌≡◌, ℕ, ◌+◌, ◌<◌, ◌≤◌, Bool, true, false, List, [], ◌∷◌, ◌∙◌, ap, sym, zero, suc, refl, arith, length, drop, get_or, Some, None}
use Rattle.std.specs.Prelude.{slice_get, count_by, if◌then◌else◌}
use Rattle.std.specs.List.{filter}
use Rattle.std.proofs.lemmas.List.{length-map, drop_more}
use Rattle.std.proofs.lemmas.Option.{slice_get_within, slice_get_past, slice_get-get_or, get_or_from_slice_get}
use Rattle.std.proofs.Math.Nat.{zero-add}
use Rattle.std.proofs.lemmas.List.Sums.{length-filter, count_by-le-length}
use Rattle.scene_core.specs.declared.scene.End.{End}
use Rattle.scene_core.specs.declared.scene.Route.{Route}
use Rattle.route_core.specs.Outputs.{places_from, places_of}
use Rattle.cascade_trace.specs.Ends.{same_end, targets_of}

-- what is behind a place
pub drop-some : {X : Type 0} (xs : List X) (i : ℕ) (x : X) → slice_get xs i ≡ Some x → drop i xs ≡ x ∷ drop (i + 1) xs
drop-some xs i x h = drop_more xs i x (slice_get_within xs i x h) ∙ ap (λ y. y ∷ drop (i + 1) xs) (get_or_from_slice_get xs i x x h)

-- nothing is behind the end
pub drop-none : {X : Type 0} (xs : List X) (i : ℕ) → slice_get xs i ≡ None → drop i xs ≡ []
drop-none [] zero h = refl
drop-none [] (suc i) h = refl
drop-none (y ∷ ys) zero h = cc
drop-none (y ∷ ys) (suc i) h = drop-none ys i h

-- the route of that number, counted from n, is one of the output's
pub record IsPlace (routes : List Route) (source : End) (n next number : ℕ) : Type 0 where
  pub k : ℕ
  pub at : number ≡ n + k
  pub route : Route
  pub is : slice_get routes k ≡ Some route
  pub leads : slice_get (targets_of routes source) next ≡ Some route.target

abbrev step_from : Bool → ℕ → List ℕ → List ℕ
step_from b n rest = if b then n ∷ rest else rest

later : (r : Route) (rs : List Route) (source : End) (n number next next' : ℕ) → IsPlace rs source (n + 1) next number →
    slice_get (targets_of (r ∷ rs) source) next' ≡ slice_get (targets_of rs source) next → IsPlace (r ∷ rs) source n next' number
later r rs source n number next next' p e = record { k = suc p.k; at = omega (arith, p.at); route = p.route; is = p.is; leads = e ∙ p.leads }

place-step : (r : Route) (rs : List Route) (source : End) (n number : ℕ) →
    ((next : ℕ) → slice_get (places_from (n + 1) source rs) next ≡ Some number → IsPlace rs source (n + 1) next number) →
    (b : Bool) → same_end r.source source ≡ b → (next : ℕ) → slice_get (step_from b n (places_from (n + 1) source rs)) next ≡ Some number → IsPlace (r ∷ rs) source n next number
place-step r rs source n number again true h zero e =
    let same : n ≡ number = cc in
    record { k = 0; at = omega arith; route = r; is = refl; leads = rw h refl }
place-step r rs source n number again true h (suc next) e = later r rs source n number next (suc next) (again next e) (rw h refl)
place-step r rs source n number again false h next e = later r rs source n number next next (again next e) (rw h refl)

pub place-is : (routes : List Route) (source : End) (n next number : ℕ) → slice_get (places_from n source routes) next ≡ Some number → IsPlace routes source n next number
place-is [] source n next number h = cc
place-is (r ∷ rs) source n next number h = place-step r rs source n number (λ m e. place-is rs source (n + 1) m number e) (same_end r.source source) refl next h

end-step : (r : Route) (rs : List Route) (source : End) (n : ℕ) →
    ((next : ℕ) → slice_get (places_from (n + 1) source rs) next ≡ None → slice_get (targets_of rs source) next ≡ None) →
    (b : Bool) → same_end r.source source ≡ b → (next : ℕ) → slice_get (step_from b n (places_from (n + 1) source rs)) next ≡ None → slice_get (targets_of (r ∷ rs) source) next ≡ None
end-step r rs source n again true h zero e = cc
end-step r rs source n again true h (suc next) e = rw h (again next e)
end-step r rs source n again false h next e = rw h (again next e)

places-end : (routes : List Route) (source : End) (n next : ℕ) → slice_get (places_from n source routes) next ≡ None → slice_get (targets_of routes source) next ≡ None
places-end [] source n next h = refl
places-end (r ∷ rs) source n next h = end-step r rs source n (λ m e. places-end rs source (n + 1) m e) (same_end r.source source) refl next h

-- behind the last of them no target is left
pub target-none : (routes : List Route) (source : End) (next : ℕ) → length (places_of source routes) ≤ next → slice_get (targets_of routes source) next ≡ None
target-none routes source next h = places-end routes source 0 next (slice_get_past (places_of source routes) next h)

-- each of them leads to the target at its place
pub target-some : (routes : List Route) (source : End) (next : ℕ) (route : Route) → next < length (places_of source routes) →
    slice_get routes (get_or (places_of source routes) next 0) ≡ Some route → slice_get (targets_of routes source) next ≡ Some route.target
target-some routes source next route h is =
    let p = place-is routes source 0 next (get_or (places_of source routes) next 0) (slice_get-get_or (places_of source routes) next 0 h) in
    let same : get_or (places_of source routes) next 0 ≡ p.k = p.at ∙ zero-add p.k in
    let found : Some route ≡ Some p.route = sym is ∙ ap (slice_get routes) same ∙ p.is in
    let routes-same : route ≡ p.route = cc in
    p.leads ∙ ap (λ (r : Route). Some r.target) (sym routes-same)

-- each of them is the number of a route
pub place-below : (routes : List Route) (source : End) (next : ℕ) → next < length (places_of source routes) → get_or (places_of source routes) next 0 < length routes
place-below routes source next h =
    let p = place-is routes source 0 next (get_or (places_of source routes) next 0) (slice_get-get_or (places_of source routes) next 0 h) in
    omega (arith, p.at, slice_get_within routes p.k p.route p.is)

length-step : (r : Route) (rs : List Route) (n : ℕ) (b : Bool) (places : List ℕ) (kept : List Route) → length places ≡ length kept → length (step_from b n places) ≡ length (if b then r ∷ kept else kept)
length-step r rs n true places kept e = ap suc e
length-step r rs n false places kept e = e

length-places_from : (source : End) (rs : List Route) (n : ℕ) → length (places_from n source rs) ≡ length (filter (λ (r : Route). same_end r.source source) rs)
length-places_from source [] n = refl
length-places_from source (r ∷ rs) n = length-step r rs n (same_end r.source source) _ _ (length-places_from source rs (n + 1))

-- there are as many as routes of the output
pub length-places : (routes : List Route) (source : End) → length (places_of source routes) ≡ count_by (λ (r : Route). same_end r.source source) routes
length-places routes source = length-places_from source routes 0 ∙ length-filter (λ (r : Route). same_end r.source source) routes

-- no more than there are routes
pub target-few : (routes : List Route) (source : End) (next : ℕ) (target : End) → slice_get (targets_of routes source) next ≡ Some target → next < length routes
target-few routes source next target h =
    let few : length (targets_of routes source) ≡ length (filter (λ (r : Route). same_end r.source source) routes) = length-map _ _ in
    omega (
      arith,
      few,
      length-filter (λ (r : Route). same_end r.source source) routes,
      count_by-le-length (λ (r : Route). same_end r.source source) routes,
      slice_get_within (targets_of routes source) next target h,
    )
