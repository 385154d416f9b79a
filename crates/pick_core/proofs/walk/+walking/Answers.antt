use Rattle.std.proofs.Common.{◌≡◌, ℕ, ◌-◌, ◌+◌, ◌++◌, ◌∙◌, inl, inr, sym, ap, refl, List, [], ◌∷◌, Option, Some, None, map, take, get_or, append-nil, rules}
use Rattle.std.specs.List.{fold}
use Rattle.std.specs.Prelude.{slice_get}
use Rattle.std.proofs.lemmas.List.{map-append}
use Rattle.std.proofs.lemmas.List.Sums.{fold-append}
use Rattle.x3d_values.specs.declared.fields.Fields.{Fields}
use Rattle.x3d_values.specs.Pointing.{RayView}
use Rattle.scene_core.specs.Scene.{SceneView}
use Rattle.pick_core.specs.Boxes.{Placed, inside, under, layer, shown, shown_child}
use Rattle.pick_core.specs.Looks.{kind_of, listed, choice_of}
use Rattle.pick_core.specs.Motion.{box_of}
use Rattle.pick_core.specs.Picked.{nearer}
use Rattle.pick_core.specs.Spread.{spread}
use Rattle.pick_core.specs.Trail.{carried, positions, raised}
use Rattle.pick_rules.specs.declared.bounds.Bounds.{Bounds}
use Rattle.pick_core.specs.declared.hit.Hit.{Hit}
use Rattle.pick_core.specs.declared.look.Role.TheVariants.{Switch, Shape, Other}
use Rattle.pick_core.specs.declared.trail.Place.{Place}
use Rattle.pick_core.proofs.Trails.{inside-more, inside-none, spread-more, spread-nil, raised-push}
use Rattle.pick_core.proofs.walk.+walking.Goals as goal

-- the best of the same boxes is the same
same_boxes : (scene : SceneView) (state : List Fields) (ray : RayView) (trail : List Place) (old : Option Hit) (xs ys : List Placed) → xs ≡ ys → fold (nearer ray) old (map (raised scene state trail) ys) ≡ fold (nearer ray) old (map (raised scene state trail) xs)
same_boxes scene state ray trail old xs ys e = ap (λ bs. fold (nearer ray) old (map (raised scene state trail) bs)) (sym e)

raised-one : (scene : SceneView) (state : List Fields) (trail : List Place) (b : Bounds) → map (raised scene state trail) (record { path = []; bounds = b } ∷ []) ≡ record { path = positions trail; bounds = carried scene state trail b } ∷ []
raised-one scene state trail b =
    let one : List ℕ → List Placed = λ path. record { path = path; bounds = carried scene state trail b } ∷ [] in
    ap one (append-nil (positions trail))

pub visit-returns-in-Group-clause-best : goal.visit-returns-in-Group-clause-best
visit-returns-in-Group-clause-best t c =
    let scene = c.args.scene.now in
    let state = c.args.state.now in
    let walk = c.args.walk.now in
    let seen = under scene state in
    let f = inside scene state (c.args.depth - 1) in
    let which = choice_of (slice_get state c.args.node) in
    let children = listed scene c.args.node in
    let spreads : layer seen f which (kind_of scene c.args.node) children ≡ spread seen f 0 children =
    elim c.in-Group.is [
      | inl e ↦ ap (λ k. layer seen f which k children) (sym c.kind_of.ensures ∙ e)
      | inr e ↦ ap (λ k. layer seen f which k children) (sym c.kind_of.ensures ∙ e)
    ] in
    let same : inside scene state c.args.depth c.args.node ≡ spread seen f 0 c.listed.result.now = inside-more scene state c.args.depth c.args.node c.requires.deep ∙ spreads ∙ ap (λ xs. spread seen f 0 xs) (sym c.listed.ensures) in
    c.visit_all.ensures.best ∙ same_boxes scene state c.args.ray walk.trail.items walk.best (inside scene state c.args.depth c.args.node) (spread seen f 0 c.listed.result.now) same

pub visit-returns-in-Some-clause-best : goal.visit-returns-in-Some-clause-best
visit-returns-in-Some-clause-best t c =
    let scene = c.args.scene.now in
    let state = c.args.state.now in
    let walk = c.args.walk.now in
    let seen = under scene state in
    let f = inside scene state (c.args.depth - 1) in
    let which = choice_of (slice_get state c.args.node) in
    let children = listed scene c.args.node in
    let p = c.in-Some.place in
    let kind : kind_of scene c.args.node ≡ Switch = sym c.kind_of.ensures ∙ c.in-Switch.is in
    let child : shown_child children which ≡ Some p = sym c.shown_place.ensures ∙ c.in-Some.is in
    let same : inside scene state c.args.depth c.args.node ≡ map (seen p.position p.node) (f p.node) = inside-more scene state c.args.depth c.args.node c.requires.deep ∙ ap (λ k. layer seen f which k children) kind ∙ ap (λ q. shown seen f q) child in
    c.visit_place.ensures.best ∙ same_boxes scene state c.args.ray walk.trail.items walk.best (inside scene state c.args.depth c.args.node) (map (seen p.position p.node) (f p.node)) same

pub visit-returns-in_default-clause-best : goal.visit-returns-in_default-clause-best
visit-returns-in_default-clause-best t c =
    let scene = c.args.scene.now in
    let state = c.args.state.now in
    let walk = c.args.walk.now in
    let seen = under scene state in
    let f = inside scene state (c.args.depth - 1) in
    let which = choice_of (slice_get state c.args.node) in
    let children = listed scene c.args.node in
    let kind : kind_of scene c.args.node ≡ Switch = sym c.kind_of.ensures ∙ c.in-Switch.is in
    let child : shown_child children which ≡ None = sym c.shown_place.ensures ∙ c.in_default.is in
    let same : inside scene state c.args.depth c.args.node ≡ [] = inside-more scene state c.args.depth c.args.node c.requires.deep ∙ ap (λ k. layer seen f which k children) kind ∙ ap (λ q. shown seen f q) child in
    same_boxes scene state c.args.ray walk.trail.items walk.best (inside scene state c.args.depth c.args.node) [] same

pub visit-returns-in-Shape-Some-clause-best : goal.visit-returns-in-Shape-Some-clause-best
visit-returns-in-Shape-Some-clause-best t c =
    let scene = c.args.scene.now in
    let state = c.args.state.now in
    let walk = c.args.walk.now in
    let seen = under scene state in
    let f = inside scene state (c.args.depth - 1) in
    let which = choice_of (slice_get state c.args.node) in
    let children = listed scene c.args.node in
    let size = c.in-Shape-Some.size in
    let is : c.in-Shape-Some.field-0 ≡ Some size = search rules in
    let kind : kind_of scene c.args.node ≡ Shape (Some size) = sym c.kind_of.ensures ∙ c.in-Shape-Some.is ∙ ap Shape is in
    let one : List Placed = record { path = []; bounds = box_of size } ∷ [] in
    let same : inside scene state c.args.depth c.args.node ≡ one = inside-more scene state c.args.depth c.args.node c.requires.deep ∙ ap (λ k. layer seen f which k children) kind in
    c.consider.ensures.best
    ∙ (ap (fold (nearer c.args.ray) walk.best) (sym (raised-one scene state walk.trail.items (box_of size)))
    ∙ same_boxes scene state c.args.ray walk.trail.items walk.best (inside scene state c.args.depth c.args.node) one same)

pub visit-returns-in-Shape-None-clause-best : goal.visit-returns-in-Shape-None-clause-best
visit-returns-in-Shape-None-clause-best t c =
    let scene = c.args.scene.now in
    let state = c.args.state.now in
    let walk = c.args.walk.now in
    let seen = under scene state in
    let f = inside scene state (c.args.depth - 1) in
    let which = choice_of (slice_get state c.args.node) in
    let children = listed scene c.args.node in
    let is : c.in-Shape-None.field-0 ≡ None = search rules in
    let kind : kind_of scene c.args.node ≡ Shape None = sym c.kind_of.ensures ∙ c.in-Shape-None.is ∙ ap Shape is in
    let same : inside scene state c.args.depth c.args.node ≡ [] = inside-more scene state c.args.depth c.args.node c.requires.deep ∙ ap (λ k. layer seen f which k children) kind in
    same_boxes scene state c.args.ray walk.trail.items walk.best (inside scene state c.args.depth c.args.node) [] same

pub visit-returns-in-Other-clause-best : goal.visit-returns-in-Other-clause-best
visit-returns-in-Other-clause-best t c =
    let scene = c.args.scene.now in
    let state = c.args.state.now in
    let walk = c.args.walk.now in
    let seen = under scene state in
    let f = inside scene state (c.args.depth - 1) in
    let which = choice_of (slice_get state c.args.node) in
    let children = listed scene c.args.node in
    let kind : kind_of scene c.args.node ≡ Other = sym c.kind_of.ensures ∙ c.in-Other.is in
    let same : inside scene state c.args.depth c.args.node ≡ [] = inside-more scene state c.args.depth c.args.node c.requires.deep ∙ ap (λ k. layer seen f which k children) kind in
    same_boxes scene state c.args.ray walk.trail.items walk.best (inside scene state c.args.depth c.args.node) [] same

pub visit_all-loop-position-init : goal.visit_all-loop-position-init
visit_all-loop-position-init t c =
    let scene = c.args.scene.now in
    let state = c.args.state.now in
    let walk = c.args.walk.now in
    let f = inside scene state c.args.depth in
    record {
      trail = refl;
      best = same_boxes scene state c.args.ray walk.trail.items walk.best (spread (under scene state) f 0 []) [] (spread-nil (under scene state) f 0);
    }

pub visit_all-loop-position-preserved : goal.visit_all-loop-position-preserved
visit_all-loop-position-preserved t c =
    let scene = c.args.scene.now in
    let state = c.args.state.now in
    let start = c.args.walk.now in
    let seen = under scene state in
    let step = nearer c.args.ray in
    let f = inside scene state c.args.depth in
    let i = c.loop-position.position in
    let node = get_or c.args.nodes.now i 0 in
    let before = spread seen f 0 (take i c.args.nodes.now) in
    let here = map (seen i node) (f node) in
    let lift = raised scene state start.trail.items in
    let last : c.visit_place.new.walk.best ≡ fold step c.loop-position.walk.best (map lift here) = c.visit_place.ensures.best ∙ ap (λ (ps : List Place). fold step c.loop-position.walk.best (map (raised scene state ps) here)) c.loop-position.invariant.trail in
    let joined : fold step c.loop-position.walk.best (map lift here) ≡ fold step start.best (map lift before ++ map lift here) = ap (λ best. fold step best (map lift here)) c.loop-position.invariant.best ∙ sym (fold-append step start.best (map lift before) (map lift here)) in
    let same : map lift (spread seen f 0 (take (i + 1) c.args.nodes.now)) ≡ map lift before ++ map lift here = ap (map lift) (spread-more seen f c.args.nodes.now i 0 c.loop-position-test.true) ∙ map-append lift before here in
    record {
      trail = c.visit_place.ensures.trail ∙ c.loop-position.invariant.trail;
      best = last ∙ (joined ∙ ap (fold step start.best) (sym same));
    }

pub visit_place-returns-then-depth-eq0-clause-best : goal.visit_place-returns-then-depth-eq0-clause-best
visit_place-returns-then-depth-eq0-clause-best t c =
    let scene = c.args.scene.now in
    let state = c.args.state.now in
    let walk = c.args.walk.now in
    let place = c.args.place in
    let seen = under scene state place.position place.node in
    let none : map seen (inside scene state c.args.depth place.node) ≡ [] = ap (λ d. map seen (inside scene state d place.node)) c.if-depth-eq0.true ∙ ap (map seen) (inside-none scene state place.node) in
    same_boxes scene state c.args.ray walk.trail.items walk.best (map seen (inside scene state c.args.depth place.node)) [] none

pub visit_place-returns-clause-best : goal.visit_place-returns-clause-best
visit_place-returns-clause-best t c =
    let scene = c.args.scene.now in
    let state = c.args.state.now in
    let walk = c.args.walk.now in
    let place = c.args.place in
    let bs = inside scene state c.args.depth place.node in
    let pushed : map (raised scene state c.push.new.self.items) bs ≡ map (raised scene state walk.trail.items) (map (under scene state place.position place.node) bs) = ap (λ (ps : List Place). map (raised scene state ps) bs) c.push.ensures.items ∙ raised-push scene state walk.trail.items place bs in
    c.visit.ensures.best ∙ ap (fold (nearer c.args.ray) walk.best) pushed
