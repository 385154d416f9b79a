use Rattle.std.proofs.Common.{◌≡◌, ◌-◌, ◌+◌, ◌++◌, ◌∙◌, inl, inr, sym, ap, refl, List, [], ◌∷◌, Some, None, Result, Ok, Err, map, take, get_or, append-nil, append_assoc}
use Rattle.std.specs.Prelude.{OnOk}
use Rattle.std.proofs.lemmas.List.{map-append}
use Rattle.x3d_values.specs.declared.fields.Fields.{Fields}
use Rattle.x3d_values.specs.declared.vector.Vec3.{Vec3}
use Rattle.scene_core.specs.Scene.{SceneView}
use Rattle.pick_core.specs.Looks.{kind_of, listed}
use Rattle.pick_core.specs.Sites.{Site, row_of, row_at, site_under, site_layer, sites_in}
use Rattle.pick_core.specs.Spread.{spread}
use Rattle.pick_core.specs.declared.look.Role.TheVariants.{Shape, Other}
use Rattle.pick_core.specs.declared.row.BoxRow.{BoxRow}
use Rattle.pick_core.specs.declared.trail.Place.{Place}
use Rattle.pick_core.proofs.Trails.{sites_in-more, sites_in-none, spread-more, spread-nil, row_at-push}
use Rattle.pick_core.proofs.gather.+gathering.Goals as goal

-- what is so on success is so of anything equal
on_ok-same : {X : Type 0} {E : Type 0} (result : Result (Unit {0}) E) (now old new : X) → OnOk result (now ≡ old) → old ≡ new → OnOk result (now ≡ new)
on_ok-same (Ok u) now old new h e = h ∙ e
on_ok-same (Err f) now old new h e = h

-- the rows of the same places are the same
same_rows : (scene : SceneView) (state : List Fields) (trail : List Place) (old : List BoxRow) (xs ys : List Site) → xs ≡ ys → old ++ map (row_at scene state trail) ys ≡ old ++ map (row_at scene state trail) xs
same_rows scene state trail old xs ys e = ap (λ ss. old ++ map (row_at scene state trail) ss) (sym e)

no_rows : (scene : SceneView) (state : List Fields) (trail : List Place) (old : List BoxRow) (xs : List Site) → xs ≡ [] → old ≡ old ++ map (row_at scene state trail) xs
no_rows scene state trail old xs e = sym (append-nil old) ∙ same_rows scene state trail old xs [] e

one_row : (scene : SceneView) (state : List Fields) (trail : List Place) (size : Vec3) → map (row_at scene state trail) (record { trail = []; size = size } ∷ []) ≡ row_of scene state trail size ∷ []
one_row scene state trail size = ap (λ ps. row_of scene state ps size ∷ []) (append-nil trail)

pub gather-returns-in-Group : goal.gather-returns-in-Group
gather-returns-in-Group t c =
    let scene = c.args.scene.now in
    let state = c.args.state.now in
    let walk = c.args.walk.now in
    let f = sites_in scene (c.args.depth - 1) in
    let children = listed scene c.args.node in
    let spreads : site_layer f (kind_of scene c.args.node) children ≡ spread site_under f 0 children =
    elim c.in-Group.is [
      | inl e ↦ ap (λ k. site_layer f k children) (sym c.kind_of.ensures ∙ e)
      | inr (inl e) ↦ ap (λ k. site_layer f k children) (sym c.kind_of.ensures ∙ e)
      | inr (inr e) ↦ ap (λ k. site_layer f k children) (sym c.kind_of.ensures ∙ e)
    ] in
    let same : sites_in scene c.args.depth c.args.node ≡ spread site_under f 0 c.listed.result.now = sites_in-more scene c.args.depth c.args.node c.requires.deep ∙ spreads ∙ ap (λ xs. spread site_under f 0 xs) (sym c.listed.ensures) in
    record {
      trail = c.gather_all.ensures.trail;
      rows = on_ok-same c.gather_all.result c.gather_all.new.walk.rows.items (walk.rows.items ++ map (row_at scene state walk.trail.items) (spread site_under f 0 c.listed.result.now)) (walk.rows.items ++ map (row_at scene state walk.trail.items) (sites_in scene c.args.depth c.args.node)) c.gather_all.ensures.rows (same_rows scene state walk.trail.items walk.rows.items (sites_in scene c.args.depth c.args.node) (spread site_under f 0 c.listed.result.now) same);
    }

pub gather-returns-in-Shape-Some-clause-rows : goal.gather-returns-in-Shape-Some-clause-rows
gather-returns-in-Shape-Some-clause-rows t c =
    let scene = c.args.scene.now in
    let state = c.args.state.now in
    let walk = c.args.walk.now in
    let f = sites_in scene (c.args.depth - 1) in
    let children = listed scene c.args.node in
    let size = c.in-Shape-Some.size in
    let kind : kind_of scene c.args.node ≡ Shape (Some size) = sym c.kind_of.ensures ∙ c.in-Shape-Some.is ∙ ap Shape c.in-Shape-Some.field-0-is in
    let one : List Site = record { trail = []; size = size } ∷ [] in
    let same : sites_in scene c.args.depth c.args.node ≡ one = sites_in-more scene c.args.depth c.args.node c.requires.deep ∙ ap (λ k. site_layer f k children) kind in
    let made : walk.rows.items ++ row_of scene state walk.trail.items size ∷ [] ≡ walk.rows.items ++ map (row_at scene state walk.trail.items) (sites_in scene c.args.depth c.args.node) = ap (λ rs. walk.rows.items ++ rs) (sym (one_row scene state walk.trail.items size)) ∙ same_rows scene state walk.trail.items walk.rows.items (sites_in scene c.args.depth c.args.node) one same in
    on_ok-same c.push_row.result c.push_row.new.walk.rows.items (walk.rows.items ++ row_of scene state walk.trail.items size ∷ []) (walk.rows.items ++ map (row_at scene state walk.trail.items) (sites_in scene c.args.depth c.args.node)) c.push_row.ensures.rows made

pub gather-returns-in-Shape-None-clause-rows : goal.gather-returns-in-Shape-None-clause-rows
gather-returns-in-Shape-None-clause-rows t c =
    let scene = c.args.scene.now in
    let walk = c.args.walk.now in
    let f = sites_in scene (c.args.depth - 1) in
    let kind : kind_of scene c.args.node ≡ Shape None = sym c.kind_of.ensures ∙ c.in-Shape-None.is ∙ ap Shape c.in-Shape-None.field-0-is in
    no_rows scene c.args.state.now walk.trail.items walk.rows.items (sites_in scene c.args.depth c.args.node) (sites_in-more scene c.args.depth c.args.node c.requires.deep ∙ ap (λ k. site_layer f k (listed scene c.args.node)) kind)

pub gather-returns-in-Other-clause-rows : goal.gather-returns-in-Other-clause-rows
gather-returns-in-Other-clause-rows t c =
    let scene = c.args.scene.now in
    let walk = c.args.walk.now in
    let f = sites_in scene (c.args.depth - 1) in
    let kind : kind_of scene c.args.node ≡ Other = sym c.kind_of.ensures ∙ c.in-Other.is in
    no_rows scene c.args.state.now walk.trail.items walk.rows.items (sites_in scene c.args.depth c.args.node) (sites_in-more scene c.args.depth c.args.node c.requires.deep ∙ ap (λ k. site_layer f k (listed scene c.args.node)) kind)

pub gather_all-loop-position-init : goal.gather_all-loop-position-init
gather_all-loop-position-init t c =
    let scene = c.args.scene.now in
    let walk = c.args.walk.now in
    let f = sites_in scene c.args.depth in
    record {
      trail = refl;
      rows = no_rows scene c.args.state.now walk.trail.items walk.rows.items (spread site_under f 0 []) (spread-nil site_under f 0);
    }

pub gather_all-loop-position-preserved : goal.gather_all-loop-position-preserved
gather_all-loop-position-preserved t c =
    let scene = c.args.scene.now in
    let state = c.args.state.now in
    let start = c.args.walk.now in
    let f = sites_in scene c.args.depth in
    let i = c.loop-position.position in
    let node = get_or c.args.nodes.now i 0 in
    let before = spread site_under f 0 (take i c.args.nodes.now) in
    let here = map (site_under i node) (f node) in
    let make = row_at scene state start.trail.items in
    let done = c.in_ok-gather_place.ensures in
    let last : c.gather_place.new.walk.rows.items ≡ c.loop-position.walk.rows.items ++ map make here = done.rows ∙ ap (λ (ps : List Place). c.loop-position.walk.rows.items ++ map (row_at scene state ps) here) c.loop-position.invariant.trail in
    let joined : c.loop-position.walk.rows.items ++ map make here ≡ start.rows.items ++ (map make before ++ map make here) = ap (λ rs. rs ++ map make here) c.loop-position.invariant.rows ∙ append_assoc start.rows.items (map make before) (map make here) in
    let same : map make (spread site_under f 0 (take (i + 1) c.args.nodes.now)) ≡ map make before ++ map make here = ap (map make) (spread-more site_under f c.args.nodes.now i 0 c.loop-position-test.true) ∙ map-append make before here in
    record {
      trail = done.trail ∙ c.loop-position.invariant.trail;
      rows = last ∙ (joined ∙ ap (λ rs. start.rows.items ++ rs) (sym same));
    }

pub gather_place-returns-then-depth-eq0-clause-rows : goal.gather_place-returns-then-depth-eq0-clause-rows
gather_place-returns-then-depth-eq0-clause-rows t c =
    let scene = c.args.scene.now in
    let walk = c.args.walk.now in
    let place = c.args.place in
    let seen = site_under place.position place.node in
    let none : map seen (sites_in scene c.args.depth place.node) ≡ [] = ap (λ d. map seen (sites_in scene d place.node)) c.if-depth-eq0.true ∙ ap (map seen) (sites_in-none scene place.node) in
    no_rows scene c.args.state.now walk.trail.items walk.rows.items (map seen (sites_in scene c.args.depth place.node)) none

pub gather_place-returns-clause-rows : goal.gather_place-returns-clause-rows
gather_place-returns-clause-rows t c =
    let scene = c.args.scene.now in
    let state = c.args.state.now in
    let walk = c.args.walk.now in
    let place = c.args.place in
    let ss = sites_in scene c.args.depth place.node in
    let pushed : map (row_at scene state c.push.new.self.items) ss ≡ map (row_at scene state walk.trail.items) (map (site_under place.position place.node) ss) = ap (λ (ps : List Place). map (row_at scene state ps) ss) c.push.ensures.items ∙ row_at-push scene state walk.trail.items place ss in
    c.in_ok-gather.ensures.rows ∙ ap (λ rs. walk.rows.items ++ rs) pushed
