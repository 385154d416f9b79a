-- The boxes are those of the places that are shown.
use Rattle.std.proofs.Common.{◌≡◌, ℕ, zero, suc, ◌+◌, ◌≤◌, ℤ, pos, negsuc, List, [], ◌∷◌, ◌++◌, ◌∙◌, map, Some, None, Bool, true, false, ◌&&◌, if◌then◌else◌, refl, sym, ap, arith, append-nil, eq-eqb}
use Rattle.std.specs.Prelude.{slice_get, ◌==◌}
use Rattle.std.specs.Option.{option_map}
use Rattle.std.proofs.lemmas.Bool.Decides.{nat_tests}
use Rattle.x3d_values.specs.declared.fields.Fields.{Fields}
use Rattle.scene_core.specs.Scene.{SceneView}
use Rattle.pick_core.specs.Boxes.{Placed, under, inside, boxes, layer, shown, shown_child}
use Rattle.pick_core.specs.Looks.{kind_of, listed, choice_of}
use Rattle.pick_core.specs.Motion.{box_of}
use Rattle.pick_core.specs.Sites.{Site, site_under, site_layer, sites_in, sites, shows, allows_as, allows, is_shown, is_shown_from_roots, row_of, rows_of, shown_rows}
use Rattle.pick_core.specs.Spread.{spread}
use Rattle.pick_core.specs.Trail.{carried, positions}
use Rattle.pick_core.specs.declared.look.Role.{Role}
use Rattle.pick_core.specs.declared.look.Role.TheVariants.{Group, Transform, Switch, Shape, Other}

abbrev add_if : Bool → Placed → List Placed → List Placed
add_if b p ps = if b then p ∷ ps else ps

module _ (scene : SceneView) (state : List Fields) where
  abbrev placed : Site → Placed
  placed s = record { path = positions s.trail; bounds = carried scene state s.trail (box_of s.size) }

  -- the boxes below a node of the places that are shown
  abbrev seen : ℕ → List Site → List Placed
  seen node [] = []
  seen node (s ∷ ss) = add_if (is_shown scene state node s.trail) (placed s) (seen node ss)

  seen-append : (node : ℕ) (xs ys : List Site) → seen node (xs ++ ys) ≡ seen node xs ++ seen node ys
  seen-append node [] ys = refl
  seen-append node (s ∷ xs) ys = cases (is_shown scene state node s.trail) (seen-append node xs ys)
    where
      cases : (b : Bool) → seen node (xs ++ ys) ≡ seen node xs ++ seen node ys → add_if b (placed s) (seen node (xs ++ ys)) ≡ add_if b (placed s) (seen node xs) ++ seen node ys
      cases true rest = ap (λ ps. placed s ∷ ps) rest
      cases false rest = rest

  placed-under : (position node : ℕ) (s : Site) → placed (site_under position node s) ≡ under scene state position node (placed s)
  unfolding carried
  placed-under position node s = refl

  -- a child that is allowed
  seen-allowed : (parent position node : ℕ) (ss : List Site) → allows scene state parent position ≡ true → seen parent (map (site_under position node) ss) ≡ map (under scene state position node) (seen node ss)
  unfolding is_shown
  seen-allowed parent position node [] h = refl
  seen-allowed parent position node (s ∷ ss) h =
      ap (λ b. add_if (b && is_shown scene state node s.trail) (placed (site_under position node s)) (seen parent (map (site_under position node) ss))) h ∙ cases (is_shown scene state node s.trail) (seen-allowed parent position node ss h)
    where
      cases : (b : Bool) → seen parent (map (site_under position node) ss) ≡ map (under scene state position node) (seen node ss) → add_if (true && b) (placed (site_under position node s)) (seen parent (map (site_under position node) ss)) ≡ map (under scene state position node) (add_if b (placed s) (seen node ss))
      cases true rest = ap (λ ps. placed (site_under position node s) ∷ ps) rest ∙ ap (λ p. p ∷ map (under scene state position node) (seen node ss)) (placed-under position node s)
      cases false rest = rest

  -- a child that is not
  seen-hidden : (parent position node : ℕ) (ss : List Site) → allows scene state parent position ≡ false → seen parent (map (site_under position node) ss) ≡ []
  unfolding is_shown
  seen-hidden parent position node [] h = refl
  seen-hidden parent position node (s ∷ ss) h =
      ap (λ b. add_if (b && is_shown scene state node s.trail) (placed (site_under position node s)) (seen parent (map (site_under position node) ss))) h ∙ seen-hidden parent position node ss h

  module _ (f : ℕ → List Placed) (g : ℕ → List Site) (same : (node : ℕ) → f node ≡ seen node (g node)) where
    seen-all : (parent position : ℕ) (nodes : List ℕ) → ((k : ℕ) → allows scene state parent k ≡ true) → spread (under scene state) f position nodes ≡ seen parent (spread site_under g position nodes)
    unfolding spread
    seen-all parent position [] h = refl
    seen-all parent position (node ∷ nodes) h =
        ap (λ ps. map (under scene state position node) ps ++ spread (under scene state) f (position + 1) nodes) (same node)
        ∙ (ap (λ ps. map (under scene state position node) (seen node (g node)) ++ ps) (seen-all parent (position + 1) nodes h)
        ∙ (ap (λ ps. ps ++ seen parent (spread site_under g (position + 1) nodes)) (sym (seen-allowed parent position node (g node) (h position)))
        ∙ sym (seen-append parent (map (site_under position node) (g node)) (spread site_under g (position + 1) nodes))))

    seen-none : (parent position : ℕ) (nodes : List ℕ) → ((k : ℕ) → position ≤ k → allows scene state parent k ≡ false) → seen parent (spread site_under g position nodes) ≡ []
    unfolding spread
    seen-none parent position [] h = refl
    seen-none parent position (node ∷ nodes) h =
        seen-append parent (map (site_under position node) (g node)) (spread site_under g (position + 1) nodes)
        ∙ (ap (λ ps. ps ++ seen parent (spread site_under g (position + 1) nodes)) (seen-hidden parent position node (g node) (h position (omega arith)))
        ∙ seen-none parent (position + 1) nodes (λ k l. h k (omega arith)))

    -- only the child that is ahead by some places
    seen-one : (parent position ahead which : ℕ) (nodes : List ℕ) → which ≡ position + ahead → ((k : ℕ) → allows scene state parent k ≡ (which == k)) → shown (under scene state) f (option_map (λ node. record { position = which; node = node }) (slice_get nodes ahead)) ≡ seen parent (spread site_under g position nodes)
    unfolding spread
    seen-one parent position ahead which [] e h = refl
    seen-one parent position zero which (node ∷ nodes) e h =
        let is : which ≡ position = omega arith in
        let on : allows scene state parent position ≡ true = h position ∙ eq-eqb which position is in
        let off : (k : ℕ) → position + 1 ≤ k → allows scene state parent k ≡ false = λ k l. h k ∙ (let ne : which ≡ k → ⊥ = λ q. omega arith in grind (arith, nat_tests)) in
        ap (λ k. map (under scene state k node) (f node)) is
        ∙ (ap (λ ps. map (under scene state position node) ps) (same node)
        ∙ (sym (seen-allowed parent position node (g node) on)
        ∙ (sym (append-nil (seen parent (map (site_under position node) (g node))))
        ∙ (ap (λ ps. seen parent (map (site_under position node) (g node)) ++ ps) (sym (seen-none parent (position + 1) nodes off))
        ∙ sym (seen-append parent (map (site_under position node) (g node)) (spread site_under g (position + 1) nodes))))))
    seen-one parent position (suc ahead) which (node ∷ nodes) e h =
        let off : allows scene state parent position ≡ false = h position ∙ (let ne : which ≡ position → ⊥ = λ q. omega arith in grind (arith, nat_tests)) in
        seen-one parent (position + 1) ahead which nodes (omega arith) h
        ∙ (ap (λ ps. ps ++ seen parent (spread site_under g (position + 1) nodes)) (sym (seen-hidden parent position node (g node) off))
        ∙ sym (seen-append parent (map (site_under position node) (g node)) (spread site_under g (position + 1) nodes)))

    seen-switch : (parent : ℕ) (which : ℤ) (nodes : List ℕ) → ((k : ℕ) → allows scene state parent k ≡ shows which k) → shown (under scene state) f (shown_child nodes which) ≡ seen parent (spread site_under g 0 nodes)
    unfolding shown_child
    seen-switch parent (pos which) nodes h = seen-one parent 0 which which nodes (omega arith) h
    seen-switch parent (negsuc which) nodes h = sym (seen-none parent 0 nodes (λ k l. h k))

    seen-layer : (parent : ℕ) (which : ℤ) (kind : Role) (children : List ℕ) → ((k : ℕ) → allows scene state parent k ≡ allows_as which kind k) → layer (under scene state) f which kind children ≡ seen parent (site_layer g kind children)
    unfolding is_shown carried
    seen-layer parent which Group children h = seen-all parent 0 children h
    seen-layer parent which Transform children h = seen-all parent 0 children h
    seen-layer parent which Switch children h = seen-switch parent which children h
    seen-layer parent which (Shape None) children h = refl
    seen-layer parent which (Shape (Some size)) children h = refl
    seen-layer parent which Other children h = refl

  allows-is : (parent k : ℕ) → allows scene state parent k ≡ allows_as (choice_of (slice_get state parent)) (kind_of scene parent) k
  unfolding allows
  allows-is parent k = refl

  inside-seen : (depth node : ℕ) → inside scene state depth node ≡ seen node (sites_in scene depth node)
  unfolding inside sites_in
  inside-seen zero node = refl
  inside-seen (suc depth) node =
      seen-layer (inside scene state depth) (sites_in scene depth) (λ n. inside-seen depth n) node (choice_of (slice_get state node)) (kind_of scene node) (listed scene node) (λ k. allows-is node k)

  -- the places from the roots
  abbrev seen_from_roots : List Site → List Placed
  seen_from_roots [] = []
  seen_from_roots (s ∷ ss) = add_if (is_shown_from_roots scene state s.trail) (placed s) (seen_from_roots ss)

  seen_from_roots-append : (xs ys : List Site) → seen_from_roots (xs ++ ys) ≡ seen_from_roots xs ++ seen_from_roots ys
  seen_from_roots-append [] ys = refl
  seen_from_roots-append (s ∷ xs) ys = cases (is_shown_from_roots scene state s.trail) (seen_from_roots-append xs ys)
    where
      cases : (b : Bool) → seen_from_roots (xs ++ ys) ≡ seen_from_roots xs ++ seen_from_roots ys → add_if b (placed s) (seen_from_roots (xs ++ ys)) ≡ add_if b (placed s) (seen_from_roots xs) ++ seen_from_roots ys
      cases true rest = ap (λ ps. placed s ∷ ps) rest
      cases false rest = rest

  seen_from_roots-under : (position node : ℕ) (ss : List Site) → seen_from_roots (map (site_under position node) ss) ≡ map (under scene state position node) (seen node ss)
  seen_from_roots-under position node [] = refl
  seen_from_roots-under position node (s ∷ ss) = cases (is_shown scene state node s.trail) (seen_from_roots-under position node ss)
    where
      cases : (b : Bool) → seen_from_roots (map (site_under position node) ss) ≡ map (under scene state position node) (seen node ss) → add_if b (placed (site_under position node s)) (seen_from_roots (map (site_under position node) ss)) ≡ map (under scene state position node) (add_if b (placed s) (seen node ss))
      cases true rest = ap (λ ps. placed (site_under position node s) ∷ ps) rest ∙ ap (λ p. p ∷ map (under scene state position node) (seen node ss)) (placed-under position node s)
      cases false rest = rest

  seen-roots : (position : ℕ) (nodes : List ℕ) → spread (under scene state) (inside scene state 64) position nodes ≡ seen_from_roots (spread site_under (sites_in scene 64) position nodes)
  unfolding spread
  seen-roots position [] = refl
  seen-roots position (node ∷ nodes) =
      ap (λ ps. map (under scene state position node) ps ++ spread (under scene state) (inside scene state 64) (position + 1) nodes) (inside-seen 64 node)
      ∙ (ap (λ ps. map (under scene state position node) (seen node (sites_in scene 64 node)) ++ ps) (seen-roots (position + 1) nodes)
      ∙ (ap (λ ps. ps ++ seen_from_roots (spread site_under (sites_in scene 64) (position + 1) nodes)) (sym (seen_from_roots-under position node (sites_in scene 64 node)))
      ∙ sym (seen_from_roots-append (map (site_under position node) (sites_in scene 64 node)) (spread site_under (sites_in scene 64) (position + 1) nodes))))

  rows-seen : (ss : List Site) → shown_rows (map (λ (s : Site). row_of scene state s.trail s.size) ss) ≡ seen_from_roots ss
  unfolding shown_rows
  rows-seen [] = refl
  rows-seen (s ∷ ss) = ap (λ ps. add_if (is_shown_from_roots scene state s.trail) (placed s) ps) (rows-seen ss)

  -- the rows that are shown are the boxes
  pub rows-boxes : shown_rows (rows_of scene state) ≡ boxes scene state
  unfolding boxes sites rows_of
  rows-boxes = rows-seen (sites scene) ∙ sym (seen-roots 0 scene.roots)
