-- Trails through the scene.
use Rattle.std.proofs.Common.{◌≡◌, ℕ, zero, suc, ◌+◌, ◌-◌, ◌<◌, ◌≤◌, List, [], ◌∷◌, ◌++◌, ◌∙◌, sym, ap, refl, map, take, length, get_or, arith, append_assoc, append-nil, add-zero}
use Rattle.std.specs.Prelude.{slice_get}
use Rattle.std.proofs.lemmas.List.{take_more, map-append, length-take}
use Rattle.x3d_values.specs.declared.fields.Fields.{Fields}
use Rattle.scene_core.specs.Scene.{SceneView}
use Rattle.pick_core.specs.Boxes.{Placed, under, inside, layer, boxes}
use Rattle.pick_core.specs.Looks.{kind_of, listed, choice_of}
use Rattle.pick_core.specs.Motion.{moved_at}
use Rattle.pick_core.specs.Sites.{Site, site_under, site_layer, sites_in, sites, row_of, row_at, rows_of}
use Rattle.pick_core.specs.Spread.{spread}
use Rattle.pick_core.specs.Trail.{carried, positions, raised}
use Rattle.pick_rules.specs.declared.bounds.Bounds.{Bounds}
use Rattle.pick_core.specs.declared.trail.Place.{Place}

-- ---- what stands side by side

module _ {A : Type 0} (seen : ℕ → ℕ → A → A) (f : ℕ → List A) where
  spread-push : (at : ℕ) (nodes : List ℕ) (node : ℕ) → spread seen f at (nodes ++ node ∷ []) ≡ spread seen f at nodes ++ map (seen (at + length nodes) node) (f node)
  unfolding spread
  spread-push at [] node = grind (arith, append-nil, add-zero)
  spread-push at (x ∷ nodes) node =
      ap (λ xs. map (seen at x) (f x) ++ xs) (spread-push (at + 1) nodes node) ∙ (ap (λ k. map (seen at x) (f x) ++ (spread seen f (at + 1) nodes ++ map (seen k node) (f node))) (omega arith) ∙ sym (append_assoc (map (seen at x) (f x)) (spread seen f (at + 1) nodes) (map (seen (at + length (x ∷ nodes)) node) (f node))))

  pub spread-more : (nodes : List ℕ) (i d : ℕ) → i < length nodes → spread seen f 0 (take (i + 1) nodes) ≡ spread seen f 0 (take i nodes) ++ map (seen i (get_or nodes i d)) (f (get_or nodes i d))
  spread-more nodes i d h =
      let x = get_or nodes i d in
      let long : 0 + length (take i nodes) ≡ i = omega (arith, length-take i nodes) in
      ap (λ xs. spread seen f 0 xs) (take_more nodes i d h) ∙ (spread-push 0 (take i nodes) x ∙ ap (λ k. spread seen f 0 (take i nodes) ++ map (seen k x) (f x)) long)

  pub spread-nil : (at : ℕ) → spread seen f at [] ≡ []
  unfolding spread
  spread-nil at = refl

-- ---- boxes

module _ (scene : SceneView) (state : List Fields) where
  carried-push : (ps : List Place) (p : Place) (b : Bounds) → carried scene state (ps ++ p ∷ []) b ≡ carried scene state ps (moved_at scene state p.node b)
  unfolding carried
  carried-push [] p b = refl
  carried-push (q ∷ ps) p b = ap (moved_at scene state q.node) (carried-push ps p b)

  pub carried-take : (ps : List Place) (k : ℕ) (d : Place) (b : Bounds) → 0 < k → k ≤ length ps → carried scene state (take (k - 1) ps) (moved_at scene state (get_or ps (k - 1) d).node b) ≡ carried scene state (take k ps) b
  carried-take ps k d b z h =
      let one : k ≡ k - 1 + 1 = omega arith in
      let more : take k ps ≡ take (k - 1) ps ++ get_or ps (k - 1) d ∷ [] = ap (λ n. take n ps) one ∙ take_more ps (k - 1) d (omega arith) in
      sym (ap (λ qs. carried scene state qs b) more ∙ carried-push (take (k - 1) ps) (get_or ps (k - 1) d) b)

  pub carried-none : (ps : List Place) (k : ℕ) (b : Bounds) → k ≡ 0 → b ≡ carried scene state (take k ps) b
  unfolding carried
  carried-none ps k b e = sym (ap (λ n. carried scene state (take n ps) b) e)

  raised-push-one : (ps : List Place) (p : Place) (b : Placed) → raised scene state (ps ++ p ∷ []) b ≡ raised scene state ps (under scene state p.position p.node b)
  raised-push-one ps p b =
      let path : positions (ps ++ p ∷ []) ++ b.path ≡ positions ps ++ p.position ∷ b.path = ap (λ xs. xs ++ b.path) (map-append (λ (q : Place). q.position) ps (p ∷ [])) ∙ append_assoc (positions ps) (p.position ∷ []) b.path in
      let bounds = carried-push ps p b.bounds in
      let pair : List ℕ → Bounds → Placed = λ x y. record { path = x; bounds = y } in
      ap (λ x. pair x (carried scene state (ps ++ p ∷ []) b.bounds)) path ∙ ap (λ y. pair (positions ps ++ p.position ∷ b.path) y) bounds

  pub raised-push : (ps : List Place) (p : Place) (bs : List Placed) → map (raised scene state (ps ++ p ∷ [])) bs ≡ map (raised scene state ps) (map (under scene state p.position p.node) bs)
  raised-push ps p [] = refl
  raised-push ps p (b ∷ bs) = ap (λ x. x ∷ map (raised scene state (ps ++ p ∷ [])) bs) (raised-push-one ps p b) ∙ ap (λ xs. raised scene state ps (under scene state p.position p.node b) ∷ xs) (raised-push ps p bs)

  raised-none : (bs : List Placed) → map (raised scene state []) bs ≡ bs
  unfolding carried
  raised-none [] = refl
  raised-none (b ∷ bs) = ap (λ xs. b ∷ xs) (raised-none bs)

  pub inside-none : (node : ℕ) → inside scene state 0 node ≡ []
  unfolding inside
  inside-none node = refl

  pub inside-more : (depth node : ℕ) → 0 < depth → inside scene state depth node ≡ layer (under scene state) (inside scene state (depth - 1)) (choice_of (slice_get state node)) (kind_of scene node) (listed scene node)
  unfolding inside
  inside-more zero node h = absurd (omega arith)
  inside-more (suc depth) node h = ap (λ k. layer (under scene state) (inside scene state k) (choice_of (slice_get state node)) (kind_of scene node) (listed scene node)) (omega arith)

  pub boxes-is : boxes scene state ≡ map (raised scene state []) (spread (under scene state) (inside scene state 64) 0 scene.roots)
  unfolding boxes
  boxes-is = sym (raised-none (spread (under scene state) (inside scene state 64) 0 scene.roots))

  -- ---- rows

  row_at-push-one : (ps : List Place) (p : Place) (s : Site) → row_at scene state (ps ++ p ∷ []) s ≡ row_at scene state ps (site_under p.position p.node s)
  row_at-push-one ps p s = ap (λ trail. row_of scene state trail s.size) (append_assoc ps (p ∷ []) s.trail)

  pub row_at-push : (ps : List Place) (p : Place) (ss : List Site) → map (row_at scene state (ps ++ p ∷ [])) ss ≡ map (row_at scene state ps) (map (site_under p.position p.node) ss)
  row_at-push ps p [] = refl
  row_at-push ps p (s ∷ ss) = ap (λ x. x ∷ map (row_at scene state (ps ++ p ∷ [])) ss) (row_at-push-one ps p s) ∙ ap (λ xs. row_at scene state ps (site_under p.position p.node s) ∷ xs) (row_at-push ps p ss)

  pub rows-is : rows_of scene state ≡ map (row_at scene state []) (spread site_under (sites_in scene 64) 0 scene.roots)
  unfolding rows_of sites
  rows-is = refl

module _ (scene : SceneView) where
  pub sites_in-none : (node : ℕ) → sites_in scene 0 node ≡ []
  unfolding sites_in
  sites_in-none node = refl

  pub sites_in-more : (depth node : ℕ) → 0 < depth → sites_in scene depth node ≡ site_layer (sites_in scene (depth - 1)) (kind_of scene node) (listed scene node)
  unfolding sites_in
  sites_in-more zero node h = absurd (omega arith)
  sites_in-more (suc depth) node h = ap (λ k. site_layer (sites_in scene k) (kind_of scene node) (listed scene node)) (omega arith)
