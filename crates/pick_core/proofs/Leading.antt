-- The part of a hit's path that leads to a sensor.
use Rattle.std.proofs.Common.{◌≡◌, ◌∙◌, sym, refl, ap, subst, ℕ, suc, ◌+◌, ◌<◌, ◌==◌, Bool, true, false, not, ◌&&◌, List, [], ◌∷◌, ◌-◌, ◌≤◌, drop, get_or, is_some, length, take, take_all, IfSome, Option, Some, None, slice_get, option_map, option_and_then, if◌then◌else◌, arith}
use Rattle.std.specs.List.{list_any}
use Rattle.x3d_values.specs.declared.fields.Fields.{Fields}
use Rattle.x3d_values.specs.declared.node_type.NodeType.{NodeType}
use Rattle.x3d_values.specs.declared.node_type.NodeType.TheVariants.{Switch, Transform}
use Rattle.x3d_values.specs.declared.vector.Vec3.{Vec3}
use Rattle.scene_core.specs.Scene.{SceneView, type_at}
use Rattle.pick_core.specs.Local.{entered, entered_by, local_along, moved_back, or_own}
use Rattle.pick_core.specs.Looks.{kind_as, kind_of, listed, motion_of}
use Rattle.pick_core.specs.Sensors.{list_of, siblings_in, unless_switch}
use Rattle.pick_core.specs.Paths.{depth_along, holds, if_held, inside, inward, is_switch_as, is_transform_as, leads_to, nodes_along, or_here}
use Rattle.pick_core.specs.SensorPaths.{SensorsPathsLead, SensorsPointsAreInward}

-- ---- what a list holds

held_by_type : (scene : SceneView) (node sensor : ℕ) (nodes : List ℕ) (o : Option NodeType) → list_any (λ n. n == sensor) (unless_switch (kind_as scene node o) nodes) ≡ (not (is_switch_as o) && list_any (λ n. n == sensor) nodes)
held_by_type scene node sensor nodes None = refl
held_by_type scene node sensor nodes (Some Switch) = refl
held_by_type scene node sensor nodes (Some _) = refl

pub held_is : (scene : SceneView) (owner : Option ℕ) (sensor : ℕ) → list_any (λ n. n == sensor) (siblings_in scene owner) ≡ holds scene owner sensor
unfolding siblings_in kind_of
held_is scene None sensor = refl
held_is scene (Some node) sensor = held_by_type scene node sensor (listed scene node) (type_at scene node)

-- ---- into a node

entered_by_type : (scene : SceneView) (node : ℕ) (own : Option Fields) (p : Vec3) (o : Option NodeType) → entered_by (kind_as scene node o) own p ≡ (if is_transform_as o then moved_back (motion_of own) p else p)
entered_by_type scene node own p None = refl
entered_by_type scene node own p (Some Transform) = refl
entered_by_type scene node own p (Some _) = refl

entered_is : (scene : SceneView) (state : List Fields) (node : ℕ) (p : Vec3) → entered scene state node p ≡ inside scene state node p
unfolding entered kind_of inside
entered_is scene state node p = entered_by_type scene node (slice_get state node) p (type_at scene node)

-- ---- one step down

more : (d : ℕ) → suc d ≡ d + 1
more d = omega arith

nodes_step : (scene : SceneView) (owner : Option ℕ) (p : ℕ) (ps : List ℕ) (child d : ℕ) → slice_get (list_of scene owner) p ≡ Some child → nodes_along scene owner (take (d + 1) (p ∷ ps)) ≡ child ∷ nodes_along scene (Some child) (take d ps)
unfolding nodes_along
nodes_step scene owner p ps child d is =
    subst (λ k. nodes_along scene owner (take k (p ∷ ps)) ≡ child ∷ nodes_along scene (Some child) (take d ps)) (more d) (rw is refl)

leads_step : (scene : SceneView) (owner : Option ℕ) (sensor p : ℕ) (ps : List ℕ) (child d : ℕ) → slice_get (list_of scene owner) p ≡ Some child → leads_to scene owner (take (d + 1) (p ∷ ps)) sensor ≡ leads_to scene (Some child) (take d ps) sensor
unfolding leads_to
leads_step scene owner sensor p ps child d is =
    subst (λ k. leads_to scene owner (take k (p ∷ ps)) sensor ≡ leads_to scene (Some child) (take d ps) sensor) (more d) (rw is refl)

-- ---- where a hit lies

module _ (scene : SceneView) (state : List Fields) (sensor : ℕ) (owner : Option ℕ) (p : ℕ) (ps : List ℕ) (at : Vec3) where
  abbrev pub below : ℕ → ℕ → Vec3
  below child d = inward scene state (nodes_along scene (Some child) (take d ps)) (entered scene state child at)

  abbrev pub from_here : ℕ → Vec3
  from_here d = inward scene state (nodes_along scene owner (take d (p ∷ ps))) at

  one_deeper : (child d : ℕ) → slice_get (list_of scene owner) p ≡ Some child → below child d ≡ from_here (d + 1)
  unfolding inward
  one_deeper child d is =
      ap (inward scene state (nodes_along scene (Some child) (take d ps))) (entered_is scene state child at)
      ∙ ap (λ ns. inward scene state ns at) (sym (nodes_step scene owner p ps child d is))

  in_child : (child : ℕ) (held : Bool) (depth : Option ℕ) → slice_get (list_of scene owner) p ≡ Some child → or_own (option_map (below child) depth) (if held then Some at else None) ≡ option_map from_here (or_here (option_map (λ n. n + 1) depth) (if held then Some 0 else None))
  unfolding inward nodes_along
  in_child child true None is = refl
  in_child child false None is = refl
  in_child child held (Some d) is = ap Some (one_deeper child d is)

  pub in_list : (held : Bool) (o : Option ℕ) → slice_get (list_of scene owner) p ≡ o → ((child : ℕ) → local_along scene state sensor (Some child) ps (entered scene state child at) ≡ option_map (below child) (depth_along scene sensor (Some child) ps)) → or_own (option_and_then (λ child. local_along scene state sensor (Some child) ps (entered scene state child at)) o) (if held then Some at else None) ≡ option_map from_here (or_here (option_map (λ n. n + 1) (option_and_then (λ child. depth_along scene sensor (Some child) ps) o)) (if held then Some 0 else None))
  unfolding inward nodes_along
  in_list true None is below_is = refl
  in_list false None is below_is = refl
  in_list held (Some child) is below_is =
      ap (λ l. or_own l (if held then Some at else None)) (below_is child) ∙ in_child child held (depth_along scene sensor (Some child) ps) is

pub points_are_inward : SensorsPointsAreInward
unfolding local_along depth_along
points_are_inward scene state sensor owner [] at = refl
points_are_inward scene state sensor owner (p ∷ ps) at =
    ap (λ held. or_own (option_and_then (λ child. local_along scene state sensor (Some child) ps (entered scene state child at)) (slice_get (list_of scene owner) p)) (if held then Some at else None)) (held_is scene owner sensor)
    ∙ in_list scene state sensor owner p ps at (holds scene owner sensor) (slice_get (list_of scene owner) p) refl (λ child. points_are_inward scene state sensor (Some child) ps (entered scene state child at))

-- ---- where the part leads

module _ (scene : SceneView) (sensor : ℕ) (owner : Option ℕ) (p : ℕ) (ps : List ℕ) where
  here_leads : (depth : ℕ) (held : Bool) → holds scene owner sensor ≡ held → (if held then Some 0 else None) ≡ Some depth → leads_to scene owner (take depth (p ∷ ps)) sensor ≡ true
  unfolding leads_to
  here_leads depth true is e =
      let none : 0 ≡ depth = cc in
      subst (λ k. leads_to scene owner (take k (p ∷ ps)) sensor ≡ true) none is
  here_leads depth false is e = absurd cc

  child_leads : (child depth : ℕ) (d : Option ℕ) → slice_get (list_of scene owner) p ≡ Some child → ((k : ℕ) → d ≡ Some k → leads_to scene (Some child) (take k ps) sensor ≡ true) → or_here (option_map (λ n. n + 1) d) (if_held scene owner sensor) ≡ Some depth → leads_to scene owner (take depth (p ∷ ps)) sensor ≡ true
  child_leads child depth None is leads e = here_leads depth (holds scene owner sensor) refl e
  child_leads child depth (Some k) is leads e =
      let deeper : k + 1 ≡ depth = cc in
      subst (λ n. leads_to scene owner (take n (p ∷ ps)) sensor ≡ true) deeper (leads_step scene owner sensor p ps child k is ∙ leads k refl)

  pub list_leads : (depth : ℕ) (o : Option ℕ) → slice_get (list_of scene owner) p ≡ o → ((child k : ℕ) → depth_along scene sensor (Some child) ps ≡ Some k → leads_to scene (Some child) (take k ps) sensor ≡ true) → or_here (option_map (λ n. n + 1) (option_and_then (λ child. depth_along scene sensor (Some child) ps) o)) (if_held scene owner sensor) ≡ Some depth → leads_to scene owner (take depth (p ∷ ps)) sensor ≡ true
  list_leads depth None is leads e = here_leads depth (holds scene owner sensor) refl e
  list_leads depth (Some child) is leads e = child_leads child depth (depth_along scene sensor (Some child) ps) is (leads child) e

pub paths_lead : SensorsPathsLead
unfolding depth_along
paths_lead scene sensor owner [] depth e = absurd cc
paths_lead scene sensor owner (p ∷ ps) depth e =
    list_leads scene sensor owner p ps depth (slice_get (list_of scene owner) p) refl (λ child k. paths_lead scene sensor (Some child) ps k) e

-- ---- how long the part is

shorter : (F : ℕ → Option ℕ) (len : ℕ) (o : Option ℕ) (held : Bool) → ((child : ℕ) → IfSome (F child) (λ d. d < len)) → IfSome (or_here (option_map (λ n. n + 1) (option_and_then F o)) (if held then Some 0 else None)) (λ d. d < suc len)
shorter F len None true below = omega arith
shorter F len None false below = tt
shorter F len (Some child) held below = one (F child) held (below child)
  where
    one : (d : Option ℕ) (held : Bool) → IfSome d (λ n. n < len) → IfSome (or_here (option_map (λ n. n + 1) d) (if held then Some 0 else None)) (λ n. n < suc len)
    one None true l = omega arith
    one None false l = tt
    one (Some d) held l = omega (arith, l)

pub is_short : (scene : SceneView) (sensor : ℕ) (owner : Option ℕ) (path : List ℕ) → IfSome (depth_along scene sensor owner path) (λ d. d < length path)
unfolding depth_along
is_short scene sensor owner [] = tt
is_short scene sensor owner (p ∷ ps) =
    shorter (λ child. depth_along scene sensor (Some child) ps) (length ps) (slice_get (list_of scene owner) p) (holds scene owner sensor) (λ child. is_short scene sensor (Some child) ps)

-- ---- a path as a slice

-- the positions behind the first one
abbrev pub behind : List ℕ → List ℕ
behind path = take (length path - 1) (drop 1 path)

depth_at : (scene : SceneView) (sensor : ℕ) (owner : Option ℕ) (p : ℕ) (ps : List ℕ) (child : ℕ) (lower deep : Option ℕ) → slice_get (list_of scene owner) p ≡ Some child → lower ≡ depth_along scene sensor (Some child) ps → deep ≡ option_map (λ n. n + 1) lower → or_here deep (if_held scene owner sensor) ≡ depth_along scene sensor owner (p ∷ ps)
unfolding depth_along
depth_at scene sensor owner p ps child lower deep here low is =
    ap (λ d. or_here d (if_held scene owner sensor))
    (is ∙ ap (λ d. option_map (λ n. n + 1) d) (low ∙ ap (λ o. option_and_then (λ child. depth_along scene sensor (Some child) ps) o) (sym here)))

pub depth_of : (scene : SceneView) (sensor : ℕ) (owner : Option ℕ) (path : List ℕ) (child : ℕ) (lower deep : Option ℕ) → 1 ≤ length path → slice_get (list_of scene owner) (get_or path 0 0) ≡ Some child → lower ≡ depth_along scene sensor (Some child) (behind path) → deep ≡ option_map (λ n. n + 1) lower → or_here deep (if_held scene owner sensor) ≡ depth_along scene sensor owner path
depth_of scene sensor owner [] child lower deep long here low is = absurd (omega arith)
depth_of scene sensor owner (p ∷ ps) child lower deep long here low is =
    let all : take (suc (length ps) - 1) ps ≡ ps = take_all (suc (length ps) - 1) ps (omega arith) in
    depth_at scene sensor owner p ps child lower deep here (low ∙ ap (λ l. depth_along scene sensor (Some child) l) all) is

pub some_first : (d here : Option ℕ) → is_some d ≡ true → or_here d here ≡ d
some_first None here e = absurd cc
some_first (Some d) here e = refl

pub none_then : (d here : Option ℕ) → is_some d ≡ false → or_here d here ≡ here
none_then None here e = refl
none_then (Some d) here e = absurd cc
