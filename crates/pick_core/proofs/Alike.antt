-- Rows depend on what a ray sees of the nodes alone.
use Rattle.std.proofs.Common.{◌≡◌, ◌∙◌, ℕ, List, [], ◌∷◌, map, Bool, ◌&&◌, Option, refl, ap}
use Rattle.std.proofs.Common.{Some, None, inl, inr, eqb-true}
use Rattle.std.proofs.lemmas.Bool.{cases_Bool, eqb-false}
use Rattle.std.specs.Prelude.{◌==◌, slice_get}
use Rattle.x3d_values.specs.declared.node_type.NodeType.{NodeType}
use Rattle.x3d_values.specs.declared.node_type.NodeType.TheVariants as type
use Rattle.x3d_values.specs.declared.fields.Fields.{Fields}
use Rattle.x3d_values.specs.declared.vector.Vec3.{Vec3}
use Rattle.scene_core.specs.Scene.{SceneView, type_at}
use Rattle.pick_core.specs.Looks.{kind_as, kind_of, choice_of}
use Rattle.pick_core.specs.Motion.{box_of, moved_at, moved_by, moved_box}
use Rattle.pick_core.specs.Sites.{Site, IsAlike, AreAlike, IsSameBut, allows, allows_as, is_shown, is_shown_from_roots, row_of, rows_of, shows, sites}
use Rattle.pick_core.specs.Trail.{carried}
use Rattle.pick_rules.specs.declared.bounds.Bounds.{Bounds}
use Rattle.pick_core.specs.declared.look.Role.{Role}
use Rattle.pick_core.specs.declared.look.Role.TheVariants.{Group, Transform, Switch, Shape, Other}
use Rattle.pick_core.specs.declared.row.BoxRow.{BoxRow}
use Rattle.pick_core.specs.declared.trail.Place.{Place}

moved-alike : (kind : Role) (a b : Option Fields) (bounds : Bounds) → IsAlike kind a b → moved_by kind a bounds ≡ moved_by kind b bounds
moved-alike Transform a b bounds h = ap (λ m. moved_box m bounds) h
moved-alike Switch a b bounds h = refl
moved-alike Group a b bounds h = refl
moved-alike (Shape size) a b bounds h = refl
moved-alike Other a b bounds h = refl

allows-alike : (kind : Role) (a b : Option Fields) (position : ℕ) → IsAlike kind a b → allows_as (choice_of a) kind position ≡ allows_as (choice_of b) kind position
allows-alike Transform a b position h = refl
allows-alike Switch a b position h = ap (λ which. shows which position) h
allows-alike Group a b position h = refl
allows-alike (Shape size) a b position h = refl
allows-alike Other a b position h = refl

map-alike : {A B : Type 0} (f g : A → B) → ((x : A) → f x ≡ g x) → (xs : List A) → map f xs ≡ map g xs
map-alike f g same [] = refl
map-alike f g same (x ∷ xs) = ap (λ y. y ∷ map f xs) (same x) ∙ ap (λ ys. g x ∷ ys) (map-alike f g same xs)

module _ (scene : SceneView) (before after : List Fields) (alike : AreAlike scene before after) where
  moved-here : (k : ℕ) (b : Bounds) → moved_at scene before k b ≡ moved_at scene after k b
  unfolding moved_at
  moved-here k b = moved-alike (kind_of scene k) (slice_get before k) (slice_get after k) b (alike k)

  allows-here : (k position : ℕ) → allows scene before k position ≡ allows scene after k position
  unfolding allows
  allows-here k position = allows-alike (kind_of scene k) (slice_get before k) (slice_get after k) position (alike k)

  carried-alike : (ps : List Place) (b : Bounds) → carried scene before ps b ≡ carried scene after ps b
  unfolding carried
  carried-alike [] b = refl
  carried-alike (p ∷ ps) b = moved-here p.node (carried scene before ps b) ∙ ap (moved_at scene after p.node) (carried-alike ps b)

  shown-alike : (ps : List Place) (n : ℕ) → is_shown scene before n ps ≡ is_shown scene after n ps
  unfolding is_shown
  shown-alike [] n = refl
  shown-alike (p ∷ ps) n =
      ap (λ b. b && is_shown scene before p.node ps) (allows-here n p.position) ∙ ap (λ b. allows scene after n p.position && b) (shown-alike ps p.node)

  shown-alike-roots : (ps : List Place) → is_shown_from_roots scene before ps ≡ is_shown_from_roots scene after ps
  shown-alike-roots [] = refl
  shown-alike-roots (p ∷ ps) = shown-alike ps p.node

  row-alike : (trail : List Place) (size : Vec3) → row_of scene before trail size ≡ row_of scene after trail size
  row-alike trail size =
      let make : Bounds → Bool → BoxRow = λ b s. record { trail = trail; size = size; bounds = b; shown = s } in
      ap (λ b. make b (is_shown_from_roots scene before trail)) (carried-alike trail (box_of size)) ∙ ap (λ s. make (carried scene after trail (box_of size)) s) (shown-alike-roots trail)

  rows-alike : rows_of scene before ≡ rows_of scene after
  unfolding rows_of
  rows-alike = map-alike (λ (s : Site). row_of scene before s.trail s.size) (λ (s : Site). row_of scene after s.trail s.size) (λ s. row-alike s.trail s.size) (sites scene)

pub alike_rows : (scene : SceneView) (before after : List Fields) → AreAlike scene before after → rows_of scene before ≡ rows_of scene after
alike_rows scene before after alike = rows-alike scene before after alike

-- ---- a change at a node that is neither a Transform nor a Switch

equal_alike : (kind : Role) (a b : Option Fields) → a ≡ b → IsAlike kind a b
equal_alike Transform a b e = rw e refl
equal_alike Switch a b e = rw e refl
equal_alike Group a b e = tt
equal_alike (Shape size) a b e = tt
equal_alike Other a b e = tt

unmoved_alike : (scene : SceneView) (node : ℕ) (t : Option NodeType) (a b : Option Fields) → (t ≡ Some type.Transform → ⊥) → (t ≡ Some type.Switch → ⊥) → IsAlike (kind_as scene node t) a b
unmoved_alike scene node None a b h k = tt
unmoved_alike scene node (Some type.Transform) a b h k = absurd (h refl)
unmoved_alike scene node (Some type.Switch) a b h k = absurd (k refl)
unmoved_alike scene node (Some type.Group) a b h k = tt
unmoved_alike scene node (Some type.Shape) a b h k = tt
unmoved_alike scene node (Some _) a b h k = tt

pub alike_but : (scene : SceneView) (node : ℕ) (before after : List Fields) → (type_at scene node ≡ Some type.Transform → ⊥) → (type_at scene node ≡ Some type.Switch → ⊥) →
    IsSameBut node before after → AreAlike scene before after
unfolding kind_of
alike_but scene node before after h k same n = elim (cases_Bool (n == node)) [
  | inl is ↦ let e : n ≡ node = eqb-true n node is in rw e (unmoved_alike scene node (type_at scene node) (slice_get before node) (slice_get after node) h k)
  | inr other ↦ equal_alike (kind_of scene n) (slice_get before n) (slice_get after n) (same n (eqb-false n node other))
]
