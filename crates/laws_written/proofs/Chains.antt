-- In a scene without too long chains every node is shallow.
use Rattle.std.proofs.Common.{◌≡◌, ℕ, zero, suc, ◌<◌, Bool, true, false, ◌||◌, List, [], ◌∷◌, length, Option, Some, slice_get, refl, sym, ap, subst, ◌∙◌, true≢false}
use Rattle.std.specs.Prelude.{slice_index_or}
use Rattle.std.specs.List.{AllByRecursion, list_any}
use Rattle.std.specs.Option.{option_and_then}
use Rattle.std.proofs.lemmas.List.{get_or-map}
use Rattle.std.proofs.lemmas.Option.{get_or_from_slice_get, slice_get_within}
use Rattle.x3d_values.specs.declared.value.Value.{Value}
use Rattle.x3d_values.specs.Ranges.{max_depth}
use Rattle.scene_core.specs.declared.scene.SceneNode.{SceneNode}
use Rattle.scene_core.specs.Deep.{linked, leads_to, deeper_than, too_deep}
use Rattle.scene_core.specs.Scene.{SceneView, value_at}
use Rattle.laws_written.specs.Writable.{IsShallow}
use Rattle.laws_written.proofs.Lists.{all_at, found}

-- the nodes in its fields are nodes of the scene
abbrev pub IsClosedNode : ℕ → SceneNode → Type 0
IsClosedNode count n = AllByRecursion (λ (o : Option Value). AllByRecursion (λ (m : ℕ). m < count) (linked o)) n.values

neither : (a b : Bool) → (a || b) ≡ false → (a ≡ false) × (b ≡ false)
neither false b h = (refl, h)
neither true b h = absurd cc

none_passes : {A : Type 0} (p : A → Bool) (xs : List A) (n : ℕ) (x : A) → list_any p xs ≡ false → slice_get xs n ≡ Some x → p x ≡ false
none_passes p [] n x h e = absurd cc
none_passes p (y ∷ ys) zero x h e = let same : y ≡ x = cc in subst (λ k. p k ≡ false) same (neither (p y) (list_any p ys) h).0
none_passes p (y ∷ ys) (suc n) x h e = none_passes p ys n x (neither (p y) (list_any p ys) h).1 e

none_in : (these : List Bool) (ns : List ℕ) → list_any (λ n. slice_index_or these n false) ns ≡ false
    → AllByRecursion (λ n. slice_index_or these n false ≡ false) ns
none_in these [] h = tt
none_in these (n ∷ ns) h =
    let b = neither (slice_index_or these n false) (list_any (λ n. slice_index_or these n false) ns) h in (b.0, none_in these ns b.1)

both_all : {A : Type 0} (P Q R : A → Type 0) → ((x : A) → P x → Q x → R x) → (xs : List A) → AllByRecursion P xs → AllByRecursion Q xs → AllByRecursion R xs
both_all P Q R k [] h g = tt
both_all P Q R k (x ∷ xs) h g = (k x h.0 g.0, both_all P Q R k xs h.1 g.1)

-- what is linked from a field of a node
field_links : (P : ℕ → Type 0) (values : List (Option Value)) (number : ℕ) → ((o : Option Value) → slice_get values number ≡ Some o → AllByRecursion P (linked o))
    → AllByRecursion P (linked (option_and_then (λ o. o) (slice_get values number)))
field_links P [] number k = tt
field_links P (o ∷ os) zero k = k o refl
field_links P (o ∷ os) (suc number) k = field_links P os number k

module _ (s : SceneView) (closed : AllByRecursion (IsClosedNode (length s.nodes)) s.nodes) where
  value_is : (n number : ℕ) (node : SceneNode) → slice_get s.nodes n ≡ Some node
      → value_at s n number ≡ option_and_then (λ o. o) (slice_get node.values number)
  value_is n number node is =
      ap (λ (o : Option SceneNode). option_and_then (λ (m : SceneNode). option_and_then (λ v. v) (slice_get m.values number)) o) is

  all_deep : (n : ℕ) (node : SceneNode) → slice_get s.nodes n ≡ Some node → slice_index_or (deeper_than s.nodes 0) n false ≡ true
  unfolding deeper_than
  all_deep n node is = get_or-map (λ (m : SceneNode). true) s.nodes n node false (slice_get_within s.nodes n node is)

  leads_none : (depth n : ℕ) (node : SceneNode) → slice_get s.nodes n ≡ Some node → slice_index_or (deeper_than s.nodes (suc depth)) n false ≡ false
      → leads_to (deeper_than s.nodes depth) node ≡ false
  unfolding deeper_than
  leads_none depth n node is h =
      ap (λ (m : SceneNode). leads_to (deeper_than s.nodes depth) m) (sym (get_or_from_slice_get s.nodes n node node is))
      ∙ (sym (get_or-map (leads_to (deeper_than s.nodes depth)) s.nodes n node false (slice_get_within s.nodes n node is)) ∙ h)

  pub shallow : (depth n : ℕ) → n < length s.nodes → slice_index_or (deeper_than s.nodes depth) n false ≡ false → IsShallow s depth n
  unfolding IsShallow
  shallow zero n l h = let f = found s.nodes n l in absurd (true≢false (sym (all_deep n f.0 f.1) ∙ h))
  shallow (suc depth) n l h =
      let f = found s.nodes n l in
      let these : List Bool = deeper_than s.nodes depth in
      let none : leads_to these f.0 ≡ false = leads_none depth n f.0 f.1 h in
      let own : IsClosedNode (length s.nodes) f.0 = all_at (IsClosedNode (length s.nodes)) s.nodes n f.0 closed f.1 in (
        l,
        λ number. subst (λ (o : Option Value). AllByRecursion (IsShallow s depth) (linked o)) (sym (value_is n number f.0 f.1))
            (field_links (IsShallow s depth) f.0.values number (λ o at.
            both_all (λ (m : ℕ). m < length s.nodes) (λ (m : ℕ). slice_index_or these m false ≡ false) (IsShallow s depth)
            (λ m a b. shallow depth m a b) (linked o)
            (all_at (λ (o : Option Value). AllByRecursion (λ (m : ℕ). m < length s.nodes) (linked o)) f.0.values number o own at)
            (none_in these (linked o) (none_passes (λ (o : Option Value). list_any (λ m. slice_index_or these m false) (linked o)) f.0.values number o none at)))),
      )

  none_deep : (bs : List Bool) (n : ℕ) → list_any (λ b. b) bs ≡ false → slice_index_or bs n false ≡ false
  none_deep [] n h = refl
  none_deep (b ∷ bs) zero h = (neither b (list_any (λ b. b) bs) h).0
  none_deep (b ∷ bs) (suc n) h = none_deep bs n (neither b (list_any (λ b. b) bs) h).1

  pub all_shallow : too_deep s.nodes ≡ false → (n : ℕ) → n < length s.nodes → IsShallow s max_depth n
  all_shallow h n l = shallow max_depth n l (none_deep (deeper_than s.nodes max_depth) n h)
