-- Steps that may fail, and don't.
use Rattle.std.proofs.Common.{◌≡◌, ℕ, suc, ◌+◌, List, [], ◌∷◌, ◌++◌, length, Option, Some, None, Result, Ok, Err, slice_get, map, Bool, refl, subst, arith}
use Rattle.x3d_values.specs.declared.value.Value.{Value}
use Rattle.x3d_values.specs.Tables.{FieldRowView}
use Rattle.classic_tree.specs.declared.tree.Declaration.{Declaration}
use Rattle.proto_flat.specs.declared.flat.FlatField.{FlatField}
use Rattle.proto_flat.specs.declared.flat.FlatNode.{FlatNode}
use Rattle.scene_core.specs.declared.fault.SceneFault.{SceneFault}
use Rattle.scene_core.specs.declared.scene.SceneNode.{SceneNode}
use Rattle.scene_core.specs.Building.{node_of, with_node}
use Rattle.scene_core.specs.Faults.{through, ◌>>=◌}
use Rattle.scene_core.specs.Labels.{is_label, label_by}
use Rattle.scene_core.specs.Parts.{given}
use Rattle.scene_core.specs.Shape.{declared_by}
use Rattle.scene_core.specs.Typed.{declared_from, declared_value, field_value, values_from, values_of}

abbrev pub IsOkay : {A : Type 0} → Result A SceneFault → Type 0
IsOkay (Ok a) = Unit {0}
IsOkay (Err e) = ⊥

pub okay_by : {A : Type 0} (r : Result A SceneFault) (a : A) → r ≡ Ok a → IsOkay r
okay_by (Ok b) a h = tt
okay_by (Err e) a h = absurd cc

pub okay_then : {A B : Type 0} (r : Result A SceneFault) (k : A → Result B SceneFault) → IsOkay r → ((a : A) → IsOkay (k a)) → IsOkay (r >>= k)
okay_then (Ok a) k h g = g a
okay_then (Err e) k h g = absurd h

module _ (all : List FlatNode) (numbers : List ℕ) where
  pub rows_okay : (fields : List FlatField) (number : ℕ) (es : List FieldRowView) (made : List (Option Value))
      → ((i : ℕ) (e : FieldRowView) → slice_get es i ≡ Some e → IsOkay (field_value all numbers e (given fields (number + i))))
      → IsOkay (values_from all numbers fields number es made)
  rows_okay fields number [] made k = tt
  rows_okay fields number (e ∷ es) made k =
      let here : number + 0 ≡ number = omega arith in
      okay_then (field_value all numbers e (given fields number)) (λ v. values_from all numbers fields (number + 1) es (made ++ v ∷ []))
      (subst (λ (j : ℕ). IsOkay (field_value all numbers e (given fields j))) here (k 0 e refl))
      (λ v. rows_okay fields (number + 1) es (made ++ v ∷ []) (λ i x at.
      (let there : number + suc i ≡ number + 1 + i = omega arith in
      subst (λ (j : ℕ). IsOkay (field_value all numbers x (given fields j))) there (k (suc i) x at))))

  pub declared_okay : (fields : List FlatField) (number : ℕ) (ds : List (Declaration ℕ)) (made : List (Option Value))
      → ((i : ℕ) (d : Declaration ℕ) → slice_get ds i ≡ Some d → IsOkay (declared_value all numbers d (given fields (number + i))))
      → IsOkay (declared_from all numbers fields number ds made)
  declared_okay fields number [] made k = tt
  declared_okay fields number (d ∷ ds) made k =
      let here : number + 0 ≡ number = omega arith in
      okay_then (declared_value all numbers d (given fields number)) (λ v. declared_from all numbers fields (number + 1) ds (made ++ v ∷ []))
      (subst (λ (j : ℕ). IsOkay (declared_value all numbers d (given fields j))) here (k 0 d refl))
      (λ v. declared_okay fields (number + 1) ds (made ++ v ∷ []) (λ i x at.
      (let there : number + suc i ≡ number + 1 + i = omega arith in
      subst (λ (j : ℕ). IsOkay (declared_value all numbers x (given fields j))) there (k (suc i) x at))))

  node_okay : (keeps : List ℕ → Bool) (g : FlatNode) → IsOkay (values_of all numbers g) → IsOkay (node_of all numbers keeps g)
  node_okay keeps g h =
      okay_then (values_of all numbers g)
      (λ values. Ok (record { node_type = g.node_type; label = label_by keeps g.name; declared = map declared_by g.interface; values = values })) h (λ v. tt)

  module _ (alone : List ℕ → Bool) where
    one_okay : ((x : ℕ) (g : FlatNode) → slice_get all x ≡ Some g → IsOkay (values_of all numbers g)) → (x : ℕ) (made : List SceneNode) (o : Option FlatNode)
        → slice_get all x ≡ o → IsOkay (with_node all numbers alone o made)
    one_okay k x made None at = tt
    one_okay k x made (Some g) at =
        okay_then (node_of all numbers (is_label alone (length made)) g) (λ n. Ok (made ++ n ∷ [])) (node_okay (is_label alone (length made)) g (k x g at)) (λ n. tt)

    pub nodes_okay : ((x : ℕ) (g : FlatNode) → slice_get all x ≡ Some g → IsOkay (values_of all numbers g)) → (order : List ℕ) (made : List SceneNode)
        → IsOkay (through (λ n made. with_node all numbers alone (slice_get all n) made) order made)
    nodes_okay k [] made = tt
    nodes_okay k (x ∷ order) made =
        okay_then (with_node all numbers alone (slice_get all x) made) (λ more. through (λ n made. with_node all numbers alone (slice_get all n) made) order more)
        (one_okay k x made (slice_get all x) refl) (λ more. nodes_okay k order more)
