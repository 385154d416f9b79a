-- What is kept of the nodes where viewers point, node by node.
use Rattle.std.proofs.Common.{◌≡◌, ◌∙◌, ap, sym, refl, arith, map, take, ℕ, zero, suc, ◌+◌, List, [], ◌∷◌, ◌++◌, Some}
use Rattle.std.specs.Prelude.{slice_get}
use Rattle.std.proofs.lemmas.List.{map-append}
use Rattle.x3d_values.specs.declared.node_type.NodeType.{NodeType}
use Rattle.sensor_plane.specs.declared.pointing.PointingState.{PointingState}
use Rattle.sensor_plane.specs.Pointing.{start_of}

take-next : (kinds : List NodeType) (n : ℕ) (kind : NodeType) → slice_get kinds n ≡ Some kind → take (suc n) kinds ≡ take n kinds ++ kind ∷ []
take-next [] n kind h = cc
take-next (k ∷ ks) zero kind h = let same : k ≡ kind = cc in rw same refl
take-next (k ∷ ks) (suc n) kind h = ap (λ (l : List NodeType). k ∷ l) (take-next ks n kind h)

-- one node more
pub begun-next : (kinds : List NodeType) (n : ℕ) (kind : NodeType) (states new : List PointingState) → slice_get kinds n ≡ Some kind → states ≡ map start_of (take n kinds) →
    new ≡ states ++ start_of kind ∷ [] → new ≡ map start_of (take (n + 1) kinds)
begun-next kinds n kind states new here so_far is =
    let next : suc n ≡ n + 1 = omega arith in
    is ∙ ap (λ (l : List PointingState). l ++ start_of kind ∷ []) so_far
    ∙ sym (map-append start_of (take n kinds) (kind ∷ []))
    ∙ ap (map start_of) (sym (take-next kinds n kind here))
    ∙ ap (λ (k : ℕ). map start_of (take k kinds)) next
