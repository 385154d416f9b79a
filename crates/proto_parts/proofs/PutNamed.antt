-- A node that takes another name.
use Rattle.std.proofs.Common.{◌≡◌, ◌∙◌, ℕ, false, true≢false, List, Option, Some, None, slice_get, slice_set, ap, sym}
use Rattle.std.specs.Prelude.{is_none, option_map}
use Rattle.std.specs.Borrow.{Bor}
use Rattle.std.specs.Option.{option_map_or}
use Rattle.std.proofs.lemmas.List.{map-set}
use Rattle.std.proofs.lemmas.Option.{slice_get-map}
use Rattle.proto_flat.specs.declared.flat.FlatNode.{FlatNode}
use Rattle.proto_meaning.specs.Flat.{renamed}
use Rattle.proto_parts.specs.declared.put.PlacedNode.{PlacedNode}
use Rattle.proto_parts.specs.Put.{flat_of, nodes_of}

with-name : (label : Option (List ℕ)) (nodes : List FlatNode) (n : ℕ) (p : FlatNode) → is_none label ≡ false → slice_get nodes n ≡ Some p →
    slice_set nodes n (record p { name = label }) ≡ renamed label n nodes
with-name None nodes n p named found = absurd (true≢false named)
with-name (Some name) nodes n p named found = sym (ap (λ o. option_map_or (λ node. slice_set nodes n (record node { name = Some name })) o nodes) found)

-- the node that was read has another name
pub renames : (nodes : List PlacedNode) (n : ℕ) (label : Bor (Option (List ℕ))) (p : PlacedNode) → is_none label.now ≡ false → slice_get nodes n ≡ Some p →
    nodes_of (slice_set nodes n (record p { name = label })) ≡ renamed label.now n (nodes_of nodes)
renames nodes n label p named found =
    map-set flat_of nodes n (record p { name = label })
    ∙ with-name label.now (nodes_of nodes) n (flat_of p) named (slice_get-map flat_of nodes n ∙ ap (option_map flat_of) found)
