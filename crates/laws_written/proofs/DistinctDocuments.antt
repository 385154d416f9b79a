-- What each node of the flat form of a document declares has distinct names.
use Rattle.std.proofs.Common.{Option, Some, None, slice_get, refl, subst}
use Rattle.classic_tree.specs.declared.tree.Document.{Document}
use Rattle.proto_flat.specs.declared.flat.FlatNode.{FlatNode}
use Rattle.proto_meaning.specs.Flat.{fields_of}
use Rattle.scene_core.specs.Shape.{declaration_entry}
use Rattle.laws_documents.proofs.Lists.{IfSome, at_all}
use Rattle.laws_documents.specs.PlainLaws.{HasNamesApart}
use Rattle.laws_documents.specs.Written.{IsWritten, written}
use Rattle.laws_documents.proofs.Apart.{apart_distinct, apart_none_own}
use Rattle.laws_documents.proofs.WrittenWhole.{flats_are_written, names_are_apart}
use Rattle.laws_written.specs.Interfaces.{InterfacesAreDistinct, IsDistinctInterface}

abbrev IsGoodFlat : FlatNode → Type 0
IsGoodFlat node = IsDistinctInterface node.node_type node.interface

good : (d : Document) (node : FlatNode) → IsWritten (written d) node → HasNamesApart node → IsGoodFlat node
good d node w h =
    record {
      scripted = w.scripted;
      apart = apart_distinct declaration_entry (λ x. refl) (fields_of node.node_type) node.interface h;
      none_own = apart_none_own node.node_type node.interface h;
    }

both_good : (d : Document) (node : Option FlatNode) → IfSome (IsWritten (written d)) node → IfSome HasNamesApart node → IfSome IsGoodFlat node
both_good d None w h = tt
both_good d (Some node) w h = good d node w h

pub all_distinct : InterfacesAreDistinct
all_distinct d f n node e is =
    subst (λ (o : Option FlatNode). IfSome IsGoodFlat o) is
    (both_good d (slice_get f.nodes n)
    (at_all (IsWritten (written d)) f.nodes n (flats_are_written d f e))
    (at_all HasNamesApart f.nodes n (names_are_apart d f e)))
