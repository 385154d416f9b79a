-- A document, by its resolved text.
use Rattle.std.proofs.Common.{◌≡◌, List, Option, None, Some, ap, subst, sym}
use Rattle.std.specs.Prelude.{slice_get, Result}
use Rattle.classic_tree.specs.declared.tree.Document.{Document}
use Rattle.classic_tree.specs.declared.tree.Statement.{Statement}
use Rattle.x3d_lists.specs.Answers.{Gives}
use Rattle.proto_flat.specs.Fault.{memory}
use Rattle.proto_flat.specs.declared.fault.ExpandFault.{ExpandFault}
use Rattle.proto_meaning.specs.Flat.{flat, header_of}
use Rattle.proto_meaning.specs.Limits.{limited}
use Rattle.proto_meaning.specs.Sight.{Prototype}
use Rattle.proto_meaning.specs.trees.Meaning.{stand_together}
use Rattle.proto_meaning.specs.declared.tree.BodyTree.{BodyTree}
use Rattle.proto_meaning.specs.declared.tree.ProtoTree.{ProtoTree}
use Rattle.proto_resolver.specs.Laws.{IsTreeOf}
use Rattle.proto_resolver.specs.Parts.{IsResolved}
use Rattle.proto_resolver.proofs.Numbers.{numbers_mean_their_trees, resolved_texts_stand_for_the_same}
use Rattle.proto_expand.specs.Tied.{AreTied, Tied}
use Rattle.proto_expand.specs.Whole.{with_content}
use Rattle.proto_expand.specs.declared.whole.Content.{Content}

tied-one : (ps : List Prototype) (t : Option ProtoTree) (p : Option Prototype) → IsTreeOf ps t p → AreTied ps p t
tied-one ps None None k = tt
tied-one ps None (Some p) k = absurd k
tied-one ps (Some t) None k = absurd k
tied-one ps (Some t) (Some p) k = record { interface = k.1; instance = k.2 }

pub in-slices : (text : List Statement) (ps qs : List ProtoTree) (ts us : List BodyTree) → IsResolved text ps ts → qs ≡ ps → us ≡ ts → IsResolved text qs us
in-slices text ps qs ts us r same all = subst (λ x. IsResolved text x us) (sym same) (subst (λ x. IsResolved text ps x) (sym all) r)

pub resolved-tied : (text : List Statement) (protos : List ProtoTree) (trees : List BodyTree) (r : IsResolved text protos trees) → Tied r.prototypes protos
resolved-tied text protos trees r number =
    tied-one r.prototypes (slice_get protos number) (slice_get r.prototypes number) (numbers_mean_their_trees text protos trees r number)

resolved-flat : (d : Document) (protos : List ProtoTree) (trees : List BodyTree) (r : IsResolved d.statements protos trees) → limited (stand_together r.prototypes (header_of d) trees) ≡ flat d
unfolding flat
resolved-flat d protos trees r = ap limited (resolved_texts_stand_for_the_same d.statements protos trees r (header_of d))

pub as-document : (d : Document) (protos : List ProtoTree) (trees : List BodyTree) (r : IsResolved d.statements protos trees) (c : Result Content ExpandFault) → Gives memory (with_content (header_of d)) c (limited (stand_together r.prototypes (header_of d) trees)) → Gives memory (with_content (header_of d)) c (flat d)
as-document d protos trees r c k = subst (λ x. Gives memory (with_content (header_of d)) c x) (resolved-flat d protos trees r) k
