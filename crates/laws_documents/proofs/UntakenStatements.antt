-- Statements come to the same with other values where no IS takes them.
use Rattle.std.proofs.Common.{◌≡◌, [], ◌∷◌, refl, ap, sym, ◌∙◌, subst}
use Rattle.classic_tree.specs.declared.tree.BodyItem.TheOpen.{Statement-F}
use Rattle.classic_tree.specs.declared.tree.NodeText.{NodeText}
use Rattle.classic_tree.specs.declared.tree.ProtoText.{ProtoText}
use Rattle.classic_tree.specs.declared.tree.RouteText.{RouteText}
use Rattle.classic_tree.specs.declared.tree.Statement.TheVariants as statement_text
use Rattle.proto_meaning.specs.Sight.{Sight}
use Rattle.proto_meaning.specs.Flat.{pure, Node, Stated, Proto, statement_step}
use Rattle.proto_meaning.specs.Flat.{node as node_part, proto as proto_part, statement as stated}
use Rattle.proto_meaning.proofs.Trees.{statement-node, statement-route, statement-proto}
use Rattle.proto_meaning.proofs.SightLaw.{GoodStated}
use Rattle.proto_meaning.proofs.SightNodes.{node_stated, route_stated, proto_stated}
use Rattle.laws_documents.specs.Untaken.{Change, KeepsDeclarations, node_at, prototype_at}
use Rattle.laws_documents.proofs.Same.{same_then}
use Rattle.laws_documents.proofs.UntakenTexts.{at-node, at-route, at-proto}
use Rattle.laws_documents.proofs.UntakenValues.{SameNode, SameProto, OfNode}
use Rattle.laws_documents.proofs.UntakenBodies.{SameStatement}
use Rattle.laws_documents.proofs.UntakenProtos.{OfStatement, OfProto}

module _ (change : Change) (keeps : KeepsDeclarations change) where
  statement_by : (s : Sight) (l m n o : Stated) → l ≡ m → o ≡ n → SameStatement s m n → SameStatement s l o
  statement_by s l m n o e f h = subst (λ x. SameStatement s x o) (sym e) (subst (λ x. SameStatement s m x) (sym f) h)

  node_statement : (s : Sight) (m n : Node) → SameNode s m n → SameStatement s (statement_step (Statement-F.Node m)) (statement_step (Statement-F.Node n))
  unfolding statement_step
  node_statement s m n h = record { kind = refl; finds = h.finds; seen = h.seen; done = λ w e. same_then m.does n.does (λ k. pure (k ∷ [])) w (h.done w e) }

  proto_statement : (s : Sight) (m n : Proto) → SameProto s m n → SameStatement s (statement_step (Statement-F.Statement::Proto m)) (statement_step (Statement-F.Statement::Proto n))
  unfolding statement_step
  proto_statement s m n h = record { kind = refl; finds = h.finds; seen = h.seen; done = λ w e. same_then m.does n.does (λ _. pure []) w (h.done w e) }

  pub node_layer : (n : NodeText) → OfNode change keeps n → OfStatement change keeps (statement_text.Node n)
  node_layer n h = (
    subst GoodStated (sym (statement-node n {p = node_part n} refl)) (node_stated (node_part n) h.0),
    λ s. statement_by s _ (statement_step (Statement-F.Node (node_part n))) (statement_step (Statement-F.Node (node_part (node_at change n s)))) _
        (statement-node n refl) (ap stated (at-node change n s) ∙ statement-node (node_at change n s) refl) (node_statement s (node_part n) (node_part (node_at change n s)) (h.1 s)),
  )

  pub route_layer : (r : RouteText) → OfStatement change keeps (statement_text.Route r)
  route_layer r = (
    subst GoodStated (sym (statement-route r)) (route_stated r),
    λ s. statement_by s _ (stated (statement_text.Route r)) (stated (statement_text.Route r)) _ refl (ap stated (at-route change r s))
        (record { kind = refl; finds = λ own free hidden. refl; seen = λ t e. refl; done = λ w e. refl }),
  )

  pub proto_layer : (p : ProtoText) → OfProto change keeps p → OfStatement change keeps (statement_text.Proto p)
  proto_layer p h = (
    subst GoodStated (sym (statement-proto p {q = proto_part p} refl)) (proto_stated (proto_part p) h.0),
    λ s. statement_by s _ (statement_step (Statement-F.Statement::Proto (proto_part p))) (statement_step (Statement-F.Statement::Proto (proto_part (prototype_at change p s)))) _
        (statement-proto p refl) (ap stated (at-proto change p s) ∙ statement-proto (prototype_at change p s) refl) (proto_statement s (proto_part p) (proto_part (prototype_at change p s)) (h.1 s)),
  )
