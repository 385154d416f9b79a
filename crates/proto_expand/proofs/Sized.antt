-- Where no prototype is in sight before a text, those that its statements are instances of are
-- sized.
use Rattle.std.proofs.Common.{◌≡◌, ℕ, List, [], ◌∷◌, Bor, Option, Some, None, Ok, Err, refl, ap, sym, ◌∙◌, subst}
use Rattle.std.specs.Prelude.{IfSome, option_map, slice_get}
use Rattle.classic_tree.specs.declared.tree.NodeText.{NodeText}
use Rattle.classic_tree.specs.declared.tree.ProtoText.{ProtoText}
use Rattle.classic_tree.specs.declared.tree.Statement.{Statement}
use Rattle.classic_tree.specs.declared.tree.Statement.TheVariants as text_statement
use Rattle.proto_meaning.specs.Flat as flat
use Rattle.proto_meaning.specs.Flat.{Stated}
use Rattle.proto_meaning.specs.Sight.{OfProto, Prototype, Sight, no_names}
use Rattle.proto_meaning.proofs.Trees.{statement-node, statement-proto}
use Rattle.proto_meaning.specs.Sizes.{AreSized, IsSized}
use Rattle.proto_meaning.proofs.SizeWalks.{none_sized}
use Rattle.proto_meaning.proofs.SizeNodes.{OwnerSized, meant_sized}
use Rattle.proto_meaning.proofs.SizeWhole.{prototypes_are_sized}
use Rattle.proto_meaning.specs.trees.Meaning.{owner}
use Rattle.proto_meaning.specs.trees.Resolved as rule
use Rattle.proto_meaning.specs.trees.Resolved.{AreStatements, IsNode, Seen}
use Rattle.proto_meaning.proofs.Whole.{node_means}
use Rattle.proto_meaning.specs.declared.tree.BodyTree.{BodyTree}
use Rattle.proto_meaning.specs.declared.tree.BodyTree.TheVariants as body
use Rattle.proto_meaning.specs.declared.tree.ItemTree.{ItemTree}
use Rattle.proto_meaning.specs.declared.tree.ItemTree.TheOpen.{NodeTree-F}
use Rattle.proto_meaning.specs.declared.tree.NodeTree.{NodeTree, out-roll-NodeTree}
use Rattle.proto_meaning.specs.declared.tree.NodeTree.TheVariants as tree_node
use Rattle.proto_meaning.specs.declared.tree.Word.{Word}
use Rattle.proto_meaning.specs.declared.tree.Word.TheVariants as word
use Rattle.proto_expand.specs.Rows.{RootSized, RootsSized, bare_in, number_between}

-- ---- one statement

abbrev NumberSized : List Prototype → Option ℕ → Type 0
NumberSized ps o = IfSome o (λ number. IfSome (slice_get ps number) IsSized)

sized_of : (o : Option Prototype) → OwnerSized (option_map OfProto o) → IfSome o IsSized
sized_of None h = tt
sized_of (Some p) h = h

word_sized : (ps : List Prototype) (line : ℕ) (name : Bor (Option (List ℕ))) (w : Word) (items : List ItemTree) → OwnerSized (owner ps w) → NumberSized ps (number_between (NodeTree-F.Full line name w items))
word_sized ps line name (word.Instance number) [] h = sized_of (slice_get ps number) h
word_sized ps line name (word.Node t) [] h = tt
word_sized ps line name word.Unknown [] h = tt
word_sized ps line name w (i ∷ items) h = tt

root_sized : (ps : List Prototype) (n : NodeText) (t : NodeTree) (s : Sight) (r : Seen) → AreSized s → IsNode ps n t s r → RootSized ps (body.Node t)
root_sized ps n t s r h (rule.used line name _) =
    subst (NumberSized ps) (sym (ap bare_in (sym (tree_node.rolls-Use line name)) ∙ ap number_between (out-roll-NodeTree (NodeTree-F.Use line name)))) tt
root_sized ps n t s r h (rule.full line name word w is ts _ _ means k) =
    subst (NumberSized ps) (sym (ap bare_in (sym (tree_node.rolls-Full line name w ts)) ∙ ap number_between (out-roll-NodeTree (NodeTree-F.Full line name w ts))))
    (word_sized ps line name w ts (subst OwnerSized means (meant_sized word s h)))

-- ---- what is in sight behind it

node_sees : (ps : List Prototype) (n : NodeText) (t : NodeTree) (s u : Sight) → IsNode ps n t s (Ok u) → (flat.statement (text_statement.Node n)).1.sees s ≡ Ok u
unfolding flat.statement_step
node_sees ps n t s u h = ap (λ (x : Stated). x.1.sees s) (statement-node n {p = flat.node n} refl) ∙ (node_means ps n t s (Ok u) h).sees

proto_sees : (p : ProtoText) (s u : Sight) → (flat.proto p).sees s ≡ Ok u → (flat.statement (text_statement.Proto p)).1.sees s ≡ Ok u
unfolding flat.statement_step
proto_sees p s u h = ap (λ (x : Stated). x.1.sees s) (statement-proto p {q = flat.proto p} refl) ∙ h

-- ---- all statements

roots_sized : (ps : List Prototype) (text : List Statement) (trees : List BodyTree) (s : Sight) (r : Seen) → AreSized s → AreStatements ps text trees s r → RootsSized ps trees
roots_sized ps text trees s r h (rule.none _) = tt
roots_sized ps text trees s r h (rule.node n t more ts _ u _ k rest) =
    (root_sized ps n t s (Ok u) h k, roots_sized ps more ts u r (prototypes_are_sized (text_statement.Node n) s u h (node_sees ps n t s u k)) rest)
roots_sized ps text trees s r h (rule.last n t more _ e k) = (root_sized ps n t s (Err e) h k, tt)
roots_sized ps text trees s r h (rule.route_statement route more ts _ _ rest) = (tt, roots_sized ps more ts s r h rest)
roots_sized ps text trees s r h (rule.declared p more _ _ u _ k rest) =
    roots_sized ps more trees u r (prototypes_are_sized (text_statement.Proto p) s u h (proto_sees p s u k)) rest
roots_sized ps text trees s r h (rule.wrong_statement p more _ e k) = (tt, tt)

pub text_sized : (ps : List Prototype) (text : List Statement) (trees : List BodyTree) (r : Seen) → AreStatements ps text trees (record { here = []; outside = []; taken = no_names }) r → RootsSized ps trees
text_sized ps text trees r k =
    roots_sized ps text trees (record { here = []; outside = []; taken = no_names }) r (record { here = none_sized; outside = none_sized }) k
