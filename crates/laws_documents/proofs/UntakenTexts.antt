-- The parts of a text with other values where no IS takes them.
use Rattle.std.proofs.Common.{◌≡◌, ℕ, List, map, Option, ap, sym, ◌∙◌}
use Rattle.classic_tree.specs.declared.tree.BodyItem.{BodyItem, fold-roll-BodyItem}
use Rattle.classic_tree.specs.declared.tree.BodyItem.TheOpen.{BodyItem-F, NodeText-F, Statement-F, ProtoText-F}
use Rattle.classic_tree.specs.declared.tree.BodyItem.TheVariants as item
use Rattle.classic_tree.specs.declared.tree.Declaration.{Declaration}
use Rattle.classic_tree.specs.declared.tree.Given.{Given}
use Rattle.classic_tree.specs.declared.tree.NodeText.{NodeText, fold-roll-NodeText}
use Rattle.classic_tree.specs.declared.tree.NodeText.TheVariants as node
use Rattle.classic_tree.specs.declared.tree.ProtoText.{ProtoText, out-ProtoText, fold_out-ProtoText}
use Rattle.classic_tree.specs.declared.tree.RouteText.{RouteText}
use Rattle.classic_tree.specs.declared.tree.Statement.{Statement, fold-roll-Statement}
use Rattle.classic_tree.specs.declared.tree.Statement.TheVariants as statement
use Rattle.classic_tree.proofs.Mapped.{declaration_mapped, given_mapped, interface_mapped}
use Rattle.proto_meaning.specs.Names.{Name}
use Rattle.proto_meaning.specs.Sight.{Sight, Names, taken_by, is_kept, meant, opened}
use Rattle.proto_meaning.specs.Flat.{item as item_part}
use Rattle.laws_documents.specs.Untaken.{Change, NodeAt, ItemAt, StatementAt, ProtoAt, given_at, declaration_at, unless_kept, in_turn, interface_at, with_parts, item_step, node_step, statement_step, proto_step, item_at, node_at, statement_at, prototype_at}

module _ (change : Change) where
  pub at-field : (line : ℕ) (name : Name) (g : Given NodeText) (taken : Option Names) (s : Sight)
      → item_at change (item.Field line name g) taken s ≡ item.Field line name (unless_kept change (is_kept taken name) line name (given_at (given_mapped (node_at change) g) s))
  unfolding item_step
  at-field line name g taken s =
      ap (λ i. item_at change i taken s) (sym (item.rolls-Field line name g))
      ∙ ap (λ (f : ItemAt). f taken s) (fold-roll-BodyItem ItemAt NodeAt StatementAt ProtoAt (item_step change) (node_step change) (statement_step change) (proto_step change) (BodyItem-F.Field line name g))

  pub at-declaration : (d : Declaration NodeText) (taken : Option Names) (s : Sight) → item_at change (item.Declaration d) taken s ≡ item.Declaration (declaration_at (declaration_mapped (node_at change) d) s)
  unfolding item_step
  at-declaration d taken s =
      ap (λ i. item_at change i taken s) (sym (item.rolls-Declaration d))
      ∙ ap (λ (f : ItemAt). f taken s) (fold-roll-BodyItem ItemAt NodeAt StatementAt ProtoAt (item_step change) (node_step change) (statement_step change) (proto_step change) (BodyItem-F.Declaration d))

  pub at-item-route : (r : RouteText) (taken : Option Names) (s : Sight) → item_at change (item.Route r) taken s ≡ item.Route r
  unfolding item_step
  at-item-route r taken s =
      ap (λ i. item_at change i taken s) (sym (item.rolls-Route r))
      ∙ ap (λ (f : ItemAt). f taken s) (fold-roll-BodyItem ItemAt NodeAt StatementAt ProtoAt (item_step change) (node_step change) (statement_step change) (proto_step change) (BodyItem-F.BodyItem::Route r))

  pub at-item-proto : (p : ProtoText) (taken : Option Names) (s : Sight) → item_at change (item.Proto p) taken s ≡ item.Proto (prototype_at change p s)
  unfolding item_step
  at-item-proto p taken s =
      ap (λ i. item_at change i taken s) (sym (item.rolls-Proto p))
      ∙ ap (λ (f : ItemAt). f taken s) (fold-roll-BodyItem ItemAt NodeAt StatementAt ProtoAt (item_step change) (node_step change) (statement_step change) (proto_step change) (BodyItem-F.BodyItem::Proto p))

  pub at-use : (line : ℕ) (name : Name) (s : Sight) → node_at change (node.Use line name) s ≡ node.Use line name
  unfolding node_step
  at-use line name s =
      ap (λ n. node_at change n s) (sym (node.rolls-Use line name))
      ∙ ap (λ (f : NodeAt). f s) (fold-roll-NodeText ItemAt NodeAt StatementAt ProtoAt (item_step change) (node_step change) (statement_step change) (proto_step change) (NodeText-F.Use line name))

  pub at-full : (line : ℕ) (name : Option Name) (word : Name) (is : List BodyItem) (s : Sight)
      → node_at change (node.Full line name word is) s
      ≡ node.Full line name word (in_turn (λ (i : ItemAt). i (taken_by (meant word s))) (λ i. (item_part i).sees (taken_by (meant word s))) (map (item_at change) is) s)
  unfolding node_step
  at-full line name word is s =
      ap (λ n. node_at change n s) (sym (node.rolls-Full line name word is))
      ∙ ap (λ (f : NodeAt). f s) (fold-roll-NodeText ItemAt NodeAt StatementAt ProtoAt (item_step change) (node_step change) (statement_step change) (proto_step change) (NodeText-F.Full line name word is))

  pub at-node : (n : NodeText) (s : Sight) → statement_at change (statement.Node n) s ≡ statement.Node (node_at change n s)
  unfolding statement_step
  at-node n s =
      ap (λ x. statement_at change x s) (sym (statement.rolls-Node n))
      ∙ ap (λ (f : StatementAt). f s) (fold-roll-Statement ItemAt NodeAt StatementAt ProtoAt (item_step change) (node_step change) (statement_step change) (proto_step change) (Statement-F.Node n))

  pub at-route : (r : RouteText) (s : Sight) → statement_at change (statement.Route r) s ≡ statement.Route r
  unfolding statement_step
  at-route r s =
      ap (λ x. statement_at change x s) (sym (statement.rolls-Route r))
      ∙ ap (λ (f : StatementAt). f s) (fold-roll-Statement ItemAt NodeAt StatementAt ProtoAt (item_step change) (node_step change) (statement_step change) (proto_step change) (Statement-F.Statement::Route r))

  pub at-proto : (p : ProtoText) (s : Sight) → statement_at change (statement.Proto p) s ≡ statement.Proto (prototype_at change p s)
  unfolding statement_step
  at-proto p s =
      ap (λ x. statement_at change x s) (sym (statement.rolls-Proto p))
      ∙ ap (λ (f : StatementAt). f s) (fold-roll-Statement ItemAt NodeAt StatementAt ProtoAt (item_step change) (node_step change) (statement_step change) (proto_step change) (Statement-F.Statement::Proto p))

  -- a prototype, by its parts
  abbrev pub Parts : Type 0
  Parts = ProtoText-F BodyItem NodeText Statement ProtoText

  abbrev pub defaults_of : Parts → Sight → List (Declaration NodeText)
  defaults_of q s = interface_at (map (interface_mapped (node_at change)) q.interface) s

  abbrev pub proto_of : Parts → Sight → ProtoText
  proto_of q s = with_parts change q.line q.name (defaults_of q (opened s)) (map (statement_at change) q.body) (opened s)

  pub at-prototype : (p : ProtoText) (s : Sight) → prototype_at change p s ≡ proto_of (out-ProtoText p) s
  unfolding proto_step
  at-prototype p s =
      ap (λ (f : ProtoAt). f s) (fold_out-ProtoText ItemAt NodeAt StatementAt ProtoAt (item_step change) (node_step change) (statement_step change) (proto_step change) p)
