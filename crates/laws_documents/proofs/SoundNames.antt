-- Where each USE of a text names a node, each USE before some place does.
use Rattle.std.proofs.Common.{◌≡◌, ℕ, List, [], ◌∷◌, Option, subst}
use Rattle.std.specs.List.{AllByRecursion}
use Rattle.classic_tree.specs.declared.tree.BodyItem.{BodyItem}
use Rattle.classic_tree.specs.declared.tree.BodyItem.TheVariants as item_text
use Rattle.classic_tree.specs.declared.tree.Given.{Given}
use Rattle.classic_tree.specs.declared.tree.Given.TheVariants as given
use Rattle.classic_tree.specs.declared.tree.NodeText.{NodeText}
use Rattle.classic_tree.specs.declared.tree.NodeText.TheVariants as node_text
use Rattle.classic_tree.specs.declared.tree.RawValue.TheVariants as value
use Rattle.classic_tree.specs.declared.tree.Statement.{Statement}
use Rattle.classic_tree.specs.declared.tree.Statement.TheVariants as statement_text
use Rattle.proto_meaning.specs.Names.{Name}
use Rattle.proto_meaning.proofs.Induction.{OfGiven, Layers}
use Rattle.laws_documents.specs.Uses.{Reading, closes, named, opens, stands, steps}
use Rattle.laws_documents.specs.Readings.{each, read_given, read_item, read_node, read_statement}
use Rattle.laws_documents.proofs.Lists.{all_split}
use Rattle.laws_documents.proofs.Readings.{read-declaration, read-field, read-full, read-item-proto, read-item-route, read-node-statement, read-proto, read-route, read-use}
use Rattle.laws_documents.specs.Sound.{AllNamed, AreNamed, IsNodeNamed}

-- of the text before a part, where it is so behind it
abbrev pub Backs : (Reading → Reading) → Type 0
Backs step = (x : Reading) → AllNamed (step x) → AllNamed x

abbrev pub NodeBacks : NodeText → Type 0
NodeBacks n = Backs (read_node steps n)

abbrev pub ItemBacks : BodyItem → Type 0
ItemBacks i = Backs (read_item steps i)

abbrev pub StatementBacks : Statement → Type 0
StatementBacks s = Backs (read_statement steps s)

pub each_backs : {A : Type 0} (f : A → Reading → Reading) (xs : List A) → AllByRecursion (λ (a : A). Backs (f a)) xs → Backs (each f xs)
each_backs f [] h x k = k
each_backs f (a ∷ xs) h x k = h.0 x (each_backs f xs h.1 (f a x) k)

by_step : (f g : Reading → Reading) → ((x : Reading) → f x ≡ g x) → Backs g → Backs f
by_step f g e h x k = h x (subst AllNamed (e x) k)

given_backs : (g : Given NodeText) → OfGiven NodeBacks g → Backs (read_given (read_node steps) g)
given_backs given.Nothing h x k = k
given_backs (given.Is name) h x k = k
given_backs (given.Value value.Null) h x k = k
given_backs (given.Value (value.Truth truth)) h x k = k
given_backs (given.Value (value.String text)) h x k = k
given_backs (given.Value (value.Numbers numbers)) h x k = k
given_backs (given.Value (value.Node n)) h x k = h x k
given_backs (given.Value value.EmptyList) h x k = k
given_backs (given.Value (value.TruthList truths)) h x k = k
given_backs (given.Value (value.StringList texts)) h x k = k
given_backs (given.Value (value.NumberList numbers)) h x k = k
given_backs (given.Value (value.NodeList ns)) h x k = each_backs (read_node steps) ns h x k

-- what stands between the braces, and all before it
pub inner_named : (name : Option Name) (x y : Reading) → AllNamed (closes name x y) → AllNamed y
inner_named name x y h =
    let both = all_split AreNamed y.closed (y.here ∷ []) h.closed in
    record { closed = both.0; here = both.1.0 }

outer_here : (name : Option Name) (x y : Reading) → AllNamed (closes name x y) → AreNamed x.here
outer_here name x y h = (all_split IsNodeNamed x.here _ h.here).0

full_backs : (line : ℕ) (name : Option Name) (word : Name) (is : List BodyItem) → AllByRecursion ItemBacks is → NodeBacks (node_text.Full line name word is)
full_backs line name word is h =
    by_step (read_node steps (node_text.Full line name word is)) (λ x. closes name x (each (read_item steps) is (opens name x))) (read-full steps line name word is)
    (λ x k.
    let y = each (read_item steps) is (opens name x) in
    let first = each_backs (read_item steps) is h (opens name x) (inner_named name x y k) in
    record { closed = first.closed; here = outer_here name x y k })

pub used_named : (o : Option ℕ) (x : Reading) → AllNamed (stands o x) → AllNamed x × IsNodeNamed o
used_named o x h = let both = all_split IsNodeNamed x.here (o ∷ []) h.here in (record { closed = h.closed; here = both.0 }, both.1.0)

pub backs : Layers ItemBacks NodeBacks StatementBacks (λ p. Unit {0})
backs = record {
  field = λ line name g h. by_step (read_item steps (item_text.Field line name g)) (read_given (read_node steps) g) (read-field steps line name g) (given_backs g h);
  declaration = λ d h. by_step (read_item steps (item_text.Declaration d)) (read_given (read_node steps) d.given) (read-declaration steps d) (given_backs d.given h);
  item_route = λ r. by_step (read_item steps (item_text.Route r)) (λ x. x) (read-item-route steps r) (λ x k. k);
  item_proto = λ p h. by_step (read_item steps (item_text.Proto p)) (λ x. x) (read-item-proto steps p) (λ x k. k);
  used = λ line name. by_step (read_node steps (node_text.Use line name)) (λ x. stands (named name x.opened) x) (read-use steps line name) (λ x k. (used_named (named name x.opened) x k).0);
  full = full_backs;
  node = λ n h. by_step (read_statement steps (statement_text.Node n)) (read_node steps n) (read-node-statement steps n) h;
  route = λ r. by_step (read_statement steps (statement_text.Route r)) (λ x. x) (read-route steps r) (λ x k. k);
  proto = λ p h. by_step (read_statement steps (statement_text.Proto p)) (λ x. x) (read-proto steps p) (λ x k. k);
  prototype = λ p h k. tt;
}
