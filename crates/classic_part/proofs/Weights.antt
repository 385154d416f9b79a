-- What a tree weighs. A round in which something goes makes it lighter, so rounds have an end.
use Rattle.std.proofs.Common.{arith, ◌≡◌, ℕ, ◌+◌, suc, List, [], ◌∷◌, ◌++◌, Option, map, refl, ap, sym, ◌∙◌, if◌then◌else◌}
use Rattle.std.specs.Prelude.{is_some}
use Rattle.x3d_values.specs.Names.{node_type_named}
use Rattle.classic_tree.specs.declared.tree.BodyItem.{BodyItem, fold-BodyItem, fold-roll-BodyItem}
use Rattle.classic_tree.specs.declared.tree.BodyItem.TheOpen.{BodyItem-F, NodeText-F, Statement-F, ProtoText-F}
use Rattle.classic_tree.specs.declared.tree.BodyItem.TheVariants as item
use Rattle.classic_tree.specs.declared.tree.Declaration.{Declaration}
use Rattle.classic_tree.specs.declared.tree.Document.{Document}
use Rattle.classic_tree.specs.declared.tree.Given.{Given}
use Rattle.classic_tree.specs.declared.tree.Given.TheVariants as given
use Rattle.classic_tree.specs.declared.tree.NodeText.{NodeText, fold-NodeText, fold-roll-NodeText}
use Rattle.classic_tree.specs.declared.tree.NodeText.TheVariants as node
use Rattle.classic_tree.specs.declared.tree.ProtoText.{ProtoText, fold-ProtoText, out-ProtoText, fold_out-ProtoText, roll-ProtoText, out-roll-ProtoText}
use Rattle.classic_tree.specs.declared.tree.RawValue.{RawValue}
use Rattle.classic_tree.specs.declared.tree.RawValue.TheVariants as value
use Rattle.classic_tree.specs.declared.tree.RouteText.{RouteText}
use Rattle.classic_tree.specs.declared.tree.Statement.{Statement, fold-Statement, fold-roll-Statement}
use Rattle.classic_tree.specs.declared.tree.Statement.TheVariants as statement
use Rattle.classic_tree.proofs.Mapped.{given_mapped, declaration_mapped, interface_mapped}

-- ---- sums

abbrev pub sum : {A : Type 0} → (A → ℕ) → List A → ℕ
sum w [] = 0
sum w (x ∷ xs) = w x + sum w xs

pub sum-append : {A : Type 0} (w : A → ℕ) (xs ys : List A) → sum w (xs ++ ys) ≡ sum w xs + sum w ys
sum-append w [] ys = omega arith
sum-append w (x ∷ xs) ys = omega (arith, sum-append w xs ys)

sum-map : {A B : Type 0} (w : B → ℕ) (v : A → ℕ) (g : A → B) → ((x : A) → w (g x) ≡ v x) → (xs : List A) → sum w (map g xs) ≡ sum v xs
sum-map w v g e [] = refl
sum-map w v g e (x ∷ xs) = omega (arith, e x, sum-map w v g e xs)

-- ---- weights, from those of what is inside

-- a grouping node outside the table weighs more than the node that it becomes
abbrev pub word_weight : List ℕ → ℕ
word_weight word = if is_some (node_type_named word) then 0 else 1

module _ {N : Type 0} (weight : N → ℕ) where
  abbrev pub value_weight : RawValue N → ℕ
  value_weight (value.Node n) = weight n
  value_weight (value.NodeList ns) = sum weight ns
  value_weight _ = 0

  abbrev pub given_weight : Given N → ℕ
  given_weight (given.Value v) = value_weight v
  given_weight _ = 0

  abbrev pub declaration_weight : Declaration N → ℕ
  declaration_weight d = suc (given_weight d.given)

unfoldable pub item_step : BodyItem-F ℕ ℕ ℕ ℕ → ℕ
item_step (BodyItem-F.Field line name g) = suc (given_weight (λ (n : ℕ). n) g)
item_step (BodyItem-F.Declaration d) = declaration_weight (λ (n : ℕ). n) d
item_step (BodyItem-F.BodyItem::Route route) = 1
item_step (BodyItem-F.BodyItem::Proto p) = p

unfoldable pub node_step : NodeText-F ℕ ℕ ℕ ℕ → ℕ
node_step (NodeText-F.Use line name) = 1
node_step (NodeText-F.Full line name word items) = suc (word_weight word + sum (λ (n : ℕ). n) items)

unfoldable pub statement_step : Statement-F ℕ ℕ ℕ ℕ → ℕ
statement_step (Statement-F.Node n) = n
statement_step (Statement-F.Statement::Route route) = 1
statement_step (Statement-F.Statement::Proto p) = p

unfoldable pub proto_step : ProtoText-F ℕ ℕ ℕ ℕ → ℕ
proto_step p = suc (sum (declaration_weight (λ (n : ℕ). n)) p.interface + sum (λ (n : ℕ). n) p.body)

abbrev pub item_weight : BodyItem → ℕ
item_weight = fold-BodyItem ℕ ℕ ℕ ℕ item_step node_step statement_step proto_step

abbrev pub node_weight : NodeText → ℕ
node_weight = fold-NodeText ℕ ℕ ℕ ℕ item_step node_step statement_step proto_step

abbrev pub statement_weight : Statement → ℕ
statement_weight = fold-Statement ℕ ℕ ℕ ℕ item_step node_step statement_step proto_step

abbrev pub proto_weight : ProtoText → ℕ
proto_weight = fold-ProtoText ℕ ℕ ℕ ℕ item_step node_step statement_step proto_step

abbrev pub weight : Document → ℕ
weight d = sum statement_weight d.statements

-- ---- weights of each variant

given_map : (f : NodeText → ℕ) (g : Given NodeText) → given_weight (λ (n : ℕ). n) (given_mapped f g) ≡ given_weight f g
given_map f given.Nothing = refl
given_map f (given.Value value.Null) = refl
given_map f (given.Value (value.Truth truth)) = refl
given_map f (given.Value (value.String text)) = refl
given_map f (given.Value (value.Numbers numbers)) = refl
given_map f (given.Value (value.Node n)) = refl
given_map f (given.Value value.EmptyList) = refl
given_map f (given.Value (value.TruthList truths)) = refl
given_map f (given.Value (value.StringList texts)) = refl
given_map f (given.Value (value.NumberList numbers)) = refl
given_map f (given.Value (value.NodeList nodes)) = sum-map (λ (n : ℕ). n) f f (λ n. refl) nodes
given_map f (given.Is outer) = refl

declaration_map : (f : NodeText → ℕ) (d : Declaration NodeText) → declaration_weight (λ (n : ℕ). n) (declaration_mapped f d) ≡ declaration_weight f d
declaration_map f d = ap suc (given_map f d.given)

interface_map : (f : NodeText → ℕ) (d : Declaration NodeText) → declaration_weight (λ (n : ℕ). n) (interface_mapped f d) ≡ declaration_weight f d
interface_map f d = ap suc (given_map f d.given)

pub item_weight-field : (line : ℕ) (name : List ℕ) (g : Given NodeText) → item_weight (item.Field line name g) ≡ suc (given_weight node_weight g)
unfolding item_step
item_weight-field line name g = ap item_weight (sym (item.rolls-Field line name g))
    ∙ fold-roll-BodyItem ℕ ℕ ℕ ℕ item_step node_step statement_step proto_step (BodyItem-F.Field line name g)
    ∙ ap suc (given_map node_weight g)

pub item_weight-declaration : (d : Declaration NodeText) → item_weight (item.Declaration d) ≡ declaration_weight node_weight d
unfolding item_step
item_weight-declaration d = ap item_weight (sym (item.rolls-Declaration d))
    ∙ fold-roll-BodyItem ℕ ℕ ℕ ℕ item_step node_step statement_step proto_step (BodyItem-F.Declaration d)
    ∙ declaration_map node_weight d

pub item_weight-route : (route : RouteText) → item_weight (item.Route route) ≡ 1
unfolding item_step
item_weight-route route = ap item_weight (sym (item.rolls-Route route))
    ∙ fold-roll-BodyItem ℕ ℕ ℕ ℕ item_step node_step statement_step proto_step (BodyItem-F.BodyItem::Route route)

pub item_weight-proto : (p : ProtoText) → item_weight (item.Proto p) ≡ proto_weight p
unfolding item_step
item_weight-proto p = ap item_weight (sym (item.rolls-Proto p))
    ∙ fold-roll-BodyItem ℕ ℕ ℕ ℕ item_step node_step statement_step proto_step (BodyItem-F.BodyItem::Proto p)

pub node_weight-use : (line : ℕ) (name : List ℕ) → node_weight (node.Use line name) ≡ 1
unfolding node_step
node_weight-use line name = ap node_weight (sym (node.rolls-Use line name))
    ∙ fold-roll-NodeText ℕ ℕ ℕ ℕ item_step node_step statement_step proto_step (NodeText-F.Use line name)

pub node_weight-full : (line : ℕ) (name : Option (List ℕ)) (word : List ℕ) (items : List BodyItem)
    → node_weight (node.Full line name word items) ≡ suc (word_weight word + sum item_weight items)
unfolding node_step
node_weight-full line name word items = ap node_weight (sym (node.rolls-Full line name word items))
    ∙ fold-roll-NodeText ℕ ℕ ℕ ℕ item_step node_step statement_step proto_step (NodeText-F.Full line name word items)
    ∙ ap (λ n. suc (word_weight word + n)) (sum-map (λ (n : ℕ). n) item_weight item_weight (λ i. refl) items)

pub statement_weight-node : (n : NodeText) → statement_weight (statement.Node n) ≡ node_weight n
unfolding statement_step
statement_weight-node n = ap statement_weight (sym (statement.rolls-Node n))
    ∙ fold-roll-Statement ℕ ℕ ℕ ℕ item_step node_step statement_step proto_step (Statement-F.Node n)

pub statement_weight-route : (route : RouteText) → statement_weight (statement.Route route) ≡ 1
unfolding statement_step
statement_weight-route route = ap statement_weight (sym (statement.rolls-Route route))
    ∙ fold-roll-Statement ℕ ℕ ℕ ℕ item_step node_step statement_step proto_step (Statement-F.Statement::Route route)

pub statement_weight-proto : (p : ProtoText) → statement_weight (statement.Proto p) ≡ proto_weight p
unfolding statement_step
statement_weight-proto p = ap statement_weight (sym (statement.rolls-Proto p))
    ∙ fold-roll-Statement ℕ ℕ ℕ ℕ item_step node_step statement_step proto_step (Statement-F.Statement::Proto p)

pub proto_weight_is : (p : ProtoText) → proto_weight p
    ≡ suc (sum (declaration_weight node_weight) (out-ProtoText p).interface + sum statement_weight (out-ProtoText p).body)
unfolding proto_step
proto_weight_is p =
    let q = out-ProtoText p in
    fold_out-ProtoText ℕ ℕ ℕ ℕ item_step node_step statement_step proto_step p
    ∙ ap (λ n. suc (n + sum (λ (n : ℕ). n) (map statement_weight q.body)))
    (sum-map (declaration_weight (λ (n : ℕ). n)) (declaration_weight node_weight) (interface_mapped node_weight) (interface_map node_weight) q.interface)
    ∙ ap (λ n. suc (sum (declaration_weight node_weight) q.interface + n)) (sum-map (λ (n : ℕ). n) statement_weight statement_weight (λ s. refl) q.body)

pub proto_weight_rolled : (line : ℕ) (name : List ℕ) (interface : List (Declaration NodeText)) (body : List Statement)
    → proto_weight (roll-ProtoText (record { line = line; name = name; interface = interface; body = body }))
    ≡ suc (sum (declaration_weight node_weight) interface + sum statement_weight body)
proto_weight_rolled line name interface body =
    let q : ProtoText-F BodyItem NodeText Statement ProtoText = record { line = line; name = name; interface = interface; body = body } in
    proto_weight_is (roll-ProtoText q)
    ∙ ap (λ (o : ProtoText-F BodyItem NodeText Statement ProtoText). suc (sum (declaration_weight node_weight) o.interface + sum statement_weight o.body)) (out-roll-ProtoText q)
