-- What the text of each part of a tree is, by what it holds.
use Rattle.std.proofs.Common.{◌≡◌, ℕ, ◌+◌, List, [], ◌∷◌, ◌++◌, Option, map, replicate, refl, ap, sym, ◌∙◌}
use Rattle.std.proofs.lemmas.Grind.{common_steps}
use Rattle.std.specs.Prelude.{codes}
use Rattle.x3d_values.specs.Names.{access_name, field_type_name}
use Rattle.classic_tree.specs.declared.tree.RouteText.{RouteText}
use Rattle.classic_tree.specs.declared.tree.RawValue.TheVariants as value
use Rattle.classic_tree.specs.declared.tree.Given.{Given}
use Rattle.classic_tree.specs.declared.tree.Given.TheVariants as given
use Rattle.classic_tree.specs.declared.tree.Declaration.{Declaration}
use Rattle.classic_tree.specs.declared.tree.BodyItem.{BodyItem, fold-roll-BodyItem}
use Rattle.classic_tree.specs.declared.tree.BodyItem.TheVariants as item
use Rattle.classic_tree.specs.declared.tree.BodyItem.TheOpen.{BodyItem-F, NodeText-F, Statement-F}
use Rattle.classic_tree.specs.declared.tree.NodeText.{NodeText, fold-roll-NodeText}
use Rattle.classic_tree.specs.declared.tree.NodeText.TheVariants as node
use Rattle.classic_tree.specs.declared.tree.Statement.{fold-roll-Statement}
use Rattle.classic_tree.specs.declared.tree.Statement.TheVariants as statement
use Rattle.classic_tree.specs.declared.tree.ProtoText.{ProtoText, out-ProtoText, fold_out-ProtoText}
use Rattle.classic_tree.specs.Writing.{Writes, lines_text, deeper_text, block_text, route_text, def_text, given_text, declaration_text, item_step, node_step, statement_step, proto_step, item_text, node_text, statement_text, proto_text}
use Rattle.classic_tree.proofs.Mapped.{given_mapped, declaration_mapped, interface_mapped}

-- ---- parts by the texts of the nodes in them

lines_map : {A B : Type 0} (s : B → Writes) (t : A → Writes) (g : A → B) → ((x : A) (i : ℕ) → s (g x) i ≡ t x i) → (indent : ℕ) (xs : List A) → lines_text s indent (map g xs) ≡ lines_text t indent xs
lines_map s t g e indent [] = refl
lines_map s t g e indent (x ∷ xs) = rw (e x indent) (ap (λ ls. (replicate indent 32 ++ t x indent ++ 10 ∷ []) ++ ls) (lines_map s t g e indent xs))

block_map : {A B : Type 0} (s : B → Writes) (t : A → Writes) (g : A → B) → ((x : A) (i : ℕ) → s (g x) i ≡ t x i) → (indent : ℕ) (xs : List A) → block_text s indent (map g xs) ≡ block_text t indent xs
block_map s t g e indent [] = refl
block_map s t g e indent (x ∷ xs) = ap (λ ls. 10 ∷ ls ++ replicate indent 32) (lines_map s t g e (indent + 2) (x ∷ xs))

-- ---- what a name is given

given_map : (f : NodeText → Writes) (g : Given NodeText) (indent : ℕ) → given_text (λ text. text) (given_mapped f g) indent ≡ given_text f g indent
given_map f given.Nothing indent = refl
given_map f (given.Value value.Null) indent = refl
given_map f (given.Value (value.Truth truth)) indent = refl
given_map f (given.Value (value.String text)) indent = refl
given_map f (given.Value (value.Numbers numbers)) indent = refl
given_map f (given.Value (value.Node inner)) indent = refl
given_map f (given.Value value.EmptyList) indent = refl
given_map f (given.Value (value.TruthList truths)) indent = refl
given_map f (given.Value (value.StringList texts)) indent = refl
given_map f (given.Value (value.NumberList numbers)) indent = refl
given_map f (given.Value (value.NodeList nodes)) indent = ap (λ block. 32 ∷ 91 ∷ block ++ 93 ∷ []) (block_map (λ (text : Writes). text) f f (λ n i. refl) indent nodes)
given_map f (given.Is name) indent = refl

declaration_map : (f : NodeText → Writes) (d : Declaration NodeText) (indent : ℕ) → declaration_text (λ text. text) (declaration_mapped f d) indent ≡ declaration_text f d indent
declaration_map f d indent = ap (λ rest. access_name d.access ++ 32 ∷ field_type_name d.field_type ++ 32 ∷ d.name ++ rest) (given_map f d.given indent)

interface_map : (f : NodeText → Writes) (d : Declaration NodeText) (indent : ℕ) → declaration_text (λ text. text) (interface_mapped f d) indent ≡ declaration_text f d indent
interface_map f d indent = ap (λ rest. access_name d.access ++ 32 ∷ field_type_name d.field_type ++ 32 ∷ d.name ++ rest) (given_map f d.given indent)

-- ---- items of a body

pub item_text-field : (line : ℕ) (name : List ℕ) (what : Given NodeText) (indent : ℕ) → item_text (item.Field line name what) indent ≡ name ++ given_text node_text what indent
unfolding item_step
item_text-field line name what indent = ap (λ whole. item_text whole indent) (sym (item.rolls-Field line name what))
    ∙ ap (λ (t : Writes). t indent) (fold-roll-BodyItem Writes Writes Writes Writes item_step node_step statement_step proto_step (BodyItem-F.Field line name what))
    ∙ ap (λ rest. name ++ rest) (given_map node_text what indent)

pub item_text-declaration : (inner : Declaration NodeText) (indent : ℕ) → item_text (item.Declaration inner) indent ≡ declaration_text node_text inner indent
unfolding item_step
item_text-declaration inner indent = ap (λ whole. item_text whole indent) (sym (item.rolls-Declaration inner))
    ∙ ap (λ (t : Writes). t indent) (fold-roll-BodyItem Writes Writes Writes Writes item_step node_step statement_step proto_step (BodyItem-F.Declaration inner))
    ∙ declaration_map node_text inner indent

pub item_text-route : (route : RouteText) (indent : ℕ) → item_text (item.Route route) indent ≡ route_text route
unfolding item_step
item_text-route route indent = ap (λ whole. item_text whole indent) (sym (item.rolls-Route route))
    ∙ ap (λ (t : Writes). t indent) (fold-roll-BodyItem Writes Writes Writes Writes item_step node_step statement_step proto_step (BodyItem-F.BodyItem::Route route))

pub item_text-proto : (inner : ProtoText) (indent : ℕ) → item_text (item.Proto inner) indent ≡ proto_text inner indent
unfolding item_step
item_text-proto inner indent = ap (λ whole. item_text whole indent) (sym (item.rolls-Proto inner))
    ∙ ap (λ (t : Writes). t indent) (fold-roll-BodyItem Writes Writes Writes Writes item_step node_step statement_step proto_step (BodyItem-F.BodyItem::Proto inner))

-- ---- nodes

pub node_text-use : (line : ℕ) (name : List ℕ) (indent : ℕ) → node_text (node.Use line name) indent ≡ codes "USE " ++ name
unfolding node_step
node_text-use line name indent = ap (λ whole. node_text whole indent) (sym (node.rolls-Use line name))
    ∙ ap (λ (t : Writes). t indent) (fold-roll-NodeText Writes Writes Writes Writes item_step node_step statement_step proto_step (NodeText-F.Use line name))

pub node_text-full : (line : ℕ) (name : Option (List ℕ)) (node_type : List ℕ) (items : List BodyItem) (indent : ℕ) → node_text (node.Full line name node_type items) indent ≡ def_text name ++ node_type ++ codes " {" ++ block_text item_text indent items ++ 125 ∷ []
unfolding node_step
node_text-full line name node_type items indent = ap (λ whole. node_text whole indent) (sym (node.rolls-Full line name node_type items))
    ∙ ap (λ (t : Writes). t indent) (fold-roll-NodeText Writes Writes Writes Writes item_step node_step statement_step proto_step (NodeText-F.Full line name node_type items))
    ∙ ap (λ block. def_text name ++ node_type ++ codes " {" ++ block ++ 125 ∷ []) (block_map (λ (text : Writes). text) item_text item_text (λ x i. refl) indent items)

-- ---- statements

pub statement_text-node : (inner : NodeText) (indent : ℕ) → statement_text (statement.Node inner) indent ≡ node_text inner indent
unfolding statement_step
statement_text-node inner indent = ap (λ whole. statement_text whole indent) (sym (statement.rolls-Node inner))
    ∙ ap (λ (t : Writes). t indent) (fold-roll-Statement Writes Writes Writes Writes item_step node_step statement_step proto_step (Statement-F.Node inner))

pub statement_text-route : (route : RouteText) (indent : ℕ) → statement_text (statement.Route route) indent ≡ route_text route
unfolding statement_step
statement_text-route route indent = ap (λ whole. statement_text whole indent) (sym (statement.rolls-Route route))
    ∙ ap (λ (t : Writes). t indent) (fold-roll-Statement Writes Writes Writes Writes item_step node_step statement_step proto_step (Statement-F.Statement::Route route))

pub statement_text-proto : (inner : ProtoText) (indent : ℕ) → statement_text (statement.Proto inner) indent ≡ proto_text inner indent
unfolding statement_step
statement_text-proto inner indent = ap (λ whole. statement_text whole indent) (sym (statement.rolls-Proto inner))
    ∙ ap (λ (t : Writes). t indent) (fold-roll-Statement Writes Writes Writes Writes item_step node_step statement_step proto_step (Statement-F.Statement::Proto inner))

-- ---- prototypes

pub proto_text_is : (proto : ProtoText) (indent : ℕ) → proto_text proto indent ≡ codes "PROTO " ++ (out-ProtoText proto).name ++ codes " [" ++ block_text (declaration_text node_text) indent (out-ProtoText proto).interface ++ codes "] {" ++ deeper_text statement_text indent (out-ProtoText proto).body ++ 125 ∷ []
unfolding proto_step
proto_text_is proto indent = ap (λ (t : Writes). t indent) (fold_out-ProtoText Writes Writes Writes Writes item_step node_step statement_step proto_step proto)
    ∙ ap (λ block. codes "PROTO " ++ (out-ProtoText proto).name ++ codes " [" ++ block ++ codes "] {" ++ deeper_text (λ (text : Writes). text) indent (map statement_text (out-ProtoText proto).body) ++ 125 ∷ []) (block_map (declaration_text (λ (text : Writes). text)) (declaration_text node_text) (interface_mapped node_text) (interface_map node_text) indent (out-ProtoText proto).interface)
    ∙ ap (λ ls. codes "PROTO " ++ (out-ProtoText proto).name ++ codes " [" ++ block_text (declaration_text node_text) indent (out-ProtoText proto).interface ++ codes "] {" ++ (10 ∷ ls ++ replicate indent 32) ++ 125 ∷ []) (lines_map (λ (text : Writes). text) statement_text statement_text (λ x i. refl) (indent + 2) (out-ProtoText proto).body)

pub ruleset item_lemmas = (common_steps, item_text-field, item_text-declaration, item_text-route, item_text-proto)

pub ruleset node_lemmas = (common_steps, node_text-use, node_text-full)

pub ruleset statement_lemmas = (common_steps, statement_text-node, statement_text-route, statement_text-proto)

pub ruleset proto_lemmas = (common_steps, proto_text_is)
