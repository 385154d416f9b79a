-- What each part of a text finds and declares, by the text itself.
use Rattle.std.proofs.Common.{◌≡◌, ℕ, Bool, true, false, List, [], ◌∷◌, Option, Result, Ok, Err, map, not, ◌&&◌, ◌||◌, if◌then◌else◌, refl, ap, ◌∙◌}
use Rattle.std.proofs.Math.Path.{fun_ext}
use Rattle.std.proofs.lemmas.Grind.{common_steps}
use Rattle.std.specs.List.{list_any}
use Rattle.std.specs.Str.{bytes_eq}
use Rattle.classic_tree.specs.declared.tree.RouteText.{RouteText}
use Rattle.classic_tree.specs.declared.tree.RawValue.TheVariants as value
use Rattle.classic_tree.specs.declared.tree.Given.{Given}
use Rattle.classic_tree.specs.declared.tree.Given.TheVariants as given
use Rattle.classic_tree.specs.declared.tree.Declaration.{Declaration}
use Rattle.classic_tree.specs.declared.tree.BodyItem.{BodyItem}
use Rattle.classic_tree.specs.declared.tree.BodyItem.TheVariants as tree_item
use Rattle.classic_tree.specs.declared.tree.NodeText.{NodeText}
use Rattle.classic_tree.specs.declared.tree.NodeText.TheVariants as tree_node
use Rattle.classic_tree.specs.declared.tree.Statement.{Statement}
use Rattle.classic_tree.specs.declared.tree.Statement.TheVariants as tree_statement
use Rattle.classic_tree.specs.declared.tree.ProtoText.{ProtoText, out-ProtoText, fold_out-ProtoText}
use Rattle.classic_tree.proofs.Mapped.{given_mapped, declaration_mapped, interface_mapped}
use Rattle.proto_flat.specs.Fault.{fault}
use Rattle.proto_flat.specs.declared.fault.ExpandFault.{ExpandFault}
use Rattle.proto_flat.specs.declared.fault.ExpandFaultKind.TheVariants.{ProtoTwice, EmptyBody}
use Rattle.proto_meaning.specs.Names.{Name}
use Rattle.proto_meaning.specs.Sight.{Names, Sight, Look, and_see, each, aside, meant, taken_by, is_kept, opened}
use Rattle.proto_meaning.specs.Flat.{Item, Node, Stated, Proto, item_step, node_step, statement_step, proto_step, item, node, statement, proto, given_finds, given_sees, body_finds, body_sees, declare_body}
use Rattle.proto_meaning.proofs.Trees.{item-field, item-declaration, item-route, item-proto, node-use, node-full, statement-node, statement-route, statement-proto}
use Rattle.proto_meaning.specs.Texts.{finds_given, finds_full, finds_inside, sees_given, sees_field, sees_full, sees_interface, sees_inside, parts, prototype_of, closed, is_known, has_node, unless_found, checked, enters, declares}

-- ---- over lists

and_see-congr : {X Y E : Type 0} (f g : X → Result Y E) → ((x : X) → f x ≡ g x) → (r : Result X E) → and_see r f ≡ and_see r g
and_see-congr f g h (Ok x) = h x
and_see-congr f g h (Err e) = refl

-- a step of what the parts are made of, and a step of the parts
pub each-map : {A B X E : Type 0} (f : B → X → Result X E) (k : A → X → Result X E) (g : A → B) → ((a : A) (x : X) → f (g a) x ≡ k a x) → (xs : List A) (x : X) → each f (map g xs) x ≡ each k xs x
each-map f k g h [] x = refl
each-map f k g h (a ∷ rest) x = ap (λ r. and_see r (each f (map g rest))) (h a x) ∙ and_see-congr (each f (map g rest)) (each k rest) (λ y. each-map f k g h rest y) (k a x)

each-one : {A X E : Type 0} (f : A → X → Result X E) (r : Result X E) → and_see r (each f []) ≡ r
each-one f (Ok x) = refl
each-one f (Err e) = refl

-- ---- what a field is given

given-finds : (own : Name) (g : Given NodeText) (hidden : Bool) → given_finds (given_mapped node g) own hidden ≡ finds_given own g hidden
given-finds own given.Nothing hidden = refl
given-finds own (given.Value value.Null) hidden = refl
given-finds own (given.Value (value.Truth truth)) hidden = refl
given-finds own (given.Value (value.String text)) hidden = refl
given-finds own (given.Value (value.Numbers numbers)) hidden = refl
given-finds own (given.Value (value.Node n)) hidden = each-one (λ (p : Node). p.finds own) ((node n).finds own hidden)
given-finds own (given.Value value.EmptyList) hidden = refl
given-finds own (given.Value (value.TruthList truths)) hidden = refl
given-finds own (given.Value (value.StringList texts)) hidden = refl
given-finds own (given.Value (value.NumberList numbers)) hidden = refl
given-finds own (given.Value (value.NodeList nodes)) hidden = each-map (λ (p : Node). p.finds own) (λ n. (node n).finds own) node (λ n h. refl) nodes hidden
given-finds own (given.Is name) hidden = refl

pub given-sees : (g : Given NodeText) (s : Sight) → given_sees (given_mapped node g) s ≡ sees_given g s
given-sees given.Nothing s = refl
given-sees (given.Value value.Null) s = refl
given-sees (given.Value (value.Truth truth)) s = refl
given-sees (given.Value (value.String text)) s = refl
given-sees (given.Value (value.Numbers numbers)) s = refl
given-sees (given.Value (value.Node n)) s = each-one (λ (p : Node). p.sees) ((node n).sees s)
given-sees (given.Value value.EmptyList) s = refl
given-sees (given.Value (value.TruthList truths)) s = refl
given-sees (given.Value (value.StringList texts)) s = refl
given-sees (given.Value (value.NumberList numbers)) s = refl
given-sees (given.Value (value.NodeList nodes)) s = each-map (λ (p : Node). p.sees) (λ n. (node n).sees) node (λ n t. refl) nodes s
given-sees (given.Is name) s = refl

-- ---- what they find

pub item-field-finds : (line : ℕ) (name : Name) (g : Given NodeText) (own : Name) (hidden : Bool) → (item (tree_item.Field line name g)).finds own hidden ≡ finds_given own g hidden
unfolding item_step
item-field-finds line name g own hidden = ap (λ (p : Item). p.finds own hidden) (item-field line name g {h = given_mapped node g} refl) ∙ given-finds own g hidden

pub item-declaration-finds : (d : Declaration NodeText) (own : Name) (hidden : Bool) → (item (tree_item.Declaration d)).finds own hidden ≡ finds_given own d.given hidden
unfolding item_step
item-declaration-finds d own hidden = ap (λ (p : Item). p.finds own hidden) (item-declaration d {h = declaration_mapped node d} refl) ∙ given-finds own d.given hidden

pub item-route-finds : (route : RouteText) (own : Name) (hidden : Bool) → (item (tree_item.Route route)).finds own hidden ≡ Ok hidden
unfolding item_step
item-route-finds route own hidden = ap (λ (p : Item). p.finds own hidden) (item-route route)

pub item-proto-finds : (p : ProtoText) (own : Name) (hidden : Bool) → (item (tree_item.Proto p)).finds own hidden ≡ (proto p).finds own hidden
unfolding item_step
item-proto-finds p own hidden = ap (λ (q : Item). q.finds own hidden) (item-proto p {q = proto p} refl)

pub node-use-finds : (line : ℕ) (name own : Name) (hidden : Bool) → (node (tree_node.Use line name)).finds own hidden ≡ Ok hidden
unfolding node_step
node-use-finds line name own hidden = ap (λ (p : Node). p.finds own hidden) (node-use line name)

pub node-full-finds : (line : ℕ) (name : Option Name) (word : Name) (items : List BodyItem) (own : Name) (hidden : Bool) → (node (tree_node.Full line name word items)).finds own hidden ≡ finds_full line word items own hidden
unfolding node_step
node-full-finds line name word items own hidden = ap (λ (p : Node). p.finds own hidden) (node-full line name word items {ps = map item items} refl)
    ∙ ap (λ r. if not hidden && bytes_eq word own then Err line else r) (each-map (λ (i : Item). i.finds own) (λ i. (item i).finds own) item (λ i h. refl) items hidden)

pub statement-node-finds : (n : NodeText) (own : Name) (hidden : Bool) → (statement (tree_statement.Node n)).1.finds own hidden ≡ (node n).finds own hidden
unfolding statement_step
statement-node-finds n own hidden = ap (λ (p : Stated). p.1.finds own hidden) (statement-node n {p = node n} refl)

pub statement-route-finds : (route : RouteText) (own : Name) (hidden : Bool) → (statement (tree_statement.Route route)).1.finds own hidden ≡ Ok hidden
unfolding statement_step
statement-route-finds route own hidden = ap (λ (p : Stated). p.1.finds own hidden) (statement-route route)

pub statement-proto-finds : (p : ProtoText) (own : Name) (hidden : Bool) → (statement (tree_statement.Proto p)).1.finds own hidden ≡ (proto p).finds own hidden
unfolding statement_step
statement-proto-finds p own hidden = ap (λ (q : Stated). q.1.finds own hidden) (statement-proto p {q = proto p} refl)

-- ---- prototypes

proto-whole : (p : ProtoText) → proto p ≡ proto_step (parts p)
proto-whole p = fold_out-ProtoText Item Node Stated Proto item_step node_step statement_step proto_step p

inside-finds : (line : ℕ) (name : Name) (interface : List (Declaration NodeText)) (body : List Statement) (own : Name) (hidden : Bool) →
    body_finds line name (map (interface_mapped node) interface) (map statement body) own hidden ≡ finds_inside interface body own hidden
inside-finds line name interface body own hidden =
    ap (λ r. and_see r (each (λ (s : Stated). s.1.finds own) (map statement body)))
    (each-map (λ (d : Declaration Node). given_finds d.given own) (λ (d : Declaration NodeText). finds_given own d.given) (interface_mapped node) (λ d h. given-finds own d.given h) interface hidden)
    ∙ and_see-congr (each (λ (s : Stated). s.1.finds own) (map statement body)) (each (λ s. (statement s).1.finds own) body)
    (λ h. each-map (λ (s : Stated). s.1.finds own) (λ s. (statement s).1.finds own) statement (λ s k. refl) body h)
    (each (λ (d : Declaration NodeText). finds_given own d.given) interface hidden)

pub proto-searched : (p : ProtoText) (own : Name) (hidden : Bool) →
    (proto p).finds own hidden ≡ and_see (finds_inside (out-ProtoText p).interface (out-ProtoText p).body own hidden) (λ _. Ok (bytes_eq (out-ProtoText p).name own || hidden))
unfolding proto_step
proto-searched p own hidden = ap (λ (q : Proto). q.finds own hidden) (proto-whole p)
    ∙ ap (λ r. and_see r (λ _. Ok (bytes_eq (out-ProtoText p).name own || hidden))) (inside-finds (out-ProtoText p).line (out-ProtoText p).name (out-ProtoText p).interface (out-ProtoText p).body own hidden)

-- ---- what they declare and take

pub item-field-sees : (line : ℕ) (name : Name) (g : Given NodeText) (taken : Option Names) (s : Sight) → (item (tree_item.Field line name g)).sees taken s ≡ sees_field (is_kept taken name) g s
unfolding item_step
item-field-sees line name g taken s = ap (λ (p : Item). p.sees taken s) (item-field line name g {h = given_mapped node g} refl)
    ∙ ap (λ (f : Look). (if is_kept taken name then f else aside f) s) (fun_ext (λ t. given-sees g t))

pub item-declaration-sees : (d : Declaration NodeText) (taken : Option Names) (s : Sight) → (item (tree_item.Declaration d)).sees taken s ≡ sees_given d.given s
unfolding item_step
item-declaration-sees d taken s = ap (λ (p : Item). p.sees taken s) (item-declaration d {h = declaration_mapped node d} refl) ∙ given-sees d.given s

pub item-route-sees : (route : RouteText) (taken : Option Names) (s : Sight) → (item (tree_item.Route route)).sees taken s ≡ Ok s
unfolding item_step
item-route-sees route taken s = ap (λ (p : Item). p.sees taken s) (item-route route)

pub item-proto-sees : (p : ProtoText) (taken : Option Names) (s : Sight) → (item (tree_item.Proto p)).sees taken s ≡ (proto p).sees s
unfolding item_step
item-proto-sees p taken s = ap (λ (q : Item). q.sees taken s) (item-proto p {q = proto p} refl)

pub node-use-sees : (line : ℕ) (name : Name) (s : Sight) → (node (tree_node.Use line name)).sees s ≡ Ok s
unfolding node_step
node-use-sees line name s = ap (λ (p : Node). p.sees s) (node-use line name)

pub node-full-sees : (line : ℕ) (name : Option Name) (word : Name) (items : List BodyItem) (s : Sight) → (node (tree_node.Full line name word items)).sees s ≡ sees_full word items s
unfolding node_step sees_full
node-full-sees line name word items s = ap (λ (p : Node). p.sees s) (node-full line name word items {ps = map item items} refl)
    ∙ each-map (λ (i : Item). i.sees (taken_by (meant word s))) (λ i. (item i).sees (taken_by (meant word s))) item (λ i t. refl) items s

pub statement-node-sees : (n : NodeText) (s : Sight) → (statement (tree_statement.Node n)).1.sees s ≡ (node n).sees s
unfolding statement_step
statement-node-sees n s = ap (λ (p : Stated). p.1.sees s) (statement-node n {p = node n} refl)

pub statement-route-sees : (route : RouteText) (s : Sight) → (statement (tree_statement.Route route)).1.sees s ≡ Ok s
unfolding statement_step
statement-route-sees route s = ap (λ (p : Stated). p.1.sees s) (statement-route route)

pub statement-proto-sees : (p : ProtoText) (s : Sight) → (statement (tree_statement.Proto p)).1.sees s ≡ (proto p).sees s
unfolding statement_step
statement-proto-sees p s = ap (λ (q : Stated). q.1.sees s) (statement-proto p {q = proto p} refl)

inside-sees : (line : ℕ) (name : Name) (interface : List (Declaration NodeText)) (body : List Statement) (s : Sight) →
    body_sees line name (map (interface_mapped node) interface) (map statement body) s ≡ sees_inside interface body s
unfolding sees_inside
inside-sees line name interface body s =
    ap (λ (f : Look). and_see (aside f s) (each (λ (x : Stated). x.1.sees) (map statement body)))
    (fun_ext (λ t. each-map (λ (d : Declaration Node). given_sees d.given) (λ (d : Declaration NodeText). sees_given d.given) (interface_mapped node) (λ d u. given-sees d.given u) interface t))
    ∙ and_see-congr (each (λ (x : Stated). x.1.sees) (map statement body)) (each (λ x. (statement x).1.sees) body)
    (λ t. each-map (λ (x : Stated). x.1.sees) (λ x. (statement x).1.sees) statement (λ x u. refl) body t)
    (aside (sees_interface interface) s)

any-node : (body : List Statement) → list_any (λ (x : Stated). x.0) (map statement body) ≡ has_node body
any-node [] = refl
any-node (s ∷ rest) = ap (λ b. (statement s).0 || b) (any-node rest)

-- the faults of the declaration itself, and then what is inside
enters-as : (p : ProtoText) (s : Sight) → and_see (body_sees (out-ProtoText p).line (out-ProtoText p).name (parts p).interface (parts p).body (opened s)) (λ t. Ok (closed p s t)) ≡ enters p s
unfolding enters
enters-as p s = ap (λ r. and_see r (λ t. Ok (closed p s t))) (inside-sees (out-ProtoText p).line (out-ProtoText p).name (out-ProtoText p).interface (out-ProtoText p).body (opened s))

body-as : (p : ProtoText) (s : Sight) (found : Result Bool ℕ) → declare_body (out-ProtoText p).line (out-ProtoText p).name (parts p).interface (parts p).body found s
    ≡ and_see (unless_found found (if list_any (λ (x : Stated). x.0) (parts p).body then Ok tt else Err (fault EmptyBody (out-ProtoText p).line))) (λ (_ : Unit {0}). enters p s)
unfolding prototype_of
body-as p s (Err line) = refl
body-as p s (Ok hidden) = by_node p s (list_any (λ (x : Stated). x.0) (parts p).body) where
  by_node : (p : ProtoText) (s : Sight) (any : Bool) → (if any then and_see (body_sees (out-ProtoText p).line (out-ProtoText p).name (parts p).interface (parts p).body (opened s)) (λ t. Ok (closed p s t)) else Err (fault EmptyBody (out-ProtoText p).line))
      ≡ and_see (if any then Ok tt else Err (fault EmptyBody (out-ProtoText p).line)) (λ (_ : Unit {0}). enters p s)
  by_node p s true = enters-as p s
  by_node p s false = refl

known-as : (p : ProtoText) (s : Sight) (known : Bool) (r : Result (Unit {0}) ExpandFault) (whole : Result Sight ExpandFault) → whole ≡ and_see r (λ (_ : Unit {0}). enters p s) →
    (if known then Err (fault ProtoTwice (out-ProtoText p).line) else whole) ≡ and_see (if known then Err (fault ProtoTwice (out-ProtoText p).line) else r) (λ (_ : Unit {0}). enters p s)
known-as p s true r whole e = refl
known-as p s false r whole e = e

pub proto-sees : (p : ProtoText) (s : Sight) → (proto p).sees s ≡ declares p s
unfolding proto_step declares checked
proto-sees p s = ap (λ (q : Proto). q.sees s) (proto-whole p)
    ∙ known-as p s (is_known (out-ProtoText p).name s) (unless_found (body_finds (out-ProtoText p).line (out-ProtoText p).name (parts p).interface (parts p).body (out-ProtoText p).name false) (if list_any (λ (x : Stated). x.0) (parts p).body then Ok tt else Err (fault EmptyBody (out-ProtoText p).line)))
    (declare_body (out-ProtoText p).line (out-ProtoText p).name (parts p).interface (parts p).body (body_finds (out-ProtoText p).line (out-ProtoText p).name (parts p).interface (parts p).body (out-ProtoText p).name false) s)
    (body-as p s (body_finds (out-ProtoText p).line (out-ProtoText p).name (parts p).interface (parts p).body (out-ProtoText p).name false))
    ∙ ap (λ found. and_see (if is_known (out-ProtoText p).name s then Err (fault ProtoTwice (out-ProtoText p).line) else unless_found found (if list_any (λ (x : Stated). x.0) (parts p).body then Ok tt else Err (fault EmptyBody (out-ProtoText p).line))) (λ (_ : Unit {0}). enters p s))
    (inside-finds (out-ProtoText p).line (out-ProtoText p).name (out-ProtoText p).interface (out-ProtoText p).body (out-ProtoText p).name false)
    ∙ ap (λ any. and_see (if is_known (out-ProtoText p).name s then Err (fault ProtoTwice (out-ProtoText p).line) else unless_found (finds_inside (out-ProtoText p).interface (out-ProtoText p).body (out-ProtoText p).name false) (if any then Ok tt else Err (fault EmptyBody (out-ProtoText p).line))) (λ (_ : Unit {0}). enters p s))
    (any-node (out-ProtoText p).body)

-- ---- which statements are nodes

pub statement-node-is : (n : NodeText) → (statement (tree_statement.Node n)).0 ≡ true
unfolding statement_step
statement-node-is n = ap (λ (p : Stated). p.0) (statement-node n {p = node n} refl)

pub statement-route-is : (route : RouteText) → (statement (tree_statement.Route route)).0 ≡ false
unfolding statement_step
statement-route-is route = ap (λ (p : Stated). p.0) (statement-route route)

pub statement-proto-is : (p : ProtoText) → (statement (tree_statement.Proto p)).0 ≡ false
unfolding statement_step
statement-proto-is p = ap (λ (q : Stated). q.0) (statement-proto p {q = proto p} refl)

pub ruleset finds = (common_steps, item-field-finds, item-declaration-finds, item-route-finds, item-proto-finds, node-use-finds, node-full-finds, statement-node-finds, statement-route-finds, statement-proto-finds, proto-searched)

pub ruleset sees = (common_steps, item-field-sees, item-declaration-sees, item-route-sees, item-proto-sees, node-use-sees, node-full-sees, statement-node-sees, statement-route-sees, statement-proto-sees, proto-sees)

pub ruleset nodes = (common_steps, statement-node-is, statement-route-is, statement-proto-is)
