-- Which node a name stands for at the end of a text, by the braces that close in it.
use Rattle.std.proofs.Common.{◌≡◌, ℕ, ◌+◌, ◌≤◌, Bool, true, false, if◌then◌else◌, List, [], ◌∷◌, ◌++◌, length, Option, Some, None, slice_set, zero, suc, refl, sym, subst, ap, ◌∙◌, arith, length-append}
use Rattle.std.specs.List.{AllByRecursion, flat_map}
use Rattle.std.specs.Option.{option_or}
use Rattle.std.proofs.lemmas.List.{append-nil, append_assoc}
use Rattle.classic_tree.specs.declared.tree.BodyItem.{BodyItem}
use Rattle.classic_tree.specs.declared.tree.BodyItem.TheVariants as item
use Rattle.classic_tree.specs.declared.tree.Document.{Document}
use Rattle.classic_tree.specs.declared.tree.Given.{Given}
use Rattle.classic_tree.specs.declared.tree.Given.TheVariants as given
use Rattle.classic_tree.specs.declared.tree.NodeText.{NodeText}
use Rattle.classic_tree.specs.declared.tree.NodeText.TheVariants as node
use Rattle.classic_tree.specs.declared.tree.ProtoText.{ProtoText}
use Rattle.classic_tree.specs.declared.tree.RawValue.{RawValue}
use Rattle.classic_tree.specs.declared.tree.RawValue.TheVariants as value
use Rattle.classic_tree.specs.declared.tree.Statement.{Statement}
use Rattle.classic_tree.specs.declared.tree.Statement.TheVariants as statement
use Rattle.laws_documents.specs.Closings.{Braces, closings, in_given, in_item, in_node, in_statement, in_value}
use Rattle.laws_documents.specs.Uses.{OpenBraces, has_name}
use Rattle.laws_documents.proofs.ClosingParts.{in_declaration, in_field, in_full, in_item_proto, in_item_route, in_node_statement, in_proto, in_route, in_use}
use Rattle.laws_documents.proofs.Trees.{Layers, OfGiven, OfValue, every}
use Rattle.laws_documents.proofs.Lists.{all_append, get_middle, set_middle}
use Rattle.laws_documents.specs.Readings.{StateChange, each, read_document, read_given, read_item, read_node, read_statement, read_value}
use Rattle.laws_documents.specs.Routes.{Reading, closes, last_from, node_at, node_of, nothing_read, opens, routes, steps}
use Rattle.laws_documents.proofs.Readings.{read-declaration, read-field, read-full, read-item-proto, read-item-route, read-node-statement, read-proto, read-route, read-use}

abbrev pub open_braces : Option (List ℕ) → OpenBraces
open_braces name = record { name = name; node = None }

abbrev pub closed_braces : Option (List ℕ) → ℕ → OpenBraces
closed_braces name node = record { name = name; node = Some node }

abbrev pub if_one : Bool → ℕ
if_one true = 1
if_one false = 0

-- a name, and the number of the one node that has it
module _ (name : List ℕ) (n : ℕ) where
  -- how many have the name
  abbrev pub names_in : List Braces → ℕ
  names_in [] = 0
  names_in (b ∷ bs) = if_one (has_name name b.name) + names_in bs

  abbrev pub names_of : List OpenBraces → ℕ
  names_of [] = 0
  names_of (o ∷ os) = if_one (has_name name o.name) + names_of os

  -- of these braces, where the first that close have that number, no others have the name
  abbrev pub AreOnly : ℕ → List Braces → Type 0
  AreOnly at [] = Unit {0}
  AreOnly at (b ∷ bs) = (has_name name b.name ≡ true → at ≡ n) × AreOnly (at + 1) bs

  abbrev pub Holds : OpenBraces → Type 0
  Holds o = has_name name o.name ≡ true → o.node ≡ Some n

  pub record Linked (r : Reading) (bs : List Braces) (s : Reading) : Type 0 where
    pub more : List OpenBraces
    pub opened : s.opened ≡ r.opened ++ more
    pub closed : s.closed ≡ r.closed + length bs
    pub holds : AllByRecursion Holds more
    pub count : names_of more ≡ names_in bs

  names_in-append : (xs ys : List Braces) → names_in (xs ++ ys) ≡ names_in xs + names_in ys
  names_in-append [] ys = omega arith
  names_in-append (x ∷ xs) ys = let e = names_in-append xs ys in omega (arith, e)

  names_of-append : (xs ys : List OpenBraces) → names_of (xs ++ ys) ≡ names_of xs + names_of ys
  names_of-append [] ys = omega arith
  names_of-append (x ∷ xs) ys = let e = names_of-append xs ys in omega (arith, e)

  only_split : (at : ℕ) (xs ys : List Braces) → AreOnly at (xs ++ ys) → AreOnly at xs × AreOnly (at + length xs) ys
  only_split at [] ys h = let e : at ≡ at + 0 = omega arith in (tt, subst (λ (k : ℕ). AreOnly k ys) e h)
  only_split at (x ∷ xs) ys h =
      let s = only_split (at + 1) xs ys h.1 in
      let e : at + 1 + length xs ≡ at + length (x ∷ xs) = omega arith in
      ((h.0, s.0), subst (λ (k : ℕ). AreOnly k ys) e s.1)

  linked_none : (r s : Reading) → s.opened ≡ r.opened → s.closed ≡ r.closed → Linked r [] s
  linked_none r s e f = record { more = []; opened = e ∙ sym (append-nil r.opened); closed = omega (arith, f); holds = tt; count = refl }

  linked_then : (r s u : Reading) (xs ys : List Braces) → Linked r xs s → Linked s ys u → Linked r (xs ++ ys) u
  linked_then r s u xs ys h k =
      let first = h.count in
      let second = k.count in
      let before = h.closed in
      let after = k.closed in
      record {
        more = h.more ++ k.more;
        opened = k.opened ∙ ap (λ (os : List OpenBraces). os ++ k.more) h.opened ∙ append_assoc r.opened h.more k.more;
        closed = omega (arith, before, after, length-append xs ys);
        holds = all_append Holds h.more k.more h.holds k.holds;
        count = omega (arith, first, second, names_in-append xs ys, names_of-append h.more k.more);
      }

  abbrev Links : List Braces → StateChange Reading → Type 0
  Links bs step = (r : Reading) → AreOnly r.closed bs → Linked r bs (step r)

  -- the same, with braces and reading in another form
  linked_by : (bs same : List Braces) (f g : StateChange Reading) → bs ≡ same → ((r : Reading) → f r ≡ g r) → Links same g → Links bs f
  linked_by bs same f g e k h r only =
      subst (λ (s : Reading). Linked r bs s) (sym (k r))
      (subst (λ (b : List Braces). Linked r b (g r)) (sym e) (h r (subst (λ (b : List Braces). AreOnly r.closed b) e only)))

  module _ {A : Type 0} (braces : A → List Braces) (read : A → StateChange Reading) where
    linked_each : (parts : List A) → AllByRecursion (λ (a : A). Links (braces a) (read a)) parts → Links (flat_map braces parts) (each read parts)
    linked_each [] h r only = linked_none r r refl refl
    linked_each (a ∷ parts) h r only =
        let s = only_split r.closed (braces a) (flat_map braces parts) only in
        let first = h.0 r s.0 in
        linked_then r (read a r) (each read parts (read a r)) (braces a) (flat_map braces parts) first
        (linked_each parts h.1 (read a r) (subst (λ (k : ℕ). AreOnly k (flat_map braces parts)) (sym first.closed) s.1))

  -- ---- parts of a tree

  abbrev ItemLinks : BodyItem → Type 0
  ItemLinks i = Links (in_item i) (read_item steps i)

  abbrev NodeLinks : NodeText → Type 0
  NodeLinks t = Links (in_node t) (read_node steps t)

  abbrev StatementLinks : Statement → Type 0
  StatementLinks s = Links (in_statement s) (read_statement steps s)

  abbrev ProtoLinks : ProtoText → Type 0
  ProtoLinks p = Unit {0}

  value_links : (v : RawValue NodeText) → OfValue NodeLinks v → Links (in_value in_node v) (read_value (read_node steps) v)
  value_links value.Null h r only = linked_none r r refl refl
  value_links (value.Truth truth) h r only = linked_none r r refl refl
  value_links (value.String text) h r only = linked_none r r refl refl
  value_links (value.Numbers numbers) h r only = linked_none r r refl refl
  value_links (value.Node t) h r only = h r only
  value_links value.EmptyList h r only = linked_none r r refl refl
  value_links (value.TruthList truths) h r only = linked_none r r refl refl
  value_links (value.StringList texts) h r only = linked_none r r refl refl
  value_links (value.NumberList numbers) h r only = linked_none r r refl refl
  value_links (value.NodeList nodes) h r only = linked_each in_node (read_node steps) nodes h r only

  given_links : (g : Given NodeText) → OfGiven NodeLinks g → Links (in_given in_node g) (read_given (read_node steps) g)
  given_links given.Nothing h r only = linked_none r r refl refl
  given_links (given.Value v) h r only = value_links v h r only
  given_links (given.Is other) h r only = linked_none r r refl refl

  full_links : (label : Option (List ℕ)) (word : List ℕ) (items : List BodyItem) → AllByRecursion ItemLinks items
      → Links (flat_map in_item items ++ record { word = word; name = label } ∷ []) (λ r. closes label r (each (read_item steps) items (opens label r)))
  full_links label word items h r only =
      let inner = flat_map in_item items in
      let last : Braces = record { word = word; name = label } in
      let s = each (read_item steps) items (opens label r) in
      let parts = only_split r.closed inner (last ∷ []) only in
      let l = linked_each in_item (read_item steps) items h (opens label r) parts.0 in
      let now = closed_braces label s.closed in
      let before = l.closed in
      let inside = l.count in
      record {
        more = now ∷ l.more;
        opened =
            ap (λ (os : List OpenBraces). slice_set os (length r.opened) now) (l.opened ∙ append_assoc r.opened (open_braces label ∷ []) l.more)
            ∙ set_middle r.opened l.more (open_braces label) now;
        closed = omega (arith, before, length-append inner (last ∷ []));
        holds = ((λ e. ap (λ (k : ℕ). number k) (before ∙ parts.1.0 e)), l.holds);
        count = omega (arith, inside, names_in-append inner (last ∷ []));
      }
    where
      number : ℕ → Option ℕ
      number k = Some k

  layers : Layers ItemLinks NodeLinks StatementLinks ProtoLinks
  layers = record {
    field = λ line label g h. linked_by (in_item (item.Field line label g)) (in_given in_node g) (read_item steps (item.Field line label g)) (read_given (read_node steps) g) (in_field line label g) (read-field steps line label g) (given_links g h);
    declaration = λ d h. linked_by (in_item (item.Declaration d)) (in_given in_node d.given) (read_item steps (item.Declaration d)) (read_given (read_node steps) d.given) (in_declaration d) (read-declaration steps d) (given_links d.given h);
    item_route = λ route. linked_by (in_item (item.Route route)) [] (read_item steps (item.Route route)) (routes route) (in_item_route route) (read-item-route steps route) (λ r only. linked_none r (routes route r) refl refl);
    item_proto = λ p h. linked_by (in_item (item.Proto p)) [] (read_item steps (item.Proto p)) (λ r. r) (in_item_proto p) (read-item-proto steps p) (λ r only. linked_none r r refl refl);
    used = λ line label. linked_by (in_node (node.Use line label)) [] (read_node steps (node.Use line label)) (λ r. r) (in_use line label) (read-use steps line label) (λ r only. linked_none r r refl refl);
    full = λ line label word items h. linked_by (in_node (node.Full line label word items)) (flat_map in_item items ++ record { word = word; name = label } ∷ []) (read_node steps (node.Full line label word items)) (λ r. closes label r (each (read_item steps) items (opens label r))) (in_full line label word items) (read-full steps line label word items) (full_links label word items h);
    node = λ t h. linked_by (in_statement (statement.Node t)) (in_node t) (read_statement steps (statement.Node t)) (read_node steps t) (in_node_statement t) (read-node-statement steps t) h;
    route = λ route. linked_by (in_statement (statement.Route route)) [] (read_statement steps (statement.Route route)) (routes route) (in_route route) (read-route steps route) (λ r only. linked_none r (routes route r) refl refl);
    proto = λ p h. linked_by (in_statement (statement.Proto p)) [] (read_statement steps (statement.Proto p)) (λ r. r) (in_proto p) (read-proto steps p) (λ r only. linked_none r r refl refl);
    prototype = λ p h k. tt;
  }

  pub document_links : (d : Document) → AreOnly 0 (closings d) → Linked nothing_read (closings d) (read_document steps d nothing_read)
  document_links d only = linked_each in_statement (read_statement steps) d.statements (every ItemLinks NodeLinks StatementLinks ProtoLinks layers d.statements) nothing_read only

  -- ---- the last of the name

  or_first : (os : List OpenBraces) (a b : Option ℕ) → node_at os a ≡ Some n → node_at os (option_or a b) ≡ Some n
  or_first os None b h = absurd cc
  or_first os (Some k) b h = h

  none_last : (at : ℕ) (os : List OpenBraces) → names_of os ≡ 0 → last_from at name os ≡ None
  none_last at [] h = refl
  none_last at (o ∷ os) h = by_name (has_name name o.name) h (λ e. none_last (at + 1) os e) where
    by_name : (b : Bool) → if_one b + names_of os ≡ 0 → (names_of os ≡ 0 → last_from (at + 1) name os ≡ None) → option_or (last_from (at + 1) name os) (if b then Some at else None) ≡ None
    by_name true e k = absurd (omega (arith, e))
    by_name false e k = let z : names_of os ≡ 0 = omega (arith, e) in ap (λ (o : Option ℕ). option_or o None) (k z)

  last_is : (before os : List OpenBraces) → AllByRecursion Holds os → 1 ≤ names_of os → node_at (before ++ os) (last_from (length before) name os) ≡ Some n
  last_is before [] h some = absurd omega (arith, some)
  last_is before (o ∷ os) h some = by_rest (names_of os) refl (λ l. last_is (before ++ o ∷ []) os h.1 l) where
    at_end : length (before ++ o ∷ []) ≡ length before + 1
    at_end = omega (arith, length-append before (o ∷ []))

    by_here : (b : Bool) → has_name name o.name ≡ b → names_of os ≡ 0 → 1 ≤ if_one b + names_of os → node_at (before ++ o ∷ os) (option_or (last_from (length before + 1) name os) (if b then Some (length before) else None)) ≡ Some n
    by_here false e z l = absurd (omega (arith, z, l))
    by_here true e z l =
        ap (λ (p : Option ℕ). node_at (before ++ o ∷ os) (option_or p (Some (length before)))) (none_last (length before + 1) os z)
        ∙ ap node_of (get_middle before os o) ∙ h.0 e

    by_rest : (k : ℕ) → names_of os ≡ k → (1 ≤ names_of os → node_at ((before ++ o ∷ []) ++ os) (last_from (length (before ++ o ∷ [])) name os) ≡ Some n) → node_at (before ++ o ∷ os) (last_from (length before) name (o ∷ os)) ≡ Some n
    by_rest zero z rest = by_here (has_name name o.name) refl z some
    by_rest (suc k) z rest =
        let l : 1 ≤ names_of os = omega (arith, z) in
        or_first (before ++ o ∷ os) (last_from (length before + 1) name os) (if has_name name o.name then Some (length before) else None)
        (subst (λ (all : List OpenBraces). node_at all (last_from (length before + 1) name os) ≡ Some n) (append_assoc before (o ∷ []) os)
        (subst (λ (at : ℕ). node_at ((before ++ o ∷ []) ++ os) (last_from at name os) ≡ Some n) at_end (rest l)))

  -- at the end of a text in which one node has the name
  pub name_stands : (d : Document) → AreOnly 0 (closings d) → 1 ≤ names_in (closings d) → node_at (read_document steps d nothing_read).opened (last_from 0 name (read_document steps d nothing_read).opened) ≡ Some n
  name_stands d only some =
      let l = document_links d only in
      let same = l.count in
      subst (λ (os : List OpenBraces). node_at os (last_from 0 name os) ≡ Some n) (sym l.opened) (last_is [] l.more l.holds (omega (arith, same, some)))
