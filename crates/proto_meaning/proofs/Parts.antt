-- Items, nodes and statements: the tree does what the text does.
use Rattle.std.proofs.Common.{◌≡◌, ℕ, Bool, true, false, List, [], ◌∷◌, ◌++◌, Option, Some, None, Result, Ok, Err, map, refl, ap, sym, ◌∙◌, subst, true≢false, ◌+◌}
use Rattle.std.specs.Prelude.{if◌then◌else◌, length, is_some}
use Rattle.std.specs.Borrow.{Bor}
use Rattle.std.specs.Option.{option_map_or}
use Rattle.std.specs.Str.{bytes_eq}
use Rattle.std.proofs.lemmas.Slice.Eq.{bytes_eq-Decides}
use Rattle.classic_tree.specs.declared.tree.BodyItem.{BodyItem}
use Rattle.classic_tree.specs.declared.tree.BodyItem.TheVariants as text_item
use Rattle.classic_tree.specs.declared.tree.BodyItem.TheOpen.{BodyItem-F, NodeText-F}
use Rattle.classic_tree.specs.declared.tree.Declaration.{Declaration}
use Rattle.classic_tree.specs.declared.tree.Given.{Given}
use Rattle.classic_tree.specs.declared.tree.NodeText.{NodeText}
use Rattle.classic_tree.specs.declared.tree.NodeText.TheVariants as text_node
use Rattle.classic_tree.specs.declared.tree.ProtoText.{ProtoText}
use Rattle.classic_tree.specs.declared.tree.RouteText.{RouteText}
use Rattle.classic_tree.proofs.Mapped.{given_mapped, declaration_mapped}
use Rattle.proto_flat.specs.declared.fault.ExpandFault.{ExpandFault}
use Rattle.proto_flat.specs.declared.fault.ExpandFaultKind.TheVariants.{FieldTwice, UnknownField, UseWithoutDef}
use Rattle.proto_meaning.specs.Limits.{Met, ANode, AnInstance, AnItem, follow, behind}
use Rattle.proto_meaning.specs.Names.{Name, Field, used}
use Rattle.proto_meaning.specs.Sight.{Sight, Names, Instance, Prototype, Owner, OfType, OfProto, and_see, each, meant, taken_by, is_kept}
use Rattle.proto_meaning.specs.Flat as flat
use Rattle.proto_meaning.specs.Flat.{Walk, Does, ◌>>=◌, pure, refuse, meet, note, see, through, close, renamed, Node, Item, Inside, is_one, unless_twice, inside, fields_of, flat_node, close_node, close_instance, full_node, numbered_from, is_filled, is_script, field, give}
use Rattle.proto_meaning.proofs.SightLaw.{Any, Owned, After, Follows, GoodItem, bared, still}
use Rattle.proto_meaning.proofs.Trees.{item-field, item-declaration, item-route, item-proto, node-use, node-full}
use Rattle.proto_meaning.specs.trees.Given.{GivenTree}
use Rattle.proto_meaning.specs.declared.tree.GivenTree.TheVariants as tree
use Rattle.proto_meaning.specs.declared.tree.ItemTree.{ItemTree, fold-roll-ItemTree}
use Rattle.proto_meaning.specs.declared.tree.ItemTree.TheVariants as tree_item
use Rattle.proto_meaning.specs.declared.tree.ItemTree.TheOpen.{ItemTree-F, NodeTree-F}
use Rattle.proto_meaning.specs.declared.tree.NodeTree.{NodeTree, fold-roll-NodeTree}
use Rattle.proto_meaning.specs.declared.tree.NodeTree.TheVariants as tree_node
use Rattle.proto_meaning.specs.declared.tree.Word.{Word}
use Rattle.proto_meaning.specs.trees.Meaning.{owner, item, node, item_step, node_step, gives}
use Rattle.proto_meaning.specs.trees.Resolved.{Seen}
use Rattle.proto_meaning.proofs.Same.{Same, hide, hidden, never, in_bared, same_then, same_first, same_last, same_wrong, same_passed, same_if, same_when}
use Rattle.proto_meaning.proofs.Good.{every_proto, proto_does}
use Rattle.proto_meaning.proofs.Given.{GivenSame, NodeSame}

-- ---- items between braces

-- an item of the text, and of the tree, between braces of which those names are taken
pub record ItemSame (taken : Option Names) (s : Sight) (m n : Item) (r : Seen) : Type 0 where
  pub sees : m.sees taken s ≡ r
  pub does : (b : Inside) → taken_by (Some b.owner) ≡ taken → Same s (m.does b) (n.does b)

pub record ItemsSame (taken : Option Names) (s : Sight) (ms ns : List Item) (r : Seen) : Type 0 where
  pub sees : each (λ (i : Item). i.sees taken) ms s ≡ r
  pub does : (b : Inside) → taken_by (Some b.owner) ≡ taken → Same s (through (λ (i : Item). i.does) ms b) (through (λ (i : Item). i.does) ns b)

pub no_items_same : (taken : Option Names) (s : Sight) → ItemsSame taken s [] [] (Ok s)
no_items_same taken s = record { sees = refl; does = λ b _ w e. refl }

abbrev Takes : Option Names → Inside → Type 0
Takes taken b = taken_by (Some b.owner) ≡ taken

owned_after : (taken : Option Names) (o : Owner) → taken_by (Some o) ≡ taken → (c : Result (Inside × Walk) ExpandFault) (r : Seen) → After (Owned o) c r → After (Takes taken) c r
owned_after taken o e (Ok p) r h = (ap (λ x. taken_by (Some x)) h.0 ∙ e, h.1)
owned_after taken o e (Err x) r h = tt

item_follows : (taken : Option Names) (m : Item) → GoodItem m → (b : Inside) → Takes taken b → Follows (Takes taken) (m.does b) (m.sees taken)
item_follows taken m good b e w =
    owned_after taken b.owner e (m.does b w).comes (m.sees taken w.sight) (subst (λ o. After (Owned b.owner) (m.does b w).comes (m.sees o w.sight)) e (good.follows b w))

abbrev all_do : List Item → Inside → Does Inside
all_do items = through (λ (i : Item). i.does) items

pub next_items_same : (taken : Option Names) (s u : Sight) (m n : Item) (ms ns : List Item) (r : Seen) → GoodItem m → ItemSame taken s m n (Ok u) → ItemsSame taken u ms ns r → ItemsSame taken s (m ∷ ms) (n ∷ ns) r
next_items_same taken s u m n ms ns r good h rest =
    record {
      sees = ap (λ x. and_see x (each (λ (i : Item). i.sees taken) ms)) h.sees ∙ rest.sees;
      does = λ b k. same_then (Takes taken) (m.does b) (n.does b) (all_do ms) (all_do ns) (m.sees taken) s (Ok u) (good.free taken) (item_follows taken m good b k) (ap bared h.sees) (h.does b k)
          (λ t e a l. subst (λ x. Same x (all_do ms a) (all_do ns a)) (in_bared u t e) (rest.does a l));
    }

pub last_items_same : (taken : Option Names) (s : Sight) (m n : Item) (ms : List Item) (e : ExpandFault) → GoodItem m → ItemSame taken s m n (Err e) → ItemsSame taken s (m ∷ ms) (n ∷ []) (Err e)
last_items_same taken s m n ms e good h =
    record {
      sees = ap (λ x. and_see x (each (λ (i : Item). i.sees taken) ms)) h.sees;
      does = λ b k. same_then (Takes taken) (m.does b) (n.does b) (all_do ms) (all_do []) (m.sees taken) s (Err e) (good.free taken) (item_follows taken m good b k) (ap bared h.sees) (h.does b k)
          (λ t x a l. never t e x);
    }

abbrev proto_item : ProtoText → Item
proto_item p = flat.item_step (BodyItem-F.BodyItem::Proto (flat.proto p))

proto_item_does : (p : ProtoText) (b : Inside) → (proto_item p).does b ≡ (see (flat.proto p).sees >>= λ _. pure b)
unfolding flat.item_step
proto_item_does p b = ap (λ (d : Does (Unit {0})). d >>= λ _. pure b) (proto_does p)

proto_item_sees : (taken : Option Names) (p : ProtoText) (s : Sight) → (proto_item p).sees taken s ≡ (flat.proto p).sees s
unfolding flat.item_step
proto_item_sees taken p s = refl

declared_items : (taken : Option Names) (p : ProtoText) (s u : Sight) (ms ns : List Item) (r : Seen) → (flat.proto p).sees s ≡ Ok u → ItemsSame taken u ms ns r → ItemsSame taken s (proto_item p ∷ ms) ns r
declared_items taken p s u ms ns r e rest =
    record {
      sees = ap (λ x. and_see x (each (λ (i : Item). i.sees taken) ms)) (proto_item_sees taken p s ∙ e) ∙ rest.sees;
      does = λ b k. subst (λ (d : Does Inside). Same s (d >>= all_do ms) (all_do ns b)) (sym (proto_item_does p b))
          (same_passed (flat.proto p).sees b (all_do ms) (all_do ns b) s u (every_proto p).free (ap bared e) (rest.does b k));
    }

pub declared_items_same : (taken : Option Names) (p : ProtoText) (s u : Sight) (ms ns : List Item) (r : Seen) → (flat.proto p).sees s ≡ Ok u → ItemsSame taken u ms ns r → ItemsSame taken s (flat.item (text_item.Proto p) ∷ ms) ns r
declared_items_same taken p s u ms ns r e rest = subst (λ (x : Item). ItemsSame taken s (x ∷ ms) ns r) (sym (item-proto p {q = flat.proto p} refl)) (declared_items taken p s u ms ns r e rest)

-- ---- one item

-- what is done with the field of that name
named_field : (s : Sight) (name : Name) (g k : ℕ × Field → Does Inside) (m : Does Inside) → ((f : ℕ × Field) → f.1.name ≡ name → Same s (g f) (k f)) → Same s m m
    → (number : ℕ) (fs : List Field) → Same s (option_map_or g (numbered_from number name fs) m) (option_map_or k (numbered_from number name fs) m)
named_field s name g k m h n number [] = n
named_field s name g k m h n number (f ∷ fs) = by_test (bytes_eq f.name name) (named_field s name g k m h n (number + 1) fs) refl where
  by_test : (b : Bool) → Same s (option_map_or g (numbered_from (number + 1) name fs) m) (option_map_or k (numbered_from (number + 1) name fs) m) → bytes_eq f.name name ≡ b → Same s (option_map_or g (if b then Some (number, f) else numbered_from (number + 1) name fs) m) (option_map_or k (if b then Some (number, f) else numbered_from (number + 1) name fs) m)
  by_test true rest e = h (number, f) ((bytes_eq-Decides f.name name).0 e)
  by_test false rest e = rest

owner_kept : (o : Owner) (name : Name) → is_script o ≡ true → is_kept (taken_by (Some o)) name ≡ true
owner_kept (OfType t) name e = refl
owner_kept (OfProto p) name e = absurd (true≢false (sym e))

by_items : (taken : Option Names) (s : Sight) (r : Seen) (m m' n n' : Item) → m ≡ m' → n ≡ n' → ItemSame taken s m' n' r → ItemSame taken s m n r
by_items taken s r m m' n n' e f h = subst (λ (x : Item). ItemSame taken s x n r) (sym e) (subst (λ (y : Item). ItemSame taken s m' y r) (sym f) h)

module _ (ps : List Prototype) where
  abbrev pub mapped : GivenTree NodeTree → GivenTree Node
  mapped tree.Nothing = tree.Nothing
  mapped (tree.Is name) = tree.Is name
  mapped (tree.Plain v) = tree.Plain v
  mapped (tree.One n) = tree.One (node ps n)
  mapped (tree.Many count ns) = tree.Many count (map (node ps) ns)
  mapped (tree.LeftOut wrong) = tree.LeftOut wrong

  abbrev rolled : ItemTree-F ItemTree NodeTree → Type 0
  rolled x = Unit {0}

  at_field : (line : ℕ) (name : Bor (List ℕ)) (t : GivenTree NodeTree) → item ps (tree_item.Field line name t) ≡ item_step ps (ItemTree-F.Field line name (mapped t))
  at_field line name tree.Nothing = ap (item ps) (sym (tree_item.rolls-Field line name tree.Nothing)) ∙ fold-roll-ItemTree Item Node (item_step ps) (node_step ps) (ItemTree-F.Field line name tree.Nothing)
  at_field line name (tree.Is n) = ap (item ps) (sym (tree_item.rolls-Field line name (tree.Is n))) ∙ fold-roll-ItemTree Item Node (item_step ps) (node_step ps) (ItemTree-F.Field line name (tree.Is n))
  at_field line name (tree.Plain v) = ap (item ps) (sym (tree_item.rolls-Field line name (tree.Plain v))) ∙ fold-roll-ItemTree Item Node (item_step ps) (node_step ps) (ItemTree-F.Field line name (tree.Plain v))
  at_field line name (tree.One n) = ap (item ps) (sym (tree_item.rolls-Field line name (tree.One n))) ∙ fold-roll-ItemTree Item Node (item_step ps) (node_step ps) (ItemTree-F.Field line name (tree.One n))
  at_field line name (tree.Many c ns) = ap (item ps) (sym (tree_item.rolls-Field line name (tree.Many c ns))) ∙ fold-roll-ItemTree Item Node (item_step ps) (node_step ps) (ItemTree-F.Field line name (tree.Many c ns))
  at_field line name (tree.LeftOut x) = ap (item ps) (sym (tree_item.rolls-Field line name (tree.LeftOut x))) ∙ fold-roll-ItemTree Item Node (item_step ps) (node_step ps) (ItemTree-F.Field line name (tree.LeftOut x))

  at_declaration : (d : Bor (Declaration NodeText)) (t : GivenTree NodeTree) → item ps (tree_item.Declaration d t) ≡ item_step ps (ItemTree-F.Declaration d (mapped t))
  at_declaration d tree.Nothing = ap (item ps) (sym (tree_item.rolls-Declaration d tree.Nothing)) ∙ fold-roll-ItemTree Item Node (item_step ps) (node_step ps) (ItemTree-F.Declaration d tree.Nothing)
  at_declaration d (tree.Is n) = ap (item ps) (sym (tree_item.rolls-Declaration d (tree.Is n))) ∙ fold-roll-ItemTree Item Node (item_step ps) (node_step ps) (ItemTree-F.Declaration d (tree.Is n))
  at_declaration d (tree.Plain v) = ap (item ps) (sym (tree_item.rolls-Declaration d (tree.Plain v))) ∙ fold-roll-ItemTree Item Node (item_step ps) (node_step ps) (ItemTree-F.Declaration d (tree.Plain v))
  at_declaration d (tree.One n) = ap (item ps) (sym (tree_item.rolls-Declaration d (tree.One n))) ∙ fold-roll-ItemTree Item Node (item_step ps) (node_step ps) (ItemTree-F.Declaration d (tree.One n))
  at_declaration d (tree.Many c ns) = ap (item ps) (sym (tree_item.rolls-Declaration d (tree.Many c ns))) ∙ fold-roll-ItemTree Item Node (item_step ps) (node_step ps) (ItemTree-F.Declaration d (tree.Many c ns))
  at_declaration d (tree.LeftOut x) = ap (item ps) (sym (tree_item.rolls-Declaration d (tree.LeftOut x))) ∙ fold-roll-ItemTree Item Node (item_step ps) (node_step ps) (ItemTree-F.Declaration d (tree.LeftOut x))

  at_route : (r : Bor RouteText) → item ps (tree_item.Route r) ≡ item_step ps (ItemTree-F.Route r)
  at_route r = ap (item ps) (sym (tree_item.rolls-Route r)) ∙ fold-roll-ItemTree Item Node (item_step ps) (node_step ps) (ItemTree-F.Route r)

  at_wrong : (e : ExpandFault) → item ps (tree_item.Wrong e) ≡ item_step ps (ItemTree-F.Wrong e)
  at_wrong e = ap (item ps) (sym (tree_item.rolls-Wrong e)) ∙ fold-roll-ItemTree Item Node (item_step ps) (node_step ps) (ItemTree-F.Wrong e)

  field_at : (taken : Option Names) (s : Sight) (line : ℕ) (name : Bor (List ℕ)) (g : Given Node) (t : GivenTree Node) (r : Seen) → GivenSame (is_kept taken name.now) s g t r
      → ItemSame taken s (flat.item_step (BodyItem-F.Field line name.now g)) (item_step ps (ItemTree-F.Field line name t)) r
  unfolding flat.item_step item_step
  field_at taken s line name g t r h =
      record {
        sees = h.sees;
        does = λ b k. named_field s name.now (λ f. give line f (is_filled name.now b) g b) (λ f. gives line f (is_filled name.now b) t b) (refuse UnknownField line)
            (λ f e. h.does line f (is_filled name.now b) b (ap (λ o. is_kept o f.1.name) k ∙ ap (is_kept taken) e)) (λ w e. refl) 0 b.fields;
      }

  pub field_same : (taken : Option Names) (s : Sight) (line : ℕ) (name : Bor (List ℕ)) (g : Given NodeText) (t : GivenTree NodeTree) (r : Seen) → GivenSame (is_kept taken name.now) s (given_mapped flat.node g) (mapped t) r
      → ItemSame taken s (flat.item (text_item.Field line name.now g)) (item ps (tree_item.Field line name t)) r
  field_same taken s line name g t r h =
      by_items taken s r _ (flat.item_step (BodyItem-F.Field line name.now (given_mapped flat.node g))) _ (item_step ps (ItemTree-F.Field line name (mapped t)))
      (item-field line name.now g {h = given_mapped flat.node g} refl) (at_field line name t) (field_at taken s line name (given_mapped flat.node g) (mapped t) r h)

  declaration_at : (taken : Option Names) (s : Sight) (d : Bor (Declaration NodeText)) (t : GivenTree Node) (r : Seen) → GivenSame true s (given_mapped flat.node d.now.given) t r
      → ItemSame taken s (flat.item_step (BodyItem-F.Declaration (declaration_mapped flat.node d.now))) (item_step ps (ItemTree-F.Declaration d t)) r
  unfolding flat.item_step item_step
  declaration_at taken s d t r h =
      record {
        sees = h.sees;
        does = λ b k. same_when s (is_script b.owner)
            (give d.now.line (length b.fields, field d.now) (is_some (numbered_from 0 d.now.name b.fields)) (given_mapped flat.node d.now.given) (record b { fields = b.fields ++ field d.now ∷ [] }))
            (gives d.now.line (length b.fields, field d.now) (is_some (numbered_from 0 d.now.name b.fields)) t (record b { fields = b.fields ++ field d.now ∷ [] }))
            (refuse UnknownField d.now.line) (refuse UnknownField d.now.line)
            (λ e. h.does d.now.line (length b.fields, field d.now) (is_some (numbered_from 0 d.now.name b.fields)) (record b { fields = b.fields ++ field d.now ∷ [] }) (owner_kept b.owner d.now.name e)) (λ w e. refl);
      }

  pub declaration_same : (taken : Option Names) (s : Sight) (d : Bor (Declaration NodeText)) (t : GivenTree NodeTree) (r : Seen) → GivenSame true s (given_mapped flat.node d.now.given) (mapped t) r
      → ItemSame taken s (flat.item (text_item.Declaration d.now)) (item ps (tree_item.Declaration d t)) r
  declaration_same taken s d t r h =
      by_items taken s r _ (flat.item_step (BodyItem-F.Declaration (declaration_mapped flat.node d.now))) _ (item_step ps (ItemTree-F.Declaration d (mapped t)))
      (item-declaration d.now {h = declaration_mapped flat.node d.now} refl) (at_declaration d t) (declaration_at taken s d (mapped t) r h)

  route_at : (taken : Option Names) (s : Sight) (route : Bor RouteText) → ItemSame taken s (flat.item_step (BodyItem-F.BodyItem::Route route.now)) (item_step ps (ItemTree-F.Route route)) (Ok s)
  unfolding flat.item_step item_step
  route_at taken s route = record { sees = refl; does = λ b k w e. refl }

  pub route_same : (taken : Option Names) (s : Sight) (route : Bor RouteText) → ItemSame taken s (flat.item (text_item.Route route.now)) (item ps (tree_item.Route route)) (Ok s)
  route_same taken s route = by_items taken s (Ok s) _ (flat.item_step (BodyItem-F.BodyItem::Route route.now)) _ (item_step ps (ItemTree-F.Route route)) (item-route route.now) (at_route route) (route_at taken s route)

  wrong_at : (taken : Option Names) (s : Sight) (p : ProtoText) (e : ExpandFault) → (flat.proto p).sees s ≡ Err e → ItemSame taken s (proto_item p) (item_step ps (ItemTree-F.Wrong e)) (Err e)
  unfolding item_step
  wrong_at taken s p e h =
      record {
        sees = proto_item_sees taken p s ∙ h;
        does = λ b k. subst (λ (d : Does Inside). Same s d (λ w. flat.comes (Err e))) (sym (proto_item_does p b))
            (same_wrong (flat.proto p).sees (λ _. pure b) (λ w. flat.comes (Err e)) s e (every_proto p).free (ap bared h) (λ v. refl));
      }

  pub wrong_same : (taken : Option Names) (s : Sight) (p : ProtoText) (e : ExpandFault) → (flat.proto p).sees s ≡ Err e → ItemSame taken s (flat.item (text_item.Proto p)) (item ps (tree_item.Wrong e)) (Err e)
  wrong_same taken s p e h = by_items taken s (Err e) _ (proto_item p) _ (item_step ps (ItemTree-F.Wrong e)) (item-proto p {q = flat.proto p} refl) (at_wrong e) (wrong_at taken s p e h)

-- ---- nodes

by_nodes : (s : Sight) (r : Seen) (m m' n n' : Node) → m ≡ m' → n ≡ n' → NodeSame s m' n' r → NodeSame s m n r
by_nodes s r m m' n n' e f h = subst (λ (x : Node). NodeSame s x n r) (sym e) (subst (λ (y : Node). NodeSame s m' y r) (sym f) h)

used_same : (line : ℕ) (o : Option ℕ) (w : Walk) → option_map_or pure o (refuse UseWithoutDef line) (hide w) ≡ hidden (option_map_or pure o (refuse UseWithoutDef line) w)
used_same line None w = refl
used_same line (Some n) w = refl

use_at : (s : Sight) (line : ℕ) (name : Name) → NodeSame s (flat.node_step (NodeText-F.Use line name)) (flat.node_step (NodeText-F.Use line name)) (Ok s)
unfolding flat.node_step
use_at s line name = record { sees = refl; does = λ w e. ap (behind (AnItem ∷ [])) (used_same line (used name w.scope.braces) w) }

twice_same : (s : Sight) (seen : List Name) (fs : List Field) → Same s (unless_twice seen fs) (unless_twice seen fs)
twice_same s seen [] = λ w e. refl
twice_same s seen (f ∷ fs) = same_if s (is_one f.name seen) (refuse FieldTwice f.line) (refuse FieldTwice f.line) (unless_twice (f.name ∷ seen) fs) (unless_twice (f.name ∷ seen) fs) (λ w e. refl) (twice_same s (f.name ∷ seen) fs)

twice_follows : (seen : List Name) (fs : List Field) → Follows Any (unless_twice seen fs) still
twice_follows seen [] w = (tt, refl)
twice_follows seen (f ∷ fs) w = by_test (is_one f.name seen) (twice_follows (f.name ∷ seen) fs w) where
  by_test : (b : Bool) → After Any (unless_twice (f.name ∷ seen) fs w).comes (Ok w.sight) → After Any ((if b then refuse FieldTwice f.line else unless_twice (f.name ∷ seen) fs) w).comes (Ok w.sight)
  by_test true h = tt
  by_test false h = h

inside_same : (s : Sight) (name : Option Name) (o : Owner) (fields : List Field) (ms ns : List Item) → ((b : Inside) → taken_by (Some b.owner) ≡ taken_by (Some o) → Same s (all_do ms b) (all_do ns b)) → Same s (inside name o fields ms) (inside name o fields ns)
inside_same s name o fields ms ns h =
    same_first Any (λ w. note (length w.scope.braces) (λ c. record c { braces = c.braces ++ record { name = name; stands = None } ∷ [] }) w) (λ w. note (length w.scope.braces) (λ c. record c { braces = c.braces ++ record { name = name; stands = None } ∷ [] }) w)
    (λ at. all_do ms (record { at = at; owner = o; fields = fields; filled = [] })) (λ at. all_do ns (record { at = at; owner = o; fields = fields; filled = [] })) s (λ w. (tt, refl)) (λ w e. refl)
    (λ at _. h (record { at = at; owner = o; fields = fields; filled = [] }) refl)

made_same : (name : Option Name) (p : Prototype) (i : Inside) (w : Walk) (met : List Met) (c : Result Instance ExpandFault)
    → follow met c (λ made. close name i.at (record { node = made.node; interface = Some p.interface; ends = made.ends }) (record made.put { nodes = renamed name made.node made.put.nodes }) (record (hide w) { scope = record w.scope { routes = λ all. w.scope.routes all ++ made.routes } }))
    ≡ hidden (follow met c (λ made. close name i.at (record { node = made.node; interface = Some p.interface; ends = made.ends }) (record made.put { nodes = renamed name made.node made.put.nodes }) (record w { scope = record w.scope { routes = λ all. w.scope.routes all ++ made.routes } })))
made_same name p i w met (Ok made) = refl
made_same name p i w met (Err e) = refl

full_same_at : (s : Sight) (line : ℕ) (name : Option Name) (o : Option Owner) (ms ns : List Item) → ((b : Inside) → taken_by (Some b.owner) ≡ taken_by o → Same s (all_do ms b) (all_do ns b)) → Same s (full_node line name ms o) (full_node line name ns o)
full_same_at s line name None ms ns h = λ w e. refl
full_same_at s line name (Some (OfType t)) ms ns h =
    same_first Any (meet ANode) (meet ANode) (λ _. inside name (OfType t) (fields_of t) ms >>= λ i. close_node name i.at (flat_node line name t i)) (λ _. inside name (OfType t) (fields_of t) ns >>= λ i. close_node name i.at (flat_node line name t i)) s (λ w. (tt, refl)) (λ w e. refl)
    (λ _ _. same_last (inside name (OfType t) (fields_of t) ms) (inside name (OfType t) (fields_of t) ns) (λ i. close_node name i.at (flat_node line name t i)) (λ i. close_node name i.at (flat_node line name t i)) s (inside_same s name (OfType t) (fields_of t) ms ns h) (λ i w. refl))
full_same_at s line name (Some (OfProto p)) ms ns h =
    same_first Any (meet AnInstance) (meet AnInstance) (λ _. unless_twice [] p.interface >>= λ _. inside name (OfProto p) p.interface ms >>= close_instance name p) (λ _. unless_twice [] p.interface >>= λ _. inside name (OfProto p) p.interface ns >>= close_instance name p) s (λ w. (tt, refl)) (λ w e. refl)
    (λ _ _. same_first Any (unless_twice [] p.interface) (unless_twice [] p.interface) (λ _. inside name (OfProto p) p.interface ms >>= close_instance name p) (λ _. inside name (OfProto p) p.interface ns >>= close_instance name p) s (twice_follows [] p.interface) (twice_same s [] p.interface)
    (λ _ _. same_last (inside name (OfProto p) p.interface ms) (inside name (OfProto p) p.interface ns) (close_instance name p) (close_instance name p) s (inside_same s name (OfProto p) p.interface ms ns h)
    (λ i w. made_same name p i w (p.instance i.filled w.put).met (p.instance i.filled w.put).comes)))

module _ (ps : List Prototype) where
  at_use : (line : ℕ) (name : Bor (List ℕ)) → node ps (tree_node.Use line name) ≡ flat.node_step (NodeText-F.Use line name.now)
  unfolding node_step
  at_use line name = ap (node ps) (sym (tree_node.rolls-Use line name)) ∙ fold-roll-NodeTree Item Node (item_step ps) (node_step ps) (NodeTree-F.Use line name)

  at_full : (line : ℕ) (name : Bor (Option (List ℕ))) (w : Word) (ts : List ItemTree) → node ps (tree_node.Full line name w ts) ≡ node_step ps (NodeTree-F.Full line name w (map (item ps) ts))
  at_full line name w ts = ap (node ps) (sym (tree_node.rolls-Full line name w ts)) ∙ fold-roll-NodeTree Item Node (item_step ps) (node_step ps) (NodeTree-F.Full line name w ts)

  pub use_same : (s : Sight) (line : ℕ) (name : Bor (List ℕ)) → NodeSame s (flat.node (text_node.Use line name.now)) (node ps (tree_node.Use line name)) (Ok s)
  use_same s line name = by_nodes s (Ok s) _ (flat.node_step (NodeText-F.Use line name.now)) _ (flat.node_step (NodeText-F.Use line name.now)) (node-use line name.now) (at_use line name) (use_at s line name.now)

  full_at : (s : Sight) (line : ℕ) (name : Bor (Option (List ℕ))) (word : Name) (w : Word) (ms ns : List Item) (r : Seen) → meant word s ≡ owner ps w → ItemsSame (taken_by (meant word s)) s ms ns r
      → NodeSame s (flat.node_step (NodeText-F.Full line name.now word ms)) (node_step ps (NodeTree-F.Full line name w ns)) r
  unfolding flat.node_step node_step
  full_at s line name word w ms ns r means h =
      record {
        sees = h.sees;
        does = λ v e. subst (λ o. full_node line name.now ns (owner ps w) (hide v) ≡ hidden (full_node line name.now ms o v)) (sym (ap (meant word) e))
            (subst (λ o. full_node line name.now ns o (hide v) ≡ hidden (full_node line name.now ms (meant word s) v)) means (full_same_at s line name.now (meant word s) ms ns h.does v e));
      }

  pub full_same : (s : Sight) (line : ℕ) (name : Bor (Option (List ℕ))) (word : Name) (w : Word) (is : List BodyItem) (ts : List ItemTree) (r : Seen) → meant word s ≡ owner ps w
      → ItemsSame (taken_by (meant word s)) s (map flat.item is) (map (item ps) ts) r → NodeSame s (flat.node (text_node.Full line name.now word is)) (node ps (tree_node.Full line name w ts)) r
  full_same s line name word w is ts r means h =
      by_nodes s r _ (flat.node_step (NodeText-F.Full line name.now word (map flat.item is))) _ (node_step ps (NodeTree-F.Full line name w (map (item ps) ts)))
      (node-full line name.now word is {ps = map flat.item is} refl) (at_full line name w ts) (full_at s line name word w (map flat.item is) (map (item ps) ts) r means h)
