-- Fields, declarations and nodes come to the same with other values where no IS takes them.
use Rattle.std.proofs.Common.{◌≡◌, ℕ, Bool, true, false, if◌then◌else◌, List, [], ◌∷◌, ◌++◌, length, Option, Some, None, Result, Ok, Err, map, refl, ap, sym, ◌∙◌, subst}
use Rattle.std.specs.Prelude.{◌&&◌, not, is_some}
use Rattle.std.specs.List.{AllByRecursion}
use Rattle.std.specs.Str.{bytes_eq}
use Rattle.classic_tree.specs.declared.tree.BodyItem.{BodyItem}
use Rattle.classic_tree.specs.declared.tree.BodyItem.TheOpen.{BodyItem-F, NodeText-F}
use Rattle.classic_tree.specs.declared.tree.BodyItem.TheVariants as item_text
use Rattle.classic_tree.specs.declared.tree.Declaration.{Declaration}
use Rattle.classic_tree.specs.declared.tree.Given.{Given}
use Rattle.classic_tree.specs.declared.tree.Given.TheVariants as given
use Rattle.classic_tree.specs.declared.tree.NodeText.{NodeText}
use Rattle.classic_tree.specs.declared.tree.NodeText.TheVariants as node_text
use Rattle.classic_tree.specs.declared.tree.ProtoText.{ProtoText}
use Rattle.classic_tree.specs.declared.tree.RawValue.{RawValue}
use Rattle.classic_tree.specs.declared.tree.RawValue.TheVariants as value
use Rattle.classic_tree.specs.declared.tree.RouteText.{RouteText}
use Rattle.classic_tree.proofs.Mapped.{given_mapped, declaration_mapped}
use Rattle.proto_flat.specs.declared.fault.ExpandFault.{ExpandFault}
use Rattle.proto_flat.specs.declared.fault.ExpandFaultKind.TheVariants.{UnknownField, FieldTwice}
use Rattle.proto_meaning.specs.Limits.{ANode, AnInstance, behind}
use Rattle.proto_meaning.specs.Names.{Name, Field}
use Rattle.proto_meaning.specs.Sight.{Sight, Look, Names, each, aside, nodes_in, Owner, OfType, OfProto, meant, taken_by, is_kept}
use Rattle.proto_meaning.specs.Flat.{Walk, Does, ◌>>=◌, pure, refuse, Node, Item, Proto, Inside, given_sees, give, numbered_from, is_filled, is_script, field, fields_of, inside, close_node, flat_node, close_instance, is_one, unless_twice, full_node, item_step, node_step}
use Rattle.proto_meaning.specs.Flat.{item as item_part, node as node_part, proto as proto_part}
use Rattle.proto_meaning.proofs.Trees.{item-field, item-declaration, item-route, item-proto, node-use, node-full}
use Rattle.proto_meaning.proofs.Induction.{OfGiven, OfDeclaration}
use Rattle.proto_meaning.proofs.SightLaw.{Seen, After, Follows, Any, Owned, GoodNode, GoodItem, GoodProto, still, still_free, field_good, declaration_good, route_good, proto_item_good}
use Rattle.proto_meaning.proofs.SightNodes.{use_good, full_good}
use Rattle.laws_documents.specs.Untaken.{Change, KeepsDeclarations, ItemAt, in_turn, declaration_at, unless_kept, item_at, node_at, prototype_at}
use Rattle.laws_documents.proofs.Same.{Alike, AllSteady, Steady, through_same, each_same, steady_in_turn, finds_in_turn, then_same, same_then}
use Rattle.laws_documents.proofs.UntakenGiven.{SameGiven, seen_given, aside_given, DeclaresSame, give_same, give_left, raw_in, InOption, named_from, option_at, never}
use Rattle.laws_documents.proofs.UntakenTexts.{at-field, at-declaration, at-item-route, at-item-proto, at-use, at-full}
use Rattle.laws_documents.proofs.UntakenValues.{SameNode, SameItem, SameProto, OfNode, OfItem, given_then, given_steady, given_found, changed, changed_declares, changed_found}

module _ (change : Change) (keeps : KeepsDeclarations change) where
  -- ---- items between braces

  abbrev field_of : ℕ → Name → Given NodeText → Item
  field_of line name g = item_step (BodyItem-F.Field line name (given_mapped node_part g))

  kept_seen : (b : Bool) (s : Sight) (g h : Given Node) → SameGiven s g h → (t : Sight) → Alike s t → (if b then given_sees h else aside (given_sees h)) t ≡ (if b then given_sees g else aside (given_sees g)) t
  kept_seen true s g h same t e = seen_given s g h same t e
  kept_seen false s g h same t e = aside_given s g h same t e

  field_same : (line : ℕ) (name : Name) (g : Given NodeText) → OfGiven (OfNode change keeps) g → (taken : Option Names) (s : Sight) → SameItem taken s (field_of line name g) (field_of line name (given_then change keeps g s))
  unfolding item_step
  field_same line name g h taken s =
      record {
        finds = given_found change keeps g h s;
        seen = kept_seen (is_kept taken name) s (given_mapped node_part g) (given_mapped node_part (given_then change keeps g s)) (given_steady change keeps g h s);
        done = λ b _ w e. option_at (λ _. Unit {0}) (numbered_from 0 name b.fields)
            (λ f. give line f (is_filled name b) (given_mapped node_part (given_then change keeps g s)) b) (λ f. give line f (is_filled name b) (given_mapped node_part g) b) (refuse UnknownField line) w
            (always (numbered_from 0 name b.fields)) (λ f _. give_same s line f (is_filled name b) (given_mapped node_part g) (given_mapped node_part (given_then change keeps g s)) b (given_steady change keeps g h s) w e);
      } where
        always : {X : Type 0} (o : Option X) → InOption (λ _. Unit {0}) o
        always None = tt
        always (Some x) = tt

  unkept_seen : (b : Bool) (g h : Given Node) → b ≡ false → DeclaresSame g h → (t : Sight) → (if b then given_sees h else aside (given_sees h)) t ≡ (if b then given_sees g else aside (given_sees g)) t
  unkept_seen true g h is same t = never is
  unkept_seen false g h is same t = same t

  -- where these braces don't take the field
  left_field : (line : ℕ) (name : Name) (v : RawValue NodeText) (taken : Option Names) (s : Sight) → is_kept taken name ≡ false → SameItem taken s (field_of line name (given.Value v)) (field_of line name (changed change keeps line name v))
  unfolding item_step
  left_field line name v taken s is =
      record {
        finds = changed_found change keeps line name v;
        seen = λ t e. unkept_seen (is_kept taken name) (given_mapped node_part (given.Value v)) (given_mapped node_part (changed change keeps line name v)) is (changed_declares change keeps line name v) t;
        done = λ b takes w e. option_at (λ (f : ℕ × Field). f.1.name ≡ name) (numbered_from 0 name b.fields)
            (λ f. give line f (is_filled name b) (given_mapped node_part (changed change keeps line name v)) b) (λ f. give line f (is_filled name b) (given_mapped node_part (given.Value v)) b) (refuse UnknownField line) w
            (named_from 0 name b.fields)
            (λ f named. given_left f (is_filled name b) b (ap (λ x. is_kept (taken_by (Some b.owner)) x) named ∙ ap (λ o. is_kept o name) takes ∙ is) w);
      } where
        given_left : (f : ℕ × Field) (twice : Bool) (b : Inside) → is_kept (taken_by (Some b.owner)) f.1.name ≡ false → (w : Walk)
            → give line f twice (given_mapped node_part (changed change keeps line name v)) b w ≡ give line f twice (given_mapped node_part (given.Value v)) b w
        given_left f twice b unkept w = give_left line f twice (raw_in (given_mapped node_part (given.Value v))) (raw_in (given_mapped node_part (changed change keeps line name v))) b unkept (changed_declares change keeps line name v) w

  -- ---- one after the other

  same_item : (taken : Option Names) (s : Sight) (m : Item) → SameItem taken s m m
  same_item taken s m = record { finds = λ own free hidden. refl; seen = λ t e. refl; done = λ b o w e. refl }

  item_then : (taken : Option Names) (s : Sight) (l m n : Item) → SameItem taken s l m → SameItem taken s m n → SameItem taken s l n
  item_then taken s l m n h k =
      record {
        finds = λ own free hidden. k.finds own free hidden ∙ h.finds own free hidden;
        seen = λ t e. k.seen t e ∙ h.seen t e;
        done = λ b o w e. k.done b o w e ∙ h.done b o w e;
      }

  item_by : (taken : Option Names) (s : Sight) (l m n o : Item) → l ≡ m → o ≡ n → SameItem taken s m n → SameItem taken s l o
  item_by taken s l m n o e f h = subst (λ x. SameItem taken s x o) (sym e) (subst (λ x. SameItem taken s m x) (sym f) h)

  unless : (b : Bool) (line : ℕ) (name : Name) (taken : Option Names) (s : Sight) (g : Given NodeText) → is_kept taken name ≡ b → SameItem taken s (field_of line name g) (field_of line name (unless_kept change b line name g))
  unless true line name taken s g is = same_item taken s (field_of line name g)
  unless false line name taken s given.Nothing is = same_item taken s (field_of line name given.Nothing)
  unless false line name taken s (given.Is a) is = same_item taken s (field_of line name (given.Is a))
  unless false line name taken s (given.Value v) is = left_field line name v taken s is

  -- ---- the layers of items

  nodes_good : (ns : List NodeText) → AllByRecursion (OfNode change keeps) ns → AllByRecursion GoodNode (map node_part ns)
  nodes_good [] h = tt
  nodes_good (n ∷ ns) h = (h.0.0, nodes_good ns h.1)

  pub given_good : (g : Given NodeText) → OfGiven (OfNode change keeps) g → AllByRecursion GoodNode (nodes_in (given_mapped node_part g))
  given_good given.Nothing h = tt
  given_good (given.Value value.Null) h = tt
  given_good (given.Value (value.Truth truth)) h = tt
  given_good (given.Value (value.String text)) h = tt
  given_good (given.Value (value.Numbers numbers)) h = tt
  given_good (given.Value (value.Node n)) h = (h.0, tt)
  given_good (given.Value value.EmptyList) h = tt
  given_good (given.Value (value.TruthList truths)) h = tt
  given_good (given.Value (value.StringList texts)) h = tt
  given_good (given.Value (value.NumberList numbers)) h = tt
  given_good (given.Value (value.NodeList ns)) h = nodes_good ns h
  given_good (given.Is name) h = tt

  pub field_layer : (line : ℕ) (name : List ℕ) (g : Given NodeText) → OfGiven (OfNode change keeps) g → OfItem change keeps (item_text.Field line name g)
  field_layer line name g h = (
    subst GoodItem (sym (item-field line name g {h = given_mapped node_part g} refl)) (field_good line name (given_mapped node_part g) (given_good g h)),
    λ taken s. item_by taken s _ (field_of line name g) (field_of line name (unless_kept change (is_kept taken name) line name (given_then change keeps g s))) _
        (item-field line name g refl)
        (ap item_part (at-field change line name g taken s) ∙ item-field line name (unless_kept change (is_kept taken name) line name (given_then change keeps g s)) refl)
        (item_then taken s (field_of line name g) (field_of line name (given_then change keeps g s)) (field_of line name (unless_kept change (is_kept taken name) line name (given_then change keeps g s)))
        (field_same line name g h taken s) (unless (is_kept taken name) line name taken s (given_then change keeps g s) refl)),
  )

  abbrev declaration_of : Declaration NodeText → Item
  declaration_of d = item_step (BodyItem-F.Declaration (declaration_mapped node_part d))

  declaration_same : (d : Declaration NodeText) → OfDeclaration (OfNode change keeps) d → (taken : Option Names) (s : Sight) → SameItem taken s (declaration_of d) (declaration_of (declaration_at (declaration_mapped (node_at change) d) s))
  unfolding item_step
  declaration_same d h taken s =
      record {
        finds = given_found change keeps d.given h s;
        seen = seen_given s (given_mapped node_part d.given) (given_mapped node_part (given_then change keeps d.given s)) (given_steady change keeps d.given h s);
        done = λ b _ w e. script_at (is_script b.owner) _ _ (refuse UnknownField d.line) w
            (give_same s d.line (length b.fields, field d) (is_some (numbered_from 0 d.name b.fields)) (given_mapped node_part d.given) (given_mapped node_part (given_then change keeps d.given s)) (record b { fields = b.fields ++ field d ∷ [] }) (given_steady change keeps d.given h s) w e);
      } where
        script_at : {A : Type 0} (b : Bool) (m n o : Does A) (w : Walk) → n w ≡ m w → (if b then n else o) w ≡ (if b then m else o) w
        script_at true m n o w e = e
        script_at false m n o w e = refl

  pub declaration_layer : (d : Declaration NodeText) → OfDeclaration (OfNode change keeps) d → OfItem change keeps (item_text.Declaration d)
  declaration_layer d h = (
    subst GoodItem (sym (item-declaration d {h = declaration_mapped node_part d} refl)) (declaration_good (declaration_mapped node_part d) (given_good d.given h)),
    λ taken s. item_by taken s _ (declaration_of d) (declaration_of (declaration_at (declaration_mapped (node_at change) d) s)) _
        (item-declaration d refl) (ap item_part (at-declaration change d taken s) ∙ item-declaration (declaration_at (declaration_mapped (node_at change) d) s) refl)
        (declaration_same d h taken s),
  )

  pub item_route_layer : (r : RouteText) → OfItem change keeps (item_text.Route r)
  item_route_layer r = (
    subst GoodItem (sym (item-route r)) (route_good r),
    λ taken s. item_by taken s _ (item_part (item_text.Route r)) (item_part (item_text.Route r)) _ refl (ap item_part (at-item-route change r taken s)) (same_item taken s (item_part (item_text.Route r))),
  )

  inside_proto : (taken : Option Names) (s : Sight) (m n : Proto) → SameProto s m n → SameItem taken s (item_step (BodyItem-F.BodyItem::Proto m)) (item_step (BodyItem-F.BodyItem::Proto n))
  unfolding item_step
  inside_proto taken s m n h = record { finds = h.finds; seen = h.seen; done = λ b _ w e. same_then m.does n.does (λ _. pure b) w (h.done w e) }

  pub item_proto_layer : (p : ProtoText) → GoodProto (proto_part p) → ((s : Sight) → SameProto s (proto_part p) (proto_part (prototype_at change p s))) → OfItem change keeps (item_text.Proto p)
  item_proto_layer p good h = (
    subst GoodItem (sym (item-proto p {q = proto_part p} refl)) (proto_item_good (proto_part p) good),
    λ taken s. item_by taken s _ (item_step (BodyItem-F.BodyItem::Proto (proto_part p))) (item_step (BodyItem-F.BodyItem::Proto (proto_part (prototype_at change p s)))) _
        (item-proto p refl) (ap item_part (at-item-proto change p taken s) ∙ item-proto (prototype_at change p s) refl)
        (inside_proto taken s (proto_part p) (proto_part (prototype_at change p s)) (h s)),
  )

  -- ---- nodes

  abbrev Takes : Option Names → Inside → Type 0
  Takes taken b = taken_by (Some b.owner) ≡ taken

  abbrev item_sees : Option Names → Item → Look
  item_sees taken i = i.sees taken

  abbrev item_does : Item → Inside → Does Inside
  item_does i = i.does

  abbrev SteadyItems : Option Names → Sight → List Item → List Item → Type 0
  SteadyItems taken = AllSteady (item_sees taken) item_does (Takes taken)

  owned_after : (taken : Option Names) (owner : Owner) → taken_by (Some owner) ≡ taken → (c : Result (Inside × Walk) ExpandFault) (r : Seen) → After (Owned owner) c r → After (Takes taken) c r
  owned_after taken owner e (Ok p) r h = (ap (λ o. taken_by (Some o)) h.0 ∙ e, h.1)
  owned_after taken owner e (Err x) r h = tt

  steady_item : (taken : Option Names) (i : BodyItem) → OfItem change keeps i → (s : Sight) → Steady (item_sees taken) item_does (Takes taken) s (item_part i) (item_part (item_at change i taken s))
  steady_item taken i h s =
      record {
        free = h.0.free taken;
        follows = λ b e w. owned_after taken b.owner e ((item_part i).does b w).comes ((item_part i).sees taken w.sight)
            (subst (λ o. After (Owned b.owner) ((item_part i).does b w).comes ((item_part i).sees o w.sight)) e (h.0.follows b w));
        seen = (h.1 taken s).seen;
        done = λ b e w k. (h.1 taken s).done b e w k;
      }

  steady_items : (taken : Option Names) (is : List BodyItem) → AllByRecursion (OfItem change keeps) is → (s : Sight)
      → SteadyItems taken s (map item_part is) (map item_part (in_turn (λ (i : ItemAt). i taken) (λ i. (item_part i).sees taken) (map (item_at change) is) s))
  steady_items taken is h s = steady_in_turn (item_sees taken) item_does (Takes taken) item_part (item_at change) (λ (i : ItemAt). i taken) (OfItem change keeps) (steady_item taken) is h s

  inside_same : (name : Option Name) (owner : Owner) (fields : List Field) (taken : Option Names) (s : Sight) (ms ns : List Item) → SteadyItems taken s ms ns → taken_by (Some owner) ≡ taken
      → (w : Walk) → Alike s w.sight → inside name owner fields ns w ≡ inside name owner fields ms w
  inside_same name owner fields taken s ms ns h e w a =
      ap (behind [])
      (through_same (item_sees taken) item_does (Takes taken) s ms ns h (record { at = length w.scope.braces; owner = owner; fields = fields; filled = [] }) e
      (record w { scope = record w.scope { braces = w.scope.braces ++ record { name = name; stands = None } ∷ [] } }) a)

  twice_follows : (seen : List Name) (fs : List Field) → Follows Any (unless_twice seen fs) still
  twice_follows seen [] w = (tt, refl)
  twice_follows seen (f ∷ fs) w = by_test (is_one f.name seen) (twice_follows (f.name ∷ seen) fs w) where
    by_test : (b : Bool) → After Any (unless_twice (f.name ∷ seen) fs w).comes (Ok w.sight) → After Any ((if b then refuse FieldTwice f.line else unless_twice (f.name ∷ seen) fs) w).comes (Ok w.sight)
    by_test true h = tt
    by_test false h = h

  full_same : (line : ℕ) (name : Option Name) (o : Option Owner) (taken : Option Names) (s : Sight) (ms ns : List Item) → SteadyItems taken s ms ns → taken_by o ≡ taken → (w : Walk) → Alike s w.sight → full_node line name ns o w ≡ full_node line name ms o w
  full_same line name None taken s ms ns h e w a = refl
  full_same line name (Some (OfType t)) taken s ms ns h e w a =
      ap (behind (ANode ∷ []))
      (same_then (inside name (OfType t) (fields_of t) ms) (inside name (OfType t) (fields_of t) ns) (λ i. close_node name i.at (flat_node line name t i)) w (inside_same name (OfType t) (fields_of t) taken s ms ns h e w a))
  full_same line name (Some (OfProto p)) taken s ms ns h e w a =
      ap (behind (AnInstance ∷ []))
      (then_same Any (unless_twice [] p.interface) (unless_twice [] p.interface) (λ _. inside name (OfProto p) p.interface ms >>= close_instance name p) (λ _. inside name (OfProto p) p.interface ns >>= close_instance name p) still s w a still_free (twice_follows [] p.interface) refl
      (λ _ _ v k. same_then (inside name (OfProto p) p.interface ms) (inside name (OfProto p) p.interface ns) (close_instance name p) v (inside_same name (OfProto p) p.interface taken s ms ns h e v k)))

  abbrev full_of : ℕ → Option Name → Name → List BodyItem → Node
  full_of line name word is = node_step (NodeText-F.Full line name word (map item_part is))

  abbrev there : Name → List BodyItem → Sight → List BodyItem
  there word is s = in_turn (λ (i : ItemAt). i (taken_by (meant word s))) (λ i. (item_part i).sees (taken_by (meant word s))) (map (item_at change) is) s

  full_node_same : (line : ℕ) (name : Option Name) (word : Name) (is : List BodyItem) → AllByRecursion (OfItem change keeps) is → (s : Sight)
      → SameNode s (full_of line name word is) (full_of line name word (there word is s))
  unfolding node_step
  full_node_same line name word is h s =
      record {
        finds = λ own free hidden. ap (λ r. if not hidden && bytes_eq word own then Err line else r)
            (finds_in_turn (λ (i : Item). i.finds own) (λ (i : BodyItem). (item_part i).sees (taken_by (meant word s))) item_part (item_at change) (λ (i : ItemAt). i (taken_by (meant word s))) (OfItem change keeps) (λ i k t b. (k.1 (taken_by (meant word s)) t).finds own free b) is h s hidden);
        seen = λ t e. subst (λ o. each (item_sees o) (map item_part (there word is s)) t ≡ each (item_sees o) (map item_part is) t) (sym (ap (λ x. taken_by (meant word x)) e))
            (each_same (item_sees (taken_by (meant word s))) item_does (Takes (taken_by (meant word s))) s (map item_part is) (map item_part (there word is s)) (steady_items (taken_by (meant word s)) is h s) t e);
        done = λ w e. full_same line name (meant word w.sight) (taken_by (meant word s)) s (map item_part is) (map item_part (there word is s)) (steady_items (taken_by (meant word s)) is h s) (ap (λ x. taken_by (meant word x)) e) w e;
      }

  node_by : (s : Sight) (l m n o : Node) → l ≡ m → o ≡ n → SameNode s m n → SameNode s l o
  node_by s l m n o e f h = subst (λ x. SameNode s x o) (sym e) (subst (λ x. SameNode s m x) (sym f) h)

  items_good : (is : List BodyItem) → AllByRecursion (OfItem change keeps) is → AllByRecursion GoodItem (map item_part is)
  items_good [] h = tt
  items_good (i ∷ is) h = (h.0.0, items_good is h.1)

  pub use_layer : (line : ℕ) (name : List ℕ) → OfNode change keeps (node_text.Use line name)
  use_layer line name = (
    subst GoodNode (sym (node-use line name)) (use_good line name),
    λ s. node_by s _ (node_part (node_text.Use line name)) (node_part (node_text.Use line name)) _ refl (ap node_part (at-use change line name s)) (record { finds = λ own free hidden. refl; seen = λ t e. refl; done = λ w e. refl }),
  )

  pub full_layer : (line : ℕ) (name : Option (List ℕ)) (word : List ℕ) (is : List BodyItem) → AllByRecursion (OfItem change keeps) is → OfNode change keeps (node_text.Full line name word is)
  full_layer line name word is h = (
    subst GoodNode (sym (node-full line name word is {ps = map item_part is} refl)) (full_good line name word (map item_part is) (items_good is h)),
    λ s. node_by s _ (full_of line name word is) _ _ (node-full line name word is refl)
        (ap node_part (at-full change line name word is s) ∙ node-full line name word (there word is s) refl)
        (full_node_same line name word is h s),
  )
