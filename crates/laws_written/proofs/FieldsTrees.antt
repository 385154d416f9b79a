-- What stands between the braces of what is written of nodes is what stands between those of the nodes that
-- get a number, in their order.
use Rattle.std.proofs.Common.{◌≡◌, ℕ, zero, suc, ◌<◌, ◌≤◌, Bool, true, false, not, if◌then◌else◌, ℤ, List, [], ◌∷◌, ◌++◌, length, map, Option, Some, None, slice_get, slice_set, refl, sym, ap, subst, ◌∙◌, arith, append_assoc, append-nil}
use Rattle.std.specs.Prelude.{slice_index_or}
use Rattle.std.specs.List.{AllByRecursion, flat_map, fold}
use Rattle.std.proofs.lemmas.Grind.{flat_map-append}
use Rattle.std.proofs.lemmas.List.{map-append}
use Rattle.std.proofs.lemmas.List.Sums.{fold-append}
use Rattle.x3d_values.specs.declared.node_type.NodeType.{NodeType}
use Rattle.x3d_values.specs.declared.value.Value.TheVariants as value
use Rattle.x3d_values.specs.Names.{node_type_name}
use Rattle.x3d_values.specs.Values.{nodes_of}
use Rattle.classic_tree.specs.declared.tree.BodyItem.{BodyItem}
use Rattle.classic_tree.specs.declared.tree.Given.TheVariants as given
use Rattle.classic_tree.specs.declared.tree.NodeText.{NodeText}
use Rattle.proto_flat.specs.declared.flat.FlatNode.{FlatNode}
use Rattle.laws_documents.specs.Signatures.{own_interface}
use Rattle.laws_documents.specs.Fields.{numbering}
use Rattle.laws_documents.specs.Shapes.{NodeShape, Shapes, in_node, in_value, item_shape, node_of}
use Rattle.laws_documents.proofs.ShapeParts.{all_fields, declared_shapes, in_full, in_use, shape-declaration, shape-field}
use Rattle.scene_core.specs.declared.numbering.Numbering.{Numbering}
use Rattle.scene_core.specs.declared.scene.SceneNode.{SceneNode}
use Rattle.scene_core.specs.Numbers.{appear, close}
use Rattle.scene_core.specs.Parts.{parts_of}
use Rattle.scene_core.specs.Scene.{label_of, type_at}
use Rattle.scene_core.specs.Tasks.{unopened}
use Rattle.scene_core.proofs.Fuel.{visit-new, visit-old}
use Rattle.scene_text.specs.Raw.{color_run, integer_run, number_list, number_run, pair_run, string_list, truth_list, vector_run}
use Rattle.scene_text.specs.Tree.{Declared, Makes, Plain, PlanView, Grows, def_name, each, field_tree, node_tree, one_more, opened, shown_fields, use_tree, value_tree}
use Rattle.scene_text.specs.Tree.{Shown as Field}
use Rattle.laws_written.proofs.NumberedLists.{length_set}
use Rattle.laws_written.proofs.NumberedScenes.{found}
use Rattle.laws_written.proofs.Visits.{full, unopened_few}
use Rattle.laws_written.specs.Writable.{IsShallow}
use Rattle.laws_written.proofs.OrderShown.{links}
use Rattle.laws_written.proofs.Plans.{Stand, all_split, begins, none_shallow, one, ones_are, shallow_low, type_is}
use Rattle.laws_written.proofs.FieldsItems.{node_shown}
use Rattle.laws_written.proofs.FieldsShown.{all_shown, all_signed}

-- ---- values without nodes

no_truths : (truths : List Bool) → in_value in_node (truth_list truths) ≡ []
no_truths [] = refl
no_truths (t ∷ ts) = refl

no_numbers : (numbers : List ℤ) → in_value in_node (number_list numbers) ≡ []
no_numbers [] = refl
no_numbers (n ∷ ns) = refl

no_texts : (texts : List (List ℕ)) → in_value in_node (string_list texts) ≡ []
no_texts [] = refl
no_texts (t ∷ ts) = refl

-- those inside an item
abbrev pub within : BodyItem → Shapes
within i = (item_shape i).inside

-- what stands between the braces of a node of that type with these fields
abbrev pub shape_of_shown : NodeType → List Field → NodeShape
shape_of_shown t fields =
    record { fields = all_shown (numbering (Some t) (all_signed fields)) fields; interface = own_interface t (all_signed fields) }

-- that is so of each node of a scene
abbrev pub TellsAll : PlanView → (ℕ → NodeShape) → Type 0
TellsAll p as_written =
    (n : ℕ) (node : SceneNode) → slice_get p.scene.nodes n ≡ Some node → shape_of_shown node.node_type (shown_fields p n node.node_type) ≡ as_written n

module _ (p : PlanView) (nodes : List FlatNode) (as_written : ℕ → NodeShape) where
  abbrev pub F : Numbering → ℕ → Numbering
  F = full nodes

  abbrev pub ended : Numbering → Shapes
  ended s = map as_written s.order

  -- what is made between two numberings has the shapes of the nodes that got a number
  pub record Closes {B : Type 0} (shapes_in : B → Shapes) (s v : Numbering) (m : Grows B) : Type 0 where
    pub seen : m.seen ≡ v.opened
    pub sized : length v.opened ≡ length nodes
    pub closed : ended v ≡ ended s ++ shapes_in m.made

  abbrev pub Making : {A B : Type 0} → (ℕ → Type 0) → (A → List ℕ) → (B → Shapes) → Makes A B → Type 0
  Making {A} {B} Q nodes_in shapes_in make =
      (s : Numbering) (x : A) → length s.opened ≡ length nodes → AllByRecursion Q (nodes_in x)
      → Closes shapes_in s (fold F s (nodes_in x)) (make s.opened x)

  none_made : {B : Type 0} (shapes_in : B → Shapes) (s : Numbering) (made : B) → length s.opened ≡ length nodes → shapes_in made ≡ []
      → Closes shapes_in s s (record { seen = s.opened; made = made })
  none_made shapes_in s made l e = record { seen = refl; sized = l; closed = sym (append-nil (ended s)) ∙ ap (λ (l : Shapes). ended s ++ l) (sym e) }

  -- ---- of each in turn

  module _ {A B : Type 0} (Q : ℕ → Type 0) (nodes_in : A → List ℕ) (shapes_in : B → Shapes) (make : Makes A B) (k : Making Q nodes_in shapes_in make) where
    one_more_made : (made : List B) (b : B) → flat_map shapes_in (made ++ b ∷ []) ≡ flat_map shapes_in made ++ shapes_in b
    one_more_made made b =
        flat_map-append shapes_in made (b ∷ []) ∙ ap (λ (l : Shapes). flat_map shapes_in made ++ l) (append-nil (shapes_in b))

    pub in_turn : (s0 s : Numbering) (made : List B) (xs : List A) → length s.opened ≡ length nodes → AllByRecursion Q (flat_map nodes_in xs)
        → ended s ≡ ended s0 ++ flat_map shapes_in made
        → Closes (flat_map shapes_in) s0 (fold F s (flat_map nodes_in xs)) (fold (one_more make) (begins s.opened made) xs)
    in_turn s0 s made [] l q e = record { seen = refl; sized = l; closed = e }
    in_turn s0 s made (x ∷ xs) l q e =
        let now : List ℕ = nodes_in x in
        let others : List ℕ = flat_map nodes_in xs in
        let s1 : Numbering = fold F s now in
        let b : B = (make s.opened x).made in
        let split = all_split Q now others q in
        let first = k s x l split.0 in
        let more : ended s1 ≡ ended s0 ++ flat_map shapes_in (made ++ b ∷ []) =
        first.closed
        ∙ (ap (λ (l : Shapes). l ++ shapes_in b) e
        ∙ (append_assoc (ended s0) (flat_map shapes_in made) (shapes_in b)
        ∙ ap (λ (l : Shapes). ended s0 ++ l) (sym (one_more_made made b)))) in
        let rest = in_turn s0 s1 (made ++ b ∷ []) xs first.sized split.1 more in
        subst (λ (v : Numbering). Closes (flat_map shapes_in) s0 v (fold (one_more make) (begins (make s.opened x).seen (made ++ b ∷ [])) xs)) (sym (fold-append F s now others))
        (subst (λ (seen : List Bool). Closes (flat_map shapes_in) s0 (fold F s1 others) (fold (one_more make) (begins seen (made ++ b ∷ [])) xs)) (sym first.seen) rest)

    pub all_in_turn : (s : Numbering) (xs : List A) → length s.opened ≡ length nodes → AllByRecursion Q (flat_map nodes_in xs)
        → Closes (flat_map shapes_in) s (fold F s (flat_map nodes_in xs)) (each make s.opened xs)
    all_in_turn s xs l q = in_turn s s [] xs l q (sym (append-nil (ended s)))

  module _ {B : Type 0} (Q : ℕ → Type 0) (shapes_in : B → Shapes) (make : Makes ℕ B) (k : Making Q one shapes_in make) where
    pub nodes_in_turn : (s : Numbering) (ns : List ℕ) → length s.opened ≡ length nodes → AllByRecursion Q ns
        → Closes (flat_map shapes_in) s (fold F s ns) (each make s.opened ns)
    nodes_in_turn s ns l q =
        subst (λ (l : List ℕ). Closes (flat_map shapes_in) s (fold F s l) (each make s.opened ns)) (ones_are ns)
        (all_in_turn Q one shapes_in make k s ns l (subst (AllByRecursion Q) (sym (ones_are ns)) q))

  -- ---- fields

  module _ (Q : ℕ → Type 0) (tree : Makes ℕ NodeText) (k : Making Q one in_node tree) where
    value_shapes : Making Q nodes_of (in_value in_node) (value_tree tree)
    value_shapes s (value.SFNode (Some n)) l q = let c = k s n l q in record { seen = c.seen; sized = c.sized; closed = c.closed }
    value_shapes s (value.MFNode []) l q = none_made (in_value in_node) s (value_tree tree s.opened (value.MFNode [])).made l refl
    value_shapes s (value.MFNode (n ∷ ns)) l q =
        let c = nodes_in_turn Q in_node tree k s (n ∷ ns) l q in record { seen = c.seen; sized = c.sized; closed = c.closed }
    value_shapes s (value.SFNode None) l q = none_made (in_value in_node) s (value_tree tree s.opened (value.SFNode None)).made l refl
    value_shapes s (value.SFBool v) l q = none_made (in_value in_node) s (value_tree tree s.opened (value.SFBool v)).made l refl
    value_shapes s (value.SFInt32 v) l q = none_made (in_value in_node) s (value_tree tree s.opened (value.SFInt32 v)).made l refl
    value_shapes s (value.SFFloat v) l q = none_made (in_value in_node) s (value_tree tree s.opened (value.SFFloat v)).made l refl
    value_shapes s (value.SFTime v) l q = none_made (in_value in_node) s (value_tree tree s.opened (value.SFTime v)).made l refl
    value_shapes s (value.SFString v) l q = none_made (in_value in_node) s (value_tree tree s.opened (value.SFString v)).made l refl
    value_shapes s (value.SFVec2f v) l q = none_made (in_value in_node) s (value_tree tree s.opened (value.SFVec2f v)).made l refl
    value_shapes s (value.SFVec3f v) l q = none_made (in_value in_node) s (value_tree tree s.opened (value.SFVec3f v)).made l refl
    value_shapes s (value.SFColor v) l q = none_made (in_value in_node) s (value_tree tree s.opened (value.SFColor v)).made l refl
    value_shapes s (value.MFBool v) l q = none_made (in_value in_node) s (value_tree tree s.opened (value.MFBool v)).made l (no_truths v)
    value_shapes s (value.MFInt32 v) l q = none_made (in_value in_node) s (value_tree tree s.opened (value.MFInt32 v)).made l (no_numbers (flat_map integer_run v))
    value_shapes s (value.MFFloat v) l q = none_made (in_value in_node) s (value_tree tree s.opened (value.MFFloat v)).made l (no_numbers (flat_map number_run v))
    value_shapes s (value.MFTime v) l q = none_made (in_value in_node) s (value_tree tree s.opened (value.MFTime v)).made l (no_numbers (flat_map number_run v))
    value_shapes s (value.MFString v) l q = none_made (in_value in_node) s (value_tree tree s.opened (value.MFString v)).made l (no_texts v)
    value_shapes s (value.MFVec2f v) l q = none_made (in_value in_node) s (value_tree tree s.opened (value.MFVec2f v)).made l (no_numbers (flat_map pair_run v))
    value_shapes s (value.MFVec3f v) l q = none_made (in_value in_node) s (value_tree tree s.opened (value.MFVec3f v)).made l (no_numbers (flat_map vector_run v))
    value_shapes s (value.MFColor v) l q = none_made (in_value in_node) s (value_tree tree s.opened (value.MFColor v)).made l (no_numbers (flat_map color_run v))

    field_shapes : Making Q links within (field_tree tree)
    field_shapes s (Plain name v) l q =
        let m = value_tree tree s.opened v in
        let c = value_shapes s v l q in
        record {
          seen = c.seen;
          sized = c.sized;
          closed = c.closed ∙ ap (λ (l : Shapes). ended s ++ l) (sym (shape-field 0 name (given.Value m.made)).has_inside);
        }
    field_shapes s (Declared d None) l q =
        none_made within s (field_tree tree s.opened (Declared d None)).made l
        (shape-declaration (record { line = 0; access = d.access; field_type = d.field_type; name = d.name; given = given.Nothing })).has_inside
    field_shapes s (Declared d (Some v)) l q =
        let m = value_tree tree s.opened v in
        let c = value_shapes s v l q in
        record {
          seen = c.seen;
          sized = c.sized;
          closed = c.closed
              ∙ ap (λ (l : Shapes). ended s ++ l)
              (sym (shape-declaration (record { line = 0; access = d.access; field_type = d.field_type; name = d.name; given = given.Value m.made })).has_inside);
        }

  -- ---- nodes

  module _ (stand : Stand p nodes) (tells : TellsAll p as_written) where
    abbrev NodesClose : ℕ → Type 0
    NodesClose depth = Making (IsShallow p.scene depth) one in_node (node_tree depth p)

    new_closes : (depth : ℕ) → NodesClose depth → (s : Numbering) (n : ℕ) (node : SceneNode) → length s.opened ≡ length nodes
        → slice_get p.scene.nodes n ≡ Some node → IsShallow p.scene (suc depth) n → slice_index_or s.opened n true ≡ false
        → Closes in_node s (F s n) (opened p (node_tree depth p) s.opened n (Some node.node_type))
    new_closes depth k s n node l is h new =
        let fields : List Field = shown_fields p n node.node_type in
        let tree : Makes ℕ NodeText = node_tree depth p in
        let inside : List ℕ = parts_of nodes n in
        let there : length (appear s n).opened ≡ length nodes = length_set s.opened n true ∙ l in
        let same : flat_map links fields ≡ inside = stand.shown n node is in
        let few : unopened s.opened ≤ length nodes = (let u = unopened_few s.opened in omega (arith, u, l)) in
        let visited : F s n ≡ close (fold F (appear s n) inside) n = visit-new nodes (length nodes) s n (ap not new) few in
        let items : Grows (List BodyItem) = each (field_tree tree) (slice_set s.opened n true) fields in
        let c : Closes (flat_map within) (appear s n) (fold F (appear s n) inside) items =
        subst (λ (l : List ℕ). Closes (flat_map within) (appear s n) (fold F (appear s n) l) items) same
        (all_in_turn (IsShallow p.scene depth) links within (field_tree tree) (field_shapes (IsShallow p.scene depth) tree k) (appear s n) fields there
        (subst (AllByRecursion (IsShallow p.scene depth)) (sym same) (stand.shallow depth n node is h))) in
        let name : Option (List ℕ) = def_name p n in
        let shape : node_of (node_type_name node.node_type) (declared_shapes items.made) (all_fields items.made) ≡ as_written n =
        node_shown tree (slice_set s.opened n true) node.node_type fields ∙ tells n node is in
        let shapes : in_node (opened p tree s.opened n (Some node.node_type)).made ≡ flat_map within items.made ++ as_written n ∷ [] =
        in_full 0 name (node_type_name node.node_type) items.made ∙ ap (λ (m : NodeShape). flat_map within items.made ++ m ∷ []) shape in
        let closed : ended (close (fold F (appear s n) inside) n) ≡ ended s ++ in_node (opened p tree s.opened n (Some node.node_type)).made =
        map-append as_written (fold F (appear s n) inside).order (n ∷ [])
        ∙ (ap (λ (l : Shapes). l ++ as_written n ∷ []) c.closed
        ∙ (append_assoc (ended s) (flat_map within items.made) (as_written n ∷ [])
        ∙ ap (λ (l : Shapes). ended s ++ l) (sym shapes))) in
        subst (λ (v : Numbering). Closes in_node s v (opened p tree s.opened n (Some node.node_type))) (sym visited)
        (record { seen = c.seen; sized = c.sized; closed = closed })

    by_seen : (depth : ℕ) → NodesClose depth → (s : Numbering) (n : ℕ) (b : Bool) → slice_index_or s.opened n true ≡ b → length s.opened ≡ length nodes
        → n < length p.scene.nodes → IsShallow p.scene (suc depth) n
        → Closes in_node s (F s n) (opened p (node_tree depth p) s.opened n (if b then None else type_at p.scene n))
    by_seen depth k s n true e l low h =
        let same : F s n ≡ s = visit-old nodes (length nodes) s n (ap not e) in
        subst (λ (v : Numbering). Closes in_node s v (opened p (node_tree depth p) s.opened n None)) (sym same)
        (none_made in_node s (use_tree p n) l (in_use 0 (label_of p.scene n)))
    by_seen depth k s n false e l low h =
        let f = found p.scene.nodes n low in
        subst (λ (o : Option NodeType). Closes in_node s (F s n) (opened p (node_tree depth p) s.opened n o)) (sym (type_is p.scene n f.0 f.1))
        (new_closes depth k s n f.0 l f.1 h e)

    pub nodes_close : (depth : ℕ) → NodesClose depth
    unfolding node_tree
    nodes_close zero s n l q = absurd (none_shallow p.scene n q.0)
    nodes_close (suc depth) s n l q = by_seen depth (nodes_close depth) s n (slice_index_or s.opened n true) refl l (shallow_low p.scene depth n q.0) q.0
