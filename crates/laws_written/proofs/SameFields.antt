-- What stands in the text of a scene that was written and read again is what stood in the text that was written: fields, and names.
use Rattle.std.proofs.Common.{◌≡◌, ℕ, zero, suc, ◌+◌, ◌<◌, ◌||◌, Bool, true, false, cond, if◌then◌else◌, List, [], ◌∷◌, ◌++◌, length, map, nat_le, Option, Some, None, Ok, get_or, slice_get, refl, sym, ap, subst, ◌∙◌, arith}
use Rattle.std.specs.Prelude.{is_some, zip}
use Rattle.std.specs.List.{flat_map, range_with_len}
use Rattle.std.specs.Option.{option_and_then, option_or}
use Rattle.std.proofs.lemmas.Bool.{ne_eqb}
use Rattle.std.proofs.lemmas.Grind.{flat_map-append}
use Rattle.std.proofs.lemmas.List.{length-append, length-map}
use Rattle.std.proofs.lemmas.List.FromFn.{get_or-map-range_with_len}
use Rattle.x3d_values.specs.declared.fields.Fields.{Fields}
use Rattle.x3d_values.specs.declared.node_type.NodeType.{NodeType}
use Rattle.x3d_values.specs.declared.value.Value.{Value}
use Rattle.x3d_values.specs.Access.{is_initial, is_kept}
use Rattle.x3d_values.specs.Kept.{field_value}
use Rattle.x3d_values.specs.Tables.{FieldRowView, rows}
use Rattle.proto_flat.specs.declared.flat.Flat.{Flat}
use Rattle.scene_core.specs.declared.row.DeclaredField.{DeclaredField}
use Rattle.scene_core.specs.declared.scene.Route.{Route}
use Rattle.scene_core.specs.declared.scene.SceneNode.{SceneNode}
use Rattle.scene_core.specs.Building.{scene_of}
use Rattle.scene_core.specs.Scene.{SceneView, declared_at, fields_of, kept, label_of, name_at, rows_at, shape_of, state_of, type_at, types_of, value_at}
use Rattle.scene_core.specs.Shape.{declared_entry, rows_of}
use Rattle.scene_text.specs.Places.{ends_of, is_named, named, nodes_within, places, times}
use Rattle.scene_text.specs.Tree.{Declared, PlanView, Shown, declared_from, def_name, held_value, present_value, shown_field, shown_fields, shown_from}
use Rattle.laws_written.specs.Children.{children}
use Rattle.laws_written.proofs.NumberedLists.{some_is, within}
use Rattle.laws_written.proofs.NumberedScenes.{found}
use Rattle.laws_written.specs.Nodes.{in_switch, switch_root}
use Rattle.laws_written.proofs.Counts.{hits, hits_append, hits_are}
use Rattle.laws_written.proofs.NodesParts.{within_are}
use Rattle.laws_written.proofs.Plans.{plan}
use Rattle.laws_written.specs.Braces.{written_name}
use Rattle.laws_written.specs.Again.{IsWrittenOf, switch_type}
use Rattle.laws_written.specs.Begins.{kept_of}
use Rattle.laws_written.proofs.Made.{behind, front, value_in}
use Rattle.laws_written.proofs.Places.{mapped_at}
use Rattle.laws_written.proofs.Present.{declared_by_node, rows_by_node, value_by_node}

-- ---- what a node holds before any event is what its scene gives

none_kept : (b : Bool) (V : Option Value) → V ≡ None → V ≡ (if b then V else None)
none_kept true V e = refl
none_kept false V e = e

kept_in : (es : List FieldRowView) (os : List (Option Value)) (field : ℕ) (e : FieldRowView) → slice_get es field ≡ Some e
    → value_in (map (λ p. kept p.0 p.1) (zip es os)) field ≡ kept e (value_in os field)
kept_in [] os field e at = absurd cc
kept_in (x ∷ es) [] field e at = none_kept (is_kept e.access e.field_type) None refl
kept_in (x ∷ es) (o ∷ os) zero e at = ap (λ (y : FieldRowView). kept y o) (some_is x e at)
kept_in (x ∷ es) (o ∷ os) (suc field) e at = kept_in es os field e at

opening : (next : SceneView) (n : ℕ) (m : SceneNode) → slice_get next.nodes n ≡ Some m → (k : ℕ) (e : FieldRowView) → slice_get (rows_at next n) k ≡ Some e
    → kept_of (state_of next) n k ≡ kept e (value_at next n k)
unfolding state_of
opening next n m is k e at =
    ap (λ (o : Option Fields). option_and_then (λ (fields : Fields). field_value fields k) o) (mapped_at fields_of next.nodes n m is)
    ∙ (kept_in (rows_of (shape_of m)) m.values k e (ap (λ (l : List FieldRowView). slice_get l k) (sym (rows_by_node next n m is)) ∙ at)
    ∙ ap (kept e) (sym (value_by_node next n m k is)))

or_own : (b : Bool) (X V : Option Value) → X ≡ (if b then V else None) → option_or (if b then X else None) V ≡ V
or_own false X V e = refl
or_own true X (Some v) e = ap (λ (o : Option Value). option_or o (Some v)) e
or_own true X None e = ap (λ (o : Option Value). option_or o None) e

pub opened_value : (next : SceneView) (routes : List Route) (n : ℕ) (m : SceneNode) → slice_get next.nodes n ≡ Some m → (k : ℕ) (e : FieldRowView)
    → slice_get (rows_at next n) k ≡ Some e → present_value (plan next routes (state_of next)) n k e.access e.field_type ≡ value_at next n k
opened_value next routes n m is k e at =
    or_own (is_kept e.access e.field_type) (kept_of (state_of next) n k) (value_at next n k) (opening next n m is k e at)

-- ---- the fields that stand in the text, by what they hold

-- what each row of a type holds, by its number
abbrev pub Holding : Type 0
Holding = ℕ → FieldRowView → Option Value

abbrev pub shown_by : Holding → ℕ → List FieldRowView → List Shown
shown_by hold number [] = []
shown_by hold number (e ∷ others) = shown_field e.name e.default (hold number e) ++ shown_by hold (number + 1) others

pub shown_is : (p : PlanView) (n : ℕ) (hold : Holding) (number : ℕ) (es : List FieldRowView)
    → ((j : ℕ) (e : FieldRowView) → slice_get es j ≡ Some e → present_value p n (number + j) e.access e.field_type ≡ hold (number + j) e)
    → shown_from p n number es ≡ shown_by hold number es
shown_is p n hold number [] k = refl
shown_is p n hold number (e ∷ es) k =
    let start : number + 0 ≡ number = omega arith in
    let first : present_value p n number e.access e.field_type ≡ hold number e =
    subst (λ (i : ℕ). present_value p n i e.access e.field_type ≡ hold i e) start (k 0 e refl) in
    let rest = shown_is p n hold (number + 1) es (λ j x at.
    (let step : number + suc j ≡ number + 1 + j = omega arith in
    subst (λ (i : ℕ). present_value p n i x.access x.field_type ≡ hold i x) step (k (suc j) x at))) in
    ap (λ (o : Option Value). shown_field e.name e.default o ++ shown_from p n (number + 1) es) first
    ∙ ap (λ (l : List Shown). shown_field e.name e.default (hold number e) ++ l) rest

declared_same : (p q : PlanView) (n number : ℕ) (ds : List DeclaredField)
    → ((j : ℕ) (d : DeclaredField) → slice_get ds j ≡ Some d → present_value q n (number + j) d.access d.field_type ≡ present_value p n (number + j) d.access d.field_type)
    → declared_from q n number ds ≡ declared_from p n number ds
declared_same p q n number [] k = refl
declared_same p q n number (d ∷ ds) k =
    let start : number + 0 ≡ number = omega arith in
    let first : present_value q n number d.access d.field_type ≡ present_value p n number d.access d.field_type =
    subst (λ (i : ℕ). present_value q n i d.access d.field_type ≡ present_value p n i d.access d.field_type) start (k 0 d refl) in
    let rest = declared_same p q n (number + 1) ds (λ j x at.
    (let step : number + suc j ≡ number + 1 + j = omega arith in
    subst (λ (i : ℕ). present_value q n i x.access x.field_type ≡ present_value p n i x.access x.field_type) step (k (suc j) x at))) in
    ap (λ (o : Option Value). Declared d (if is_initial d.access then o else None) ∷ declared_from q n (number + 1) ds) first
    ∙ ap (λ (l : List Shown). Declared d (held_value p n number d) ∷ l) rest

-- ---- counting places

-- the items of lists that stand in the places of numbers
joined_is : (f : ℕ → List ℕ) (xs : List (List ℕ)) (from : ℕ) → ((i : ℕ) (x : List ℕ) → slice_get xs i ≡ Some x → f (from + i) ≡ x)
    → flat_map f (range_with_len from (length xs)) ≡ flat_map (λ (l : List ℕ). l) xs
joined_is f [] from k = refl
joined_is f (x ∷ xs) from k =
    let start : from + 0 ≡ from = omega arith in
    let first : f from ≡ x = ap f (sym start) ∙ k 0 x refl in
    let rest = joined_is f xs (from + 1) (λ i y at. (let step : from + 1 + i ≡ from + suc i = omega arith in ap f step ∙ k (suc i) y at)) in
    ap (λ (l : List ℕ). l ++ flat_map f (range_with_len (from + 1) (length xs))) first ∙ ap (λ (l : List ℕ). x ++ l) rest

pub all_within : (flat : Flat) (s : SceneView) → scene_of flat ≡ Ok s
    → flat_map (nodes_within s) (range_with_len 0 (length s.nodes)) ≡ flat_map (λ (l : List ℕ). l) (map children s.nodes)
all_within flat s is =
    ap (λ (k : ℕ). flat_map (nodes_within s) (range_with_len 0 k)) (sym (length-map s.nodes children))
    ∙ joined_is (nodes_within s) (map children s.nodes) 0 (λ i x at. child i x at) where
      child : (i : ℕ) (x : List ℕ) → slice_get (map children s.nodes) i ≡ Some x → nodes_within s (0 + i) ≡ x
      child i x at =
          let low : i < length (map children s.nodes) = within (map children s.nodes) i x at in
          let many : length (map children s.nodes) ≡ length s.nodes = length-map s.nodes children in
          let f = found s.nodes i (omega (arith, low, many)) in
          let start : 0 + i ≡ i = omega arith in
          ap (nodes_within s) start
          ∙ (within_are flat s is i f.0 f.1 ∙ some_is (children f.0) x (sym (mapped_at children s.nodes i f.0 f.1) ∙ at))

switch_parts : (x count : ℕ) (helpers : List ℕ) → hits x (flat_map (λ (l : List ℕ). l) (in_switch helpers)) ≡ hits x helpers
switch_parts x count [] = refl
switch_parts x count (h ∷ hs) = hits_append x (h ∷ hs) [] ∙ omega arith

pub other_root : (x count : ℕ) → x < count → (helpers : List ℕ) → hits x (switch_root count helpers) ≡ 0
other_root x count l [] = refl
other_root x count l (h ∷ hs) = ap (λ (b : Bool). cond b (1 + 0) 0) (ne_eqb count x (λ e. omega (arith, e, l)))

-- ---- a scene that was written and read again

module _ (from again : Flat) (s next : SceneView) (routes : List Route) (state : List Fields) (is : scene_of from ≡ Ok s) (is_next : scene_of again ≡ Ok next)
    (w : IsWrittenOf s routes state next) where
  abbrev count : ℕ
  count = length s.nodes

  abbrev p : PlanView
  p = plan s routes state

  abbrev q : PlanView
  q = plan next routes (state_of next)

  pub many_next : length next.nodes ≡ count + length (switch_type s.helpers)
  many_next =
      sym (length-map next.nodes (λ (n : SceneNode). n.node_type))
      ∙ (ap (λ (l : List NodeType). length l) w.types
      ∙ (length-append (types_of s) (switch_type s.helpers)
      ∙ ap (λ (k : ℕ). k + length (switch_type s.helpers)) (length-map s.nodes (λ (n : SceneNode). n.node_type))))

  next_node : (n : ℕ) → n < count → (m : SceneNode) × (slice_get next.nodes n ≡ Some m)
  next_node n low = found next.nodes n (let many = many_next in omega (arith, low, many))

  pub same_type : (n : ℕ) (node : SceneNode) → slice_get s.nodes n ≡ Some node → type_at next n ≡ Some node.node_type
  same_type n node at =
      ap (λ (l : List NodeType). slice_get l n) w.types
      ∙ front (types_of s) (switch_type s.helpers) n node.node_type (mapped_at (λ (m : SceneNode). m.node_type) s.nodes n node at)

  -- ---- fields

  present_same : (n : ℕ) → n < count → (k : ℕ) (e : FieldRowView) → slice_get (rows_at s n) k ≡ Some e
      → present_value q n k e.access e.field_type ≡ present_value p n k e.access e.field_type
  present_same n low k e at =
      let m = next_node n low in
      opened_value next routes n m.0 m.1 k e (ap (λ (l : List FieldRowView). slice_get l k) (w.rows n low) ∙ at) ∙ w.values n k e at

  -- the rows of a node, and behind them what it declares
  rows_apart : (n : ℕ) (node : SceneNode) → slice_get s.nodes n ≡ Some node → rows_at s n ≡ rows node.node_type ++ map declared_entry (declared_at s n)
  rows_apart n node at =
      rows_by_node s n node at ∙ ap (λ (l : List DeclaredField). rows node.node_type ++ map declared_entry l) (sym (declared_by_node s n node at))

  pub shown_same : (n : ℕ) (node : SceneNode) → slice_get s.nodes n ≡ Some node → shown_fields q n node.node_type ≡ shown_fields p n node.node_type
  unfolding shown_fields
  shown_same n node at =
      let t : NodeType = node.node_type in
      let low : n < count = within s.nodes n node at in
      let hold : Holding = λ k e. present_value p n k e.access e.field_type in
      let start : (j : ℕ) → 0 + j ≡ j = λ j. omega arith in
      let own : shown_from q n 0 (rows t) ≡ shown_from p n 0 (rows t) =
      shown_is q n hold 0 (rows t) (λ j e there.
      present_same n low (0 + j) e
      (ap (λ (l : List FieldRowView). slice_get l (0 + j)) (rows_apart n node at)
      ∙ (ap (λ (i : ℕ). slice_get (rows t ++ map declared_entry (declared_at s n)) i) (start j)
      ∙ front (rows t) (map declared_entry (declared_at s n)) j e there)))
      ∙ sym (shown_is p n hold 0 (rows t) (λ j e there. refl)) in
      let more : declared_from q n (length (rows t)) (declared_at s n) ≡ declared_from p n (length (rows t)) (declared_at s n) =
      declared_same p q n (length (rows t)) (declared_at s n) (λ j d there.
      present_same n low (length (rows t) + j) (declared_entry d)
      (ap (λ (l : List FieldRowView). slice_get l (length (rows t) + j)) (rows_apart n node at)
      ∙ (behind (rows t) (map declared_entry (declared_at s n)) j ∙ mapped_at declared_entry (declared_at s n) j d there))) in
      ap (λ (l : List Shown). l ++ declared_from q n (length (rows t)) (declared_at next n)) own
      ∙ (ap (λ (ds : List DeclaredField). shown_from p n 0 (rows t) ++ declared_from q n (length (rows t)) ds) (w.declared n low)
      ∙ ap (λ (l : List Shown). shown_from p n 0 (rows t) ++ l) more)

  -- ---- names

  pub places_are : (x : ℕ) → hits x (places next) ≡ hits x (places s) + hits x (switch_root count s.helpers)
  places_are x =
      let join : List (List ℕ) → List ℕ = λ ls. flat_map (λ (l : List ℕ). l) ls in
      let old = all_within from s is in
      let new : flat_map (nodes_within next) (range_with_len 0 (length next.nodes)) ≡ join (map children s.nodes) ++ join (in_switch s.helpers) =
      all_within again next is_next ∙ (ap join w.children ∙ flat_map-append (λ (l : List ℕ). l) (map children s.nodes) (in_switch s.helpers)) in
      let here = hits_append x (s.roots ++ s.helpers) (flat_map (nodes_within s) (range_with_len 0 (length s.nodes))) in
      let here_front = hits_append x s.roots s.helpers in
      let inside : hits x (flat_map (nodes_within s) (range_with_len 0 (length s.nodes))) ≡ hits x (join (map children s.nodes)) = ap (hits x) old in
      let there = hits_append x (next.roots ++ next.helpers) (flat_map (nodes_within next) (range_with_len 0 (length next.nodes))) in
      let there_front = hits_append x next.roots next.helpers in
      let roots : hits x next.roots ≡ hits x (s.roots ++ switch_root count s.helpers) = ap (hits x) w.roots in
      let roots_apart = hits_append x s.roots (switch_root count s.helpers) in
      let helpers : hits x next.helpers ≡ 0 = ap (hits x) w.helpers in
      let within_next : hits x (flat_map (nodes_within next) (range_with_len 0 (length next.nodes))) ≡ hits x (join (map children s.nodes) ++ join (in_switch s.helpers)) =
      ap (hits x) new in
      let parts = hits_append x (join (map children s.nodes)) (join (in_switch s.helpers)) in
      let switch = switch_parts x count s.helpers in
      omega (arith, here, here_front, inside, there, there_front, roots, roots_apart, helpers, within_next, parts, switch)

  -- a node that was written with a DEF keeps a name, and another has no reason for one either
  written_so : (kept other : Bool) (l : List ℕ) → (is_some (if kept || other then Some l else None) || other) ≡ (kept || other)
  written_so true other l = refl
  written_so false true l = refl
  written_so false false l = refl

  named_same : (n : ℕ) → n < count → is_named next routes n ≡ is_named s routes n
  named_same n low =
      let all = places_are n in
      let none = other_root n count low s.helpers in
      let counted : hits n (places next) ≡ hits n (places s) = omega (arith, all, none) in
      let same : times n (places next) ≡ times n (places s) = sym (hits_are n (places next)) ∙ (counted ∙ hits_are n (places s)) in
      ap (λ (o : Option (List ℕ)). is_some o || (nat_le 1 (times n (flat_map ends_of routes)) || nat_le 2 (times n (places next)))) (w.names n low)
      ∙ (ap (λ (k : ℕ). is_some (written_name s routes n) || (nat_le 1 (times n (flat_map ends_of routes)) || nat_le 2 k)) same
      ∙ written_so (is_some (name_at s n)) (nat_le 1 (times n (flat_map ends_of routes)) || nat_le 2 (times n (places s))) (label_of s n))

  pub def_same : (n : ℕ) → n < count → def_name q n ≡ def_name p n
  unfolding named
  def_same n low =
      let start : 0 + n ≡ n = omega arith in
      let many = many_next in
      let new : get_or (named next routes) n false ≡ is_named next routes n =
      get_or-map-range_with_len (is_named next routes) 0 (length next.nodes) n n false (omega (arith, low, many)) start in
      let old : get_or (named s routes) n false ≡ is_named s routes n = get_or-map-range_with_len (is_named s routes) 0 (length s.nodes) n n false low start in
      ap (λ (b : Bool). if b then Some (label_of next n) else None) (new ∙ (named_same n low ∙ sym old))
      ∙ ap (λ (l : List ℕ). if get_or (named s routes) n false then Some l else None) (w.labels n low)
