-- A document in which nothing is blamed is refused as a scene for a limit alone.
use Rattle.std.proofs.Common.{arith, ◌≡◌, ◌⊎◌, ℕ, zero, suc, ◌+◌, ◌-◌, ◌<◌, List, [], ◌∷◌, ◌++◌, length, take, Bool, true, false, ◌||◌, ◌==◌, Option, Some, None, Result, Ok, Err, nat_lt, slice_get, inl, inr, refl, ap, sym, subst, ◌∙◌, cond, if◌then◌else◌}
use Rattle.std.specs.List.{find, flat_map}
use Rattle.std.proofs.lemmas.Bool.{eqb-true, lt-ltb, le-ltb}
use Rattle.x3d_values.specs.declared.value.Value.{Value}
use Rattle.x3d_values.specs.Ranges.{max_depth, max_places}
use Rattle.x3d_values.specs.Tables.{FieldRowView, rows}
use Rattle.classic_tree.specs.declared.tree.Declaration.{Declaration}
use Rattle.proto_flat.specs.declared.flat.Flat.{Flat}
use Rattle.proto_flat.specs.declared.flat.FlatField.{FlatField}
use Rattle.proto_flat.specs.declared.flat.FlatNode.{FlatNode}
use Rattle.scene_core.specs.declared.fault.SceneFault.{SceneFault}
use Rattle.scene_core.specs.declared.fault.SceneFaultKind.TheVariants.{TooDeep, TooMany}
use Rattle.scene_core.specs.declared.numbering.Numbering.{Numbering}
use Rattle.scene_core.specs.declared.scene.SceneNode.{SceneNode}
use Rattle.scene_core.specs.Building.{called as numbered, limits, nodes_by, nodes_of, node_of, with_node, scene_by, scene_of}
use Rattle.scene_core.specs.Deep.{too_deep}
use Rattle.scene_core.specs.Faults.{fault, through, ◌>>=◌}
use Rattle.scene_core.specs.Labels.{is_alone, is_label, names_of}
use Rattle.scene_core.specs.Numbers.{numbering}
use Rattle.scene_core.specs.Parts.{given}
use Rattle.scene_core.specs.Places.{places, any_crowded}
use Rattle.scene_core.specs.Shape.{numbered_fields, most_declared}
use Rattle.scene_core.specs.Typed.{all_children, child, declared_from, declared_value, field_value, values_from, values_of}
use Rattle.scene_core.specs.Wide.{any_wide}
use Rattle.scene_faults.specs.Fields.{by_declaration, by_row, child_blames, field_blames, node_blames, rotation_blames, scene_blames}
use Rattle.scene_faults.specs.Laws.{is_blameless, is_made, ScenesWithoutBlamesPassLimits}
use Rattle.scene_faults.proofs.Blamed.{fields_are_blamed, declarations_are_blamed, children_are_blamed}

-- ---- lists without blames

left_none : {A : Type 0} (xs ys : List A) → xs ++ ys ≡ [] → xs ≡ []
left_none [] ys e = refl
left_none (x ∷ xs) ys e = absurd cc

right_none : {A : Type 0} (xs ys : List A) → xs ++ ys ≡ [] → ys ≡ []
right_none [] ys e = e
right_none (x ∷ xs) ys e = absurd cc

same_some : {A : Type 0} (x y : A) → Some x ≡ Some y → x ≡ y
same_some x y e = cc

none_some : {A : Type 0} (x : A) → None ≡ Some x → ⊥
none_some x e = cc

each_none : {A B : Type 0} (f : A → List B) (xs : List A) (n : ℕ) (x : A) → flat_map f xs ≡ [] → slice_get xs n ≡ Some x → f x ≡ []
each_none f [] n x h e = absurd (none_some x e)
each_none f (y ∷ ys) zero x h e = ap f (sym (same_some y x e)) ∙ left_none (f y) (flat_map f ys) h
each_none f (y ∷ ys) (suc n) x h e = each_none f ys n x (right_none (f y) (flat_map f ys) h) e

found_none : {A B : Type 0} (f : A → List B) (p : A → Bool) (xs : List A) (x : A) → flat_map f xs ≡ [] → find p xs ≡ Some x → (f x ≡ []) × (p x ≡ true)
found_none f p [] x h e = absurd (none_some x e)
found_none f p (y ∷ ys) x h e = by (p y) refl (right_none (f y) (flat_map f ys) h) (found_none f p ys x (right_none (f y) (flat_map f ys) h)) e
  where
    by : (b : Bool) → p y ≡ b → flat_map f ys ≡ [] → (find p ys ≡ Some x → (f x ≡ []) × (p x ≡ true)) → find p (y ∷ ys) ≡ Some x
        → (f x ≡ []) × (p x ≡ true)
    by true is rest later e =
        let same : y ≡ x = same_some y x (sym (ap (λ b. cond b (Some y) (find p ys)) is) ∙ e) in
        (ap f (sym same) ∙ left_none (f y) (flat_map f ys) h, ap p (sym same) ∙ is)
    by false is rest later e = later (sym (ap (λ b. cond b (Some y) (find p ys)) is) ∙ e)

within : {A : Type 0} (xs : List A) (n : ℕ) (x : A) → slice_get xs n ≡ Some x → n < length xs
within [] n x e = absurd (none_some x e)
within (y ∷ ys) zero x e = omega arith
within (y ∷ ys) (suc n) x e = omega (arith, within ys n x e)

nothing_taken : {A : Type 0} (ys : List A) (k : ℕ) → slice_get (take 0 ys) k ≡ None
nothing_taken [] k = refl
nothing_taken (y ∷ ys) k = refl

in_front : {A : Type 0} (m : ℕ) (xs : List A) (n : ℕ) (x : A) → slice_get (take m xs) n ≡ Some x → slice_get xs n ≡ Some x
in_front zero xs n x e = absurd (none_some x (sym (nothing_taken xs n) ∙ e))
in_front (suc m) [] n x e = absurd (none_some x e)
in_front (suc m) (y ∷ ys) zero x e = e
in_front (suc m) (y ∷ ys) (suc n) x e = in_front m ys n x e

-- ---- numbers of fields

none_more : (n : ℕ) → n + 0 ≡ n
none_more n = omega arith

from_none : (k : ℕ) → k ≡ 0 + k
from_none k = omega arith

one_later : (n k : ℕ) → n + suc k ≡ (n + 1) + k
one_later n k = omega arith

next_of : (n j : ℕ) → n + (j + 1) ≡ n + j + 1
next_of n j = omega arith

-- ---- steps that are made

bind_made : {A B : Type 0} (r : Result A SceneFault) (next : A → Result B SceneFault) → is_made r ≡ true → ((a : A) → is_made (next a) ≡ true) → is_made (r >>= next) ≡ true
bind_made (Ok a) next made each = each a
bind_made (Err e) next made each = absurd cc

after_made : {A B : Type 0} (r : Result A SceneFault) (next : A → Result B SceneFault) (e : SceneFault) → is_made r ≡ true → (r >>= next) ≡ Err e → (a : A) × (next a ≡ Err e)
after_made (Ok a) next e made bad = (a, bad)
after_made (Err f) next e made bad = absurd cc

through_made : {A X : Type 0} (step : A → X → Result X SceneFault) → ((a : A) (x : X) → is_made (step a x) ≡ true) → (items : List A) (x : X) → is_made (through step items x) ≡ true
through_made step each [] x = refl
through_made step each (a ∷ items) x = bind_made (step a x) (λ more. through step items more) (each a x) (λ more. through_made step each items more)

-- ---- a node without blames

module _ (nodes : List FlatNode) (numbers : List ℕ) (node : FlatNode) (none : node_blames nodes node ≡ []) where
  no_field : flat_map (field_blames nodes node) node.fields ≡ []
  no_field = left_none (flat_map (field_blames nodes node) node.fields) (flat_map rotation_blames node.interface) none

  no_declaration : flat_map rotation_blames node.interface ≡ []
  no_declaration = right_none (flat_map (field_blames nodes node) node.fields) (flat_map rotation_blames node.interface) none

  -- a field by its number
  as_row : (f : FlatField) (number : ℕ) (e : FieldRowView) → f.number ≡ number → slice_get (rows node.node_type) number ≡ Some e
      → field_blames nodes node f ≡ by_row nodes (Some e) f
  as_row f number e is at =
      ap (λ b. if b then by_row nodes (slice_get (rows node.node_type) f.number) f
      else by_declaration nodes (slice_get node.interface (f.number - length (rows node.node_type))) f)
      (ap (λ k. nat_lt k (length (rows node.node_type))) is ∙ lt-ltb number (length (rows node.node_type)) (within (rows node.node_type) number e at))
      ∙ ap (λ r. by_row nodes r f) (ap (slice_get (rows node.node_type)) is ∙ at)

  as_declaration : (f : FlatField) (j : ℕ) (d : Declaration ℕ) → f.number ≡ length (rows node.node_type) + j → slice_get node.interface j ≡ Some d
      → field_blames nodes node f ≡ by_declaration nodes (Some d) f
  as_declaration f j d is at =
      let count = length (rows node.node_type) in
      let rest : f.number - count ≡ j = omega (arith, is) in
      ap (λ b. if b then by_row nodes (slice_get (rows node.node_type) f.number) f
      else by_declaration nodes (slice_get node.interface (f.number - count)) f)
      (ap (λ k. nat_lt k count) is ∙ le-ltb (count + j) count (omega arith))
      ∙ ap (λ o. by_declaration nodes o f) (ap (slice_get node.interface) rest ∙ at)

  row_made : (number : ℕ) (e : FieldRowView) → slice_get (rows node.node_type) number ≡ Some e
      → is_made (field_value nodes numbers e (given node.fields number)) ≡ true
  unfolding field_value
  row_made number e at = by (given node.fields number) refl
    where
      by : (o : Option FlatField) → given node.fields number ≡ o → is_made (field_value nodes numbers e o) ≡ true
      by None is = refl
      by (Some f) is =
          let p = found_none (field_blames nodes node) (λ (g : FlatField). g.number == number) node.fields f no_field is in
          sym (fields_are_blamed nodes numbers e f)
          ∙ ap is_blameless (sym (as_row f number e (eqb-true f.number number p.1) at) ∙ p.0)

  values_made : (number : ℕ) (es : List FieldRowView) (made : List (Option Value))
      → ((k : ℕ) (e : FieldRowView) → slice_get es k ≡ Some e → slice_get (rows node.node_type) (number + k) ≡ Some e)
      → is_made (values_from nodes numbers node.fields number es made) ≡ true
  values_made number [] made at = refl
  values_made number (e ∷ es) made at =
      bind_made (field_value nodes numbers e (given node.fields number)) (λ v. values_from nodes numbers node.fields (number + 1) es (made ++ v ∷ []))
      (row_made number e (subst (λ n. slice_get (rows node.node_type) n ≡ Some e) (none_more number) (at 0 e refl)))
      (λ v. values_made (number + 1) es (made ++ v ∷ [])
      (λ k x h. subst (λ n. slice_get (rows node.node_type) n ≡ Some x) (one_later number k) (at (suc k) x h)))

  declaration_made : (j : ℕ) (d : Declaration ℕ) → slice_get node.interface j ≡ Some d
      → is_made (declared_value nodes numbers d (given node.fields (length (rows node.node_type) + j))) ≡ true
  declaration_made j d at = by (given node.fields (length (rows node.node_type) + j)) refl
    where
      by : (o : Option FlatField) → given node.fields (length (rows node.node_type) + j) ≡ o → is_made (declared_value nodes numbers d o) ≡ true
      by None is = sym (declarations_are_blamed nodes numbers d None) ∙ ap is_blameless (each_none rotation_blames node.interface j d no_declaration at)
      by (Some f) is =
          let p = found_none (field_blames nodes node) (λ (g : FlatField). g.number == length (rows node.node_type) + j) node.fields f no_field is in
          sym (declarations_are_blamed nodes numbers d (Some f))
          ∙ ap (λ bs. is_blameless (bs ++ rotation_blames d))
          (sym (as_declaration f j d (eqb-true f.number (length (rows node.node_type) + j) p.1) at) ∙ p.0)
          ∙ ap is_blameless (each_none rotation_blames node.interface j d no_declaration at)

  declared_made : (j : ℕ) (ds : List (Declaration ℕ)) (made : List (Option Value))
      → ((k : ℕ) (d : Declaration ℕ) → slice_get ds k ≡ Some d → slice_get node.interface (j + k) ≡ Some d)
      → is_made (declared_from nodes numbers node.fields (length (rows node.node_type) + j) ds made) ≡ true
  declared_made j [] made at = refl
  declared_made j (d ∷ ds) made at =
      bind_made (declared_value nodes numbers d (given node.fields (length (rows node.node_type) + j)))
      (λ v. declared_from nodes numbers node.fields (length (rows node.node_type) + j + 1) ds (made ++ v ∷ []))
      (declaration_made j d (subst (λ n. slice_get node.interface n ≡ Some d) (none_more j) (at 0 d refl)))
      (λ v. subst (λ n. is_made (declared_from nodes numbers node.fields n ds (made ++ v ∷ [])) ≡ true)
      (next_of (length (rows node.node_type)) j)
      (declared_made (j + 1) ds (made ++ v ∷ [])
      (λ k x h. subst (λ n. slice_get node.interface n ≡ Some x) (one_later j k) (at (suc k) x h))))

  node_made : is_made (values_of nodes numbers node) ≡ true
  unfolding values_of
  node_made =
      bind_made (values_from nodes numbers node.fields 0 (rows node.node_type) [])
      (declared_from nodes numbers node.fields (length (rows node.node_type)) (numbered_fields node.node_type node.interface))
      (values_made 0 (rows node.node_type) [] (λ k e h. subst (λ n. slice_get (rows node.node_type) n ≡ Some e) (from_none k) h))
      (λ made. subst (λ n. is_made (declared_from nodes numbers node.fields n (numbered_fields node.node_type node.interface) made) ≡ true)
      (none_more (length (rows node.node_type)))
      (declared_made 0 (numbered_fields node.node_type node.interface) made
      (λ k d h. subst (λ n. slice_get node.interface n ≡ Some d) (from_none k)
      (in_front (most_declared node.node_type) node.interface k d h))))

-- ---- a document without blames

all_made : (nodes : List FlatNode) (numbers : List ℕ) (alone : List ℕ → Bool) (all : List FlatNode) → flat_map (node_blames nodes) all ≡ []
    → (n : ℕ) (made : List SceneNode) → is_made (with_node nodes numbers alone (slice_get all n) made) ≡ true
all_made nodes numbers alone all none n made = by (slice_get all n) refl
  where
    by : (o : Option FlatNode) → slice_get all n ≡ o → is_made (with_node nodes numbers alone o made) ≡ true
    by None is = refl
    by (Some node) is =
        bind_made (node_of nodes numbers (is_label alone (length made)) node) (λ x. Ok (made ++ x ∷ []))
        (bind_made (values_of nodes numbers node) _ (node_made nodes numbers node (each_none (node_blames nodes) all n node none is)) (λ values. refl))
        (λ x. refl)

nodes_made : (nodes : List FlatNode) (s : Numbering) (alone : List ℕ → Bool) → flat_map (node_blames nodes) nodes ≡ [] → is_made (nodes_by nodes s alone) ≡ true
unfolding nodes_by
nodes_made nodes s alone none =
    through_made (λ n made. with_node nodes s.numbers alone (slice_get nodes n) made) (λ n made. all_made nodes s.numbers alone nodes none n made) s.order []

children_made : (nodes : List FlatNode) (ns : List ℕ) → flat_map (child_blames nodes) ns ≡ [] → is_made (all_children nodes ns) ≡ true
children_made nodes [] none = refl
children_made nodes (n ∷ ns) none =
    bind_made (child nodes n) (λ _. all_children nodes ns)
    (sym (children_are_blamed nodes n) ∙ ap is_blameless (left_none (child_blames nodes n) (flat_map (child_blames nodes) ns) none))
    (λ _. children_made nodes ns (right_none (child_blames nodes n) (flat_map (child_blames nodes) ns) none))

same_fault : (B : Type 0) (a b : SceneFault) → (let r : Result B SceneFault = Err a in r) ≡ Err b → a ≡ b
same_fault B a b h = cc

-- of limits there are two
limit_of : (B : Type 0) (deep many : Bool) (next : (Unit {0}) → Result B SceneFault) (e : SceneFault) → ((u : Unit {0}) → is_made (next u) ≡ true)
    → ((if deep then Err (fault TooDeep 0) else (if many then Err (fault TooMany 0) else Ok tt)) >>= next) ≡ Err e
    → (e.kind ≡ TooDeep) ⊎ (e.kind ≡ TooMany)
limit_of B true many next e made bad = inl (ap (λ (f : SceneFault). f.kind) (sym (same_fault B (fault TooDeep 0) e bad)))
limit_of B false true next e made bad = inr (ap (λ (f : SceneFault). f.kind) (sym (same_fault B (fault TooMany 0) e bad)))
limit_of B false false next e made bad = absurd (not_both (sym (made tt) ∙ ap (λ r. is_made r) bad))
  where
    not_both : true ≡ false → ⊥
    not_both h = cc

limits_told : (B : Type 0) (nodes : List SceneNode) (roots : List ℕ) (next : (Unit {0}) → Result B SceneFault) (e : SceneFault) → ((u : Unit {0}) → is_made (next u) ≡ true)
    → (limits nodes roots >>= next) ≡ Err e → (e.kind ≡ TooDeep) ⊎ (e.kind ≡ TooMany)
unfolding limits
limits_told B nodes roots next e made bad =
    limit_of B (too_deep nodes) (nat_lt max_places (places max_depth nodes roots) || (any_crowded nodes roots || any_wide nodes)) next e made bad

scene_told : (flat : Flat) (s : Numbering) (e : SceneFault) → scene_blames flat ≡ [] → scene_by flat s ≡ Err e → (e.kind ≡ TooDeep) ⊎ (e.kind ≡ TooMany)
scene_told flat s e none bad =
    let front = flat_map (node_blames flat.nodes) flat.nodes ++ flat_map (child_blames flat.nodes) flat.roots in
    let helpers = flat_map (child_blames flat.nodes) flat.helpers in
    let first = left_none front helpers none in
    let nodes = after_made (nodes_of flat.nodes s) _ e
    (nodes_made flat.nodes s (is_alone (names_of flat.nodes s.order)) (left_none (flat_map (node_blames flat.nodes) flat.nodes) _ first)) bad in
    let roots = after_made (all_children flat.nodes flat.roots) _ e
    (children_made flat.nodes flat.roots (right_none (flat_map (node_blames flat.nodes) flat.nodes) _ first)) nodes.1 in
    let others = after_made (all_children flat.nodes flat.helpers) _ e (children_made flat.nodes flat.helpers (right_none front helpers none)) roots.1 in
    limits_told _ nodes.0 (numbered s.numbers flat.roots) _ e (λ _. refl) others.1

pub scenes_without_blames : ScenesWithoutBlamesPassLimits
unfolding scene_of
scenes_without_blames flat e none bad = scene_told flat (numbering flat.nodes flat.roots flat.helpers) e none bad
