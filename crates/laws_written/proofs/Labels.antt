-- No two nodes of a document's scene have the same label.
use Rattle.std.proofs.Common.{◌≡◌, ℕ, zero, suc, ◌+◌, ◌<◌, ◌≤◌, ◌^◌, Bool, true, false, cond, not, ◌&&◌, ◌||◌, List, [], ◌∷◌, ◌++◌, codes, map, length, Option, Some, None, Ok, if◌then◌else◌, slice_get, refl, sym, ap, subst, ◌∙◌, ◌⊎◌, inl, inr, arith, append_assoc, append-nil, eqb-true, true≢false}
use Rattle.std.specs.Prelude.{decimal}
use Rattle.std.specs.List.{AllByRecursion, count_by, cons_option, flat_map}
use Rattle.std.specs.Option.{option_and_then}
use Rattle.std.specs.Str.{bytes_eq}
use Rattle.std.specs.Str.Parse.{digits_value}
use Rattle.std.proofs.lemmas.Bool.{cases_lt}
use Rattle.std.proofs.lemmas.Fmt.{decimal_is_IsNumeral}
use Rattle.std.proofs.lemmas.List.Recursion.{is_count_by}
use Rattle.std.proofs.lemmas.Slice.Eq.{bytes_eq-Decides}
use Rattle.x3d_values.specs.declared.value.Value.{Value}
use Rattle.proto_flat.specs.declared.flat.FlatNode.{FlatNode}
use Rattle.scene_core.specs.declared.numbering.Numbering.{Numbering}
use Rattle.scene_core.specs.declared.scene.SceneNode.{SceneNode}
use Rattle.scene_core.specs.Building.{node_of, with_node, nodes_by, nodes_of}
use Rattle.scene_core.specs.Faults.{through}
use Rattle.scene_core.specs.Labels.{names_of, is_alone, is_label, is_numbered, label_by}
use Rattle.scene_core.specs.Scene.{SceneView, label_or, label_of}
use Rattle.scene_core.specs.Shape.{declared_by}
use Rattle.scene_core.specs.Typed.{values_of}
use Rattle.laws_written.specs.Labels.{LabelsAreDistinct}
use Rattle.laws_written.proofs.Lists.{all_append, all_at, some_is}
use Rattle.laws_written.proofs.TextNames.{number_numbered}
use Rattle.laws_written.proofs.Steps.{bind_is, ok_is, numbers_of, scene_is}

abbrev Label : Type 0
Label = Option (List ℕ)

-- ---- how many items pass a test

module _ {A : Type 0} (p : A → Bool) where
  hits : List A → ℕ
  hits [] = 0
  hits (x ∷ xs) = cond (p x) (1 + hits xs) (hits xs)

  hits_are : (xs : List A) → hits xs ≡ count_by p xs
  unfolding hits
  hits_are xs = is_count_by hits p refl (λ x ys. refl) xs

  head_hit : (b : Bool) (n : ℕ) → b ≡ true → n + 1 ≤ cond b (1 + n) n
  head_hit true n h = omega arith
  head_hit false n h = absurd cc

  more_hit : (b : Bool) (n k : ℕ) → k ≤ n → k ≤ cond b (1 + n) n
  more_hit true n k h = omega (arith, h)
  more_hit false n k h = h

  once : (xs : List A) (i : ℕ) (x : A) → slice_get xs i ≡ Some x → p x ≡ true → 1 ≤ hits xs
  unfolding hits
  once [] i x e h = absurd cc
  once (y ∷ ys) zero x e h =
      let g = head_hit (p y) (hits ys) (subst (λ (z : A). p z ≡ true) (sym (some_is y x e)) h) in omega (arith, g)
  once (y ∷ ys) (suc i) x e h = more_hit (p y) (hits ys) 1 (once ys i x e h)

  twice : (xs : List A) (i j : ℕ) (x y : A) → i < j → slice_get xs i ≡ Some x → slice_get xs j ≡ Some y → p x ≡ true → p y ≡ true → 2 ≤ hits xs
  unfolding hits
  twice [] i j x y l e f g h = absurd cc
  twice (z ∷ zs) zero zero x y l e f g h = absurd (omega (arith, l))
  twice (z ∷ zs) zero (suc j) x y l e f g h =
      let a = head_hit (p z) (hits zs) (subst (λ (k : A). p k ≡ true) (sym (some_is z x e)) g) in
      let b = once zs j y f h in omega (arith, a, b)
  twice (z ∷ zs) (suc i) zero x y l e f g h = absurd (omega (arith, l))
  twice (z ∷ zs) (suc i) (suc j) x y l e f g h = more_hit (p z) (hits zs) 2 (twice zs i j x y (omega (arith, l)) e f g h)

-- ---- what nodes are called

-- these nodes, the first of which has that number, are called as if they kept these names
pub Called : ℕ → List SceneNode → List Label → Type 0
Called number [] [] = Unit {0}
Called number [] (l ∷ ls) = ⊥
Called number (n ∷ ns) [] = ⊥
Called number (n ∷ ns) (l ∷ ls) = (label_or number n.label ≡ label_or number l) × Called (number + 1) ns ls

called_more : (number : ℕ) (ns : List SceneNode) (ls : List Label) (n : SceneNode) (l : Label) → Called number ns ls
    → label_or (number + length ns) n.label ≡ label_or (number + length ns) l → Called number (ns ++ n ∷ []) (ls ++ l ∷ [])
unfolding Called
called_more number [] [] n l h e = let here : number + 0 ≡ number = omega arith in (subst (λ (k : ℕ). label_or k n.label ≡ label_or k l) here e, tt)
called_more number [] (k ∷ ks) n l h e = absurd h
called_more number (m ∷ ms) [] n l h e = absurd h
called_more number (m ∷ ms) (k ∷ ks) n l h e =
    let here : number + suc (length ms) ≡ number + 1 + length ms = omega arith in
    (h.0, called_more (number + 1) ms ks n l h.1 (subst (λ (i : ℕ). label_or i n.label ≡ label_or i l) here e))

called_at : (number : ℕ) (ns : List SceneNode) (ls : List Label) → Called number ns ls → (i : ℕ) → i < length ns
    → (l : Label) × (slice_get ls i ≡ Some l) × (label_or (number + i) (option_and_then (λ (n : SceneNode). n.label) (slice_get ns i)) ≡ label_or (number + i) l)
unfolding Called
called_at number [] ls h i low = absurd (omega (arith, low))
called_at number (n ∷ ns) [] h i low = absurd h
called_at number (n ∷ ns) (l ∷ ls) h zero low =
    let here : number ≡ number + 0 = omega arith in (l, refl, subst (λ (k : ℕ). label_or k n.label ≡ label_or k l) here h.0)
called_at number (n ∷ ns) (l ∷ ls) h (suc i) low =
    let r = called_at (number + 1) ns ls h.1 i (omega (arith, low)) in
    let here : number + 1 + i ≡ number + suc i = omega arith in
    (r.0, r.1, subst (λ (k : ℕ). label_or k (option_and_then (λ (m : SceneNode). m.label) (slice_get ns i)) ≡ label_or k r.0) here r.2)

-- ---- the labels of a scene's nodes: a node that keeps its own number is called so without it too

abbrev lone_label : (List ℕ → Bool) → Label → Label
lone_label alone None = None
lone_label alone (Some name) = if alone name && not (is_numbered name) then Some name else None

same_label : (alone : List ℕ → Bool) (number : ℕ) (l : Label) → label_or number (label_by (is_label alone number) l) ≡ label_or number (lone_label alone l)
same_label alone number None = refl
same_label alone number (Some name) = same_if (alone name && not (is_numbered name)) (bytes_eq name (label_or number None)) refl where
  same_if : (a b : Bool) → bytes_eq name (label_or number None) ≡ b → label_or number (if a || b then Some name else None) ≡ label_or number (if a then Some name else None)
  same_if true b e = refl
  same_if false true e = (bytes_eq-Decides name (label_or number None)).0 e
  same_if false false e = refl

abbrev one_label : (List ℕ → Bool) → Option FlatNode → List Label
one_label alone None = []
one_label alone (Some node) = lone_label alone node.name ∷ []

module _ (nodes : List FlatNode) (numbers : List ℕ) (alone : List ℕ → Bool) where
  abbrev labels_from : List ℕ → List Label
  labels_from order = flat_map (λ n. one_label alone (slice_get nodes n)) order

  abbrev scene_node : (List ℕ → Bool) → FlatNode → List (Option Value) → SceneNode
  scene_node keeps node values =
      record { node_type = node.node_type; label = label_by keeps node.name; declared = map declared_by node.interface; values = values }

  label_is : (keeps : List ℕ → Bool) (node : FlatNode) (n : SceneNode) → node_of nodes numbers keeps node ≡ Ok n → n.label ≡ label_by keeps node.name
  label_is keeps node n h =
      let b = bind_is (values_of nodes numbers node) (λ values. Ok (scene_node keeps node values)) n h in
      sym (ap (λ (m : SceneNode). m.label) (ok_is (scene_node keeps node b.0) n b.2))

  with_label : (o : Option FlatNode) (made more : List SceneNode) (ls : List Label) → with_node nodes numbers alone o made ≡ Ok more
      → Called 0 made ls → Called 0 more (ls ++ one_label alone o)
  with_label None made more ls h c =
      subst (λ (l : List Label). Called 0 more l) (sym (append-nil ls)) (subst (λ (m : List SceneNode). Called 0 m ls) (ok_is made more h) c)
  with_label (Some node) made more ls h c =
      let b = bind_is (node_of nodes numbers (is_label alone (length made)) node) (λ n. Ok (made ++ n ∷ [])) more h in
      let here : length made ≡ 0 + length made = omega arith in
      subst (λ (m : List SceneNode). Called 0 m (ls ++ one_label alone (Some node))) (ok_is (made ++ b.0 ∷ []) more b.2)
      (called_more 0 made ls b.0 (lone_label alone node.name) c
      (subst (λ (k : ℕ). label_or k b.0.label ≡ label_or k (lone_label alone node.name)) here
      (ap (λ (l : Label). label_or (length made) l) (label_is (is_label alone (length made)) node b.0 b.1) ∙ same_label alone (length made) node.name)))

  labels_are : (order : List ℕ) (made all : List SceneNode) (ls : List Label)
      → through (λ n made. with_node nodes numbers alone (slice_get nodes n) made) order made ≡ Ok all → Called 0 made ls → Called 0 all (ls ++ labels_from order)
  labels_are [] made all ls h c =
      subst (λ (l : List Label). Called 0 all l) (sym (append-nil ls)) (subst (λ (m : List SceneNode). Called 0 m ls) (ok_is made all h) c)
  labels_are (n ∷ ns) made all ls h c =
      let b = bind_is (with_node nodes numbers alone (slice_get nodes n) made)
      (λ more. through (λ n made. with_node nodes numbers alone (slice_get nodes n) made) ns more) all h in
      subst (λ (l : List Label). Called 0 all l) (append_assoc ls (one_label alone (slice_get nodes n)) (labels_from ns))
      (labels_are ns b.0 all (ls ++ one_label alone (slice_get nodes n)) b.2 (with_label (slice_get nodes n) made b.0 ls b.1 c))

  -- ---- these labels are names that one node alone has

  abbrev IsKept : Label → Type 0
  IsKept None = Unit {0}
  IsKept (Some name) = (alone name ≡ true) × (is_numbered name ≡ false)

  kept_if : (a b : Bool) (name : List ℕ) → alone name ≡ a → is_numbered name ≡ b → IsKept (if a && not b then Some name else None)
  kept_if true false name h k = (h, k)
  kept_if true true name h k = tt
  kept_if false b name h k = tt

  kept : (name : Label) → IsKept (lone_label alone name)
  kept None = tt
  kept (Some name) = kept_if (alone name) (is_numbered name) name refl refl

  one_kept : (o : Option FlatNode) → AllByRecursion IsKept (one_label alone o)
  one_kept None = tt
  one_kept (Some node) = (kept node.name, tt)

  all_kept : (order : List ℕ) → AllByRecursion IsKept (labels_from order)
  all_kept [] = tt
  all_kept (n ∷ ns) = all_append IsKept (one_label alone (slice_get nodes n)) (labels_from ns) (one_kept (slice_get nodes n)) (all_kept ns)

  -- ---- a name stands among the labels no more often than among the names

  module _ (name : List ℕ) where
    abbrev same : List ℕ → Bool
    same other = bytes_eq other name

    abbrev is_same : Label → Bool
    is_same None = false
    is_same (Some other) = bytes_eq other name

    fewer_if : (keep b : Bool) (other : List ℕ) (m n : ℕ) → bytes_eq other name ≡ b → m ≤ n
        → cond (is_same (if keep then Some other else None)) (1 + m) m ≤ cond b (1 + n) n
    fewer_if true true other m n e l = rw e (omega (arith, l))
    fewer_if true false other m n e l = rw e l
    fewer_if false true other m n e l = omega (arith, l)
    fewer_if false false other m n e l = l

    fewer_name : (l : Label) (ls : List Label) (ns : List (List ℕ)) → hits is_same ls ≤ hits same ns
        → hits is_same (lone_label alone l ∷ ls) ≤ hits same (cons_option l ns)
    unfolding hits
    fewer_name None ls ns h = h
    fewer_name (Some other) ls ns h =
        fewer_if (alone other && not (is_numbered other)) (bytes_eq other name) other (hits is_same ls) (hits same ns) refl h

    fewer_one : (o : Option FlatNode) (ls : List Label) (ns : List (List ℕ)) → hits is_same ls ≤ hits same ns
        → hits is_same (one_label alone o ++ ls) ≤ hits same (cons_option (option_and_then (λ (node : FlatNode). node.name) o) ns)
    fewer_one None ls ns h = h
    fewer_one (Some node) ls ns h = fewer_name node.name ls ns h

    fewer : (order : List ℕ) → hits is_same (labels_from order) ≤ hits same (names_of nodes order)
    unfolding hits
    fewer [] = omega arith
    fewer (n ∷ ns) = fewer_one (slice_get nodes n) (labels_from ns) (names_of nodes ns) (fewer ns)

-- ---- labels by the number of the node

number_is : (m n : ℕ) → m < 2 ^ 64 → n < 2 ^ 64 → decimal m ≡ decimal n → m ≡ n
number_is m n p q e =
    sym (decimal_is_IsNumeral m p).1 ∙ (ap (λ ds. digits_value 10 ds) e ∙ (decimal_is_IsNumeral n q).1)

numbered_label : (n : ℕ) → n < 2 ^ 64 → is_numbered (codes "N" ++ decimal n) ≡ true
numbered_label n h = number_numbered n h

rest_is : (xs ys : List ℕ) → (78 ∷ xs) ≡ (78 ∷ ys) → xs ≡ ys
rest_is xs ys e = cc

module _ (nodes : List FlatNode) (order : List ℕ) where
  abbrev lone : List ℕ → Bool
  lone = is_alone (names_of nodes order)

  abbrev ls : List Label
  ls = labels_from nodes [] lone order

  -- one place alone has the label
  not_twice : (name : List ℕ) (i j : ℕ) → i < j → slice_get ls i ≡ Some (Some name) → slice_get ls j ≡ Some (Some name) → lone name ≡ true → ⊥
  not_twice name i j l e f a =
      let here : bytes_eq name name ≡ true = (bytes_eq-Decides name name).1 refl in
      let two = twice (is_same nodes [] lone name) ls i j (Some name) (Some name) l e f here here in
      let all = fewer nodes [] lone name order in
      let names = hits_are (same nodes [] lone name) (names_of nodes order) in
      let one : count_by (λ other. bytes_eq other name) (names_of nodes order) ≡ 1 =
      eqb-true (count_by (λ other. bytes_eq other name) (names_of nodes order)) 1 a in
      omega (arith, two, all, names, one)

  told_apart : (i j : ℕ) (a b : Label) → i < 2 ^ 64 → j < 2 ^ 64 → slice_get ls i ≡ Some a → slice_get ls j ≡ Some b
      → IsKept nodes [] lone a → IsKept nodes [] lone b → i < j → label_or i a ≡ label_or j b → ⊥
  told_apart i j None None p q e f k h l s = let same = number_is i j p q (rest_is (decimal i) (decimal j) s) in omega (arith, same, l)
  told_apart i j None (Some name) p q e f k h l s =
      let n : is_numbered name ≡ true = subst (λ (t : List ℕ). is_numbered t ≡ true) s (numbered_label i p) in
      true≢false (sym n ∙ h.1)
  told_apart i j (Some name) None p q e f k h l s =
      let n : is_numbered name ≡ true = subst (λ (t : List ℕ). is_numbered t ≡ true) (sym s) (numbered_label j q) in
      true≢false (sym n ∙ k.1)
  told_apart i j (Some name) (Some other) p q e f k h l s =
      not_twice name i j l e (f ∙ ap (λ (t : List ℕ). Some (Some t)) (sym s)) k.0

  label_at : (made : List SceneNode) (n : ℕ) → n < length made → Called 0 made ls → (a : Label) × (slice_get ls n ≡ Some a)
      × (label_or n (option_and_then (λ (m : SceneNode). m.label) (slice_get made n)) ≡ label_or n a)
  label_at made n h c =
      let a = called_at 0 made ls c n h in
      let here : 0 + n ≡ n = omega arith in
      (a.0, a.1, subst (λ (k : ℕ). label_or k (option_and_then (λ (m : SceneNode). m.label) (slice_get made n)) ≡ label_or k a.0) here a.2)

apart_by : (i j : ℕ) → (i < j → ⊥) → (j < i → ⊥) → i ≡ j
apart_by i j a b = apart_cases (cases_lt i j) (cases_lt j i) where
  apart_cases : (i < j) ⊎ (j ≤ i) → (j < i) ⊎ (i ≤ j) → i ≡ j
  apart_cases (inl l) m = absurd (a l)
  apart_cases (inr l) (inl m) = absurd (b m)
  apart_cases (inr l) (inr m) = omega (arith, l, m)

module _ (nodes : List FlatNode) (s : Numbering) where
  abbrev all_labels : List Label
  all_labels = ls nodes s.order

  abbrev Alone : List ℕ → Bool
  Alone = lone nodes s.order

  nodes_labelled : (made : List SceneNode) → nodes_of nodes s ≡ Ok made → Called 0 made all_labels
  unfolding nodes_by Called
  nodes_labelled made h = labels_are nodes s.numbers Alone s.order [] made [] h tt

  pub distinct : (made : List SceneNode) → Called 0 made all_labels → length made ≤ 2 ^ 64 → (m n : ℕ) → m < length made → n < length made
      → label_or m (option_and_then (λ (k : SceneNode). k.label) (slice_get made m)) ≡ label_or n (option_and_then (λ (k : SceneNode). k.label) (slice_get made n))
      → m ≡ n
  distinct made e few m n p q same =
      let a = label_at nodes s.order made m p e in
      let b = label_at nodes s.order made n q e in
      let k : IsKept nodes [] Alone a.0 = all_at (IsKept nodes [] Alone) all_labels m a.0 (all_kept nodes [] Alone s.order) a.1 in
      let l : IsKept nodes [] Alone b.0 = all_at (IsKept nodes [] Alone) all_labels n b.0 (all_kept nodes [] Alone s.order) b.1 in
      let called : label_or m a.0 ≡ label_or n b.0 = sym a.2 ∙ (same ∙ b.2) in
      let x : m < 2 ^ 64 = omega (arith, few, p) in
      let y : n < 2 ^ 64 = omega (arith, few, q) in
      apart_by m n (λ c. told_apart nodes s.order m n a.0 b.0 x y a.1 b.1 k l c called)
      (λ c. told_apart nodes s.order n m b.0 a.0 y x b.1 a.1 l k c (sym called))

pub labels_are_distinct : LabelsAreDistinct
unfolding label_of
labels_are_distinct flat scene h few m n p q same =
    let i = scene_is flat scene h in
    let s : Numbering = numbers_of flat in
    let e : i.nodes ≡ scene.nodes = ap (λ (v : SceneView). v.nodes) i.is in
    let labelled : Called 0 scene.nodes (all_labels flat.nodes s) =
    subst (λ (made : List SceneNode). Called 0 made (all_labels flat.nodes s)) e (nodes_labelled flat.nodes s i.nodes i.made) in
    distinct flat.nodes s scene.nodes labelled few m n p q same
