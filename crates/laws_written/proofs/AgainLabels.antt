-- The labels of the scene that is read again.
use Rattle.std.proofs.Common.{◌≡◌, ℕ, zero, suc, ◌+◌, ◌<◌, ◌≤◌, ◌^◌, nat_le, Bool, true, false, cond, not, ◌&&◌, ◌||◌, if◌then◌else◌, List, [], ◌∷◌, length, Option, Some, None, Ok, slice_get, refl, sym, ap, subst, ◌∙◌, ◌⊎◌, inl, inr, arith, eq-eqb}
use Rattle.std.specs.Prelude.{is_some}
use Rattle.std.specs.List.{cons_option, count_by, filter_map, flat_map, range_with_len}
use Rattle.std.specs.Option.{option_and_then}
use Rattle.std.specs.Str.{bytes_eq}
use Rattle.std.proofs.lemmas.Bool.{cases_lt}
use Rattle.std.proofs.lemmas.List.Recursion.{is_count_by}
use Rattle.std.proofs.lemmas.Slice.Eq.{bytes_eq-Decides}
use Rattle.x3d_values.specs.declared.fields.Fields.{Fields}
use Rattle.x3d_values.specs.declared.node_type.NodeType.{NodeType}
use Rattle.x3d_values.specs.Tables.{AreTyped, rows}
use Rattle.proto_flat.specs.declared.flat.Flat.{Flat}
use Rattle.proto_flat.specs.declared.flat.FlatNode.{FlatNode}
use Rattle.scene_core.specs.declared.numbering.Numbering.{Numbering}
use Rattle.scene_core.specs.declared.scene.Route.{Route}
use Rattle.scene_core.specs.declared.scene.SceneNode.{SceneNode}
use Rattle.scene_core.specs.Building.{scene_of}
use Rattle.scene_core.specs.Labels.{is_alone, is_numbered, is_own_number, label_by, name_at}
use Rattle.scene_core.specs.Scene.{SceneView, label_of, label_or, name_at as kept_name}
use Rattle.scene_text.specs.Places.{ends_of, is_named, places, times}
use Rattle.laws_written.proofs.NumberedLists.{some_is}
use Rattle.laws_written.proofs.NumbersInOrder.{equal}
use Rattle.laws_written.proofs.NumberedScenes.{alone_in, found, label_in, scene_is}
use Rattle.laws_written.specs.Defaults.{LeftOutAreDefaults}
use Rattle.laws_written.specs.Labels.{LabelsAreDistinct}
use Rattle.laws_written.specs.Values.{WrittenNodesAreTyped}
use Rattle.laws_written.specs.Writable.{AreKeepable}
use Rattle.laws_written.specs.Braces.{written_name}
use Rattle.laws_written.specs.NodesFlats.{IsFlatOf}
use Rattle.laws_written.specs.Nodes.{switch_root}
use Rattle.laws_written.specs.FieldsFlats.{HasFieldsOf}
use Rattle.laws_written.specs.Sound.{AreOfType, AreSound}
use Rattle.laws_written.proofs.Next.{three}
use Rattle.laws_written.proofs.AgainNumbered.{again_is, last_is, many, numbered_in_place}
use Rattle.laws_written.proofs.Present.{made_of}

-- ---- a name that one node alone has

beyond : (a b : ℕ) → a ≤ b → (a ≡ b → ⊥) → a + 1 ≤ b
beyond a b l n = by_lt (cases_lt a b) where
  by_lt : (a < b) ⊎ (b ≤ a) → a + 1 ≤ b
  by_lt (inl m) = omega (arith, m)
  by_lt (inr m) = absurd (n (omega (arith, l, m)))

module _ (l : List ℕ) where
  abbrev hits : List (List ℕ) → ℕ
  hits [] = 0
  hits (x ∷ xs) = cond (bytes_eq x l) (1 + hits xs) (hits xs)

  hits_are : (xs : List (List ℕ)) → hits xs ≡ count_by (λ other. bytes_eq other l) xs
  hits_are xs = is_count_by hits (λ other. bytes_eq other l) refl (λ x ys. refl) xs

  add_other : (o : Option (List ℕ)) (xs : List (List ℕ)) → ((x : List ℕ) → o ≡ Some x → x ≡ l → ⊥) → hits (cons_option o xs) ≡ hits xs
  add_other None xs k = refl
  add_other (Some x) xs k = by_test (bytes_eq x l) refl where
    by_test : (b : Bool) → bytes_eq x l ≡ b → cond (bytes_eq x l) (1 + hits xs) (hits xs) ≡ hits xs
    by_test false e = ap (λ (c : Bool). cond c (1 + hits xs) (hits xs)) e
    by_test true e = absurd (k x refl ((bytes_eq-Decides x l).0 e))

  add_own : (o : Option (List ℕ)) (xs : List (List ℕ)) → o ≡ Some l → hits (cons_option o xs) ≡ 1 + hits xs
  add_own o xs e =
      ap (λ (p : Option (List ℕ)). hits (cons_option p xs)) e
      ∙ ap (λ (c : Bool). cond c (1 + hits xs) (hits xs)) ((bytes_eq-Decides l l).1 refl)

  module _ (f : ℕ → Option (List ℕ)) where
    no_hit : (from many : ℕ) → ((j : ℕ) → from ≤ j → j < from + many → (x : List ℕ) → f j ≡ Some x → x ≡ l → ⊥) → hits (filter_map f (range_with_len from many)) ≡ 0
    no_hit from zero k = refl
    no_hit from (suc many) k =
        add_other (f from) (filter_map f (range_with_len (from + 1) many)) (λ x e h. k from (omega arith) (omega arith) x e h)
        ∙ no_hit (from + 1) many (λ j a b x e h. k j (omega (arith, a)) (omega (arith, b)) x e h)

    one_hit : (from many i : ℕ) → from ≤ i → i < from + many → f i ≡ Some l → ((j : ℕ) → from ≤ j → j < from + many → (x : List ℕ) → f j ≡ Some x → x ≡ l → j ≡ i)
        → hits (filter_map f (range_with_len from many)) ≡ 1
    one_hit from zero i low high is k = absurd (omega (arith, low, high))
    one_hit from (suc many) i low high is k = by_place (one_hit (from + 1) many i) (equal from i) where
      by_place : (from + 1 ≤ i → i < from + 1 + many → f i ≡ Some l
          → ((j : ℕ) → from + 1 ≤ j → j < from + 1 + many → (x : List ℕ) → f j ≡ Some x → x ≡ l → j ≡ i) → hits (filter_map f (range_with_len (from + 1) many)) ≡ 1)
          → (from ≡ i) ⊎ (from ≡ i → ⊥) → hits (cons_option (f from) (filter_map f (range_with_len (from + 1) many))) ≡ 1
      by_place more (inl e) =
          let rest = no_hit (from + 1) many (λ j a b x at h. (let same = k j (omega (arith, a)) (omega (arith, b)) x at h in omega (arith, a, e, same))) in
          let first = add_own (f from) (filter_map f (range_with_len (from + 1) many)) (ap f e ∙ is) in
          omega (arith, rest, first)
      by_place more (inr n) =
          add_other (f from) (filter_map f (range_with_len (from + 1) many)) (λ x at h. n (k from (omega arith) (omega arith) x at h))
          ∙ more (beyond from i low n) (omega (arith, high)) is (λ j a b x at h. k j (omega (arith, a)) (omega (arith, b)) x at h)

    pub alone : (many i : ℕ) → i < many → f i ≡ Some l → ((j : ℕ) → j < many → (x : List ℕ) → f j ≡ Some x → x ≡ l → j ≡ i)
        → is_alone (filter_map f (range_with_len 0 many)) l ≡ true
    alone many i low is k =
        let one = one_hit 0 many i (omega arith) (omega (arith, low)) is (λ j a b x at h. k j (omega (arith, b)) x at h) in
        eq-eqb (count_by (λ other. bytes_eq other l) (filter_map f (range_with_len 0 many))) 1 (sym (hits_are (filter_map f (range_with_len 0 many))) ∙ one)

-- ---- the name that a node keeps

kept_if : (keeps : List ℕ → Bool) (b : Bool) (name l : List ℕ) → keeps name ≡ b → (if b then Some name else None) ≡ Some l → keeps l ≡ true
kept_if keeps true name l e h = subst (λ (x : List ℕ). keeps x ≡ true) (some_is name l h) e
kept_if keeps false name l e h = absurd cc

kept_so : (keeps : List ℕ → Bool) (o : Option (List ℕ)) (l : List ℕ) → label_by keeps o ≡ Some l → keeps l ≡ true
kept_so keeps None l h = absurd cc
kept_so keeps (Some name) l h = kept_if keeps (keeps name) name l refl h

or_second : (a b : Bool) → b ≡ true → (a || b) ≡ true
or_second true b h = refl
or_second false b h = h

-- what was a label by its number or alone is one where it is alone too
still : (first lone own : Bool) (plain : Bool) → ((first && plain) || own) ≡ true → (plain ≡ true → lone ≡ true) → ((lone && plain) || own) ≡ true
still first lone true plain h k = or_second (lone && plain) true refl
still first lone false true h k = ap (λ (b : Bool). (b && true) || false) (k refl)
still true lone false false h k = absurd cc
still false lone false false h k = absurd cc

named_is : (b : Bool) (l x : List ℕ) → (if b then Some l else None) ≡ Some x → x ≡ l
named_is true l x h = sym (some_is l x h)
named_is false l x h = absurd cc

-- ---- the labels of the nodes

module _ (from : Flat) (s : SceneView) (routes : List Route) (state : List Fields) (again : Flat) (is_scene : scene_of from ≡ Ok s) (kept : AreKeepable state)
    (of_type : AreOfType s state) (sound : AreSound s) (table : (t : NodeType) → AreTyped (rows t)) (same : IsFlatOf s routes again) (filled : HasFieldsOf s state again)
    (none : again.helpers ≡ []) (next : SceneView) (is_next : scene_of again ≡ Ok next) (typed_again : WrittenNodesAreTyped) (left_out : LeftOutAreDefaults)
    (few : length s.nodes ≤ 2 ^ 64) (distinct : LabelsAreDistinct) where
  abbrev count : ℕ
  count = length s.nodes

  as_many : length again.nodes ≡ count + length (switch_root count s.helpers)
  as_many = many from s routes state again is_scene kept of_type sound table same filled none

  own_name : (j : ℕ) → j < count → name_at again.nodes j ≡ written_name s routes j
  own_name j l =
      let node = found s.nodes j l in
      let g = found again.nodes j (omega (arith, as_many, l)) in
      let a = again_is from s routes state again is_scene kept of_type sound table same filled none j node.0 g.0 node.1 g.1 in
      ap (λ (o : Option FlatNode). option_and_then (λ (x : FlatNode). x.name) o) g.1 ∙ a.name

  last_name : (hs : List ℕ) → s.helpers ≡ hs → (j : ℕ) → count ≤ j → j < length again.nodes → name_at again.nodes j ≡ None
  last_name [] e j l m =
      let k : length again.nodes ≡ count = as_many ∙ (ap (λ (hs : List ℕ). count + length (switch_root count hs)) e ∙ omega arith) in
      absurd (omega (arith, l, m, k))
  last_name (h ∷ hs) e j l m =
      let k : length again.nodes ≡ count + 1 = as_many ∙ ap (λ (hs : List ℕ). count + length (switch_root count hs)) e in
      let here : j ≡ count = omega (arith, l, m, k) in
      let g = found again.nodes count (omega (arith, k)) in
      let a = last_is from s routes state again is_scene kept of_type sound table same filled none h hs g.0 e g.1 in
      ap (λ (i : ℕ). name_at again.nodes i) here ∙ (ap (λ (o : Option FlatNode). option_and_then (λ (x : FlatNode). x.name) o) g.1 ∙ a.name)

  none_some : (x : List ℕ) (o : Option (List ℕ)) → o ≡ None → o ≡ Some x → ⊥
  none_some x o h k = absurd cc

  one_alone : (n : ℕ) → n < count → (l : List ℕ) → name_at again.nodes n ≡ Some l → label_of s n ≡ l → alone_in again l ≡ true
  one_alone n low l is labelled =
      ap (λ (x : Numbering). is_alone (filter_map (name_at again.nodes) x.order) l) (numbered_in_place from s routes state again is_scene kept of_type sound table same filled none)
      ∙ alone l (name_at again.nodes) (length again.nodes) n (omega (arith, as_many, low)) is (λ j m x at h. by_place j m x at h (cases_lt j count)) where
        by_place : (j : ℕ) → j < length again.nodes → (x : List ℕ) → name_at again.nodes j ≡ Some x → x ≡ l → (j < count) ⊎ (count ≤ j) → j ≡ n
        by_place j m x at h (inl below) =
            let x_is : x ≡ label_of s j = named_is (is_named s routes j) (label_of s j) x (sym (own_name j below) ∙ at) in
            distinct from s is_scene few j n below low (sym x_is ∙ (h ∙ sym labelled))
        by_place j m x at h (inr above) = absurd (none_some x (name_at again.nodes j) (last_name s.helpers refl j above m) at)

  -- the label of a node that is written with a DEF is its label again
  label_again : (n : ℕ) → n < count → is_named s routes n ≡ true → (node : SceneNode) → slice_get s.nodes n ≡ Some node → (o : Option (List ℕ)) → node.label ≡ o
      → label_in again n (label_of s n) ≡ true
  unfolding label_of
  label_again n low named node is (Some l) e =
      let labelled : label_of s n ≡ l =
      ap (λ (x : Option SceneNode). label_or n (option_and_then (λ (m : SceneNode). m.label) x)) is ∙ ap (λ (x : Option (List ℕ)). label_or n x) e in
      let written : name_at again.nodes n ≡ Some l =
      own_name n low ∙ (ap (λ (b : Bool). if b then Some (label_of s n) else None) named ∙ ap (λ (x : List ℕ). Some x) labelled) in
      let m = made_of from s is_scene table n node is in
      let before : label_in from n l ≡ true = kept_so (label_in from n) m.0.name l (sym m.1.label ∙ e) in
      ap (label_in again n) labelled
      ∙ still (alone_in from l) (alone_in again l) (is_own_number n l) (not (is_numbered l)) before (λ plain. one_alone n low l written labelled)
  label_again n low named node is None e =
      let labelled : label_of s n ≡ label_or n None =
      ap (λ (x : Option SceneNode). label_or n (option_and_then (λ (m : SceneNode). m.label) x)) is ∙ ap (λ (x : Option (List ℕ)). label_or n x) e in
      ap (label_in again n) labelled
      ∙ or_second (alone_in again (label_or n None) && not (is_numbered (label_or n None))) (is_own_number n (label_or n None)) ((bytes_eq-Decides (label_or n None) (label_or n None)).1 refl)

  -- the name that is written is kept
  name_kept : (n : ℕ) → n < count → (b : Bool) → is_named s routes n ≡ b
      → label_by (label_in again n) (if b then Some (label_of s n) else None) ≡ (if b then Some (label_of s n) else None)
  name_kept n low true named =
      let node = found s.nodes n low in
      ap (λ (c : Bool). if c then Some (label_of s n) else None) (label_again n low named node.0 node.1 node.0.label refl)
  name_kept n low false named = refl

  pub next_names : (n : ℕ) → n < count → kept_name next n ≡ written_name s routes n
  next_names n low =
      let node = found s.nodes n low in
      let x = three from s routes state again is_scene kept of_type sound table same filled none next (scene_is again next is_next) typed_again left_out n node.0 node.1 in
      let g_name : x.g.name ≡ written_name s routes n = sym (ap (λ (o : Option FlatNode). option_and_then (λ (g : FlatNode). g.name) o) x.flat_at) ∙ own_name n low in
      ap (λ (o : Option SceneNode). option_and_then (λ (m : SceneNode). m.label) o) x.next_at
      ∙ (x.read.is.label ∙ (ap (label_by (label_in again n)) g_name ∙ name_kept n low (is_named s routes n) refl))

  -- a node without a DEF is called by its number, in both scenes
  label_by_name : (n : ℕ) (o : Option (List ℕ)) (other : Bool) → label_or n (if is_some o || other then Some (label_or n o) else None) ≡ label_or n o
  label_by_name n (Some l) other = refl
  label_by_name n None true = refl
  label_by_name n None false = refl

  pub next_labels : (n : ℕ) → n < count → label_of next n ≡ label_of s n
  unfolding label_of
  next_labels n low =
      ap (λ (o : Option (List ℕ)). label_or n o) (next_names n low)
      ∙ label_by_name n (option_and_then (λ (m : SceneNode). m.label) (slice_get s.nodes n)) (nat_le 1 (times n (flat_map ends_of routes)) || nat_le 2 (times n (places s)))
