-- A Switch has room above the helpers of a scene that was written and read again: there they stand
-- in one node more, and no chain is too long.
use Rattle.std.proofs.Common.{◌≡◌, ℕ, zero, suc, ◌-◌, Bool, true, false, not, ◌&&◌, ◌||◌, List, [], ◌∷◌, ◌++◌, map, Option, refl, sym, ap, subst, ◌∙◌}
use Rattle.std.specs.Prelude.{slice_index_or}
use Rattle.std.specs.List.{flat_map, list_all, list_any}
use Rattle.x3d_values.specs.declared.value.Value.{Value}
use Rattle.x3d_values.specs.Ranges.{max_depth}
use Rattle.scene_core.specs.declared.scene.SceneNode.{SceneNode}
use Rattle.scene_core.specs.Deep.{deeper_than, leads_to, linked}
use Rattle.laws_written.specs.Children.{children}
use Rattle.laws_written.proofs.NumberedScenes.{scene_is}
use Rattle.laws_written.specs.WrittenTexts.{has_room}
use Rattle.laws_written.specs.Nodes.{in_switch}
use Rattle.laws_written.specs.Room.{ScenesAgainHaveRoom}

-- ---- tests

neither : (a b : Bool) → (a || b) ≡ false → (a ≡ false) × (b ≡ false)
neither false b e = (refl, e)
neither true b e = absurd cc

or_right : (a b : Bool) → b ≡ true → (a || b) ≡ true
or_right true b e = refl
or_right false b e = e

or_assoc : (a b c : Bool) → ((a || b) || c) ≡ (a || (b || c))
or_assoc true b c = refl
or_assoc false b c = refl

either_more : (a b c d : Bool) → (a ≡ true → b ≡ true) → (c ≡ true → d ≡ true) → (a || c) ≡ true → (b || d) ≡ true
either_more true b c d k l h = ap (λ (x : Bool). x || d) (k refl)
either_more false b c d k l h = or_right b d (l h)

-- what a test is not, no narrower one is
not_by : (a b : Bool) → (a ≡ true → b ≡ true) → b ≡ false → not a ≡ true
not_by false b k e = refl
not_by true true k e = absurd cc
not_by true false k e = absurd (wrong (k refl)) where
  wrong : false ≡ true → ⊥
  wrong h = cc

-- ---- chains by the nodes that stand in each node

-- one of these is marked
abbrev any_in : List Bool → List ℕ → Bool
any_in marks ns = list_any (λ n. slice_index_or marks n false) ns

-- of each node, whether a chain of more than that many nodes begins there
abbrev deep_by : List (List ℕ) → ℕ → List Bool
deep_by inner zero = map (λ _. true) inner
deep_by inner (suc d) = map (any_in (deep_by inner d)) inner

any_joined : (marks : List Bool) (ns ms : List ℕ) → any_in marks (ns ++ ms) ≡ (any_in marks ns || any_in marks ms)
any_joined marks [] ms = refl
any_joined marks (n ∷ ns) ms =
    ap (λ (b : Bool). slice_index_or marks n false || b) (any_joined marks ns ms)
    ∙ sym (or_assoc (slice_index_or marks n false) (any_in marks ns) (any_in marks ms))

any_linked : (marks : List Bool) (values : List (Option Value))
    → list_any (λ value. list_any (λ n. slice_index_or marks n false) (linked value)) values ≡ any_in marks (flat_map linked values)
any_linked marks [] = refl
any_linked marks (v ∷ values) =
    ap (λ (b : Bool). any_in marks (linked v) || b) (any_linked marks values) ∙ sym (any_joined marks (linked v) (flat_map linked values))

leads_are : (marks : List Bool) (nodes : List SceneNode) → map (leads_to marks) nodes ≡ map (any_in marks) (map children nodes)
leads_are marks [] = refl
leads_are marks (n ∷ nodes) =
    ap (λ (b : Bool). b ∷ map (leads_to marks) nodes) (any_linked marks n.values)
    ∙ ap (λ (l : List Bool). any_in marks (children n) ∷ l) (leads_are marks nodes)

marks_are : (nodes : List SceneNode) → map (λ (n : SceneNode). true) nodes ≡ map (λ (ns : List ℕ). true) (map children nodes)
marks_are [] = refl
marks_are (n ∷ nodes) = ap (λ (l : List Bool). true ∷ l) (marks_are nodes)

chains_are : (nodes : List SceneNode) (d : ℕ) → deeper_than nodes d ≡ deep_by (map children nodes) d
unfolding deeper_than
chains_are nodes zero = marks_are nodes
chains_are nodes (suc d) =
    ap (λ (marks : List Bool). map (leads_to marks) nodes) (chains_are nodes d) ∙ leads_are (deep_by (map children nodes) d) nodes

-- ---- one node more

-- what the first marks, the second does
abbrev Marks : List Bool → List Bool → Type 0
Marks bs cs = (n : ℕ) → slice_index_or bs n false ≡ true → slice_index_or cs n false ≡ true

any_more : (bs cs : List Bool) → Marks bs cs → (ns : List ℕ) → any_in bs ns ≡ true → any_in cs ns ≡ true
any_more bs cs more [] h = absurd cc
any_more bs cs more (n ∷ ns) h =
    either_more (slice_index_or bs n false) (slice_index_or cs n false) (any_in bs ns) (any_in cs ns) (more n) (any_more bs cs more ns) h

map_more : (p q : List ℕ → Bool) → ((ns : List ℕ) → p ns ≡ true → q ns ≡ true) → (inner more : List (List ℕ)) → Marks (map p inner) (map q (inner ++ more))
map_more p q k [] more n h = absurd cc
map_more p q k (ns ∷ inner) more zero h = k ns h
map_more p q k (ns ∷ inner) more (suc n) h = map_more p q k inner more n h

-- chains are as long where there are more nodes
deep_more : (inner more : List (List ℕ)) (d : ℕ) → Marks (deep_by inner d) (deep_by (inner ++ more) d)
deep_more inner more zero = map_more (λ _. true) (λ _. true) (λ ns h. refl) inner more
deep_more inner more (suc d) =
    map_more (any_in (deep_by inner d)) (any_in (deep_by (inner ++ more) d))
    (any_more (deep_by inner d) (deep_by (inner ++ more) d) (deep_more inner more d)) inner more

last_is : (p : List ℕ → Bool) (inner : List (List ℕ)) (ns : List ℕ) → list_any (λ b. b) (map p (inner ++ ns ∷ [])) ≡ false → p ns ≡ false
last_is p [] ns h = (neither (p ns) false h).0
last_is p (ms ∷ inner) ns h = last_is p inner ns (neither (p ms) (list_any (λ b. b) (map p (inner ++ ns ∷ []))) h).1

-- none of these is marked by the first, where the second marks none
none_marked : (bs cs : List Bool) → Marks bs cs → (ns : List ℕ) → any_in cs ns ≡ false → list_all (λ n. not (slice_index_or bs n false)) ns ≡ true
none_marked bs cs more [] h = refl
none_marked bs cs more (n ∷ ns) h =
    let b = neither (slice_index_or cs n false) (any_in cs ns) h in
    ap (λ (c : Bool). c && list_all (λ n. not (slice_index_or bs n false)) ns) (not_by (slice_index_or bs n false) (slice_index_or cs n false) (more n) b.0)
    ∙ none_marked bs cs more ns b.1

-- where no chain is longer than d + 1 in all, none that begins in the last node is longer than d
room_above : (nodes : List SceneNode) (helpers : List ℕ) (d : ℕ) → list_any (λ b. b) (deep_by (map children nodes ++ helpers ∷ []) (suc d)) ≡ false
    → list_all (λ n. not (slice_index_or (deeper_than nodes d) n false)) helpers ≡ true
room_above nodes helpers d h =
    let inner : List (List ℕ) = map children nodes in
    let all : List (List ℕ) = inner ++ helpers ∷ [] in
    subst (λ (bs : List Bool). list_all (λ n. not (slice_index_or bs n false)) helpers ≡ true) (sym (chains_are nodes d))
    (none_marked (deep_by inner d) (deep_by all d) (deep_more inner (helpers ∷ []) d) helpers (last_is (any_in (deep_by all d)) inner helpers h))

-- ---- the scene

one_more : max_depth ≡ suc (max_depth - 1)
one_more = refl

pub again_has_room : ScenesAgainHaveRoom
again_has_room again scene routes state next is_next w = by_helpers scene.helpers refl where
  by_helpers : (hs : List ℕ) → scene.helpers ≡ hs → has_room scene ≡ true
  by_helpers [] none = ap (λ (l : List ℕ). list_all (λ n. not (slice_index_or (deeper_than scene.nodes (max_depth - 1)) n false)) l) none
  by_helpers (h ∷ hs) some =
      let nodes : map children next.nodes ≡ map children scene.nodes ++ (h ∷ hs) ∷ [] =
      w.children ∙ ap (λ (l : List ℕ). map children scene.nodes ++ in_switch l) some in
      let short : list_any (λ b. b) (deep_by (map children next.nodes) (suc (max_depth - 1))) ≡ false =
      subst (λ (d : ℕ). list_any (λ b. b) (deep_by (map children next.nodes) d) ≡ false) one_more
      (subst (λ (bs : List Bool). list_any (λ b. b) bs ≡ false) (chains_are next.nodes max_depth) (scene_is again next is_next).shallow) in
      ap (λ (l : List ℕ). list_all (λ n. not (slice_index_or (deeper_than scene.nodes (max_depth - 1)) n false)) l) some
      ∙ room_above scene.nodes (h ∷ hs) (max_depth - 1)
      (subst (λ (inner : List (List ℕ)). list_any (λ b. b) (deep_by inner (suc (max_depth - 1))) ≡ false) nodes short)
