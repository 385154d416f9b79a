-- A numbered scene is numbered the same again: a visit of a node of its document goes with a visit of
-- the node's number, where there stands the same.
use Rattle.std.proofs.Common.{◌≡◌, ℕ, zero, suc, ◌+◌, ◌≤◌, Bool, true, false, not, List, [], ◌∷◌, ◌++◌, length, map, replicate, Some, slice_get, refl, sym, ap, subst, ◌∙◌, ◌⊎◌, inl, inr, arith, append-nil}
use Rattle.std.specs.List.{fold, range_with_len}
use Rattle.std.proofs.lemmas.List.{length-replicate, map-append}
use Rattle.std.proofs.lemmas.List.Sums.{fold-append}
use Rattle.proto_flat.specs.declared.flat.Flat.{Flat}
use Rattle.proto_flat.specs.declared.flat.FlatNode.{FlatNode}
use Rattle.scene_core.specs.declared.numbering.Numbering.{Numbering}
use Rattle.scene_core.specs.Numbers.{appear, close, is_new, numbering, unnumbered}
use Rattle.scene_core.specs.Parts.{parts_of}
use Rattle.scene_core.specs.Scene.{SceneView}
use Rattle.scene_core.specs.Tasks.{unopened}
use Rattle.scene_core.proofs.Fuel.{appear-fewer, visit-keeps, visit-new, visit-old}
use Rattle.scene_values.specs.Typing.{called}
use Rattle.laws_written.specs.ScenesAgain.{HaveChildren, NumberedAgain, NumberedUnderRoot, in_place}
use Rattle.laws_written.proofs.NumberedLists.{In, at_map, at_push, in_back, in_front, mark_now, some_is}
use Rattle.laws_written.proofs.Lower.{called_is, inner, inside_has, low, root_has}
use Rattle.laws_written.proofs.NumberedScenes.{IsSceneOf, numbers_of, scene_is}
use Rattle.laws_written.proofs.Visits.{Has, IsOpen, Seen, full, numbered, unopened_few}
use Rattle.laws_written.proofs.NumbersInOrder.{equal, in_place_is, none_new, other_mark, range_is, range_more}

-- ---- two numberings side by side

module _ (flat : Flat) (scene : SceneView) (h : IsSceneOf flat scene) (again : List FlatNode) (room : length scene.nodes ≤ length again) (same : HaveChildren scene again) where
  abbrev S : Numbering
  S = numbers_of flat

  abbrev number : ℕ → ℕ
  number x = called S.numbers x

  abbrev F : Numbering → ℕ → Numbering
  F = full flat.nodes

  abbrev G : Numbering → ℕ → Numbering
  G = full again

  same_parts : (i x : ℕ) → slice_get S.order i ≡ Some x → parts_of again (number x) ≡ map number (parts_of flat.nodes x)
  same_parts i x at =
      let m = h.each i x at in
      ap (λ (k : ℕ). parts_of again k) (called_is flat scene h i x at) ∙ (same i m.node m.node_is ∙ (inner flat scene h i x m).linked_are)

  parts_have : (i x y : ℕ) → slice_get S.order i ≡ Some x → In y (parts_of flat.nodes x) → Has S y
  parts_have i x y at n =
      let m = h.each i x at in inside_has flat scene h i x y at (n, (inner flat scene h i x m).valid y n)

  apart : (x y : ℕ) → Has S x → Has S y → (y ≡ x → ⊥) → number y ≡ number x → ⊥
  apart x y n m k e =
      let places : m.0 ≡ n.0 = sym (called_is flat scene h m.0 y m.1) ∙ (e ∙ called_is flat scene h n.0 x n.1) in
      k (some_is y x (sym m.1 ∙ (ap (λ (i : ℕ). slice_get S.order i) places ∙ n.1)))

  record Alike (s t : Numbering) : Type 0 where
    pub order : t.order ≡ map number s.order
    pub marks : (x : ℕ) → Has S x → is_new t (number x) ≡ is_new s x
    pub known : (i x : ℕ) → slice_get s.order i ≡ Some x → Has S x
    pub few : unopened s.opened ≤ length flat.nodes
    pub few_again : unopened t.opened ≤ length again

  -- a node appears, and so does its number
  module _ (s t : Numbering) (x : ℕ) (a : Alike s t) (n : Has S x) (new : is_new s x ≡ true) where
    new_again : is_new t (number x) ≡ true
    new_again = a.marks x n ∙ new

    appear_marks : (y : ℕ) → Has S y → is_new (appear t (number x)) (number y) ≡ is_new (appear s x) y
    appear_marks y m = by_same (equal y x) where
      by_same : (y ≡ x) ⊎ (y ≡ x → ⊥) → is_new (appear t (number x)) (number y) ≡ is_new (appear s x) y
      by_same (inl e) =
          subst (λ (z : ℕ). is_new (appear t (number x)) (number z) ≡ is_new (appear s x) z) (sym e)
          (mark_now t.opened (number x) ∙ sym (mark_now s.opened x))
      by_same (inr k) =
          ap not (other_mark t.opened (number x) (number y) (apart x y n m k))
          ∙ (a.marks y m ∙ ap not (sym (other_mark s.opened x y k)))

    appear_alike : Alike (appear s x) (appear t (number x))
    appear_alike =
        let fewer = appear-fewer s x new in
        let fewer_again = appear-fewer t (number x) new_again in
        record {
          order = a.order;
          marks = appear_marks;
          known = a.known;
          few = omega (arith, fewer, a.few);
          few_again = omega (arith, fewer_again, a.few_again);
        }

  -- it gets its number
  close_alike : (s t : Numbering) (x : ℕ) → Alike s t → Has S x → Alike (close s x) (close t (number x))
  close_alike s t x a n = record {
    order = ap (λ (l : List ℕ). l ++ number x ∷ []) a.order ∙ sym (map-append number s.order (x ∷ []));
    marks = a.marks;
    known = λ i y at. by_place i y (at_push s.order x i y at);
    few = a.few;
    few_again = a.few_again;
  } where
    by_place : (i y : ℕ) → (slice_get s.order i ≡ Some y) ⊎ ((i ≡ length s.order) × (y ≡ x)) → Has S y
    by_place i y (inl was) = a.known i y was
    by_place i y (inr p) = subst (λ (z : ℕ). Has S z) (sym p.1) n

  -- ---- visits

  abbrev Goes : ℕ → Type 0
  Goes most = (s t : Numbering) (x : ℕ) → unopened s.opened ≤ most → Has S x → Alike s t → Alike (F s x) (G t (number x))

  in_turn : (most : ℕ) → Goes most → (s t : Numbering) (xs : List ℕ) → unopened s.opened ≤ most → ((x : ℕ) → In x xs → Has S x) → Alike s t
      → Alike (fold F s xs) (fold G t (map number xs))
  in_turn most v s t [] few k a = a
  in_turn most v s t (x ∷ xs) few k a =
      let first = v s t x few (k x (inl refl)) a in
      let fewer = visit-keeps flat.nodes (length flat.nodes + 1) s x in
      in_turn most v (F s x) (G t (number x)) xs (omega (arith, few, fewer)) (λ y n. k y (inr n)) first

  old_goes : (s t : Numbering) (x : ℕ) → Has S x → Alike s t → is_new s x ≡ false → Alike (F s x) (G t (number x))
  old_goes s t x n a old =
      let e : F s x ≡ s = visit-old flat.nodes (length flat.nodes) s x old in
      let f : G t (number x) ≡ t = visit-old again (length again) t (number x) (a.marks x n ∙ old) in
      subst (λ (u : Numbering). Alike u (G t (number x))) (sym e) (subst (λ (u : Numbering). Alike s u) (sym f) a)

  new_goes : (most : ℕ) → Goes most → (s t : Numbering) (x : ℕ) → unopened s.opened ≤ most + 1 → Has S x → Alike s t → is_new s x ≡ true
      → Alike (F s x) (G t (number x))
  new_goes most v s t x few n a new =
      let fewer = appear-fewer s x new in
      let e : F s x ≡ close (fold F (appear s x) (parts_of flat.nodes x)) x = visit-new flat.nodes (length flat.nodes) s x new a.few in
      let f : G t (number x) ≡ close (fold G (appear t (number x)) (parts_of again (number x))) (number x) =
      visit-new again (length again) t (number x) (new_again s t x a n new) a.few_again in
      let g : close (fold G (appear t (number x)) (parts_of again (number x))) (number x)
      ≡ close (fold G (appear t (number x)) (map number (parts_of flat.nodes x))) (number x) =
      ap (λ (l : List ℕ). close (fold G (appear t (number x)) l) (number x)) (same_parts n.0 x n.1) in
      let inside = in_turn most v (appear s x) (appear t (number x)) (parts_of flat.nodes x) (omega (arith, few, fewer))
      (λ y m. parts_have n.0 x y n.1 m) (appear_alike s t x a n new) in
      let both = close_alike (fold F (appear s x) (parts_of flat.nodes x)) (fold G (appear t (number x)) (map number (parts_of flat.nodes x))) x inside n in
      subst (λ (u : Numbering). Alike u (G t (number x))) (sym e)
      (subst (λ (u : Numbering). Alike (close (fold F (appear s x) (parts_of flat.nodes x)) x) u) (sym (f ∙ g)) both)

  none_left : (s : Numbering) (x : ℕ) → unopened s.opened ≤ 0 → is_new s x ≡ true → ⊥
  none_left s x few new = let fewer = appear-fewer s x new in omega (arith, few, fewer)

  goes : (most : ℕ) → Goes most
  goes zero s t x few n a = by_new (is_new s x) refl where
    by_new : (b : Bool) → is_new s x ≡ b → Alike (F s x) (G t (number x))
    by_new false old = old_goes s t x n a old
    by_new true new = absurd (none_left s x few new)
  goes (suc most) s t x few n a = by_new (goes most) (is_new s x) refl where
    by_new : Goes most → (b : Bool) → is_new s x ≡ b → Alike (F s x) (G t (number x))
    by_new v false old = old_goes s t x n a old
    by_new v true new = new_goes most v s t x (omega (arith, few)) n a new

  -- ---- from the start

  begin_alike : Alike (unnumbered flat.nodes) (unnumbered again)
  begin_alike =
      let l = unopened_few (replicate (length flat.nodes) false) in
      let k = unopened_few (replicate (length again) false) in
      let e = length-replicate (length flat.nodes) false in
      let f = length-replicate (length again) false in
      record {
        order = refl;
        marks = λ x n. none_new (length again) (number x) (let b = low flat scene h x n in omega (arith, b, room))
            ∙ sym (none_new (length flat.nodes) x (h.state.state.numbered n.0 x n.1).2);
        known = λ i x at. absurd cc;
        few = omega (arith, l, e);
        few_again = omega (arith, k, f);
      }

  all_alike : (s t : Numbering) (xs : List ℕ) → ((x : ℕ) → In x xs → Has S x) → Alike s t → Alike (fold F s xs) (fold G t (map number xs))
  all_alike s t xs k a = in_turn (length flat.nodes) (goes (length flat.nodes)) s t xs a.few k a

  whole : fold F (unnumbered flat.nodes) (flat.roots ++ flat.helpers) ≡ S
  unfolding numbering
  whole = refl

  order_is : map number S.order ≡ range_with_len 0 (length scene.nodes)
  order_is =
      range_is number S.order 0 (λ i x at. called_is flat scene h i x at ∙ omega arith)
      ∙ ap (λ (k : ℕ). range_with_len 0 k) (sym h.many)

  run : (roots helpers : List ℕ) → numbering again roots helpers ≡ fold G (unnumbered again) (roots ++ helpers)
  unfolding numbering
  run roots helpers = refl

  -- ---- as many nodes

  module _ (many : length again ≡ length scene.nodes) where
    same_roots : scene.roots ++ scene.helpers ≡ map number (flat.roots ++ flat.helpers)
    same_roots =
        ap (λ (l : List ℕ). l ++ scene.helpers) h.roots
        ∙ (ap (λ (l : List ℕ). map number flat.roots ++ l) h.helpers ∙ sym (map-append number flat.roots flat.helpers))

    all_order : (fold G (unnumbered again) (map number (flat.roots ++ flat.helpers))).order ≡ range_with_len 0 (length again)
    all_order =
        let a = all_alike (unnumbered flat.nodes) (unnumbered again) (flat.roots ++ flat.helpers) (root_has flat scene h) begin_alike in
        a.order ∙ (ap (λ (s : Numbering). map number s.order) whole ∙ (order_is ∙ ap (λ (k : ℕ). range_with_len 0 k) (sym many)))

    pub again_in_place : numbering again scene.roots scene.helpers ≡ in_place (length again)
    again_in_place =
        in_place_is again (numbering again scene.roots scene.helpers) (numbered again scene.roots scene.helpers).state
        (ap (λ (s : Numbering). s.order) (run scene.roots scene.helpers)
        ∙ (ap (λ (l : List ℕ). (fold G (unnumbered again) l).order) same_roots ∙ all_order))

  -- ---- one node more, in which the helpers stand

  module _ (many : length again ≡ length scene.nodes + 1) (last : parts_of again (length scene.nodes) ≡ scene.helpers) where
    abbrev one : ℕ
    one = length scene.nodes

    abbrev s0 : Numbering
    s0 = fold F (unnumbered flat.nodes) flat.roots

    abbrev t0 : Numbering
    t0 = fold G (unnumbered again) (map number flat.roots)

    roots_alike : Alike s0 t0
    roots_alike =
        all_alike (unnumbered flat.nodes) (unnumbered again) flat.roots (λ x n. root_has flat scene h x (in_front x flat.roots flat.helpers n)) begin_alike

    t0_is : numbering again (map number flat.roots) [] ≡ t0
    t0_is = run (map number flat.roots) [] ∙ ap (λ (l : List ℕ). fold G (unnumbered again) l) (append-nil (map number flat.roots))

    t0_state : IsOpen again [] t0
    t0_state = subst (λ (t : Numbering). IsOpen again [] t) t0_is (numbered again (map number flat.roots) []).state

    not_seen : Seen t0 one → ⊥
    not_seen seen = by_list (t0_state.listed one seen (omega (arith, many))) where
      by_number : Has (record t0 { order = map number s0.order }) one → ⊥
      by_number n =
          let m = at_map number s0.order n.0 one n.1 in
          let l = low flat scene h m.0 (roots_alike.known n.0 m.0 m.1) in omega (arith, l, m.2)

      by_list : In one [] ⊎ Has t0 one → ⊥
      by_list (inl n) = n
      by_list (inr n) = by_number (n.0, ap (λ (l : List ℕ). slice_get l n.0) (sym roots_alike.order) ∙ n.1)

    new_one : is_new t0 one ≡ true
    new_one = by_new (is_new t0 one) refl where
      by_new : (b : Bool) → is_new t0 one ≡ b → is_new t0 one ≡ true
      by_new true e = e
      by_new false e = absurd (not_seen e)

    not_one : (x : ℕ) → Has S x → number x ≡ one → ⊥
    not_one x n e = let l = low flat scene h x n in omega (arith, l, e)

    one_alike : Alike s0 (appear t0 one)
    one_alike =
        let fewer = appear-fewer t0 one new_one in
        record {
          order = roots_alike.order;
          marks = λ x n. ap not (other_mark t0.opened one (number x) (not_one x n)) ∙ roots_alike.marks x n;
          known = roots_alike.known;
          few = roots_alike.few;
          few_again = omega (arith, fewer, roots_alike.few_again);
        }

    abbrev t2 : Numbering
    t2 = fold G (appear t0 one) (map number flat.helpers)

    helpers_alike : Alike (fold F s0 flat.helpers) t2
    helpers_alike =
        all_alike s0 (appear t0 one) flat.helpers (λ x n. root_has flat scene h x (in_back x flat.roots flat.helpers n)) one_alike

    t2_order : t2.order ≡ range_with_len 0 one
    t2_order =
        helpers_alike.order
        ∙ (ap (λ (s : Numbering). map number s.order) (sym (fold-append F (unnumbered flat.nodes) flat.roots flat.helpers) ∙ whole) ∙ order_is)

    under_is : numbering again (scene.roots ++ one ∷ []) [] ≡ close t2 one
    under_is =
        let roots : scene.roots ++ one ∷ [] ++ [] ≡ map number flat.roots ++ one ∷ [] =
        append-nil (scene.roots ++ one ∷ []) ∙ ap (λ (l : List ℕ). l ++ one ∷ []) h.roots in
        let parts : parts_of again one ≡ map number flat.helpers = last ∙ h.helpers in
        run (scene.roots ++ one ∷ []) []
        ∙ (ap (λ (l : List ℕ). fold G (unnumbered again) l) roots
        ∙ (fold-append G (unnumbered again) (map number flat.roots) (one ∷ [])
        ∙ (visit-new again (length again) t0 one new_one roots_alike.few_again
        ∙ ap (λ (l : List ℕ). close (fold G (appear t0 one) l) one) parts)))

    pub under_root_in_place : numbering again (scene.roots ++ one ∷ []) [] ≡ in_place (length again)
    under_root_in_place =
        let none : 0 + one ≡ one = omega arith in
        let order : t2.order ++ one ∷ [] ≡ range_with_len 0 (length again) =
        ap (λ (l : List ℕ). l ++ one ∷ []) t2_order
        ∙ (ap (λ (k : ℕ). range_with_len 0 one ++ k ∷ []) (sym none)
        ∙ (range_more 0 one ∙ ap (λ (k : ℕ). range_with_len 0 k) (sym many))) in
        in_place_is again (numbering again (scene.roots ++ one ∷ []) []) (numbered again (scene.roots ++ one ∷ []) []).state
        (ap (λ (s : Numbering). s.order) under_is ∙ order)

pub all_numbered_again : NumberedAgain
all_numbered_again flat scene nodes is many same =
    again_in_place flat scene (scene_is flat scene is) nodes (omega (arith, many)) same many

pub all_numbered_under_root : NumberedUnderRoot
all_numbered_under_root flat scene nodes is many same last =
    under_root_in_place flat scene (scene_is flat scene is) nodes (omega (arith, many)) same many last
