-- How often a node appears: in what is still to be written, and in the nodes that have not appeared.
use Rattle.std.proofs.Common.{◌≡◌, ℕ, zero, suc, ◌+◌, ◌<◌, ◌≤◌, ◌==◌, Bool, true, false, ◌||◌, cond, List, [], ◌∷◌, ◌++◌, length, get_or, replicate, slice_set, refl, ap, subst, ◌∙◌, arith}
use Rattle.std.specs.Prelude.{is_some, nat_le, slice_index_or}
use Rattle.std.specs.List.{flat_map, range_with_len}
use Rattle.std.proofs.lemmas.Bool.{eq-eqb, le-leb}
use Rattle.std.proofs.lemmas.List.FromFn.{get_or-map-range_with_len}
use Rattle.std.proofs.lemmas.List.Recursion.{is_count_by}
use Rattle.proto_flat.specs.declared.flat.FlatNode.{FlatNode}
use Rattle.scene_core.specs.Parts.{parts_of}
use Rattle.scene_core.specs.declared.scene.Route.{Route}
use Rattle.scene_core.specs.Scene.{SceneView, name_at}
use Rattle.scene_text.specs.Places.{ends_of, is_named, named, places, times}

abbrev pub hits : ℕ → List ℕ → ℕ
hits n [] = 0
hits n (m ∷ ms) = cond (m == n) (1 + hits n ms) (hits n ms)

pub hits_are : (n : ℕ) (ms : List ℕ) → hits n ms ≡ times n ms
hits_are n ms = is_count_by (hits n) (λ m. m == n) refl (λ m ms. refl) ms

hit_both : (b : Bool) (a c d : ℕ) → d ≡ a + c → cond b (1 + d) d ≡ cond b (1 + a) a + c
hit_both true a c d e = omega (arith, e)
hit_both false a c d e = e

pub hits_append : (n : ℕ) (xs ys : List ℕ) → hits n (xs ++ ys) ≡ hits n xs + hits n ys
hits_append n [] ys = omega arith
hits_append n (x ∷ xs) ys = hit_both (x == n) (hits n xs) (hits n ys) (hits n (xs ++ ys)) (hits_append n xs ys)

less_if : (b : Bool) (n : ℕ) → n ≤ cond b (1 + n) n
less_if true n = omega arith
less_if false n = omega arith

pub hits_less : (n x : ℕ) (xs : List ℕ) → hits n xs ≤ hits n (x ∷ xs)
hits_less n x xs = less_if (x == n) (hits n xs)

pub hits_own : (n : ℕ) (xs : List ℕ) → hits n (n ∷ xs) ≡ 1 + hits n xs
hits_own n xs = ap (λ (b : Bool). cond b (1 + hits n xs) (hits n xs)) (eq-eqb n n refl)

-- ---- in nodes that have not appeared, the first of which has that number

module _ (nodes : List FlatNode) where
  abbrev pub unwritten : ℕ → ℕ → List Bool → ℕ
  unwritten x k [] = 0
  unwritten x k (true ∷ bs) = unwritten x (k + 1) bs
  unwritten x k (false ∷ bs) = unwritten x (k + 1) bs + hits x (parts_of nodes k)

  abbrev Less : ℕ → ℕ → List Bool → ℕ → ℕ → Type 0
  Less x k bs n m = unwritten x k (slice_set bs n true) + hits x (parts_of nodes m) ≡ unwritten x k bs

  appear_from : (x k : ℕ) (bs : List Bool) (n : ℕ) → slice_index_or bs n true ≡ false → Less x k bs n (k + n)
  appear_from x k [] n h = absurd cc
  appear_from x k (true ∷ bs) zero h = absurd cc
  appear_from x k (false ∷ bs) zero h =
      let here : k + 0 ≡ k = omega arith in
      ap (λ (m : ℕ). unwritten x (k + 1) bs + hits x (parts_of nodes m)) here
  appear_from x k (true ∷ bs) (suc n) h =
      let e : k + 1 + n ≡ k + suc n = omega arith in
      subst (λ (m : ℕ). Less x (k + 1) bs n m) e (appear_from x (k + 1) bs n h)
  appear_from x k (false ∷ bs) (suc n) h =
      let e : k + 1 + n ≡ k + suc n = omega arith in
      let inner : Less x (k + 1) bs n (k + suc n) = subst (λ (m : ℕ). Less x (k + 1) bs n m) e (appear_from x (k + 1) bs n h) in
      omega (arith, inner)

  pub appear_less : (x : ℕ) (bs : List Bool) (n : ℕ) → slice_index_or bs n true ≡ false
      → unwritten x 0 (slice_set bs n true) + hits x (parts_of nodes n) ≡ unwritten x 0 bs
  appear_less x bs n h =
      let e : 0 + n ≡ n = omega arith in subst (λ (m : ℕ). Less x 0 bs n m) e (appear_from x 0 bs n h)

  -- none has appeared
  pub all_unwritten : (x : ℕ) (f : ℕ → List ℕ) (k count : ℕ) → ((n : ℕ) → n < k + count → hits x (parts_of nodes n) ≡ hits x (f n))
      → unwritten x k (replicate count false) ≡ hits x (flat_map f (range_with_len k count))
  all_unwritten x f k zero same = refl
  all_unwritten x f k (suc count) same =
      let rest = all_unwritten x f (k + 1) count (λ n l. same n (omega (arith, l))) in
      let both = hits_append x (f k) (flat_map f (range_with_len (k + 1) count)) in
      let first = same k (omega arith) in
      omega (arith, rest, both, first)

-- ---- the nodes that get a name

or_both : (a b c : Bool) → c ≡ true → (a || (b || c)) ≡ true
or_both true b c e = refl
or_both false true c e = refl
or_both false false c e = e

pub named_twice : (s : SceneView) (routes : List Route) (n : ℕ) → n < length s.nodes → 2 ≤ hits n (places s) → get_or (named s routes) n false ≡ true
unfolding named
named_twice s routes n l h =
    let start : 0 + n ≡ n = omega arith in
    get_or-map-range_with_len (is_named s routes) 0 (length s.nodes) n n false l start
    ∙ or_both (is_some (name_at s n)) (nat_le 1 (times n (flat_map ends_of routes))) (nat_le 2 (times n (places s)))
    (le-leb 2 (times n (places s)) (subst (λ (k : ℕ). 2 ≤ k) (hits_are n (places s)) h))
