-- A walk over numbers by blocks of 32.
use Rattle.std.proofs.Common.{arith, ◌≡◌, ◌<◌, ◌≤◌, ◌+◌, ◌-◌, ◌*◌, ◌++◌, ◌/◌, ◌∙◌, ap, map, length, sym, refl, ℕ, zero, suc, Bool, true, false, List, [], ◌∷◌, append_assoc}
use Rattle.std.specs.Prelude.{◌&&◌, min, if◌then◌else◌}
use Rattle.std.specs.List.{filter, fold, range_with_len}
use Rattle.std.proofs.lemmas.List.{length-map}
use Rattle.x3d_values.specs.declared.node_type.NodeType.{NodeType}
use Rattle.scene_core.specs.declared.scene.SceneNode.{SceneNode}
use Rattle.cascade_world.specs.Nodes.{is_of, is_sensor, numbers_of, pointing_sensors_of}
use Rattle.cascade_world.specs.Pointer.{is_pressed, untracked}
use Rattle.cascade_world.specs.declared.aim.Concerned.{Concerned}
use Rattle.cascade_world.specs.declared.world.WorldData.{WorldData}
use Rattle.cascade_core.specs.Walks.{appended, over_block, presses, untracked_by, where_passes}

filter-one : {S : Type 0} (p : ℕ → Bool) (f : S → ℕ → S) (s : S) (x : ℕ) (xs : List ℕ) (b : Bool) → p x ≡ b →
    ((t : S) → fold f t (filter p xs) ≡ fold (where_passes p f) t xs) → fold f s (filter p (x ∷ xs)) ≡ fold (where_passes p f) s (x ∷ xs)
filter-one p f s x xs true h more = rw h (more (f s x))
filter-one p f s x xs false h more = rw h (more s)

pub by-filter : {S : Type 0} (p : ℕ → Bool) (f : S → ℕ → S) (s : S) (xs : List ℕ) → fold f s (filter p xs) ≡ fold (where_passes p f) s xs
by-filter p f s [] = refl
by-filter p f s (x ∷ xs) = filter-one p f s x xs (p x) refl (λ t. by-filter p f t xs)

module _ {S : Type 0} (g : S → ℕ → S) where
  -- nothing happens at any of them
  pub still : (s : S) (a n : ℕ) → ((i : ℕ) → a ≤ i → i < a + n → g s i ≡ s) → s ≡ fold g s (range_with_len a n)
  still s a zero h = refl
  still s a (suc n) h =
      let here : g s a ≡ s = h a (omega arith) (omega arith) in
      still s (a + 1) n (λ i from below. h i (omega (arith, from)) (omega (arith, below)))
      ∙ ap (λ (x : S). fold g x (range_with_len (a + 1) n)) (sym here)

  pub range_more : (a n : ℕ) (m : ℕ) → n ≡ suc m → (s : S) → fold g s (range_with_len a n) ≡ fold g (g s a) (range_with_len (a + 1) m)
  range_more a n m e s = rw e refl

  -- one number more
  pub range_next : (s after : S) (a end : ℕ) (whole : S) → a < end → after ≡ g s a → fold g s (range_with_len a (end - a)) ≡ whole →
      fold g after (range_with_len (a + 1) (end - (a + 1))) ≡ whole
  range_next s after a end whole below is e =
      let more : end - a ≡ suc (end - (a + 1)) = omega (arith, below) in
      ap (λ (x : S). fold g x (range_with_len (a + 1) (end - (a + 1)))) is ∙ sym (range_more a (end - a) (end - (a + 1)) more s) ∙ e

  pub apart : (s : S) (a m n : ℕ) → fold g s (range_with_len a (m + n)) ≡ fold g (fold g s (range_with_len a m)) (range_with_len (a + m) n)
  apart s a zero n = let e : a + 0 ≡ a = omega arith in let z : 0 + n ≡ n = omega arith in rw (e, z) refl
  apart s a (suc m) n =
      let e : a + suc m ≡ (a + 1) + m = omega arith in let z : suc m + n ≡ suc (m + n) = omega arith in
      rw (e, z) (apart (g s a) (a + 1) m n)

  none-left : (s : S) (a n : ℕ) → n ≡ 0 → fold g s (range_with_len a n) ≡ s
  none-left s a n e = rw e refl

  shifted : (x : S) (block count n : ℕ) → count - (block + 1) * 32 ≡ n →
      fold g x (range_with_len ((block + 1) * 32) (count - (block + 1) * 32)) ≡ fold g x (range_with_len (block * 32 + min (count - block * 32) 32) (count - (block + 1) * 32))
  shifted x block count zero e =
      none-left x ((block + 1) * 32) (count - (block + 1) * 32) e
      ∙ sym (none-left x (block * 32 + min (count - block * 32) 32) (count - (block + 1) * 32) e)
  shifted x block count (suc m) e =
      let k : (block + 1) * 32 ≡ block * 32 + min (count - block * 32) 32 = omega (arith, e) in
      ap (λ (a : ℕ). fold g x (range_with_len a (count - (block + 1) * 32))) k

  -- one block more
  pub block_next : (s after : S) (block count : ℕ) (whole : S) → after ≡ fold g s (range_with_len (block * 32) (min (count - block * 32) 32)) →
      fold g s (range_with_len (block * 32) (count - block * 32)) ≡ whole → fold g after (range_with_len ((block + 1) * 32) (count - (block + 1) * 32)) ≡ whole
  block_next s after block count whole is e =
      let k : ℕ = min (count - block * 32) 32 in
      let rest : ℕ = count - (block + 1) * 32 in
      let parts : count - block * 32 ≡ min (count - block * 32) 32 + (count - (block + 1) * 32) = omega arith in
      ap (λ (x : S). fold g x (range_with_len ((block + 1) * 32) rest)) is
      ∙ shifted (fold g s (range_with_len (block * 32) k)) block count rest refl
      ∙ sym (apart s (block * 32) k rest)
      ∙ ap (λ (n : ℕ). fold g s (range_with_len (block * 32) n)) (sym parts)
      ∙ e

  -- all blocks
  pub blocks_ended : (s : S) (block count : ℕ) → count / 32 + 1 ≤ block → s ≡ fold g s (range_with_len (block * 32) (count - block * 32))
  blocks_ended s block count past = let none : count - block * 32 ≡ 0 = omega (arith, past) in sym (none-left s (block * 32) (count - block * 32) none)

  -- nothing happens at any number of a block
  pub block_still : (s : S) (block count : ℕ) → ((i : ℕ) → i / 32 ≡ block → g s i ≡ s) → s ≡ over_block g s block count
  block_still s block count h =
      still s (block * 32) (min (count - block * 32) 32) (λ i from below. h i (omega (arith, from, below)))

  -- the numbers of a block
  pub block_is : (s : S) (block count start end : ℕ) → start ≡ block * 32 → end ≡ start + min (count - start) 32 →
      fold g s (range_with_len start (end - start)) ≡ over_block g s block count
  block_is s block count start end from to =
      let many : end - start ≡ min (count - block * 32) 32 = omega (arith, from, to) in
      ap (λ (a : ℕ). fold g s (range_with_len a (end - start))) from ∙ ap (λ (n : ℕ). fold g s (range_with_len (block * 32) n)) many

pub passed-still : {S : Type 0} (b : Bool) (x s : S) → s ≡ x → (if b then x else s) ≡ s
passed-still true x s h = sym h
passed-still false x s h = refl

-- the nodes of some types are those that pass
pub by-type : {S : Type 0} (wanted : NodeType → Bool) (nodes : List SceneNode) (f : S → ℕ → S) (s : S) (count : ℕ) → count ≡ length nodes →
    fold (where_passes (is_of wanted (map (λ (n : SceneNode). n.node_type) nodes)) f) s (range_with_len (0 * 32) (count - 0 * 32))
    ≡ fold f s (numbers_of wanted (map (λ (n : SceneNode). n.node_type) nodes))
unfolding numbers_of
by-type {S} wanted nodes f s count many =
    let kinds : List NodeType = map (λ (n : SceneNode). n.node_type) nodes in
    let all : count - 0 * 32 ≡ length kinds = omega (arith, many, length-map nodes (λ (n : SceneNode). n.node_type)) in
    ap (λ (n : ℕ). fold (where_passes (is_of wanted kinds) f) s (range_with_len 0 n)) all
    ∙ sym (by-filter (is_of wanted kinds) f s (range_with_len 0 (length kinds)))

-- ---- the sensors that a viewer presses

listed : (track : ℕ → Concerned) (taken : List Concerned) (xs : List ℕ) → fold (appended track) taken xs ≡ taken ++ map track xs
listed track taken [] = sym (append-none taken)
  where
    append-none : (ys : List Concerned) → ys ++ [] ≡ ys
    append-none [] = refl
    append-none (y ∷ ys) = ap (λ (zs : List Concerned). y ∷ zs) (append-none ys)
listed track taken (x ∷ xs) = listed track (taken ++ track x ∷ []) xs ∙ append_assoc taken (track x ∷ []) (map track xs)

both-one : (p q : ℕ → Bool) (x : ℕ) (xs : List ℕ) (a b : Bool) → p x ≡ a → q x ≡ b → filter (λ i. p i && q i) xs ≡ filter p (filter q xs) →
    filter (λ i. p i && q i) (x ∷ xs) ≡ filter p (filter q (x ∷ xs))
both-one p q x xs true true h k rest = rw (h, k) (rw h (ap (λ (ys : List ℕ). x ∷ ys) rest))
both-one p q x xs true false h k rest = rw (h, k) rest
both-one p q x xs false true h k rest = rw (h, k) (rw h rest)
both-one p q x xs false false h k rest = rw (h, k) rest

both : (p q : ℕ → Bool) (xs : List ℕ) → filter (λ i. p i && q i) xs ≡ filter p (filter q xs)
both p q [] = refl
both p q (x ∷ xs) = both-one p q x xs (p x) (q x) refl refl (both p q xs)

pub pressed-are : (track : ℕ → Concerned) (w : WorldData) (nodes : List SceneNode) (who count : ℕ) → count ≡ length nodes →
    fold (where_passes (presses w (map (λ (n : SceneNode). n.node_type) nodes) who) (appended track)) [] (range_with_len (0 * 32) (count - 0 * 32))
    ≡ map track (filter (is_pressed w who) (pointing_sensors_of (map (λ (n : SceneNode). n.node_type) nodes)))
unfolding numbers_of
pressed-are track w nodes who count many =
    let kinds : List NodeType = map (λ (n : SceneNode). n.node_type) nodes in
    let all : count - 0 * 32 ≡ length kinds = omega (arith, many, length-map nodes (λ (n : SceneNode). n.node_type)) in
    ap (λ (n : ℕ). fold (where_passes (presses w kinds who) (appended track)) [] (range_with_len 0 n)) all
    ∙ sym (by-filter (presses w kinds who) (appended track) [] (range_with_len 0 (length kinds)))
    ∙ listed track [] (filter (presses w kinds who) (range_with_len 0 (length kinds)))
    ∙ ap (map track) (both (is_pressed w who) (is_sensor kinds) (range_with_len 0 (length kinds)))

unpressed : (track : ℕ → Concerned) (w : WorldData) (kinds : List NodeType) (who node : ℕ) (s : List Concerned) → is_pressed w who node ≡ false →
    where_passes (presses w kinds who) (appended track) s node ≡ s
unpressed track w kinds who node s h = rw h refl

pub untouched-block : (track : ℕ → Concerned) (w : WorldData) (kinds : List NodeType) (who : ℕ) (s : List Concerned) (block count : ℕ) →
    ((node : ℕ) → node / 32 ≡ block → is_pressed w who node ≡ false) → s ≡ over_block (where_passes (presses w kinds who) (appended track)) s block count
untouched-block track w kinds who s block count h =
    block_still (where_passes (presses w kinds who) (appended track)) s block count (λ i within. unpressed track w kinds who i s (h i within))

-- ---- sensors that their viewers don't drag

pub untracked-all : {S : Type 0} (f : S → Concerned → S) (s : S) (xs : List ℕ) → fold (untracked_by f) s xs ≡ fold f s (map untracked xs)
untracked-all f s [] = refl
untracked-all f s (x ∷ xs) = untracked-all f (f s (untracked x)) xs
