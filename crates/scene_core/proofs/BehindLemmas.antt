-- What comes behind what was made so far, where the item may be a fault.
use Rattle.std.proofs.Common.{◌≡◌, ◌⊎◌, inl, inr, ℕ, ◌+◌, ◌<◌, Bool, List, Some, drop, get_or, length, ap, sym, refl, subst, ◌∙◌}
use Rattle.std.specs.Prelude.{Result, Ok, Err, slice_get}
use Rattle.std.proofs.lemmas.Option.{slice_get_read}
use Rattle.x3d_lists.specs.Answers.{Gives}
use Rattle.proto_flat.specs.declared.flat.FlatNode.{FlatNode}
use Rattle.scene_core.specs.declared.fault.SceneFault.{SceneFault}
use Rattle.scene_core.specs.declared.numbering.Numbering.{Numbering}
use Rattle.scene_core.specs.declared.scene.SceneNode.{SceneNode}
use Rattle.scene_core.specs.Building.{with_node}
use Rattle.scene_core.specs.Faults.{memory, ◌>>=◌, through}
use Rattle.scene_core.proofs.RowLemmas.{drop-step}

-- what `get` finds
pub found : {A : Type 0} (xs : List A) (n : ℕ) (x : A) → n < length xs → x ≡ get_or xs n x → slice_get xs n ≡ Some x
found xs n x h is = slice_get_read xs (length xs) n x refl h is

module _ {A B : Type 0} (k : A → Result B SceneFault) where
  by_fault : (f e : SceneFault) (answer : Result A SceneFault) → (f ≡ memory) ⊎ (◌≡◌ {A = Result B SceneFault} (Err e) (Err f)) → (e ≡ memory) ⊎ (answer ≡ Err e)
      → (f ≡ memory) ⊎ ((answer >>= k) ≡ Err f)
  by_fault f e answer (inl m) g = inl m
  by_fault f e answer (inr p) (inl m) = inl (cc (p, m))
  by_fault f e answer (inr p) (inr a) = inr (ap (λ r. r >>= k) a ∙ p)

  -- a result that was made of what an item's call returned is one of what the item is by its definition
  pub gives-then : (result : Result B SceneFault) (item answer : Result A SceneFault) → Gives memory (λ b. b) result (item >>= k) → Gives memory (λ a. a) item answer
      → Gives memory (λ b. b) result (answer >>= k)
  gives-then (Ok b) (Ok a) answer h g = ap (λ r. r >>= k) g ∙ h
  gives-then (Err f) (Ok a) answer (inl m) g = inl m
  gives-then (Err f) (Ok a) answer (inr p) g = inr (ap (λ r. r >>= k) g ∙ p)
  gives-then (Ok b) (Err e) answer h g = cc h
  gives-then (Err f) (Err e) answer h g = by_fault f e answer h g

-- ---- steps through a list, each of which gives what was made so far or a fault

module _ {A X : Type 0} (step : A → X → Result X SceneFault) where
  through-step : (xs : List A) (i : ℕ) (d : A) (made : X) → i < length xs → through step (drop i xs) made ≡ (step (get_or xs i d) made >>= through step (drop (i + 1) xs))
  through-step xs i d made h = ap (λ ys. through step ys made) (drop-step xs i d h)

  through-more : (xs : List A) (i : ℕ) (d : A) (made more : X) (all : Result X SceneFault) → i < length xs → all ≡ through step (drop i xs) made
      → step (get_or xs i d) made ≡ Ok more → all ≡ through step (drop (i + 1) xs) more
  through-more xs i d made more all h e s = e ∙ through-step xs i d made h ∙ ap (λ r. r >>= through step (drop (i + 1) xs)) s

  through-refused : (xs : List A) (i : ℕ) (d : A) (made : X) (f : SceneFault) (all : Result X SceneFault) → i < length xs → all ≡ through step (drop i xs) made
      → (f ≡ memory) ⊎ (step (get_or xs i d) made ≡ Err f) → (f ≡ memory) ⊎ (all ≡ Err f)
  through-refused xs i d made f all h e (inl m) = inl m
  through-refused xs i d made f all h e (inr s) = inr (e ∙ through-step xs i d made h ∙ ap (λ r. r >>= through step (drop (i + 1) xs)) s)

module _ (nodes : List FlatNode) (s : Numbering) (alone : List ℕ → Bool) (numbers order : List ℕ) (are_numbers : numbers ≡ s.numbers) (is_order : order ≡ s.order) (i : ℕ) (made : List SceneNode)
    (all : Result (List SceneNode) SceneFault) where
  abbrev Left : ℕ → List ℕ → List SceneNode → Type 0
  Left k ns so_far = all ≡ through (λ n m. with_node nodes s.numbers alone (slice_get nodes n) m) (drop k ns) so_far

  pub nodes-next : i < length order → Left i s.order made → (more : List SceneNode) → with_node nodes numbers alone (slice_get nodes (get_or order i 0)) made ≡ Ok more → Left (i + 1) s.order more
  nodes-next h so_far more e =
      subst (λ ns. Left (i + 1) ns more) is_order
      (through-more (λ n m. with_node nodes s.numbers alone (slice_get nodes n) m) order i 0 made more all h (subst (λ ns. Left i ns made) (sym is_order) so_far)
      (ap (λ ns. with_node nodes ns alone (slice_get nodes (get_or order i 0)) made) (sym are_numbers) ∙ e))

  by_numbers : (f : SceneFault) → (f ≡ memory) ⊎ (with_node nodes numbers alone (slice_get nodes (get_or order i 0)) made ≡ Err f)
      → (f ≡ memory) ⊎ (with_node nodes s.numbers alone (slice_get nodes (get_or order i 0)) made ≡ Err f)
  by_numbers f (inl m) = inl m
  by_numbers f (inr e) = inr (ap (λ ns. with_node nodes ns alone (slice_get nodes (get_or order i 0)) made) (sym are_numbers) ∙ e)

  pub nodes-stop : i < length order → Left i s.order made → (f : SceneFault) → (f ≡ memory) ⊎ (with_node nodes numbers alone (slice_get nodes (get_or order i 0)) made ≡ Err f)
      → (f ≡ memory) ⊎ (all ≡ Err f)
  nodes-stop h so_far f e =
      through-refused (λ n m. with_node nodes s.numbers alone (slice_get nodes n) m) order i 0 made f all h (subst (λ ns. Left i ns made) (sym is_order) so_far) (by_numbers f e)
