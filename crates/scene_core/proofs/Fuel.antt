-- A visit opens nodes and closes none, so it goes no deeper than there are nodes that have not appeared.
use Rattle.std.proofs.Common.{◌≡◌, ℕ, ◌+◌, ◌<◌, ◌≤◌, Bool, true, false, not, List, [], ◌∷◌, ◌∙◌, ap, sym, zero, suc, refl, arith, length, get_or, set, None}
use Rattle.std.specs.Prelude.{slice_get}
use Rattle.std.specs.List.{fold}
use Rattle.std.proofs.Math.Numerals.{add-one}
use Rattle.proto_flat.specs.declared.flat.FlatNode.{FlatNode}
use Rattle.scene_core.specs.declared.numbering.Numbering.{Numbering}
use Rattle.scene_core.specs.Numbers.{is_new, appear, close, visit}
use Rattle.scene_core.specs.Parts.{parts_of}
use Rattle.scene_core.specs.Tasks.{unopened, to_come}

abbrev left : Numbering → ℕ
left s = unopened s.opened

pub past-old : (bs : List Bool) (n : ℕ) → None ≡ slice_get bs n → not (get_or bs n true) ≡ false
past-old [] n h = refl
past-old (b ∷ bs) zero h = cc
past-old (b ∷ bs) (suc n) h = past-old bs n h

unopened-appear : (bs : List Bool) (n : ℕ) → not (get_or bs n true) ≡ true → unopened (set bs n true) + 1 ≡ unopened bs
unfolding unopened
unopened-appear [] n h = cc
unopened-appear (true ∷ bs) zero h = cc
unopened-appear (false ∷ bs) zero h = refl
unopened-appear (true ∷ bs) (suc n) h = unopened-appear bs n h
unopened-appear (false ∷ bs) (suc n) h = ap (λ k. k + 1) (unopened-appear bs n h)

pub appear-fewer : (s : Numbering) (n : ℕ) → is_new s n ≡ true → left (appear s n) + 1 ≡ left s
appear-fewer s n h = unopened-appear s.opened n h

to_come-appear : (nodes : List FlatNode) (k : ℕ) (bs : List Bool) (n : ℕ) → not (get_or bs n true) ≡ true →
    to_come nodes k (set bs n true) + (length (parts_of nodes (k + n)) + 1) ≡ to_come nodes k bs
unfolding to_come
to_come-appear nodes k [] n h = cc
to_come-appear nodes k (true ∷ bs) zero h = cc
to_come-appear nodes k (false ∷ bs) zero h = ap (λ m. to_come nodes (k + 1) bs + (length (parts_of nodes m) + 1)) (omega arith)
to_come-appear nodes k (true ∷ bs) (suc n) h =
    let e : k + suc n ≡ (k + 1) + n = omega arith in
    rw e (to_come-appear nodes (k + 1) bs n h)
to_come-appear nodes k (false ∷ bs) (suc n) h =
    let e : k + suc n ≡ (k + 1) + n = omega arith in
    rw e (omega (arith, to_come-appear nodes (k + 1) bs n h))

pub appear-less_to_come : (nodes : List FlatNode) (s : Numbering) (n : ℕ) → is_new s n ≡ true →
    to_come nodes 0 (appear s n).opened + (length (parts_of nodes n) + 1) ≡ to_come nodes 0 s.opened
appear-less_to_come nodes s n h =
    let e : 0 + n ≡ n = omega arith in
    ap (λ m. to_come nodes 0 (set s.opened n true) + (length (parts_of nodes m) + 1)) (sym e) ∙ to_come-appear nodes 0 s.opened n h

-- ---- folds

fold-keeps : (f : Numbering → ℕ → Numbering) → ((s : Numbering) (n : ℕ) → left (f s n) ≤ left s) → (s : Numbering) (ns : List ℕ) → left (fold f s ns) ≤ left s
fold-keeps f h s [] = omega arith
fold-keeps f h s (n ∷ ns) = omega (arith, fold-keeps f h (f s n) ns, h s n)

fold-same : (k : ℕ) (f g : Numbering → ℕ → Numbering) → ((s : Numbering) (n : ℕ) → left (f s n) ≤ left s) →
    ((s : Numbering) (n : ℕ) → left s ≤ k → f s n ≡ g s n) → (s : Numbering) (ns : List ℕ) → left s ≤ k → fold f s ns ≡ fold g s ns
fold-same k f g keeps same s [] h = refl
fold-same k f g keeps same s (n ∷ ns) h =
    let below : left (f s n) ≤ k = omega (arith, keeps s n, h) in
    fold-same k f g keeps same (f s n) ns below ∙ ap (λ (t : Numbering). fold g t ns) (same s n h)

module _ (nodes : List FlatNode) where
  visit-step-keeps : (fuel : ℕ) → ((s : Numbering) (n : ℕ) → left (visit fuel nodes s n) ≤ left s) → (s : Numbering) (n : ℕ) (b : Bool) → is_new s n ≡ b →
      left (visit (suc fuel) nodes s n) ≤ left s
  unfolding visit
  visit-step-keeps fuel keeps s n true e =
      rw e (omega (arith, fold-keeps (visit fuel nodes) keeps (appear s n) (parts_of nodes n), appear-fewer s n e))
  visit-step-keeps fuel keeps s n false e = rw e (omega arith)

  visit-zero-keeps : (s : Numbering) (n : ℕ) → left (visit zero nodes s n) ≤ left s
  unfolding visit
  visit-zero-keeps s n = omega arith

  pub visit-keeps : (fuel : ℕ) (s : Numbering) (n : ℕ) → left (visit fuel nodes s n) ≤ left s
  visit-keeps zero s n = visit-zero-keeps s n
  visit-keeps (suc fuel) s n = visit-step-keeps fuel (λ t m. visit-keeps fuel t m) s n (is_new s n) refl

  visit-step-same : (d e : ℕ) → ((s : Numbering) (n : ℕ) → left s < d → left s < e → visit d nodes s n ≡ visit e nodes s n) →
      (s : Numbering) (n : ℕ) → left s < suc d → left s < suc e → (b : Bool) → is_new s n ≡ b → visit (suc d) nodes s n ≡ visit (suc e) nodes s n
  unfolding visit
  visit-step-same d e same s n hd he false new = rw new refl
  visit-step-same d e same s n hd he true new =
      let fewer : left (appear s n) + 1 ≡ left s = appear-fewer s n new in
      let inside = fold-same (left (appear s n)) (visit d nodes) (visit e nodes) (λ t m. visit-keeps d t m)
      (λ (t : Numbering) (m : ℕ) (le : left t ≤ left (appear s n)). same t m (omega (arith, le, fewer)) (omega (arith, le, fewer)))
      (appear s n) (parts_of nodes n) (omega arith) in
      rw new (ap (λ (t : Numbering). close t n) inside)

  -- any fuel above the number of nodes that have not appeared gives the same
  pub visit-same : (d e : ℕ) (s : Numbering) (n : ℕ) → left s < d → left s < e → visit d nodes s n ≡ visit e nodes s n
  visit-same zero e s n hd he = absurd (omega arith)
  visit-same (suc d) zero s n hd he = absurd (omega arith)
  visit-same (suc d) (suc e) s n hd he = visit-step-same d e (λ t m a b. visit-same d e t m a b) s n hd he (is_new s n) refl

  visit-once : (fuel : ℕ) (s : Numbering) (n : ℕ) → is_new s n ≡ true → visit (suc fuel) nodes s n ≡ close (fold (visit fuel nodes) (appear s n) (parts_of nodes n)) n
  unfolding visit
  visit-once fuel s n new = rw new refl

  -- with full fuel, a new node is opened, the nodes in it are visited with full fuel, and it is closed
  pub visit-new : (fuel : ℕ) (s : Numbering) (n : ℕ) → is_new s n ≡ true → left s ≤ fuel →
      visit (fuel + 1) nodes s n ≡ close (fold (visit (fuel + 1) nodes) (appear s n) (parts_of nodes n)) n
  visit-new fuel s n new h =
      let fewer : left (appear s n) + 1 ≡ left s = appear-fewer s n new in
      let inside = fold-same (left (appear s n)) (visit fuel nodes) (visit (fuel + 1) nodes) (λ t m. visit-keeps fuel t m)
      (λ (t : Numbering) (m : ℕ) (le : left t ≤ left (appear s n)). visit-same fuel (fuel + 1) t m (omega (arith, le, fewer, h)) (omega (arith, le, fewer, h)))
      (appear s n) (parts_of nodes n) (omega arith) in
      ap (λ (k : ℕ). visit k nodes s n) (add-one fuel) ∙ visit-once fuel s n new ∙ ap (λ (t : Numbering). close t n) inside

  visit-old_step : (fuel : ℕ) (s : Numbering) (n : ℕ) → is_new s n ≡ false → visit (suc fuel) nodes s n ≡ s
  unfolding visit
  visit-old_step fuel s n old = rw old refl

  pub visit-old : (fuel : ℕ) (s : Numbering) (n : ℕ) → is_new s n ≡ false → visit (fuel + 1) nodes s n ≡ s
  visit-old fuel s n old = ap (λ (k : ℕ). visit k nodes s n) (add-one fuel) ∙ visit-old_step fuel s n old
