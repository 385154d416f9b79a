-- Each step of the work stack keeps what the tasks come to, and leaves less to do.
use Rattle.std.proofs.Common.{◌≡◌, ℕ, ◌+◌, ◌≤◌, true, false, List, [], ◌∷◌, ◌++◌, ◌∙◌, ap, sym, zero, suc, refl, arith, map, reverse, length, length-append, replicate}
use Rattle.std.specs.List.{fold}
use Rattle.std.proofs.lemmas.List.{reverse-append, length-reverse, reverse-reverse, length-map}
use Rattle.proto_flat.specs.declared.flat.FlatNode.{FlatNode}
use Rattle.scene_core.specs.declared.numbering.Numbering.{Numbering}
use Rattle.scene_core.specs.declared.numbering.NumberTask.{NumberTask}
use Rattle.scene_core.specs.declared.numbering.NumberTask.TheVariants.{Visit, Close}
use Rattle.scene_core.specs.Numbers.{is_new, appear, visit, unnumbered, numbering}
use Rattle.scene_core.specs.Parts.{parts_of}
use Rattle.scene_core.specs.Tasks.{do_task, finish, unopened, work_left}
use Rattle.scene_core.proofs.Fuel.{visit-new, visit-old, appear-fewer, appear-less_to_come}

reverse-push : {X : Type 0} (xs : List X) (x : X) → reverse (xs ++ x ∷ []) ≡ x ∷ reverse xs
reverse-push xs x = rw reverse-append refl

fold-append : {S X : Type 0} (f : S → X → S) (s : S) (xs ys : List X) → fold f s (xs ++ ys) ≡ fold f (fold f s xs) ys
fold-append f s [] ys = refl
fold-append f s (x ∷ xs) ys = fold-append f (f s x) xs ys

map-append-one : {X Y : Type 0} (f : X → Y) (xs ys : List X) → map f (xs ++ ys) ≡ map f xs ++ map f ys
map-append-one f [] ys = refl
map-append-one f (x ∷ xs) ys = ap (λ (zs : List _). f x ∷ zs) (map-append-one f xs ys)

map-reverse : {X Y : Type 0} (f : X → Y) (xs : List X) → map f (reverse xs) ≡ reverse (map f xs)
map-reverse f [] = refl
map-reverse f (x ∷ xs) =
    rw (reverse-append (x ∷ []) xs, reverse-append (f x ∷ []) (map f xs), map-append-one f, map-reverse f xs) refl

reversed : (ns : List ℕ) (tasks : List NumberTask) → reverse (tasks ++ map Visit (reverse ns)) ≡ map Visit ns ++ reverse tasks
reversed ns tasks = rw (reverse-append, map-reverse, reverse-reverse) refl

module _ (nodes : List FlatNode) where
  abbrev full : Numbering → ℕ → Numbering
  full = visit (length nodes + 1) nodes

  -- the last task is done first
  pub finish-push : (s : Numbering) (tasks : List NumberTask) (task : NumberTask) → finish nodes s (tasks ++ task ∷ []) ≡ finish nodes (do_task nodes s task) tasks
  unfolding finish
  finish-push s tasks task = ap (fold (do_task nodes) s) (reverse-push tasks task)

  visits-done : (ns : List ℕ) (s : Numbering) → fold (do_task nodes) s (map Visit ns) ≡ fold full s ns
  visits-done [] s = refl
  visits-done (n ∷ ns) s = visits-done ns (full s n)

  -- nodes that are pushed last to first are visited first to last
  pub finish-visits : (ns : List ℕ) (s : Numbering) (tasks : List NumberTask) → finish nodes s (tasks ++ map Visit (reverse ns)) ≡ finish nodes (fold full s ns) tasks
  unfolding finish
  finish-visits ns s tasks =
      ap (fold (do_task nodes) s) (reversed ns tasks)
      ∙ fold-append (do_task nodes) s (map Visit ns) (reverse tasks)
      ∙ ap (λ (t : Numbering). fold (do_task nodes) t (reverse tasks)) (visits-done ns s)

  pub finish-none : (s : Numbering) → finish nodes s [] ≡ s
  unfolding finish
  finish-none s = refl

  pub old-done : (s : Numbering) (n : ℕ) (tasks : List NumberTask) → is_new s n ≡ false → finish nodes s tasks ≡ finish nodes (do_task nodes s (Visit n)) tasks
  old-done s n tasks old = ap (λ (t : Numbering). finish nodes t tasks) (sym (visit-old nodes (length nodes) s n old))

  pub new-done : (s : Numbering) (n : ℕ) (tasks : List NumberTask) → is_new s n ≡ true → unopened s.opened ≤ length nodes →
      finish nodes (appear s n) ((tasks ++ Close n ∷ []) ++ map Visit (reverse (parts_of nodes n))) ≡ finish nodes (do_task nodes s (Visit n)) tasks
  new-done s n tasks new h =
      finish-visits (parts_of nodes n) (appear s n) (tasks ++ Close n ∷ [])
      ∙ finish-push (fold full (appear s n) (parts_of nodes n)) tasks (Close n)
      ∙ ap (λ (t : Numbering). finish nodes t tasks) (sym (visit-new nodes (length nodes) s n new h))

  length-visits : (ns : List ℕ) → length (map Visit (reverse ns)) ≡ length ns
  length-visits ns = rw (length-map, length-reverse) refl

  pub new-fewer : (s : Numbering) (n : ℕ) (tasks : List NumberTask) → is_new s n ≡ true →
      work_left nodes (appear s n) ((tasks ++ Close n ∷ []) ++ map Visit (reverse (parts_of nodes n))) ≤ work_left nodes s tasks
  unfolding work_left
  new-fewer s n tasks new =
      omega (
        arith,
        length-append (tasks ++ Close n ∷ []) (map Visit (reverse (parts_of nodes n))),
        length-append tasks (Close n ∷ []),
        length-visits (parts_of nodes n),
        appear-less_to_come nodes s n new,
      )

  pub new-few : (s : Numbering) (n : ℕ) → is_new s n ≡ true → unopened s.opened ≤ length nodes → unopened (appear s n).opened ≤ length nodes
  new-few s n new h = omega (arith, appear-fewer s n new, h)

  pub close-fewer : (s t : Numbering) (tasks : List NumberTask) → t.opened ≡ s.opened → work_left nodes t tasks ≤ work_left nodes s tasks
  unfolding work_left
  close-fewer s t tasks e = rw e (omega arith)

  pub work-push : (s : Numbering) (tasks : List NumberTask) (task : NumberTask) → work_left nodes s (tasks ++ task ∷ []) ≡ work_left nodes s tasks + 1
  unfolding work_left
  work-push s tasks task = omega (arith, length-append tasks (task ∷ []))

  unopened-replicate : (n : ℕ) → unopened (replicate n false) ≡ n
  unfolding unopened
  unopened-replicate zero = refl
  unopened-replicate (suc n) = omega (arith, unopened-replicate n)

  pub unnumbered-few : unopened (unnumbered nodes).opened ≤ length nodes
  unnumbered-few = omega (arith, unopened-replicate (length nodes))

  -- roots come before helpers
  pub numbering-done : (roots helpers : List ℕ) →
      finish nodes (unnumbered nodes) (([] ++ map Visit (reverse helpers)) ++ map Visit (reverse roots)) ≡ numbering nodes roots helpers
  unfolding numbering
  numbering-done roots helpers =
      finish-visits roots (unnumbered nodes) ([] ++ map Visit (reverse helpers))
      ∙ finish-visits helpers (fold full (unnumbered nodes) roots) []
      ∙ finish-none (fold full (fold full (unnumbered nodes) roots) helpers)
      ∙ sym (fold-append full (unnumbered nodes) roots helpers)
