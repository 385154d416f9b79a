-- One more viewer for the next stage.
use Rattle.std.proofs.Common.{◌≡◌, ℕ, ◌+◌, ◌≤◌, List, [], ◌∷◌, ◌++◌, suc, ap, ◌∙◌, arith, length, append_assoc}
use Rattle.std.specs.Prelude.{None}
use Rattle.std.proofs.lemmas.List.{length-append}
use Rattle.x3d_values.specs.Ranges.{max_viewers}
use Rattle.cascade_core.specs.Apply.{opening}
use Rattle.cascade_core.specs.Held.{StageView}
use Rattle.share_core.specs.Viewer.{ViewerView}
use Rattle.share_law.specs.Viewer as law
use Rattle.share_rehearsal.specs.Calls.{viewers_from}

-- the viewer of a stage, in its first boot
abbrev pub seat_of : (mark : List ℕ) → ℕ → StageView → ViewerView
seat_of mark n stage = record {
  mark = mark;
  who = n;
  scene = stage.scene;
  routes = stage.routes;
  state = law.begun 1 (opening stage.scene stage.routes);
  gathering = None;
}

pub seated : (mark : List ℕ) (viewers : List ViewerView) (stage : StageView) (rest all : List StageView) (more : List ViewerView)
    → more ≡ viewers ++ seat_of mark (length viewers) stage ∷ [] → viewers ++ viewers_from mark (length viewers) (stage ∷ rest) ≡ viewers_from mark 0 all
    → more ++ viewers_from mark (length more) rest ≡ viewers_from mark 0 all
seated mark viewers stage rest all more is h =
    let count : length more ≡ suc (length viewers) = ap length is ∙ length-append viewers (seat_of mark (length viewers) stage ∷ []) ∙ omega (arith) in
    ap (λ (n : ℕ). more ++ viewers_from mark n rest) count
    ∙ ap (λ (xs : List ViewerView). xs ++ viewers_from mark (suc (length viewers)) rest) is
    ∙ append_assoc viewers (seat_of mark (length viewers) stage ∷ []) (viewers_from mark (suc (length viewers)) rest)
    ∙ h

pub few : (viewers : List ViewerView) (x : ViewerView) (stage : StageView) (rest : List StageView) (more : List ViewerView)
    → more ≡ viewers ++ x ∷ [] → length viewers + length (stage ∷ rest) ≤ max_viewers → length more + length rest ≤ max_viewers
few viewers x stage rest more is h =
    let count : length more ≡ length viewers + 1 = ap length is ∙ length-append viewers (x ∷ []) in omega (arith, count, h)
