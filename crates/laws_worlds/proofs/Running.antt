-- Which scripts run.
use Rattle.std.proofs.Common.{◌≡◌, ℕ, zero, suc, ◌<◌, Bool, true, ◌&&◌, List, [], ◌∷◌, length, Option, Some, None, IsSomeAnd, is_some, slice_get, refl, arith}
use Rattle.std.specs.List.{list_all}
use Rattle.byte_codec.proofs.Laws.{both, and_true}
use Rattle.x3d_values.specs.declared.script.Kind.{Kind}
use Rattle.x3d_values.specs.declared.script.ScriptSpec.{ScriptSpec}
use Rattle.script_host.specs.Attaching.{Meets}
use Rattle.script_host.specs.Hosting.{SlotView}
use Rattle.scene_core.specs.Scene.{SceneView}
use Rattle.script_running.specs.Scripts.{script_list}
use Rattle.laws_worlds.specs.Nodes.{AttachedRun, RunsAll, runs}

-- what holds at each place holds of all
all_at : {X : Type 0} (p : X → Bool) (xs : List X) → ((j : ℕ) → j < length xs → IsSomeAnd (slice_get xs j) (λ x. p x ≡ true)) → list_all p xs ≡ true
all_at p [] h = refl
all_at p (x ∷ xs) h = and_true _ _ (h 0 (omega arith)) (all_at p xs (λ j l. h (suc j) (omega (arith, l))))

pub one_of : {X : Type 0} (p : X → Bool) (xs : List X) (j : ℕ) (x : X) → list_all p xs ≡ true → slice_get xs j ≡ Some x → p x ≡ true
one_of p [] j x all h = absurd cc
one_of p (y ∷ xs) zero x all h =
    let same : y ≡ x = cc in
    rw (← same) ((both (p y) (list_all p xs) all).0)
one_of p (y ∷ xs) (suc j) x all h = one_of p xs j x (both (p y) (list_all p xs) all).1 h

met : (o : Option ScriptSpec) (q : Option SlotView) → IsSomeAnd o (λ s. IsSomeAnd q (λ r. Meets s r)) → IsSomeAnd o (λ s. runs s ≡ true)
met None q m = absurd m
met (Some s) None m = absurd m
met (Some s) (Some r) m = rw (m.kind, m.interface) refl

pub attached_all_run : AttachedRun
attached_all_run s boxes fits =
    all_at runs (script_list s) (λ j l. met (slice_get (script_list s) j) (slice_get boxes j) (fits.meet j l))

-- a script that runs is of a kind, and its interface fits
pub record Runs (asked : ScriptSpec) : Type 0 where
  pub kind : Kind
  pub is : asked.kind ≡ Some kind
  pub fits : asked.fits ≡ true

not_run : (o : Option Kind) (b : Bool) → o ≡ None → (is_some o && b) ≡ true → ⊥
not_run (Some kind) b e h = cc
not_run None b e h = cc

pub runs_by : (asked : ScriptSpec) (o : Option Kind) → asked.kind ≡ o → runs asked ≡ true → Runs asked
runs_by asked None e h = absurd (not_run asked.kind asked.fits e h)
runs_by asked (Some kind) e h = record { kind = kind; is = e; fits = (both (is_some asked.kind) asked.fits h).1 }

pub runs_at : (s : SceneView) (k : ℕ) (asked : ScriptSpec) → RunsAll s → slice_get (script_list s) k ≡ Some asked → Runs asked
runs_at s k asked all h = runs_by asked asked.kind refl (one_of runs (script_list s) k asked all h)
