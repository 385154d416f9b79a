-- Scripts that run, by their kinds and states.
use Rattle.std.proofs.Common.{◌≡◌, ℕ, List, [], ◌∷◌, ap, refl, suc, length}
use Rattle.std.specs.Prelude.{ℤ}
use Rattle.x3d_values.specs.declared.script.Kind.{Kind}
use Rattle.script_host.specs.Hosting.{SlotView}
use Rattle.script_running.specs.Acting.{kinds_of}
use Rattle.script_running.specs.Running.{running, states_of}

less-one : (m n : ℕ) → suc m ≡ suc n → m ≡ n
less-one m n h = cc

-- with as many states as kinds the kinds stand
pub running-kinds : (kinds : List Kind) (states : List (List ℤ)) → length states ≡ length kinds → kinds_of (running kinds states) ≡ kinds
running-kinds [] states h = refl
running-kinds (kind ∷ kinds) [] h = cc
running-kinds (kind ∷ kinds) (state ∷ states) h =
    ap (λ (ks : List Kind). kind ∷ ks) (running-kinds kinds states (less-one (length states) (length kinds) h))

-- there are as many states as kinds
pub states-many : (scripts : List SlotView) → length (states_of scripts) ≡ length (kinds_of scripts)
states-many [] = refl
states-many (s ∷ scripts) = ap suc (states-many scripts)
