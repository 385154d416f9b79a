-- A table of the scripts of nodes, script by script.
use Rattle.std.proofs.Common.{◌≡◌, ℕ, ◌+◌, Bool, true, false, List, [], ◌∷◌, ◌++◌, ◌∙◌, Option, Some, None, ap, sym, zero, suc, refl, arith, length, take}
use Rattle.std.specs.Prelude.{◌==◌, slice_get, if◌then◌else◌}
use Rattle.script_running.specs.declared.run.Run.{Run}
use Rattle.script_running.specs.Running.{script_from}
use Rattle.script_running.specs.Table.{IsNoted, IsTable, number_at, number_or}

-- one place more, with no number
pub number-push : (numbers : List (Option ℕ)) (i : ℕ) → number_at (numbers ++ None ∷ []) i ≡ number_at numbers i
number-push [] zero = refl
number-push [] (suc i) = refl
number-push (n ∷ numbers) zero = refl
number-push (n ∷ numbers) (suc i) = number-push numbers i

-- a script more
script-push : (from : ℕ) (runs : List Run) (run : Run) (node : ℕ) →
    script_from from (runs ++ run ∷ []) node ≡ number_or (script_from from runs node) (run.node == node) (from + length runs)
script-push from [] run node = cases (run.node == node)
  where
    cases : (b : Bool) → (if b then Some from else None) ≡ number_or None b (from + 0)
    cases true = let same : from ≡ from + 0 = omega arith in ap Some same
    cases false = refl
script-push from (r ∷ runs) run node = cases (r.node == node) (script-push (from + 1) runs run node)
  where
    cases : (b : Bool) → script_from (from + 1) (runs ++ run ∷ []) node ≡ number_or (script_from (from + 1) runs node) (run.node == node) (from + 1 + length runs) →
        (if b then Some from else script_from (from + 1) (runs ++ run ∷ []) node) ≡ number_or (if b then Some from else script_from (from + 1) runs node) (run.node == node) (from + suc (length runs))
    cases true more = refl
    cases false more =
        let same : from + 1 + length runs ≡ from + suc (length runs) = omega arith in
        more ∙ ap (λ (k : ℕ). number_or (script_from (from + 1) runs node) (run.node == node) k) same

taken : (runs : List Run) (k : ℕ) (run : Run) → slice_get runs k ≡ Some run → (take (k + 1) runs ≡ take k runs ++ run ∷ []) × (length (take k runs) ≡ k)
taken [] k run h = cc
taken (r ∷ runs) zero run h = let same : r ≡ run = cc in (rw same refl, refl)
taken (r ∷ runs) (suc k) run h =
    let (more, few) = taken runs k run h in
    let next : take (suc k + 1) (r ∷ runs) ≡ r ∷ take (k + 1) runs = step (suc k + 1) (k + 1) (omega arith) in
    (next ∙ ap (λ (xs : List Run). r ∷ xs) more, ap suc few)
  where
    step : (m n : ℕ) → m ≡ suc n → take m (r ∷ runs) ≡ r ∷ take n runs
    step m n is = rw is refl

-- a script more is noted
pub noted_one : (runs : List Run) (old new : List (Option ℕ)) (k : ℕ) (run : Run) → slice_get runs k ≡ Some run → IsNoted old new run.node k → IsTable old (take k runs) →
    IsTable new (take (k + 1) runs)
noted_one runs old new k run there noted table node =
    let (more, few) = taken runs k run there in
    let at : k ≡ 0 + length (take k runs) = omega (arith, few) in
    rw more
    (noted node
    ∙ ap (λ (x : Option ℕ). number_or x (run.node == node) k) (table node)
    ∙ ap (λ (n : ℕ). number_or (script_from 0 (take k runs) node) (run.node == node) n) at
    ∙ sym (script-push 0 (take k runs) run node))

-- no script is noted
pub noted_none : IsTable [] []
noted_none node = refl
