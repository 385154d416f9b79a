-- What is inside the nodes of a list.
use Rattle.std.specs.Prelude.{ℕ, ◌+◌, List, [], ◌∷◌, ◌++◌, map}

-- all that is inside the nodes of a list, from a position on, each seen from outside its node
unfoldable pub spread : {A : Type 0} → (ℕ → ℕ → A → A) → (ℕ → List A) → ℕ → List ℕ → List A
spread under inside position [] = []
spread under inside position (node ∷ nodes) =
    map (under position node) (inside node) ++ spread under inside (position + 1) nodes
