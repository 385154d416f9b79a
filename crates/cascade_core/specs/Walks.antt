-- A walk over all nodes by their numbers, a block of 32 at a time.
use Rattle.std.specs.Prelude.{ℕ, ◌*◌, ◌-◌, ◌&&◌, ◌++◌, Bool, List, [], ◌∷◌, min, if◌then◌else◌}
use Rattle.std.specs.List.{fold, range_with_len}
use Rattle.x3d_values.specs.declared.node_type.NodeType.{NodeType}
use Rattle.cascade_world.specs.Nodes.{is_sensor}
use Rattle.cascade_world.specs.Pointer.{is_pressed, untracked}
use Rattle.cascade_world.specs.declared.aim.Concerned.{Concerned}
use Rattle.cascade_world.specs.declared.world.WorldData.{WorldData}

-- what is done at a number that passes; nothing is done at another
abbrev pub where_passes : {S : Type 0} → (ℕ → Bool) → (S → ℕ → S) → S → ℕ → S
where_passes p f s i = if p i then f s i else s

-- what is done at each number of a block, of `count` numbers in all
abbrev pub over_block : {S : Type 0} → (S → ℕ → S) → S → ℕ → ℕ → S
over_block g s block count =
    fold g s (range_with_len (block * 32) (min (count - block * 32) 32))

-- what is done at a sensor that a pointer concerns and that its viewer doesn't drag
abbrev pub untracked_by : {S : Type 0} → (S → Concerned → S) → S → ℕ → S
untracked_by f s node = f s (untracked node)

-- the node of that number is a pointing sensor that a viewer presses
abbrev pub presses : WorldData → List NodeType → ℕ → ℕ → Bool
presses w kinds who node = is_pressed w who node && is_sensor kinds node

abbrev pub appended : (ℕ → Concerned) → List Concerned → ℕ → List Concerned
appended track all node = all ++ track node ∷ []
