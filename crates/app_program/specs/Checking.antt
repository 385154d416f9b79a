-- What `check` reads and writes: a scene, and the numbers of its nodes and routes (the line is our
-- choice).
use Rattle.std.specs.Prelude.{◌≡◌, ◌⊎◌, ◌++◌, Option, ℕ, List, [], ◌∷◌, Ok, Err, length, codes, decimal}
use Rattle.std.specs.Io.KnownBytes.{Appends, Consumes, IsAtEnd, Keeps}
use Rattle.app_program.specs.Opening.{opened}
use Rattle.app_jobs.specs.declared.fault.JobFault.{JobFault}
use Rattle.app_jobs.specs.declared.fault.JobFault.TheVariants.{Device}
use Rattle.app_program.specs.declared.open.OpenedScene.{OpenedScene}

abbrev line_feed : ℕ
line_feed = 10

-- `good <nodes> nodes <routes> routes`
unfoldable pub counts_text : OpenedScene → List ℕ
counts_text o =
    codes "good " ++ decimal (length o.scene.nodes) ++ codes " nodes "
    ++ decimal (length o.routes) ++ codes " routes" ++ line_feed ∷ []

-- a reader was read to its end, from state old to state new, and its bytes are this scene
pub record IsSceneOpened (old new : Option (List ℕ)) (o : OpenedScene) : Type 0 where
  pub bytes : List ℕ
  pub consumed : Consumes old new bytes
  pub ended : IsAtEnd new
  pub scene : opened bytes ≡ Ok o

-- a reader was read to its end, and its bytes are not a scene, for this reason
pub record IsNoScene (old new : Option (List ℕ)) (fault : JobFault) : Type 0 where
  pub bytes : List ℕ
  pub consumed : Consumes old new bytes
  pub ended : IsAtEnd new
  pub refused : opened bytes ≡ Err fault

-- a reader's bytes are a scene, and the counts of that scene were appended to a writer
pub record IsChecked (old_read new_read old_written new_written : Option (List ℕ)) : Type 0 where
  pub scene : OpenedScene
  pub read : IsSceneOpened old_read new_read scene
  pub written : Appends old_written new_written (counts_text scene)

-- nothing was written; or the writer failed, and the reader's bytes are a scene
abbrev pub IsUnchecked : Option (List ℕ) → Option (List ℕ) → Option (List ℕ) → Option (List ℕ)
    → JobFault → Type 0
IsUnchecked old_read new_read old_written new_written fault =
    Keeps old_written new_written
    ⊎ ((fault ≡ Device) × ((o : OpenedScene) × IsSceneOpened old_read new_read o))
