-- What is at fault in a document that is no scene.
use Rattle.std.specs.Prelude.{◌≡◌, List, Result, Ok, Err}
use Rattle.classic_tree.specs.declared.tree.Document.{Document}
use Rattle.proto_flat.specs.declared.fault.ExpandFault.{ExpandFault}
use Rattle.proto_flat.specs.declared.flat.Flat.{Flat}
use Rattle.proto_meaning.specs.Flat.{flat}
use Rattle.scene_faults.specs.Faults.{flat_blames}
use Rattle.scene_faults.specs.Texts.{text_blames}
use Rattle.scene_faults.specs.declared.blame.Blame.{Blame}
use Rattle.app_jobs.specs.declared.fault.JobFault.{JobFault}
use Rattle.app_program.specs.Opening.{opened_document}
use Rattle.app_program.specs.declared.open.OpenedScene.{OpenedScene}

-- what a node or a route alone tells; of a document that can't be expanded, what the braces, the
-- interfaces and the lists of its text tell
abbrev pub blames_of : Document → Result Flat ExpandFault → List Blame
blames_of document (Err fault) = text_blames document
blames_of document (Ok flat) = flat_blames flat

-- a document is a scene
pub record IsGood (document : Document) : Type 0 where
  pub scene : OpenedScene
  pub opened : opened_document document ≡ Ok scene

-- a document is no scene: its first fault, and all that is printed of it at once
pub record IsToldBad (document : Document) (fault : JobFault) (blames : List Blame) : Type 0 where
  pub opened : opened_document document ≡ Err fault
  pub told : blames ≡ blames_of document (flat document)
