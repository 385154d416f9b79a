-- Laws of parts of texts.
use Rattle.std.specs.Prelude.{◌≡◌, ◌⊎◌, ℕ, true, List, Ok}
use Rattle.app_jobs.specs.declared.fault.JobFault.{JobFault}
use Rattle.app_jobs.specs.declared.fault.JobFault.TheVariants.{Memory}
use Rattle.app_program.specs.Opening.{opened}
use Rattle.app_program.specs.declared.open.OpenedScene.{OpenedScene}
use Rattle.app_part.specs.Mends.{is_limit}
use Rattle.app_part.specs.Whole.{IsNoDocument, IsNoText, IsPartOfText, IsRefused, IsScene, IsWhole}
use Rattle.app_part.specs.declared.part.ScenePart.{ScenePart}

-- the part of a scene that `check` takes is that scene, as `format` writes it
abbrev pub ScenesAreTheirParts : Type 0
ScenesAreTheirParts =
    (text : List ℕ) (scene : OpenedScene) (made : ScenePart) → opened text ≡ Ok scene
    → IsPartOfText text made → IsWhole text made

-- a scene is refused only for the text that `format` writes of it
abbrev pub ScenesAreRefusedAsTexts : Type 0
ScenesAreRefusedAsTexts =
    (text : List ℕ) (scene : OpenedScene) (fault : JobFault) → opened text ≡ Ok scene
    → IsRefused text fault → (fault ≡ Memory) ⊎ IsNoText text fault

-- the second is the first, and nothing was left out of it
pub record IsSamePart (first second : ScenePart) : Type 0 where
  pub text : second.text.items ≡ first.text.items
  pub whole : IsWhole first.text.items second

-- the part of a part is that part
abbrev pub PartsAreTheirParts : Type 0
PartsAreTheirParts =
    (first second : ScenePart) → IsScene first.text.items → IsPartOfText first.text.items second
    → IsSamePart first second

-- a text that is read has a part, or passes a limit
abbrev pub RefusalsAreLimits : Type 0
RefusalsAreLimits =
    (text : List ℕ) (fault : JobFault) → IsRefused text fault
    → IsNoDocument text fault ⊎ (is_limit fault ≡ true)
