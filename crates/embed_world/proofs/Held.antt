-- What the stage says of its text, as what is read of it.
use Rattle.std.proofs.Common.{◌≡◌, ◌++◌, ℕ, List, [], Ok, Err, refl, rules}
use Rattle.std.specs.Prelude.{Result}
use Rattle.cascade_core.specs.Course.{Scripted}
use Rattle.cascade_core.specs.Held.{Held, IfRunning, IfSpoiled, Running, Spoiled}
use Rattle.cascade_core.specs.declared.fault.TextFault.{TextFault}
use Rattle.cascade_core.specs.declared.fault.TextFault.TheVariants as text_fault
use Rattle.scene_core.specs.Scene.{SceneView}
use Rattle.snapshot_core.specs.Shot.{shot}
use Rattle.snapshot_core.specs.declared.fault.SaveFault.{SaveFault}
use Rattle.snapshot_core.specs.declared.fault.SaveFault.TheVariants as save
use Rattle.embed_world.specs.Looks.{of_held, shot_of}
use Rattle.embed_world.specs.declared.fault.LookFault.TheVariants as look

abbrev answered : Unit {0} → Result (Unit {0}) TextFault
answered u = Ok u

-- a text that was made is that of the world
pub made : (held : Held) (text : Scripted → List ℕ) (u : Unit {0}) (old new : List ℕ) → old ≡ [] → IfSpoiled held (answered u ≡ Err text_fault.Spoiled)
    → IfRunning held (λ w. new ≡ old ++ text w) → of_held held text ≡ Ok new
made (Running w) text u old new empty spoiled is = search rules
made (Spoiled n) text u old new empty spoiled is = absurd cc

-- one that is refused for no want of memory is that of a spoiled stage
pub none : (held : Held) (text : Scripted → List ℕ) (fault : TextFault) → fault ≡ text_fault.Spoiled
    → IfRunning held (λ w. fault ≡ text_fault.Memory) → of_held held text ≡ Err look.Spoiled
none (Running w) text fault is memory = absurd cc
none (Spoiled n) text fault is memory = refl

-- ---- snapshots

abbrev saved : Unit {0} → Result (Unit {0}) SaveFault
saved u = Ok u

abbrev refused : SaveFault → Result (Unit {0}) SaveFault
refused fault = Err fault

-- a snapshot that was made is that of the world
pub shot_made : (held : Held) (mark : List ℕ) (boot : ℕ) (scene : SceneView) (u : Unit {0}) (old new : List ℕ) → old ≡ []
    → IfSpoiled held ((saved u ≡ Err save.Spoiled) × (new ≡ old)) → IfRunning held (λ w. new ≡ old ++ shot mark boot scene w)
    → shot_of mark boot scene held ≡ Ok new
shot_made (Running w) mark boot scene u old new empty spoiled is = search rules
shot_made (Spoiled n) mark boot scene u old new empty spoiled is = let e = spoiled.0 in absurd cc

-- one that is refused for no want of memory is that of a spoiled stage
pub no_shot : (held : Held) (mark : List ℕ) (boot : ℕ) (scene : SceneView) (fault : SaveFault) (old new : List ℕ) → fault ≡ save.Spoiled
    → IfRunning held (λ w. (refused fault ≡ Err save.Memory) × (new ≡ old)) → shot_of mark boot scene held ≡ Err save.Spoiled
no_shot (Running w) mark boot scene fault old new is memory = let e = memory.0 in absurd cc
no_shot (Spoiled n) mark boot scene fault old new is memory = refl
