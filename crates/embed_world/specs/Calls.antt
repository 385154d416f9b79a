-- What the calls on an embedded world answer, and the world that they leave.
use Rattle.std.specs.Prelude.{◌≡◌, ◌⊎◌, ℕ, ℤ, List, [], Option, None, Result, Ok, Err, IfErr, IfNone, IfOk, IfSome, IsSomeAnd, OnErr, OnOk, slice_get}
use Rattle.sha2.specs.Sha256.{sha256}
use Rattle.cascade_core.specs.Forgetting.{forget_refusal, forgotten}
use Rattle.cascade_core.specs.Held.{IfSpoiled, StageView, after, holding, refusal_of, settled_by, spoiled, trace_of}
use Rattle.cascade_core.specs.Installing.{RefusesBox}
use Rattle.cascade_core.specs.Scripts.{kinds_in, scripts_in}
use Rattle.cascade_core.specs.Work.{IsWork}
use Rattle.snapshot_core.specs.Loading.{fault_before, load_outcome, loaded}
use Rattle.snapshot_core.specs.declared.fault.SaveFault.{SaveFault}
use Rattle.snapshot_core.specs.declared.fault.SaveFault.TheVariants as save
use Rattle.snapshot_core.specs.declared.fault.SnapFault.{SnapFault}
use Rattle.snapshot_core.specs.declared.fault.SnapFault.TheVariants as snap
use Rattle.snapshot_core.specs.declared.loading.Saved.{Saved}
use Rattle.app_jobs.specs.declared.fault.JobFault.{JobFault}
use Rattle.app_jobs.specs.declared.fault.JobFault.TheVariants.{Memory}
use Rattle.cascade_core.specs.declared.fault.ApplyFault.{ApplyFault}
use Rattle.cascade_core.specs.declared.fault.ApplyFault.TheVariants as apply
use Rattle.cascade_core.specs.declared.fault.ForgetFault.{ForgetFault}
use Rattle.cascade_core.specs.declared.fault.PlaceFault.{PlaceFault}
use Rattle.cascade_core.specs.declared.fault.PlaceFault.TheVariants as place
use Rattle.cascade_core.specs.declared.work.Work.{Work}
use Rattle.x3d_lists.specs.Answers.{Gives}
use Rattle.x3d_values.specs.Stamp.{StampedView}
use Rattle.x3d_values.specs.declared.script.Kind.{Kind}
use Rattle.embed_changes.specs.Changes.{Listing}
use Rattle.embed_world.specs.Looks.{snapshot_in}
use Rattle.app_program.specs.Stages.{opened_stage}
use Rattle.embed_world.specs.declared.fault.LookFault.{LookFault}
use Rattle.embed_world.specs.declared.fault.LookFault.TheVariants as look
use Rattle.embed_world.specs.declared.lists.ListEntry.{ListEntry}
use Rattle.embed_world.specs.declared.world.EmbeddedWorld.{EmbeddedWorld}

-- the world of a text before any input, with the text's mark, or why there is none
abbrev pub IsWorldOpened : List ℕ → Result EmbeddedWorld JobFault → Type 0
IsWorldOpened text result =
    Gives Memory (λ (w : EmbeddedWorld). w.stage) result (opened_stage text)
    × IfOk result (λ w. w.mark ≡ sha256 text)
    × IfOk result (λ w. w.text.items ≡ [])
    × IfOk result (λ w. w.numbers.items ≡ [])
    × IfOk result (λ w. w.changed ≡ [])

abbrev pub with_stage : EmbeddedWorld → StageView → EmbeddedWorld
with_stage w stage = record w { stage = stage }

-- an input is refused and nothing changes, or it gives the world of the definition and work that
-- counts what it did; if memory runs out the stage is spoiled
abbrev pub Applies : EmbeddedWorld → StampedView → Result Work ApplyFault → EmbeddedWorld → Type 0
Applies old input result new =
    IfSome (refusal_of old.stage.held input) (λ fault. (result ≡ Err fault)
    × (new.stage ≡ old.stage))
    × OnOk result (new.stage ≡ after old.stage input)
    × IfOk result (IsWork old.stage.routes (trace_of old.stage.held) (trace_of new.stage.held)
    (settled_by old.stage input))
    × OnOk result (refusal_of old.stage.held input ≡ None)
    × IfNone (refusal_of old.stage.held input)
    (OnErr result ((result ≡ Err apply.Memory) × (new.stage ≡ spoiled old.stage)))
    × (new ≡ with_stage old new.stage)

-- the text was made of the world, which is unchanged
abbrev pub Makes : Result (List ℕ) LookFault → EmbeddedWorld → Result (Unit {0}) LookFault
    → EmbeddedWorld → Type 0
Makes text old result new =
    Gives look.Memory (λ _. new.text.items) result text
    × OnErr result (new.text.items ≡ [])
    × (new ≡ record old { text = new.text })

-- the numbers were listed of the world, which is unchanged
abbrev pub Lists : Result (List ℤ) LookFault → EmbeddedWorld → Result (Unit {0}) LookFault
    → EmbeddedWorld → Type 0
Lists numbers old result new =
    Gives look.Memory (λ _. new.numbers.items) result numbers
    × OnErr result (new.numbers.items ≡ [])
    × (new ≡ record old { numbers = new.numbers })

-- the fields that were set, and the numbers of their values, were listed of the world, which is
-- unchanged
abbrev pub ListsChanged : Result Listing LookFault → EmbeddedWorld → Result (Unit {0}) LookFault
    → EmbeddedWorld → Type 0
ListsChanged listing old result new =
    Gives look.Memory (λ _. (new.changed, new.numbers.items)) result listing
    × OnErr result (new.changed ≡ [])
    × OnErr result (new.numbers.items ≡ [])
    × (new ≡ record old { changed = new.changed; numbers = new.numbers })

-- where a ray enters was returned, and the sensors were listed, of the world, which is unchanged
abbrev pub Meets : Result (Option ListEntry × List ℤ) LookFault → EmbeddedWorld
    → Result (Option ListEntry) LookFault → EmbeddedWorld → Type 0
Meets met old result new =
    Gives look.Memory (λ entry. (entry, new.numbers.items)) result met
    × OnErr result (new.numbers.items ≡ [])
    × (new ≡ record old { numbers = new.numbers })

-- the snapshot of the world, taken as a boot, was made, and the world is unchanged
abbrev pub Saves : EmbeddedWorld → ℕ → Result (Unit {0}) SaveFault → EmbeddedWorld → Type 0
Saves old boot result new =
    Gives save.Memory (λ _. new.text.items) result (snapshot_in old.stage old.mark boot)
    × OnErr result (new.text.items ≡ [])
    × (new ≡ record old { text = new.text })

-- the world was replaced by that of a snapshot, to start again as a boot; if memory ran out the
-- stage is spoiled
abbrev pub Loads : EmbeddedWorld → ℕ → List ℕ → Result Saved SnapFault → EmbeddedWorld → Type 0
Loads old boot bytes result new =
    ((load_outcome old.stage (loaded old.mark old.stage.scene boot bytes) ≡ (result, new.stage))
    ⊎ ((result ≡ Err snap.Memory) × (new.stage ≡ spoiled old.stage)
    × (fault_before old.mark bytes ≡ None)))
    × (new ≡ with_stage old new.stage)

-- the lines of the trace of inputs below a number were forgotten, and nothing else; or the number
-- is refused and nothing changes
abbrev pub Forgets : EmbeddedWorld → (below : ℕ) → Result (Unit {0}) ForgetFault → EmbeddedWorld
    → Type 0
Forgets old below result new =
    IfNone (forget_refusal below old.stage.held) ((result ≡ Ok tt)
    × (new ≡ with_stage old (holding old.stage (forgotten below old.stage.held))))
    × IfSome (forget_refusal below old.stage.held) (λ fault. (result ≡ Err fault) × (new ≡ old))

-- a box of this kind replaced script k, or was refused, and the world is unchanged
abbrev pub Replaces : EmbeddedWorld → (k : ℕ) → Kind → Result (Unit {0}) PlaceFault → EmbeddedWorld
    → Type 0
Replaces old k kind result new =
    (new ≡ old)
    × OnOk result (IsSomeAnd (slice_get (kinds_in old.stage.scene) k) (λ own. kind ≡ own))
    × IfSpoiled old.stage.held (result ≡ Err place.Spoiled)
    × IfErr result (λ fault. (fault ≡ place.Memory)
    ⊎ RefusesBox fault old.stage.held (slice_get (scripts_in old.stage.scene) k) kind)
