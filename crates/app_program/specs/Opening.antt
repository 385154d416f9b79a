-- The scene of a text and the job of a byte list, as a sequence of layers.
use Rattle.std.specs.Prelude.{◌≡◌, ◌⊎◌, Option, ℕ, List, Result, Ok, Err}
use Rattle.x3d_values.specs.Stamp.{StampedView}
use Rattle.classic_text.specs.Reading.{read_text}
use Rattle.classic_tree.specs.declared.tree.Document.{Document}
use Rattle.proto_flat.specs.declared.flat.Flat.{Flat}
use Rattle.proto_meaning.specs.Flat.{flat}
use Rattle.scene_core.specs.Building.{scene_of}
use Rattle.scene_core.specs.Scene.{SceneView}
use Rattle.scene_core.specs.declared.scene.Route.{Route}
use Rattle.route_core.specs.Resolved.{resolved}
use Rattle.app_jobs.specs.Job.{job_lines}
use Rattle.app_jobs.specs.Schedule.{schedule_lines}
use Rattle.app_jobs.specs.Faults.{of_read, of_expand, of_scene, of_route}
use Rattle.std.specs.Io.KnownBytes.{Consumes, IsAtEnd}
use Rattle.app_jobs.specs.declared.fault.JobFault.{JobFault}
use Rattle.app_jobs.specs.declared.fault.JobFault.TheVariants.{Device, Memory}
use Rattle.app_program.specs.declared.open.OpenedScene.{OpenedScene}
use Rattle.app_program.specs.declared.open.Job.{Job}

-- the next layer's answer to a layer's result; or the layer's fault as one of the job
abbrev pub next : {X Y E : Type 0} → (E → JobFault) → Result X E → (X → Result Y JobFault)
    → Result Y JobFault
next fault (Ok x) f = f x
next fault (Err e) f = Err (fault e)

abbrev pub same : JobFault → JobFault
same fault = fault

abbrev pub with_routes : SceneView → List Route → Result OpenedScene JobFault
with_routes scene routes = Ok (record { scene = scene; routes = routes })

-- a scene with the routes of its document
abbrev pub routed : Flat → SceneView → Result OpenedScene JobFault
routed f s = next of_route (resolved f s) (with_routes s)

-- the scene of a document, and its routes
abbrev pub built : Flat → Result OpenedScene JobFault
built f = next of_scene (scene_of f) (routed f)

abbrev pub good : Flat → Result Flat JobFault
good f = Ok f

-- the nodes of a text's document, by number
unfoldable pub flattened : List ℕ → Result Flat JobFault
flattened text = next of_read (read_text text) (λ d. next of_expand (flat d) good)

-- the scene of a text, and its routes
unfoldable pub opened : List ℕ → Result OpenedScene JobFault
opened text = next same (flattened text) built

-- the scene of a document, and its routes
unfoldable pub opened_document : Document → Result OpenedScene JobFault
opened_document d = next of_expand (flat d) built

abbrev pub with_inputs : List StampedView → OpenedScene → Result Job JobFault
with_inputs inputs o = Ok (record { inputs = inputs; scene = o.scene; routes = o.routes })

-- the steps of the lines before the first line `scene`, and the scene after that line
unfoldable pub opened_job : List ℕ → Result Job JobFault
opened_job bytes =
    next same (job_lines bytes) (λ l. next same (opened l.scene) (with_inputs l.inputs))

-- the fault of a device, or of memory
abbrev pub IsDeviceOrMemory : JobFault → Type 0
IsDeviceOrMemory fault = (fault ≡ Device) ⊎ (fault ≡ Memory)

-- a reader was read to its end, and its bytes are not a job, for this reason
abbrev pub IsNoJob : Option (List ℕ) → Option (List ℕ) → JobFault → Type 0
IsNoJob old new fault = (bytes : List ℕ) × Consumes old new bytes × IsAtEnd new
    × (opened_job bytes ≡ Err fault)

-- a reader was read to its end, and its bytes are not a schedule, for this reason
abbrev pub IsNoSchedule : Option (List ℕ) → Option (List ℕ) → JobFault → Type 0
IsNoSchedule old new fault =
    (bytes : List ℕ) × Consumes old new bytes × IsAtEnd new
    × (schedule_lines bytes ≡ Err fault)
