-- The lines of a log, followed by a scene, as a job.
use Rattle.std.specs.Prelude.{ℕ, ◌&&◌, Bool, true, List, ◌∷◌, ◌++◌, codes}
use Rattle.std.specs.List.{list_all}
use Rattle.x3d_values.specs.Pointing.{is_ray}
use Rattle.x3d_values.specs.Ranges.{is_viewer}
use Rattle.share_entries.specs.declared.entry.Source.{Source}
use Rattle.share_entries.specs.declared.entry.Source.TheVariants.{Clock, Offer}
use Rattle.share_entries.specs.Entry.{EntryView}
use Rattle.app_logs.specs.Steps.{steps_text}

-- the lines of the inputs, a line `scene`, and the scene
abbrev pub replay_text : List EntryView → (scene : List ℕ) → List ℕ
replay_text entries scene = steps_text entries ++ (codes "scene" ++ (10 ∷ scene))

-- the pointer of an offer is in its ranges, as that of each offer that is read is
abbrev pub is_pointing : Source → Bool
is_pointing Clock = true
is_pointing (Offer o) = is_viewer o.pointer.who && is_ray o.pointer.ray

abbrev pub are_pointing : List EntryView → Bool
are_pointing entries = list_all (λ e. is_pointing e.source) entries
