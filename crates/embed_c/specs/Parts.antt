-- What the exports do with the handle of a part.
use Rattle.std.specs.Prelude.{◌≡◌, ℕ, List, [], Option, Some, None, Result, Ok, Err}
use Rattle.std.specs.Result.{result_ok}
use Rattle.app_jobs.specs.declared.fault.JobFault.{JobFault}
use Rattle.app_program.specs.Refusal.{refusal_text, status}
use Rattle.app_program.specs.declared.refusal.Failure.TheVariants.{Job}
use Rattle.embed_parts.specs.Parts.{IsOpened}
use Rattle.embed_parts.specs.declared.part.EmbeddedPart.{EmbeddedPart}
use Rattle.embed_world.specs.Status.{IsCopied, closed}
use Rattle.embed_world.specs.declared.world.EmbeddedWorld.{EmbeddedWorld}
use Rattle.embed_c.specs.Answers.{Opens}

abbrev pub status_of_part : Result EmbeddedPart JobFault → ℕ
status_of_part (Ok _) = 0
status_of_part (Err fault) = status (Job fault)

-- the line of a refusal, as the program prints it; none if there is a part
abbrev pub part_line : Result EmbeddedPart JobFault → List ℕ
part_line (Ok _) = []
part_line (Err fault) = refusal_text (Job fault)

-- the handle has the part of the text, or is empty, with the status and the line of the refusal
abbrev pub OpensPart : List ℕ → ℕ → Option EmbeddedPart → (old : List ℕ) → ℕ → (new : List ℕ)
    → Type 0
OpensPart text status after old wanted new =
    (answer : Result EmbeddedPart JobFault) × (copied : ℕ)
    × IsOpened text answer × (status ≡ status_of_part answer) × (after ≡ result_ok answer)
    × IsCopied (part_line answer) old copied wanted new

-- a world's handle has the world of a part's text, as if it was opened of that text
abbrev pub OpensWorldOf : Option EmbeddedPart → Option EmbeddedWorld → ℕ → Option EmbeddedWorld
    → (old : List ℕ) → (wanted_old wanted : ℕ) → (new : List ℕ) → Type 0
OpensWorldOf None before status after old wanted_old wanted new =
    (status ≡ closed) × (after ≡ before) × (wanted ≡ wanted_old) × (new ≡ old)
OpensWorldOf (Some part) before status after old wanted_old wanted new =
    Opens part.text.items status after old wanted new
