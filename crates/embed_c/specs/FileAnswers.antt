-- What the exports do with the handle of a log in a file.
use Rattle.std.specs.Prelude.{◌≡◌, ◌⊎◌, ℕ, ◌==◌, List, Option, Some, None, Result, Ok, Err, if◌then◌else◌}
use Rattle.std.specs.Result.{result_ok}
use Rattle.sha2.specs.Sha256.{sha256}
use Rattle.share_file.specs.declared.contents.Expected.{Expected}
use Rattle.embed_logs.specs.Files.{MakesFile, OpensFile, bytes_in}
use Rattle.embed_logs.specs.LogFaults.{frame_of, status_of_log_file}
use Rattle.embed_logs.specs.declared.fault.LogFileFault.{LogFileFault}
use Rattle.embed_logs.specs.declared.files.LogFile.{LogFile}
use Rattle.embed_logs.specs.declared.files.OpenedFile.{OpenedFile}
use Rattle.embed_world.specs.PeerStatus.{status_by}
use Rattle.embed_world.specs.Status.{IsCopied, closed}

-- ---- making and opening

-- the handle has a new log of a scene's text, or is empty, with the status of the refusal
abbrev pub LogMakes : (text : List ℕ) → (viewers : ℕ) → (status : ℕ) → Option LogFile → Type 0
LogMakes text viewers status after =
    (answer : Result LogFile LogFileFault)
    × MakesFile (sha256 text) viewers answer × (status ≡ status_by status_of_log_file answer)
    × (after ≡ result_ok answer)

-- the number of viewers that a log is to have: any for 0
abbrev pub seats_of : (viewers : ℕ) → Option ℕ
seats_of viewers = if viewers == 0 then None else Some viewers

abbrev pub expected_of : (text : List ℕ) → (viewers : ℕ) → Expected
expected_of text viewers = record { mark = sha256 text; viewers = seats_of viewers }

abbrev pub opened_as : LogFile → (cut : ℕ) → OpenedFile
opened_as file cut = record { file = file; cut = cut }

abbrev pub file_of : Result OpenedFile LogFileFault → Option LogFile
file_of (Ok o) = Some o.file
file_of (Err fault) = None

-- how many bytes were cut, or the number of the damaged frame if one is
abbrev pub place_of : (old : ℕ) → Result OpenedFile LogFileFault → ℕ
place_of old (Ok o) = o.cut
place_of old (Err fault) = frame_of old fault

-- the handle has the log of a file, or is empty, with the status of the refusal
abbrev pub LogOpens : (text : List ℕ) → (viewers : ℕ) → (status : ℕ) → Option LogFile
    → (old new : ℕ) → Type 0
LogOpens text viewers status after old new =
    (answer : Result OpenedFile LogFileFault)
    × OpensFile (expected_of text viewers) answer
    × (status ≡ status_by status_of_log_file answer)
    × (after ≡ file_of answer) × (new ≡ place_of old answer)

-- ---- reading

-- the bytes of a log are copied, or memory ran out and nothing is
abbrev pub LogReads : LogFile → (status : ℕ) → (old : List ℕ) → (wanted_old wanted : ℕ)
    → (new : List ℕ) → Type 0
LogReads f status old wanted_old wanted new =
    IsCopied (bytes_in f) old status wanted new
    ⊎ ((status ≡ 5) × (wanted ≡ wanted_old) × (new ≡ old))

-- the log of a handle is read
abbrev pub ReadsLog : Option LogFile → (status : ℕ) → (old : List ℕ) → (wanted_old wanted : ℕ)
    → (new : List ℕ) → Type 0
ReadsLog None status old wanted_old wanted new =
    (status ≡ closed) × (wanted ≡ wanted_old) × (new ≡ old)
ReadsLog (Some f) status old wanted_old wanted new = LogReads f status old wanted_old wanted new
