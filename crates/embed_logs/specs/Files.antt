-- Logs in files of the system.
use Rattle.std.specs.Prelude.{◌≡◌, ◌⊎◌, ℕ, true, false, List, [], None, Result, Ok, Err}
use Rattle.share_entries.specs.Head.{is_viewer_count}
use Rattle.share_file.specs.Contents.{contents_of}
use Rattle.share_file.specs.declared.contents.Expected.{Expected}
use Rattle.embed_entries.specs.Appends.{log_text}
use Rattle.embed_logs.specs.Appending.{AppendFails, IsAppended}
use Rattle.embed_logs.specs.Opening.{IsFaultOf}
use Rattle.embed_logs.specs.declared.fault.LogFileFault.{LogFileFault}
use Rattle.embed_logs.specs.declared.fault.LogFileFault.TheVariants.{Device, LogBusy, Memory, NoLog, NotEmpty, Viewers}
use Rattle.embed_logs.specs.declared.files.LogFile.{LogFile}
use Rattle.embed_logs.specs.declared.files.OpenedFile.{OpenedFile}

-- a log without entries, of this scene and this number of viewers, takes appends
abbrev pub IsNewOf : (mark : List ℕ) → (viewers : ℕ) → LogFile → Type 0
IsNewOf mark viewers f =
    (f.log.head.mark ≡ mark) × (f.log.head.viewers ≡ viewers) × (f.log.entries.items ≡ [])
    × (f.log.is_open ≡ true)

-- why no log is made: the number of viewers, or what the system says
abbrev pub IsNotMade : (viewers : ℕ) → LogFileFault → Type 0
IsNotMade viewers fault =
    ((fault ≡ Viewers) × (is_viewer_count viewers ≡ false))
    ⊎ ((fault ≡ NoLog) ⊎ ((fault ≡ LogBusy) ⊎ ((fault ≡ Device) ⊎ ((fault ≡ Memory)
    ⊎ (fault ≡ NotEmpty)))))

-- the log is the one of the bytes that a file had, and takes appends
abbrev pub IsFileOf : Expected → (file : List ℕ) → OpenedFile → Type 0
IsFileOf expected file o =
    (contents_of expected file ≡ Ok (record {
      head = o.file.log.head;
      base = None;
      entries = o.file.log.entries.items;
      cut = o.cut;
    })) × (o.file.log.is_open ≡ true)

-- why a file of the system isn't opened: what the system says, or the first fault of its bytes
abbrev pub IsNotFound : Expected → LogFileFault → Type 0
IsNotFound expected fault =
    (fault ≡ NoLog) ⊎ ((fault ≡ LogBusy) ⊎ ((fault ≡ Device) ⊎ ((fault ≡ Memory)
    ⊎ ((file : List ℕ) × IsFaultOf (contents_of expected file) fault))))

-- a log was made, or why not
abbrev pub MakesFile : (mark : List ℕ) → (viewers : ℕ) → Result LogFile LogFileFault → Type 0
MakesFile mark viewers (Ok f) = IsNewOf mark viewers f
MakesFile mark viewers (Err fault) = IsNotMade viewers fault

-- the log is the one of the bytes that a file has, or why there is none
abbrev pub OpensFile : Expected → Result OpenedFile LogFileFault → Type 0
OpensFile expected (Ok o) = (file : List ℕ) × IsFileOf expected file o
OpensFile expected (Err fault) = IsNotFound expected fault

-- the bytes were appended, or why not and what that leaves
abbrev pub Appends : (bytes : List ℕ) → LogFile → Result (Unit {0}) LogFileFault → LogFile
    → Type 0
Appends bytes old (Ok done) new =
    (new.log.head ≡ old.log.head)
    × IsAppended old.log.head.mark old.log.entries.items bytes new.log.entries.items
    × (new.log.is_open ≡ true)
Appends bytes old (Err fault) new =
    (new.log.head ≡ old.log.head)
    × AppendFails old.log.head.mark old.log.is_open old.log.entries.items bytes fault
    new.log.is_open new.log.entries.items

-- the bytes of a log: those of its appends
abbrev pub bytes_in : LogFile → List ℕ
bytes_in f = log_text f.log.head.mark f.log.entries.items
