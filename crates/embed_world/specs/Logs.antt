-- The host that the bytes of a log make, or why there is none.
use Rattle.std.specs.Prelude.{◌≡◌, ◌≢◌, ◌⊎◌, ℕ, ◌<◌, List, [], ◌++◌, false, length, Some, Result, IfOk, IfErr, ⊤}
use Rattle.sha2.specs.Sha256.{sha256}
use Rattle.x3d_values.specs.Ranges.{max_viewers}
use Rattle.laws_hosts.specs.Log.{host_of}
use Rattle.share_entries.specs.Entry.{EntryView}
use Rattle.share_law.specs.Parts.{part_of}
use Rattle.share_logged.specs.Logged.{logged}
use Rattle.share_logged.specs.Resuming.{BreaksAt}
use Rattle.share_core.specs.Host.{HostView}
use Rattle.share_pending.specs.Waiting.{WaitingView, waiting_after}
use Rattle.share_turns.specs.Heard.{nobody}
use Rattle.embed_entries.specs.Appends.{IsLogText}
use Rattle.embed_entries.specs.Reading.{WhyNoEntries, begins_with}
use Rattle.embed_entries.specs.declared.reading.EntriesFault.{EntriesFault}
use Rattle.embed_entries.specs.declared.reading.EntriesFault.TheVariants as read
use Rattle.embed_world.specs.Lasting.{IsHostAhead}
use Rattle.embed_world.specs.declared.host.EmbeddedHost.{EmbeddedHost}
use Rattle.embed_world.specs.declared.log_fault.LogFault.{LogFault}
use Rattle.embed_world.specs.declared.log_fault.LogFault.TheVariants.{Gap, Memory, NotALog, Viewers, WrongScene}

-- ---- reading lines

abbrev pub fault_of_entries : EntriesFault → LogFault
fault_of_entries (read.Gap n) = Gap n
fault_of_entries (read.NotAnEntry n) = NotALog n
fault_of_entries read.Memory = Memory

-- why the bytes after the mark aren't lines
abbrev pub WhyNoLines : List ℕ → LogFault → Type 0
WhyNoLines bytes (Gap n) = WhyNoEntries 1 bytes (read.Gap n)
WhyNoLines bytes (NotALog n) = WhyNoEntries 1 bytes (read.NotAnEntry n)
WhyNoLines bytes Memory = ⊤
WhyNoLines bytes Viewers = ⊥
WhyNoLines bytes WrongScene = ⊥

-- ---- logs

-- the bytes after the mark aren't lines
abbrev pub IsNoLine : (mark bytes : List ℕ) → LogFault → Type 0
IsNoLine mark bytes fault = (lines : List ℕ) × (bytes ≡ mark ++ lines) × WhyNoLines lines fault

-- the bytes are those of entries, of which entry n isn't one that a host wrote there
abbrev pub IsBroken : (mark : List ℕ) → (viewers : ℕ) → (bytes : List ℕ) → (n : ℕ) → Type 0
IsBroken mark viewers bytes n =
    (entries : List EntryView) × IsLogText mark bytes entries × BreaksAt viewers entries n

-- why the bytes aren't those of a log
abbrev pub WhyUnread : (mark bytes : List ℕ) → LogFault → Type 0
WhyUnread mark bytes Viewers = ⊥
WhyUnread mark bytes WrongScene = (bytes ≢ []) × (begins_with mark bytes ≡ false)
WhyUnread mark bytes (Gap n) = IsNoLine mark bytes (Gap n)
WhyUnread mark bytes (NotALog n) = IsNoLine mark bytes (NotALog n)
WhyUnread mark bytes Memory = ⊤

-- why no host begins with these bytes
abbrev pub WhyNoHost : (mark : List ℕ) → (viewers : ℕ) → (bytes : List ℕ) → LogFault → Type 0
WhyNoHost mark viewers bytes Viewers = (viewers ≡ 0) ⊎ (max_viewers < viewers)
WhyNoHost mark viewers bytes WrongScene = WhyUnread mark bytes WrongScene
WhyNoHost mark viewers bytes (Gap n) = WhyUnread mark bytes (Gap n)
WhyNoHost mark viewers bytes (NotALog n) =
    WhyUnread mark bytes (NotALog n) ⊎ IsBroken mark viewers bytes n
WhyNoHost mark viewers bytes Memory = ⊤

-- a host of which this waits
abbrev pub lasting_host : HostView → WaitingView → EmbeddedHost
lasting_host host waiting = record { host = host; heard = nobody; lasting = Some waiting }

-- the host that entries make, all of which are stored
abbrev pub host_with : (mark : List ℕ) → (viewers : ℕ) → List EntryView → EmbeddedHost
host_with mark viewers entries =
    lasting_host (record { mark = mark; part = part_of (host_of viewers (logged entries) 1) })
    (waiting_after viewers entries (length entries))

-- the host of the entries that the bytes have, which are its log
pub record IsResumed (mark : List ℕ) (viewers : ℕ) (bytes : List ℕ) (h : EmbeddedHost) :
    Type 0 where
  pub entries : List EntryView
  pub text : IsLogText mark bytes entries
  pub host : h ≡ host_with mark viewers entries
  pub log : IsHostAhead viewers entries h

-- the host of a scene's text that the bytes of a log make, or why there is none
abbrev pub Resumes : (text : List ℕ) → (viewers : ℕ) → (bytes : List ℕ)
    → Result EmbeddedHost LogFault → Type 0
Resumes text viewers bytes result =
    IfOk result (λ h. IsResumed (sha256 text) viewers bytes h)
    × IfErr result (λ fault. WhyNoHost (sha256 text) viewers bytes fault)
