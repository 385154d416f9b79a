-- What the exports do with the handle of a host whose program has its log.
use Rattle.std.specs.Prelude.{◌≡◌, ℕ, Bool, false, not, if◌then◌else◌, List, Option, Some, None, Result, Ok, Err}
use Rattle.std.specs.Result.{result_ok}
use Rattle.share_pending.specs.declared.answer.AppendAnswer.{AppendAnswer}
use Rattle.embed_world.specs.Lasting.{Answers}
use Rattle.embed_world.specs.LogStatus.{answer_of, entry_told, status_of_append, status_of_log}
use Rattle.embed_world.specs.Logs.{Resumes}
use Rattle.embed_world.specs.PeerStatus.{status_by}
use Rattle.embed_world.specs.Status.{IsCopied, closed, out_of_range}
use Rattle.embed_world.specs.declared.host.EmbeddedHost.{EmbeddedHost}
use Rattle.embed_world.specs.declared.lasting.Append.{Append}
use Rattle.embed_world.specs.declared.lasting.AppendFault.{AppendFault}
use Rattle.embed_world.specs.declared.log_fault.LogFault.{LogFault}

-- ---- opening

-- the handle has the host that the bytes of a log make, or is empty, with the status of the refusal
-- and the number of the first wrong entry
abbrev pub HostResumes : (text : List ℕ) → (viewers : ℕ) → (log : List ℕ) → (status : ℕ)
    → Option EmbeddedHost → (old new : ℕ) → Type 0
HostResumes text viewers log status after old new =
    (answer : Result EmbeddedHost LogFault)
    × Resumes text viewers log answer × (status ≡ status_by status_of_log answer)
    × (after ≡ result_ok answer) × (new ≡ entry_told old answer)

-- ---- appending

-- the token and the bytes of an append are copied, or nothing is
abbrev pub AppendsAt : Result Append AppendFault → (token_old token : ℕ) → (status : ℕ)
    → (old : List ℕ) → (wanted_old wanted : ℕ) → (new : List ℕ) → Type 0
AppendsAt (Ok append) token_old token status old wanted_old wanted new =
    (token ≡ append.token) × IsCopied append.bytes.items old status wanted new
AppendsAt (Err fault) token_old token status old wanted_old wanted new =
    (status ≡ status_of_append fault) × (token ≡ token_old) × (wanted ≡ wanted_old) × (new ≡ old)

-- an append of the host of a handle is begun, unless one is under way, and copied
abbrev pub Appends : (EmbeddedHost → Result Append AppendFault → EmbeddedHost → Type 0)
    → Option EmbeddedHost → (status : ℕ) → Option EmbeddedHost → (token_old token : ℕ)
    → (old : List ℕ) → (wanted_old wanted : ℕ) → (new : List ℕ) → Type 0
Appends does None status after token_old token old wanted_old wanted new =
    (status ≡ closed) × (after ≡ None) × (token ≡ token_old) × (wanted ≡ wanted_old)
    × (new ≡ old)
Appends does (Some h) status after token_old token old wanted_old wanted new =
    (answer : Result Append AppendFault) × (next : EmbeddedHost)
    × does h answer next × (after ≡ Some next)
    × AppendsAt answer token_old token status old wanted_old wanted new

-- ---- answering

-- the host doesn't go on
abbrev pub is_over : Result Bool AppendFault → Bool
is_over (Ok goes_on) = not goes_on
is_over (Err fault) = false

-- the host, unless it is over: then the handle is empty
abbrev pub left_by : Result Bool AppendFault → EmbeddedHost → Option EmbeddedHost
left_by answer h = if is_over answer then None else Some h

-- an answer is taken by the host of a handle
abbrev pub AnswersHost : (token : ℕ) → AppendAnswer → Option EmbeddedHost → (status : ℕ)
    → Option EmbeddedHost → Type 0
AnswersHost token given None status after = (status ≡ closed) × (after ≡ None)
AnswersHost token given (Some h) status after =
    (answer : Result Bool AppendFault) × (next : EmbeddedHost)
    × Answers token given h answer next × (status ≡ status_by status_of_append answer)
    × (after ≡ left_by answer next)

abbrev pub AnswersIf : Option AppendAnswer → (token : ℕ) → Option EmbeddedHost → (status : ℕ)
    → Option EmbeddedHost → Type 0
AnswersIf None token before status after = (status ≡ out_of_range) × (after ≡ before)
AnswersIf (Some given) token before status after = AnswersHost token given before status after

-- the answer with this number is taken; a number that stands for none is out of range
abbrev pub AnswersAt : (token number : ℕ) → Option EmbeddedHost → (status : ℕ)
    → Option EmbeddedHost → Type 0
AnswersAt token number before status after =
    AnswersIf (answer_of number) token before status after
