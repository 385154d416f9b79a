-- The part of a document that is a scene: what is at fault is left out, again and again.
use Rattle.std.specs.Prelude.{◌≡◌, ◌⊎◌, ℕ, ◌+◌, ◌^◌, List, [], ◌++◌, false, Err, Some, None}
use Rattle.classic_tree.specs.Writing.{document_text}
use Rattle.classic_tree.specs.declared.tree.Document.{Document}
use Rattle.classic_part.specs.declared.notes.Note.{Note}
use Rattle.classic_part.specs.declared.part.Round.{Round}
use Rattle.classic_part.specs.Rounds.{IsSettled}
use Rattle.proto_flat.specs.declared.fault.ExpandFaultKind.TheVariants.{TooLarge}
use Rattle.app_jobs.specs.declared.fault.JobFault.{JobFault}
use Rattle.app_jobs.specs.declared.fault.JobFault.TheVariants.{Expand}
use Rattle.app_program.specs.Opening.{opened_document}
use Rattle.scene_faults.specs.declared.blame.Blame.{Blame}
use Rattle.app_part.specs.Judging.{IsToldBad}
pub use Rattle.app_part.specs.Judging.{IsGood}
use Rattle.app_part.specs.Mends.{is_limit, mends, places}
use Rattle.app_part.specs.Statements.{all_statements}

-- the fault of a text whose part is a scene, but not as a text
abbrev pub no_text : JobFault
no_text = Expand (record { kind = TooLarge; line = 0 })

-- what stays of a document without what is refused, with the notes on what goes
pub record IsPart (document : Document) (refused : List ℕ) (left : List Note)
    (part : Document) : Type 0 where
  pub round : Round
  pub settled : IsSettled refused document round [] left
  pub is : part ≡ round.document

abbrev pub IsBad : Document → JobFault → Type 0
IsBad document fault = opened_document document ≡ Err fault

-- that part is a scene, and this is its text
pub record IsMade (document : Document) (refused : List ℕ) (text : List ℕ)
    (left : List Note) : Type 0 where
  pub part : Document
  pub settled : IsPart document refused left part
  pub good : IsGood part
  pub written : text ≡ document_text part

-- that part is no scene: its first fault, and all that a node or a route alone tells
pub record IsTurnedDown (document : Document) (refused : List ℕ) (fault : JobFault)
    (blames : List Blame) : Type 0 where
  pub part : Document
  pub left : List Note
  pub settled : IsPart document refused left part
  pub bad : IsToldBad part fault blames

-- What goes of a document after a number of tries: nothing; or more, which is at fault in the part
-- without the others.
pub data Mending (document : Document) : ℕ → List Blame → Type 0 where
  begun : Mending document 0 []
  more : {tries : ℕ} {left blames more : List Blame} {fault : JobFault}
      → Mending document tries left → IsTurnedDown document (places left) fault blames
      → mends (places left) fault blames ≡ Some more
      → Mending document (tries + 1) (left ++ more)

-- no more is tried: nothing is found that goes for a fault, which is no limit, or there were 65,536
-- tries
abbrev pub IsEnded : Document → ℕ → List Blame → Type 0
IsEnded document tries left =
    (tries ≡ 2 ^ 16) ⊎ ((fault : JobFault) × (blames : List Blame)
    × IsTurnedDown document (places left) fault blames × (is_limit fault ≡ false)
    × (mends (places left) fault blames ≡ None))

-- What goes of a document: what is at fault; or at last all its statements.
pub data Mended (document : Document) : List Blame → Type 0 where
  at_fault : {tries : ℕ} {left : List Blame} → Mending document tries left → Mended document left
  everything : {tries : ℕ} {left : List Blame} → Mending document tries left
      → IsEnded document tries left → Mended document (left ++ all_statements document)
