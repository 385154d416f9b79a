-- The part of a text that is a scene.
use Rattle.std.specs.Prelude.{◌≡◌, ◌⊎◌, ℕ, Bool, true, false, List, [], ◌++◌, Ok, Err, Some, None}
use Rattle.std.specs.Str.{bytes_eq}
use Rattle.classic_tree.specs.Writing.{document_text}
use Rattle.classic_tree.specs.declared.tree.Document.{Document}
use Rattle.classic_text.specs.Reading.{read_text}
use Rattle.classic_text.specs.declared.fault.ReadFault.{ReadFault}
use Rattle.classic_lenient.specs.Lenient.{IsLenient, IsUnreadable}
use Rattle.classic_lenient.specs.VrmlHeader.{as_x3d}
use Rattle.classic_lenient.specs.declared.reading.Lenient.{Lenient}
use Rattle.app_jobs.specs.Faults.{of_read}
use Rattle.app_jobs.specs.declared.fault.JobFault.{JobFault}
use Rattle.app_jobs.specs.declared.fault.JobFault.TheVariants.{Memory}
use Rattle.app_program.specs.Opening.{opened}
use Rattle.app_program.specs.declared.open.OpenedScene.{OpenedScene}
use Rattle.scene_faults.specs.declared.blame.Blame.{Blame}
use Rattle.app_part.specs.Apart.{IsPlaced}
use Rattle.app_part.specs.Mends.{is_limit, mends, places}
use Rattle.app_part.specs.Parts.{Mending, Mended, IsMade, IsTurnedDown, no_text}
use Rattle.app_part.specs.Statements.{all_statements}
use Rattle.app_part.specs.declared.part.Mends.{Mends}
use Rattle.app_part.specs.declared.part.ScenePart.{ScenePart}
use Rattle.app_part.specs.declared.places.Placed.{Placed}
use Rattle.app_part.specs.declared.tries.Made.{Made}

-- the places are those of what goes
abbrev pub AreMends : Mends → Type 0
AreMends mends = mends.refused ≡ places mends.blames

-- what goes of a document after that many tries
abbrev pub IsMending : Document → ℕ → Mends → Type 0
IsMending document tries mends = AreMends mends × Mending document tries mends.blames

-- what is at fault is left out too
pub record IsMore (old new : Mends) (fault : JobFault) (blames : List Blame) : Type 0 where
  pub more : List Blame
  pub found : mends old.refused fault blames ≡ Some more
  pub left : new.blames ≡ old.blames ++ more
  pub gone : new.refused ≡ old.refused ++ places more

-- a fault that is answered: a limit
pub record IsLast (fault answer : JobFault) : Type 0 where
  pub limit : is_limit fault ≡ true
  pub is : answer ≡ fault

-- nothing is found that goes for a fault, which is no limit
pub record IsEnd (old new : Mends) (fault : JobFault) (blames : List Blame) : Type 0 where
  pub same : new ≡ old
  pub limit : is_limit fault ≡ false
  pub found : mends old.refused fault blames ≡ None

-- whether more goes after a try that made no scene
abbrev pub IsLeft : Mends → Mends → JobFault → List Blame → Bool → Type 0
IsLeft old new fault blames true = IsMore old new fault blames
IsLeft old new fault blames false = IsEnd old new fault blames

-- all statements go besides the others
pub record IsBare (document : Document) (old new : Mends) : Type 0 where
  pub left : new.blames ≡ old.blames ++ all_statements document
  pub gone : new.refused ≡ old.refused ++ places (all_statements document)

-- the part of a document without what goes is a scene
pub record IsMended (document : Document) (mends : Mends) (made : Made) : Type 0 where
  pub mended : Mended document mends.blames
  pub good : IsMade document (places mends.blames) made.text.items made.left

-- the part without what was at fault is no scene for a limit
pub record IsStuck (document : Document) (fault : JobFault) : Type 0 where
  pub left : List Blame
  pub blames : List Blame
  pub mended : Mended document left
  pub turned_down : IsTurnedDown document (places left) fault blames
  pub limit : is_limit fault ≡ true

-- memory ran out, or a limit is passed
abbrev pub IsUnmended : Document → JobFault → Type 0
IsUnmended document fault = (fault ≡ Memory) ⊎ IsStuck document fault

-- the part of the tree of a text, and what was left out, with the lines of its places
pub record IsPartOf (placed : Placed) (part : ScenePart) : Type 0 where
  pub mended : Mended placed.lenient.document part.blames
  pub good : IsMade placed.lenient.document (places part.blames) part.text.items part.left
  pub unread : part.unread ≡ placed.lenient.unread
  pub source : part.source.items ≡ placed.source.items
  pub lines : part.lines.items ≡ placed.lines.items

-- the text of a document that stays the same when it is read and written again
pub record IsWrittenText (text : List ℕ) : Type 0 where
  pub document : Document
  pub read : read_text text ≡ Ok document
  pub same : document_text document ≡ text

-- a text is a scene, which `format` leaves as it is
pub record IsScene (text : List ℕ) : Type 0 where
  pub scene : OpenedScene
  pub opened : opened text ≡ Ok scene
  pub stays : IsWrittenText text

-- a text is no scene, for this reason
abbrev pub IsNoScene : List ℕ → JobFault → Type 0
IsNoScene text fault = opened text ≡ Err fault

-- ---- the part of a text

abbrev pub says_memory : JobFault → Bool
says_memory Memory = true
says_memory _ = false

-- a text is no document, for this reason
abbrev pub IsUnread : List ℕ → JobFault → Type 0
IsUnread text fault =
    (read_fault : ReadFault) × (read_text text ≡ Err read_fault) × (fault ≡ of_read read_fault)

-- the text of a document, with nothing left out
pub record IsWhole (text : List ℕ) (made : ScenePart) : Type 0 where
  pub document : Document
  pub read : read_text text ≡ Ok document
  pub written : made.text.items ≡ document_text document
  pub unread : made.unread ≡ []
  pub left : made.left ≡ []
  pub blames : made.blames ≡ []
  pub source : made.source.items ≡ as_x3d text

-- a scene is its own part
pub record IsScenesPart (text : List ℕ) (made : ScenePart) : Type 0 where
  pub scene : OpenedScene
  pub opened : opened text ≡ Ok scene
  pub whole : IsWhole text made

-- the part of a text that was read so
pub record IsPartOfLenient (text : List ℕ) (lenient : Lenient) (made : ScenePart)
    : Type 0 where
  pub placed : Placed
  pub has : IsPlaced text lenient placed
  pub part : IsPartOf placed made

-- something is left out of a text that is no scene
pub record IsLessPart (text : List ℕ) (made : ScenePart) : Type 0 where
  pub first : JobFault
  pub bad : IsNoScene text first
  pub lenient : Lenient
  pub read : IsLenient text lenient
  pub part : IsPartOfLenient text lenient made

abbrev pub IsPartOfText : List ℕ → ScenePart → Type 0
IsPartOfText text made = IsScenesPart text made ⊎ IsLessPart text made

-- ---- refusals

-- the text is no document
pub record IsNoDocument (text : List ℕ) (fault : JobFault) : Type 0 where
  pub read_fault : ReadFault
  pub unreadable : IsUnreadable text read_fault
  pub is : fault ≡ of_read read_fault

-- the tree of a text that was read so has no part that is a scene
pub record IsStuckText (text : List ℕ) (lenient : Lenient) (fault : JobFault) : Type 0 where
  pub placed : Placed
  pub has : IsPlaced text lenient placed
  pub stuck : IsStuck placed.lenient.document fault

-- memory ran out, or a limit is passed
abbrev pub HasNoPartOf : List ℕ → Lenient → JobFault → Type 0
HasNoPartOf text lenient fault = (fault ≡ Memory) ⊎ IsStuckText text lenient fault

-- the text is no scene, and its document has no part that is one
pub record HasNoPart (text : List ℕ) (fault : JobFault) : Type 0 where
  pub first : JobFault
  pub bad : IsNoScene text first
  pub lenient : Lenient
  pub read : IsLenient text lenient
  pub stuck : IsStuckText text lenient fault

-- a fault that is a limit is answered as it is, and any other as no_text
abbrev pub IsAnswer : (JobFault → Type 0) → JobFault → Type 0
IsAnswer Has fault =
    (Has fault × (is_limit fault ≡ true))
    ⊎ ((first : JobFault) × Has first × (is_limit first ≡ false) × (fault ≡ no_text))

-- the text is not that of the document
abbrev pub IsAnother : Document → List ℕ → JobFault → Type 0
IsAnother document text fault =
    (bytes_eq (document_text document) text ≡ false) × (fault ≡ no_text)

-- the text is read as a document that is written as another text
pub record IsReadAsAnother (text : List ℕ) (fault : JobFault) : Type 0 where
  pub document : Document
  pub read : read_text text ≡ Ok document
  pub another : IsAnother document text fault

-- the text of a part is not read as that part: it is too long, or nests too deep; or it has another
-- fault, or is read as another text
abbrev pub IsNoPartsText : List ℕ → JobFault → Type 0
IsNoPartsText text fault = IsReadAsAnother text fault ⊎ IsAnswer (IsNoScene text) fault

-- the part of its document is a scene, but not as a text
pub record IsNoText (text : List ℕ) (fault : JobFault) : Type 0 where
  pub made : ScenePart
  pub part : IsPartOfText text made
  pub refused : IsNoPartsText made.text.items fault

-- memory ran out, or one of these
abbrev pub IsRefused : List ℕ → JobFault → Type 0
IsRefused text fault =
    (fault ≡ Memory)
    ⊎ (IsNoDocument text fault ⊎ (HasNoPart text fault ⊎ IsNoText text fault))
