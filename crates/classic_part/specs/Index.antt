-- The names of notes and the lines that are refused in an index, so that each is found in few
-- steps.
use Rattle.std.specs.Prelude.{◌≡◌, Bool, List, ℕ}
use Rattle.std.specs.BTreeSet.{contains_by}
use Rattle.std.specs.Cmp.Lexicographic.{slice_cmp}
use Rattle.std.specs.List.{list_any}
use Rattle.std.specs.Ordering.{nat_cmp}
use Rattle.classic_part.specs.declared.index.NameSet.{NameSet}
use Rattle.classic_part.specs.declared.index.Tables.{Tables}
use Rattle.classic_part.specs.declared.lines.LineSet.{LineSet}
use Rattle.classic_part.specs.declared.notes.Note.{Note}
use Rattle.classic_part.specs.Notes.{names, declares, refused_in}

-- the set as a function
unfoldable pub holds : NameSet → List ℕ → Bool
holds set name = contains_by (λ k. slice_cmp nat_cmp name k.now) set.names

-- the names in the tables are those of the notes
pub record IsOf (tables : Tables) (notes : List Note) : Type 0 where
  pub named : (name : List ℕ) → holds tables.named name ≡ list_any (names name) notes
  pub declared : (name : List ℕ) → holds tables.declared name ≡ list_any (declares name) notes

-- the set as a function
unfoldable pub has : LineSet → ℕ → Bool
has set line = contains_by (nat_cmp line) set.lines

-- the lines are those that are refused
abbrev pub AreOf : LineSet → List ℕ → Type 0
AreOf lines refused = (line : ℕ) → has lines line ≡ refused_in refused line
