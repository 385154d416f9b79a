-- What a field is given in a tree, with names and values borrowed from the text.
use Rattle.std.specs.Borrow.{Bor}
use Rattle.std.specs.Prelude.{ℕ, List}
use Rattle.classic_tree.specs.declared.tree.NodeText.{NodeText}
use Rattle.classic_tree.specs.declared.tree.RawValue.{RawValue}
use Rattle.proto_meaning.specs.declared.tree.GivenTree as tree

-- N is a node
abbrev pub GivenTree : Type 0 → Type 0
GivenTree N = tree.GivenTree (Bor (List ℕ)) (Bor (RawValue NodeText)) N
