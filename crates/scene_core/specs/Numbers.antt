-- The number of each node in a scene (the order is our choice). Nodes are numbered from 0 in the
-- order in which they close at their first appearance: from the roots in order, through each node's
-- node fields in table order, children first. The helpers follow in the same way.
use Rattle.std.specs.Prelude.{ℕ, zero, suc, ◌+◌, ◌++◌, Bool, true, false, not, List, [], ◌∷◌, length, replicate, slice_index_or, slice_set, if◌then◌else◌}
use Rattle.std.specs.List.{fold}
use Rattle.proto_flat.specs.declared.flat.FlatNode.{FlatNode}
use Rattle.scene_core.specs.declared.numbering.Numbering.{Numbering}
use Rattle.scene_core.specs.Parts.{parts_of}

-- the node has not appeared yet
abbrev pub is_new : Numbering → ℕ → Bool
is_new s n = not (slice_index_or s.opened n true)

abbrev pub appear : Numbering → ℕ → Numbering
appear s n = record s { opened = slice_set s.opened n true }

-- the node gets the next number
abbrev pub close : Numbering → ℕ → Numbering
close s n = record s { numbers = slice_set s.numbers n (length s.order); order = s.order ++ n ∷ [] }

-- a node at an appearance: at its first, the nodes inside come before it. Each step inward opens a
-- node, so as much fuel as there are nodes never runs out.
unfoldable pub visit : ℕ → List FlatNode → Numbering → ℕ → Numbering
visit zero nodes s n = s
visit (suc fuel) nodes s n =
    if is_new s n then close (fold (visit fuel nodes) (appear s n) (parts_of nodes n)) n else s

-- no node has a number
abbrev pub unnumbered : List FlatNode → Numbering
unnumbered nodes =
    let n = length nodes in
    record { opened = replicate n false; order = []; numbers = replicate n 0 }

-- the numbers of a document's nodes
unfoldable pub numbering : List FlatNode → List ℕ → List ℕ → Numbering
numbering nodes roots helpers =
    fold (visit (length nodes + 1) nodes) (unnumbered nodes) (roots ++ helpers)
