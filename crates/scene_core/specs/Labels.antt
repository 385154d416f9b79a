-- The names that nodes keep (our choice). A node keeps its DEF name if the name is its label. A DEF
-- name is the node's label if exactly one node has it and it isn't `N` with digits. `N` with the
-- number of the node itself is also its label, even if other nodes have that name.
use Rattle.std.specs.Prelude.{ℕ, Bool, false, not, ◌&&◌, ◌||◌, ◌==◌, length, nat_le, List, [], ◌∷◌, Option, Some, None, slice_get, is_none, if◌then◌else◌}
use Rattle.std.specs.List.{filter_map, count_by, list_all}
use Rattle.std.specs.Option.{option_and_then}
use Rattle.std.specs.Str.{bytes_eq}
use Rattle.std.specs.BTreeMap.{get_by}
use Rattle.std.specs.Cmp.Lexicographic.{slice_cmp}
use Rattle.std.specs.Ordering.{nat_cmp}
use Rattle.proto_flat.specs.declared.flat.FlatNode.{FlatNode}
use Rattle.scene_core.specs.declared.labels.Marks.{Marks}
use Rattle.scene_core.specs.Scene.{label_or}

abbrev pub name_at : List FlatNode → ℕ → Option (List ℕ)
name_at nodes n = option_and_then (λ (node : FlatNode). node.name) (slice_get nodes n)

-- the names of the nodes of a scene
abbrev pub names_of : List FlatNode → List ℕ → List (List ℕ)
names_of nodes order = filter_map (name_at nodes) order

abbrev pub is_digit : ℕ → Bool
is_digit c = nat_le 48 c && nat_le c 57

abbrev pub are_digits : List ℕ → Bool
are_digits text = not (length text == 0) && list_all is_digit text

-- `N` and one or more digits
abbrev pub is_numbered : List ℕ → Bool
is_numbered [] = false
is_numbered (c ∷ rest) = if c == 78 then are_digits rest else false

-- exactly one node has the name
abbrev pub is_alone : List (List ℕ) → List ℕ → Bool
is_alone names name = count_by (λ other. bytes_eq other name) names == 1

-- the name is the label that the node with that number has without a name of its own
abbrev pub is_own_number : ℕ → List ℕ → Bool
is_own_number number name = bytes_eq name (label_or number None)

-- the DEF name is the label of the node with that number
abbrev pub is_label : (List ℕ → Bool) → ℕ → List ℕ → Bool
is_label alone number name = (alone name && not (is_numbered name)) || is_own_number number name

-- the name that a node keeps
abbrev pub label_by : (List ℕ → Bool) → Option (List ℕ) → Option (List ℕ)
label_by is_label (Some name) = if is_label name then Some name else None
label_by is_label None = None

-- ---- what is known after some of the names: for each name seen, whether it appeared only once

abbrev pub Known : Type 0
Known = List ℕ → Option Bool

abbrev pub unknown : Known
unknown name = None

abbrev pub marked : List ℕ → Bool → Known → Known
marked given alone known name = if bytes_eq given name then Some alone else known name

abbrev pub mark : Known → List ℕ → Known
mark known given = marked given (is_none (known given)) known

abbrev pub mark_any : Known → Option (List ℕ) → Known
mark_any known None = known
mark_any known (Some given) = mark known given

abbrev pub known_alone : Option Bool → Bool
known_alone (Some alone) = alone
known_alone None = false

-- the map as a function of names
unfoldable pub known_of : Marks → Known
known_of marks name = get_by (λ k. slice_cmp nat_cmp name k.now) marks.alone
