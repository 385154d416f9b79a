-- Statements in a row that are instances of one prototype, given nothing.
use Rattle.std.specs.Prelude.{ℕ, ◌-◌, ◌*◌, Bool, false, nat_eq, nat_lt, if◌then◌else◌, List, [], ◌∷◌, Option, Some, None, IfSome, Result, Ok, slice_get}
use Rattle.std.specs.List.{AllByRecursion, prefix_len}
use Rattle.std.specs.Option.{option_map_or}
use Rattle.proto_flat.specs.declared.fault.ExpandFault.{ExpandFault}
use Rattle.proto_meaning.specs.Sight.{Prototype}
use Rattle.proto_parts.specs.Settled.{too_large}
use Rattle.proto_meaning.specs.Sizes.{IsSized}
use Rattle.proto_meaning.specs.declared.tree.BodyTree.{BodyTree}
use Rattle.proto_meaning.specs.declared.tree.BodyTree.TheVariants as body
use Rattle.proto_meaning.specs.declared.tree.ItemTree.{ItemTree}
use Rattle.proto_meaning.specs.declared.tree.ItemTree.TheOpen.{NodeTree-F}
use Rattle.proto_meaning.specs.declared.tree.NodeTree.{NodeTree, out-NodeTree}
use Rattle.proto_meaning.specs.declared.tree.Word.{Word}
use Rattle.proto_meaning.specs.declared.tree.Word.TheVariants as word

-- the number of the prototype, for an instance
abbrev pub instance_number : Word → Option ℕ
instance_number word.Unknown = None
instance_number (word.Node t) = None
instance_number (word.Instance number) = Some number

-- the number of the prototype, for an instance with nothing between its braces
abbrev pub number_between : NodeTree-F ItemTree NodeTree → Option ℕ
number_between (NodeTree-F.Use line name) = None
number_between (NodeTree-F.Full line name w []) = instance_number w
number_between (NodeTree-F.Full line name w (item ∷ items)) = None

abbrev pub bare_in : NodeTree → Option ℕ
bare_in n = number_between (out-NodeTree n)

abbrev pub bare_number : BodyTree → Option ℕ
bare_number (body.Node n) = bare_in n
bare_number (body.Route r) = None
bare_number (body.Wrong e) = None

abbrev pub is_bare_of : ℕ → BodyTree → Bool
is_bare_of number s = option_map_or (λ found. nat_eq found number) (bare_number s) false

-- how many at the start are in the row
abbrev pub row_len : List BodyTree → ℕ
row_len [] = 0
row_len (s ∷ rest) =
    option_map_or (λ number. prefix_len (is_bare_of number) (s ∷ rest)) (bare_number s) 0

-- `before` is the room before the first, `left` the room after it: how many are in its row, unless
-- the others don't fit
abbrev pub look_along : List BodyTree → ℕ → ℕ → Result ℕ ExpandFault
look_along statements before left =
    if nat_lt left ((before - left) * (row_len statements - 1)) then too_large
    else Ok (row_len statements)

-- what an instance of its prototype gives depends on sizes alone
abbrev pub RootSized : List Prototype → BodyTree → Type 0
RootSized ps s = IfSome (bare_number s) (λ number. IfSome (slice_get ps number) IsSized)

abbrev pub RootsSized : List Prototype → List BodyTree → Type 0
RootsSized ps statements = AllByRecursion (RootSized ps) statements
