-- What is counted on the way, and its limits (our choice). They are no part of what a document
-- stands for: they apply to what was counted up to the end of the text or to its first fault. So
-- TooLarge is answered exactly if too much was counted before anything else was wrong.
use Rattle.std.specs.Prelude.{ℕ, ◌&&◌, Bool, true, not, if◌then◌else◌, List, ◌++◌, length, nat_lt, Result, Ok, Err}
use Rattle.std.specs.List.{list_all, sum_by}
use Rattle.x3d_values.specs.Ranges.{max_fields, max_instances, max_items, max_nodes, max_put_in, max_routes}
use Rattle.classic_tree.specs.declared.tree.RawValue.{RawValue}
use Rattle.classic_tree.specs.declared.tree.RawValue.TheVariants as value
use Rattle.proto_flat.specs.Fault.{fault}
use Rattle.proto_flat.specs.declared.fault.ExpandFault.{ExpandFault}
use Rattle.proto_flat.specs.declared.fault.ExpandFaultKind.TheVariants.{TooLarge}
use Rattle.proto_flat.specs.declared.flat.Flat.{Flat}

-- what is counted, in the order of the work: the first word of a node, and of an instance; a field
-- of a node or a declaration of a Script, with its number there and the number of items in its
-- value; and AnItem, which is no item of a value, but a field of an instance, a ROUTE or a USE
pub data Met : Type 0 where
  ANode : Met
  AnInstance : Met
  AField : ℕ → ℕ → Met
  AnItem : Met

-- numbers are counted one by one, with brackets or without; any other list has as many items as its
-- length, any other value has one
abbrev pub item_count : {N : Type 0} → RawValue N → ℕ
item_count value.Null = 1
item_count (value.Truth truth) = 1
item_count (value.String text) = 1
item_count (value.Numbers numbers) = length numbers
item_count (value.Node node) = 1
item_count value.EmptyList = 0
item_count (value.TruthList truths) = length truths
item_count (value.StringList texts) = length texts
item_count (value.NumberList numbers) = length numbers
item_count (value.NodeList nodes) = length nodes

-- what a part of a text gives, or its fault (`comes`), and all that was counted on the way (`met`)
pub record Outcome (A : Type 0) : Type 0 where
  pub met : List Met
  pub comes : Result A ExpandFault

-- an outcome, after what was counted before
abbrev pub behind : {A : Type 0} → List Met → Outcome A → Outcome A
behind before o = record { met = before ++ o.met; comes = o.comes }

-- one part after the other, up to the first fault
abbrev pub follow : {A B : Type 0} → List Met → Result A ExpandFault → (A → Outcome B) → Outcome B
follow met (Ok a) next = behind met (next a)
follow met (Err e) next = record { met = met; comes = Err e }

abbrev pub and_then : {A B : Type 0} → Outcome A → (A → Outcome B) → Outcome B
and_then o next = follow o.met o.comes next

-- ---- the limits

-- how much of a limit a thing uses: of nodes, of instances, of items of values
abbrev pub nodes_met : Met → ℕ
nodes_met ANode = 1
nodes_met _ = 0

abbrev pub instances_met : Met → ℕ
instances_met AnInstance = 1
instances_met _ = 0

abbrev pub items_met : Met → ℕ
items_met (AField number items) = items
items_met _ = 0

-- whatever is counted is one thing
abbrev pub all_met : Met → ℕ
all_met met = 1

-- the fields of a node are numbered below max_fields
abbrev pub has_room : Met → Bool
has_room (AField number items) = nat_lt number max_fields
has_room _ = true

-- no more nodes, instances, items of values and things in all than x3d_values allows
abbrev pub is_within : List Met → Bool
is_within met =
    not (nat_lt max_nodes (sum_by nodes_met met))
    && not (nat_lt max_instances (sum_by instances_met met))
    && not (nat_lt max_items (sum_by items_met met))
    && not (nat_lt max_put_in (sum_by all_met met))
    && list_all has_room met

-- routes are made when all nodes are there, so they are counted last. TooLarge has no line (0)
abbrev pub with_few_routes : Result Flat ExpandFault → Result Flat ExpandFault
with_few_routes (Ok f) =
    if nat_lt max_routes (length f.routes) then Err (fault TooLarge 0) else Ok f
with_few_routes (Err e) = Err e

-- counting ends at the first fault, so what is too much was counted before that fault
abbrev pub limited : Outcome Flat → Result Flat ExpandFault
limited o = if is_within o.met then with_few_routes o.comes else Err (fault TooLarge 0)
