-- What the fields of a node or an instance are given (ISO/IEC 19775-1, 4.4.4, PROTO definition
-- semantics; the order of faults is our choice).
use Rattle.std.specs.Prelude.{ℕ, ◌+◌, Bool, true, false, ◌&&◌, ◌||◌, if◌then◌else◌, List, [], ◌∷◌, ◌++◌, length, map, Option, Some, None, is_some}
use Rattle.std.specs.List.{find, list_any}
use Rattle.std.specs.Option.{option_map_or}
use Rattle.std.specs.Str.{bytes_eq}
use denote.Enum.Bare.{sameb}
use Rattle.x3d_values.specs.declared.field_type.Access.{Access}
use Rattle.x3d_values.specs.declared.field_type.Access.TheVariants.{InputOnly, OutputOnly, InputOutput, InitializeOnly}
use Rattle.x3d_values.specs.declared.field_type.FieldType.{FieldType}
use Rattle.x3d_values.specs.contracts.field_type.FieldType.{the_type}
use Rattle.x3d_values.specs.declared.node_type.NodeType.{NodeType}
use Rattle.x3d_values.specs.declared.node_type.NodeType.TheVariants.{Script}
use Rattle.x3d_values.specs.contracts.node_type.NodeType as node_types
use Rattle.x3d_values.specs.Access.{receives, sends, is_initial, is_exposed}
use Rattle.x3d_values.specs.Tables.{rows}
use Rattle.classic_tree.specs.declared.tree.Declaration.{Declaration}
use Rattle.classic_tree.specs.declared.tree.Given.{Given}
use Rattle.classic_tree.specs.declared.tree.Given.TheVariants as given
use Rattle.classic_tree.specs.declared.tree.RawValue.{RawValue}
use Rattle.classic_tree.specs.declared.tree.RawValue.TheVariants as value
use Rattle.proto_flat.specs.declared.fault.ExpandFaultKind.TheVariants.{UnknownField, BadIs, FieldTwice}
use Rattle.proto_meaning.specs.Limits.{AField, AnItem, item_count}
use Rattle.proto_meaning.specs.Names.{Name, Field, Filled, value_of, stands_at}
use Rattle.proto_meaning.specs.Sight.{Owner, OfType, OfProto, taken_by, is_kept}
use Rattle.proto_meaning.specs.Walk.{Does, ◌>>=◌, pure, refuse, meet, note, Node, leave_out, put_in}

-- the state between braces: the braces are number `at` of the scope; whose fields they hold, these
-- fields, and what was given so far
pub record Inside : Type 0 where
  pub at : ℕ
  pub owner : Owner
  pub fields : List Field
  pub filled : List Filled

abbrev pub field_with : ℕ → Access → FieldType → Name → Field
field_with line access field_type name =
    record {
      line = line;
      access = access;
      field_type = field_type;
      name = name;
      given = given.Nothing;
    }

-- a declaration without its value
abbrev pub field : {N : Type 0} → Declaration N → Field
field d = field_with d.line d.access d.field_type d.name

abbrev pub fields_of : NodeType → List Field
fields_of t = map (λ row. field_with 0 row.access row.field_type row.name) (rows t)

-- the field of that name, with its number; the first of `fields` has the number `number`
abbrev pub numbered_from : ℕ → Name → List Field → Option (ℕ × Field)
numbered_from number name [] = None
numbered_from number name (f ∷ fs) =
    if bytes_eq f.name name then Some (number, f) else numbered_from (number + 1) name fs

abbrev pub is_filled : Name → Inside → Bool
is_filled name i = list_any (λ (f : Filled). bytes_eq f.name name) i.filled

abbrev pub is_node : Owner → Bool
is_node (OfType t) = true
is_node (OfProto p) = false

-- whether an interface field of the first access may be joined to a field of the second (4.4.4,
-- PROTO definition semantics)
abbrev pub joins : Access → Access → Bool
joins InputOnly access = receives access
joins OutputOnly access = sends access
joins InitializeOnly access = is_initial access
joins InputOutput access = is_exposed access

abbrev pub fits : Field → Field → Bool
fits outer inner =
    sameb the_type outer.field_type inner.field_type && joins outer.access inner.access

-- counts a field; the items of its value count only in a node
abbrev pub met_field : Owner → ℕ → ℕ → Does (Unit {0})
met_field owner number items = meet (if is_node owner then AField number items else AnItem)

-- records that field f (a number and the field itself) was given v
abbrev pub fill : ℕ → ℕ × Field → Inside → Option (RawValue ℕ) → Inside
fill line f i v =
    record i {
      filled = i.filled
          ++ record { line = line; name = f.1.name; number = f.0; value = v } ∷ [];
    }

-- adds the value of a field, or leaves it out if no IS takes the field
abbrev pub give_value : ℕ → ℕ × Field → Inside → RawValue Node → Does Inside
give_value line f i v =
    met_field i.owner f.0 (item_count v)
    >>= λ _. if is_kept (taken_by (Some i.owner)) f.1.name
    then (put_in v >>= λ r. pure (fill line f i (Some r)))
    else leave_out (given.Value v) >>= λ _. pure (fill line f i None)

-- IS: the field holds what the interface field `outer` is given, and its ends become ends of
-- `outer`. `all` are the braces of the scope once they are closed
abbrev pub join : ℕ → ℕ × Field → Inside → Name → Option (RawValue ℕ) → Does Inside
join line f i outer v =
    met_field i.owner f.0 (option_map_or item_count v 0) >>= λ _. note (tt {0}) (λ s. record s {
      ends = λ all name. s.ends all name ++ (if bytes_eq outer name
          then option_map_or (λ what. what.ends f.1.name) (stands_at all (Some i.at)) [] else []);
    }) >>= λ _. pure (fill line f i v)

-- an IS must name a field of the interface that fits. `twice`: the field was given something before
abbrev pub give_is : ℕ → ℕ × Field → Bool → Inside → Option Field → Does Inside
give_is line f twice i None = refuse BadIs line
give_is line f twice i (Some outer) =
    if fits outer f.1
    then (if twice then refuse FieldTwice line
    else (λ w. join line f i outer.name (value_of outer.name w.scope.given) w))
    else refuse BadIs line

-- a node may be given a value at each field, which the scene checks; an instance only at fields
-- that hold a value. Nothing is what a Script's declaration without a value gives
abbrev pub give : ℕ → ℕ × Field → Bool → Given Node → Inside → Does Inside
give line f twice (given.Is outer) i =
    λ w. give_is line f twice i (find (λ o. bytes_eq o.name outer) w.scope.interface) w
give line f twice (given.Value v) i =
    if is_node i.owner || is_initial f.1.access
    then (if twice then refuse FieldTwice line else give_value line f i v)
    else refuse UnknownField line
give line f twice given.Nothing i =
    if twice then refuse FieldTwice line
    else met_field i.owner f.0 0 >>= λ _. pure (fill line f i None)

abbrev pub is_script : Owner → Bool
is_script (OfType t) = sameb node_types.the_type t Script
is_script (OfProto p) = false

-- a Script's declaration adds a field; no other node and no instance may have one
abbrev pub declare_field : Declaration Node → Inside → Does Inside
declare_field d i =
    if is_script i.owner
    then give d.line (length i.fields, field d) (is_some (numbered_from 0 d.name i.fields)) d.given
    (record i { fields = i.fields ++ field d ∷ [] })
    else refuse UnknownField d.line
