-- Braces of a scope and what ISs join, in the terms of the definition.
use Rattle.std.specs.Prelude.{ℕ, if◌then◌else◌, List, [], ◌∷◌, Option, None, Some, option_map}
use Rattle.std.specs.List.{flat_map}
use Rattle.std.specs.Option.{option_map_or}
use Rattle.std.specs.Str.{bytes_eq}
use Rattle.std.specs.declared.rc.Rc.{Rc}
use Rattle.proto_flat.specs.declared.flat.FlatEnd.{FlatEnd}
use Rattle.proto_flat.specs.declared.flat.FlatEnd.TheVariants.{At}
use Rattle.proto_meaning.specs.Names as meaning
use Rattle.proto_meaning.specs.Names.{Name, stands_at}
use Rattle.proto_parts.specs.declared.joins.Braces.{Braces}
use Rattle.proto_parts.specs.declared.joins.InstanceEnds.{InstanceEnds}
use Rattle.proto_parts.specs.declared.joins.Join.{Join}
use Rattle.proto_parts.specs.declared.joins.Stands.{Stands}
use Rattle.proto_parts.specs.Joined.{ends_in}

abbrev pub instance_by : ℕ → InstanceEnds → meaning.Stands
instance_by node instance =
    record {
      node = node;
      interface = Some instance.interface.now;
      ends = ends_in instance.joined;
    }

abbrev pub stands_by : {A : Type 0} → ℕ → Option (Rc InstanceEnds A) → meaning.Stands
stands_by node None = record { node = node; interface = None; ends = λ name. At node name ∷ [] }
stands_by node (Some instance) = instance_by node instance.value

abbrev pub stands_of : Stands → meaning.Stands
stands_of stands = stands_by stands.node stands.instance

abbrev pub braces_of : Braces → meaning.Braces
braces_of braces =
    record { name = braces.name.now; stands = option_map stands_of braces.stands }

-- the ends that an IS joins, by what all braces stand for
abbrev pub ends_behind : List meaning.Braces → Join → List FlatEnd
ends_behind all join =
    option_map_or (λ (what : meaning.Stands). what.ends join.field.now)
    (stands_at all (Some join.at)) []

-- the ends of each interface field, IS by IS, as in the definition's scope
abbrev pub joins_ends : List Join → List meaning.Braces → Name → List FlatEnd
joins_ends joins all name =
    flat_map (λ (j : Join). if bytes_eq j.outer.now name then ends_behind all j else []) joins
