-- What ends mean, in the terms of the definition.
use Rattle.std.specs.Prelude.{nat_lt, if◌then◌else◌, List, [], ◌∷◌, ◌++◌, length, Result, Ok, Err}
use Rattle.std.specs.List.{fold}
use Rattle.std.specs.Borrow.{Bor}
use Rattle.x3d_values.specs.Ranges.{max_routes}
use Rattle.proto_flat.specs.Fault.{fault}
use Rattle.proto_flat.specs.declared.fault.ExpandFault.{ExpandFault}
use Rattle.proto_flat.specs.declared.fault.ExpandFaultKind.TheVariants.{TooLarge}
use Rattle.proto_flat.specs.declared.flat.FlatEnd.{FlatEnd}
use Rattle.proto_flat.specs.declared.flat.FlatEnd.TheVariants as flat_end
use Rattle.proto_parts.specs.declared.ends.End.{End}
use Rattle.proto_parts.specs.declared.ends.End.TheVariants.{At, NoNode, NoField, WrongWay}
use Rattle.proto_parts.specs.declared.ends.Ends.{Ends}
use Rattle.proto_parts.specs.declared.ends.Ends.TheVariants.{One, Both'}

abbrev pub end : End → FlatEnd
end (At node field) = flat_end.At node field.now
end NoNode = flat_end.NoNode
end NoField = flat_end.NoField
end WrongWay = flat_end.WrongWay

abbrev pub list : Ends → List End
list (One end) = end ∷ []
list (Both' p first q second) = list first ++ list second

-- the ends that wait; the last on the stack comes first
abbrev pub waiting : List (Bor Ends) → List End
waiting left = fold (λ behind s. list s.now ++ behind) [] left

-- TooLarge if there are more than a document may have routes
abbrev pub few : {X : Type 0} → List X → Result (List X) ExpandFault
few xs = if nat_lt max_routes (length xs) then Err (fault TooLarge 0) else Ok xs
