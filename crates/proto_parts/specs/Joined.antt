-- The ends of the fields of an interface, in the terms of the definition.
use Rattle.std.specs.Prelude.{if◌then◌else◌, List, [], ◌++◌, map, Option, option_map}
use Rattle.std.specs.Borrow.{Bor}
use Rattle.std.specs.Str.{bytes_eq}
use Rattle.std.specs.declared.rc.Rc.{Rc}
use Rattle.std.specs.BTreeMap.{get_by}
use Rattle.std.specs.Cmp.Lexicographic.{slice_cmp}
use Rattle.std.specs.Ordering.{nat_cmp}
use Rattle.proto_flat.specs.declared.flat.FlatEnd.{FlatEnd}
use Rattle.proto_meaning.specs.Names.{Name}
use Rattle.proto_parts.specs.declared.joined.JoinedEnds.{JoinedEnds}
use Rattle.proto_parts.specs.declared.ends.Ends.{Ends}
use Rattle.proto_parts.specs.Ends.{end, list}
use Rattle.proto_parts.specs.Routes.{ends_at}

abbrev pub meant : Ends → List FlatEnd
meant ends = map end (list ends)

abbrev pub owned : {A : Type 0} → Option (Rc Ends A) → List FlatEnd
owned ends = ends_at ends

abbrev pub borrowed : {A : Type 0} → Option (Bor (Rc Ends A)) → List FlatEnd
borrowed ends = owned (option_map (λ e. e.now) ends)

unfoldable pub ends_in : JoinedEnds → Name → List FlatEnd
ends_in joined name = owned (get_by (λ k. slice_cmp nat_cmp name k.now) joined.ends)

abbrev pub with_ends : Name → List FlatEnd → (Name → List FlatEnd) → Name → List FlatEnd
with_ends given ends before name = if bytes_eq given name then ends else before name

-- one name has more ends
abbrev pub with_more : Name → List FlatEnd → (Name → List FlatEnd) → Name → List FlatEnd
with_more given more ends name = ends name ++ (if bytes_eq given name then more else [])
