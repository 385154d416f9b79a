-- A law of what ISs join.
use Rattle.std.specs.Prelude.{◌≡◌, if◌then◌else◌, List, [], ◌∷◌, ◌++◌}
use Rattle.std.specs.Str.{bytes_eq}
use Rattle.proto_parts.specs.declared.joins.Join.{Join}
use Rattle.proto_parts.specs.Joins.{ends_behind, joins_ends}

-- proto_meaning's `join` adds one IS to the ends of a scope
abbrev pub JoinsGrow : Type 0
JoinsGrow =
    (joins : List Join) (j : Join)
    → (λ all name. joins_ends joins all name
    ++ (if bytes_eq j.outer.now name then ends_behind all j else []))
    ≡ joins_ends (joins ++ j ∷ [])
