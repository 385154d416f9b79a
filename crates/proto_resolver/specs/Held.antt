-- What the tables hold, by name.
use Rattle.std.specs.Prelude.{if◌then◌else◌, List, [], ◌∷◌, Option, None, Some, option_map}
use Rattle.std.specs.BTreeMap.{get_by}
use Rattle.std.specs.BTreeSet.{contains_by}
use Rattle.std.specs.Cmp.Lexicographic.{slice_cmp}
use Rattle.std.specs.Option.{option_or}
use Rattle.std.specs.Ordering.{nat_cmp}
use Rattle.std.specs.Str.{bytes_eq}
use Rattle.proto_meaning.specs.Names.{Name}
use Rattle.proto_meaning.specs.Sight.{Names}
use Rattle.proto_resolver.specs.declared.scopes.TakenNames.{TakenNames}
use Rattle.proto_resolver.specs.declared.scopes.Taker.{Taker}
use Rattle.proto_resolver.specs.declared.scopes.KnownProto.{KnownProto}
use Rattle.proto_resolver.specs.declared.scopes.Table.{Table}
use Rattle.proto_resolver.specs.declared.scopes.Scopes.{Scopes}

-- the set as a function
unfoldable pub names_of : TakenNames → Names
names_of taken name = contains_by (λ k. slice_cmp nat_cmp name k.now) taken.names

abbrev pub taken_names : Taker → Option Names
taken_names taker = option_map (λ t. names_of t.value) taker.taken

abbrev pub takes_of : KnownProto → Names
takes_of declared = names_of declared.takes.value

-- ---- prototypes by name

abbrev pub Entries : Type 0
Entries = Name → Option KnownProto

abbrev pub no_entries : Entries
no_entries name = None

abbrev pub with_entry : Name → KnownProto → Entries → Entries
with_entry given declared entries name =
    if bytes_eq given name then Some declared else entries name

-- the map as a function
unfoldable pub found : Table → Entries
found table name = get_by (λ k. slice_cmp nat_cmp name k.now) table.prototypes

-- the prototypes in these scopes, the nearest scope last
abbrev pub seen : List Table → Entries
seen [] name = None
seen (outer ∷ nearer) name = option_or (seen nearer name) (found outer name)

abbrev pub in_sight : Scopes → Entries
in_sight scopes name = option_or (found scopes.here name) (seen scopes.outside.items name)
