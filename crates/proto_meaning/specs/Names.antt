-- Names of nodes (ISO/IEC 19775-1, 4.4.3, DEF and USE; 4.4.7, run-time name scope), and the ends of
-- routes (4.4.4, PROTO interface declarations; 4.4.8, event model, routes).
use Rattle.std.specs.Prelude.{ℕ, ◌+◌, Bool, false, ◌&&◌, if◌then◌else◌, List, [], ◌∷◌, map, Option, Some, None, option_map, slice_get}
use Rattle.std.specs.List.{find, flat_map, fold}
use Rattle.std.specs.Option.{option_or, option_and_then, option_map_or}
use Rattle.std.specs.Str.{bytes_eq}
use Rattle.x3d_values.specs.declared.field_type.Access.{Access}
use Rattle.x3d_values.specs.Access.{receives, sends, is_exposed}
use Rattle.x3d_values.specs.Aliases.{source_by, target_by}
use Rattle.classic_tree.specs.declared.tree.Declaration.{Declaration}
use Rattle.classic_tree.specs.declared.tree.RawValue.{RawValue}
use Rattle.classic_tree.specs.declared.tree.RouteEnd.{RouteEnd}
use Rattle.proto_flat.specs.declared.flat.FlatEnd.{FlatEnd}
use Rattle.proto_flat.specs.declared.flat.FlatEnd.TheVariants.{NoNode, NoField, WrongWay}
use Rattle.proto_flat.specs.declared.flat.FlatRoute.{FlatRoute}

-- a name, as bytes
abbrev pub Name : Type 0
Name = List ℕ

-- a field of a node or of an interface: its declaration without the value (`given` is Nothing)
abbrev pub Field : Type 0
Field = Declaration ℕ

-- what a field is given between braces, or has by default: the line, the field's name, its number
-- among the fields there (0 for a default, which nothing reads), and the value, in which nodes are
-- numbers. There is no value if an IS hands on nothing, if no IS takes the field, or if a Script's
-- declaration has none
pub record Filled : Type 0 where
  pub line : ℕ
  pub name : Name
  pub number : ℕ
  pub value : Option (RawValue ℕ)

-- the first value given under that name
abbrev pub value_of : Name → List Filled → Option (RawValue ℕ)
value_of name [] = None
value_of name (f ∷ fs) =
    option_or (if bytes_eq f.name name then f.value else None) (value_of name fs)

-- what a node or an instance stands for: a node; the interface of an instance (None for a node);
-- and the ends of each field. A field of a node is one end. A field of an interface has the ends of
-- the fields that ISs join to it
pub record Stands : Type 0 where
  pub node : ℕ
  pub interface : Option (List Field)
  pub ends : Name → List FlatEnd

-- a pair of braces: the name that DEF gives, and what they stand for once they close
pub record Braces : Type 0 where
  pub name : Option Name
  pub stands : Option Stands

-- a name scope: the text without its bodies, or one instance's body with its defaults. It has its
-- braces so far, in the order in which they open; its routes, and the ends that ISs join to each
-- interface field. Routes and ends are functions of what all braces of the scope stand for, as both
-- may name braces that are still open. An IS finds the interface, and what the instance is given or
-- has by default
pub record Scope : Type 0 where
  pub braces : List Braces
  pub routes : List Braces → List FlatRoute
  pub ends : List Braces → Name → List FlatEnd
  pub interface : List Field
  pub given : List Filled

-- ---- DEF and USE

abbrev pub has_name : Name → Braces → Bool
has_name name b = option_map_or (bytes_eq name) b.name false

-- USE names the last closed braces of that name, so no node holds itself
abbrev pub used : Name → List Braces → Option ℕ
used name braces =
    fold (λ before b. if has_name name b
    then option_or (option_map (λ s. s.node) b.stands) before else before) None braces

-- ROUTE names the last braces of that name, closed or not, as a ROUTE may be between the braces
-- that it names. The first of the list has the place `at`
abbrev pub last_from : ℕ → Name → List Braces → Option ℕ
last_from at name [] = None
last_from at name (b ∷ bs) =
    option_or (last_from (at + 1) name bs) (if has_name name b then Some at else None)

-- what the braces at a place of the scope stand for; `all` are its braces once they are closed
abbrev pub stands_at : List Braces → Option ℕ → Option Stands
stands_at all at = option_and_then (λ b. b.stands) (option_and_then (slice_get all) at)

-- ---- the ends of a ROUTE

-- a field of an interface by its name, and an inputOutput field by its name
abbrev pub own_field : List Field → Name → Option Field
own_field fields name = find (λ f. bytes_eq f.name name) fields

abbrev pub exposed_field : List Field → Name → Option Field
exposed_field fields name = find (λ f. is_exposed f.access && bytes_eq f.name name) fields

-- the field of an interface that a source names, and that a target names
abbrev pub source_in : List Field → Name → Option Field
source_in fields name = source_by (own_field fields) (exposed_field fields) name

abbrev pub target_in : List Field → Name → Option Field
target_in fields name = target_by (own_field fields) (exposed_field fields) name

-- NoField if there is no such field, WrongWay if its access forbids it, or else its ends: an empty
-- list if no IS takes it
abbrev pub ends_by : (Access → Bool) → Stands → Option Field → List FlatEnd
ends_by allowed s None = NoField ∷ []
ends_by allowed s (Some f) = if allowed f.access then s.ends f.name else WrongWay ∷ []

-- NoNode if there is no node, or else the ends of an instance's field or of a node's. Whether a
-- node has the field is checked by the scene
abbrev pub ends_at : (Access → Bool) → (List Field → Name → Option Field) → Name → Option Stands
    → List FlatEnd
ends_at allowed named field None = NoNode ∷ []
ends_at allowed named field (Some s) =
    option_map_or (λ fields. ends_by allowed s (named fields field)) s.interface (s.ends field)

-- the ends of a field as a source, and as a target, by what its braces stand for
abbrev pub source_ends : Name → Option Stands → List FlatEnd
source_ends field stands = ends_at sends source_in field stands

abbrev pub target_ends : Name → Option Stands → List FlatEnd
target_ends field stands = ends_at receives target_in field stands

-- the ends that a ROUTE after `braces` names; `all` are the braces of the scope once they are
-- closed
abbrev pub sources : List Braces → List Braces → RouteEnd → List FlatEnd
sources braces all p = source_ends p.field (stands_at all (last_from 0 p.node braces))

abbrev pub targets : List Braces → List Braces → RouteEnd → List FlatEnd
targets braces all p = target_ends p.field (stands_at all (last_from 0 p.node braces))

-- a route from each source to each target, source by source
abbrev pub pairs : ℕ → List FlatEnd → List FlatEnd → List FlatRoute
pairs line sources targets =
    flat_map (λ s. map (λ t. record { line = line; source = s; target = t }) targets) sources
