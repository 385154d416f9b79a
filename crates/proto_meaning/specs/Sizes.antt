-- What is equal but for the numbers of nodes.
use Rattle.std.specs.Prelude.{◌≡◌, ℕ, Bool, List, map, Option, option_map, is_some, IfSome, Result, Ok, Err}
use Rattle.proto_flat.specs.declared.fault.ExpandFault.{ExpandFault}
use Rattle.proto_meaning.specs.Limits.{Outcome, item_count}
use Rattle.proto_meaning.specs.Names.{Name, Filled, Braces}
use Rattle.proto_meaning.specs.Sight.{Put, Prototype, Sight, declared}
use Rattle.proto_meaning.specs.Flat.{Walk}

-- ---- outcomes

-- both gave something, or both have the same fault
abbrev pub EndAlike : {A B : Type 0} → Result A ExpandFault → Result B ExpandFault → Type 0
EndAlike (Ok a) (Ok b) = Unit
EndAlike (Err e) (Err f) = f ≡ e
EndAlike (Ok a) (Err f) = ⊥
EndAlike (Err e) (Ok b) = ⊥

-- the same was counted, in the same order, and both end alike
pub record ComeAlike {A B : Type 0} (o : Outcome A) (p : Outcome B) : Type 0 where
  pub met : p.met ≡ o.met
  pub ends : EndAlike o.comes p.comes

-- ---- prototypes

-- the name of a field that is given something, and the number of items in its value, if it has one
abbrev pub size : Filled → Name × Option ℕ
size f = (f.name, option_map item_count f.value)

abbrev pub sizes : List Filled → List (Name × Option ℕ)
sizes given = map size given

-- what an instance gives depends only on the sizes of what it is given: neither on the numbers of
-- nodes in it, nor on what was added before
abbrev pub IsSized : Prototype → Type 0
IsSized p =
    (given other : List Filled) (before behind : Put) → sizes other ≡ sizes given
    → ComeAlike (p.instance given before) (p.instance other behind)

-- each prototype that a name finds among these is sized
abbrev pub EachSized : List Prototype → Type 0
EachSized prototypes = (word : Name) → IfSome (declared word prototypes) IsSized

pub record AreSized (s : Sight) : Type 0 where
  pub here : EachSized s.here
  pub outside : EachSized s.outside

-- ---- walks

-- the name that DEF gives braces, and whether they are closed
abbrev pub mark : Braces → Option Name × Bool
mark b = (b.name, is_some b.stands)

abbrev pub marks : List Braces → List (Option Name × Bool)
marks all = map mark all

-- walks that differ only in numbers of nodes, in what was added and in routes
pub record Alike (w v : Walk) : Type 0 where
  pub sight : v.sight ≡ w.sight
  pub sized : AreSized w.sight
  pub braces : marks v.scope.braces ≡ marks w.scope.braces
  pub interface : v.scope.interface ≡ w.scope.interface
  pub given : sizes v.scope.given ≡ sizes w.scope.given
