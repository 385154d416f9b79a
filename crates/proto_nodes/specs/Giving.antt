-- What a step between braces must do.
use Rattle.std.specs.Prelude.{◌≡◌, ◌⊎◌, ℕ, Bool, true, false, Option, None, Result, Ok, Err}
use Rattle.classic_tree.specs.declared.tree.Given.TheVariants as text
use Rattle.proto_flat.specs.Fault.{memory}
use Rattle.proto_flat.specs.declared.fault.ExpandFault.{ExpandFault}
use Rattle.proto_meaning.specs.Flat as flat
use Rattle.proto_meaning.specs.Flat.{Does, ◌>>=◌, pure, fill, met_field}
use Rattle.proto_meaning.specs.trees.Values.{left_by, value_at}
use Rattle.proto_meaning.specs.Names.{Name, Field, value_of}
use Rattle.proto_meaning.specs.Sight.{Owner}
use Rattle.proto_parts.specs.Inside as braces
use Rattle.proto_parts.specs.Inside.{fields_in, filled_in}
use Rattle.proto_parts.specs.declared.inside.Inside.{Inside}
use Rattle.proto_parts.specs.declared.inside.Owner as holder
use Rattle.proto_parts.specs.declared.inside.Owner.TheVariants.{Node, Instance}
use Rattle.proto_parts.specs.declared.fields.KnownField.{KnownField}
use Rattle.proto_parts.specs.Fields.{numbered}
use Rattle.proto_parts.specs.Settled.{State, doing}
use Rattle.proto_nodes.specs.declared.frames.FieldAt.{FieldAt}
use Rattle.proto_nodes.specs.declared.walker.Walker.{Walker}
use Rattle.proto_nodes.specs.Shown.{Sound, shown}

abbrev pub is_type : holder.Owner → Bool
is_type (Node t) = true
is_type (Instance interface) = false

-- the field that waits, with its number
abbrev pub placed : FieldAt → ℕ × Field
placed place = numbered place.name.now place.field

-- in the terms of proto_meaning: the braces number `at`, and their owner
abbrev pub inside_of : ℕ → Owner → Inside → flat.Inside
inside_of at o i = record { at = at; owner = o; fields = fields_in i; filled = filled_in i }

-- the step did what the definition does, or memory was refused
abbrev pub Gives : ℕ → Owner → Result (flat.Inside × State) ExpandFault
    → Result (Unit {0}) ExpandFault → Walker → Inside → Inside → Type 0
Gives at o outcome (Ok u) walker old new =
    (outcome ≡ Ok (inside_of at o new, shown walker)) × Sound walker × braces.Sound new
    × (new.owner ≡ old.owner)
Gives at o outcome (Err e) walker old new = (e ≡ memory) ⊎ (outcome ≡ Err e)

-- an IS ends in a join, or in a fault; `twice`: the field was given something before
abbrev pub MayJoin : ℕ → Name → KnownField → Bool → Name → Inside → State
    → Result (Unit {0}) ExpandFault → Type 0
MayJoin line name field twice outer i s (Ok u) =
    (twice ≡ false)
    × ((at : ℕ) (o : Owner) → doing (flat.give line (numbered name field) twice (text.Is outer)
    (inside_of at o i)) s
    ≡ doing (flat.join line (numbered name field) (inside_of at o i) outer
    (value_of outer s.walk.scope.given)) s)
MayJoin line name field twice outer i s (Err e) =
    (at : ℕ) (o : Owner) → doing (flat.give line (numbered name field) twice (text.Is outer)
    (inside_of at o i)) s ≡ Err e

-- ---- values

-- the field may have a value, or the result is a fault
abbrev pub MayStand : ℕ → Name → KnownField → Bool → Inside → Result (Unit {0}) ExpandFault → Type 0
MayStand line name field twice i (Ok u) =
    (twice ≡ false)
    × ((at : ℕ) (o : Owner) (items : ℕ) (rest : Does flat.Inside) (s : State)
    → flat.is_node o ≡ is_type i.owner
    → doing (value_at line (numbered name field) twice items (inside_of at o i) rest) s
    ≡ doing (met_field o field.number items >>= λ _. rest) s)
MayStand line name field twice i (Err e) =
    (at : ℕ) (o : Owner) (items : ℕ) (rest : Does flat.Inside) (s : State)
    → flat.is_node o ≡ is_type i.owner
    → doing (value_at line (numbered name field) twice items (inside_of at o i) rest) s ≡ Err e

-- the field may have a value of that many items, which are counted; or the result is a fault
abbrev pub MayHold : ℕ → Name → KnownField → Bool → ℕ → Inside → State
    → Result (Unit {0}) ExpandFault → Walker → Type 0
MayHold line name field twice items i s (Ok u) walker =
    (twice ≡ false) × Sound walker
    × ((at : ℕ) (o : Owner) (rest : Does flat.Inside) → flat.is_node o ≡ is_type i.owner
    → doing (value_at line (numbered name field) twice items (inside_of at o i) rest) s
    ≡ doing rest (shown walker))
MayHold line name field twice items i s (Err e) walker =
    (at : ℕ) (o : Owner) (rest : Does flat.Inside) → flat.is_node o ≡ is_type i.owner
    → (e ≡ memory)
    ⊎ (doing (value_at line (numbered name field) twice items (inside_of at o i) rest) s ≡ Err e)

-- a value that no IS takes
abbrev pub aside : ℕ → ℕ × Field → flat.Inside → Option ExpandFault → Does flat.Inside
aside line f i wrong = left_by wrong >>= λ _. pure (fill line f i None)
