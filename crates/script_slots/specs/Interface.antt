-- The kinds of scripts by their words, and the interface of each: the fields that its Script
-- declares (our choice of kinds).
use Rattle.std.specs.Prelude.{ℕ, List, [], ◌∷◌, ◌++◌, Option, Some, None, codes, nat_eq, if◌then◌else◌}
use Rattle.std.specs.Cmp.Lexicographic.{pointwise}
use Rattle.x3d_values.specs.declared.default.FieldDefault.TheVariants.{Empty}
use Rattle.x3d_values.specs.declared.field_type.FieldType.TheVariants.{SFBool, SFInt32, SFFloat, SFTime, SFVec3f}
use Rattle.x3d_values.specs.declared.script.Kind.{Kind}
use Rattle.x3d_values.specs.declared.script.Kind.TheVariants.{Counter, Gate, Adder, Batch, Mover, Meter}
use Rattle.x3d_values.specs.Tables.{FieldRowView, initial, input, output}

-- ---- the words

abbrev pub kind_word : Kind → List ℕ
kind_word Counter = codes "counter"
kind_word Gate = codes "gate"
kind_word Adder = codes "adder"
kind_word Batch = codes "batch"
kind_word Mover = codes "mover"
kind_word Meter = codes "meter"

-- the first of these kinds that has the word
abbrev pub first_kind : List ℕ → List Kind → Option Kind
first_kind word [] = None
first_kind word (kind ∷ kinds) =
    if pointwise nat_eq word (kind_word kind) then Some kind else first_kind word kinds

abbrev pub all_kinds : List Kind
all_kinds = Counter ∷ Gate ∷ Adder ∷ Batch ∷ Mover ∷ Meter ∷ []

-- the kind with that word
abbrev pub kind_named : List ℕ → Option Kind
kind_named word = first_kind word all_kinds

-- ---- the fields

-- inputs are numbered from 0
abbrev pub inputs : Kind → List FieldRowView
inputs Counter = input (codes "tick") SFBool ∷ []
inputs Gate = input (codes "open") SFBool ∷ input (codes "pulse") SFTime ∷ []
inputs Adder = input (codes "a") SFFloat ∷ input (codes "b") SFFloat ∷ []
inputs Batch = input (codes "item") SFBool ∷ []
inputs Mover = input (codes "fraction") SFFloat ∷ []
inputs Meter = input (codes "reading") SFFloat ∷ []

-- the values that a scene gives to a script at its start
abbrev pub settings : Kind → List FieldRowView
settings Counter =
    initial (codes "start") SFInt32 Empty ∷ initial (codes "step") SFInt32 Empty ∷ []
settings Gate = initial (codes "startOpen") SFBool Empty ∷ []
settings Adder = []
settings Batch = []
settings Mover = initial (codes "from") SFVec3f Empty ∷ initial (codes "to") SFVec3f Empty ∷ []
settings Meter = []

-- outputs are numbered from 0
abbrev pub outputs : Kind → List FieldRowView
outputs Counter = output (codes "count") SFInt32 ∷ []
outputs Gate = output (codes "isOpen") SFBool ∷ output (codes "passed") SFTime ∷ []
outputs Adder = output (codes "sum") SFFloat ∷ []
outputs Batch = output (codes "many") SFInt32 ∷ output (codes "any") SFBool ∷ []
outputs Mover = output (codes "position") SFVec3f ∷ []
outputs Meter = output (codes "mean") SFFloat ∷ []

abbrev pub interface : Kind → List FieldRowView
interface kind = inputs kind ++ settings kind ++ outputs kind
