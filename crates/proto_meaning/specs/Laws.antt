-- Laws about what documents stand for.
use Rattle.std.specs.Prelude.{◌≡◌, ℕ, false, List, Ok, Err}
use Rattle.classic_tree.specs.declared.tree.Statement.{Statement}
use Rattle.proto_flat.specs.Fault.{fault}
use Rattle.proto_flat.specs.declared.fault.ExpandFaultKind.TheVariants.{TooLarge}
use Rattle.proto_flat.specs.declared.flat.Flat.{Flat}
use Rattle.proto_meaning.specs.Limits.{Met, Outcome, behind, is_within, limited}
use Rattle.proto_meaning.specs.Sight.{Sight}
use Rattle.proto_meaning.specs.Flat.{Walk, statement}

-- which prototypes are in sight after a statement that was added is what its text declares: it
-- depends neither on what instances give nor on what was added
abbrev pub SightIsOfTheText : Type 0
SightIsOfTheText =
    (s : Statement) (w v : Walk) (nodes : List ℕ) → ((statement s).1.does w).comes ≡ Ok (nodes, v)
    → (t : Sight) × ((statement s).1.sees w.sight ≡ Ok t) × (t.here ≡ v.sight.here)
    × (t.outside ≡ v.sight.outside)

-- what is over a limit stays over it: TooLarge may be answered as soon as a limit is passed,
-- whatever follows
abbrev pub LimitsStayPassed : Type 0
LimitsStayPassed =
    (met : List Met) (o : Outcome Flat) → is_within met ≡ false
    → limited (behind met o) ≡ Err (fault TooLarge 0)
