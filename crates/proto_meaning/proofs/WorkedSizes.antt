-- A worked flood:
--     PROTO P [] { Group {} }
--     P {}
-- with 65,537 such instances in a row, each with a line of its own, and with DEF or without.
use Rattle.std.proofs.Common.{◌≡◌, ℕ, List, [], ◌∷◌, ◌++◌, length, Option, None, Result, Ok, Err, map, inl, false, refl, ap, ◌∙◌, arith}
use Rattle.std.specs.Prelude.{codes}
use Rattle.classic_tree.specs.declared.tree.BodyItem.TheOpen.{NodeText-F, Statement-F}
use Rattle.classic_tree.specs.declared.tree.Document.{Document}
use Rattle.classic_tree.specs.declared.tree.Statement.{Statement}
use Rattle.proto_flat.specs.Fault.{fault}
use Rattle.proto_flat.specs.declared.fault.ExpandFault.{ExpandFault}
use Rattle.proto_flat.specs.declared.fault.ExpandFaultKind.TheVariants.{TooLarge}
use Rattle.proto_meaning.specs.Limits.{Met, ANode, AnInstance, is_within}
use Rattle.proto_meaning.specs.Names.{Name}
use Rattle.proto_meaning.specs.Sight.{Prototype, no_names}
use Rattle.proto_meaning.specs.Flat.{Walk, Stated, begin, flat, node_step, proto_step, prototype, statement, statement_step, through}
use Rattle.proto_meaning.proofs.Known.{KnownStatement, a_proto, full, proto, stands}
use Rattle.proto_meaning.specs.Rows.{MetIn, add_root, bare, times}
use Rattle.proto_meaning.specs.SizeLaws.{bare_statement}
use Rattle.proto_meaning.proofs.InRows.{floods_are_too_large, repeats_pass_limits}

abbrev declaration : KnownStatement
declaration = a_proto (proto 1 "P" [] (stands (full 1 "Group" []) ∷ []))

abbrev a_group : Prototype
a_group = prototype 1 (codes "P") [] (statement_step (Statement-F.Node (node_step (NodeText-F.Full 1 None (codes "Group") []))) ∷ []) [] no_names

abbrev nothing : Walk
nothing = begin [] (record { nodes = []; helpers = [] })

-- behind the declaration
abbrev declared : Walk
declared = record nothing { sight = record { here = a_group ∷ []; outside = []; taken = no_names } }

by_parts : through add_root (declaration.1 ∷ []) [] nothing ≡ record { met = []; comes = Ok ([], declared) }
unfolding node_step statement_step proto_step
by_parts = refl

by_text : through add_root (map statement (declaration.0 ∷ [])) [] nothing ≡ record { met = []; comes = Ok ([], declared) }
by_text = ap (λ (s : Stated). through add_root (s ∷ []) [] nothing) declaration.2 ∙ by_parts

-- an instance and a node
abbrev two : List Met
two = AnInstance ∷ ANode ∷ []

abbrev came : Result (ℕ × Walk) ExpandFault → ℕ × Walk
came (Ok p) = p
came (Err e) = (0, nothing)

one_met : MetIn a_group two
unfolding node_step statement_step
one_met = record { line = 2; name = None; walk = declared; first = came (bare a_group 2 None declared).comes; was = refl }

many : (bs : List (ℕ × Option Name)) → length bs ≡ 65537 → is_within ([] ++ times (length bs) two) ≡ false
many bs e = ap (λ k. is_within ([] ++ times k two)) e ∙ repeats_pass_limits [] two 65537 (inl (omega arith))

-- whatever stands behind them
pub flood_is_too_large : (d : Document) (bs : List (ℕ × Option Name)) (rest : List Statement)
    → d.statements ≡ (declaration.0 ∷ []) ++ map (bare_statement (codes "P")) bs ++ rest → length bs ≡ 65537
    → flat d ≡ Err (fault TooLarge 0)
flood_is_too_large d bs rest is e = floods_are_too_large d (declaration.0 ∷ []) (codes "P") bs rest [] two [] declared a_group is by_text refl one_met (many bs e)
