-- What no IS takes doesn't matter: whole documents.
use Rattle.std.proofs.Common.{◌≡◌, ℕ, Ok, List, [], ◌++◌, map, refl, ap, sym, ◌∙◌}
use Rattle.classic_tree.specs.declared.tree.Document.{Document}
use Rattle.classic_tree.specs.declared.tree.Statement.{Statement}
use Rattle.proto_meaning.specs.Limits.{and_then, limited}
use Rattle.proto_meaning.specs.Sight.{Sight, no_names}
use Rattle.proto_meaning.specs.Flat.{Does, ◌>>=◌, comes, pure, begin, Stated, header_of, flat}
use Rattle.proto_meaning.specs.Flat.{statement as stated}
use Rattle.proto_meaning.proofs.Induction.{Layers, every}
use Rattle.proto_meaning.proofs.SightLaw.{Any, then_still}
use Rattle.laws_documents.specs.Untaken.{Change, KeepsDeclarations, StatementAt, statements_at, statement_at, with_untaken, blanked, UntakenValuesDontMatter, UntakenPlainValuesDontMatter}
use Rattle.laws_documents.proofs.BareValues.{blanked_keeps}
use Rattle.laws_documents.proofs.Same.{AllSteady, Steady, through_same, steady_in_turn, same_then}
use Rattle.laws_documents.proofs.UntakenNodes.{field_layer, declaration_layer, item_route_layer, item_proto_layer, use_layer, full_layer}
use Rattle.laws_documents.proofs.UntakenValues.{OfNode, OfItem}
use Rattle.laws_documents.proofs.UntakenProtos.{OfStatement, OfProto, prototype_layer}
use Rattle.laws_documents.proofs.UntakenStatements.{node_layer, route_layer, proto_layer}
use Rattle.laws_documents.proofs.UntakenBodies.{stated_sees}

abbrev root : Stated → List ℕ → Does (List ℕ)
root s roots = s.1.does >>= λ ns. pure (roots ++ ns)

module _ (change : Change) (keeps : KeepsDeclarations change) where
  layers : Layers (OfItem change keeps) (OfNode change keeps) (OfStatement change keeps) (OfProto change keeps)
  layers = record {
    field = field_layer change keeps;
    declaration = declaration_layer change keeps;
    item_route = item_route_layer change keeps;
    item_proto = λ p h. item_proto_layer change keeps p h.0 h.1;
    used = use_layer change keeps;
    full = full_layer change keeps;
    node = node_layer change keeps;
    route = route_layer change keeps;
    proto = proto_layer change keeps;
    prototype = prototype_layer change keeps;
  }

  steady_root : (x : Statement) → OfStatement change keeps x → (s : Sight) → Steady stated_sees root Any s (stated x) (stated (statement_at change x s))
  steady_root x h s =
      record {
        free = h.0.free;
        follows = λ roots _. then_still Any Any (stated x).1.does (λ ns. pure (roots ++ ns)) (stated x).1.sees h.0.follows (λ ns _ w. (tt, refl));
        seen = (h.1 s).seen;
        done = λ roots _ w e. same_then (stated x).1.does (stated (statement_at change x s)).1.does (λ ns. pure (roots ++ ns)) w ((h.1 s).done w e);
      }

  abbrev start : Sight
  start = record { here = []; outside = []; taken = no_names }

  steady_roots : (ss : List Statement) → AllSteady stated_sees root Any start (map stated ss) (map stated (statements_at (map (statement_at change) ss) start))
  steady_roots ss =
      steady_in_turn stated_sees root Any stated (statement_at change) (λ (x : StatementAt). x) (OfStatement change keeps) steady_root ss
      (every (OfItem change keeps) (OfNode change keeps) (OfStatement change keeps) (OfProto change keeps) layers ss) start

  pub untaken_change : (d : Document) → flat (with_untaken change d) ≡ flat d
  unfolding flat
  untaken_change d =
      ap (λ o. limited (and_then o (λ p. comes (Ok (record {
        header = header_of d;
        nodes = p.1.put.nodes;
        roots = p.0;
        helpers = p.1.put.helpers;
        routes = p.1.scope.routes p.1.scope.braces;
      })))))
      (through_same stated_sees root Any start (map stated d.statements) (map stated (statements_at (map (statement_at change) d.statements) start)) (steady_roots d.statements) [] tt (begin [] (record { nodes = []; helpers = [] })) refl)

pub untaken_values_dont_matter : UntakenValuesDontMatter
untaken_values_dont_matter = untaken_change

pub untaken_plain_values_dont_matter : UntakenPlainValuesDontMatter
untaken_plain_values_dont_matter d e same = sym (untaken_change blanked blanked_keeps d) ∙ ap flat same ∙ untaken_change blanked blanked_keeps e
