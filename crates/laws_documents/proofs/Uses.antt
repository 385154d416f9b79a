-- In the flat form of a document without instances stand the nodes that are read.
use Rattle.std.proofs.Common.{◌≡◌, ℕ, List, [], ◌∷◌, ◌++◌, length, Option, Some, None, slice_set, map, refl, ap, sym, ◌∙◌}
use Rattle.std.specs.List.{flat_map}
use Rattle.std.proofs.lemmas.List.{map-append, length-map, map-set}
use Rattle.proto_flat.specs.declared.flat.FlatNode.{FlatNode}
use Rattle.proto_meaning.specs.Names.{Name}
use Rattle.laws_documents.specs.Plain.{Reading, last_closed}
use Rattle.laws_documents.specs.Uses.{OpenBraces, closes, held, named, opens, some, stands, steps}
use Rattle.laws_documents.specs.Uses as uses
use Rattle.laws_documents.specs.Readings.{read_item, read_node, read_statement}
use Rattle.laws_documents.proofs.Readings.{read-declaration, read-field, read-full, read-item-proto, read-item-route, read-node-statement, read-proto, read-route, read-use}
use Rattle.laws_documents.specs.PlainLaws.{UsesAreNamed}
use Rattle.laws_documents.proofs.Keeping.{Law, all_keep, closed, nodes_held, opened}
use Rattle.laws_documents.proofs.Names.{named_same, opened_of}
use Rattle.laws_documents.proofs.ReadWhole.{flat_is_read}

abbrev pub read_as : List ℕ → Reading → uses.Reading
read_as here r = record { opened = map opened_of r.pairs; closed = map held r.nodes; here = map some here }

abbrev pub Reads : List ℕ → Reading → uses.Reading → Type 0
Reads here r x = x ≡ read_as here r

pub used : (name : Name) (here : List ℕ) (r : Reading) (x : uses.Reading) (k : ℕ) → Reads here r x → last_closed name r.pairs ≡ Some k → Reads (here ++ k ∷ []) r (stands (named name x.opened) x)
used name here r x k i e =
    ap (λ (y : uses.Reading). stands (named name y.opened) y) i
    ∙ ap (λ o. stands o (read_as here r)) (named_same name r.pairs ∙ e)
    ∙ ap (λ ns. record (read_as here r) { here = ns }) (sym (map-append some here (k ∷ [])))

pub opened_as : (name : Option Name) (here : List ℕ) (r : Reading) (x : uses.Reading) → Reads here r x → Reads [] (opened name r) (opens name x)
opened_as name here r x i =
    ap (opens name) i ∙ ap (λ os. record { opened = os; closed = map held r.nodes; here = [] }) (sym (map-append opened_of r.pairs (record { name = name; node = None } ∷ [])))

pub closed_as : (name : Option Name) (node : FlatNode) (here inner : List ℕ) (r q : Reading) (x y : uses.Reading) → flat_map nodes_held node.fields ≡ inner → Reads here r x → Reads inner q y
    → Reads (here ++ length q.nodes ∷ []) (closed name (length r.pairs) node q) (closes name x y)
closed_as name node here inner r q x y n i j =
    ap (λ (z : uses.Reading). closes name z y) i
    ∙ ap (closes name (read_as here r)) j
    ∙ ap (λ k. made k (length (map held q.nodes)) (map some inner)) (length-map r.pairs opened_of)
    ∙ ap (λ k. made (length r.pairs) k (map some inner)) (length-map q.nodes held)
    ∙ ap (λ ns. made (length r.pairs) (length q.nodes) (map some ns)) (sym n)
    ∙ ap (λ os. record (made (length r.pairs) (length q.nodes) (held node)) { opened = os }) (sym (map-set opened_of q.pairs (length r.pairs) (record { name = name; node = Some (length q.nodes) })))
    ∙ ap (λ ns. record { opened = pairs; closed = ns; here = map some here ++ Some (length q.nodes) ∷ [] }) (sym (map-append held q.nodes (node ∷ [])))
    ∙ ap (λ ns. record { opened = pairs; closed = map held (q.nodes ++ node ∷ []); here = ns }) (sym (map-append some here (length q.nodes ∷ []))) where
      made : ℕ → ℕ → List (Option ℕ) → uses.Reading
      made at k ns = record {
        opened = slice_set (map opened_of q.pairs) at (record { name = name; node = Some k });
        closed = map held q.nodes ++ ns ∷ [];
        here = map some here ++ Some k ∷ [];
      }

      pairs : List OpenBraces
      pairs = map opened_of (slice_set q.pairs (length r.pairs) (record { name = name; node = Some (length q.nodes) }))

abbrev pub law : Law Reads
law = record {
  node = read_node steps;
  item = read_item steps;
  statement = read_statement steps;
  uses = steps.uses;
  routes = steps.routes;
  opens = opens;
  closes = λ name word x y. closes name x y;
  at_field = read-field steps;
  at_declaration = read-declaration steps;
  at_item_route = read-item-route steps;
  at_item_proto = read-item-proto steps;
  at_use = read-use steps;
  at_full = λ line name word is x. read-full steps line name word is x;
  at_node = read-node-statement steps;
  at_route = read-route steps;
  at_proto = read-proto steps;
  used = used;
  routed = λ route here r x i. i;
  opened_by = opened_as;
  closed_by = λ name word t node here inner r q x y e k m n i j. closed_as name node here inner r q x y n i j;
}

pub uses_are_named : UsesAreNamed
uses_are_named d f k e =
    let told = flat_is_read _ d f k e (all_keep Reads law d.statements (record { nodes = []; pairs = []; wires = [] }) uses.nothing_read refl) in (
      ap (λ g. map held g.nodes) (sym told.is) ∙ sym (ap (λ (x : uses.Reading). x.closed) told.told),
      ap (λ g. map some g.roots) (sym told.is) ∙ sym (ap (λ (x : uses.Reading). x.here) told.told),
    )
