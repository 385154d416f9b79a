-- The flat form of a document without instances has the routes that are read.
use Rattle.std.proofs.Common.{◌≡◌, ℕ, ◌+◌, length-append, List, [], ◌∷◌, ◌++◌, length, Option, Some, None, slice_get, slice_set, map, refl, ap, sym, ◌∙◌}
use Rattle.std.specs.Option.{option_and_then, option_map_or}
use Rattle.std.specs.Prelude.{option_map}
use Rattle.std.proofs.lemmas.List.{map-append, length-map, map-set}
use Rattle.std.proofs.lemmas.Option.{slice_get-map}
use Rattle.classic_tree.specs.declared.tree.RouteText.{RouteText}
use Rattle.proto_flat.specs.declared.flat.FlatEnd.TheVariants.{At, NoNode}
use Rattle.proto_flat.specs.declared.flat.FlatNode.{FlatNode}
use Rattle.proto_meaning.specs.Names.{Name}
use Rattle.laws_documents.specs.Plain.{Pair, Reading, Wire, end_of, route_of}
use Rattle.laws_documents.specs.Uses.{OpenBraces}
use Rattle.laws_documents.specs.Routes.{ReadEnd, ReadRoute, closes, end_at, end_shown, node_of, opens, read_shown, route_shown, steps}
use Rattle.laws_documents.specs.Routes as routes
use Rattle.laws_documents.specs.Readings.{read_item, read_node, read_statement}
use Rattle.laws_documents.proofs.Readings.{read-declaration, read-field, read-full, read-item-proto, read-item-route, read-node-statement, read-proto, read-route, read-use}
use Rattle.laws_documents.specs.PlainLaws.{RoutesAreRead}
use Rattle.laws_documents.proofs.Keeping.{Law, all_keep, closed, opened, wired, wire_of}
use Rattle.laws_documents.proofs.Names.{last_same, opened_of}
use Rattle.laws_documents.proofs.ReadWhole.{flat_is_read}

abbrev end_read : Option ℕ → Name → ReadEnd
end_read at field = record { place = at; field = field }

abbrev route_read : Wire → ReadRoute
route_read w = record { source = end_read w.source w.route.source.field; target = end_read w.target w.route.target.field }

abbrev read_as : Reading → routes.Reading
read_as r = record { opened = map opened_of r.pairs; closed = length r.nodes; routes = map route_read r.wires }

abbrev Reads : List ℕ → Reading → routes.Reading → Type 0
Reads here r x = x ≡ read_as r

routed : (route : RouteText) (here : List ℕ) (r : Reading) (x : routes.Reading) → Reads here r x → Reads here (wired route r) (routes.routes route x)
routed route here r x i =
    ap (routes.routes route) i
    ∙ ap (λ at. made (end_read at route.source.field) (routes.read_end (map opened_of r.pairs) route.target)) (last_same 0 route.source.node r.pairs)
    ∙ ap (λ at. made (route_read (wire_of route r.pairs)).source (end_read at route.target.field)) (last_same 0 route.target.node r.pairs)
    ∙ ap (λ ws. record (read_as r) { routes = ws }) (sym (map-append route_read r.wires (wire_of route r.pairs ∷ []))) where
      made : ReadEnd → ReadEnd → routes.Reading
      made source target = record (read_as r) { routes = map route_read r.wires ++ record { source = source; target = target } ∷ [] }

opened_as : (name : Option Name) (here : List ℕ) (r : Reading) (x : routes.Reading) → Reads here r x → Reads [] (opened name r) (opens name x)
opened_as name here r x i =
    ap (opens name) i ∙ ap (λ os. record (read_as r) { opened = os }) (sym (map-append opened_of r.pairs (record { name = name; node = None } ∷ [])))

closed_as : (name : Option Name) (node : FlatNode) (here : List ℕ) (r q : Reading) (x y : routes.Reading) → x ≡ read_as r → y ≡ read_as q
    → closes name x y ≡ read_as (closed name (length r.pairs) node q)
closed_as name node here r q x y i j =
    ap (λ (z : routes.Reading). closes name z y) i
    ∙ ap (closes name (read_as r)) j
    ∙ ap (λ k. record (read_as q) { opened = slice_set (map opened_of q.pairs) k (record { name = name; node = Some (length q.nodes) }); closed = length q.nodes + 1 }) (length-map r.pairs opened_of)
    ∙ ap (λ os. record (read_as q) { opened = os; closed = length q.nodes + 1 }) (sym (map-set opened_of q.pairs (length r.pairs) (record { name = name; node = Some (length q.nodes) })))
    ∙ ap (λ k. record (read_as (closed name (length r.pairs) node q)) { closed = k }) (sym (length-append q.nodes (node ∷ [])))

law : Law Reads
law = record {
  node = read_node steps;
  item = read_item steps;
  statement = read_statement steps;
  uses = steps.uses;
  routes = steps.routes;
  opens = opens;
  closes = λ name word x y. closes name x y;
  at_field = read-field steps;
  at_declaration = read-declaration steps;
  at_item_route = read-item-route steps;
  at_item_proto = read-item-proto steps;
  at_use = read-use steps;
  at_full = λ line name word is x. read-full steps line name word is x;
  at_node = read-node-statement steps;
  at_route = read-route steps;
  at_proto = read-proto steps;
  used = λ name here r x k i e. i;
  routed = routed;
  opened_by = opened_as;
  closed_by = λ name word t node here inner r q x y e k m n i j. closed_as name node here r q x y i j;
}

-- ---- ends

end_same : (ps : List Pair) (at : Option ℕ) (field : Name) → end_of ps at field ≡ end_shown (map opened_of ps) (end_read at field)
end_same ps None field = refl
end_same ps (Some k) field = on (slice_get ps k) ∙ ap (λ (o : Option OpenBraces). end_at field (node_of o)) (sym (slice_get-map opened_of ps k)) where
  closed_end : (n : Option ℕ) → option_map_or (λ n. At n field) n NoNode ≡ end_at field n
  closed_end None = refl
  closed_end (Some n) = refl

  on : (o : Option Pair) → option_map_or (λ n. At n field) (option_and_then (λ (p : Pair). p.node) o) NoNode ≡ end_at field (node_of (option_map opened_of o))
  on None = refl
  on (Some p) = closed_end p.node

shown_same : (ps : List Pair) (ws : List Wire) → map route_shown (map (route_of ps) ws) ≡ map (read_shown (map opened_of ps)) (map route_read ws)
shown_same ps [] = refl
shown_same ps (w ∷ ws) =
    ap (λ e. (e, end_of ps w.target w.route.target.field) ∷ map route_shown (map (route_of ps) ws)) (end_same ps w.source w.route.source.field)
    ∙ ap (λ e. (end_shown (map opened_of ps) (route_read w).source, e) ∷ map route_shown (map (route_of ps) ws)) (end_same ps w.target w.route.target.field)
    ∙ ap (λ rest. read_shown (map opened_of ps) (route_read w) ∷ rest) (shown_same ps ws)

pub routes_are_read : RoutesAreRead
unfolding law
routes_are_read d f k e =
    let told = flat_is_read _ d f k e (all_keep Reads law d.statements (record { nodes = []; pairs = []; wires = [] }) routes.nothing_read refl) in
    ap (λ g. map route_shown g.routes) (sym told.is) ∙ shown_same told.reading.pairs told.reading.wires ∙ sym (ap routes.shown_of told.told)
