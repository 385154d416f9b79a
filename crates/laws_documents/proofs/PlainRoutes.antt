-- A plain reading as a walk: its names and its routes.
use Rattle.std.proofs.Common.{◌≡◌, ℕ, ◌+◌, Bool, true, false, if◌then◌else◌, List, [], ◌∷◌, ◌++◌, Option, Some, None, option_map, Ok, map, refl, ap, sym, ◌∙◌, slice_get}
use Rattle.std.specs.List.{fold}
use Rattle.std.specs.Option.{option_or, option_and_then, option_map_or}
use Rattle.std.proofs.Math.Path.{fun_ext}
use Rattle.std.proofs.lemmas.List.{append_assoc, append-nil}
use Rattle.std.proofs.lemmas.Option.{slice_get-map}
use Rattle.x3d_values.specs.Access.{receives, sends}
use Rattle.x3d_values.specs.declared.field_type.Access.{Access}
use Rattle.x3d_values.specs.declared.node_type.NodeType.{NodeType}
use Rattle.classic_tree.specs.declared.tree.RouteText.{RouteText}
use Rattle.proto_flat.specs.declared.flat.FlatEnd.TheVariants.{At, NoNode}
use Rattle.proto_flat.specs.declared.flat.FlatRoute.{FlatRoute}
use Rattle.proto_meaning.specs.Limits.{AnItem, Outcome}
use Rattle.proto_meaning.specs.Names.{Name, Field, Stands, Braces, used, stands_at, ends_at, pairs, source_ends, source_in, target_ends, target_in}
use Rattle.proto_meaning.specs.Names as names
use Rattle.proto_meaning.specs.Sight.{no_names, OfType}
use Rattle.proto_meaning.specs.Flat.{Walk, Does, Inside, field, note_route}
use Rattle.laws_documents.specs.Plain.{Pair, Wire, Reading, PlainRead, has_name, last_closed, last_from, wire_route, end_of, route_of, Between}
use Rattle.laws_documents.proofs.Maps.{Maps}

abbrev pub same : {A : Type 0} → A → A
same a = a

-- ---- a reading as a walk

abbrev pub stands_for : ℕ → Stands
stands_for n = record { node = n; interface = None; ends = λ f. At n f ∷ [] }

abbrev pub braces_of : Pair → Braces
braces_of p = record { name = p.name; stands = option_map stands_for p.node }

abbrev pub wire_pairs : List Braces → Wire → List FlatRoute
wire_pairs all w =
    pairs w.route.line (source_ends w.route.source.field (stands_at all w.source))
    (target_ends w.route.target.field (stands_at all w.target))

abbrev pub wired : List Braces → List Wire → List FlatRoute
wired all [] = []
wired all (w ∷ ws) = wire_pairs all w ++ wired all ws

abbrev pub walk_of : Reading → Walk
walk_of r =
    record {
      put = record { nodes = r.nodes; helpers = [] };
      sight = record { here = []; outside = []; taken = no_names };
      scope = record {
        braces = map braces_of r.pairs;
        routes = λ all. wired all r.wires;
        ends = λ all name. [];
        interface = [];
        given = [];
      };
    }

abbrev pub inside_of : ℕ → NodeType → Between → Inside
inside_of at t b = record { at = at; owner = OfType t; fields = b.fields; filled = b.filled }

abbrev pub Walks : {A B : Type 0} → (A → B) → PlainRead A → Does B → Type 0
Walks = Maps walk_of

-- ---- names

pub last_same : (at : ℕ) (name : Name) (ps : List Pair) → names.last_from at name (map braces_of ps) ≡ last_from at name ps
last_same at name [] = refl
last_same at name (p ∷ ps) = ap (λ o. option_or o (if has_name name p then Some at else None)) (last_same (at + 1) name ps)

abbrev take_last : Name → Option ℕ → Braces → Option ℕ
take_last name before b = if names.has_name name b then option_or (option_map (λ (s : Stands). s.node) b.stands) before else before

one_used : (b : Bool) (a closed : Option ℕ) → (if b then option_or (option_map (λ (s : Stands). s.node) (option_map stands_for closed)) a else a) ≡ option_or (if b then closed else None) a
one_used true a (Some n) = refl
one_used true a None = refl
one_used false a closed = refl

or_assoc : (a b c : Option ℕ) → option_or a (option_or b c) ≡ option_or (option_or a b) c
or_assoc (Some x) b c = refl
or_assoc None b c = refl

or_none : (a : Option ℕ) → option_or a None ≡ a
or_none (Some x) = refl
or_none None = refl

used_from : (name : Name) (a : Option ℕ) (ps : List Pair) → fold (take_last name) a (map braces_of ps) ≡ option_or (last_closed name ps) a
used_from name a [] = refl
used_from name a (p ∷ ps) =
    used_from name (take_last name a (braces_of p)) ps
    ∙ ap (option_or (last_closed name ps)) (one_used (has_name name p) a p.node)
    ∙ or_assoc (last_closed name ps) (if has_name name p then p.node else None) a

pub used_same : (name : Name) (ps : List Pair) → used name (map braces_of ps) ≡ last_closed name ps
used_same name ps = used_from name None ps ∙ or_none (last_closed name ps)

-- ---- routes

pub wired_more : (all : List Braces) (ws : List Wire) (w : Wire) → wired all ws ++ wire_pairs all w ≡ wired all (ws ++ w ∷ [])
wired_more all [] w = sym (append-nil (wire_pairs all w))
wired_more all (v ∷ ws) w = append_assoc (wire_pairs all v) (wired all ws) (wire_pairs all w) ∙ ap (λ rs. wire_pairs all v ++ rs) (wired_more all ws w)

pub route_walks : (route : RouteText) → Walks same (wire_route route) (note_route route)
route_walks route r =
    ap (λ at. noted (λ all. wired all r.wires ++ wire_pairs all (record { route = route; source = at; target = names.last_from 0 route.target.node (map braces_of r.pairs) }))) (last_same 0 route.source.node r.pairs)
    ∙ ap (λ at. noted (λ all. wired all r.wires ++ wire_pairs all (record { route = route; source = last_from 0 route.source.node r.pairs; target = at }))) (last_same 0 route.target.node r.pairs)
    ∙ ap noted (fun_ext (λ all. wired_more all r.wires (record { route = route; source = last_from 0 route.source.node r.pairs; target = last_from 0 route.target.node r.pairs }))) where
      noted : (List Braces → List FlatRoute) → Outcome (Unit {0} × Walk)
      noted routes = record { met = AnItem ∷ []; comes = Ok (tt, record (walk_of r) { scope = record (walk_of r).scope { routes = routes } }) }

end_same : (allowed : Access → Bool) (named : List Field → Name → Option Field) (field : Name) (ps : List Pair) (at : Option ℕ) → ends_at allowed named field (stands_at (map braces_of ps) at) ≡ end_of ps at field ∷ []
end_same allowed named field ps None = refl
end_same allowed named field ps (Some k) = ap (λ o. ends_at allowed named field (option_and_then (λ (b : Braces). b.stands) o)) (slice_get-map braces_of ps k) ∙ on (slice_get ps k) where
  closed : (n : Option ℕ) → ends_at allowed named field (option_map stands_for n) ≡ option_map_or (λ n. At n field) n NoNode ∷ []
  closed (Some n) = refl
  closed None = refl

  on : (o : Option Pair) → ends_at allowed named field (option_and_then (λ (b : Braces). b.stands) (option_map braces_of o)) ≡ option_map_or (λ n. At n field) (option_and_then (λ (p : Pair). p.node) o) NoNode ∷ []
  on (Some p) = closed p.node
  on None = refl

pub all_wired : (ps : List Pair) (ws : List Wire) → wired (map braces_of ps) ws ≡ map (route_of ps) ws
all_wired ps [] = refl
all_wired ps (w ∷ ws) =
    ap (λ es. pairs w.route.line es (target_ends w.route.target.field (stands_at (map braces_of ps) w.target)) ++ wired (map braces_of ps) ws) (end_same sends source_in w.route.source.field ps w.source)
    ∙ ap (λ es. pairs w.route.line (end_of ps w.source w.route.source.field ∷ []) es ++ wired (map braces_of ps) ws) (end_same receives target_in w.route.target.field ps w.target)
    ∙ ap (λ rs. route_of ps w ∷ rs) (all_wired ps ws)
