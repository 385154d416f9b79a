-- A whole text.
use Rattle.std.specs.Prelude.{◌≡◌, ◌⊎◌, ℕ, List, ◌++◌, drop, map, Result, Ok, Err}
use Rattle.std.specs.declared.alloc.AllocError.{AllocError}
use Rattle.proto_flat.specs.Fault.{memory}
use Rattle.proto_flat.specs.declared.fault.ExpandFault.{ExpandFault}
use Rattle.proto_flat.specs.declared.flat.Flat.{Flat}
use Rattle.proto_flat.specs.declared.flat.FlatRoute.{FlatRoute}
use Rattle.proto_flat.specs.declared.flat.Header.{Header}
use Rattle.proto_meaning.specs.Flat.{Does, ◌>>=◌, pure, through, Stated}
use Rattle.proto_meaning.specs.Sight.{Prototype, Put, and_see}
use Rattle.proto_parts.specs.Settled.{State, doing}
use Rattle.proto_parts.specs.Ends.{few}
use Rattle.proto_meaning.specs.trees.Meaning.{statement}
use Rattle.proto_meaning.specs.declared.tree.BodyTree.{BodyTree}
use Rattle.proto_expand.specs.declared.whole.Content.{Content}
use Rattle.proto_nodes.specs.Does.{Comes}

-- the nodes of a statement are roots, as in `stand_together`
abbrev pub root_by : Stated → List ℕ → Does (List ℕ)
root_by s roots = s.1.does >>= λ ns. pure (roots ++ ns)

abbrev pub root_does : List Prototype → BodyTree → List ℕ → Does (List ℕ)
root_does ps s roots = root_by (statement ps s) roots

abbrev pub roots_do : List Prototype → List BodyTree → List ℕ → Does (List ℕ)
roots_do ps statements = through root_by (map (statement ps) statements)

-- the first statement was added, and the rest gives the same; or the fault is that of all, or
-- memory ran out
abbrev pub RootsGo : List Prototype → List BodyTree → List ℕ → State → Result ℕ ExpandFault
    → List ℕ → State → Type 0
RootsGo ps statements roots s (Ok looked) more t =
    doing (roots_do ps statements roots) s ≡ doing (roots_do ps (drop 1 statements) more) t
RootsGo ps statements roots s (Err e) more t =
    (e ≡ memory) ⊎ (doing (roots_do ps statements roots) s ≡ Err e)

-- the roots, the routes if they are few, and what was added
abbrev pub all_of : Comes (List ℕ) → Result (List ℕ × List FlatRoute × Put) ExpandFault
all_of o =
    and_see o (λ p. and_see (few (p.1.walk.scope.routes p.1.walk.scope.braces))
    (λ routes. Ok (p.0, routes, p.1.walk.put)))

abbrev pub content_of : List ℕ → List FlatRoute → Put → Content
content_of roots routes put =
    record { nodes = put.nodes; roots = roots; helpers = put.helpers; routes = routes }

-- the content, with its header
abbrev pub with_content : Header → Content → Flat
with_content header c =
    record {
      header = header;
      nodes = c.nodes;
      roots = c.roots;
      helpers = c.helpers;
      routes = c.routes;
    }

abbrev pub with_header : Header → Result Content ExpandFault → Result Flat ExpandFault
with_header header (Ok c) = Ok (with_content header c)
with_header header (Err e) = Err e

abbrev pub content_by :
    Result (List ℕ × List FlatRoute × Put) ExpandFault → Result Content ExpandFault
content_by made = and_see made (λ p. Ok (content_of p.0 p.1 p.2))

abbrev pub content_or : Result Content AllocError → Result Content ExpandFault
content_or (Ok c) = Ok c
content_or (Err e) = Err memory
