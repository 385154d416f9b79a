-- Routes by their outputs.
use Rattle.std.specs.Prelude.{◌≡◌, ℕ, ◌+◌, ◌-◌, ◌<◌, ◌≤◌, List, [], ◌∷◌, Option, Some, None, if◌then◌else◌, nat_lt, length, sum, take, slice_index, slice_range}
use Rattle.x3d_values.specs.Ranges.{max_routes}
use Rattle.scene_core.specs.declared.scene.End.{End}
use Rattle.scene_core.specs.declared.scene.Route.{Route}
pub use Rattle.route_core.specs.Firsts.{same_end}

-- the places of the routes with that source, where the first of these routes has place n
abbrev pub places_from : ℕ → End → List Route → List ℕ
places_from n source [] = []
places_from n source (r ∷ rs) =
    if same_end r.source source
    then n ∷ places_from (n + 1) source rs
    else places_from (n + 1) source rs

abbrev pub places_of : End → List Route → List ℕ
places_of source routes = places_from 0 source routes

-- ---- outputs by number: the fields of the first node, then those of the next

-- the node has that field; `counts` has the number of fields of each node
abbrev pub IsField : List ℕ → End → Type 0
IsField counts e = e.field < slice_index counts e.node

-- the number of each node's first field, followed by the number of all fields
pub record AreFirsts (counts firsts : List ℕ) : Type 0 where
  pub one_more : length firsts ≡ length counts + 1
  pub sums : (n : ℕ) → n ≤ length counts → slice_index firsts n ≡ sum (take n counts)

-- the number of an end among the fields of all nodes
abbrev pub place_in : List ℕ → End → ℕ
place_in firsts e = slice_index firsts e.node + e.field

-- like `place_in`, if the node has that field
abbrev pub number_of : List ℕ → End → Option ℕ
number_of firsts e =
    if nat_lt e.field (slice_index firsts (e.node + 1) - slice_index firsts e.node)
    then Some (place_in firsts e)
    else None

-- ---- the table

-- the part of the table from one start to the next
abbrev pub part_at : List ℕ → List ℕ → ℕ → List ℕ
part_at starts numbers k = slice_range numbers (slice_index starts k) (slice_index starts (k + 1))

-- this part of the table holds the group
pub record IsGroup (starts numbers : List ℕ) (k : ℕ) (group : List ℕ) : Type 0 where
  pub started : k + 1 < length starts
  pub rising : slice_index starts k ≤ slice_index starts (k + 1)
  pub within : slice_index starts (k + 1) ≤ length numbers
  pub holds : part_at starts numbers k ≡ group

-- the table holds the numbers of each output's routes; no route has any other source
pub record AreGrouped (routes : List Route) (firsts starts numbers : List ℕ) : Type 0 where
  pub few : length routes ≤ max_routes
  pub outside : (e : End) → number_of firsts e ≡ None → places_of e routes ≡ []
  pub inside : (e : End) (k : ℕ) → number_of firsts e ≡ Some k
      → IsGroup starts numbers k (places_of e routes)
