-- What the tables of names hold, in the terms of the definition.
use Rattle.std.specs.Prelude.{◌≡◌, ℕ, ◌+◌, nat_lt, Bool, false, if◌then◌else◌, List, [], ◌∷◌, Option, None, Some, option_map}
use Rattle.std.specs.Option.{option_or}
use Rattle.std.specs.Str.{bytes_eq}
use Rattle.std.specs.BTreeMap.{get_by}
use Rattle.std.specs.Cmp.Lexicographic.{slice_cmp}
use Rattle.std.specs.Ordering.{nat_cmp}
use Rattle.proto_meaning.specs.Names.{Name, Braces, Stands, has_name, last_from}
use Rattle.proto_parts.specs.declared.names.Closed.{Closed}
use Rattle.proto_parts.specs.declared.names.Names.{Names}

unfoldable pub begun_of : Names → Name → Option ℕ
begun_of names name = get_by (λ k. slice_cmp nat_cmp name k.now) names.begun

unfoldable pub closed_of : Names → Name → Option Closed
closed_of names name = get_by (λ k. slice_cmp nat_cmp name k.now) names.closed

abbrev pub with_entry : {A : Type 0} → Name → A → (Name → Option A) → Name → Option A
with_entry given a entries name = if bytes_eq given name then Some a else entries name

abbrev pub is_later : Option Closed → ℕ → Bool
is_later None at = false
is_later (Some closed) at = nat_lt at closed.at

-- ---- braces of a scope

abbrev pub opened : Option Name → Braces
opened name = record { name = name; stands = None }

abbrev pub closed : Option Name → Stands → Braces
closed name what = record { name = name; stands = Some what }

abbrev pub closed_at : ℕ → Name → Braces → Option Closed
closed_at at name b =
    if has_name name b then option_map (λ s. record { at = at; node = s.node }) b.stands else None

-- the last closed braces of that name; the first of the list has the place `at`
abbrev pub last_closed : ℕ → Name → List Braces → Option Closed
last_closed at name [] = None
last_closed at name (b ∷ bs) = option_or (last_closed (at + 1) name bs) (closed_at at name b)

-- the tables hold the names of these braces
pub record Knows (names : Names) (braces : List Braces) : Type 0 where
  pub begun : (name : Name) → begun_of names name ≡ last_from 0 name braces
  pub closed : (name : Name) → closed_of names name ≡ last_closed 0 name braces
