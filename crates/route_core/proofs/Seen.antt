-- A set of routes grows by a route.
use Rattle.std.proofs.Common.{◌≡◌, ℕ, Bool, true, false, ◌&&◌, ◌||◌, List, [], ◌∷◌, ◌++◌, ◌∙◌, sym, refl, arith, cond}
use Rattle.std.specs.Prelude.{◌==◌}
use Rattle.std.specs.List.{list_any}
use Rattle.std.specs.BTreeMap.{is_at}
use Rattle.std.specs.BTreeSet.{BTreeSet, contains}
use Rattle.std.specs.Cmp.{both_tied}
use Rattle.std.specs.Ordering.{is_eq, nat_cmp, ordering_then}
use Rattle.std.proofs.lemmas.Bool.Decides.{nat_tests}
use Rattle.std.proofs.lemmas.List.Folds.{list_any-append}
use Rattle.scene_core.specs.declared.scene.Route.{Route}
use Rattle.route_core.specs.Firsts.{same_route}
use Rattle.route_core.specs.Seen.{Holds, Key, key_cmp, key_of}

numbers : (a b : ℕ) → (b == a) ≡ is_eq (nat_cmp a b)
numbers a b = grind (arith, nat_tests)

grouped : (a b c d : Bool) → (((a && b) && c) && d) ≡ ((a && b) && (c && d))
grouped true true c d = refl
grouped true false c d = refl
grouped false b c d = refl

-- the keys of two routes are at one place where they are the same route
at_same : (r q : Route) → same_route q r ≡ is_at (key_cmp (key_of r)) (key_of q)
at_same r q =
    sym (grouped (q.source.node == r.source.node) (q.source.field == r.source.field) (q.target.node == r.target.node) (q.target.field == r.target.field))
    ∙ both_tied _ _ (ordering_then (ordering_then (nat_cmp r.source.node q.source.node) (nat_cmp r.source.field q.source.field)) (nat_cmp r.target.node q.target.node)) (nat_cmp r.target.field q.target.field)
    (both_tied _ _ (ordering_then (nat_cmp r.source.node q.source.node) (nat_cmp r.source.field q.source.field)) (nat_cmp r.target.node q.target.node)
    (both_tied _ _ (nat_cmp r.source.node q.source.node) (nat_cmp r.source.field q.source.field) (numbers r.source.node q.source.node) (numbers r.source.field q.source.field))
    (numbers r.target.node q.target.node))
    (numbers r.target.field q.target.field)

either : (one all : Bool) → cond one true all ≡ (all || (one || false))
either true true = refl
either true false = refl
either false true = refl
either false false = refl

pub grown : (seen after : BTreeSet Key) (kept : List Route) (r : Route) → Holds seen kept →
    ((q : Key) → contains key_cmp after q ≡ cond (is_at (key_cmp (key_of r)) q) true (contains key_cmp seen q)) →
    Holds after (kept ++ r ∷ [])
grown seen after kept r holds updates q =
    updates (key_of q)
    ∙ (rw (sym (at_same r q), holds q) refl)
    ∙ either (same_route q r) (list_any (same_route q) kept)
    ∙ sym (list_any-append (same_route q) kept (r ∷ []))
