-- Routes without repeats have none.
use Rattle.std.proofs.Common.{◌≡◌, Bool, true, false, List, [], ◌∷◌, ◌++◌, if◌then◌else◌, refl, sym, ap, ◌∙◌}
use Rattle.std.specs.List.{fold, list_any}
use Rattle.std.proofs.lemmas.List.{append-nil, append_assoc}
use Rattle.scene_core.specs.declared.scene.Route.{Route}
use Rattle.route_core.specs.Resolved.{added, firsts, same_route}

-- behind those before, each of these is new
abbrev AreNew : List Route → List Route → Type 0
AreNew before [] = Unit {0}
AreNew before (x ∷ xs) = (list_any (same_route x) before ≡ false) × AreNew (before ++ x ∷ []) xs

all_added : (before xs : List Route) → AreNew before xs → fold added before xs ≡ before ++ xs
all_added before [] h = sym (append-nil before)
all_added before (x ∷ xs) h =
    ap (λ (b : Bool). fold added (if b then before else before ++ x ∷ []) xs) h.0
    ∙ (all_added (before ++ x ∷ []) xs h.1 ∙ append_assoc before (x ∷ []) xs)

new_push : (before xs : List Route) (x : Route) → AreNew before xs → list_any (same_route x) (before ++ xs) ≡ false → AreNew before (xs ++ x ∷ [])
new_push before [] x h e = (ap (list_any (same_route x)) (sym (append-nil before)) ∙ e, tt)
new_push before (y ∷ xs) x h e = (h.0, new_push (before ++ y ∷ []) xs x h.1 (ap (list_any (same_route x)) (append_assoc before (y ∷ []) xs) ∙ e))

new_added : (xs made : List Route) → AreNew [] made → AreNew [] (fold added made xs)
new_added [] made h = h
new_added (x ∷ xs) made h = new_added xs (added made x) (by_seen (list_any (same_route x) made) refl) where
  by_seen : (b : Bool) → list_any (same_route x) made ≡ b → AreNew [] (if b then made else made ++ x ∷ [])
  by_seen true e = h
  by_seen false e = new_push [] made x h e

pub no_repeats : (xs : List Route) → firsts (firsts xs) ≡ firsts xs
no_repeats xs = all_added [] (firsts xs) (new_added xs [] tt)
