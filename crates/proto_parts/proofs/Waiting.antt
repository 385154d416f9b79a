-- ROUTEs that wait.
use Rattle.std.proofs.Common.{◌≡◌, ◌⊎◌, ◌≤◌, ◌∙◌, List, [], ◌∷◌, ◌++◌, length, append_assoc, Result, Ok, Err, inl, inr, ap, sym, subst, arith, length-append}
use Rattle.std.specs.Borrow.{Bor}
use Rattle.std.proofs.lemmas.List.{append-nil}
use Rattle.std.proofs.lemmas.List.Sums.{fold-append}
use Rattle.x3d_lists.specs.Answers.{Gives}
use Rattle.proto_flat.specs.Fault.{memory}
use Rattle.proto_flat.specs.declared.fault.ExpandFault.{ExpandFault}
use Rattle.proto_flat.specs.declared.flat.FlatRoute.{FlatRoute}
use Rattle.proto_parts.specs.declared.routes.Wire.{Wire}
use Rattle.proto_parts.specs.declared.wires.Wires.{Wires}
use Rattle.proto_parts.specs.Ends.{few}
use Rattle.proto_parts.specs.Routes.{routes_of_wire}
use Rattle.proto_parts.specs.Wires.{wires, wires_waiting, means, StepsOn}
use Rattle.proto_parts.proofs.Pairs.{too-long, good, some}

pub wires-snoc : (left : List (Bor Wires)) (w : Bor Wires) → wires_waiting (left ++ w ∷ []) ≡ wires w.now ++ wires_waiting left
wires-snoc left w = fold-append (λ behind (x : Bor Wires). wires x.now ++ behind) [] left (w ∷ [])

-- a ROUTE that comes next
pub one-next : (front : List FlatRoute) (w : Wire) (ws : List Wire) → front ++ means (w ∷ ws) ≡ (front ++ routes_of_wire w) ++ means ws
one-next front w ws = sym (append_assoc front (routes_of_wire w) (means ws))

-- the routes of a ROUTE that are too many are so with all behind them
pub too-many-with : (front : List FlatRoute) (w : Wire) (ws : List Wire) (e : ExpandFault) → few (front ++ routes_of_wire w) ≡ Err e → few (front ++ means (w ∷ ws)) ≡ Err e
too-many-with front w ws e is =
    ap few (one-next front w ws)
    ∙ too-long (front ++ routes_of_wire w) ((front ++ routes_of_wire w) ++ means ws) e (omega (arith, length-append (front ++ routes_of_wire w) (means ws))) is

-- a ROUTE whose routes are made
pub one-step : (routes : List FlatRoute) (w : Wire) (ws : List Wire) (r : Result (List FlatRoute) ExpandFault) → Gives memory (λ rs. rs) r (few (routes ++ routes_of_wire w)) → StepsOn routes (w ∷ ws) r ws
one-step routes w ws (Ok made) is =
    let g = good (routes ++ routes_of_wire w) made is in
    (ap few (one-next routes w ws) ∙ ap (λ rs. few (rs ++ means ws)) g.0, subst (λ (rs : List FlatRoute). length rs ≤ 65536) g.0 g.1)
one-step routes w ws (Err e) (inl m) = inl m
one-step routes w ws (Err e) (inr is) = inr (too-many-with routes w ws e is)

-- two parts that wait in the place of both
pub both-wait : (routes : List FlatRoute) (p q ws after : List Wire) → after ≡ p ++ (q ++ ws) → few (routes ++ means ((p ++ q) ++ ws)) ≡ few (routes ++ means after)
both-wait routes p q ws after is = ap (λ xs. few (routes ++ means xs)) (append_assoc p q ws ∙ sym is)

pub both-pushed : (before mid after : List (Bor Wires)) (first second : Bor Wires) → mid ≡ before ++ second ∷ [] → after ≡ mid ++ first ∷ [] → wires_waiting after ≡ wires first.now ++ (wires second.now ++ wires_waiting before)
both-pushed before mid after first second is then_is =
    ap wires_waiting then_is ∙ wires-snoc mid first ∙ ap (λ left. wires first.now ++ wires_waiting left) is ∙ ap (λ ws. wires first.now ++ ws) (wires-snoc before second)

-- a step of what waits is one of all
pub step-of-all : (all : List FlatRoute) (routes : List FlatRoute) (left rest : List (Bor Wires)) (next : Bor Wires) (made : List FlatRoute) (after : List Wire) → few all ≡ few (routes ++ means (wires_waiting left)) → left ≡ rest ++ next ∷ [] →
    StepsOn routes (wires next.now ++ wires_waiting rest) (Ok made) after → (few all ≡ few (made ++ means after)) × (length made ≤ 65536)
step-of-all all routes left rest next made after so is step = (so ∙ ap (λ ws. few (routes ++ means ws)) (ap wires_waiting is ∙ wires-snoc rest next) ∙ step.0, step.1)

pub refused-of-all : (all : List FlatRoute) (routes : List FlatRoute) (left rest : List (Bor Wires)) (next : Bor Wires) (e : ExpandFault) (after : List Wire) → few all ≡ few (routes ++ means (wires_waiting left)) → left ≡ rest ++ next ∷ [] →
    StepsOn routes (wires next.now ++ wires_waiting rest) (Err e) after → (e ≡ memory) ⊎ (few all ≡ Err e)
refused-of-all all routes left rest next e after so is (inl m) = inl m
refused-of-all all routes left rest next e after so is (inr step) = inr (so ∙ ap (λ ws. few (routes ++ means ws)) (ap wires_waiting is ∙ wires-snoc rest next) ∙ step)

-- nothing waits
pub none-waits : (all routes : List FlatRoute) (left : List (Bor Wires)) → few all ≡ few (routes ++ means (wires_waiting left)) → left ≡ [] → length routes ≤ 65536 → few all ≡ Ok routes
none-waits all routes left so none h = so ∙ ap (λ l. few (routes ++ means (wires_waiting l))) none ∙ ap few (append-nil routes) ∙ some routes h
