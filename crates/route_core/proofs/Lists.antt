-- Lists of routes that may have a fault.
use Rattle.std.proofs.Common.{◌≡◌, List, [], ◌∷◌, ◌++◌, Result, Ok, Err, refl, sym, ap}
use Rattle.std.proofs.lemmas.List.{append_assoc}
use Rattle.scene_core.specs.declared.scene.Route.{Route}
use Rattle.route_core.specs.Resolved.{before_others}
use Rattle.route_core.specs.declared.fault.RouteFault.{RouteFault}

-- the others stand behind these routes
abbrev pub behind : List Route → Result (List Route) RouteFault → Result (List Route) RouteFault
behind routes (Err fault) = Err fault
behind routes (Ok others) = Ok (routes ++ others)

pub behind_none : (others : Result (List Route) RouteFault) → behind [] others ≡ others
behind_none (Err fault) = refl
behind_none (Ok routes) = refl

pub behind_one : (routes : List Route) (r : Route) (others : Result (List Route) RouteFault)
    → behind routes (before_others (Ok r) others) ≡ behind (routes ++ r ∷ []) others
behind_one routes r (Err fault) = refl
behind_one routes r (Ok others) = ap (λ l. Ok l) (sym (append_assoc routes (r ∷ []) others))
