-- What ends a TimeSensor, and who lets go of a TouchSensor.
use Rattle.std.proofs.Common.{◌≡◌, ◌∙◌, sym, refl, subst, ℕ, ◌==◌, Bool, false, not, ◌&&◌, is_some, is_none, Option, Some, None, if◌then◌else◌}
use Rattle.std.proofs.lemmas.Bool.{and_right, cond-true, cond-false}
use Rattle.std.specs.Option.{option_map_or}
use Rattle.sensor_core.specs.declared.touch.Pointed.{Pointed}
use Rattle.sensor_core.specs.Ticks.{EndWinsOverStop, is_over, is_stopped, end_of, last_place}
use Rattle.sensor_core.specs.Touches.{OneReleases}

pub end_wins : EndWinsOverStop
unfolding last_place
end_wins timing cycle t over =
    cond-true (is_over timing cycle t) (Some (end_of timing cycle)) (if is_stopped timing t then Some t else None) over

-- somebody presses, and another's pointer moves
stays : (begins inside up : Bool) (who other : ℕ) → (who == other) ≡ false
    → (if begins && (inside && false) then Some other else (if up && (who == other) then None else Some who)) ≡ Some who
stays begins inside up who other differ =
    cond-false (begins && (inside && false)) (Some other) (if up && (who == other) then None else Some who) (and_right begins (inside && false) (and_right inside false refl))
    ∙ cond-false (up && (who == other)) None (Some who) (and_right up (who == other) differ)

abbrev after : Pointed → Option ℕ → Option ℕ
after pointed presser =
    if (pointed.down && not pointed.before) && (is_some pointed.inside && is_none presser) then Some pointed.who
    else (if not pointed.down && option_map_or (λ p. p == pointed.who) presser false then None else presser)

pub one_releases : OneReleases
one_releases touch pointed who pressed differ =
    subst (λ presser. after pointed presser ≡ Some who) (sym pressed)
    (stays (pointed.down && not pointed.before) (is_some pointed.inside) (not pointed.down) who pointed.who differ)
