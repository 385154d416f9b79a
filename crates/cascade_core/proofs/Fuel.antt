-- How many outputs have not sent.
use Rattle.std.proofs.Common.{◌≡◌, ℕ, ◌+◌, ◌<◌, ◌≤◌, Bool, true, false, ◌||◌, List, [], ◌∷◌, ◌++◌, refl, arith, length}
use Rattle.std.proofs.lemmas.List.Folds.{list_any-append}
use Rattle.std.proofs.Common.{length-append}
use Rattle.std.proofs.lemmas.List.{length-map}
use Rattle.std.proofs.lemmas.List.Sums.{sum_by-cons}
use Rattle.cascade_trace.proofs.SameEnds.{same_end-is, same_end-self}
use Rattle.cascade_trace.specs.Ends.{has_sent, same_end}
use Rattle.cascade_core.specs.Outputs.{ends_from, outputs_of}
use Rattle.cascade_core.specs.Stack.{one_unless, unsent_among, unsent}
use Rattle.scene_core.specs.declared.scene.End.{End}
use Rattle.scene_core.specs.Shape.{Shape}
use Rattle.cascade_world.specs.declared.world.Live.{Live}

has_sent-push : (sent : List End) (e o : End) → has_sent (sent ++ e ∷ []) o ≡ (has_sent sent o || (same_end e o || false))
has_sent-push sent e o = list_any-append (λ x. same_end x o) sent (e ∷ [])

fewer : (a b : Bool) → one_unless (a || b) ≤ one_unless a
fewer true b = omega arith
fewer false true = omega arith
fewer false false = omega arith

-- one more that has sent
pub unsent-push : (os sent : List End) (e : End) → unsent_among os (sent ++ e ∷ []) ≤ unsent_among os sent
unfolding unsent_among
unsent-push [] sent e = omega arith
unsent-push (o ∷ os) sent e =
    rw (has_sent-push sent e o) (omega (arith, unsent-push os sent e, fewer (has_sent sent o) (same_end e o || false)))

-- one of them, that had not
pub unsent-less : (os sent : List End) (e : End) → has_sent os e ≡ true → has_sent sent e ≡ false → unsent_among os (sent ++ e ∷ []) < unsent_among os sent
unfolding unsent_among
unsent-less [] sent e m h = cc
unsent-less (o ∷ os) sent e m h = cases (same_end o e) refl m (λ k. unsent-less os sent e k h)
  where
    cases : (b : Bool) → same_end o e ≡ b → (b || has_sent os e) ≡ true →
        (has_sent os e ≡ true → unsent_among os (sent ++ e ∷ []) < unsent_among os sent) →
        unsent_among (o ∷ os) (sent ++ e ∷ []) < unsent_among (o ∷ os) sent
    cases true is m less =
        let same : o ≡ e = same_end-is o e is in
        rw (same, has_sent-push sent e e, h, same_end-self e) (omega (arith, unsent-push os sent e))
    cases false is m less =
        rw (has_sent-push sent e o) (omega (arith, less m, fewer (has_sent sent o) (same_end e o || false)))

unsent-le : (os sent : List End) → unsent_among os sent ≤ length os
unfolding unsent_among
unsent-le [] sent = omega arith
unsent-le (o ∷ os) sent = omega (arith, unsent-le os sent, fewer false (has_sent sent o))

length-ends_from : (n : ℕ) (shapes : List Shape) → length (ends_from n shapes) ≡ outputs_of shapes
unfolding ends_from
length-ends_from n [] = refl
length-ends_from n (kind ∷ shapes) =
    rw (length-append, length-map, sum_by-cons, length-ends_from (n + 1) shapes) refl

pub unsent-bound : (shapes : List Shape) (live : Live) → unsent shapes live ≤ outputs_of shapes
unsent-bound shapes live = omega (arith, unsent-le (ends_from 0 shapes) live.sent, length-ends_from 0 shapes)
