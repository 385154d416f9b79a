-- What is over a limit stays over it: an answer given where a limit is passed is the whole's answer.
use Rattle.std.proofs.Common.{◌≡◌, ℕ, ◌+◌, Bool, true, false, not, ◌&&◌, if◌then◌else◌, List, [], ◌∷◌, ◌++◌, Err, refl, ap, sym, arith}
use Rattle.std.specs.Prelude.{nat_lt}
use Rattle.std.specs.List.{list_all, sum_by, fold}
use Rattle.std.proofs.lemmas.Bool.{ltb-true, lt-ltb}
use Rattle.proto_flat.specs.Fault.{fault}
use Rattle.proto_flat.specs.declared.fault.ExpandFaultKind.TheVariants.{TooLarge}
use Rattle.proto_meaning.specs.Limits.{Met, with_few_routes, nodes_met, instances_met, items_met, all_met, has_room, is_within}
use Rattle.proto_meaning.specs.Laws.{LimitsStayPassed}

fold_from : (f : Met → ℕ) (a : ℕ) (ms : List Met) → fold (λ b m. b + f m) a ms ≡ a + sum_by f ms
fold_from f a [] = omega arith
fold_from f a (m ∷ ms) = omega (arith, fold_from f (a + f m) ms, fold_from f (0 + f m) ms)

sum_append : (f : Met → ℕ) (ms ns : List Met) → sum_by f (ms ++ ns) ≡ sum_by f ms + sum_by f ns
sum_append f [] ns = omega arith
sum_append f (m ∷ ms) ns = omega (arith, fold_from f (0 + f m) (ms ++ ns), sum_append f ms ns, fold_from f (0 + f m) ms)

and_later : (a b c d : Bool) → (a ≡ false → b ≡ false) → (c ≡ false → d ≡ false) → a && c ≡ false → b && d ≡ false
and_later false b c d h k e = rw (h refl) refl
and_later true true c d h k e = k e
and_later true false c d h k e = refl

un_not : (b : Bool) → not b ≡ false → b ≡ true
un_not true e = refl
un_not false e = sym e

over : (n a b c : ℕ) → c ≡ a + b → not (nat_lt n a) ≡ false → not (nat_lt n c) ≡ false
over n a b c is e = rw (lt-ltb n c (omega (arith, is, ltb-true n a (un_not (nat_lt n a) e)))) refl

more : (n : ℕ) (f : Met → ℕ) (ms ns : List Met) → not (nat_lt n (sum_by f ms)) ≡ false → not (nat_lt n (sum_by f (ms ++ ns))) ≡ false
more n f ms ns e = over n (sum_by f ms) (sum_by f ns) (sum_by f (ms ++ ns)) (sum_append f ms ns) e

all_append : (ms ns : List Met) → list_all has_room ms ≡ false → list_all has_room (ms ++ ns) ≡ false
all_append [] ns e = ap (λ b. if b then list_all has_room ns else false) e
all_append (m ∷ ms) ns e = and_later (has_room m) (has_room m) (list_all has_room ms) (list_all has_room (ms ++ ns)) (λ h. h) (all_append ms ns) e

-- the tests one by one
abbrev few : ℕ → (Met → ℕ) → List Met → Bool
few n f ms = not (nat_lt n (sum_by f ms))

pub stays_over : (ms ns : List Met) → is_within ms ≡ false → is_within (ms ++ ns) ≡ false
stays_over ms ns e =
    and_later (((few 65536 nodes_met ms && few 8388608 instances_met ms) && few 8388608 items_met ms) && few 4194304 all_met ms)
    (((few 65536 nodes_met (ms ++ ns) && few 8388608 instances_met (ms ++ ns)) && few 8388608 items_met (ms ++ ns)) && few 4194304 all_met (ms ++ ns))
    (list_all has_room ms) (list_all has_room (ms ++ ns))
    (and_later ((few 65536 nodes_met ms && few 8388608 instances_met ms) && few 8388608 items_met ms) ((few 65536 nodes_met (ms ++ ns) && few 8388608 instances_met (ms ++ ns)) && few 8388608 items_met (ms ++ ns)) (few 4194304 all_met ms) (few 4194304 all_met (ms ++ ns))
    (and_later (few 65536 nodes_met ms && few 8388608 instances_met ms) (few 65536 nodes_met (ms ++ ns) && few 8388608 instances_met (ms ++ ns)) (few 8388608 items_met ms) (few 8388608 items_met (ms ++ ns))
    (and_later (few 65536 nodes_met ms) (few 65536 nodes_met (ms ++ ns)) (few 8388608 instances_met ms) (few 8388608 instances_met (ms ++ ns))
    (more 65536 nodes_met ms ns) (more 8388608 instances_met ms ns))
    (more 8388608 items_met ms ns))
    (more 4194304 all_met ms ns))
    (all_append ms ns) e

-- whatever comes behind
pub limits_stay_passed : LimitsStayPassed
limits_stay_passed ms o e = ap (λ b. if b then with_few_routes o.comes else Err (fault TooLarge 0)) (stays_over ms o.met e)
