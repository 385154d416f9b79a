-- Limits one thing after the other, and parts one after the other.
use Rattle.std.proofs.Common.{◌≡◌, ℕ, ◌+◌, ◌-◌, Bool, true, false, not, ◌&&◌, if◌then◌else◌, List, [], ◌∷◌, ◌++◌, Result, Ok, Err, refl, ap, sym, ◌∙◌, arith}
use Rattle.std.specs.Prelude.{nat_lt}
use Rattle.std.specs.List.{list_all, sum_by, fold}
use Rattle.std.proofs.lemmas.Bool.{ltb-true, ltb-false, lt-ltb, le-ltb}
use Rattle.proto_flat.specs.declared.fault.ExpandFault.{ExpandFault}
use Rattle.proto_flat.specs.declared.flat.Flat.{Flat}
use Rattle.proto_meaning.specs.Limits.{Met, Outcome, follow, and_then, with_few_routes, nodes_met, instances_met, items_met, all_met, has_room}
use Rattle.proto_meaning.specs.Sight.{and_see}
use Rattle.proto_meaning.specs.Flat.{meet}
use Rattle.proto_parts.specs.declared.room.Room.{Room}
use Rattle.proto_parts.specs.Settled.{full, too_large, spend, spend_all, beside, settle, State, onward, doing}
use Rattle.proto_parts.specs.LimitLaws.{LimitsAreSettled, PartsSettleInTurn}

-- ---- answers one after the other

pub see-assoc : {X Y Z E : Type 0} (r : Result X E) (f : X → Result Y E) (g : Y → Result Z E) → and_see (and_see r f) g ≡ and_see r (λ x. and_see (f x) g)
see-assoc (Ok x) f g = refl
see-assoc (Err e) f g = refl

pub see-congr : {X Y E : Type 0} (r : Result X E) (f g : X → Result Y E) → ((x : X) → f x ≡ g x) → and_see r f ≡ and_see r g
see-congr (Ok x) f g same = same x
see-congr (Err e) f g same = refl

-- ---- parts one after the other

spend-append : (ms ns : List Met) (r : Room) → spend_all (ms ++ ns) r ≡ and_see (spend_all ms r) (spend_all ns)
spend-append [] ns r = refl
spend-append (m ∷ ms) ns r =
    see-congr (spend m r) (spend_all (ms ++ ns)) (λ l. and_see (spend_all ms l) (spend_all ns)) (λ l. spend-append ms ns l)
    ∙ sym (see-assoc (spend m r) (spend_all ms) (spend_all ns))

settle-follow : {A B : Type 0} (met : List Met) (c : Result A ExpandFault) (f : A → Outcome B) (r : Room) →
    settle (follow met c f) r ≡ and_see (and_see (spend_all met r) (λ left. and_see c (beside left))) (λ p. settle (f p.0) p.1)
settle-follow met (Ok a) f r =
    ap (λ x. and_see x (λ left. and_see (f a).comes (beside left))) (spend-append met (f a).met r)
    ∙ see-assoc (spend_all met r) (spend_all (f a).met) (λ left. and_see (f a).comes (beside left))
    ∙ sym (see-assoc (spend_all met r) (λ left. beside left a) (λ p. settle (f p.0) p.1))
settle-follow met (Err e) f r = sym (see-assoc (spend_all met r) (λ left. Err e) (λ p. settle (f p.0) p.1))

pub settle-then : {A B : Type 0} (o : Outcome A) (f : A → Outcome B) (r : Room) → settle (and_then o f) r ≡ and_see (settle o r) (λ p. settle (f p.0) p.1)
settle-then o f r = settle-follow o.met o.comes f r

pub parts_settle_in_turn : {A B : Type 0} → PartsSettleInTurn A B
parts_settle_in_turn m f s =
    ap (λ x. and_see x onward) (settle-then (m s.walk) (λ p. f p.0 p.1) s.room)
    ∙ see-assoc (settle (m s.walk) s.room) (λ p. settle (f p.0.0 p.0.1) p.1) onward
    ∙ sym (see-assoc (settle (m s.walk) s.room) onward (λ p. doing (f p.0) p.1))

meet-by : (r : Result Room ExpandFault) (s : State) →
    and_see (and_see (and_see r (spend_all [])) (λ left. beside left (tt {0}, s.walk))) onward ≡ and_see r (λ left. Ok (tt, record s { room = left }))
meet-by (Ok left) s = refl
meet-by (Err e) s = refl

-- what is met takes its room, and nothing else
pub doing-meet : (m : Met) (s : State) → doing (meet m) s ≡ and_see (spend m s.room) (λ left. Ok (tt, record s { room = left }))
doing-meet m s = meet-by (spend m s.room) s

-- ---- limits at once, and one thing after the other

fold_from : (f : Met → ℕ) (a : ℕ) (ms : List Met) → fold (λ b m. b + f m) a ms ≡ a + sum_by f ms
fold_from f a [] = omega arith
fold_from f a (m ∷ ms) = omega (arith, fold_from f (a + f m) ms, fold_from f (0 + f m) ms)

sum_first : (f : Met → ℕ) (m : Met) (ms : List Met) → sum_by f (m ∷ ms) ≡ f m + sum_by f ms
sum_first f m ms = omega (arith, fold_from f (0 + f m) ms)

abbrev few : ℕ → ℕ → Bool
few room n = not (nat_lt room n)

split-by : (a x y z : ℕ) (b c : Bool) → z ≡ x + y → nat_lt a x ≡ b → nat_lt (a - x) y ≡ c → few a z ≡ few a x && few (a - x) y
split-by a x y z true c is e f = rw (e, lt-ltb a z (omega (arith, is, ltb-true a x e))) refl
split-by a x y z false true is e f = rw (e, f, lt-ltb a z (omega (arith, is, ltb-false a x e, ltb-true (a - x) y f))) refl
split-by a x y z false false is e f = rw (e, f, le-ltb a z (omega (arith, is, ltb-false a x e, ltb-false (a - x) y f))) refl

-- there is room for both where there is for the first, and then for the other
split : (a x y z : ℕ) → z ≡ x + y → few a z ≡ few a x && few (a - x) y
split a x y z is = split-by a x y z (nat_lt a x) (nat_lt (a - x) y) is refl refl

abbrev within : Room → List Met → Bool
within r ms =
    few r.nodes (sum_by nodes_met ms) && few r.instances (sum_by instances_met ms) && few r.items (sum_by items_met ms) && few r.all (sum_by all_met ms) && list_all has_room ms

and-false : (b : Bool) → b && false ≡ false
and-false true = refl
and-false false = refl

-- what is asked of the first and then of the rest is asked of all at once
at-once : {X : Type 0} (h p1 p2 p3 p4 q1 q2 q3 q4 t : Bool) (l : Room) (f : Room → Result X ExpandFault) (x : Result X ExpandFault) →
    f l ≡ (if q1 && q2 && q3 && q4 && t then x else too_large) →
    and_see (if h then (if p1 && p2 then (if p3 && p4 then Ok l else too_large) else too_large) else too_large) f ≡ (if (p1 && q1) && (p2 && q2) && (p3 && q3) && (p4 && q4) && (h && t) then x else too_large)
at-once false p1 p2 p3 p4 q1 q2 q3 q4 t l f x is = rw (and-false ((p1 && q1) && (p2 && q2) && (p3 && q3) && (p4 && q4))) refl
at-once true false p2 p3 p4 q1 q2 q3 q4 t l f x is = refl
at-once true true false p3 p4 q1 q2 q3 q4 t l f x is = rw (and-false q1) refl
at-once true true true false p4 q1 q2 q3 q4 t l f x is = rw (and-false (q1 && q2)) refl
at-once true true true true false q1 q2 q3 q4 t l f x is = rw (and-false (q1 && q2 && q3)) refl
at-once true true true true true q1 q2 q3 q4 t l f x is = is

abbrev either : {X : Type 0} → Result X ExpandFault → Bool → Result X ExpandFault
either x b = if b then x else too_large

five : {X : Type 0} (x : Result X ExpandFault) (a a' b b' c c' d d' e : Bool) → a ≡ a' → b ≡ b' → c ≡ c' → d ≡ d' → either x (a' && b' && c' && d' && e) ≡ either x (a && b && c && d && e)
five x a a' b b' c c' d d' e p q r s =
    sym (ap (λ v. either x (v && b && c && d && e)) p ∙ ap (λ v. either x (a' && v && c && d && e)) q
    ∙ ap (λ v. either x (a' && b' && v && d && e)) r ∙ ap (λ v. either x (a' && b' && c' && v && e)) s)

first-met : {X : Type 0} (m : Met) (ms : List Met) (r : Room) (x : Result X ExpandFault) → and_see (spend m r) (λ l. either x (within l ms)) ≡ either x (within r (m ∷ ms))
first-met m ms r x =
    at-once (has_room m) (few r.nodes (nodes_met m)) (few r.instances (instances_met m)) (few r.items (items_met m)) (few r.all 1)
    (few (r.nodes - nodes_met m) (sum_by nodes_met ms)) (few (r.instances - instances_met m) (sum_by instances_met ms))
    (few (r.items - items_met m) (sum_by items_met ms)) (few (r.all - 1) (sum_by all_met ms)) (list_all has_room ms)
    (record { nodes = r.nodes - nodes_met m; instances = r.instances - instances_met m; items = r.items - items_met m; all = r.all - 1 })
    (λ l. either x (within l ms)) x refl
    ∙ five x (few r.nodes (sum_by nodes_met (m ∷ ms))) _ (few r.instances (sum_by instances_met (m ∷ ms))) _ (few r.items (sum_by items_met (m ∷ ms))) _ (few r.all (sum_by all_met (m ∷ ms))) _ (has_room m && list_all has_room ms)
    (split r.nodes (nodes_met m) (sum_by nodes_met ms) (sum_by nodes_met (m ∷ ms)) (sum_first nodes_met m ms))
    (split r.instances (instances_met m) (sum_by instances_met ms) (sum_by instances_met (m ∷ ms)) (sum_first instances_met m ms))
    (split r.items (items_met m) (sum_by items_met ms) (sum_by items_met (m ∷ ms)) (sum_first items_met m ms))
    (split r.all 1 (sum_by all_met ms) (sum_by all_met (m ∷ ms)) (sum_first all_met m ms))

none-met : {X : Type 0} (r : Room) (x : Result X ExpandFault) → x ≡ either x (within r [])
none-met r x = rw (le-ltb r.nodes 0 (omega arith), le-ltb r.instances 0 (omega arith), le-ltb r.items 0 (omega arith), le-ltb r.all 0 (omega arith)) refl

all-met : {X : Type 0} (ms : List Met) (r : Room) (x : Result X ExpandFault) → and_see (spend_all ms r) (λ left. x) ≡ either x (within r ms)
all-met [] r x = none-met r x
all-met (m ∷ ms) r x =
    see-assoc (spend m r) (spend_all ms) (λ left. x)
    ∙ see-congr (spend m r) (λ l. and_see (spend_all ms l) (λ left. x)) (λ l. either x (within l ms)) (λ l. all-met ms l x)
    ∙ first-met m ms r x

routed : (c : Result Flat ExpandFault) (left : Room) → and_see (and_see c (beside left)) (λ p. with_few_routes (Ok p.0)) ≡ with_few_routes c
routed (Ok f) left = refl
routed (Err e) left = refl

pub limits_are_settled : LimitsAreSettled
limits_are_settled o =
    sym (see-assoc (spend_all o.met full) (λ left. and_see o.comes (beside left)) (λ p. with_few_routes (Ok p.0))
    ∙ see-congr (spend_all o.met full) (λ left. and_see (and_see o.comes (beside left)) (λ p. with_few_routes (Ok p.0))) (λ left. with_few_routes o.comes) (λ left. routed o.comes left)
    ∙ all-met o.met full (with_few_routes o.comes))
