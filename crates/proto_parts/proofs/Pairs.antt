-- How many routes there are between ends.
use Rattle.std.proofs.Common.{◌≡◌, ℕ, ◌*◌, ◌-◌, ◌≤◌, ◌<◌, Bool, true, false, true≢false, not, if◌then◌else◌, List, [], ◌∷◌, ◌++◌, length, map, length-append, Result, Ok, Err, None, ◌⊎◌, inl, inr, refl, ap, sym, ◌∙◌, arith}
use Rattle.std.specs.Prelude.{nat_lt}
use Rattle.std.specs.Borrow.{Bor}
use Rattle.std.proofs.Math.Nat.{suc-mul, zero-mul}
use Rattle.std.proofs.lemmas.Bool.{not-true, not-false, ltb-true, ltb-false, lt-ltb, le-ltb}
use Rattle.std.proofs.lemmas.List.{append-nil}
use Rattle.std.proofs.lemmas.List.Sums.{fold-append}
use Rattle.std.proofs.lemmas.Nat.{mul-le}
use Rattle.proto_flat.specs.Fault.{fault, memory}
use Rattle.proto_flat.specs.declared.fault.ExpandFault.{ExpandFault}
use Rattle.proto_flat.specs.declared.fault.ExpandFaultKind.TheVariants.{TooLarge}
use Rattle.proto_flat.specs.declared.flat.FlatEnd.{FlatEnd}
use Rattle.proto_flat.specs.declared.flat.FlatRoute.{FlatRoute}
use Rattle.proto_meaning.specs.Names.{pairs}
use Rattle.proto_parts.specs.declared.ends.End.{End}
use Rattle.proto_parts.specs.declared.ends.Ends.{Ends}
use Rattle.proto_parts.specs.declared.ends.Ends.TheVariants.{One, Both'}
use Rattle.proto_parts.specs.declared.routes.Wire.{Wire}
use Rattle.proto_parts.specs.Ends.{end, list, waiting, few}
use Rattle.proto_parts.specs.Routes.{ends_at, routes_of_wire, routes_from, routes_between}

-- ---- few or many

pub many : {X : Type 0} (xs : List X) → 65536 < length xs → few xs ≡ Err (fault TooLarge 0)
many xs h = rw (lt-ltb 65536 (length xs) h) refl

pub some : {X : Type 0} (xs : List X) → length xs ≤ 65536 → few xs ≡ Ok xs
some xs h = rw (le-ltb 65536 (length xs) h) refl

abbrev fault_in : {X : Type 0} → ExpandFault → Result X ExpandFault → ExpandFault
fault_in f (Ok x) = f
fault_in f (Err e) = e

abbrev is_good : {X : Type 0} → Result X ExpandFault → Bool
is_good (Ok x) = true
is_good (Err e) = false

abbrev by_length : {X : Type 0} → Bool → List X → Result (List X) ExpandFault
by_length many xs = if many then Err (fault TooLarge 0) else Ok xs

too-long-by : {X Y : Type 0} (b : Bool) (xs : List X) (ys : List Y) (e : ExpandFault) → nat_lt 65536 (length xs) ≡ b → length xs ≤ length ys → by_length b xs ≡ Err e → few ys ≡ Err e
too-long-by true xs ys e over h is = many ys (omega (arith, h, ltb-true 65536 (length xs) over)) ∙ ap (λ f. Err f) (ap (fault_in (fault TooLarge 0)) is)
too-long-by false xs ys e under h is = absurd (true≢false (ap is_good is))

-- what is no shorter than what is too long is too long
pub too-long : {X Y : Type 0} (xs : List X) (ys : List Y) (e : ExpandFault) → length xs ≤ length ys → few xs ≡ Err e → few ys ≡ Err e
too-long xs ys e h is = too-long-by (nat_lt 65536 (length xs)) xs ys e refl h is

abbrev list_in : {X : Type 0} → List X → Result (List X) ExpandFault → List X
list_in d (Ok xs) = xs
list_in d (Err e) = d

good-by : {X : Type 0} (b : Bool) (xs ys : List X) → nat_lt 65536 (length xs) ≡ b → by_length b xs ≡ Ok ys → (xs ≡ ys) × (length xs ≤ 65536)
good-by true xs ys over is = absurd (true≢false (sym (ap is_good is)))
good-by false xs ys under is = (ap (list_in xs) is, ltb-false 65536 (length xs) under)

-- what is few is itself
pub good : {X : Type 0} (xs ys : List X) → few xs ≡ Ok ys → (xs ≡ ys) × (length xs ≤ 65536)
good xs ys is = good-by (nat_lt 65536 (length xs)) xs ys refl is

-- ---- ends

pub is-some : (s : Ends) → 1 ≤ length (list s)
is-some (One item) = omega arith
is-some (Both' p first q second) = omega (arith, length-append (list first) (list second), is-some first, is-some second)

pub waiting-snoc : (left : List (Bor Ends)) (s : Bor Ends) → waiting (left ++ s ∷ []) ≡ list s.now ++ waiting left
waiting-snoc left s = fold-append (λ behind (x : Bor Ends). list x.now ++ behind) [] left (s ∷ [])

-- ---- routes between ends

length-from : (line : ℕ) (ts : List End) (s : End) → length (routes_from line ts s) ≡ length ts
length-from line [] s = refl
length-from line (t ∷ ts) s = omega (arith, length-from line ts s)

pub length-between : (line : ℕ) (ss ts : List End) → length (routes_between line ss ts) ≡ length ss * length ts
length-between line [] ts = omega (arith, zero-mul (length ts))
length-between line (s ∷ ss) ts =
    omega (arith, suc-mul (length ss) (length ts), length-between line ss ts, length-from line ts s, length-append (routes_from line ts s) (routes_between line ss ts))

from-is : (line : ℕ) (ts : List End) (s : End) → routes_from line ts s ≡ map (λ t. record { line = line; source = end s; target = t }) (map end ts)
from-is line [] s = refl
from-is line (t ∷ ts) s = ap (λ rs. record { line = line; source = end s; target = end t } ∷ rs) (from-is line ts s)

-- between the ends that are kept, and between those that are meant
pub between-is : (line : ℕ) (ss ts : List End) → routes_between line ss ts ≡ pairs line (map end ss) (map end ts)
between-is line [] ts = refl
between-is line (s ∷ ss) ts =
    ap (λ rs. rs ++ routes_between line ss ts) (from-is line ts s)
    ∙ ap (λ rs. map (λ t. record { line = line; source = end s; target = t }) (map end ts) ++ rs) (between-is line ss ts)

-- between ends that stand at both sides there are as many routes at least as ends at one
pub source-count : (line : ℕ) (s t : Ends) → length (list s) ≤ length (routes_between line (list s) (list t))
source-count line s t =
    omega (arith, length-between line (list s) (list t), mul-le (length (list s)) 1 (length (list s)) (length (list t)) (omega arith) (is-some t))

pub target-count : (line : ℕ) (s t : Ends) → length (list t) ≤ length (routes_between line (list s) (list t))
target-count line s t =
    omega (arith, length-between line (list s) (list t), mul-le 1 (length (list t)) (length (list s)) (length (list t)) (is-some s) (omega arith))

-- ---- what is pushed

-- no room for so many pairs
pub no-room : (line r s t : ℕ) (routes : List FlatRoute) (ss ts : List End) → r ≡ length routes → s ≡ length ss → t ≡ length ts → length routes ≤ 65536 → not (nat_lt (65536 - r) (s * t)) ≡ false →
    few (routes ++ routes_between line ss ts) ≡ Err (fault TooLarge 0)
no-room line r s t routes ss ts ir is it few-before none =
    let product : s * t ≡ length ss * length ts = ap (λ n. n * t) is ∙ ap (λ n. length ss * n) it in
    many (routes ++ routes_between line ss ts)
    (omega (arith, ltb-true (65536 - r) (s * t) (not-false _ none), product, ir, few-before, length-between line ss ts, length-append routes (routes_between line ss ts)))

-- room for them all
pub room : (line r s t : ℕ) (routes : List FlatRoute) (ss ts : List End) → r ≡ length routes → s ≡ length ss → t ≡ length ts → length routes ≤ 65536 → not (nat_lt (65536 - r) (s * t)) ≡ true →
    few (routes ++ routes_between line ss ts) ≡ Ok (routes ++ routes_between line ss ts)
room line r s t routes ss ts ir is it few-before enough =
    let product : s * t ≡ length ss * length ts = ap (λ n. n * t) is ∙ ap (λ n. length ss * n) it in
    some (routes ++ routes_between line ss ts)
    (omega (arith, ltb-false (65536 - r) (s * t) (not-true _ enough), product, ir, few-before, length-between line ss ts, length-append routes (routes_between line ss ts)))

-- a list behind others is no longer than all
pub behind-too-long : {X Y : Type 0} (xs : List X) (ys zs : List Y) (e : ExpandFault) → length xs ≤ length zs → few xs ≡ Err e → few (ys ++ zs) ≡ Err e
behind-too-long xs ys zs e h is = too-long xs (ys ++ zs) e (omega (arith, h, length-append ys zs)) is

-- ends at one side that are too many are so of the whole
pub too-many : {X Y : Type 0} (xs : List X) (ys zs : List Y) (e : ExpandFault) → length xs ≤ length zs → (e ≡ memory) ⊎ (few xs ≡ Err e) → (e ≡ memory) ⊎ (few (ys ++ zs) ≡ Err e)
too-many xs ys zs e h (inl m) = inl m
too-many xs ys zs e h (inr is) = inr (behind-too-long xs ys zs e h is)

no-targets : (line : ℕ) (ss : List FlatEnd) → pairs line ss [] ≡ []
no-targets line [] = refl
no-targets line (s ∷ ss) = no-targets line ss

pub none-pushed : (routes more : List FlatRoute) → more ≡ [] → length routes ≤ 65536 → few (routes ++ more) ≡ Ok routes
none-pushed routes more none h = ap (λ rs. few (routes ++ rs)) none ∙ ap few (append-nil routes) ∙ some routes h

pub without-source : (w : Wire) → w.source ≡ None → routes_of_wire w ≡ []
without-source w none = ap (λ s. pairs w.line (ends_at s) (ends_at w.target)) none

pub without-target : (w : Wire) → w.target ≡ None → routes_of_wire w ≡ []
without-target w none = ap (λ t. pairs w.line (ends_at w.source) (ends_at t)) none ∙ no-targets w.line (ends_at w.source)

-- a ROUTE with ends at both sides
pub wire-is : (w : Wire) (source target : Ends) → ends_at w.source ≡ map end (list source) → ends_at w.target ≡ map end (list target) → routes_of_wire w ≡ routes_between w.line (list source) (list target)
wire-is w source target s t =
    ap (λ es. pairs w.line es (ends_at w.target)) s ∙ ap (λ es. pairs w.line (map end (list source)) es) t ∙ sym (between-is w.line (list source) (list target))
