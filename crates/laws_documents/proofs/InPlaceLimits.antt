-- What is within the limits stays so without its instances.
use Rattle.std.proofs.Common.{◌≡◌, ℕ, ◌+◌, ◌≤◌, Bool, true, false, not, ◌&&◌, nat_lt, List, [], ◌∷◌, refl, ap, sym, ◌∙◌, arith}
use Rattle.std.specs.List.{list_all, sum_by, fold}
use Rattle.std.proofs.lemmas.Bool.{ltb-true, lt-ltb}
use Rattle.proto_meaning.specs.Limits.{Met, ANode, AnInstance, AField, AnItem, nodes_met, instances_met, items_met, all_met, has_room, is_within}
use Rattle.laws_documents.proofs.InPlaceWalks.{less}
use Rattle.laws_documents.proofs.InPlaceParts.{both_true}

sum_from : (f : Met → ℕ) (a : ℕ) (ms : List Met) → fold (λ b m. b + f m) a ms ≡ a + sum_by f ms
sum_from f a [] = omega arith
sum_from f a (m ∷ ms) = omega (arith, sum_from f (a + f m) ms, sum_from f (0 + f m) ms)

sum_cons : (f : Met → ℕ) (m : Met) (ms : List Met) → sum_by f (m ∷ ms) ≡ f m + sum_by f ms
sum_cons f m ms = omega (arith, sum_from f (0 + f m) ms)

sum_less : (f : Met → ℕ) (ms : List Met) → sum_by f (less ms) ≤ sum_by f ms
sum_less f [] = omega arith
sum_less f (AnInstance ∷ ms) = omega (arith, sum_less f ms, sum_cons f AnInstance ms)
sum_less f (ANode ∷ ms) = omega (arith, sum_less f ms, sum_cons f ANode ms, sum_cons f ANode (less ms))
sum_less f (AField number items ∷ ms) = omega (arith, sum_less f ms, sum_cons f (AField number items) ms, sum_cons f (AField number items) (less ms))
sum_less f (AnItem ∷ ms) = omega (arith, sum_less f ms, sum_cons f AnItem ms, sum_cons f AnItem (less ms))

room_less : (ms : List Met) → list_all has_room ms ≡ true → list_all has_room (less ms) ≡ true
room_less [] e = refl
room_less (AnInstance ∷ ms) e = room_less ms e
room_less (ANode ∷ ms) e = room_less ms e
room_less (AnItem ∷ ms) e = room_less ms e
room_less (AField number items ∷ ms) e =
    let both = both_true (nat_lt number 65536) (list_all has_room ms) e in
    ap (λ b. b && list_all has_room (less ms)) both.0 ∙ room_less ms both.1

few : (n a c : ℕ) → c ≤ a → not (nat_lt n a) ≡ true → not (nat_lt n c) ≡ true
few n a c h e = on (nat_lt n c) refl where
  on : (b : Bool) → nat_lt n c ≡ b → not b ≡ true
  on false is = refl
  on true is = sym (ap not (lt-ltb n a (omega (arith, h, ltb-true n c is)))) ∙ e

all_five : (a b c d e p q r s t : Bool) → (a ≡ true → p ≡ true) → (b ≡ true → q ≡ true) → (c ≡ true → r ≡ true) → (d ≡ true → s ≡ true) → (e ≡ true → t ≡ true)
    → (a && b && c && d && e) ≡ true → (p && q && r && s && t) ≡ true
all_five a b c d e p q r s t f g h i j k =
    let one = both_true (a && b && c && d) e k in
    let two = both_true (a && b && c) d one.0 in
    let three = both_true (a && b) c two.0 in
    let four = both_true a b three.0 in
    ap (λ x. x && q && r && s && t) (f four.0) ∙ ap (λ x. x && r && s && t) (g four.1) ∙ ap (λ x. x && s && t) (h three.1) ∙ ap (λ x. x && t) (i two.1) ∙ j one.1

pub less_within : (ms : List Met) → is_within ms ≡ true → is_within (less ms) ≡ true
less_within ms e =
    all_five (not (nat_lt 65536 (sum_by nodes_met ms))) (not (nat_lt 8388608 (sum_by instances_met ms))) (not (nat_lt 8388608 (sum_by items_met ms))) (not (nat_lt 4194304 (sum_by all_met ms))) (list_all has_room ms)
    (not (nat_lt 65536 (sum_by nodes_met (less ms)))) (not (nat_lt 8388608 (sum_by instances_met (less ms)))) (not (nat_lt 8388608 (sum_by items_met (less ms)))) (not (nat_lt 4194304 (sum_by all_met (less ms)))) (list_all has_room (less ms))
    (few 65536 (sum_by nodes_met ms) (sum_by nodes_met (less ms)) (sum_less nodes_met ms))
    (few 8388608 (sum_by instances_met ms) (sum_by instances_met (less ms)) (sum_less instances_met ms))
    (few 8388608 (sum_by items_met ms) (sum_by items_met (less ms)) (sum_less items_met ms))
    (few 4194304 (sum_by all_met ms) (sum_by all_met (less ms)) (sum_less all_met ms))
    (room_less ms) e
