-- The fields of all nodes by number: different fields have different numbers.
use Rattle.std.proofs.Common.{◌≡◌, ℕ, ◌+◌, ◌-◌, ◌*◌, ◌^◌, ◌<◌, ◌≤◌, false, List, [], ◌∷◌, Some, None, length, take, map, sum, refl, sym, ap, ◌∙◌, subst, arith, ⊎_elim, inl, inr}
use Rattle.std.specs.Prelude.{◌==◌, All, slice_index, if◌then◌else◌}
use Rattle.std.proofs.lemmas.Bool.{cases_eq, cases_lt, cases_order, cond-true, cond-false, eq-eqb, ne_eqb, and_from, and_left, and_right, and_parts, eqb-true, lt-ltb, le-ltb, false_from_ne_true}
use Rattle.std.proofs.lemmas.List.{get_or_past, take-take, take_all}
use Rattle.std.proofs.lemmas.List.Elements.{All-head, All-tail, All-map}
use Rattle.std.proofs.lemmas.List.Sums.{sum_by_more, sum_by-take-le, sum_by-le}
use Rattle.scene_core.specs.declared.scene.End.{End}
use Rattle.scene_core.specs.declared.scene.Route.{Route}
use Rattle.route_core.specs.Outputs.{same_end, places_from, places_of, IsField, AreFirsts, place_in, number_of, IsGroup, AreGrouped}
use Rattle.route_core.specs.Grouped.{places_at, ArePlaces}

node-known : (counts : List ℕ) (e : End) → IsField counts e → e.node < length counts
node-known counts e h = ⊎_elim (λ l. l) (λ l. absurd (omega (arith, get_or_past counts e.node 0 l))) (cases_lt e.node (length counts))

firsts-more : (counts firsts : List ℕ) → AreFirsts counts firsts → (n : ℕ) → n < length counts → slice_index firsts (n + 1) ≡ slice_index firsts n + slice_index counts n
firsts-more counts firsts a n h = omega (arith, a.sums n (omega arith), a.sums (n + 1) (omega arith), sum_by_more (λ (x : ℕ). x) counts n 0 h)

firsts-le : (counts firsts : List ℕ) → AreFirsts counts firsts → (m n : ℕ) → m ≤ n → n ≤ length counts → slice_index firsts m ≤ slice_index firsts n
firsts-le counts firsts a m n h l =
    let part : sum (take m (take n counts)) ≤ sum (take n counts) = sum_by-take-le (λ (x : ℕ). x) (take n counts) m in
    omega (arith, a.sums m (omega arith), a.sums n l, subst (λ (xs : List ℕ). sum xs ≤ sum (take n counts)) (take-take m n counts h) part)

pub place-below : (counts firsts : List ℕ) → AreFirsts counts firsts → (e : End) → IsField counts e → place_in firsts e < slice_index firsts (length counts)
place-below counts firsts a e h =
    let known = node-known counts e h in
    omega (arith, firsts-more counts firsts a e.node known, firsts-le counts firsts a (e.node + 1) (length counts) (omega arith) (omega arith))

pub places-below : (counts firsts : List ℕ) (routes : List Route) → AreFirsts counts firsts → All (λ (r : Route). IsField counts r.source) routes
    → All (λ (k : ℕ). k < slice_index firsts (length counts)) (map (λ (r : Route). place_in firsts r.source) routes)
places-below counts firsts routes a fields =
    All-map (λ (k : ℕ). k < slice_index firsts (length counts)) (λ (r : Route). place_in firsts r.source) routes (λ k d h. place-below counts firsts a _ (fields k d h))

pub last-below : (counts firsts : List ℕ) → AreFirsts counts firsts → All (λ c. c ≤ 65536) counts → length counts ≤ 2 ^ 32 → slice_index firsts (length counts) < 2 ^ 49
last-below counts firsts a small short =
    let bound : sum counts ≤ length counts * 65536 = sum_by-le (λ (x : ℕ). x) 65536 counts small in
    omega (arith, bound, a.sums (length counts) (omega arith), ap sum (take_all (length counts) counts (omega arith)))

gap : (counts firsts : List ℕ) → AreFirsts counts firsts → (n : ℕ) → slice_index firsts (n + 1) - slice_index firsts n ≡ slice_index counts n
gap counts firsts a n = ⊎_elim
    (λ l. omega (arith, firsts-more counts firsts a n l))
    (λ l. omega (arith, get_or_past counts n 0 l, get_or_past firsts (n + 1) 0 (omega (arith, a.one_more))))
    (cases_lt n (length counts))

-- an end with a number is a field
number-field : (counts firsts : List ℕ) → AreFirsts counts firsts → (e : End) (k : ℕ) → number_of firsts e ≡ Some k → IsField counts e × (place_in firsts e ≡ k)
number-field counts firsts a e k is = elim (cases_lt e.field (slice_index firsts (e.node + 1) - slice_index firsts e.node)) [
  | inl l ↦ (omega (arith, l, gap counts firsts a e.node), (cc (sym (cond-true _ (Some (place_in firsts e)) None (lt-ltb _ _ l)))))
  | inr l ↦ absurd (cc (sym (cond-false _ (Some (place_in firsts e)) None (le-ltb _ _ l))))
]

-- an end without one is no field
no_number-field : (counts firsts : List ℕ) → AreFirsts counts firsts → (e : End) → number_of firsts e ≡ None → IsField counts e → ⊥
no_number-field counts firsts a e is h =
    let l : e.field < slice_index firsts (e.node + 1) - slice_index firsts e.node = omega (arith, h, gap counts firsts a e.node) in
    cc (cond-true _ (Some (place_in firsts e)) None (lt-ltb _ _ l))

apart : (counts firsts : List ℕ) → AreFirsts counts firsts → (x y : End) → IsField counts x → IsField counts y → x.node < y.node → place_in firsts x < place_in firsts y
apart counts firsts a x y f g h =
    omega (arith, firsts-more counts firsts a x.node (node-known counts x f), firsts-le counts firsts a (x.node + 1) y.node (omega arith) (omega (arith, node-known counts y g)))

same-place : (counts firsts : List ℕ) → AreFirsts counts firsts → (x y : End) → IsField counts x → IsField counts y → (place_in firsts x == place_in firsts y) ≡ same_end x y
same-place counts firsts a x y f g = ⊎_elim same (⊎_elim less more) (cases_order x.node y.node)
  where
    same : x.node ≡ y.node → (place_in firsts x == place_in firsts y) ≡ same_end x y
    same e =
        let firsts_same : slice_index firsts x.node ≡ slice_index firsts y.node = ap (λ n. slice_index firsts n) e in
        ⊎_elim
        (λ d. eq-eqb _ _ (omega (arith, firsts_same, d)) ∙ sym (and_from _ _ (eq-eqb _ _ e) (eq-eqb _ _ d)))
        (λ d. ne_eqb _ _ (λ p. d (omega (arith, firsts_same, p))) ∙ sym (and_right _ _ (ne_eqb _ _ d)))
        (cases_eq x.field y.field)

    less : x.node < y.node → (place_in firsts x == place_in firsts y) ≡ same_end x y
    less h = ne_eqb _ _ (λ p. absurd (omega (arith, p, apart counts firsts a x y f g h))) ∙ sym (and_left _ _ (ne_eqb _ _ (λ (e : x.node ≡ y.node). absurd (omega (arith, e)))))

    more : y.node < x.node → (place_in firsts x == place_in firsts y) ≡ same_end x y
    more h = ne_eqb _ _ (λ p. absurd (omega (arith, p, apart counts firsts a y x g f h))) ∙ sym (and_left _ _ (ne_eqb _ _ (λ (e : x.node ≡ y.node). absurd (omega (arith, e)))))

other-end : (counts : List ℕ) (x y : End) → IsField counts x → (IsField counts y → ⊥) → same_end x y ≡ false
other-end counts x y f lacks = false_from_ne_true (same_end x y) (λ e.
    let parts = and_parts _ _ e in
    lacks (subst (λ (n : ℕ). n < slice_index counts y.node) (eqb-true _ _ parts.1) (subst (λ (n : ℕ). x.field < slice_index counts n) (eqb-true _ _ parts.0) f)))

-- routes by their source are places by its number
places-at : (counts firsts : List ℕ) → AreFirsts counts firsts → (e : End) → IsField counts e → (n : ℕ) (rs : List Route) → All (λ (r : Route). IsField counts r.source) rs
    → places_at n (place_in firsts e) (map (λ (r : Route). place_in firsts r.source) rs) ≡ places_from n e rs
places-at counts firsts a e f n [] fields = refl
places-at counts firsts a e f n (r ∷ rs) fields =
    let same = same-place counts firsts a r.source e (All-head (λ (q : Route). IsField counts q.source) r rs fields) f in
    let rest = places-at counts firsts a e f (n + 1) rs (All-tail (λ (q : Route). IsField counts q.source) r rs fields) in
    ap (λ b. if b then n ∷ places_at (n + 1) (place_in firsts e) (map (λ (q : Route). place_in firsts q.source) rs) else places_at (n + 1) (place_in firsts e) (map (λ (q : Route). place_in firsts q.source) rs)) same
    ∙ ap (λ l. if same_end r.source e then n ∷ l else l) rest

-- no route has a source that is no field
places-none : (counts : List ℕ) (e : End) → (IsField counts e → ⊥) → (n : ℕ) (rs : List Route) → All (λ (r : Route). IsField counts r.source) rs → places_from n e rs ≡ []
places-none counts e lacks n [] fields = refl
places-none counts e lacks n (r ∷ rs) fields =
    cond-false _ _ _ (other-end counts r.source e (All-head (λ (q : Route). IsField counts q.source) r rs fields) lacks)
    ∙ places-none counts e lacks (n + 1) rs (All-tail (λ (q : Route). IsField counts q.source) r rs fields)

-- the table of the sources' numbers is the table of the routes
pub grouped : (routes : List Route) (counts firsts starts numbers : List ℕ) (count : ℕ) → length routes ≤ 65536 → AreFirsts counts firsts
    → All (λ (r : Route). IsField counts r.source) routes → count ≡ slice_index firsts (length counts)
    → ArePlaces (map (λ (r : Route). place_in firsts r.source) routes) starts numbers count → AreGrouped routes firsts starts numbers
grouped routes counts firsts starts numbers count few a fields is p = record {
  few = few;
  outside = λ e none. places-none counts e (no_number-field counts firsts a e none) 0 routes fields;
  inside = λ e k some.
      let parts = number-field counts firsts a e k some in
      let known : k < count = omega (arith, parts.1, is, place-below counts firsts a e parts.0) in
      let same : places_at 0 k (map (λ (r : Route). place_in firsts r.source) routes) ≡ places_of e routes =
      ap (λ m. places_at 0 m (map (λ (r : Route). place_in firsts r.source) routes)) (sym parts.1) ∙ places-at counts firsts a e parts.0 0 routes fields in
      subst (λ (g : List ℕ). IsGroup starts numbers k g) same (p.each k known);
}
