-- A bit that is set is that of the output that was added.
use Rattle.std.proofs.Common.{◌≡◌, ℕ, ◌≤◌, get_or, drop, ◌+◌, ◌-◌, ◌<◌, ◌⊎◌, inl, inr, Bool, true, false, ◌||◌, List, [], ◌∷◌, ◌++◌, ◌∙◌, ap, sym, refl, arith, eq-eqb, length, set, Option, Some, None, length-set, length-append}
use Rattle.std.specs.Prelude.{slice_get, nat_lt, if◌then◌else◌, All}
use Rattle.std.proofs.lemmas.List.Folds.{list_any-append}
use Rattle.std.proofs.lemmas.Bool.{cases_eq, cases_lt}
use Rattle.std.proofs.lemmas.Option.{slice_get-get_or, slice_get_within, get_or_from_slice_get}
use Rattle.std.proofs.lemmas.List.{drop_more, drop_all, get_or-set_same, get_or-set_other, get_or_append_left, get_or-append_right}
use borrow.Author.Tests.{ltb-true}
use Rattle.scene_core.specs.declared.scene.End.{End}
use Rattle.cascade_trace.specs.Ends.{has_sent, same_end}
use Rattle.cascade_trace.specs.Bits.{IsRising, IsTable, IsMarked, MarksOnly, place_in, place_of}
use Rattle.cascade_trace.proofs.SameEnds.{same_end-is, same_end-self}

or_true : (a : Bool) → (a || true) ≡ true
or_true true = refl
or_true false = refl

or_false : (a : Bool) → (a || false) ≡ a
or_false true = refl
or_false false = refl

differ : (a b : End) → (a ≡ b → ⊥) → same_end a b ≡ false
differ a b n = cases (same_end a b) refl
  where
    cases : (t : Bool) → same_end a b ≡ t → same_end a b ≡ false
    cases false e = e
    cases true e = absurd (n (same_end-is a b e))

set_same : {X : Type 0} (xs : List X) (i : ℕ) (x : X) → i < length xs → slice_get (set xs i x) i ≡ Some x
set_same xs i x h = rw (slice_get-get_or (set xs i x) i x (omega (arith, length-set xs i x)), get_or-set_same xs i x x h) refl

set_other : {X : Type 0} (xs : List X) (i j : ℕ) (x : X) → (j ≡ i → ⊥) → j < length xs → slice_get (set xs i x) j ≡ slice_get xs j
set_other xs i j x n h =
    rw (slice_get-get_or (set xs i x) j x (omega (arith, length-set xs i x)), get_or-set_other xs i j x x n, ← slice_get-get_or xs j x h) refl

-- ---- starts

-- one more start, behind all bits
pub rising-push : (starts : List ℕ) (count : ℕ) → IsRising starts count → IsRising (starts ++ count ∷ []) count
rising-push starts count r = record { rising = ordered; within = inside }
  where
    at_end : (i : ℕ) → i < length starts + 1 → length starts ≤ i → get_or (starts ++ count ∷ []) i 0 ≡ count
    at_end i h k = let e : i ≡ length starts = omega arith in rw (e, get_or-append_right starts (count ∷ []) (length starts) (length starts) 0 refl (omega arith)) (let z : length starts - length starts ≡ 0 = omega arith in rw z refl)

    cases : (i : ℕ) → (i < length starts) ⊎ (length starts ≤ i)
    cases i = cases_lt i (length starts)

    inside : (i : ℕ) → i < length (starts ++ count ∷ []) → get_or (starts ++ count ∷ []) i 0 ≤ count
    inside i h = go (cases i)
      where
        go : ((i < length starts) ⊎ (length starts ≤ i)) → get_or (starts ++ count ∷ []) i 0 ≤ count
        go (inl k) = rw (get_or_append_left starts (count ∷ []) 0 i k) (r.within i k)
        go (inr k) = omega (arith, at_end i (omega (arith, h, length-append starts (count ∷ []))) k)

    ordered : (i j : ℕ) → i ≤ j → j < length (starts ++ count ∷ []) → get_or (starts ++ count ∷ []) i 0 ≤ get_or (starts ++ count ∷ []) j 0
    ordered i j le h = go (cases i) (cases j)
      where
        last : j < length starts + 1
        last = omega (arith, h, length-append starts (count ∷ []))

        go : ((i < length starts) ⊎ (length starts ≤ i)) → ((j < length starts) ⊎ (length starts ≤ j)) → get_or (starts ++ count ∷ []) i 0 ≤ get_or (starts ++ count ∷ []) j 0
        go (inl k) (inl m) = rw (get_or_append_left starts (count ∷ []) 0 i k, get_or_append_left starts (count ∷ []) 0 j m) (r.rising i j le m)
        go (inl k) (inr m) = rw (get_or_append_left starts (count ∷ []) 0 i k, at_end j last m) (r.within i k)
        go (inr k) m = omega (arith, at_end i (omega (arith, last)) k, at_end j last (omega arith))

-- more bits
pub rising-more : (starts : List ℕ) (count more : ℕ) → count ≤ more → IsRising starts count → IsRising starts more
rising-more starts count more h r = record { rising = r.rising; within = λ i k. omega (arith, r.within i k) }

-- ---- places

-- what it means that an end has this place
record IsAt (starts : List ℕ) (e : End) (p : ℕ) : Type 0 where
  start : get_or starts e.node 0 ≤ p
  is : p ≡ get_or starts e.node 0 + e.field
  next : p < get_or starts (e.node + 1) 0
  inside : e.node + 1 < length starts

place-at : (starts : List ℕ) (e : End) (p : ℕ) → place_of starts e ≡ Some p → IsAt starts e p
unfolding place_of
place-at starts e p h = found (slice_get starts e.node) (slice_get starts (e.node + 1)) refl refl h
  where
    tested : (s n : ℕ) → slice_get starts e.node ≡ Some s → slice_get starts (e.node + 1) ≡ Some n → (b : Bool) → nat_lt e.field (n - s) ≡ b → (if b then Some (s + e.field) else None) ≡ Some p → IsAt starts e p
    tested s n a c true t h =
        let same : s + e.field ≡ p = cc in
        let less : e.field < n - s = ltb-true e.field (n - s) t in
        let first : get_or starts e.node 0 ≡ s = get_or_from_slice_get starts e.node s 0 a in
        let second : get_or starts (e.node + 1) 0 ≡ n = get_or_from_slice_get starts (e.node + 1) n 0 c in
        record { start = omega arith; is = omega arith; next = omega arith; inside = slice_get_within starts (e.node + 1) n c }
    tested s n a c false t h = cc

    found : (s n : Option ℕ) → slice_get starts e.node ≡ s → slice_get starts (e.node + 1) ≡ n → place_in e.field s n ≡ Some p → IsAt starts e p
    found (Some s) (Some n) a c h = tested s n a c (nat_lt e.field (n - s)) refl h
    found (Some s) None a c h = cc
    found None n a c h = cc

-- a place is one of a bit
pub place-within : (starts : List ℕ) (count : ℕ) → IsRising starts count → (e : End) (p : ℕ) → place_of starts e ≡ Some p → p < count
place-within starts count r e p h = let a = place-at starts e p h in omega (arith, a.next, r.within (e.node + 1) a.inside)

-- a place is that of one end
place-one : (starts : List ℕ) (count : ℕ) → IsRising starts count → (a b : End) (p : ℕ) → place_of starts a ≡ Some p → place_of starts b ≡ Some p → a ≡ b
place-one starts count r a b p h k = go (cases_eq a.node b.node)
  where
    x : IsAt starts a p
    x = place-at starts a p h

    y : IsAt starts b p
    y = place-at starts b p k

    made : ℕ → ℕ → End
    made node field = record { node = node; field = field }

    go : ((a.node ≡ b.node) ⊎ (a.node ≡ b.node → ⊥)) → a ≡ b
    go (inl e) =
        let first : get_or starts a.node 0 ≡ get_or starts b.node 0 = ap (λ (n : ℕ). get_or starts n 0) e in
        let field : a.field ≡ b.field = omega (arith, x.is, y.is) in
        same_end-is a b (rw (eq-eqb a.node b.node e, eq-eqb a.field b.field field) refl)
    go (inr n) = absurd (apart (cases_lt a.node b.node))
      where
        apart : ((a.node < b.node) ⊎ (b.node ≤ a.node)) → ⊥
        apart (inl l) = let o = r.rising (a.node + 1) b.node (omega arith) (omega (arith, y.inside)) in omega (arith, o, x.next, y.start)
        apart (inr l) = let o = r.rising (b.node + 1) a.node (omega arith) (omega (arith, x.inside)) in omega (arith, o, y.next, x.start)

-- ---- bits

other-end : (ends : List End) (source e : End) → (source ≡ e → ⊥) → has_sent (ends ++ source ∷ []) e ≡ has_sent ends e
other-end ends source e n =
    list_any-append (λ y. same_end y e) ends (source ∷ []) ∙ rw (differ source e n) (or_false (has_sent ends e))

-- an output is added that has a place
pub marked-push : (starts : List ℕ) (bits : List Bool) (ends : List End) (source : End) (p : ℕ) → IsTable starts bits ends → place_of starts source ≡ Some p →
    IsTable starts (set bits p true) (ends ++ source ∷ [])
marked-push starts bits ends source p t h = record { places = rw (length-set bits p true) t.places; marked = λ e q k. cases e q k (cases_eq q p) }
  where
    within : (e : End) (q : ℕ) → place_of starts e ≡ Some q → q < length bits
    within e q k = place-within starts (length bits) t.places e q k

    cases : (e : End) (q : ℕ) → place_of starts e ≡ Some q → ((q ≡ p) ⊎ (q ≡ p → ⊥)) → slice_get (set bits p true) q ≡ Some (has_sent (ends ++ source ∷ []) e)
    cases e q k (inl same) =
        let one : e ≡ source = place-one starts (length bits) t.places e source p (k ∙ ap Some same) h in
        rw (same, one, set_same bits p true (within source p h), list_any-append (λ y. same_end y source) ends (source ∷ []), same_end-self source, or_true (has_sent ends source)) refl
    cases e q k (inr n) =
        let apart : source ≡ e → ⊥ = λ same. n (let there : Some q ≡ Some p = sym k ∙ ap (place_of starts) (sym same) ∙ h in cc) in
        set_other bits p q true n (within e q k) ∙ t.marked e q k ∙ ap Some (sym (other-end ends source e apart))

-- an output is added that has none
pub unplaced-push : (starts : List ℕ) (bits : List Bool) (ends : List End) (source : End) → IsTable starts bits ends → place_of starts source ≡ None →
    IsTable starts bits (ends ++ source ∷ [])
unplaced-push starts bits ends source t h = record { places = t.places; marked = λ e q k. found e q k }
  where
    found : (e : End) (q : ℕ) → place_of starts e ≡ Some q → slice_get bits q ≡ Some (has_sent (ends ++ source ∷ []) e)
    found e q k =
        let apart : source ≡ e → ⊥ = λ same. (let there : None ≡ Some q = sym h ∙ ap (place_of starts) same ∙ k in cc) in
        t.marked e q k ∙ ap Some (sym (other-end ends source e apart))

-- the bit of an output
pub marked-get : (starts : List ℕ) (bits : List Bool) (ends : List End) (source : End) (p : ℕ) (d : Bool) → IsTable starts bits ends → place_of starts source ≡ Some p →
    get_or bits p d ≡ has_sent ends source
marked-get starts bits ends source p d t h = get_or_from_slice_get bits p (has_sent ends source) d (t.marked source p h)

rest_of : (e : End) (es : List End) (x : End) → has_sent (e ∷ es) x ≡ true → (same_end e x ≡ true → ⊥) → has_sent es x ≡ true
rest_of e es x h n = cases (same_end e x) refl h
  where
    cases : (t : Bool) → same_end e x ≡ t → (t || has_sent es x) ≡ true → has_sent es x ≡ true
    cases true is h = absurd (n is)
    cases false is h = h

-- all that is marked is among these at the start
pub unmark-first : (starts : List ℕ) (bits : List Bool) (ends : List End) → IsMarked starts bits ends → MarksOnly starts bits (drop 0 ends)
unmark-first starts bits ends m e p h is = let same : Some true ≡ Some (has_sent ends e) = sym is ∙ m e p h in cc

-- an output that has no place
pub unmark-none : (starts : List ℕ) (bits : List Bool) (ends : List End) (i : ℕ) (d : End) → i < length ends → MarksOnly starts bits (drop i ends) →
    place_of starts (get_or ends i d) ≡ None → MarksOnly starts bits (drop (i + 1) ends)
unmark-none starts bits ends i d h marks none e p k is =
    rest_of (get_or ends i d) (drop (i + 1) ends) e (rw (drop_more ends i d h) at (marks e p k is))
    (λ same. let one : get_or ends i d ≡ e = same_end-is (get_or ends i d) e same in let there : None ≡ Some p = sym none ∙ ap (place_of starts) one ∙ k in cc)

-- an output whose bit is cleared
pub unmark-one : (starts : List ℕ) (bits : List Bool) (ends : List End) (i : ℕ) (d : End) (q : ℕ) → i < length ends → MarksOnly starts bits (drop i ends) →
    place_of starts (get_or ends i d) ≡ Some q → q < length bits → MarksOnly starts (set bits q false) (drop (i + 1) ends)
unmark-one starts bits ends i d q h marks found within e p k is = cases (cases_eq p q)
  where
    cases : ((p ≡ q) ⊎ (p ≡ q → ⊥)) → has_sent (drop (i + 1) ends) e ≡ true
    cases (inl same) =
        let cleared : slice_get (set bits q false) p ≡ Some false = rw same (set_same bits q false within) in
        let no : Some true ≡ Some false = sym is ∙ cleared in
        cc
    cases (inr n) =
        let below : p < length bits = omega (arith, slice_get_within (set bits q false) p true is, length-set bits q false) in
        let before : slice_get bits p ≡ Some true = sym (set_other bits q p false n below) ∙ is in
        rest_of (get_or ends i d) (drop (i + 1) ends) e (rw (drop_more ends i d h) at (marks e p k before))
        (λ same. let one : get_or ends i d ≡ e = same_end-is (get_or ends i d) e same in
        let there : Some q ≡ Some p = sym found ∙ ap (place_of starts) one ∙ k in
        let both : p ≡ q = cc in
        n both)

-- where nothing is marked, each bit is false
pub unmarked : (starts : List ℕ) (bits : List Bool) (ends : List End) (i : ℕ) → IsRising starts (length bits) → length ends ≤ i → MarksOnly starts bits (drop i ends) → IsMarked starts bits []
unmarked starts bits ends i rising h marks e p k = cases (get_or bits p false) (slice_get-get_or bits p false (place-within starts (length bits) rising e p k))
  where
    cases : (t : Bool) → slice_get bits p ≡ Some t → slice_get bits p ≡ Some false
    cases false is = is
    cases true is =
        let sent : has_sent [] e ≡ true = rw (drop_all i ends h) at (marks e p k is) in
        cc

-- bits of which none is set
pub unset-marked : (starts : List ℕ) (bits : List Bool) → IsRising starts (length bits) → All (λ (bit : Bool). bit ≡ false) bits → IsTable starts bits []
unset-marked starts bits rising unset = record { places = rising; marked = λ e p k. found e p (place-within starts (length bits) rising e p k) }
  where
    found : (e : End) (p : ℕ) → p < length bits → slice_get bits p ≡ Some false
    found e p h = slice_get-get_or bits p false h ∙ ap Some (unset p false h)
