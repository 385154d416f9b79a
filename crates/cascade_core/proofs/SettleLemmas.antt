-- Settling ends with no script due, and settles no script twice.
use Rattle.std.proofs.Common.{◌≡◌, ℕ, ◌+◌, ◌<◌, ◌≤◌, Bool, true, false, ◌&&◌, ◌||◌, List, [], ◌∷◌, ◌++◌, Option, Some, None, ◌∙◌, sym, zero, suc, refl, arith, length, eqb-true, eq-eqb}
use Rattle.std.specs.Prelude.{◌==◌, not}
use Rattle.std.specs.List.{find, range_with_len}
use Rattle.std.proofs.lemmas.List.Folds.{list_any-append}
use Rattle.std.proofs.lemmas.List.FromFn.{length-range_with_len}
use Rattle.script_host.specs.Behaviour.{Settle}
use Rattle.script_running.specs.Acting.{act}
use Rattle.cascade_core.specs.Stack.{one_unless}
use Rattle.cascade_core.specs.Course.{CourseView, Wiring, node_of, ports_of}
use Rattle.cascade_core.specs.ScriptLaws.{SettlesAll}
use Rattle.script_slots.specs.Settling.{all_differ, is_among, is_due, lowest_due, with_settled}
use Rattle.cascade_core.specs.Settles.{next_due, settle_one, settle_up_to}
use Rattle.cascade_core.proofs.Keeping.{replies-of}

-- ---- numbers among others

among-push : (ks : List ℕ) (k j : ℕ) → is_among (ks ++ k ∷ []) j ≡ (is_among ks j || ((k == j) || false))
among-push ks k j = list_any-append (λ n. n == j) ks (k ∷ [])

both : (x y : Bool) → (x && y) ≡ true → (x ≡ true) × (y ≡ true)
both true true h = (refl, refl)
both true false h = (refl, h)
both false y h = cc

neither : (x y : Bool) → (x || y) ≡ false → (x ≡ false) × (y ≡ false)
neither false false h = (refl, refl)
neither false true h = cc
neither true y h = cc

is-not : (x : Bool) → not x ≡ true → x ≡ false
is-not false h = refl
is-not true h = cc

-- how many of these aren't among the others
abbrev left : List ℕ → List ℕ → ℕ
left [] settled = 0
left (k ∷ ks) settled = one_unless (is_among settled k) + left ks settled

fewer : (a b : Bool) → one_unless (a || b) ≤ one_unless a
fewer true b = omega arith
fewer false true = omega arith
fewer false false = omega arith

left-push : (ks settled : List ℕ) (k : ℕ) → left ks (settled ++ k ∷ []) ≤ left ks settled
left-push [] settled k = omega arith
left-push (j ∷ ks) settled k =
    rw (among-push settled k j) (omega (arith, left-push ks settled k, fewer (is_among settled j) ((k == j) || false)))

self : (k : ℕ) → (k == k) ≡ true
self k = eq-eqb k k refl

left-less : (ks settled : List ℕ) (k : ℕ) → is_among ks k ≡ true → is_among settled k ≡ false → left ks (settled ++ k ∷ []) < left ks settled
left-less [] settled k m h = cc
left-less (j ∷ ks) settled k m h = cases (j == k) refl m (λ n. left-less ks settled k n h)
  where
    cases : (b : Bool) → (j == k) ≡ b → (b || is_among ks k) ≡ true →
        (is_among ks k ≡ true → left ks (settled ++ k ∷ []) < left ks settled) →
        left (j ∷ ks) (settled ++ k ∷ []) < left (j ∷ ks) settled
    cases true is m less =
        let same : j ≡ k = eqb-true j k is in
        rw (same, among-push settled k k, h, self k) (omega (arith, left-push ks settled k))
    cases false is m less =
        rw (among-push settled k j) (omega (arith, less m, fewer (is_among settled j) ((k == j) || false)))

left-le : (ks settled : List ℕ) → left ks settled ≤ length ks
left-le [] settled = omega arith
left-le (k ∷ ks) settled = omega (arith, left-le ks settled, fewer false (is_among settled k))

-- ---- a script that is due

found : (p : ℕ → Bool) (ks : List ℕ) (k : ℕ) → find p ks ≡ Some k → (p k ≡ true) × (is_among ks k ≡ true)
found p [] k h = cc
found p (j ∷ ks) k h = cases (p j) refl (λ e. found p ks k e)
  where
    either : (b : Bool) → (b || true) ≡ true
    either true = refl
    either false = refl

    cases : (b : Bool) → p j ≡ b → (find p ks ≡ Some k → (p k ≡ true) × (is_among ks k ≡ true)) → (p k ≡ true) × (is_among (j ∷ ks) k ≡ true)
    cases true is rest =
        let e : Some j ≡ Some k = rw is at h in
        let same : j ≡ k = cc in
        (rw (sym same) is, rw (same, self k) refl)
    cases false is rest =
        let e : find p ks ≡ Some k = rw is at h in
        let (one, others) = rest e in
        (one, rw others (either (j == k)))

settled-all : (ks received settled : List ℕ) → left ks settled ≤ 0 → find (λ k. is_among received k && not (is_among settled k)) ks ≡ None
settled-all [] received settled h = refl
settled-all (k ∷ ks) received settled h = cases (is_among settled k) refl (λ less. settled-all ks received settled less)
  where
    never : (b : Bool) → (b && not true) ≡ false
    never true = refl
    never false = refl

    cases : (b : Bool) → is_among settled k ≡ b →
        (left ks settled ≤ 0 → find (λ k. is_among received k && not (is_among settled k)) ks ≡ None) →
        find (λ k. is_among received k && not (is_among settled k)) (k ∷ ks) ≡ None
    cases true is rest =
        let e : left (k ∷ ks) settled ≡ 0 + left ks settled = rw is refl in
        rw (is, never (is_among received k)) (rest (omega (arith, h, e)))
    cases false is rest =
        let e : left (k ∷ ks) settled ≡ 1 + left ks settled = rw is refl in
        absurd (omega (arith, h, e))

differ-push : (ks : List ℕ) (k : ℕ) → all_differ ks ≡ true → is_among ks k ≡ false → all_differ (ks ++ k ∷ []) ≡ true
differ-push [] k d h = refl
differ-push (j ∷ ks) k d h =
    let (new, rest) = both (not (is_among ks j)) (all_differ ks) d in
    let (other, none) = neither (j == k) (is_among ks k) h in
    let turned : (k == j) ≡ false = apart (k == j) refl other in
    rw (among-push ks k j, is-not (is_among ks j) new, turned) (differ-push ks k rest none)
  where
    apart : (b : Bool) → (k == j) ≡ b → (j == k) ≡ false → (k == j) ≡ false
    apart false is other = is
    apart true is other =
        let same : k ≡ j = eqb-true k j is in
        let e : (j == k) ≡ true = eq-eqb j k (sym same) in
        cc

-- ---- settling

module _ (wiring : Wiring) where
  abbrev Stands : List ℕ → ℕ → CourseView → Type 0
  Stands settled count c = (c.settling.settled ≡ settled) × (c.settling.count ≡ count)

  one-stands : (c : CourseView) (k : ℕ) → Stands (c.settling.settled ++ k ∷ []) c.settling.count (settle_one wiring c k)
  unfolding settle_one
  one-stands c k =
      let a = act (ports_of wiring k) Settle k c.scripts in
      replies-of wiring (Stands (c.settling.settled ++ k ∷ []) c.settling.count)
      (λ d source v h p. p) (λ d a p. p) (λ d p q. q) (λ d j call p. p)
      (node_of wiring k) (record c { scripts = a.scripts; settling = with_settled c.settling k }) a.replies
      (refl, refl)

  abbrev pub due_left : CourseView → ℕ
  due_left c = left (range_with_len 0 c.settling.count) c.settling.settled

  pub one-due : (c : CourseView) (k : ℕ) → next_due c ≡ Some k → (is_due c.settling k ≡ true) × (is_among (range_with_len 0 c.settling.count) k ≡ true)
  unfolding lowest_due
  one-due c k h = found (is_due c.settling) (range_with_len 0 c.settling.count) k h

  pub one-fewer : (c : CourseView) (k : ℕ) → next_due c ≡ Some k → due_left (settle_one wiring c k) < due_left c
  one-fewer c k h =
      let (due, there) = one-due c k h in
      let (received, unsettled) = both (is_among c.settling.received k) (not (is_among c.settling.settled k)) due in
      let (settled, count) = one-stands c k in
      rw (settled, count)
      (left-less (range_with_len 0 c.settling.count) c.settling.settled k there (is-not (is_among c.settling.settled k) unsettled))

  one-differs : (c : CourseView) (k : ℕ) → next_due c ≡ Some k → all_differ c.settling.settled ≡ true → all_differ (settle_one wiring c k).settling.settled ≡ true
  one-differs c k h d =
      let (due, there) = one-due c k h in
      let (received, unsettled) = both (is_among c.settling.received k) (not (is_among c.settling.settled k)) due in
      rw (one-stands c k).0 (differ-push c.settling.settled k d (is-not (is_among c.settling.settled k) unsettled))

  abbrev Done : CourseView → Type 0
  Done c = (next_due c ≡ None) × (all_differ c.settling.settled ≡ true)

  settle-by : (n : ℕ) → ((c : CourseView) → due_left c ≤ n → all_differ c.settling.settled ≡ true → Done (settle_up_to wiring n c)) →
      (c : CourseView) (due : Option ℕ) → next_due c ≡ due → due_left c ≤ suc n → all_differ c.settling.settled ≡ true → Done (settle_up_to wiring (suc n) c)
  unfolding settle_up_to
  settle-by n rest c None h few d = rw h (h, d)
  settle-by n rest c (Some k) h few d =
      rw h (rest (settle_one wiring c k) (omega (arith, one-fewer c k h, few)) (one-differs c k h d))

  none-due : (c : CourseView) → due_left c ≤ 0 → next_due c ≡ None
  unfolding lowest_due
  none-due c few = settled-all (range_with_len 0 c.settling.count) c.settling.received c.settling.settled few

  settles : (n : ℕ) (c : CourseView) → due_left c ≤ n → all_differ c.settling.settled ≡ true → Done (settle_up_to wiring n c)
  unfolding settle_up_to
  settles zero c few d = (none-due c few, d)
  settles (suc n) c few d = settle-by n (settles n) c (next_due c) refl few d

  -- as many steps as there are scripts left to settle are enough
  settle-by-more : (n m : ℕ) → ((c : CourseView) → due_left c ≤ n → due_left c ≤ m → settle_up_to wiring n c ≡ settle_up_to wiring m c) →
      (c : CourseView) (due : Option ℕ) → next_due c ≡ due → due_left c ≤ suc n → due_left c ≤ suc m → settle_up_to wiring (suc n) c ≡ settle_up_to wiring (suc m) c
  unfolding settle_up_to
  settle-by-more n m same c None h few less = rw h refl
  settle-by-more n m same c (Some k) h few less =
      rw h (same (settle_one wiring c k) (omega (arith, one-fewer c k h, few)) (omega (arith, one-fewer c k h, less)))

  pub settle-end : (n : ℕ) (c : CourseView) → next_due c ≡ None → settle_up_to wiring n c ≡ c
  unfolding settle_up_to
  settle-end zero c h = refl
  settle-end (suc n) c h = rw h refl

  settle-more : (n m : ℕ) (c : CourseView) → due_left c ≤ n → due_left c ≤ m → settle_up_to wiring n c ≡ settle_up_to wiring m c
  settle-more zero m c few less = settle-end zero c (none-due c few) ∙ sym (settle-end m c (none-due c few))
  settle-more (suc n) zero c few less = settle-end (suc n) c (none-due c less) ∙ sym (settle-end zero c (none-due c less))
  settle-more (suc n) (suc m) c few less = settle-by-more n m (settle-more n m) c (next_due c) refl few less

  -- one settles, and then the rest
  pub settle-step : (n : ℕ) (c : CourseView) (k : ℕ) → next_due c ≡ Some k → due_left c ≤ n → settle_up_to wiring n c ≡ settle_up_to wiring n (settle_one wiring c k)
  unfolding settle_up_to
  settle-step zero c k h few = absurd (omega (arith, one-fewer c k h, few))
  settle-step (suc n) c k h few =
      let less : due_left (settle_one wiring c k) ≤ n = omega (arith, one-fewer c k h, few) in
      let first : settle_up_to wiring (suc n) c ≡ settle_up_to wiring n (settle_one wiring c k) = rw h refl in
      first ∙ settle-more n (suc n) (settle_one wiring c k) less (omega (arith, less))

  pub due_left-most : (c : CourseView) → due_left c ≤ c.settling.count
  due_left-most c = omega (arith, left-le (range_with_len 0 c.settling.count) c.settling.settled, length-range_with_len 0 c.settling.count)

  -- a script that is due is one of those that are counted
  among-range : (a n k : ℕ) → is_among (range_with_len a n) k ≡ true → k < a + n
  among-range a zero k h = cc
  among-range a (suc n) k h = cases (a == k) refl h (λ m. among-range (a + 1) n k m)
    where
      cases : (b : Bool) → (a == k) ≡ b → (b || is_among (range_with_len (a + 1) n) k) ≡ true → (is_among (range_with_len (a + 1) n) k ≡ true → k < (a + 1) + n) → k < a + suc n
      cases true is m rest = let same : a ≡ k = eqb-true a k is in omega arith
      cases false is m rest = omega (arith, rest m)

  pub due-below : (c : CourseView) (k : ℕ) → next_due c ≡ Some k → k < c.settling.count
  due-below c k h = omega (arith, among-range 0 c.settling.count k (one-due c k h).1)

pub settles_all : SettlesAll
settles_all wiring c none =
    let ks : List ℕ = range_with_len 0 c.settling.count in
    let few : left ks c.settling.settled ≤ c.settling.count =
    omega (arith, left-le ks c.settling.settled, length-range_with_len 0 c.settling.count) in
    settles wiring c.settling.count c few (rw none refl)
