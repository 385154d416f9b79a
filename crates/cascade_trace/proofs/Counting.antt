-- How many routes were followed.
use Rattle.std.proofs.Common.{◌≡◌, ℕ, ◌+◌, ◌<◌, ◌≤◌, Bool, true, false, not, ◌&&◌, ◌||◌, List, [], ◌∷◌, ◌++◌, ◌∙◌, ap, refl, arith, length, take, get_or, cond, zero, suc}
use Rattle.std.specs.Prelude.{count_by}
use Rattle.std.proofs.lemmas.List.{take_more}
use Rattle.std.proofs.lemmas.List.Folds.{list_any-append}
use Rattle.std.proofs.lemmas.List.Sums.{count_by-le-length, sum_by-cons}
use Rattle.scene_core.specs.declared.scene.End.{End}
use Rattle.scene_core.specs.declared.scene.Route.{Route}
use Rattle.cascade_trace.specs.Ends.{all_differ, has_sent, same_end}
use Rattle.cascade_trace.proofs.SameEnds.{same_end-is, same_end-self}

-- how many of the routes start at one of these
abbrev pub followed : List Route → List End → ℕ
followed routes sent = count_by (λ (r : Route). has_sent sent r.source) routes

or_false : (a : Bool) → (a || false) ≡ a
or_false true = refl
or_false false = refl

split : (a b : Bool) → (not a && b) ≡ true → (a ≡ false) × (b ≡ true)
split true b h = cc
split false b h = (refl, h)

neither : (a b : Bool) → (a || b) ≡ false → (a ≡ false) × (b ≡ false)
neither true b h = cc
neither false b h = (refl, h)

-- the test goes both ways
other_way : (a b : End) → same_end a b ≡ false → same_end b a ≡ false
other_way a b h = cases (same_end b a) refl
  where
    cases : (t : Bool) → same_end b a ≡ t → same_end b a ≡ false
    cases false e = e
    cases true e =
        let same : b ≡ a = same_end-is b a e in
        let no : same_end a b ≡ true = rw same (same_end-self a) in
        cc

one-more : (sent : List End) (e x : End) → has_sent sent e ≡ false →
    cond (has_sent (sent ++ e ∷ []) x) 1 0 ≡ cond (has_sent sent x) 1 0 + cond (same_end x e) 1 0
one-more sent e x h = cases (same_end x e) refl
  where
    cases : (t : Bool) → same_end x e ≡ t → cond (has_sent (sent ++ e ∷ []) x) 1 0 ≡ cond (has_sent sent x) 1 0 + cond t 1 0
    cases true is =
        let same : x ≡ e = same_end-is x e is in
        rw (same, list_any-append (λ y. same_end y e) sent (e ∷ []), h, same_end-self e) refl
    cases false is =
        rw (list_any-append (λ y. same_end y x) sent (e ∷ []), other_way x e is, or_false (has_sent sent x)) (omega arith)

-- one more output is followed
pub followed-push : (routes : List Route) (sent : List End) (e : End) → has_sent sent e ≡ false →
    followed routes (sent ++ e ∷ []) ≡ followed routes sent + count_by (λ (r : Route). same_end r.source e) routes
followed-push [] sent e h = refl
followed-push (r ∷ rs) sent e h =
    omega (
      arith,
      sum_by-cons (λ (r : Route). cond (has_sent (sent ++ e ∷ []) r.source) 1 0) r rs,
      sum_by-cons (λ (r : Route). cond (has_sent sent r.source) 1 0) r rs,
      sum_by-cons (λ (r : Route). cond (same_end r.source e) 1 0) r rs,
      one-more sent e r.source h,
      followed-push rs sent e h,
    )

apart : (es : List End) (e : End) (i : ℕ) (d : End) → has_sent es e ≡ false → i < length es → same_end e (get_or es i d) ≡ false
apart [] e i d h l = absurd (omega arith)
apart (x ∷ es) e zero d h l = other_way x e (neither (same_end x e) (has_sent es e) h).0
apart (x ∷ es) e (suc i) d h l = apart es e i d (neither (same_end x e) (has_sent es e) h).1 (omega arith)

-- each of them differs from those before it
pub fresh : (es : List End) (i : ℕ) (d : End) → all_differ es ≡ true → i < length es → has_sent (take i es) (get_or es i d) ≡ false
fresh [] i d a h = absurd (omega arith)
fresh (e ∷ es) zero d a h = refl
fresh (e ∷ es) (suc i) d a h =
    let (first, rest) = split (has_sent es e) (all_differ es) a in
    rw (apart es e i d first (omega arith)) (fresh es i d rest (omega arith))

-- the routes of the outputs up to the next one
pub followed-more : (routes : List Route) (sent : List End) (i : ℕ) (d : End) → all_differ sent ≡ true → i < length sent →
    followed routes (take (i + 1) sent) ≡ followed routes (take i sent) + count_by (λ (r : Route). same_end r.source (get_or sent i d)) routes
followed-more routes sent i d a h =
    ap (followed routes) (take_more sent i d h) ∙ followed-push routes (take i sent) (get_or sent i d) (fresh sent i d a h)

-- no more than there are
pub followed-few : (routes : List Route) (sent : List End) → followed routes sent ≤ length routes
followed-few routes sent = count_by-le-length (λ (r : Route). has_sent sent r.source) routes

-- none of them
pub followed-none : (routes : List Route) → 0 ≡ followed routes []
followed-none [] = refl
followed-none (r ∷ rs) = omega (arith, sum_by-cons (λ (r : Route). cond (has_sent [] r.source) 1 0) r rs, followed-none rs)
