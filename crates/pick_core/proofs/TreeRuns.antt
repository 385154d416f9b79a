-- The boxes round runs of a list.
use Rattle.std.proofs.Common.{◌≡◌, ◌∙◌, ℕ, zero, suc, ◌+◌, ◌*◌, ◌<◌, ◌≤◌, ◌⊎◌, inl, inr, List, [], ◌∷◌, ◌++◌, take, drop, set, Option, Some, length, refl, sym, ap, subst, arith, take_all}
use Rattle.std.specs.Prelude.{slice_get, ◌/◌}
use Rattle.std.proofs.lemmas.Bool.{cases_lt}
use Rattle.std.proofs.lemmas.List.{length-set, take-append-le}
use Rattle.std.proofs.lemmas.Option.{same_Some, slice_get_within}
use Rattle.x3d_values.specs.Pointing.{RayView}
use Rattle.pick_rules.specs.declared.bounds.Bounds.{Bounds}
use Rattle.pick_rules.specs.declared.bounds.Fraction.{Fraction}
use Rattle.pick_core.specs.declared.tree.Tree.{Tree}
use Rattle.pick_core.specs.Tree.{IsIn, IsOf, IsOver, IsOverBut, IsRenewed, IsTreeOf, IsTreeBut, IsPassed, ArePassed}
use Rattle.pick_core.proofs.Inside.{in-trans, passed-inside}

abbrev pub Boxes : Type 0
Boxes = List (Option Bounds)

-- ---- places of a list

module _ {A : Type 0} where
  get-put : (xs : List A) (i : ℕ) (x : A) → i < length xs → slice_get (set xs i x) i ≡ Some x
  get-put [] i x h = absurd (omega arith)
  get-put (y ∷ xs) zero x h = refl
  get-put (y ∷ xs) (suc i) x h = get-put xs i x (omega arith)

  get-other : (xs : List A) (i n : ℕ) (x : A) → (n ≡ i → ⊥) → slice_get (set xs i x) n ≡ slice_get xs n
  get-other [] i n x h = refl
  get-other (y ∷ xs) zero zero x h = absurd (h refl)
  get-other (y ∷ xs) zero (suc n) x h = refl
  get-other (y ∷ xs) (suc i) zero x h = refl
  get-other (y ∷ xs) (suc i) (suc n) x h = get-other xs i n x (λ e. h (ap suc e))

  get-there : (xs : List A) (n : ℕ) → n < length xs → (x : A) × (slice_get xs n ≡ Some x)
  get-there [] n h = absurd (omega arith)
  get-there (x ∷ xs) zero h = (x, refl)
  get-there (x ∷ xs) (suc n) h = get-there xs n (omega arith)

-- ---- the box round one run

-- a box is round those of a run up to a place
abbrev pub IsRound : Boxes → ℕ → ℕ → Option Bounds → Type 0
IsRound lower run at outer = (n : ℕ) (b : Option Bounds) → slice_get lower n ≡ Some b → 16 * run ≤ n → n < at → IsIn b outer

pub round-none : (lower : Boxes) (run at : ℕ) (outer : Option Bounds) → at ≤ 16 * run → IsRound lower run at outer
round-none lower run at outer h n b e l k = absurd (omega arith)

pub round-more : (lower : Boxes) (run at : ℕ) (outer b new : Option Bounds) → slice_get lower at ≡ Some b → IsRound lower run at outer → IsIn outer new → IsIn b new → IsRound lower run (at + 1) new
round-more lower run at outer b new here is first second n x e l k = elim (cases_lt n at) [
  | inl under ↦ in-trans x outer new (is n x e l under) first
  | inr over ↦
      let same : n ≡ at = omega arith in
      let one : x ≡ b = same_Some x b (sym e ∙ (ap (slice_get lower) same ∙ here)) in
      subst (λ y. IsIn y new) (sym one) second
]

-- the whole of a run
abbrev pub IsRoundAll : Boxes → ℕ → Option Bounds → Type 0
IsRoundAll lower run outer = (n : ℕ) (b : Option Bounds) → slice_get lower n ≡ Some b → IsOf n run → IsIn b outer

pub round-past : (lower : Boxes) (run at : ℕ) (outer : Option Bounds) → 16 * run + 16 ≤ at → IsRound lower run at outer → IsRoundAll lower run outer
round-past lower run at outer h is n b e of = is n b e of.0 (omega (arith, of.1))

pub round-end : (lower : Boxes) (run at : ℕ) (outer : Option Bounds) → length lower ≤ at → IsRound lower run at outer → IsRoundAll lower run outer
round-end lower run at outer h is n b e of = is n b e of.0 (omega (arith, slice_get_within lower n b e))

-- ---- the boxes of the runs that have some

-- those up to a run are round theirs, and no others have changed
pub record IsSoFar (first last run : ℕ) (old now lower : Boxes) : Type 0 where
  pub long : length now ≡ length old
  pub front : first / 16 ≤ run
  pub within : (k : ℕ) → first / 16 ≤ k → k < run → k ≤ last / 16
  pub done : (k : ℕ) (c : Option Bounds) → slice_get now k ≡ Some c → first / 16 ≤ k → k < run → IsRoundAll lower k c
  pub before : (k : ℕ) → k < first / 16 → slice_get now k ≡ slice_get old k
  pub behind : (k : ℕ) → run ≤ k → slice_get now k ≡ slice_get old k

pub so_far-none : (first last : ℕ) (old lower : Boxes) → IsSoFar first last (first / 16) old old lower
so_far-none first last old lower = record {
  long = refl;
  front = omega arith;
  within = λ k h l. absurd (omega arith);
  done = λ k c e h l. absurd (omega arith);
  before = λ k h. refl;
  behind = λ k h. refl;
}

module _ (first last run : ℕ) (old now lower : Boxes) (is : IsSoFar first last run old now lower) where
  pub so_far-more : (outer : Option Bounds) → run < length now → run ≤ last / 16 → IsRoundAll lower run outer → IsSoFar first last (run + 1) old (set now run outer) lower
  so_far-more outer lt fits round = record {
    long = length-set now run outer ∙ is.long;
    front = omega (arith, is.front);
    within = λ k h l. elim (cases_lt k run) [
      | inl under ↦ is.within k h under
      | inr over ↦ omega arith
    ];
    done = λ k c e h l. elim (cases_lt k run) [
      | inl under ↦ is.done k c (sym (get-other now run k outer (λ q. absurd (omega arith))) ∙ e) h under
      | inr over ↦
          let same : run ≡ k = omega arith in
          let there : slice_get (set now run outer) run ≡ Some c = ap (slice_get (set now run outer)) same ∙ e in
          let one : outer ≡ c = same_Some outer c (sym (get-put now run outer lt) ∙ there) in
          subst (λ q. IsRoundAll lower q c) same (subst (λ y. IsRoundAll lower run y) one round)
    ];
    before = λ k h. let front = is.front in get-other now run k outer (λ q. absurd (omega arith)) ∙ is.before k h;
    behind = λ k h. get-other now run k outer (λ q. absurd (omega arith)) ∙ is.behind k (omega arith);
  }

  -- where no run that has one of the boxes is left
  pub so_far-all : (length now ≤ run) ⊎ (last / 16 < run) → IsOverBut first last old lower → IsRenewed first last old now lower
  so_far-all past but = record {
    over = record {
      room = let room = but.room in omega (arith, is.long);
      round = λ n k b c e f of. elim (cases_lt k (first / 16)) [
        | inl under ↦ but.round n k b c e (sym (is.before k under) ∙ f) of (λ h l. absurd (omega (arith, of.1)))
        | inr over ↦ elim (cases_lt k run) [
          | inl early ↦ is.done k c f over early n b e of
          | inr late ↦ last_of n k b c e f of late past
        ]
      ];
    };
    long = is.long;
    outside = λ k h. elim (cases_lt k (first / 16)) [
      | inl under ↦ is.before k under
      | inr over ↦ elim (cases_lt k run) [
        | inl early ↦ absurd (h over (is.within k over early))
        | inr late ↦ is.behind k late
      ]
    ];
  }
    where
      last_of : (n k : ℕ) (b c : Option Bounds) → slice_get lower n ≡ Some b → slice_get now k ≡ Some c → IsOf n k → run ≤ k → (length now ≤ run) ⊎ (last / 16 < run) → IsIn b c
      last_of n k b c e f of late (inl short) = absurd (omega (arith, slice_get_within now k c f))
      last_of n k b c e f of late (inr far) = but.round n k b c e (sym (is.behind k late) ∙ f) of (λ h l. absurd (omega (arith, of.0)))

-- ---- trees

-- where runs have changed, their groups are round all others
pub over-but : (first last : ℕ) (groups old new : Boxes) → IsOver groups old → length new ≡ length old → ((k : ℕ) → (first ≤ k → k ≤ last → ⊥) → slice_get new k ≡ slice_get old k) → IsOverBut first last groups new
over-but first last groups old new is long outside = record {
  room = let room = is.room in omega (arith, long);
  round = λ n k b c e f of off. is.round n k b c (sym (outside n off) ∙ e) f of;
}

-- where boxes have changed, a tree is round all others
pub tree-but : (first last : ℕ) (tree : Tree) (old new : Boxes) → IsTreeOf tree old → length new ≡ length old → ((k : ℕ) → (first ≤ k → k ≤ last → ⊥) → slice_get new k ≡ slice_get old k) → IsTreeBut first last tree new
tree-but first last tree old new is long outside = record {
  runs = over-but first last tree.runs.items old new is.runs long outside;
  groups = is.groups;
}

-- where any box may have changed
pub tree-anew : (last : ℕ) (tree : Tree) (boxes : Boxes) → length boxes ≤ 16 * length tree.runs.items → length boxes ≤ last → IsOver tree.groups.items tree.runs.items → IsTreeBut 0 last tree boxes
tree-anew last tree boxes room fits over = record {
  runs = record {
    room = room;
    round = λ n k b c e f of off. absurd (off (omega arith) (omega (arith, slice_get_within boxes n b e)));
  };
  groups = over;
}

-- a whole list that was lent
pub written : (n : ℕ) (new old : Boxes) → n ≡ length old → length new ≡ length old → take n (new ++ drop (length new) old) ≡ new
written n new old e f =
    let most : n ≤ length new = omega arith in
    let least : length new ≤ n = omega arith in
    take-append-le n new (drop (length new) old) most ∙ take_all n new least

-- ---- boxes that are passed

module _ (tree : Tree) (boxes : Boxes) (is : IsTreeOf tree boxes) (at : ℕ) (ray : RayView) (best : Option Fraction) where
  pub passed-run : at ≡ 16 * (at / 16) → IsPassed tree.runs.items (at / 16) ray best → ArePassed boxes at 16 ray best
  passed-run whole p n b e h l =
      passed-inside b p.outer ray best (is.runs.round n (at / 16) b p.outer e p.there (omega arith, omega arith)) p.late

  pub passed-group : at ≡ 256 * (at / 256) → IsPassed tree.groups.items (at / 256) ray best → ArePassed boxes at 256 ray best
  passed-group whole p n b e h l =
      let room = is.runs.room in
      let fits : n / 16 < length tree.runs.items = omega (arith, slice_get_within boxes n b e) in
      let run = get-there tree.runs.items (n / 16) fits in
      let inner : IsIn b run.0 = is.runs.round n (n / 16) b run.0 e run.1 (omega arith, omega arith) in
      let outer : IsIn run.0 p.outer = is.groups.round (n / 16) (at / 256) run.0 p.outer run.1 p.there (omega arith, omega arith) in
      passed-inside b p.outer ray best (in-trans b run.0 p.outer inner outer) p.late
