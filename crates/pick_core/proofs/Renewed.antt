-- Rows that are made new where a node has changed.
use Rattle.std.proofs.Common.{◌≡◌, ℕ, zero, suc, ◌+◌, ◌-◌, ◌<◌, ◌≤◌, ◌⊎◌, inl, inr, List, [], ◌∷◌, ◌∙◌, Some, None, length, map, set, take, get_or, ◌||◌, Bool, true, false, refl, sym, ap, subst, arith, if◌then◌else◌}
use Rattle.std.specs.Prelude.{slice_get, ◌==◌}
use Rattle.std.proofs.lemmas.Bool.{cases_lt, eqb-true}
use Rattle.std.proofs.lemmas.List.{length-set, take_more}
use Rattle.std.proofs.lemmas.List.Folds.{list_any-append}
use Rattle.std.proofs.lemmas.Option.{same_Some, none-some, slice_get_within}
use Rattle.x3d_values.specs.declared.fields.Fields.{Fields}
use Rattle.scene_core.specs.Scene.{SceneView}
use Rattle.pick_core.specs.Renewal.{AreRangesOf}
use Rattle.pick_core.specs.Sites.{renewed, fresh, touches}
use Rattle.pick_core.specs.declared.row.BoxRow.{BoxRow}
use Rattle.pick_core.specs.declared.trail.Place.{Place}
use Rattle.pick_core.specs.Ranges.{IsAmong, IsInRange}
use Rattle.pick_core.specs.declared.ranges.RowRange.{RowRange}
use Rattle.pick_core.specs.declared.ranges.RowRanges.{RowRanges}
use Rattle.pick_core.proofs.Growing.{get-put}

-- ---- places of a list

module _ {A : Type 0} where
  get-other : (xs : List A) (i n : ℕ) (x : A) → (n ≡ i → ⊥) → slice_get (set xs i x) n ≡ slice_get xs n
  get-other [] i n x h = refl
  get-other (y ∷ xs) zero zero x h = absurd (h refl)
  get-other (y ∷ xs) zero (suc n) x h = refl
  get-other (y ∷ xs) (suc i) zero x h = refl
  get-other (y ∷ xs) (suc i) (suc n) x h = get-other xs i n x (λ e. h (ap suc e))

  -- a list of which each item is mapped is the mapped list
  pub all-mapped : (f : A → A) (old now : List A) → length now ≡ length old → ((k : ℕ) (x : A) → slice_get old k ≡ Some x → slice_get now k ≡ Some (f x)) → now ≡ map f old
  all-mapped f [] [] long each = refl
  all-mapped f [] (y ∷ now) long each = absurd (omega (arith, long))
  all-mapped f (x ∷ old) [] long each = absurd (omega (arith, long))
  all-mapped f (x ∷ old) (y ∷ now) long each =
      let first : y ≡ f x = same_Some y (f x) (each zero x refl) in
      let rest : now ≡ map f old = all-mapped f old now (omega (arith, long)) (λ k z e. each (suc k) z e) in
      ap (λ z. z ∷ now) first ∙ ap (λ zs. f x ∷ zs) rest

  -- an item of a mapped list
  pub get-mapped : (f : A → A) (xs : List A) (k : ℕ) (y : A) → slice_get (map f xs) k ≡ Some y → (x : A) × (slice_get xs k ≡ Some x) × (y ≡ f x)
  get-mapped f [] k y e = absurd (none-some y e)
  get-mapped f (x ∷ xs) zero y e = (x, refl, sym (same_Some (f x) y e))
  get-mapped f (x ∷ xs) (suc k) y e = get-mapped f xs k y e

-- ---- one range

-- the rows of a range up to a place are mapped, and no others
pub record IsDone (f : BoxRow → BoxRow) (old : List BoxRow) (range : RowRange) (at : ℕ) (now : List BoxRow) : Type 0 where
  pub front : range.first ≤ at
  pub within : (k : ℕ) → range.first ≤ k → k < at → k ≤ range.last
  pub long : length now ≡ length old
  pub done : (k : ℕ) (r : BoxRow) → range.first ≤ k → k < at → slice_get old k ≡ Some r → slice_get now k ≡ Some (f r)
  pub before : (k : ℕ) → k < range.first → slice_get now k ≡ slice_get old k
  pub behind : (k : ℕ) → at ≤ k → slice_get now k ≡ slice_get old k

pub done-none : (f : BoxRow → BoxRow) (old : List BoxRow) (range : RowRange) → IsDone f old range range.first old
done-none f old range = record {
  front = omega arith;
  within = λ k h l. absurd (omega arith);
  long = refl;
  done = λ k r h l e. absurd (omega arith);
  before = λ k h. refl;
  behind = λ k h. refl;
}

pub done-more : (f : BoxRow → BoxRow) (old now : List BoxRow) (range : RowRange) (at : ℕ) (item new : BoxRow) → IsDone f old range at now → at < length now → at ≤ range.last → slice_get now at ≡ Some item → new ≡ f item → IsDone f old range (at + 1) (set now at new)
done-more f old now range at item new is lt fits here made = record {
  front = omega (arith, is.front);
  within = λ k h l. elim (cases_lt k at) [
    | inl under ↦ is.within k h under
    | inr over ↦ omega arith
  ];
  long = length-set now at new ∙ is.long;
  done = λ k r h l e. elim (cases_lt k at) [
    | inl under ↦ get-other now at k new (λ q. absurd (omega arith)) ∙ is.done k r h under e
    | inr over ↦
        let same : k ≡ at = omega arith in
        let there : slice_get old at ≡ Some r = ap (slice_get old) (sym same) ∙ e in
        let is_item : item ≡ r = same_Some item r (sym here ∙ (is.behind at (omega arith) ∙ there)) in
        ap (slice_get (set now at new)) same ∙ (get-put now at new lt ∙ ap Some (made ∙ ap f is_item))
  ];
  before = λ k h. let front = is.front in get-other now at k new (λ q. absurd (omega arith)) ∙ is.before k h;
  behind = λ k h. get-other now at k new (λ q. absurd (omega arith)) ∙ is.behind k (omega arith);
}

module _ (f : BoxRow → BoxRow) (old now : List BoxRow) (at : ℕ) (range : RowRange) (is : IsDone f old range at now) where
  -- past the last row of a range all of it is done
  pub done-inside : range.last < at → (k : ℕ) (r : BoxRow) → IsInRange range k → slice_get old k ≡ Some r → slice_get now k ≡ Some (f r)
  done-inside past k r h e = is.done k r h.0 (omega (arith, h.1)) e

  -- and so behind the last row of all
  pub done-inside-all : length now ≤ at → (k : ℕ) (r : BoxRow) → IsInRange range k → slice_get old k ≡ Some r → slice_get now k ≡ Some (f r)
  done-inside-all past k r h e = is.done k r h.0 (omega (arith, is.long, slice_get_within old k r e)) e

  pub done-outside : (k : ℕ) → (IsInRange range k → ⊥) → slice_get now k ≡ slice_get old k
  done-outside k h = elim (cases_lt k range.first) [
    | inl under ↦ is.before k under
    | inr over ↦ elim (cases_lt k at) [
      | inl early ↦ absurd (h (over, is.within k over early))
      | inr late ↦ is.behind k late
    ]
  ]

-- ---- all ranges of a node

module _ (scene : SceneView) (state : List Fields) (node : ℕ) where
  by : (t : Bool) (r : BoxRow) → BoxRow
  by t r = if t then fresh scene state r else r

  pub renewed-off : (r : BoxRow) → touches node r.trail ≡ false → renewed scene state node r ≡ r
  renewed-off r h = ap (λ t. if t then fresh scene state r else r) h

  renewed-on : (r : BoxRow) → touches node r.trail ≡ true → renewed scene state node r ≡ fresh scene state r
  renewed-on r h = ap (λ t. if t then fresh scene state r else r) h

  -- a row that was made new stays
  pub renewed-again : (r : BoxRow) → renewed scene state node (renewed scene state node r) ≡ renewed scene state node r
  renewed-again r = cases (touches node r.trail) refl
    where
      cases : (t : Bool) → touches node r.trail ≡ t → renewed scene state node (renewed scene state node r) ≡ renewed scene state node r
      cases true h = ap (renewed scene state node) (renewed-on r h) ∙ (renewed-on (fresh scene state r) h ∙ sym (renewed-on r h))
      cases false h = ap (renewed scene state node) (renewed-off r h)

  pub renewed-trail : (r : BoxRow) → (renewed scene state node r).trail ≡ r.trail
  renewed-trail r = cases (touches node r.trail)
    where
      cases : (t : Bool) → (if t then fresh scene state r else r).trail ≡ r.trail
      cases true = refl
      cases false = refl

  -- a row is made new already, or it still is to be where it leads through the node
  abbrev pub IsSoFar : List RowRange → ℕ → ℕ → List BoxRow → List BoxRow → Type 0
  IsSoFar ranges left place old now = (k : ℕ) (r : BoxRow) → slice_get old k ≡ Some r
      → (slice_get now k ≡ Some (renewed scene state node r)) ⊎ ((slice_get now k ≡ Some r) × (touches node r.trail ≡ true → IsAmong ranges left place k))

  pub so_far-none : (ranges : List RowRange) (left place : ℕ) (old : List BoxRow) → ((k : ℕ) (r : BoxRow) → slice_get old k ≡ Some r → touches node r.trail ≡ true → IsAmong ranges left place k) → IsSoFar ranges left place old old
  so_far-none ranges left place old waits k r e = inr (e, waits k r e)

  -- behind a range come those that follow it
  among-rest : (ranges : List RowRange) (left place k : ℕ) (range : RowRange) → 0 < left → slice_get ranges place ≡ Some range → (IsInRange range k → ⊥) → IsAmong ranges left place k → IsAmong ranges (left - 1) range.next k
  among-rest ranges zero place k range h e off a = absurd (omega arith)
  among-rest ranges (suc left) place k range h e off a =
      let same : a.0 ≡ range = same_Some a.0 range (sym a.1 ∙ e) in
      let one : left ≡ suc left - 1 = omega arith in
      subst (λ n. IsAmong ranges n range.next k) one (cases same a.2)
    where
      cases : a.0 ≡ range → IsInRange a.0 k ⊎ IsAmong ranges left a.0.next k → IsAmong ranges left range.next k
      cases same (inl is) = absurd (off (subst (λ q. IsInRange q k) same is))
      cases same (inr rest) = subst (λ (q : RowRange). IsAmong ranges left q.next k) same rest

  in_range : (range : RowRange) (k : ℕ) → IsInRange range k ⊎ (IsInRange range k → ⊥)
  in_range range k = elim (cases_lt k range.first) [
    | inl under ↦ inr (λ is. absurd (omega (arith, is.0)))
    | inr over ↦ elim (cases_lt range.last k) [
      | inl past ↦ inr (λ is. absurd (omega (arith, is.1)))
      | inr fits ↦ inl (over, fits)
    ]
  ]

  module _ (ranges : List RowRange) (left place : ℕ) (old now new : List BoxRow) (range : RowRange) (some : 0 < left) (here : slice_get ranges place ≡ Some range) (so_far : IsSoFar ranges left place old now) where
    pub so_far-more : ((k : ℕ) (r : BoxRow) → IsInRange range k → slice_get now k ≡ Some r → slice_get new k ≡ Some (renewed scene state node r)) → ((k : ℕ) → (IsInRange range k → ⊥) → slice_get new k ≡ slice_get now k) → IsSoFar ranges (left - 1) range.next old new
    so_far-more inside outside k r e = elim (in_range range k) [
      | inl is ↦ elim (so_far k r e) [
        | inl done ↦ inl (inside k (renewed scene state node r) is done ∙ ap Some (renewed-again r))
        | inr waits ↦ inl (inside k r is waits.0)
      ]
      | inr off ↦ elim (so_far k r e) [
        | inl done ↦ inl (outside k off ∙ done)
        | inr waits ↦ inr (outside k off ∙ waits.0, λ t. among-rest ranges left place k range some here off (waits.1 t))
      ]
    ]

  -- where no range is left all are made new
  pub so_far-all : (ranges : List RowRange) (left place : ℕ) (old now : List BoxRow) → length now ≡ length old → ((k : ℕ) → IsAmong ranges left place k → ⊥) → IsSoFar ranges left place old now → now ≡ map (renewed scene state node) old
  so_far-all ranges left place old now long none so_far = all-mapped (renewed scene state node) old now long each
    where
      last : (k : ℕ) (r : BoxRow) → (slice_get now k ≡ Some r) × (touches node r.trail ≡ true → IsAmong ranges left place k) → (t : Bool) → touches node r.trail ≡ t → slice_get now k ≡ Some (renewed scene state node r)
      last k r waits true h = absurd (none k (waits.1 h))
      last k r waits false h = waits.0 ∙ ap Some (sym (renewed-off r h))

      each : (k : ℕ) (r : BoxRow) → slice_get old k ≡ Some r → slice_get now k ≡ Some (renewed scene state node r)
      each k r e = elim (so_far k r e) [
        | inl done ↦ done
        | inr waits ↦ last k r waits (touches node r.trail) refl
      ]

pub none-left : (ranges : List RowRange) (left place : ℕ) → left ≤ 0 → (k : ℕ) → IsAmong ranges left place k → ⊥
none-left ranges zero place h k a = a
none-left ranges (suc left) place h k a = absurd (omega arith)

pub none-there : (ranges : List RowRange) (left place : ℕ) → slice_get ranges place ≡ None → (k : ℕ) → IsAmong ranges left place k → ⊥
none-there ranges zero place e k a = a
none-there ranges (suc left) place e k a = none-some a.0 (sym e ∙ a.1)

-- ---- ranges of rows

-- rows with the same trails have the same ranges
pub ranges-kept : (ranges : RowRanges) (f : BoxRow → BoxRow) (rows : List BoxRow) → ((r : BoxRow) → (f r).trail ≡ r.trail) → AreRangesOf ranges rows → AreRangesOf ranges (map f rows)
ranges-kept ranges f rows same are n k r e t =
    let (x, there, is) = get-mapped f rows k r e in
    let trail : r.trail ≡ x.trail = ap (λ (q : BoxRow). q.trail) is ∙ same x in
    are n k x there (subst (λ (ps : List Place). touches n ps ≡ true) trail t)

-- a trail up to a place leads through a node before it, or there
pub touches-more : (n : ℕ) (trail : List Place) (i : ℕ) (d : Place) → i < length trail → touches n (take (i + 1) trail) ≡ true → (touches n (take i trail) ≡ true) ⊎ ((get_or trail i d).node ≡ n)
touches-more n trail i d h t = cases (touches n (take i trail)) (get_or trail i d).node
    (sym (ap (touches n) (take_more trail i d h) ∙ list_any-append (λ (p : Place). p.node == n) (take i trail) (get_or trail i d ∷ [])) ∙ t)
  where
    last : (m : ℕ) (b : Bool) → (m == n) ≡ b → (b || false) ≡ true → m ≡ n
    last m true e q = eqb-true m n e
    last m false e q = cc

    cases : (b : Bool) (m : ℕ) → (b || ((m == n) || false)) ≡ true → (b ≡ true) ⊎ (m ≡ n)
    cases true m q = inl refl
    cases false m q = inr (last m (m == n) refl q)
