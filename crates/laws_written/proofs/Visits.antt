-- What holds of a numbering while nodes are visited: a node that appeared is begun or has a number, and
-- what stands in a node with a number comes before it, or leads back to it.
use Rattle.std.proofs.Common.{◌≡◌, ℕ, zero, suc, ◌+◌, ◌<◌, ◌≤◌, Bool, true, false, List, [], ◌∷◌, ◌++◌, length, replicate, Option, Some, slice_get, refl, sym, ap, subst, ◌∙◌, ◌⊎◌, inl, inr, arith, true≢false}
use Rattle.std.specs.List.{fold}
use Rattle.std.proofs.lemmas.List.{length-replicate}
use Rattle.proto_flat.specs.declared.flat.FlatNode.{FlatNode}
use Rattle.scene_core.specs.declared.numbering.Numbering.{Numbering}
use Rattle.scene_core.specs.Numbers.{appear, close, is_new, numbering, unnumbered, visit}
use Rattle.scene_core.specs.Parts.{parts_of}
use Rattle.scene_core.specs.Tasks.{unopened}
use Rattle.scene_core.proofs.Fuel.{appear-fewer, visit-keeps, visit-new, visit-old}
use Rattle.laws_written.proofs.NumberedLists.{In, IsMarked, at_push, length_set, mark_keeps, mark_now, mark_was, push_keeps, push_last, set_here, set_other, unmarked_within, within}

-- the node has appeared, or is none
abbrev pub Seen : Numbering → ℕ → Type 0
Seen s x = is_new s x ≡ false

-- the node has a number
abbrev pub Has : Numbering → ℕ → Type 0
Has s x = (i : ℕ) × (slice_get s.order i ≡ Some x)

pub unopened_few : (marks : List Bool) → unopened marks ≤ length marks
unfolding unopened
unopened_few [] = omega arith
unopened_few (true ∷ marks) = let l = unopened_few marks in omega (arith, l)
unopened_few (false ∷ marks) = let l = unopened_few marks in omega (arith, l)

abbrev some : ℕ → Option ℕ
some x = Some x

-- ---- ways from node to node

module _ (nodes : List FlatNode) where
  -- y is a node that stands in x
  abbrev pub Edge : ℕ → ℕ → Type 0
  Edge x y = In y (parts_of nodes x) × (y < length nodes)

  -- so many edges lead from x to z
  abbrev pub Way : ℕ → ℕ → ℕ → Type 0
  Way zero x z = x ≡ z
  Way (suc k) x z = (y : ℕ) × Edge x y × Way k y z

  pub one_further : (k x y z : ℕ) → Way k x y → Edge y z → Way (suc k) x z
  one_further zero x y z w e = (z, subst (λ (v : ℕ). Edge v z) (sym w) e, refl)
  one_further (suc k) x y z w e = (w.0, w.1, one_further k w.0 y z w.2 e)

  -- ---- nodes that are begun, each in the one behind it

  abbrev InNext : List ℕ → ℕ → Type 0
  InNext [] x = Unit {0}
  InNext (y ∷ begun) x = In x (parts_of nodes y)

  abbrev Linked : List ℕ → ℕ → Type 0
  Linked [] x = Unit {0}
  Linked (y ∷ begun) x = Edge y x

  abbrev Chain : List ℕ → Type 0
  Chain [] = Unit {0}
  Chain (x ∷ begun) = Linked begun x × Chain begun

  -- from each of them a way leads to the first
  reaches : (x : ℕ) (begun : List ℕ) (y : ℕ) → Chain (x ∷ begun) → In y (x ∷ begun) → (k : ℕ) × Way k y x
  reaches x begun y c (inl e) = (0, e)
  reaches x [] y c (inr n) = absurd n
  reaches x (z ∷ begun) y c (inr n) =
      let r = reaches z begun y c.1 n in (suc r.0, one_further r.0 y z x r.1 c.0)

  linked : (begun : List ℕ) (x : ℕ) → InNext begun x → x < length nodes → Linked begun x
  linked [] x h l = tt
  linked (y ∷ begun) x h l = (h, l)

  abbrev Distinct : List ℕ → Type 0
  Distinct [] = Unit {0}
  Distinct (x ∷ begun) = (In x begun → ⊥) × Distinct begun

  -- ---- a numbering where these nodes are begun

  -- what stands in the i-th node has a lower number, or a way leads from it to the node
  abbrev pub Placed : Numbering → ℕ → ℕ → ℕ → Type 0
  Placed s i x y = ((j : ℕ) × (j < i) × (slice_get s.order j ≡ Some y)) ⊎ ((k : ℕ) × Way k y x)

  abbrev pub Numbered : Numbering → ℕ → ℕ → Type 0
  Numbered s i x = (slice_get s.numbers x ≡ Some i) × Seen s x × (x < length nodes)

  pub record IsOpen (begun : List ℕ) (s : Numbering) : Type 0 where
    pub opened : length s.opened ≡ length nodes
    pub sized : length s.numbers ≡ length nodes
    pub listed : (x : ℕ) → Seen s x → x < length nodes → In x begun ⊎ Has s x
    pub numbered : (i x : ℕ) → slice_get s.order i ≡ Some x → Numbered s i x
    pub open_seen : (x : ℕ) → In x begun → Seen s x × (x < length nodes)
    pub unclosed : (x i : ℕ) → In x begun → slice_get s.order i ≡ Some x → ⊥
    pub distinct : Distinct begun
    pub chain : Chain begun
    pub inside : (i x y : ℕ) → slice_get s.order i ≡ Some x → Edge x y → Seen s y × Placed s i x y

  new_is : (s : Numbering) (x : ℕ) → is_new s x ≡ true → Seen s x → ⊥
  new_is s x new old = true≢false (sym new ∙ old)

  -- ---- a node appears

  module _ (begun : List ℕ) (s : Numbering) (x : ℕ) (h : IsOpen begun s) (new : is_new s x ≡ true) where
    low : x < length nodes
    low = let l = unmarked_within s.opened x new in omega (arith, l, h.opened)

    now_listed : (y : ℕ) → Seen (appear s x) y → y < length nodes → In y (x ∷ begun) ⊎ Has (appear s x) y
    now_listed y seen l = by_mark (mark_was s.opened x y seen) where
      by_list : In y begun ⊎ Has s y → In y (x ∷ begun) ⊎ Has (appear s x) y
      by_list (inl n) = inl (inr n)
      by_list (inr n) = inr n

      by_mark : (y ≡ x) ⊎ IsMarked s.opened y → In y (x ∷ begun) ⊎ Has (appear s x) y
      by_mark (inl e) = inl (inl e)
      by_mark (inr k) = by_list (h.listed y k l)

    now_open_seen : (y : ℕ) → In y (x ∷ begun) → Seen (appear s x) y × (y < length nodes)
    now_open_seen y (inl e) = (subst (λ (z : ℕ). Seen (appear s x) z) (sym e) (mark_now s.opened x), subst (λ (z : ℕ). z < length nodes) (sym e) low)
    now_open_seen y (inr n) = let o = h.open_seen y n in (mark_keeps s.opened x y o.0, o.1)

    now_unclosed : (y i : ℕ) → In y (x ∷ begun) → slice_get s.order i ≡ Some y → ⊥
    now_unclosed y i (inl e) at = new_is s x new (subst (λ (z : ℕ). Seen s z) e (h.numbered i y at).1)
    now_unclosed y i (inr n) at = h.unclosed y i n at

    now_numbered : (i y : ℕ) → slice_get s.order i ≡ Some y → Numbered (appear s x) i y
    now_numbered i y at = let n = h.numbered i y at in (n.0, mark_keeps s.opened x y n.1, n.2)

    now_inside : (i y z : ℕ) → slice_get s.order i ≡ Some y → Edge y z → Seen (appear s x) z × Placed (appear s x) i y z
    now_inside i y z at e = let n = h.inside i y z at e in (mark_keeps s.opened x z n.0, n.1)

    appeared : InNext begun x → IsOpen (x ∷ begun) (appear s x)
    appeared next = record {
      opened = length_set s.opened x true ∙ h.opened;
      sized = h.sized;
      listed = now_listed;
      numbered = now_numbered;
      open_seen = now_open_seen;
      unclosed = now_unclosed;
      distinct = (λ n. new_is s x new (h.open_seen x n).0, h.distinct);
      chain = (linked begun x next low, h.chain);
      inside = now_inside;
    }

  -- ---- all that stands in the first of them has appeared, and it gets the next number

  module _ (begun : List ℕ) (s : Numbering) (x : ℕ) (h : IsOpen (x ∷ begun) s) (all : (y : ℕ) → In y (parts_of nodes x) → Seen s y) where
    own : Seen s x × (x < length nodes)
    own = h.open_seen x (inl refl)

    abbrev end : ℕ
    end = length s.order

    then_listed : (y : ℕ) → Seen s y → y < length nodes → In y begun ⊎ Has (close s x) y
    then_listed y seen l = by_list (h.listed y seen l) where
      by_list : In y (x ∷ begun) ⊎ Has s y → In y begun ⊎ Has (close s x) y
      by_list (inl (inl e)) = inr (end, push_last s.order x ∙ ap (λ (z : ℕ). some z) (sym e))
      by_list (inl (inr n)) = inl n
      by_list (inr n) = inr (n.0, push_keeps s.order x n.0 y n.1)

    then_numbered : (i y : ℕ) → slice_get (close s x).order i ≡ Some y → Numbered (close s x) i y
    then_numbered i y at = by_place (at_push s.order x i y at) where
      by_place : (slice_get s.order i ≡ Some y) ⊎ ((i ≡ end) × (y ≡ x)) → Numbered (close s x) i y
      by_place (inl was) =
          let n = h.numbered i y was in
          (set_other s.numbers x y end (λ e. h.unclosed x i (inl refl) (was ∙ ap (λ (z : ℕ). some z) e)) ∙ n.0, n.1, n.2)
      by_place (inr p) =
          let here : slice_get (close s x).numbers x ≡ Some end = set_here s.numbers x end (omega (arith, own.1, h.sized)) in
          subst (λ (z : ℕ). Numbered (close s x) i z) (sym p.1) (here ∙ ap (λ (z : ℕ). some z) (sym p.0), own.0, own.1)

    then_unclosed : (y i : ℕ) → In y begun → slice_get (close s x).order i ≡ Some y → ⊥
    then_unclosed y i n at = by_place (at_push s.order x i y at) where
      by_place : (slice_get s.order i ≡ Some y) ⊎ ((i ≡ end) × (y ≡ x)) → ⊥
      by_place (inl was) = h.unclosed y i (inr n) was
      by_place (inr p) = h.distinct.0 (subst (λ (z : ℕ). In z begun) p.1 n)

    then_inside : (i y z : ℕ) → slice_get (close s x).order i ≡ Some y → Edge y z → Seen s z × Placed (close s x) i y z
    then_inside i y z at e = by_place (at_push s.order x i y at) where
      kept_placed : Placed s i y z → Placed (close s x) i y z
      kept_placed (inl p) = inl (p.0, p.1, push_keeps s.order x p.0 z p.2)
      kept_placed (inr w) = inr w

      by_list : (i ≡ end) → (y ≡ x) → In z (x ∷ begun) ⊎ Has s z → Placed (close s x) i y z
      by_list p q (inl n) = let r = reaches x begun z h.chain n in inr (r.0, subst (λ (v : ℕ). Way r.0 z v) (sym q) r.1)
      by_list p q (inr n) = inl (n.0, (let l = within s.order n.0 z n.1 in omega (arith, l, p)), push_keeps s.order x n.0 z n.1)

      by_place : (slice_get s.order i ≡ Some y) ⊎ ((i ≡ end) × (y ≡ x)) → Seen s z × Placed (close s x) i y z
      by_place (inl was) = let n = h.inside i y z was e in (n.0, kept_placed n.1)
      by_place (inr p) =
          let seen : Seen s z = all z (subst (λ (v : ℕ). In z (parts_of nodes v)) p.1 e.0) in
          (seen, by_list p.0 p.1 (h.listed z seen e.1))

    closed : IsOpen begun (close s x)
    closed = record {
      opened = h.opened;
      sized = length_set s.numbers x end ∙ h.sized;
      listed = then_listed;
      numbered = then_numbered;
      open_seen = λ y n. h.open_seen y (inr n);
      unclosed = then_unclosed;
      distinct = h.distinct.1;
      chain = h.chain.1;
      inside = then_inside;
    }

  -- ---- visits

  abbrev pub full : Numbering → ℕ → Numbering
  full = visit (length nodes + 1) nodes

  abbrev left : Numbering → ℕ
  left s = unopened s.opened

  abbrev Later : Numbering → Numbering → Type 0
  Later s t = (y : ℕ) → Seen s y → Seen t y

  record Visited (begun : List ℕ) (s t : Numbering) (x : ℕ) : Type 0 where
    pub state : IsOpen begun t
    pub seen : Seen t x
    pub later : Later s t

  record AllVisited (begun : List ℕ) (s t : Numbering) (xs : List ℕ) : Type 0 where
    pub state : IsOpen begun t
    pub seen : (x : ℕ) → In x xs → Seen t x
    pub later : Later s t

  abbrev Visits : ℕ → Type 0
  Visits most = (begun : List ℕ) (s : Numbering) (x : ℕ) → left s ≤ most → IsOpen begun s → InNext begun x → Visited begun s (full s x) x

  in_turn : (most : ℕ) → Visits most → (begun : List ℕ) (s : Numbering) (xs : List ℕ) → left s ≤ most → IsOpen begun s
      → ((x : ℕ) → In x xs → InNext begun x) → AllVisited begun s (fold full s xs) xs
  in_turn most v begun s [] few h k = record { state = h; seen = λ x n. absurd n; later = λ y seen. seen }
  in_turn most v begun s (x ∷ xs) few h k =
      let first = v begun s x few h (k x (inl refl)) in
      let fewer = visit-keeps nodes (length nodes + 1) s x in
      let rest = in_turn most v begun (full s x) xs (omega (arith, few, fewer)) first.state (λ y n. k y (inr n)) in
      record { state = rest.state; seen = seen_of first rest; later = λ y seen. rest.later y (first.later y seen) } where
        seen_of : Visited begun s (full s x) x → AllVisited begun (full s x) (fold full (full s x) xs) xs
            → (y : ℕ) → In y (x ∷ xs) → Seen (fold full (full s x) xs) y
        seen_of first rest y (inl e) = rest.later y (subst (λ (z : ℕ). Seen (full s x) z) (sym e) first.seen)
        seen_of first rest y (inr n) = rest.seen y n

  -- a node that has appeared changes nothing
  old_visited : (begun : List ℕ) (s : Numbering) (x : ℕ) → IsOpen begun s → is_new s x ≡ false → Visited begun s (full s x) x
  old_visited begun s x h old =
      subst (λ (t : Numbering). Visited begun s t x) (sym (visit-old nodes (length nodes) s x old))
      (record { state = h; seen = old; later = λ y seen. seen })

  new_visited : (most : ℕ) → Visits most → (begun : List ℕ) (s : Numbering) (x : ℕ) → left s ≤ most + 1 → IsOpen begun s → InNext begun x
      → is_new s x ≡ true → Visited begun s (full s x) x
  new_visited most v begun s x few h next new =
      let fewer = appear-fewer s x new in
      let inner = in_turn most v (x ∷ begun) (appear s x) (parts_of nodes x) (omega (arith, few, fewer)) (appeared begun s x h new next) (λ y n. n) in
      let enough : left s ≤ length nodes = (let l = unopened_few s.opened in omega (arith, l, h.opened)) in
      subst (λ (t : Numbering). Visited begun s t x) (sym (visit-new nodes (length nodes) s x new enough)) (record {
        state = closed begun (fold full (appear s x) (parts_of nodes x)) x inner.state inner.seen;
        seen = inner.later x (mark_now s.opened x);
        later = λ y seen. inner.later y (mark_keeps s.opened x y seen);
      })

  none_left : (s : Numbering) (x : ℕ) → left s ≤ 0 → is_new s x ≡ true → ⊥
  none_left s x few new = let fewer = appear-fewer s x new in omega (arith, few, fewer)

  visits : (most : ℕ) → Visits most
  visits zero begun s x few h next = by_new (is_new s x) refl where
    by_new : (b : Bool) → is_new s x ≡ b → Visited begun s (full s x) x
    by_new false old = old_visited begun s x h old
    by_new true new = absurd (none_left s x few new)
  visits (suc most) begun s x few h next = by_new (visits most) (is_new s x) refl where
    by_new : Visits most → (b : Bool) → is_new s x ≡ b → Visited begun s (full s x) x
    by_new v false old = old_visited begun s x h old
    by_new v true new = new_visited most v begun s x (omega (arith, few)) h next new

  -- ---- all visits

  none_seen : (count x : ℕ) → x < count → IsMarked (replicate count false) x → ⊥
  none_seen zero x l h = omega (arith, l)
  none_seen (suc count) zero l h = true≢false h
  none_seen (suc count) (suc x) l h = none_seen count x (omega (arith, l)) h

  none_open : IsOpen [] (unnumbered nodes)
  none_open = record {
    opened = length-replicate (length nodes) false;
    sized = length-replicate (length nodes) 0;
    listed = λ x seen l. absurd (none_seen (length nodes) x l seen);
    numbered = λ i x at. absurd cc;
    open_seen = λ x n. absurd n;
    unclosed = λ x i n at. absurd n;
    distinct = tt;
    chain = tt;
    inside = λ i x y at e. absurd cc;
  }

  pub record IsNumbered (roots : List ℕ) (s : Numbering) : Type 0 where
    pub state : IsOpen [] s
    pub seen : (x : ℕ) → In x roots → Seen s x

  pub numbered : (roots helpers : List ℕ) → IsNumbered (roots ++ helpers) (numbering nodes roots helpers)
  unfolding numbering
  numbered roots helpers =
      let few : left (unnumbered nodes) ≤ length nodes =
      (let l = unopened_few (replicate (length nodes) false) in omega (arith, l, length-replicate (length nodes) false)) in
      let all = in_turn (length nodes) (visits (length nodes)) [] (unnumbered nodes) (roots ++ helpers) few none_open (λ x n. tt) in
      record { state = all.state; seen = all.seen }
