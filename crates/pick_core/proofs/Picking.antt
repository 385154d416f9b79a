-- One box more among those of which the nearest is known.
use Rattle.std.proofs.Common.{◌≡◌, ℕ, ◌*◌, ◌<◌, ◌≤◌, inl, inr, List, [], ◌∷◌, ◌++◌, Option, Some, None, sym, subst, arith, append_assoc, append-nil}
use Rattle.std.specs.List.{AllByRecursion}
use Rattle.pick_core.specs.Boxes.{Placed}
use Rattle.pick_rules.specs.Hits.{IsMissed, IsEntered}
use Rattle.pick_core.specs.Nearest.{IsPathBefore, IsReached, IsNotBehind, IsPicked}
use Rattle.x3d_values.specs.Pointing.{RayView}
use Rattle.pick_rules.specs.declared.bounds.Fraction.{Fraction}
use Rattle.pick_core.specs.declared.hit.Hit.{Hit}
use Rattle.std.proofs.lemmas.Bool.{cases_lt}
use Rattle.pick_rules.proofs.Fractions.{fraction_trans}

-- the paths rise
abbrev pub AreInOrder : List Placed → Type 0
AreInOrder [] = Unit {0}
AreInOrder (b ∷ bs) = AllByRecursion (λ (c : Placed). IsPathBefore b.path c.path) bs × AreInOrder bs

-- what was picked among boxes before these becomes what is picked with these
pub record Continues (ray : RayView) (bs : List Placed) (old new : Option Hit) : Type 0 where
  pub picked : (done : List Placed) → AreInOrder (done ++ bs) → IsPicked ray done old → IsPicked ray (done ++ bs) new

abbrev pub IsNearer : Fraction → Option Hit → Type 0
IsNearer at None = Unit {0}
IsNearer at (Some hit) = at.n * hit.m < hit.n * at.m

pub each-append : {X : Type 0} (P : X → Type 0) (xs ys : List X) → AllByRecursion P xs → AllByRecursion P ys → AllByRecursion P (xs ++ ys)
each-append P [] ys h k = k
each-append P (x ∷ xs) ys h k = (h.0, each-append P xs ys h.1 k)

pub each-weaker : {X : Type 0} (P Q : X → Type 0) → ((x : X) → P x → Q x) → (xs : List X) → AllByRecursion P xs → AllByRecursion Q xs
each-weaker P Q f [] h = tt
each-weaker P Q f (x ∷ xs) h = (f x h.0, each-weaker P Q f xs h.1)

pub each-left : {X : Type 0} (P : X → Type 0) (xs ys : List X) → AllByRecursion P (xs ++ ys) → AllByRecursion P xs
each-left P [] ys h = tt
each-left P (x ∷ xs) ys h = (h.0, each-left P xs ys h.1)

each-last : {X : Type 0} (P : X → Type 0) (xs : List X) (y : X) → AllByRecursion P (xs ++ y ∷ []) → P y
each-last P [] y h = h.0
each-last P (x ∷ xs) y h = each-last P xs y h.1

pub order-left : (xs ys : List Placed) → AreInOrder (xs ++ ys) → AreInOrder xs
order-left [] ys h = tt
order-left (x ∷ xs) ys h = (each-left (λ (c : Placed). IsPathBefore x.path c.path) xs ys h.0, order-left xs ys h.1)

not_less : (a b c d : ℕ) → (a * b < c * d → ⊥) → c * d ≤ a * b
not_less a b c d h = elim (cases_lt (a * b) (c * d)) [ inl k ↦ absurd (h k) | inr k ↦ k ]

module _ (ray : RayView) where
  reached-left : (hit : Hit) (xs ys : List Placed) → IsReached ray hit xs → IsReached ray hit (xs ++ ys)
  reached-left hit [] ys h = absurd h
  reached-left hit (x ∷ xs) ys (inl h) = inl h
  reached-left hit (x ∷ xs) ys (inr h) = inr (reached-left hit xs ys h)

  reached-right : (hit : Hit) (xs ys : List Placed) → IsReached ray hit ys → IsReached ray hit (xs ++ ys)
  reached-right hit [] ys h = h
  reached-right hit (x ∷ xs) ys h = inr (reached-right hit xs ys h)

  -- the path of a hit among the boxes before
  reached_before : (hit : Hit) (done : List Placed) (b : Placed) → AreInOrder (done ++ b ∷ []) → IsReached ray hit done → IsPathBefore hit.path b.path
  reached_before hit [] b o h = absurd h
  reached_before hit (x ∷ xs) b o (inl h) = subst (λ p. IsPathBefore p b.path) h.0 (each-last (λ (c : Placed). IsPathBefore x.path c.path) xs b o.0)
  reached_before hit (x ∷ xs) b o (inr h) = reached_before hit xs b o.1 h

  more_missed : (b : Placed) (old : Option Hit) → IsMissed b.bounds ray → (done : List Placed) → IsPicked ray done old → IsPicked ray (done ++ b ∷ []) old
  more_missed b None miss done h = each-append (λ (c : Placed). IsMissed c.bounds ray) done (b ∷ []) h (miss, tt)
  more_missed b (Some hit) miss done h = record {
    positive = h.positive;
    reached = reached-left hit done (b ∷ []) h.reached;
    none_before = each-append (IsNotBehind ray hit) done (b ∷ []) h.none_before (
      record {
        first = λ n m p k. absurd (miss n m p k);
        least = λ k. absurd (miss hit.n hit.m h.positive k);
      },
      tt,
    );
  }

  more_behind : (b : Placed) (hit : Hit) (n m : ℕ) → IsEntered b.bounds ray n m → hit.n * m ≤ n * hit.m → (done : List Placed) → AreInOrder (done ++ b ∷ []) → IsPicked ray done (Some hit) → IsPicked ray (done ++ b ∷ []) (Some hit)
  more_behind b hit n m e le done o h = record {
    positive = h.positive;
    reached = reached-left hit done (b ∷ []) h.reached;
    none_before = each-append (IsNotBehind ray hit) done (b ∷ []) h.none_before (
      record {
        first = λ n' m' p k. fraction_trans hit.n hit.m n m n' m' e.positive le (e.first n' m' p k);
        least = λ k. inr (reached_before hit done b o h.reached);
      },
      tt,
    );
  }

  missed_behind : (new : Hit) → 0 < new.m → (c : Placed) → IsMissed c.bounds ray → IsNotBehind ray new c
  missed_behind new p c h = record {
    first = λ n m q hit. absurd (h n m q hit);
    least = λ hit. absurd (h new.n new.m p hit);
  }

  nearer_behind : (new best : Hit) → 0 < new.m → 0 < best.m → new.n * best.m < best.n * new.m → (c : Placed) → IsNotBehind ray best c → IsNotBehind ray new c
  nearer_behind new best p b l c h = record {
    first = λ n m q hit. fraction_trans new.n new.m best.n best.m n m b (omega arith) (h.first n m q hit);
    least = λ hit. absurd (let g = h.first new.n new.m p hit in omega arith);
  }

  new_behind : (b : Placed) (new : Hit) → b.path ≡ new.path → IsEntered b.bounds ray new.n new.m → IsNotBehind ray new b
  new_behind b new path e = record {
    first = λ n m q hit. e.first n m q hit;
    least = λ hit. inl (sym path);
  }

  more_nearer : (b : Placed) (new : Hit) (old : Option Hit) → b.path ≡ new.path → IsEntered b.bounds ray new.n new.m → IsNearer (record { n = new.n; m = new.m }) old → (done : List Placed) → IsPicked ray done old → IsPicked ray (done ++ b ∷ []) (Some new)
  more_nearer b new None path e k done h = record {
    positive = e.positive;
    reached = reached-right new done (b ∷ []) (inl (path, e.hit));
    none_before = each-append (IsNotBehind ray new) done (b ∷ []) (each-weaker (λ (c : Placed). IsMissed c.bounds ray) (IsNotBehind ray new) (missed_behind new e.positive) done h) (new_behind b new path e, tt);
  }
  more_nearer b new (Some best) path e k done h = record {
    positive = e.positive;
    reached = reached-right new done (b ∷ []) (inl (path, e.hit));
    none_before = each-append (IsNotBehind ray new) done (b ∷ []) (each-weaker (IsNotBehind ray best) (IsNotBehind ray new) (nearer_behind new best e.positive h.positive k) done h.none_before) (new_behind b new path e, tt);
  }

  -- nothing more
  pub continues-none : (old : Option Hit) → Continues ray [] old old
  continues-none old = record { picked = λ done o h. subst (λ xs. IsPicked ray xs old) (sym (append-nil done)) h }

  pub continues-append : (xs ys : List Placed) (a b c : Option Hit) → Continues ray xs a b → Continues ray ys b c → Continues ray (xs ++ ys) a c
  continues-append xs ys a b c p q = record {
    picked = λ done o h.
        let o' : AreInOrder ((done ++ xs) ++ ys) = subst (λ zs. AreInOrder zs) (sym (append_assoc done xs ys)) o in
        subst (λ zs. IsPicked ray zs c) (append_assoc done xs ys) (q.picked (done ++ xs) o' (p.picked done (order-left (done ++ xs) ys o') h));
  }

  pub continues-missed : (b : Placed) (old : Option Hit) → IsMissed b.bounds ray → Continues ray (b ∷ []) old old
  continues-missed b old miss = record { picked = λ done o h. more_missed b old miss done h }

  pub continues-behind : (b : Placed) (at : Fraction) (old : Option Hit) → IsEntered b.bounds ray at.n at.m → ¬ IsNearer at old → Continues ray (b ∷ []) old old
  continues-behind b at None e k = absurd (k tt)
  continues-behind b at (Some best) e k = record {
    picked = λ done o h. more_behind b best at.n at.m e (not_less at.n best.m best.n at.m k) done o h;
  }

  pub continues-nearer : (b : Placed) (new : Hit) (old : Option Hit) → b.path ≡ new.path → IsEntered b.bounds ray new.n new.m → IsNearer (record { n = new.n; m = new.m }) old → Continues ray (b ∷ []) old (Some new)
  continues-nearer b new old path e k = record { picked = λ done o h. more_nearer b new old path e k done h }

  -- from nothing
  pub picked-all : (bs : List Placed) (new : Option Hit) → AreInOrder bs → Continues ray bs None new → IsPicked ray bs new
  picked-all bs new o h = h.picked [] o tt
