-- A window that is drained input by input.
use Rattle.std.proofs.Common.{◌≡◌, ℕ, suc, ◌+◌, ◌-◌, ◌<◌, Bool, true, false, cond, List, [], ◌∷◌, ◌++◌, length, replicate, drop, refl, ap, sym, ◌∙◌, subst, inl, inr, arith, append_assoc, length-append, add-one}
use Rattle.std.specs.Prelude.{slice_get, slice_set, int_lt, ◌==◌, Option, Some, None, Result, Ok, Err}
use Rattle.std.proofs.lemmas.Bool.{cond_both, cond-true, cond-false}
use Rattle.std.proofs.lemmas.List.{append-nil}
use Rattle.std.proofs.lemmas.Option.{same_Some, none-some}
use Rattle.x3d_values.specs.Stamp.{StampedView}
use Rattle.share_rules.specs.Window.{window_places}
use Rattle.cascade_core.specs.Course.{Scripted}
use Rattle.cascade_core.specs.Held.{Held, Running, Spoiled}
use Rattle.share_law.specs.declared.fault.TakeFault.{TakeFault}
use Rattle.share_law.specs.declared.fault.TakeFault.TheVariants as take_fault
use Rattle.share_law.specs.declared.reply.Taken.{Taken}
use Rattle.share_law.specs.declared.reply.Taken.TheVariants as taken
use Rattle.share_law.specs.Machine.{Machine}
use Rattle.share_law.specs.Viewer.{Drained, drain, one_more, refilled, input_answer}
use Rattle.share_core.specs.Ahead.{IsDrained}

-- one more empty place at the end changes nothing but the rest
pub record Longer {W : Type 0} (d e : Drained W) : Type 0 where
  pub state : d.state ≡ e.state
  pub rest : d.rest ++ None ∷ [] ≡ e.rest
  pub count : d.count ≡ e.count
  pub stuck : d.stuck ≡ e.stuck

abbrev stopped : {W : Type 0} → W → List (Option StampedView) → Drained W
stopped w ws = record { state = w; rest = None ∷ ws; count = 0; stuck = true }

drain-push : {W : Type 0} (m : Machine W) (w : W) (ws : List (Option StampedView)) → Longer (drain m w ws) (drain m w (ws ++ None ∷ []))
drain-push m w [] = record { state = refl; rest = refl; count = refl; stuck = refl }
drain-push m w (None ∷ ws) = record { state = refl; rest = refl; count = refl; stuck = refl }
drain-push {W} m w (Some x ∷ ws) =
    let h : Longer (drain m (m.apply w x) ws) (drain m (m.apply w x) (ws ++ None ∷ [])) = drain-push m (m.apply w x) ws in
    elim (int_lt (m.last w) x.time) as (λ b. Longer
    (cond b (one_more (drain m (m.apply w x) ws)) (stopped w ws))
    (cond b (one_more (drain m (m.apply w x) (ws ++ None ∷ []))) (stopped w (ws ++ None ∷ [])))) [
      | true ↦ record { state = h.state; rest = h.rest; count = ap suc h.count; stuck = h.stuck }
      | false ↦ record { state = refl; rest = refl; count = refl; stuck = refl }
    ]

drain-length : {W : Type 0} (m : Machine W) (w : W) (ws : List (Option StampedView)) → length (drain m w ws).rest + (drain m w ws).count ≡ length ws
drain-length m w [] = refl
drain-length m w (None ∷ ws) = omega arith
drain-length {W} m w (Some x ∷ ws) =
    let P : Drained W → Type 0 = λ d. length d.rest + d.count ≡ suc (length ws) in
    cond_both (int_lt (m.last w) x.time) (one_more (drain m (m.apply w x) ws)) (stopped w ws) P
    (λ _. omega (arith, drain-length m (m.apply w x) ws)) (λ _. omega arith)

refilled-push : (ws : List (Option StampedView)) → length ws < window_places → refilled (ws ++ None ∷ []) ≡ refilled ws
refilled-push ws h =
    let none : Option StampedView = None in
    let n : window_places - length (ws ++ none ∷ []) + 1 ≡ window_places - length ws = omega (arith, length-append ws (none ∷ [])) in
    append_assoc ws (none ∷ []) (replicate (window_places - length (ws ++ none ∷ [])) none)
    ∙ ap (λ l. ws ++ l) (rw (← n) (rw add-one refl))

refilled-full : (ws : List (Option StampedView)) → length ws ≡ window_places → refilled ws ≡ ws
refilled-full ws h =
    let none : Option StampedView = None in
    let n : window_places - length ws ≡ 0 = omega (arith, h) in
    ap (λ k. ws ++ replicate k none) n ∙ append-nil ws

-- what stands at the front
pub front_is : (ws : List (Option StampedView)) (o : Option StampedView) → slice_get ws 0 ≡ Some o → ws ≡ o ∷ drop 1 ws
front_is [] o e = absurd (none-some o e)
front_is (y ∷ ws) o e = ap (λ z. z ∷ ws) (same_Some y o e)

-- after count inputs of the window at the start, w and now are left
pub record Goes {W : Type 0} (m : Machine W) (first : W) (ws : List (Option StampedView)) (w : W) (now : List (Option StampedView)) (count : ℕ) : Type 0 where
  pub applied : m.applied w ≡ m.applied first + count
  pub state : (drain m first ws).state ≡ (drain m w now).state
  pub rest : refilled (drain m first ws).rest ≡ refilled (drain m w now).rest
  pub total : (drain m first ws).count ≡ count + (drain m w now).count
  pub stuck : (drain m first ws).stuck ≡ (drain m w now).stuck

pub Goes-start : {W : Type 0} (m : Machine W) (w : W) (ws : List (Option StampedView)) → Goes m w ws w ws 0
Goes-start m w ws = record { applied = omega arith; state = refl; rest = refl; total = omega arith; stuck = refl }

drain-applied : {W : Type 0} (m : Machine W) (w : W) (x : StampedView) (later : List (Option StampedView)) → int_lt (m.last w) x.time ≡ true
    → drain m w (Some x ∷ later) ≡ one_more (drain m (m.apply w x) later)
drain-applied m w x later lt = cond-true (int_lt (m.last w) x.time) (one_more (drain m (m.apply w x) later)) (stopped w later) lt

drain-late : {W : Type 0} (m : Machine W) (w : W) (x : StampedView) (later : List (Option StampedView)) → int_lt (m.last w) x.time ≡ false
    → drain m w (Some x ∷ later) ≡ stopped w later
drain-late m w x later ge = cond-false (int_lt (m.last w) x.time) (one_more (drain m (m.apply w x) later)) (stopped w later) ge

-- the front is applied, and the others move up
Goes-shift : {W : Type 0} (m : Machine W) (first : W) (ws : List (Option StampedView)) (w : W) (x : StampedView) (later : List (Option StampedView)) (count : ℕ)
    → length later < window_places → m.applied (m.apply w x) ≡ m.applied w + 1 → int_lt (m.last w) x.time ≡ true
    → Goes m first ws w (Some x ∷ later) count → Goes m first ws (m.apply w x) (later ++ None ∷ []) (count + 1)
Goes-shift {W} m first ws w x later count room more lt h =
    let d : Drained W = drain m (m.apply w x) later in
    let l : Longer d (drain m (m.apply w x) (later ++ None ∷ [])) = drain-push m (m.apply w x) later in
    let one : drain m w (Some x ∷ later) ≡ one_more d = drain-applied m w x later lt in
    let short : length d.rest < window_places = omega (arith, drain-length m (m.apply w x) later, room) in
    record {
      applied = omega (arith, more, h.applied);
      state = h.state ∙ ap (λ (z : Drained W). z.state) one ∙ l.state;
      rest = h.rest ∙ ap (λ (z : Drained W). refilled z.rest) one ∙ sym (refilled-push d.rest short) ∙ ap refilled l.rest;
      total = omega (arith, h.total, ap (λ (z : Drained W). z.count) one, l.count);
      stuck = h.stuck ∙ ap (λ (z : Drained W). z.stuck) one ∙ l.stuck;
    }

pub Goes-next : {W : Type 0} (m : Machine W) (first : W) (ws : List (Option StampedView)) (w : W) (now rest : List (Option StampedView)) (x : StampedView) (count : ℕ)
    → length now ≡ window_places → slice_get now 0 ≡ Some (Some x) → m.applied (m.apply w x) ≡ m.applied w + 1 → int_lt (m.last w) x.time ≡ true → rest ≡ drop 1 now ++ None ∷ []
    → Goes m first ws w now count → Goes m first ws (m.apply w x) rest (count + 1)
Goes-next m first ws w now rest x count room front more lt moved h =
    subst (λ l. Goes m first ws (m.apply w x) l (count + 1)) (sym moved)
    (Goes-shift m first ws w x (drop 1 now) count (omega (arith, ap length (front_is now (Some x) front), room)) more lt
    (subst (λ l. Goes m first ws w l count) (front_is now (Some x) front) h))

-- fewer are left to apply
pub Goes-smaller : {W : Type 0} (m : Machine W) (first : W) (ws : List (Option StampedView)) (w next : W) (now rest : List (Option StampedView)) (count : ℕ)
    → Goes m first ws w now count → Goes m first ws next rest (count + 1) → (drain m next rest).count < (drain m w now).count
Goes-smaller m first ws w next now rest count h g = omega (arith, g.total, h.total)

-- ---- how it ends

drained-at : {W : Type 0} (m : Machine W) (first : W) (ws : List (Option StampedView)) (w : W) (now : List (Option StampedView)) (count : ℕ) (o : Option StampedView)
    → slice_get now 0 ≡ Some o → Goes m first ws w now count → Goes m first ws w (o ∷ drop 1 now) count
drained-at m first ws w now count o front h = subst (λ l. Goes m first ws w l count) (front_is now o front) h

-- the next input did not come
pub drained-gap : (m : Machine Scripted) (first : Scripted) (ws : List (Option StampedView)) (w : Scripted) (now rest : List (Option StampedView)) (held : Held) (count : ℕ)
    → length now ≡ window_places → slice_get now 0 ≡ Some None → held ≡ Running w → rest ≡ now → Goes m first ws w now count
    → IsDrained m first ws (cond (count == 0) (Ok taken.Held) (Ok (taken.Applied count))) held rest
drained-gap m first ws w now rest held count room front is same h =
    let g : Goes m first ws w (None ∷ drop 1 now) count = drained-at m first ws w now count None front h in
    let total : (drain m first ws).count ≡ count = omega (arith, g.total) in
    let answer : input_answer (drain m first ws) ≡ cond (count == 0) (Ok taken.Held) (Ok (taken.Applied count)) =
    ap (λ (b : Bool). cond b (Err take_fault.TimeNotLater) (cond ((drain m first ws).count == 0) (Ok taken.Held) (Ok (taken.Applied (drain m first ws).count)))) g.stuck
    ∙ ap (λ (n : ℕ). cond (n == 0) (Ok taken.Held) (Ok (taken.Applied n))) total in
    inl (
      sym answer,
      is ∙ ap Running (sym g.state),
      same ∙ front_is now None front ∙ sym (refilled-full (None ∷ drop 1 now) (ap length (sym (front_is now None front)) ∙ room)) ∙ sym g.rest,
    )

-- the next input isn't later than the last
pub drained-late : (m : Machine Scripted) (first : Scripted) (ws : List (Option StampedView)) (w : Scripted) (now rest : List (Option StampedView)) (held : Held) (count : ℕ) (x : StampedView) (fault : TakeFault)
    → length now ≡ window_places → slice_get now 0 ≡ Some (Some x) → fault ≡ take_fault.TimeNotLater → int_lt (m.last w) x.time ≡ false → held ≡ Running w → rest ≡ slice_set now 0 None
    → Goes m first ws w now count → IsDrained m first ws (Err fault) held rest
drained-late m first ws w now rest held count x fault room front late ge is left h =
    let g : Goes m first ws w (Some x ∷ drop 1 now) count = drained-at m first ws w now count (Some x) front h in
    let one : drain m w (Some x ∷ drop 1 now) ≡ stopped w (drop 1 now) = drain-late m w x (drop 1 now) ge in
    let stuck : (drain m first ws).stuck ≡ true = g.stuck ∙ ap (λ (z : Drained Scripted). z.stuck) one in
    let full : length (None ∷ drop 1 now) ≡ window_places = ap length (sym (front_is now (Some x) front)) ∙ room in
    let answer : input_answer (drain m first ws) ≡ Err take_fault.TimeNotLater =
    cond-true (drain m first ws).stuck (Err take_fault.TimeNotLater) (cond ((drain m first ws).count == 0) (Ok taken.Held) (Ok (taken.Applied (drain m first ws).count))) stuck in
    inl (
      ap (λ (f : TakeFault). let z : Result Taken TakeFault = Err f in z) late ∙ sym answer,
      is ∙ ap Running (sym (g.state ∙ ap (λ (z : Drained Scripted). z.state) one)),
      left ∙ ap (λ (l : List (Option StampedView)). slice_set l 0 None) (front_is now (Some x) front)
          ∙ sym (refilled-full (None ∷ drop 1 now) full) ∙ sym (g.rest ∙ ap (λ (z : Drained Scripted). refilled z.rest) one),
    )

-- memory was refused at the next input
pub drained-refused : (m : Machine Scripted) (first : Scripted) (ws : List (Option StampedView)) (w : Scripted) (now rest : List (Option StampedView)) (held : Held) (count : ℕ) (x : StampedView) (fault : TakeFault)
    → slice_get now 0 ≡ Some (Some x) → fault ≡ take_fault.Memory → int_lt (m.last w) x.time ≡ true → held ≡ Spoiled (m.applied w)
    → Goes m first ws w now count → IsDrained m first ws (Err fault) held rest
drained-refused m first ws w now rest held count x fault front memory lt is h =
    let g : Goes m first ws w (Some x ∷ drop 1 now) count = drained-at m first ws w now count (Some x) front h in
    let one : (drain m w (Some x ∷ drop 1 now)).count ≡ suc (drain m (m.apply w x) (drop 1 now)).count = ap (λ (z : Drained Scripted). z.count) (drain-applied m w x (drop 1 now) lt) in
    inr (
      ap (λ (f : TakeFault). let z : Result Taken TakeFault = Err f in z) memory,
      (count, omega (arith, g.total, one), is ∙ ap Spoiled g.applied),
    )
