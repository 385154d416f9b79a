-- Steps of a run, one after another.
use Rattle.std.proofs.Common.{◌≡◌, ℕ, zero, suc, List, [], ◌∷◌, ◌++◌, ap, sym, ◌∙◌, append_assoc, append-nil, subst}
use Rattle.std.specs.Prelude.{Bool, IsTrue, Option, Some, None, slice_get, ⊤}
use Rattle.share_entries.specs.Entry.{EntryView}
use Rattle.share_logged.specs.Shown.{Shows}
use Rattle.share_store.specs.OneLog.{Begins}
use Rattle.share_turns.specs.declared.traffic.Datagram.{Datagram}
use Rattle.share_turns.specs.declared.traffic.Traffic.{Traffic}
use Rattle.share_turns.specs.declared.traffic.Traffic.TheVariants.{Sent}
use Rattle.app_standby.specs.Shared.{AreShownOf, IsShownOf, ShowsFirst}
use Rattle.app_standby.specs.Steps.{Goes, Moment, moment}

pub begins-same : (k : List EntryView) → Begins k k
begins-same k = ([], sym (append-nil k))

pub begins-then : (a b c : List EntryView) → Begins a b → Begins b c → Begins a c
begins-then a b c m n = (m.0 ++ n.0, n.1 ∙ ap (λ (l : List EntryView). l ++ n.0) m.1 ∙ append_assoc a m.0 n.0)

pub begins-equal : (k l : List EntryView) → l ≡ k → Begins k l
begins-equal k l same = ([], same ∙ sym (append-nil k))

-- with the entries below
pub begins-below : (below a b : List EntryView) → Begins a b → Begins (below ++ a) (below ++ b)
begins-below below a b m = (m.0, ap (λ (l : List EntryView). below ++ l) m.1 ∙ sym (append_assoc below a m.0))

-- ---- what was sent

shown-at : (mark : List ℕ) (v : ℕ) (k : List EntryView) (xs ys : List Traffic) → AreShownOf mark v k xs → AreShownOf mark v k ys → (n : ℕ) (d : Datagram) → slice_get (xs ++ ys) n ≡ Some (Sent d)
    → IsShownOf mark v k d.bytes
shown-at mark v k [] ys a b n d e = b n d e
shown-at mark v k (x ∷ xs) ys a b zero d e = a zero d e
shown-at mark v k (x ∷ xs) ys a b (suc n) d e = shown-at mark v k xs ys (λ m f is. a (suc m) f is) b n d e

shown-append : (mark : List ℕ) (v : ℕ) (k : List EntryView) (xs ys : List Traffic) → AreShownOf mark v k xs → AreShownOf mark v k ys → AreShownOf mark v k (xs ++ ys)
shown-append mark v k xs ys a b = λ n d e. shown-at mark v k xs ys a b n d e

-- with more entries
pub first-more : (mark : List ℕ) (v : ℕ) (k l : List EntryView) (a b : Option (List Traffic)) → ShowsFirst mark v k a b → Begins k l → ShowsFirst mark v l a b
first-more mark v k l None b s more = tt
first-more mark v k l (Some x) None s more = absurd s
first-more mark v k l (Some x) (Some y) s more =
    (s.0, s.1, λ n d is. let one = s.2 n d is in (one.0, begins-then one.0 k l one.1 more, one.2))

pub first-then : (mark : List ℕ) (v : ℕ) (k : List EntryView) (a b c : Option (List Traffic)) → ShowsFirst mark v k a b → ShowsFirst mark v k b c → ShowsFirst mark v k a c
first-then mark v k None b c s t = tt
first-then mark v k (Some x) None c s t = absurd s
first-then mark v k (Some x) (Some y) None s t = absurd t
first-then mark v k (Some x) (Some y) (Some z) s t =
    (s.0 ++ t.0, t.1 ∙ ap (λ (l : List Traffic). l ++ t.0) s.1 ∙ append_assoc x s.0 t.0, shown-append mark v k s.0 t.0 s.2 t.2)

-- a turn of share_logged
pub shows-first : (mark : List ℕ) (v : ℕ) (k : List EntryView) (a b : Option (List Traffic)) → Shows mark v k a b → ShowsFirst mark v k a b
shows-first mark v k None b s = tt
shows-first mark v k (Some x) None s = absurd s
shows-first mark v k (Some x) (Some y) s = (s.0, s.1, λ n d is. (k, begins-same k, s.2 n d is))

-- nothing was sent
shows-none : (mark : List ℕ) (v : ℕ) (k : List EntryView) (a : Option (List Traffic)) → ShowsFirst mark v k a a
shows-none mark v k None = tt
shows-none mark v k (Some x) = ([], sym (append-nil x), λ n d is. absurd cc)

shows-same : (mark : List ℕ) (v : ℕ) (k : List EntryView) (a b : Option (List Traffic)) → b ≡ a → ShowsFirst mark v k a b
shows-same mark v k a b same = subst (λ (o : Option (List Traffic)). ShowsFirst mark v k a o) (sym same) (shows-none mark v k a)

-- ---- steps

-- a reading: nothing was sent
pub read-goes : (mark : List ℕ) (v : ℕ) (below known new all : List EntryView) (p q : Bool) (a b : Option (List Traffic)) (was is : Type 0) → (IsTrue q → IsTrue p) → (IsTrue q → all ≡ known ++ new) → b ≡ a
    → (IsTrue q → was → is) → Goes mark v (moment (below ++ known) p a) (moment (below ++ all) q b) was is
read-goes mark v below known new all p q a b was is clean read told stays = record {
  clean = clean;
  grows = λ x. begins-below below known all (new, read x);
  shown = λ x w. shows-same mark v (below ++ all) a b told;
  stays = stays;
}

pub goes-then : (mark : List ℕ) (v : ℕ) (a b c : Moment) (was mid is : Type 0) → Goes mark v a b was mid → Goes mark v b c mid is → Goes mark v a c was is
goes-then mark v a b c was mid is g h = record {
  clean = λ x. g.clean (h.clean x);
  grows = λ x. begins-then a.known b.known c.known (g.grows (h.clean x)) (h.grows x);
  shown = λ x w.
      first-then mark v c.known a.told b.told c.told
      (first-more mark v b.known c.known a.told b.told (g.shown (h.clean x) w) (h.grows x))
      (h.shown x (g.stays (h.clean x) w));
  stays = λ x w. h.stays x (g.stays (h.clean x) w);
}

-- what holds besides
pub goes-under : (mark : List ℕ) (v : ℕ) (a b : Moment) (beside was is : Type 0) → Goes mark v a b was is → Goes mark v a b (beside × was) is
goes-under mark v a b beside was is g = record { clean = g.clean; grows = g.grows; shown = λ x w. g.shown x w.1; stays = λ x w. g.stays x w.1 }

pub goes-beside : (mark : List ℕ) (v : ℕ) (a b : Moment) (beside was is : Type 0) → Goes mark v a b was is → Goes mark v a b (beside × was) (beside × is)
goes-beside mark v a b beside was is g = record { clean = g.clean; grows = g.grows; shown = λ x w. g.shown x w.1; stays = λ x w. (w.0, g.stays x w.1) }

-- nothing is said of the host after it
pub goes-over : (mark : List ℕ) (v : ℕ) (a b : Moment) (was is : Type 0) → Goes mark v a b was is → Goes mark v a b was ⊤
goes-over mark v a b was is g = record { clean = g.clean; grows = g.grows; shown = g.shown; stays = λ x w. tt }
