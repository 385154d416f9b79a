-- What comes through a guarded port.
use Rattle.std.proofs.Common.{◌≡◌, ◌-◌, ℕ, zero, suc, Bool, true, false, List, [], ◌∷◌, Option, None, Some, Result, Ok, Err, length, take, refl, sym, ap, subst, ◌∙◌, inl, inr, arith}
use Rattle.std.specs.declared.net.socket_addr.SocketAddr.{SocketAddr}
use Rattle.share_session.specs.Decoding.{decoded}
use Rattle.share_turns.specs.Told.{Grows}
use Rattle.share_turns.specs.declared.port.PortFault.{PortFault}
use Rattle.share_turns.specs.declared.traffic.Traffic.{Traffic}
use Rattle.share_turns.specs.declared.traffic.Traffic.TheVariants.{Received}
use Rattle.share_guards.specs.declared.guard.Guard.{Guard}
use Rattle.share_guards.specs.declared.kind.Kind.{Kind}
use Rattle.share_guards.specs.declared.kind.Kind.TheVariants.{Greets, Asks, Offers, Strange}
use Rattle.share_guards.specs.declared.coming.Coming.{Coming}
use Rattle.share_guards.specs.declared.coming.Coming.TheVariants as coming
use Rattle.share_guards.specs.Guard.{after_came, after_take, dropping, hands_on, takes}
use Rattle.share_guards.specs.Kinds.{kind_in}
use Rattle.share_guards.specs.Passing.{Comes, ComesOne, DropsOne, EndsBy, HandsOne, IsCutShort, Moment, coming_at, coming_if}

front : (n : ℕ) (xs : List ℕ) → take (length (take n xs)) xs ≡ take n xs
front zero xs = refl
front (suc n) [] = refl
front (suc n) (x ∷ xs) = ap (λ (l : List ℕ). x ∷ l) (front n xs)

-- ---- what isn't handed on is dropped

untaken : (g : Guard) (peer : ℕ) (q : SocketAddr) (who : ℕ) (is_offer : Bool) → takes g peer q who is_offer ≡ false → after_take g peer q who is_offer ≡ dropping g
untaken g peer q who is_offer e = rw e refl

unhanded : (g : Guard) (peer : ℕ) (place : Option SocketAddr) (kind : Kind) (count : ℕ) → hands_on g peer place kind ≡ false → after_came g peer place kind count ≡ dropping g
unhanded g peer None kind count e = refl
unhanded g peer (Some q) (Greets who cookie) count e = absurd cc
unhanded g peer (Some q) (Asks who) count e = untaken g peer q who false e
unhanded g peer (Some q) (Offers who) count e = untaken g peer q who true e
unhanded g peer (Some q) Strange count e = refl

-- ---- one receive

module _ {P : Type 0} (told : P → Option (List Traffic)) (place_of : P → ℕ → Option SocketAddr) where
  module _ (a b : Moment P) (peer count : ℕ) (into : List ℕ) where
    abbrev bytes : List ℕ
    bytes = take count into

    abbrev kind : Kind
    kind = kind_in (decoded bytes)

    abbrev place : Option SocketAddr
    place = place_of b.port peer

    abbrev Arrived : Type 0
    Arrived = Grows (told a.port) (told b.port) (Received (record { peer = peer; bytes = bytes }) ∷ [])

    came_if : (t : Bool) → hands_on a.guard peer place kind ≡ t → Arrived → b.guard ≡ after_came a.guard peer place kind (length bytes)
        → ComesOne told place_of a b into (Ok (coming_if t peer (length bytes)))
    came_if true is grows new = subst (λ (l : List ℕ). HandsOne told place_of a b peer l) (sym (front count into)) (grows, is, new)
    came_if false is grows new = (record { peer = peer; bytes = bytes }, grows, is, new ∙ unhanded a.guard peer place kind (length bytes) is)

    pub came_one : (result : Coming) → Grows (told a.port) (told b.port) (Received (record { peer = peer; bytes = take count into }) ∷ [])
        → result ≡ coming_at a.guard peer (place_of b.port peer) (take count into)
        → b.guard ≡ after_came a.guard peer (place_of b.port peer) (kind_in (decoded (take count into))) (length (take count into))
        → ComesOne told place_of a b into (Ok result)
    came_one result grows is new =
        subst (λ (r : Coming). ComesOne told place_of a b into (Ok r)) (sym is) (came_if (hands_on a.guard peer place kind) refl grows new)

  -- ---- one after another

  ends_then : (n : ℕ) (a b z : Moment P) (into : List ℕ) (last : Result Coming PortFault) → DropsOne told place_of a b
      → EndsBy told place_of n b z into last → EndsBy told place_of (suc n) a z into last
  ends_then n a b z into last x y = (b ∷ y.0, (x, y.1), omega (arith, y.2), y.3)

  cut_then : (n : ℕ) (a b z : Moment P) → DropsOne told place_of a b → IsCutShort told place_of n b z → IsCutShort told place_of (suc n) a z
  cut_then n a b z x y = (b ∷ y.0, (x, y.1), ap suc y.2, y.3)

  comes_then : (n : ℕ) (a b z : Moment P) (into : List ℕ) (result : Result (Option (ℕ × ℕ)) PortFault)
      → DropsOne told place_of a b → Comes told place_of n b z into result → Comes told place_of (suc n) a z into result
  comes_then n a b z into (Ok None) x (inl y) = inl (ends_then n a b z into (Ok coming.Nothing) x y)
  comes_then n a b z into (Ok None) x (inr y) = inr (cut_then n a b z x y)
  comes_then n a b z into (Ok (Some r)) x y = ends_then n a b z into (Ok (coming.Handed r.0 r.1)) x y
  comes_then n a b z into (Err fault) x y = ends_then n a b z into (Err fault) x y

  -- what came of one receive, by its answer
  came_is : (a b : Moment P) (into : List ℕ) (one : Result Coming PortFault) (came other : Coming) → one ≡ Ok came → came ≡ other
      → ComesOne told place_of a b into one → ComesOne told place_of a b into (Ok other)
  came_is a b into one came other is same x =
      subst (λ (r : Coming). ComesOne told place_of a b into (Ok r)) same
      (subst (λ (r : Result Coming PortFault). ComesOne told place_of a b into r) is x)

  pub dropped_then : (m : ℕ) (a b z : Moment P) (from into : List ℕ) (one : Result Coming PortFault) (came : Coming) (result : Result (Option (ℕ × ℕ)) PortFault)
      → (m ≡ 0 → ⊥) → one ≡ Ok came → came ≡ coming.Dropped → ComesOne told place_of a b from one → Comes told place_of (m - 1) b z into result
      → Comes told place_of m a z into result
  dropped_then m a b z from into one came result some is drops x y =
      let less : suc (m - 1) ≡ m = omega (arith, some) in
      subst (λ (n : ℕ). Comes told place_of n a z into result) less
      (comes_then (m - 1) a b z into result (came_is a b from one came coming.Dropped is drops x) y)

  pub ended : (m : ℕ) (a b : Moment P) (into : List ℕ) (last : Result Coming PortFault) → (m ≡ 0 → ⊥) → ComesOne told place_of a b into last
      → EndsBy told place_of m a b into last
  ended m a b into last some x = ([], tt, omega (arith, some), x)

  pub ended_by : (m : ℕ) (a b : Moment P) (into : List ℕ) (one : Result Coming PortFault) (came other : Coming) → (m ≡ 0 → ⊥) → one ≡ Ok came
      → came ≡ other → ComesOne told place_of a b into one → EndsBy told place_of m a b into (Ok other)
  ended_by m a b into one came other some is same x = ended m a b into (Ok other) some (came_is a b into one came other is same x)

  pub failed_by : (m : ℕ) (a b : Moment P) (into : List ℕ) (one : Result Coming PortFault) (fault : PortFault) → (m ≡ 0 → ⊥) → one ≡ Err fault
      → ComesOne told place_of a b into one → EndsBy told place_of m a b into (Err fault)
  failed_by m a b into one fault some is x =
      ended m a b into (Err fault) some (subst (λ (r : Result Coming PortFault). ComesOne told place_of a b into r) is x)

  pub cut : (m : ℕ) (a : Moment P) → m ≡ 0 → IsCutShort told place_of m a a
  cut m a none = ([], tt, sym none, refl)
