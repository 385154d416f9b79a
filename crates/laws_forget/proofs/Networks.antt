-- Networks that are alike except for what viewers forgot.
use Rattle.std.proofs.Common.{◌≡◌, ◌≢◌, ◌⊎◌, inl, inr, ℕ, zero, suc, ◌+◌, List, [], ◌∷◌, length, refl, ap, ◌∙◌, subst}
use Rattle.std.specs.Prelude.{slice_get, slice_set, Some}
use Rattle.share_wire.specs.Messages.{PieceView}
use Rattle.share_wire.specs.declared.message.Body.{Body}
use Rattle.share_wire.specs.declared.message.Body.TheVariants.{Piece}
use Rattle.share_law.specs.Machine.{Machine}
use Rattle.share_law.specs.Host.{HostState}
use Rattle.share_law.specs.Viewer.{Shot}
use Rattle.share_law.specs.Pieces.{Gathering}
use Rattle.share_law.specs.Network.{Network, Seat, with_host, with_seat, with_packet, with_shot}
use Rattle.share_law.proofs.Machines.{IsMachine}
use Rattle.share_law.proofs.Elements.{slice_get_push, slice_get_set, slice_get_left, slice_get_right, slice_get-set}
use Rattle.laws_forget.specs.Network.{IsForgetting}
use Rattle.laws_forget.specs.Whole.{IsPlain, IsSeatOf, IsShotOf}
use Rattle.laws_forget.proofs.Seats as seats

set-other : {X : Type 0} (xs : List X) (v : ℕ) (y : X) (u : ℕ) → u ≢ v → slice_get (slice_set xs v y) u ≡ slice_get xs u
set-other [] v y u ne = refl
set-other (x ∷ xs) zero y zero ne = absurd (ne refl)
set-other (x ∷ xs) zero y (suc u) ne = refl
set-other (x ∷ xs) (suc v) y zero ne = refl
set-other (x ∷ xs) (suc v) y (suc u) ne = set-other xs v y u (λ e. ne (ap suc e))

module _ {W : Type 0} (m : Machine W) (forget : ℕ → W → W) (machine : IsMachine m) (f : IsForgetting m forget) where
  abbrev SeatOf : Seat W → Seat W → Type 0
  SeatOf = IsSeatOf m forget

  abbrev ShotOf : Shot W → Shot W → Type 0
  ShotOf = IsShotOf m forget

  abbrev Keeps : Seat W → Seat W → Seat W → Type 0
  Keeps = seats.Keeps m forget machine f

  -- ---- networks

  abbrev pub HasShot : Network W → Type 0
  HasShot whole = (t : ℕ) × (shot : Shot W) × (slice_get whole.shots t ≡ Some shot)

  abbrev pub SeatIn : Network W → ℕ → Seat W → Type 0
  SeatIn whole v x = (y : Seat W) × (slice_get whole.viewers v ≡ Some y) × SeatOf x y × ((g : Gathering) → x.gathering ≡ Some g → HasShot whole)

  abbrev pub ShotIn : Network W → Shot W → Type 0
  ShotIn whole shot = (t : ℕ) × (other : Shot W) × (slice_get whole.shots t ≡ Some other) × ShotOf shot other

  abbrev pub PlainIn : Network W → Body → Type 0
  PlainIn whole body = IsPlain body × ((q : ℕ) × (slice_get whole.sent q ≡ Some body))

  abbrev pub PieceIn : Network W → Body → Type 0
  PieceIn whole body = (p : PieceView) × (body ≡ Piece p) × HasShot whole

  abbrev pub SentIn : Network W → Body → Type 0
  SentIn whole body = PlainIn whole body ⊎ PieceIn whole body

  pub record Like (net whole : Network W) : Type 0 where
    pub host : net.host ≡ whole.host
    pub viewers : (v : ℕ) (x : Seat W) → slice_get net.viewers v ≡ Some x → SeatIn whole v x
    pub shots : (s : ℕ) (shot : Shot W) → slice_get net.shots s ≡ Some shot → ShotIn whole shot
    pub sent : (p : ℕ) (body : Body) → slice_get net.sent p ≡ Some body → SentIn whole body

  pub like-host : (net whole : Network W) (h k : HostState) → h ≡ k → Like net whole → Like (with_host net h) (with_host whole k)
  like-host net whole h k e l = record { host = e; viewers = l.viewers; shots = l.shots; sent = l.sent }

  pub sent-more : (whole : Network W) (body more : Body) → SentIn whole body → SentIn (with_packet whole more) body
  sent-more whole body more (inl h) = inl (h.0, (h.1.0, slice_get_left whole.sent (more ∷ []) h.1.0 body h.1.1))
  sent-more whole body more (inr h) = inr h

  pub like-packet : (net whole : Network W) (body : Body) → IsPlain body → Like net whole → Like (with_packet net body) (with_packet whole body)
  like-packet net whole body plain l = record {
    host = l.host;
    viewers = l.viewers;
    shots = l.shots;
    sent = λ p b at. elim (slice_get_push net.sent body p b at) [
      | inl old ↦ sent-more whole b body (l.sent p b old)
      | inr this ↦ subst (λ (z : Body). SentIn (with_packet whole body) z) this.1 (inl (plain, (length whole.sent + 0, slice_get_right whole.sent (body ∷ []) 0)))
    ];
  }

  pub like-piece : (net whole : Network W) (p : PieceView) → HasShot whole → Like net whole → Like (with_packet net (Piece p)) whole
  like-piece net whole p has l = record {
    host = l.host;
    viewers = l.viewers;
    shots = l.shots;
    sent = λ i b at. elim (slice_get_push net.sent (Piece p) i b at) [
      | inl old ↦ l.sent i b old
      | inr this ↦ subst (λ (z : Body). SentIn whole z) this.1 (inr (p, refl, has))
    ];
  }

  pub like-shot : (net whole : Network W) (shot other : Shot W) → ShotOf shot other → Like net whole → Like (with_shot net shot) (with_shot whole other)
  like-shot net whole shot other s l =
      let more : HasShot whole → HasShot (with_shot whole other) = λ h. (h.0, h.1, slice_get_left whole.shots (other ∷ []) h.0 h.1 h.2) in
      record {
        host = l.host;
        viewers = λ v x at. let i : SeatIn whole v x = l.viewers v x at in (i.0, i.1, i.2, λ g e. more (i.3 g e));
        shots = λ t k at. elim (slice_get_push net.shots shot t k at) [
          | inl old ↦ let i : ShotIn whole k = l.shots t k old in (i.0, i.1, slice_get_left whole.shots (other ∷ []) i.0 i.1 i.2, i.3)
          | inr this ↦ subst (λ (z : Shot W). ShotIn (with_shot whole other) z) this.1 (length whole.shots + 0, other, slice_get_right whole.shots (other ∷ []) 0, s)
        ];
        sent = λ p b at. elim (l.sent p b at) [ inl h ↦ inl h | inr h ↦ inr (h.0, h.1, more h.2) ];
      }

  pub like-seat : (net whole : Network W) (v : ℕ) (x new over : Seat W) → Like net whole → (i : SeatIn whole v x) → Keeps x new over → Like (with_seat net v new) (with_seat whole v over)
  like-seat net whole v x new over l i k = record {
    host = l.host;
    shots = l.shots;
    sent = l.sent;
    viewers = λ u z at. elim (slice_get_set net.viewers v new u z at) [
      | inl old ↦ let o : SeatIn whole u z = l.viewers u z old.1 in (o.0, set-other whole.viewers v over u old.0 ∙ o.1, o.2, o.3)
      | inr this ↦ subst (λ (y : Seat W). SeatIn (with_seat whole v over) u y) this.1
          (over, ap (slice_get (slice_set whole.viewers v over)) this.0 ∙ slice_get-set whole.viewers v i.0 over i.1, k.0, λ g e. i.3 g (k.1 g e))
    ];
  }

  pub like-alone : (net whole : Network W) (v : ℕ) (new : Seat W) → Like net whole → SeatIn whole v new → Like (with_seat net v new) whole
  like-alone net whole v new l i = record {
    host = l.host;
    shots = l.shots;
    sent = l.sent;
    viewers = λ u z at. elim (slice_get_set net.viewers v new u z at) [
      | inl old ↦ l.viewers u z old.1
      | inr this ↦ subst (λ (y : Seat W). SeatIn whole u y) this.1 (i.0, ap (slice_get whole.viewers) this.0 ∙ i.1, i.2, i.3)
    ];
  }
