-- What the host and each viewer did in rounds.
use Rattle.std.proofs.Common.{◌≡◌, ◌≢◌, ◌⊎◌, inl, inr, ℕ, zero, suc, Bool, List, [], ◌∷◌, length, refl, ap, sym, ◌∙◌, subst, arith}
use Rattle.std.specs.Prelude.{slice_get, slice_set, Option, Some, Result, Ok, Err}
use Rattle.std.proofs.lemmas.Option.{same_Some}
use Rattle.x3d_values.specs.Stamp.{StampedView}
use Rattle.share_core.specs.Viewer.{ViewerView, with_state}
use Rattle.share_law.proofs.Elements.{slice_get-set}
use Rattle.share_turns.specs.declared.fault.SeriesFault.{SeriesFault}
use Rattle.share_turns.specs.declared.fault.SeriesFault.TheVariants as series
use Rattle.share_turns.specs.declared.fault.TurnFault.{TurnFault}
use Rattle.share_turns.specs.Agreeing.{Rounds, IsAgreeEnd, due}
use Rattle.share_turns.specs.Issuing.{clock_of, offer_of}
use Rattle.share_turns.specs.Round.{IsFirstTurn, IsRoundEnd, IsRoundOf, Meeting}
use Rattle.share_turns.specs.Seats.{IsSeatTurn, SeatTurns, Seats, Ways}
use Rattle.laws_turns.specs.HostDoings.{HostDoes}
use Rattle.laws_turns.specs.Rounds.{EachDoes, Follows, RoundsAreCalls}
use Rattle.laws_turns.specs.ViewerDoings.{ViewerDoes}
use Rattle.laws_turns.proofs.Hosts.{does_none, does_then}
use Rattle.laws_turns.proofs.HostTurns.{host_turns_are_calls}
use Rattle.laws_turns.proofs.Viewers as viewers
use Rattle.laws_turns.proofs.ViewerTurns.{viewer_turns_are_calls}

-- ---- places

not-zero : (v : ℕ) → zero ≡ suc v → ⊥
not-zero v e = omega (arith, e)

same-place : (u v : ℕ) → (u ≡ v) ⊎ (u ≢ v)
same-place zero zero = inl refl
same-place zero (suc v) = inr (not-zero v)
same-place (suc u) zero = inr (λ e. not-zero u (sym e))
same-place (suc u) (suc v) = elim (same-place u v) [ inl e ↦ inl (ap suc e) | inr ne ↦ inr (λ e. ne (let p : u ≡ v = omega (arith, e) in p)) ]

other-place : {X : Type 0} (xs : List X) (v u : ℕ) (y : X) → u ≢ v → slice_get (slice_set xs v y) u ≡ slice_get xs u
other-place [] v u y ne = refl
other-place (x ∷ xs) zero zero y ne = absurd (ne refl)
other-place (x ∷ xs) zero (suc u) y ne = refl
other-place (x ∷ xs) (suc v) zero y ne = refl
other-place (x ∷ xs) (suc v) (suc u) y ne = other-place xs v u y (λ e. ne (ap suc e))

module _ {P : Type 0} (ways : Ways P) where
  -- ---- turns of viewers

  -- viewer `who` and its port after turns of viewers, and what it did
  record After (new : Seats P) (who : ℕ) (v : ViewerView) (port : P) : Type 0 where
    now : ViewerView
    left : P
    viewer : slice_get new.viewers who ≡ Some now
    port_is : slice_get new.ports who ≡ Some left
    does : ViewerDoes (ways.told port) (ways.told left) v now

  after-none : (new : Seats P) (who : ℕ) (v : ViewerView) (port : P) → slice_get new.viewers who ≡ Some v → slice_get new.ports who ≡ Some port → After new who v port
  after-none new who v port at at_port = record { now = v; left = port; viewer = at; port_is = at_port; does = viewers.does_none (ways.told port) (ways.told port) v v refl refl }

  one-turn : (step : Option StampedView) (host n : ℕ) (old : Seats P) (result : Result Bool TurnFault) (new : Seats P) → IsSeatTurn ways step host n old result new
      → (who : ℕ) (v : ViewerView) (port : P) → slice_get old.viewers who ≡ Some v → slice_get old.ports who ≡ Some port → After new who v port
  one-turn step host n old result new t who v port at at_port = elim (same-place who n) [
    | inl e ↦ (
        let v_is : t.viewer ≡ v = same_Some t.viewer v (sym t.is_viewer ∙ ap (λ (k : ℕ). slice_get old.viewers k) (sym e) ∙ at) in
        let port_at : t.port ≡ port = same_Some t.port port (sym t.is_port ∙ ap (λ (k : ℕ). slice_get old.ports k) (sym e) ∙ at_port) in
        let did = viewer_turns_are_calls t.viewer host (offer_of step n) (ways.told t.port) (ways.told t.left_port) result t.left t.turn in
        record {
          now = with_state t.viewer t.left;
          left = t.left_port;
          viewer = ap (λ (l : List ViewerView). slice_get l who) t.viewers ∙ ap (λ (k : ℕ). slice_get (slice_set old.viewers n (with_state t.viewer t.left)) k) e ∙ slice_get-set old.viewers n t.viewer (with_state t.viewer t.left) t.is_viewer;
          port_is = ap (λ (l : List P). slice_get l who) t.ports ∙ ap (λ (k : ℕ). slice_get (slice_set old.ports n t.left_port) k) e ∙ slice_get-set old.ports n t.port t.left_port t.is_port;
          does = subst (λ (x : ViewerView). ViewerDoes (ways.told port) (ways.told t.left_port) x (with_state t.viewer t.left)) v_is
              (subst (λ (p : P). ViewerDoes (ways.told p) (ways.told t.left_port) t.viewer (with_state t.viewer t.left)) port_at did);
        }
        )
    | inr ne ↦ after-none new who v port
        (ap (λ (l : List ViewerView). slice_get l who) t.viewers ∙ other-place old.viewers n who (with_state t.viewer t.left) ne ∙ at)
        (ap (λ (l : List P). slice_get l who) t.ports ∙ other-place old.ports n who t.left_port ne ∙ at_port)
  ]

  after-then : (mid new : Seats P) (who : ℕ) (v : ViewerView) (port : P) → After mid who v port
      → ((x : ViewerView) (p : P) → slice_get mid.viewers who ≡ Some x → slice_get mid.ports who ≡ Some p → After new who x p) → After new who v port
  after-then mid new who v port a more =
      let b = more a.now a.left a.viewer a.port_is in
      record {
        now = b.now;
        left = b.left;
        viewer = b.viewer;
        port_is = b.port_is;
        does = viewers.does_then (ways.told port) (ways.told a.left) (ways.told b.left) v a.now b.now a.does b.does;
      }

  seat-turns : (step : Option StampedView) (host n : ℕ) (old : Seats P) (offered : Bool) (new : Seats P) → SeatTurns ways step host n old offered new
      → (who : ℕ) (v : ViewerView) (port : P) → slice_get old.viewers who ≡ Some v → slice_get old.ports who ≡ Some port → After new who v port
  seat-turns step host zero old offered new t who v port at at_port =
      after-none new who v port (ap (λ (s : Seats P). slice_get s.viewers who) t.1 ∙ at) (ap (λ (s : Seats P). slice_get s.ports who) t.1 ∙ at_port)
  seat-turns step host (suc n) old offered new t who v port at at_port =
      after-then t.0 new who v port (seat-turns step host n old t.1 t.0 t.3 who v port at at_port) (λ x p x_at p_at. one-turn step host n t.0 (Ok t.2) new t.4 who x p x_at p_at)

  -- ---- rounds

  first : (mark : List ℕ) (step : Option StampedView) (old : Meeting P) (result : Result (Unit {0}) TurnFault) (new : Meeting P) → IsFirstTurn ways mark step old result new
      → HostDoes mark (ways.told old.port) (ways.told new.port) old.host new.host
  first mark step old result new t = host_turns_are_calls result mark (clock_of step) (ways.told old.port) (ways.told new.port) old.host new.host t.turn

  follows : (new : Meeting P) (who : ℕ) (v : ViewerView) (port : P) → After new.seats who v port → Follows ways new who v port
  follows new who v port a = record { now = a.now; left = a.left; viewer = a.viewer; port_is = a.port_is; does = a.does }

  each-none : (mark : List ℕ) (old new : Meeting P) → new ≡ old → EachDoes ways mark old new
  each-none mark old new same = subst (λ (m : Meeting P). EachDoes ways mark old m) (sym same) (record {
    host = does_none mark (ways.told old.port) (ways.told old.port) old.host old.host refl refl;
    viewers = λ who v port at at_port. follows old who v port (after-none old.seats who v port at at_port);
  })

  each-then : (mark : List ℕ) (old mid new : Meeting P) → EachDoes ways mark old mid → EachDoes ways mark mid new → EachDoes ways mark old new
  each-then mark old mid new one two = record {
    host = does_then mark (ways.told old.port) (ways.told mid.port) (ways.told new.port) old.host mid.host new.host one.host two.host;
    viewers = λ who v port at at_port.
        let a = one.viewers who v port at at_port in
        let b = two.viewers who a.now a.left a.viewer a.port_is in
        record {
          now = b.now;
          left = b.left;
          viewer = b.viewer;
          port_is = b.port_is;
          does = viewers.does_then (ways.told port) (ways.told a.left) (ways.told b.left) v a.now b.now a.does b.does;
        };
  }

  one-round : (mark : List ℕ) (step : Option StampedView) (own : ℕ) (old : Meeting P) (issued : Bool) (new : Meeting P) → IsRoundOf ways mark step own old issued new → EachDoes ways mark old new
  one-round mark step own old issued new r = record {
    host = first mark step old (Ok tt) new r.first;
    viewers = λ who v port at at_port. follows new who v port (seat-turns step own (length old.seats.viewers) old.seats r.offered new.seats r.seated who v port at at_port);
  }

  round-end : (mark : List ℕ) (step : Option StampedView) (own : ℕ) (old : Meeting P) (fault : TurnFault) (new : Meeting P) → IsRoundEnd ways mark step own old fault new → EachDoes ways mark old new
  round-end mark step own old fault new (inl e) = record {
    host = first mark step old (Err fault) new e.0;
    viewers = λ who v port at at_port. follows new who v port (after-none new.seats who v port (ap (λ (s : Seats P). slice_get s.viewers who) e.1 ∙ at) (ap (λ (s : Seats P). slice_get s.ports who) e.1 ∙ at_port));
  }
  round-end mark step own old fault new (inr e) = record {
    host = first mark step old (Ok tt) new e.0;
    viewers = λ who v port at at_port. follows new who v port
        (after-then e.1.mid new.seats who v port (seat-turns step own e.1.done old.seats e.1.offered e.1.mid e.1.before who v port at at_port)
        (λ x p x_at p_at. one-turn step own e.1.done e.1.mid (Err fault) new.seats e.1.last who x p x_at p_at));
  }

  rounds-do : (mark : List ℕ) (steps : List StampedView) (own n : ℕ) (old : Meeting P) (issued : ℕ) (new : Meeting P) → Rounds ways mark steps own n old issued new → EachDoes ways mark old new
  rounds-do mark steps own zero old issued new r = each-none mark old new r.1
  rounds-do mark steps own (suc n) old issued new r =
      each-then mark old r.0 new (rounds-do mark steps own n old r.1 r.0 r.3) (one-round mark (due steps r.1 r.0) own r.0 r.2 new r.5)

  agree-end : (mark : List ℕ) (steps : List StampedView) (own n : ℕ) (old new : Meeting P) (fault : SeriesFault) → IsAgreeEnd ways mark steps own n old fault new → EachDoes ways mark old new
  agree-end mark steps own n old new series.TurnsUsedUp r = rounds-do mark steps own n old r.issued new r.turned
  agree-end mark steps own n old new (series.Turn fault) r =
      each-then mark old r.mid new (rounds-do mark steps own r.done old r.issued r.mid r.turned) (round-end mark (due steps r.issued r.mid) own r.mid fault new r.last)
  agree-end mark steps own n old new (series.Join fault) r = absurd r

  pub rounds_are_calls : RoundsAreCalls ways
  rounds_are_calls = record {
    done = λ mark steps own n old new r. rounds-do mark steps own r.done old (length steps) new r.turned;
    ended = agree-end;
  }
