-- Snapshots that a viewer takes, and the pieces that are sent of them.
use Rattle.std.proofs.Common.{◌≡◌, ℕ, ◌<◌, ◌^◌, inl, inr, List, [], ◌∷◌, ◌++◌, length, refl, ap, sym, ◌∙◌, subst, arith, length-append}
use Rattle.std.specs.Prelude.{slice_get, Option, Some, Result, Ok, Err, OnOk, OnErr}
use Rattle.std.proofs.lemmas.Option.{none-some, same_Some}
use Rattle.std.specs.Option.{option_map}
use Rattle.cascade_core.specs.Course.{Scripted}
use Rattle.share_wire.specs.Decoding.{decoded}
use Rattle.share_wire.specs.declared.message.Body.{Body}
use Rattle.snapshot_core.specs.declared.fault.SaveFault.{SaveFault}
use Rattle.snapshot_core.specs.declared.fault.SaveFault.TheVariants as save_fault
use Rattle.snapshot_core.specs.declared.head.ShotHead.{ShotHead}
use Rattle.snapshot_core.specs.Shot.{shot}
use Rattle.snapshot_core.proofs.ShotHeads.{head_of_shot}
use Rattle.share_law.specs.declared.step.Step.TheVariants.{PiecePacket, ViewerSave}
use Rattle.share_law.specs.CallSteps.{IsSave, Saves, packet_of}
use Rattle.share_law.specs.Machine.{Machine}
use Rattle.share_law.specs.Network.{Network, Seat, Answer, Saved, IsStep, refused_save, step, viewer_saves, viewer_step, with_shot}
use Rattle.share_law.specs.Pieces.{piece_packet}
use Rattle.share_law.specs.Viewer.{ViewerWorld, Running, Spoiled, Shot}
use Rattle.share_law.proofs.Elements.{slice_get_push}
use Rattle.share_core.specs.Pieces.{piece_of, piece_with}
use Rattle.share_core.specs.Viewer.{IfRunning, IfSpoiled, ViewerView}
use Rattle.laws_worlds.proofs.LongTraces.{few-lines}
use Rattle.laws_worlds.proofs.NetworksWorlds.{saved_have}
use Rattle.laws_calls.specs.Peers.{Peers, AreIn, machine_for, viewer_at}
use Rattle.laws_calls.specs.Leads.{SavesAny}
use Rattle.laws_calls.specs.Moves.{PieceSends, ViewerSaves}
use Rattle.laws_calls.proofs.Hosts.{Law, calls, sends}
use Rattle.laws_calls.proofs.Places.{last_there}
use Rattle.laws_calls.proofs.Viewers.{seat_of}

-- ---- a snapshot

-- the three clauses of the call, for a viewer in this world
is-save : (m : Machine Scripted) (boot : ℕ) (view : ViewerWorld Scripted) (result : Result (Unit {0}) SaveFault) (old new : List ℕ)
    → IfSpoiled view ((result ≡ Err save_fault.Spoiled) × (new ≡ old))
    → IfRunning view (λ w. OnOk result (new ≡ old ++ m.text boot w))
    → IfRunning view (λ w. OnErr result ((result ≡ Err save_fault.Memory) × (new ≡ old)))
    → IsSave m boot view result old new
is-save m boot (Spoiled count) result old new spoiled ok err = spoiled
is-save m boot (Running w window) result old new spoiled ok err = (ok, err)

-- a refusal leaves the bytes
left : (m : Machine Scripted) (boot : ℕ) (view : ViewerWorld Scripted) (fault : SaveFault) (old new : List ℕ) → IsSave m boot view (Err fault) old new → new ≡ old
left m boot (Spoiled count) fault old new call = call.1
left m boot (Running w window) fault old new call = call.1.1

-- the step of a save, for a viewer in this world
save-now : (m : Machine Scripted) (net : Network Scripted) (who : ℕ) (x : Seat Scripted) (view : ViewerWorld Scripted) → slice_get net.viewers who ≡ Some x → x.node.view ≡ view → step m net (ViewerSave who) ≡ viewer_saves net who x.node.boot view
save-now m net who x view at is =
    ap (λ (o : Option (Seat Scripted)). viewer_step m net (ViewerSave who) who o) at ∙ ap (λ (w : ViewerWorld Scripted). viewer_saves net who x.node.boot w) is

-- the answers of a save are two
saved-other : (n : ℕ) (fault : SaveFault) → Saved (Err fault) ≡ Saved (Ok n) → ⊥
saved-other n fault e = cc

-- the step of a save appends a snapshot of this viewer's boot
boot-in : (m : Machine Scripted) (net : Network Scripted) (who : ℕ) (x : Seat Scripted) (view : ViewerWorld Scripted) (taken : Shot Scripted) → slice_get net.viewers who ≡ Some x → x.node.view ≡ view
    → IsStep m net (ViewerSave who) (Saved (Ok (length net.shots))) (with_shot net taken) → taken.boot ≡ x.node.boot
boot-in m net who x (Running w window) taken at is (inl e) =
    let made : Shot Scripted = record { viewer = who; boot = x.node.boot; state = w } in
    let now = save-now m net who x (Running w window) at is in
    let same : slice_get (net.shots ++ made ∷ []) (length net.shots) ≡ slice_get (net.shots ++ taken ∷ []) (length net.shots) =
    ap (λ (r : Answer × Network Scripted). slice_get r.1.shots (length net.shots)) (sym now ∙ e) in
    let shots : made ≡ taken = same_Some made taken (sym (last_there net.shots made) ∙ same ∙ last_there net.shots taken) in
    ap (λ (s : Shot Scripted). s.boot) (sym shots)
boot-in m net who x (Spoiled count) taken at is (inl e) =
    absurd (saved-other (length net.shots) save_fault.Spoiled (ap (λ (r : Answer × Network Scripted). r.0) (sym (save-now m net who x (Spoiled count) at is) ∙ e)))
boot-in m net who x (Running w window) taken at is (inr (j, e)) =
    let now = ap (λ (r : Answer × Network Scripted). refused_save net r.0) (save-now m net who x (Running w window) at is) in
    let same = same_Some (Saved (Err save_fault.Memory), net) (Saved (Ok (length net.shots)), with_shot net taken) (sym now ∙ e) in
    absurd (saved-other (length net.shots) save_fault.Memory (ap (λ (r : Answer × Network Scripted). r.0) same))
boot-in m net who x (Spoiled count) taken at is (inr (j, e)) =
    let now = ap (λ (r : Answer × Network Scripted). refused_save net r.0) (save-now m net who x (Spoiled count) at is) in
    absurd (none-some (Saved (Ok (length net.shots)), with_shot net taken) (sym now ∙ e))

module _ (law : Law) (ps : Peers) (net : Network Scripted) (are : AreIn ps net) (who : ℕ) (x : Seat Scripted) (at : slice_get net.viewers who ≡ Some x) where
  boots : (taken : Shot Scripted) → taken.boot < 2 ^ 32 → (s : ℕ) (other : Shot Scripted) → slice_get (with_shot net taken).shots s ≡ Some other → other.boot < 2 ^ 32
  boots taken few s other there = elim (slice_get_push net.shots taken s other there) [
    | inl before ↦ are.boots s other before
    | inr last ↦ subst (λ (z : Shot Scripted). z.boot < 2 ^ 32) last.1 few
  ]

  lines : (taken : Shot Scripted) → length taken.state.world.trace < 2 ^ 64 → (s : ℕ) (other : Shot Scripted) → slice_get (with_shot net taken).shots s ≡ Some other → length other.state.world.trace < 2 ^ 64
  lines taken few s other there = elim (slice_get_push net.shots taken s other there) [
    | inl before ↦ are.lines s other before
    | inr last ↦ subst (λ (z : Shot Scripted). length z.state.world.trace < 2 ^ 64) last.1 few
  ]

  -- the bytes of a snapshot are fewer than those that were appended to, and so are its lines
  few-in : (taken : Shot Scripted) (old new : List ℕ) → length new < 2 ^ 64 → new ≡ old ++ shot ps.mark taken.boot ps.scene taken.state → length taken.state.world.trace < 2 ^ 64
  few-in taken old new held bytes =
      few-lines ps.mark taken.boot ps.scene taken.state
      (omega (arith, held, ap length bytes, length-append old (shot ps.mark taken.boot ps.scene taken.state)))

  saves : (result : Result (Unit {0}) SaveFault) (old new : List ℕ) → x.node.boot < 2 ^ 32 → length new < 2 ^ 64 → IsSave (machine_for ps) x.node.boot x.node.view result old new → Saves (machine_for ps) net who result old new → SavesAny net who result old new ps
  saves (Err fault) old new few held call is = (
    left (machine_for ps) x.node.boot x.node.view fault old new call,
    record { next = net; is = is; are = are },
  )
  saves (Ok done) old new few held call (taken, by, bytes, is) = record {
    leads = record {
      next = with_shot net taken;
      is = is;
      are = record {
        opened = are.opened;
        attached = are.attached;
        reached = (calls law ps net are).goes_on (ViewerSave who) (Saved (Ok (length net.shots))) (with_shot net taken) is;
        host = are.host;
        viewers = are.viewers;
        boots = boots taken (subst (λ (n : ℕ). n < 2 ^ 32) (sym (boot-in (machine_for ps) net who x x.node.view taken at refl is)) few);
        lines = lines taken (few-in taken old new held bytes);
      };
    };
    shot = taken;
    taken = last_there net.shots taken;
    bytes = bytes;
  }

  abbrev v : ViewerView
  v = viewer_at ps who x

  save-at : (result : Result (Unit {0}) SaveFault) (old new : List ℕ) → v.state.boot < 2 ^ 32 → length new < 2 ^ 64
      → IfSpoiled v.state.view ((result ≡ Err save_fault.Spoiled) × (new ≡ old))
      → IfRunning v.state.view (λ w. OnOk result (new ≡ old ++ shot v.mark v.state.boot v.scene w))
      → IfRunning v.state.view (λ w. OnErr result ((result ≡ Err save_fault.Memory) × (new ≡ old)))
      → SavesAny net who result old new ps
  save-at result old new few held spoiled ok err =
      let call = is-save (machine_for ps) x.node.boot x.node.view result old new spoiled ok err in
      saves result old new few held call ((calls law ps net are).snapshot who x result old new at call)

pub save : Law → (viewer : ViewerView) (result : Result (Unit {0}) SaveFault) (old new : List ℕ) → viewer.state.boot < 2 ^ 32 → length new < 2 ^ 64
    → IfSpoiled viewer.state.view ((result ≡ Err save_fault.Spoiled) × (new ≡ old))
    → IfRunning viewer.state.view (λ w. OnOk result (new ≡ old ++ shot viewer.mark viewer.state.boot viewer.scene w))
    → IfRunning viewer.state.view (λ w. OnErr result ((result ≡ Err save_fault.Memory) × (new ≡ old)))
    → ViewerSaves viewer result old new
save law viewer result old new few held spoiled ok err ps net has =
    let s = seat_of ps net viewer has in
    subst (λ (v : ViewerView). v.state.boot < 2 ^ 32
    → IfSpoiled v.state.view ((result ≡ Err save_fault.Spoiled) × (new ≡ old))
    → IfRunning v.state.view (λ w. OnOk result (new ≡ old ++ shot v.mark v.state.boot v.scene w))
    → IfRunning v.state.view (λ w. OnErr result ((result ≡ Err save_fault.Memory) × (new ≡ old)))
    → SavesAny net v.who result old new ps) s.2
    (λ small. save-at law ps net has.are viewer.who s.0 s.1 result old new small held) few spoiled ok err

-- ---- its pieces

pub piece : Law → (mark bytes : List ℕ) (i : ℕ) (sent : Option (List ℕ)) → length mark ≡ 32
    → option_map decoded sent ≡ option_map (packet_of mark) (piece_of bytes i) → PieceSends mark bytes (λ s. PiecePacket s i) sent
piece law mark bytes i sent long call ps net are own s from there =
    let few = are.boots s from there.0 in
    let has = saved_have ps.text ps.flat ps.scene ps.routes ps.mark net are.opened are.attached are.reached s from there.0 (are.lines s from there.0) in
    let head : piece_of (shot ps.mark from.boot ps.scene from.state) i ≡ piece_packet from.boot from.state.world.applied (shot ps.mark from.boot ps.scene from.state) i =
    ap (λ (h : Option ShotHead). piece_with h (shot ps.mark from.boot ps.scene from.state) i) (head_of_shot ps.mark from.boot ps.scene from.state (ap length own ∙ long) few has) in
    let same : piece_of bytes i ≡ piece_packet from.boot from.state.world.applied bytes i =
    subst (λ (text : List ℕ). piece_of text i ≡ piece_packet from.boot from.state.world.applied text i) (sym there.1) head in
    let of_mark = subst (λ (k : List ℕ). option_map decoded sent ≡ option_map (packet_of k) (piece_of bytes i)) (sym own) call in
    sends law ps net are (PiecePacket s i) sent ((calls law ps net are).piece_packet s i from bytes (option_map decoded sent) there
    (of_mark ∙ ap (λ (b : Option Body). option_map (packet_of ps.mark) b) same))
