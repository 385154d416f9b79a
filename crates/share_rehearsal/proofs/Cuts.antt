-- The packet of a piece joins the packets.
use Rattle.std.proofs.Common.{◌≡◌, ℕ, List, [], ◌∷◌, ◌++◌, length, ap, sym, ◌∙◌, subst}
use Rattle.std.specs.Prelude.{slice_get, Option, Some, None, Result, Ok, Err, IfOk}
use Rattle.std.specs.Option.{option_map}
use Rattle.std.proofs.lemmas.Option.{same_Some}
use Rattle.share_wire.specs.Datagram.{datagram}
use Rattle.share_wire.specs.Decoding.{decoded}
use Rattle.share_wire.specs.declared.fault.WireFault.{WireFault}
use Rattle.share_wire.specs.declared.message.Body.{Body}
use Rattle.share_wire.specs.declared.message.Message.{Message}
use Rattle.share_law.specs.declared.step.Step.TheVariants.{PiecePacket}
use Rattle.share_core.specs.Pieces.{piece_of}
use Rattle.share_rehearsal.specs.declared.answer.Answer.{Answer}
use Rattle.share_rehearsal.specs.declared.nodes.Shot.{Shot}
use Rattle.share_rehearsal.specs.Calls.{Seen, IsCall, IsCut, IsMade, IsSent, message, with_packets}

-- what is read of the datagram of a body
abbrev again : (mark : List ℕ) → Body → Result Message WireFault
again mark body = Ok (message mark body)

made : {P : Type 0} (items : P → List ℕ) (r : Option P) (s : Seen) (o : Option Body) (mark : List ℕ) (a : Answer) (packets : List (List ℕ)) → mark ≡ s.host.mark
    → option_map items r ≡ option_map (λ body. datagram (message mark body)) o → option_map (λ p. decoded (items p)) r ≡ option_map (again mark) o
    → IsSent (option_map items r) s.packets a packets → IsMade s s.host.mark o a (with_packets s packets)
made items None s None mark a packets own b d sent = (sent.0, ap (with_packets s) sent.1)
made items None s (Some body) mark a packets own b d sent = absurd cc
made items (Some p) s None mark a packets own b d sent = absurd cc
made items (Some p) s (Some body) mark a packets own b d sent =
    let bytes : items p ≡ datagram (message mark body) = same_Some _ _ b in
    let read : decoded (items p) ≡ again mark body = same_Some _ _ d in (
      sent.0,
      ap (with_packets s) (sent.1 ∙ ap (λ (x : List ℕ). s.packets ++ x ∷ []) (bytes ∙ ap (λ (k : List ℕ). datagram (message k body)) own)),
      subst (λ (k : List ℕ). decoded (datagram (message k body)) ≡ again k body) own (sym (ap decoded bytes) ∙ read),
    )

pub cut : {P E : Type 0} (items : P → List ℕ) (r : Option P) (s : Seen) (n i : ℕ) (kept : Shot) (bytes mark : List ℕ) (result : Result Answer E) (packets : List (List ℕ))
    → slice_get s.shots n ≡ Some kept → bytes ≡ kept.bytes → mark ≡ s.host.mark → length mark ≡ 32
    → option_map items r ≡ option_map (λ body. datagram (message mark body)) (piece_of bytes i) → option_map (λ p. decoded (items p)) r ≡ option_map (again mark) (piece_of bytes i)
    → IfOk result (λ a. IsSent (option_map items r) s.packets a packets) → IfOk result (λ a. IsCall s (PiecePacket n i) a (with_packets s packets))
cut items r s n i kept bytes mark (Ok a) packets at same own long b d sent =
    let new : Seen = with_packets s packets in
    let o : Option Body = piece_of bytes i in
    let whole : IsMade s s.host.mark o a new = made items r s o mark a packets own b d sent in
    subst (λ (k : Option Shot). IsCut s i k a new) (sym at) (
      subst (λ (m : List ℕ). length m ≡ 32) own long,
      subst (λ (bs : List ℕ). IsMade s s.host.mark (piece_of bs i) a new) same whole,
    )
cut items r s n i kept bytes mark (Err e) packets at same own long b d sent = tt
