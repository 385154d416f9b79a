-- What a host and its viewers came to, from their rounds.
use Rattle.std.proofs.Common.{◌≡◌, ℕ, List, [], ◌++◌, take, drop, length, refl, ◌∙◌, ap, subst, arith}
use Rattle.std.proofs.lemmas.List.{append-nil, drop_all, take_all}
use Rattle.x3d_values.specs.Stamp.{StampedView}
use Rattle.share_core.specs.Viewer.{ViewerView}
use Rattle.share_law.specs.Parts.{HostPart, new_part}
use Rattle.share_turns.specs.Seats.{Seats, Ways}
use Rattle.share_turns.specs.Round.{Meeting, meeting}
use Rattle.share_turns.specs.Agreeing.{AreAgreed}
use Rattle.share_turns.specs.AgreedTexts.{IsAgreeRunEnd, IsAgreedText}
use Rattle.share_turns.specs.declared.fault.SeriesFault.{SeriesFault}
use Rattle.app_commands.specs.Joining.{IsAgreed, IsAgreedInPart, Joint}
use Rattle.app_commands.specs.Hosting.{series_fault}

-- what a call left of a whole list
pub written : {A : Type 0} (n : ℕ) (new old : List A) → length new ≡ length old → n ≡ length old → take n (new ++ drop (length new) old) ≡ new
written n new old same all =
    ap (λ l. take n (new ++ l)) (drop_all (length new) old (omega (arith, same)))
    ∙ ap (take n) (append-nil new) ∙ take_all n new (omega (arith, same, all))

module _ {P : Type 0} (ways : Ways P) (job : Joint) (own turns : ℕ) (port : P) (ports : List P) (left_port : P) (left : Seats P)
    (mark : List ℕ) (before after : HostPart) (steps : List StampedView) (seated : List ViewerView)
    (marked : mark ≡ job.mark) (made : before ≡ new_part (length job.viewers)) (stepped : steps ≡ job.inputs) (sat : seated ≡ job.viewers) where
  abbrev new : Meeting P
  new = record { host = after; port = left_port; seats = left }

  pub is_agreed : (empty text : List ℕ) → empty ≡ []
      → AreAgreed ways mark steps own turns (meeting before port seated ports) new
      → IsAgreedText (length steps) left.viewers empty text
      → IsAgreed ways job own turns port ports left_port left text
  is_agreed empty text none agreed texts = (
    new,
    subst (λ (h : HostPart). AreAgreed ways job.mark job.inputs own turns (meeting h port job.viewers ports) new) made
        (subst (λ (v : List ViewerView). AreAgreed ways job.mark job.inputs own turns (meeting before port v ports) new) sat
        (subst (λ (s : List StampedView). AreAgreed ways job.mark s own turns (meeting before port seated ports) new) stepped
        (subst (λ (m : List ℕ). AreAgreed ways m steps own turns (meeting before port seated ports) new) marked agreed))),
    refl,
    refl,
    subst (λ (e : List ℕ). IsAgreedText (length job.inputs) left.viewers e text) none
        (subst (λ (s : List StampedView). IsAgreedText (length s) left.viewers empty text) stepped texts),
  )

  pub is_agreed_in_part : (early : SeriesFault)
      → IsAgreeRunEnd ways mark steps own turns (meeting before port seated ports) early new
      → IsAgreedInPart ways job own turns port ports left_port left (series_fault early)
  is_agreed_in_part early ended = (
    early,
    new,
    refl,
    refl,
    refl,
    subst (λ (h : HostPart). IsAgreeRunEnd ways job.mark job.inputs own turns (meeting h port job.viewers ports) early new) made
        (subst (λ (v : List ViewerView). IsAgreeRunEnd ways job.mark job.inputs own turns (meeting before port v ports) early new) sat
        (subst (λ (s : List StampedView). IsAgreeRunEnd ways job.mark s own turns (meeting before port seated ports) early new) stepped
        (subst (λ (m : List ℕ). IsAgreeRunEnd ways m steps own turns (meeting before port seated ports) early new) marked ended))),
  )
