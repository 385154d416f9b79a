use Rattle.std.proofs.Common.{ℕ, List, subst}
use Rattle.std.specs.Option.{option_map}
use Rattle.app_part.specs.Kept.{IsFirstLost}
use Rattle.app_part.proofs.Parting.{lost_of}
use Rattle.app_part.proofs.kept.lost_text.Goals as goal

pub returns : goal.returns
returns c = record {
  told =
      let lost = option_map (λ n. n.now) c.in_ok-lost.lost in
      lost_of (λ v. v.items) c.args.names.now c.args.part.now lost c.said.result
      (subst (λ (t : List ℕ). IsFirstLost t c.args.names.now lost) c.as_slice.ensures.value c.in_ok-lost.ensures.lost) c.said.ensures.told;
}
