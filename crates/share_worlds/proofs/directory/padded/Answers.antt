use Rattle.std.proofs.Common.{◌++◌, ap, ◌∙◌, length, ℕ, List}
use Rattle.std.proofs.lemmas.List.{drop-replicate}
use Rattle.share_worlds.proofs.directory.padded.Goals as goal

pub returns : goal.returns
returns c =
    let zero : ℕ = 0 in
    c.put_front.ensures ∙ ap (λ (l : List ℕ). c.args.text.now ++ l) (drop-replicate (length c.args.text.now) 64 zero)
