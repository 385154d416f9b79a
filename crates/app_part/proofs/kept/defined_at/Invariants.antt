use Rattle.std.proofs.Common.{◌≡◌, drop, false, map}
use Rattle.app_part.specs.Kept.{defined_at}
use Rattle.app_part.specs.Tokens.{placed}
use Rattle.app_part.proofs.kept.defined_at.Given as goal

abbrev pub invariant-loop-token : goal.invariant-loop-token
invariant-loop-token l =
    defined_at l.name false (map (placed l.text) l.tokens) ≡ defined_at l.name l.behind (map (placed l.text) (drop l.token-index l.tokens))
