use Rattle.std.proofs.Common.{◌≡◌, ◌++◌, take}
use Rattle.std.specs.List.{flat_map}
use Rattle.app_part.specs.Apart.{spelled}
use Rattle.app_part.specs.Tokens.{placed}
use Rattle.app_part.proofs.apart.push_tokens.Given as goal

abbrev pub invariant-loop-token : goal.invariant-loop-token
invariant-loop-token l = l.out.items ≡ l.fn.out.items ++ flat_map (λ t. spelled (placed l.text t)) (take l.token-index l.tokens)
