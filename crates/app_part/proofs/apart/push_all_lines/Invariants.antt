use Rattle.std.proofs.Common.{◌≡◌, ◌++◌, take}
use Rattle.std.specs.List.{flat_map}
use Rattle.app_part.specs.Apart.{lines_of}
use Rattle.app_part.specs.Tokens.{placed}
use Rattle.app_part.proofs.apart.push_all_lines.Given as goal

abbrev pub invariant-loop-token : goal.invariant-loop-token
invariant-loop-token l = l.lines.items ≡ l.fn.lines.items ++ flat_map (λ t. lines_of (placed l.text t)) (take l.token-index l.tokens)
