use Rattle.std.proofs.Common.{◌≡◌, ◌∙◌, sym, Option, Some, None, IfSome, List, ℕ}
use Rattle.share_keys.specs.declared.keys.ViewerKey.{ViewerKey}
use Rattle.share_keys.specs.Keys.{IsLineOf, line_key}
use Rattle.share_keys.proofs.Lines.{found, only}
use Rattle.share_keys.proofs.keys.key_of.Goals as goal

of-some : (line : List ℕ) (read : Option ViewerKey) → read ≡ line_key line → IfSome read (λ key. IsLineOf key line)
of-some line None is = tt
of-some line (Some key) is = found key line (sym is)

pub returns : goal.returns
returns c = record {
  found = of-some c.args.line.now c.line_key.result c.line_key.ensures;
  only = λ key is. c.line_key.ensures ∙ only key c.args.line.now is;
  exact = c.line_key.ensures;
}
