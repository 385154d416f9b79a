use Rattle.proto_expand.proofs.Together.{walked}
use Rattle.proto_expand.proofs.whole.walk.Goals as goal

pub returns : goal.returns
returns c = λ ps header k sized. walked ps header c.args.statements.now c.put_text.result (c.put_text.ensures ps k sized)
