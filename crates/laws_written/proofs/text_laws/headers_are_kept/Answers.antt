use Rattle.laws_written.proofs.Headers.{headers_are_kept}
use Rattle.laws_written.proofs.text_laws.headers_are_kept.Goals as goal

pub returns : goal.returns
returns c = headers_are_kept
