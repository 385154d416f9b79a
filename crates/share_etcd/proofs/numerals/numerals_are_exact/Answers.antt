use Rattle.share_etcd.proofs.NumeralLaws.{numerals_exact}
use Rattle.share_etcd.proofs.numerals.numerals_are_exact.Goals as goal

pub returns : goal.returns
returns c = numerals_exact
