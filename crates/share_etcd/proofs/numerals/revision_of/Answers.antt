use Rattle.std.proofs.Common.{sym, ap, ◌∙◌, List, ℕ}
use Rattle.share_etcd.specs.Numerals.{with_decimal}
use Rattle.share_etcd.proofs.NumeralLaws.{parsed, unparsed}
use Rattle.share_etcd.proofs.numerals.revision_of.Goals as goal

pub returns-in-Ok : goal.returns-in-Ok
returns-in-Ok c =
    c.with_decimal.ensures ∙ ap (λ (text : List ℕ). with_decimal text c.in-Ok.number) c.as_bytes.ensures.value
    ∙ parsed c.args.text.now c.in-Ok.number c.in-Ok.ensures.value.0.1

pub returns-in-Err : goal.returns-in-Err
returns-in-Err c = sym (unparsed c.args.text.now c.in-Err.ensures.value.0)
