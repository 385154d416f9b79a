use Rattle.std.proofs.Common.{◌≡◌, true, leb, List, ℕ, length, subst, sym, ◌∙◌, arith}
use Rattle.std.specs.List.{list_all}
use Rattle.std.proofs.lemmas.Bool.{le-leb}
use Rattle.share_session.specs.Names.{is_name_byte, is_name}
use Rattle.share_session.proofs.NameLaws.{named}
use Rattle.share_session.proofs.name.WorldName.new.Goals as goal

pub invariant_of-result : goal.invariant_of-result
invariant_of-result c =
    let text : List ℕ = c.args.text.now in
    let short : leb (length text) 64 ≡ true = le-leb (length text) 64 (omega (arith, c.if-text-le-MAX_NAME.true)) in
    let fine : list_all is_name_byte text ≡ true = sym c.are_name_bytes.ensures ∙ c.if-are_name_bytes.true in
    subst (λ (b : List ℕ). is_name (length text) b ≡ true) (sym c.padded.ensures) (named text short fine)
