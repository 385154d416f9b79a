use Rattle.std.proofs.Common.{refl, sym, ap, ◌∙◌}
use Rattle.std.proofs.lemmas.Str.{is_utf8-from_IsUtf8}
use Rattle.classic_lex.proofs.Cutting.{not_text}
use Rattle.classic_lenient.specs.Marks.{word_mark}
use Rattle.classic_lenient.proofs.mark.identifier_mark.Goals as goal

pub returns-in-Ok : goal.returns-in-Ok
returns-in-Ok c = rw (is_utf8-from_IsUtf8 c.args.text.now c.in-Ok.ensures.cases.1) (c.word_mark.ensures ∙ ap word_mark c.in-Ok.ensures.cases.0)

pub returns-in-Err : goal.returns-in-Err
returns-in-Err c = rw (sym (not_text c.args.text.now c.in-Err.ensures.cases.0)) refl
