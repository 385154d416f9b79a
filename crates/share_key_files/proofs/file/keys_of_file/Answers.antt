use Rattle.std.proofs.Common.{rules, ◌≡◌, ◌<◌, ◌+◌, ◌∙◌, sym, refl, length, arith, Ok, true}
use Rattle.std.specs.Str.Lines.{lines}
use Rattle.share_keys.specs.Table.{has_any, no_keys}
use Rattle.share_key_files.specs.Files.{keys_from, with_line}
use Rattle.share_key_files.proofs.Reading.{at_end, mapped_err, mapped_ok, refused, taken}
use Rattle.share_key_files.proofs.Said.{are_said, has_key}
use Rattle.share_key_files.proofs.file.keys_of_file.Goals as goal

pub returns-in-Err-clause-exact : goal.returns-in-Err-clause-exact
returns-in-Err-clause-exact c =
    let some : 0 < length c.loop-rest.rest.now = search rules in
    refused with_line keys_from (λ n a line more. refl) c.loop-rest.line (c.loop-rest.line + 1) c.loop-rest.keys c.in-Err.kind
    (keys_from 0 no_keys (lines c.args.bytes.now)) c.loop-rest.rest.now c.cut_line.result.0.now c.cut_line.result.1.now c.line_of.result
    c.loop-rest.invariant.answer some c.cut_line.ensures.line c.cut_line.ensures.behind c.line_of.ensures
    (mapped_err c.take_line.result c.in-Err.kind c.take_line.new.keys (with_line c.loop-rest.keys c.line_of.result) c.in-Err.is c.take_line.ensures) (omega arith)

pub loop-rest-preserved : goal.loop-rest-preserved
loop-rest-preserved c =
    let some : 0 < length c.loop-rest.rest.now = search rules in
    record {
      answer =
          taken with_line keys_from (λ n a line more. refl) c.loop-rest.line (c.loop-rest.line + 1) c.loop-rest.keys c.take_line.new.keys
          (keys_from 0 no_keys (lines c.args.bytes.now)) c.loop-rest.rest.now c.cut_line.result.0.now c.cut_line.result.1.now c.line_of.result
          c.loop-rest.invariant.answer some c.cut_line.ensures.line c.cut_line.ensures.behind c.line_of.ensures
          (mapped_ok c.take_line.result c.in_default.field-0 c.take_line.new.keys (with_line c.loop-rest.keys c.line_of.result) c.in_default.is c.take_line.ensures) (omega arith);
      few = omega (arith, c.loop-rest.invariant.few, c.cut_line.ensures.shorter some);
    }

pub returns-then-has_any-clause-found : goal.returns-then-has_any-clause-found
returns-then-has_any-clause-found c =
    let none : length c.loop-rest.rest.now ≡ 0 = search rules in
    let has : has_any c.loop-rest.keys ≡ true = search rules in
    let all = keys_from 0 no_keys (lines c.args.bytes.now) in
    let end = at_end with_line keys_from (λ n a line more. refl) c.loop-rest.line c.loop-rest.keys all c.loop-rest.rest.now c.loop-rest.invariant.answer none in
    are_said c.args.bytes.now (Ok c.loop-rest.keys) (sym (has_key c.loop-rest.line c.loop-rest.keys has) ∙ end)
