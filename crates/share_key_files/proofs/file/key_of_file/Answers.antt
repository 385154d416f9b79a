use Rattle.std.proofs.Common.{rules, ◌<◌, ◌+◌, ◌∙◌, sym, length, None, arith}
use Rattle.std.specs.Str.Lines.{lines}
use Rattle.share_key_files.specs.Files.{key_from, with_only}
use Rattle.share_key_files.proofs.Reading.{only_onward, refused, taken}
use Rattle.share_key_files.proofs.file.key_of_file.Goals as goal

pub returns-in-Err : goal.returns-in-Err
returns-in-Err c =
    let some : 0 < length c.loop-rest.rest.now = search rules in
    record {
      exact =
          refused with_only key_from only_onward c.loop-rest.line (c.loop-rest.line + 1) c.loop-rest.found c.in-Err.kind
          (key_from 0 None (lines c.args.bytes.now)) c.loop-rest.rest.now c.cut_line.result.0.now c.cut_line.result.1.now c.line_of.result
          c.loop-rest.invariant.answer some c.cut_line.ensures.line c.cut_line.ensures.behind c.line_of.ensures
          (sym c.take_only.ensures ∙ c.in-Err.is) (omega arith);
    }

pub loop-rest-preserved : goal.loop-rest-preserved
loop-rest-preserved c =
    let some : 0 < length c.loop-rest.rest.now = search rules in
    record {
      answer =
          taken with_only key_from only_onward c.loop-rest.line (c.loop-rest.line + 1) c.loop-rest.found c.in-Ok.only
          (key_from 0 None (lines c.args.bytes.now)) c.loop-rest.rest.now c.cut_line.result.0.now c.cut_line.result.1.now c.line_of.result
          c.loop-rest.invariant.answer some c.cut_line.ensures.line c.cut_line.ensures.behind c.line_of.ensures
          (sym c.take_only.ensures ∙ c.in-Ok.is) (omega arith);
      few = omega (arith, c.loop-rest.invariant.few, c.cut_line.ensures.shorter some);
    }
