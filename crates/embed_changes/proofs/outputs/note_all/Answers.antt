use Rattle.std.proofs.Common.{rules, ◌≡◌, [], length, sym}
use Rattle.std.proofs.lemmas.List.{nil_from_length}
use Rattle.embed_changes.proofs.Noting.{rest_done, rest_next}
use Rattle.embed_changes.proofs.outputs.note_all.Goals as goal

pub loop-output-preserved : goal.loop-output-preserved
loop-output-preserved c = λ all is.
    rest_next c.args.marks.now all c.loop-output.marks c.note.new.marks c.loop-output.rest.now c.in-Some.after.now c.in-Some.source
    (c.loop-output.invariant all is) (sym c.in-Some.ensures) c.in_ok-note.ensures

pub returns-then-is_empty : goal.returns-then-is_empty
returns-then-is_empty c = λ outputs is.
    let none : length c.loop-output.rest.now ≡ 0 = search rules in
    let read : c.loop-output.rest.now ≡ [] = nil_from_length c.loop-output.rest.now none in
    rest_done c.args.marks.now outputs c.loop-output.marks c.loop-output.rest.now (c.loop-output.invariant outputs is) read
