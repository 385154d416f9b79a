use Rattle.std.proofs.lemmas.Result.{on_ok_weaker}
use Rattle.scene_faults.specs.Texts.{names_of}
use Rattle.scene_faults.proofs.Walks.{statements_told}
use Rattle.scene_faults.proofs.texts.+text.Goals as goal

pub push_statements-returns : goal.push_statements-returns
push_statements-returns t c =
    on_ok_weaker c.push_each_statement.result
    (statements_told (names_of c.args.outer.now) c.args.statements.now c.args.out.now c.push_protos_twice.new.out c.push_each_statement.new.out c.in_ok-push_protos_twice.ensures)
    c.push_each_statement.ensures
