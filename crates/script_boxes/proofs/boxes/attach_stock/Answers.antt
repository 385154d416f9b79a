use Rattle.std.proofs.Common.{map}
use Rattle.script_boxes.specs.Boxes.{made_of}
use Rattle.script_boxes.proofs.Faults.{refused_if, taken_if}
use Rattle.script_boxes.proofs.boxes.attach_stock.Goals as goal

pub returns-clause-taken : goal.returns-clause-taken
returns-clause-taken c =
    taken_if c.attach.result c.args.specs.now (map made_of c.in_ok-boxes.boxes.items) c.in_ok-boxes.ensures c.attach.ensures.boxes c.attach.ensures.fits

pub returns-clause-refused : goal.returns-clause-refused
returns-clause-refused c =
    refused_if c.attach.result c.args.specs.now (map made_of c.in_ok-boxes.boxes.items) c.in_ok-boxes.ensures c.attach.ensures.refused
