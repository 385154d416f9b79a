use Rattle.cascade_core.proofs.pointer.point.Goals as goal

pub point_concerned-pointed-requires : goal.point_concerned-pointed-requires
point_concerned-pointed-requires g c = record {
  rest = record {
    empty = c.requires.rest.empty;
    none = c.requires.rest.none;
    boxes = rw c.set_button.ensures c.requires.rest.boxes;
    has_scripts = record { sound = c.requires.rest.has_scripts.sound; counted = c.requires.rest.has_scripts.counted };
  };
}

pub returns-clause-scripts : goal.returns-clause-scripts
returns-clause-scripts g c = record { kinds = c.point_concerned-pointed.ensures.scripts.kinds; count = c.point_concerned-pointed.ensures.scripts.count }
