use Rattle.std.proofs.Common.{◌-◌, ◌+◌, length, rules}
use Rattle.std.proofs.lemmas.Int.{to_z-of_z}
use mir.Syntax.{w64}
use mir.Val.{SFits}
use Rattle.react_core.specs.Interpolation.{key_at}
use Rattle.react_core.proofs.PlaceLemmas.{is_between, part_within, some_whole, place_of-after, place_of-parts}
use Rattle.react_core.proofs.place.place_of.Goals as goal

pub bounds-keys-step-2 : goal.bounds-keys-step-2
bounds-keys-step-2 c =
    let f = c.ranges.fraction in
    let k : SFits w64 (key_at c.args.keys.now 0) = search rules in
    let l : SFits w64 (key_at c.args.keys.now (length c.args.keys.now - 1)) = search rules in
    let low = simp to_z-of_z at c.if-fraction-keys.false in
    let high = simp to_z-of_z at c.if-keys-last.false in
    let step = simp to_z-of_z at c.in_ok-step.ensures.greatest in
    (is_between c.args.keys.now c.args.fraction c.in_ok-step.step step low high).within

pub returns-clause-value : goal.returns-clause-value
returns-clause-value c =
    let f = c.ranges.fraction in
    let k : SFits w64 (key_at c.args.keys.now 0) = search rules in
    let l : SFits w64 (key_at c.args.keys.now (length c.args.keys.now - 1)) = search rules in
    let low = simp to_z-of_z at c.if-fraction-keys.false in
    let high = simp to_z-of_z at c.if-keys-last.false in
    let value = simp to_z-of_z at c.in_ok-step.ensures.value in
    let place = place_of-after c.args.keys.now c.args.fraction c.in_ok-step.step value low high in
    let here : SFits w64 (key_at c.args.keys.now c.in_ok-step.step) = search rules in
    let next : SFits w64 (key_at c.args.keys.now (c.in_ok-step.step + 1)) = search rules in
    place_of-parts c.args.keys.now c.args.fraction c.in_ok-step.step c.abs_diff.result c.abs_diff-2.result place
    (simp to_z-of_z at c.abs_diff.ensures) (simp to_z-of_z at c.abs_diff-2.ensures)

pub returns-clause-is_part : goal.returns-clause-is_part
returns-clause-is_part c =
    let f = c.ranges.fraction in
    let k : SFits w64 (key_at c.args.keys.now 0) = search rules in
    let l : SFits w64 (key_at c.args.keys.now (length c.args.keys.now - 1)) = search rules in
    let low = simp to_z-of_z at c.if-fraction-keys.false in
    let high = simp to_z-of_z at c.if-keys-last.false in
    let step = simp to_z-of_z at c.in_ok-step.ensures.greatest in
    let b = is_between c.args.keys.now c.args.fraction c.in_ok-step.step step low high in
    let here : SFits w64 (key_at c.args.keys.now c.in_ok-step.step) = search rules in
    let next : SFits w64 (key_at c.args.keys.now (c.in_ok-step.step + 1)) = search rules in
    part_within c.args.keys.now c.args.fraction c.in_ok-step.step c.abs_diff.result c.abs_diff-2.result b
    (simp to_z-of_z at c.abs_diff.ensures) (simp to_z-of_z at c.abs_diff-2.ensures)

pub returns-clause-is_whole : goal.returns-clause-is_whole
returns-clause-is_whole c =
    let f = c.ranges.fraction in
    let k : SFits w64 (key_at c.args.keys.now 0) = search rules in
    let l : SFits w64 (key_at c.args.keys.now (length c.args.keys.now - 1)) = search rules in
    let low = simp to_z-of_z at c.if-fraction-keys.false in
    let high = simp to_z-of_z at c.if-keys-last.false in
    let step = simp to_z-of_z at c.in_ok-step.ensures.greatest in
    let b = is_between c.args.keys.now c.args.fraction c.in_ok-step.step step low high in
    let here : SFits w64 (key_at c.args.keys.now c.in_ok-step.step) = search rules in
    let next : SFits w64 (key_at c.args.keys.now (c.in_ok-step.step + 1)) = search rules in
    some_whole c.args.keys.now c.args.fraction c.in_ok-step.step c.abs_diff-2.result b
    (simp to_z-of_z at c.abs_diff-2.ensures)

pub returns-clause-to_within : goal.returns-clause-to_within
returns-clause-to_within c =
    let f = c.ranges.fraction in
    let k : SFits w64 (key_at c.args.keys.now 0) = search rules in
    let l : SFits w64 (key_at c.args.keys.now (length c.args.keys.now - 1)) = search rules in
    let low = simp to_z-of_z at c.if-fraction-keys.false in
    let high = simp to_z-of_z at c.if-keys-last.false in
    let step = simp to_z-of_z at c.in_ok-step.ensures.greatest in
    (is_between c.args.keys.now c.args.fraction c.in_ok-step.step step low high).within
