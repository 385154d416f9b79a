use Rattle.std.proofs.Common.{rules, ◌≡◌, ◌<◌, length, map, true, false}
use Rattle.app_part.specs.Kept.{is_lost}
use Rattle.app_part.specs.Tokens.{placed}
use Rattle.app_part.proofs.Names.{passed, found, none_left}
use Rattle.app_part.proofs.kept.first_among.Goals as goal

pub loop-rest-preserved : goal.loop-rest-preserved
loop-rest-preserved c =
    let some : 0 < length c.loop-rest.rest.now = search rules in
    passed (map (placed c.args.text.now) c.args.tokens.now) _ c.loop-rest.rest.now c.cut_line.result.0.now c.cut_line.result.1.now c.is_lost.result
    c.loop-rest.invariant some c.cut_line.ensures.line c.cut_line.ensures.behind c.is_lost.ensures c.if-is_lost.false

pub returns-then-is_lost : goal.returns-then-is_lost
returns-then-is_lost c =
    let some : 0 < length c.loop-rest.rest.now = search rules in
    found (map (placed c.args.text.now) c.args.tokens.now) _ c.loop-rest.rest.now c.cut_line.result.0.now c.cut_line.result.1.now c.is_lost.result
    c.loop-rest.invariant some c.cut_line.ensures.line c.cut_line.ensures.behind c.is_lost.ensures c.if-is_lost.true

pub returns : goal.returns
returns c =
    let none : length c.loop-rest.rest.now ≡ 0 = search rules in
    none_left (map (placed c.args.text.now) c.args.tokens.now) _ c.loop-rest.rest.now c.loop-rest.invariant none
