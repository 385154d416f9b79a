use Rattle.std.proofs.Common.{Some}
use Rattle.pick_core.specs.Tree.{IsIn}
use Rattle.pick_core.specs.Passed.{round_two}
use Rattle.pick_core.proofs.Inside.{in-first, in-second}
use Rattle.pick_core.proofs.cover.joined.Goals as goal

pub returns-in-Some-b-clause-first : goal.returns-in-Some-b-clause-first
returns-in-Some-b-clause-first c =
    let a = c.in-Some.a in
    let b = c.in-Some-b.b in
    let is : IsIn (Some a) (Some (round_two a b)) = in-first (Some a) (Some b) in
    rw (c.in-Some.is, c.round_two.ensures) is

pub returns-in-Some-b-clause-second : goal.returns-in-Some-b-clause-second
returns-in-Some-b-clause-second c =
    let a = c.in-Some.a in
    let b = c.in-Some-b.b in
    let is : IsIn (Some b) (Some (round_two a b)) = in-second (Some a) (Some b) in
    rw (c.in-Some-b.is, c.round_two.ensures) is
