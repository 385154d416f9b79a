use Rattle.std.proofs.Common.{◌≡◌, ◌+◌, ◌<◌, ◌≤◌, ℕ, List, Some, length, sym, subst}
use Rattle.std.specs.Prelude.{slice_index}
use Rattle.route_core.specs.Outputs.{number_of}
use Rattle.route_core.proofs.routes.Routes.from_output.Goals as goal

pub part-requires-clause-started : goal.part-requires-clause-started
part-requires-clause-started c =
    let some : number_of c.self.inside.firsts.items c.args.source ≡ Some c.in-Some.output = cc in
    let group = c.self.invariant.inside c.args.source c.in-Some.output some in
    subst (λ (xs : List ℕ). c.in-Some.output + 1 < length xs) (sym c.as_slice-2.ensures.value) group.started

pub part-requires-clause-rising : goal.part-requires-clause-rising
part-requires-clause-rising c =
    let some : number_of c.self.inside.firsts.items c.args.source ≡ Some c.in-Some.output = cc in
    let group = c.self.invariant.inside c.args.source c.in-Some.output some in
    subst (λ (xs : List ℕ). slice_index xs c.in-Some.output ≤ slice_index xs (c.in-Some.output + 1)) (sym c.as_slice-2.ensures.value) group.rising

pub part-requires-clause-within : goal.part-requires-clause-within
part-requires-clause-within c =
    let some : number_of c.self.inside.firsts.items c.args.source ≡ Some c.in-Some.output = cc in
    let group = c.self.invariant.inside c.args.source c.in-Some.output some in
    subst (λ (xs : List ℕ). slice_index xs (c.in-Some.output + 1) ≤ length c.as_slice-3.result.now) (sym c.as_slice-2.ensures.value)
    (subst (λ (ns : List ℕ). slice_index c.self.inside.starts.items (c.in-Some.output + 1) ≤ length ns) (sym c.as_slice-3.ensures.value) group.within)
