use Rattle.std.proofs.Common.{arith, ◌≡◌, ◌<◌, ◌+◌, ◌-◌, ◌*◌, ◌∙◌, sym, subst, Bool, true, List, length, take, drop}
use Rattle.std.specs.List.{list_all}
use Rattle.std.proofs.lemmas.Option.{slice_get_within}
use Rattle.cascade_world.proofs.Blocks.{each-of, in-block, marked}
use Rattle.cascade_world.proofs.watched.Watched.look_at.Goals as goal

pub invariant_of-self : goal.invariant_of-self
invariant_of-self g c =
    marked (λ (x : g.row.T.Denot) (mark : Bool). mark ≡ true → g.T.Rests.rests x ≡ true) c.self.inside.items.items c.self.inside.resting.items c.args.block c.all_rest-resting.result c.self.invariant
    (λ i x e item is.
    let place = in-block i c.args.block e in
    let within : i < length c.self.inside.items.items = slice_get_within c.self.inside.items.items i x item in
    let below : i < c.args.block * 32 + (c.min-end.result - c.args.block * 32) = omega (arith, place.1, within, c.min-end.ensures, c.len-2.ensures) in
    each-of g.T.Rests.rests c.self.inside.items.items (c.args.block * 32) (c.min-end.result - c.args.block * 32) i x
    (subst (λ (xs : List g.row.T.Denot). list_all g.T.Rests.rests (take (c.min-end.result - c.args.block * 32) (drop (c.args.block * 32) xs)) ≡ true) c.deref.ensures.value (sym c.all_rest-resting.ensures ∙ is)) place.0 below item)
