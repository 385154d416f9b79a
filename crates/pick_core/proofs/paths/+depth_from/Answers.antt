use Rattle.std.proofs.Common.{rules, ◌≡◌, ◌∙◌, sym, refl, subst, ◌<◌, true, false, is_some, IfSome, Some, get_or, length, slice_get}
use Rattle.std.proofs.lemmas.Option.{slice_get_read}
use Rattle.pick_core.specs.Sensors.{list_of}
use Rattle.pick_core.specs.Paths.{if_held}
use Rattle.pick_core.proofs.Leading.{behind, depth_of, is_short, none_then, some_first}
use Rattle.pick_core.proofs.paths.+depth_from.Goals as goal

pub deeper-lower-requires : goal.deeper-lower-requires
deeper-lower-requires t c =
    let rest = behind c.args.path.now in
    subst (λ r. IfSome r (λ d. d < length rest)) (sym c.depth_from-lower.ensures) (is_short c.args.scene.now c.args.sensor (Some c.in-Some.child.now) rest)

pub returns-then-is_some : goal.returns-then-is_some
returns-then-is_some t c =
    let path = c.args.path.now in
    let look = c.in-Some.ensures.lookup in
    let read = slice_get_read c.list_of.result.now (length c.list_of.result.now) (get_or path 0 0) c.in-Some.child.now refl look.3.0 look.1 in
    let here : slice_get (list_of c.args.scene.now c.args.owner) (get_or path 0 0) ≡ Some c.in-Some.child.now = subst (λ l. slice_get l (get_or path 0 0) ≡ Some c.in-Some.child.now) c.list_of.ensures read in
    let on : is_some c.deeper-lower.result ≡ true = search rules in
    sym (some_first c.deeper-lower.result (if_held c.args.scene.now c.args.owner c.args.sensor) on)
    ∙ depth_of c.args.scene.now c.args.sensor c.args.owner path c.in-Some.child.now c.depth_from-lower.result c.deeper-lower.result c.in-len1-up.len_at_least here c.depth_from-lower.ensures c.deeper-lower.ensures

pub returns-else-is_some : goal.returns-else-is_some
returns-else-is_some t c =
    let path = c.args.path.now in
    let look = c.in-Some.ensures.lookup in
    let read = slice_get_read c.list_of.result.now (length c.list_of.result.now) (get_or path 0 0) c.in-Some.child.now refl look.3.0 look.1 in
    let here : slice_get (list_of c.args.scene.now c.args.owner) (get_or path 0 0) ≡ Some c.in-Some.child.now = subst (λ l. slice_get l (get_or path 0 0) ≡ Some c.in-Some.child.now) c.list_of.ensures read in
    let off : is_some c.deeper-lower.result ≡ false = search rules in
    c.if_held-in-len1-up.ensures
    ∙ (sym (none_then c.deeper-lower.result (if_held c.args.scene.now c.args.owner c.args.sensor) off)
    ∙ depth_of c.args.scene.now c.args.sensor c.args.owner path c.in-Some.child.now c.depth_from-lower.result c.deeper-lower.result c.in-len1-up.len_at_least here c.depth_from-lower.ensures c.deeper-lower.ensures)
