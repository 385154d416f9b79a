use Rattle.std.proofs.Common.{ap, sym, ◌∙◌, ℕ, List}
use Rattle.std.specs.Prelude.{Option, None, Some, ◌==◌, if◌then◌else◌}
use Rattle.std.proofs.lemmas.Bool.{cond-true, cond-false, eq-eqb, ne_eqb}
use Rattle.share_law.specs.Pieces.{Gathering, all_there, joined}
use Rattle.share_core.proofs.Stored.{whole-is}
use Rattle.share_core.proofs.gathering.Pieces.whole.Goals as goal

abbrev whole_in : Gathering → Option (List ℕ)
whole_in g = if all_there g.places then Some (joined g.places) else None

pub returns-then-self-eq0 : goal.returns-then-self-eq0
returns-then-self-eq0 c =
    let none : Option (List ℕ) = None in
    ap Some c.as_slice.ensures.value
    ∙ sym (cond-true (c.self.inside.missing == 0) (Some c.self.inside.bytes.items) none (eq-eqb c.self.inside.missing 0 c.if-self-eq0.true))
    ∙ whole-is c.self.inside.size c.self.inside.missing c.self.inside.bytes.items c.self.inside.there.items c.self.invariant.0 c.self.invariant.1 c.self.invariant.2
    ∙ ap whole_in c.self.view_is

pub returns-else-self-eq0 : goal.returns-else-self-eq0
returns-else-self-eq0 c =
    let none : Option (List ℕ) = None in
    sym (cond-false (c.self.inside.missing == 0) (Some c.self.inside.bytes.items) none (ne_eqb c.self.inside.missing 0 c.if-self-eq0.false))
    ∙ whole-is c.self.inside.size c.self.inside.missing c.self.inside.bytes.items c.self.inside.there.items c.self.invariant.0 c.self.invariant.1 c.self.invariant.2
    ∙ ap whole_in c.self.view_is
