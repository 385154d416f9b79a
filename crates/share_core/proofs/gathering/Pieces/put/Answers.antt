use Rattle.std.proofs.Common.{ap, sym, ◌∙◌, subst, arith, ◌≡◌, ◌-◌, ◌*◌, ◌<◌, ℕ, Bool, true, List, length}
use Rattle.std.specs.Prelude.{slice_set, Some, ◌==◌, if◌then◌else◌}
use Rattle.share_wire.specs.Messages.{PieceView, piece_size}
use Rattle.share_law.specs.declared.reply.Gathered.{Gathered}
use Rattle.share_law.specs.declared.reply.Gathered.TheVariants as gathered
use Rattle.share_law.specs.Pieces.{Gathering, put}
use Rattle.share_core.specs.Stored.{places_at}
use Rattle.share_core.proofs.Stored.{missing-set, place-there, put-again, put-invariant, put-stored}
use Rattle.share_core.proofs.gathering.Pieces.put.Goals as goal

-- a piece of what is gathered
abbrev piece_of : Gathering → ℕ → List ℕ → PieceView
piece_of g index piece = record { boot = g.boot; applied = g.applied; length = g.length; index = index; bytes = piece }

pub returns-then-is_there : goal.returns-then-is_there
returns-then-is_there c =
    let g : Gathering = record { boot = c.self.inside.boot; applied = c.self.inside.applied; length = c.self.inside.size; places = places_at 0 c.self.inside.there.items c.self.inside.bytes.items } in
    let same : Gathering → Gathered × Gathering = λ h. (gathered.Again, h) in
    subst (λ (h : Gathering). same h ≡ put h (piece_of h c.args.index c.args.piece.now)) c.self.view_is
    (put-again g (piece_of g c.args.index c.args.piece.now) _ (place-there 0 c.self.inside.there.items c.self.inside.bytes.items c.args.index (c.is_there.ensures ∙ ap Some c.if-is_there.true)))

pub overflow_sub-self : goal.overflow_sub-self
overflow_sub-self c = omega (arith, c.self.invariant.2, missing-set c.self.inside.there.items c.args.index (c.is_there.ensures ∙ ap Some c.if-is_there.false))

pub invariant_of-self : goal.invariant_of-self
invariant_of-self c =
    rw c.write_at.ensures (rw c.mark.ensures (put-invariant c.self.inside.size c.self.inside.missing c.args.index c.self.inside.bytes.items c.self.inside.there.items c.args.piece.now
    (c.is_there.ensures ∙ ap Some c.if-is_there.false) c.self.invariant.0 c.self.invariant.1 c.self.invariant.2 c.self.invariant.3
    (subst (λ (g : Gathering). 192 * c.args.index < g.length) (sym c.self.view_is) c.requires.within)
    (subst (λ (g : Gathering). length c.args.piece.now ≡ piece_size g.length c.args.index) (sym c.self.view_is) c.requires.whole)))

pub returns : goal.returns
returns c =
    let made : Gathered → List Bool → List ℕ → Gathered × Gathering = λ r t b. (r, record { boot = c.self.inside.boot; applied = c.self.inside.applied; length = c.self.inside.size; places = places_at 0 t b }) in
    let r : Gathered = if (c.self.inside.missing - 1) == 0 then gathered.Whole else gathered.New in
    ap (λ z. made z c.mark.new.there.items c.write_at.new.bytes.items) c.new_or_whole.ensures
    ∙ ap (λ t. made r t c.write_at.new.bytes.items) c.mark.ensures
    ∙ ap (made r (slice_set c.self.inside.there.items c.args.index true)) c.write_at.ensures
    ∙ put-stored c.self.inside.boot c.self.inside.applied c.self.inside.size c.self.inside.missing c.args.index c.self.inside.bytes.items c.self.inside.there.items c.args.piece.now
    (c.is_there.ensures ∙ ap Some c.if-is_there.false) c.self.invariant.0 c.self.invariant.1 c.self.invariant.2
    (subst (λ (g : Gathering). 192 * c.args.index < g.length) (sym c.self.view_is) c.requires.within)
    (subst (λ (g : Gathering). length c.args.piece.now ≡ piece_size g.length c.args.index) (sym c.self.view_is) c.requires.whole)
    ∙ ap (λ (g : Gathering). put g (piece_of g c.args.index c.args.piece.now)) c.self.view_is
