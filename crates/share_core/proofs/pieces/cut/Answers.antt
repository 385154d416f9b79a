use Rattle.std.proofs.Common.{◌≡◌, ℕ, ◌+◌, ◌-◌, ◌*◌, List, length, take, drop, ap, ◌∙◌, arith}
use Rattle.share_wire.specs.Messages.{PieceView, piece_size}
use Rattle.share_law.specs.Pieces.{piece_bytes}
use Rattle.share_core.proofs.Cuts.{cut_bytes}
use Rattle.share_core.proofs.pieces.cut.Goals as goal

pub returns : goal.returns
returns c =
    let text : List ℕ = c.args.bytes.now in
    let a : ℕ = 192 * c.args.index in
    let n : ℕ = c.piece_size.result in
    let size : (a + n) - a ≡ piece_size (length text) c.args.index = (let e : (a + n) - a ≡ n = omega arith in e) ∙ c.piece_size.ensures.value ∙ ap (λ (k : ℕ). piece_size k c.args.index) c.requires.whole in
    let bytes : take ((a + n) - a) (drop a text) ≡ piece_bytes text c.args.index = ap (λ (k : ℕ). take k (drop a text)) size ∙ cut_bytes text c.args.index in
    let made : ℕ → List ℕ → PieceView = λ k b. record { boot = c.args.head.boot; applied = c.args.head.applied; length = k; index = c.args.index; bytes = b } in
    c.new.ensures ∙ ap (λ (k : ℕ). made k (take ((a + n) - a) (drop a text))) c.requires.whole ∙ ap (made (length text)) bytes
