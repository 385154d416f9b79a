use Rattle.std.proofs.Common.{◌≡◌, ◌∷◌, pos, int_le, unsigned_abs, false, to_z, of_z, w64, ap, ◌∙◌, arith}
use Rattle.std.proofs.lemmas.Int.{to_z-of_z}
use Rattle.x3d_numerals.proofs.Buffers.{with_minus, below_zero, appended}
use Rattle.x3d_numerals.proofs.text.push_number.Goals as goal

pub returns-clause-ok : goal.returns-clause-ok
returns-clause-ok c =
    let same : to_z w64 (of_z w64 c.args.number) ≡ c.args.number = to_z-of_z w64 c.args.number c.ranges.number in
    let less : int_le (pos 0) c.args.number ≡ false = let h = c.if-number-ge0.false in cc in
    let size : c.unsigned_abs.result ≡ unsigned_abs c.args.number = let h = c.unsigned_abs.ensures.value in cc in
    let w = c.write_size-start.ensures.within in
    let text = with_minus c.write_size-start.new.buffer c.write_size-start.result.0 c.write_size-start.result.1 w.0 (omega (arith, w.1, w.2)) (omega (arith, w.1, c.write_size-start.array_long)) in
    let minus = below_zero c.args.number c.unsigned_abs.result less size in
    appended c.extend_from_slice-2.result c.extend_from_slice-2.new.self.items c.args.out.now.items _ _ c.extend_from_slice-2.ensures.items (text ∙ (ap (λ t. 45 ∷ t) c.write_size-start.ensures.text ∙ minus))
