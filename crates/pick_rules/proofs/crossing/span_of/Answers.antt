use Rattle.std.proofs.Common.{◌≡◌, ◌∙◌, ℤ, pos, ◌-ℤ◌, Bool, true, false, int_lt, sym, ap, if◌then◌else◌, unsigned_abs}
use Rattle.std.proofs.lemmas.Int.{to_z-of_z}
use Rattle.pick_rules.specs.Entry.{span_at, span_of}
use Rattle.pick_rules.proofs.Wide.{wide, difference_fits}
use Rattle.pick_rules.proofs.crossing.span_of.Goals as goal

backward : (low high origin dir : ℤ) → int_lt dir (pos 0) ≡ true → span_at (origin -ℤ high) (origin -ℤ low) (unsigned_abs dir) ≡ span_of low high origin dir
unfolding span_of
backward low high origin dir e = sym (ap (λ (t : Bool). if t then span_at (origin -ℤ high) (origin -ℤ low) (unsigned_abs dir) else span_at (low -ℤ origin) (high -ℤ origin) (unsigned_abs dir)) e)

forward : (low high origin dir : ℤ) → int_lt dir (pos 0) ≡ false → span_at (low -ℤ origin) (high -ℤ origin) (unsigned_abs dir) ≡ span_of low high origin dir
unfolding span_of
forward low high origin dir e = sym (ap (λ (t : Bool). if t then span_at (origin -ℤ high) (origin -ℤ low) (unsigned_abs dir) else span_at (low -ℤ origin) (high -ℤ origin) (unsigned_abs dir)) e)

pub returns-then-dir-lt0 : goal.returns-then-dir-lt0
returns-then-dir-lt0 c =
    let l = c.ranges.low in
    let h = c.ranges.high in
    let o = c.ranges.origin in
    let d = c.ranges.dir in
    let wl = wide c.args.low l in
    let wh = wide c.args.high h in
    let wo = wide c.args.origin o in
    let near = difference_fits c.args.origin c.args.high o h in
    let far = difference_fits c.args.origin c.args.low o l in
    let e = simp to_z-of_z at c.if-dir-lt0.true in
    let slope = simp to_z-of_z at c.unsigned_abs.ensures.value in
    let made = simp to_z-of_z at c.span_at.ensures in
    made ∙ (ap (λ s. span_at (c.args.origin -ℤ c.args.high) (c.args.origin -ℤ c.args.low) s) slope ∙ backward c.args.low c.args.high c.args.origin c.args.dir e)

pub returns-else-dir-lt0 : goal.returns-else-dir-lt0
returns-else-dir-lt0 c =
    let l = c.ranges.low in
    let h = c.ranges.high in
    let o = c.ranges.origin in
    let d = c.ranges.dir in
    let wl = wide c.args.low l in
    let wh = wide c.args.high h in
    let wo = wide c.args.origin o in
    let near = difference_fits c.args.low c.args.origin l o in
    let far = difference_fits c.args.high c.args.origin h o in
    let e = simp to_z-of_z at c.if-dir-lt0.false in
    let slope = simp to_z-of_z at c.unsigned_abs-else-dir-lt0.ensures.value in
    let made = simp to_z-of_z at c.span_at-else-dir-lt0.ensures in
    made ∙ (ap (λ s. span_at (c.args.low -ℤ c.args.origin) (c.args.high -ℤ c.args.origin) s) slope ∙ forward c.args.low c.args.high c.args.origin c.args.dir e)
