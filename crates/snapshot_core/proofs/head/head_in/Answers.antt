use Rattle.std.proofs.Common.{◌≡◌, ℕ, Some, ap, sym, ◌∙◌}
use Rattle.snapshot_core.specs.Opening.{version_in, version_number}
use Rattle.snapshot_core.specs.declared.head.ShotHead.{ShotHead}
use Rattle.snapshot_core.proofs.ShotHeads.{none-told, some-told}
use Rattle.snapshot_core.proofs.head.head_in.Goals as goal

pub returns-in_default : goal.returns-in_default
returns-in_default c = none-told c.args.bytes.now (sym c.begins_as_shot.ensures ∙ c.if-not-begins_as_shot.false) (rw (c.numbers.ensures, c.version_in-version.ensures, c.in_default.is) at c.words_of.ensures)

pub returns : goal.returns
returns c =
    let named : c.number.result ≡ version_number (version_in c.args.bytes.now) = c.number.ensures ∙ ap version_number c.version_in-version.ensures in
    ap (λ (v : ℕ). let h : ShotHead = record { version = v; boot = c.in-Some.boot; applied = c.in-Some.applied } in Some h) named
    ∙ some-told c.args.bytes.now c.in-Some._rest.now c.in-Some.boot c.in-Some.applied (sym c.begins_as_shot.ensures ∙ c.if-not-begins_as_shot.false) (rw (c.numbers.ensures, c.version_in-version.ensures, c.in-Some.is) at c.words_of.ensures)
