-- The content of a snapshot's head (our choice).
use Rattle.std.specs.Prelude.{ℕ, ◌==◌, ◌&&◌, Bool, List, drop, length, Option, None, nat_le, nat_eq, slice_range, slice_index, if◌then◌else◌, codes}
use Rattle.std.specs.Int.{w32}
use Rattle.std.specs.Cmp.Lexicographic.{pointwise}
use Rattle.std.specs.Option.{option_map}
use Rattle.byte_codec.specs.Codec.{pair, number}
use Rattle.snapshot_codec.specs.Inputs.{input_codec}
use Rattle.snapshot_core.specs.Opening.{numbers_of, version_in, version_number}
use Rattle.snapshot_core.specs.declared.head.ShotHead.{ShotHead}

-- 85 bytes or more that begin with X3DW and a version
abbrev pub begins_as_shot : List ℕ → Bool
begins_as_shot bytes =
    nat_le 85 (length bytes)
    && (pointwise nat_eq (slice_range bytes 0 4) (codes "X3DW")
    && slice_index bytes 4 == version_number (version_in bytes))

-- the boot and the number of inputs applied follow the mark, as wide as the version has them
abbrev pub shot_head : List ℕ → Option ShotHead
shot_head bytes =
    if begins_as_shot bytes then
    option_map
    (λ x. record {
      version = version_number (version_in bytes);
      boot = x.0.0;
      applied = x.0.1;
    })
    ((pair (number w32) (input_codec (numbers_of (version_in bytes)))).read (drop 37 bytes))
    else None
