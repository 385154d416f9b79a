use Rattle.std.proofs.Common.{◌≡◌, ◌+◌, ◌*◌, ◌++◌, take, length, true}
use Rattle.std.specs.List.{flat_map}
use Rattle.byte_codec.specs.Codec.{all_fit}
use Rattle.share_entries.specs.Base.{seat_codec}
use Rattle.share_entries.proofs.base_text.push_seats.Given as goal

-- the bytes of those so far
abbrev pub invariant-loop-seat : goal.invariant-loop-seat
invariant-loop-seat l = record {
  text : l.out.items ≡ l.fn.out.items ++ flat_map seat_codec.write (take l.seat-index l.kept);
  len : length l.out.items ≡ length l.fn.out.items + 8 * l.seat-index;
  fit : all_fit seat_codec (take l.seat-index l.kept) ≡ true;
}
