-- A written line is read back.
use Rattle.std.proofs.Common.{refl}
use Rattle.hex.specs.Hex.{encode_lower}
use Rattle.hex.proofs.HexLemmas.{decode_sized-encode_lower}
use Rattle.share_key_files.specs.Files.{LinesAreRead}

pub lines_are_read : LinesAreRead
lines_are_read who key low long bytes = (encode_lower key.bytes, refl, decode_sized-encode_lower key.bytes 32 long bytes, low)
