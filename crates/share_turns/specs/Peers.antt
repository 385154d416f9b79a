-- Which peers can be answered.
use Rattle.std.specs.Prelude.{ℕ, ◌==◌, Option, Some, None, if◌then◌else◌}

-- A peer is its UDP port. Port 0 says that no answer is expected (RFC 768), and none can be sent
-- there.
abbrev pub answerable : ℕ → Option ℕ
answerable peer = if peer == 0 then None else Some peer
