-- Runs, and the sessions that datagrams name.
use Rattle.std.specs.Prelude.{◌≡◌, ◌⊎◌, ℕ, List, ◌++◌, length, take}
use Rattle.sha2.specs.Sha256.{sha256}
use Rattle.share_entries.specs.Chain.{Collide}

-- the first 16 bytes of the SHA-256 of the scene's mark and the run
abbrev pub session_of : (mark run : List ℕ) → List ℕ
session_of mark run = take 16 (sha256 (mark ++ run))

-- two runs of scenes have different sessions, or two texts collide
abbrev pub SessionsTell : Type 0
SessionsTell =
    (mark other_mark run other : List ℕ) → length mark ≡ 32 → length other_mark ≡ 32
    → session_of mark run ≡ session_of other_mark other
    → ((mark ≡ other_mark) × (run ≡ other)) ⊎ Collide
