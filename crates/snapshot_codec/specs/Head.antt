-- The head of a snapshot and the digest at its end (our choice).
use Rattle.std.specs.Prelude.{ℕ, ◌-◌, ◌++◌, ◌==◌, List, ◌∷◌, length, take, drop, Option, Some, None, Result, Ok, Err, nat_lt, nat_eq, slice_range, slice_index, if◌then◌else◌, codes}
use Rattle.std.specs.Int.{w32}
use Rattle.std.specs.Cmp.Lexicographic.{pointwise}
use Rattle.sha2.specs.Sha256.{sha256}
use Rattle.byte_codec.specs.Codec.{Codec, named, pair, number}
use Rattle.snapshot_codec.specs.declared.head.HeadFault.{HeadFault}
use Rattle.snapshot_codec.specs.declared.head.HeadFault.TheVariants.{Short, BadMagic, BadVersion, WrongScene, BadDigest}
use Rattle.snapshot_codec.specs.declared.head.Progress.{Progress}
use Rattle.snapshot_codec.specs.declared.input_number.Numbers.{Numbers}
use Rattle.snapshot_codec.specs.Inputs.{applied_codec}
use Rattle.snapshot_codec.specs.Trace.{moment_codec}

-- boot, applied, last time
unfoldable pub progress_codec : Numbers → Codec Progress
progress_codec numbers = named (λ t. record { boot = t.0; applied = t.1.0; last_time = t.1.1 })
    (λ p. (p.boot, (p.applied, p.last_time)))
    (pair (number w32) (pair (applied_codec numbers) moment_codec))

-- the four bytes X3DW, the version, the mark of the scene
abbrev pub front : ℕ → List ℕ → List ℕ
front version mark = codes "X3DW" ++ version ∷ mark

-- bytes followed by their SHA-256
abbrev pub sealed : List ℕ → List ℕ
sealed bytes = bytes ++ sha256 bytes

-- the one snapshot with this body: the bytes between the mark and the digest
abbrev pub snapshot : ℕ → List ℕ → List ℕ → List ℕ
snapshot version mark body = sealed (front version mark ++ body)

-- ---- reading

-- all but the last 32 bytes
abbrev pub unsealed : List ℕ → List ℕ
unsealed bytes = take (length bytes - 32) bytes

-- what is wrong with the head or the digest: the first of these that holds
abbrev pub head_fault : ℕ → List ℕ → List ℕ → Option HeadFault
head_fault version mark bytes =
    if nat_lt (length bytes) 85 then Some Short
    else (if pointwise nat_eq (slice_range bytes 0 4) (codes "X3DW") then
    (if slice_index bytes 4 == version then
    (if pointwise nat_eq (slice_range bytes 5 37) mark then
    (if pointwise nat_eq (drop (length bytes - 32) bytes) (sha256 (unsealed bytes)) then None
    else Some BadDigest)
    else Some WrongScene)
    else Some BadVersion)
    else Some BadMagic)

-- the body, or the fault
abbrev pub body_or : List ℕ → Option HeadFault → Result (List ℕ) HeadFault
body_or bytes None = Ok (slice_range bytes 37 (length bytes - 32))
body_or bytes (Some fault) = Err fault

abbrev pub opened : ℕ → List ℕ → List ℕ → Result (List ℕ) HeadFault
opened version mark bytes = body_or bytes (head_fault version mark bytes)
