-- A handle may go to another thread, as its log may.
use mir.Raw.{raw}
use base.Fraction.{full_share}
use base.Shift.{Keyless}
use denote.Exit.{Exit, unchanged, leaves, hidden, under}
use denote.Memory.{lone}
use denote.RawPtr.{Ptr, block_ptr, null_ptr, lies_at}
use denote.Param.Send.{IsSend, AllSend, Quiet, owning_send, part_keyless, struct_send, sendable}
use denote.Struct.Struct.{exits_of}
use denote.Struct.Owning.{shape, fields, to}
use Rattle.std.specs.Prelude.{Option, Some, None}
use Rattle.std.proofs.Crossing.{frees}
use Rattle.embed_logs.specs.declared.files.LogFile.{LogFile}
use Rattle.embed_logs.specs.contracts.files.LogFile.{the_row as R}
use Rattle.embed_logs.proofs.files.LogFile.TheSendSync.{the_send as log}
use Rattle.embed_handles.specs.Heap.{heap}
use Rattle.embed_handles.specs.LogHeld.{held}
use Rattle.embed_handles.specs.contracts.log_handle.LogHandle.{the_row, the_type}

quiet : {D X : Type 0} (to : D → X) (e : Exit X) → Quiet e → Quiet (hidden (under to e))
quiet to unchanged q = λ x w. tt
quiet to (leaves L l S s r₀) q = λ d. q (to d)

lies : (p : Ptr) (c : LogFile) → Keyless (lies_at R full_share p c)
lies (block_ptr b o) c = part_keyless R log full_share c b o
lies null_ptr c = tt

keyless : (p : Ptr) (c : Option LogFile) → Keyless (held p c)
keyless p None = tt
keyless p (Some c) = (lies p c, frees.frees heap (raw (lone R.mir)) p)

pub send : IsSend the_row
send =
    let all : AllSend (fields the_type) = (search sendable, tt) in
    owning_send the_type all (λ d. keyless d.at d.log) (λ k. quiet (to the_type) (exits_of k (fields the_type)) ((struct_send (shape the_type) all).leaving k))
