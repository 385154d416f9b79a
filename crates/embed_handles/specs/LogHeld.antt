-- What a handle owns: nothing if it is null, else the log behind its pointer with the right to
-- free its block.
use Rattle.std.specs.Prelude.{Option, Some, None}
use base.Fml.{Fml, feq}
use denote.RawPtr.{Ptr, null_ptr}
use Rattle.std.specs.Box.Ownership.{box_owns}
use Rattle.std.specs.contracts.impls.GlobalAllocator.TheImpl.{ghosts}
use Rattle.embed_logs.specs.declared.files.LogFile.{LogFile}
use Rattle.embed_logs.specs.contracts.files.LogFile.{the_row}
use Rattle.embed_handles.specs.Heap.{heap}

abbrev pub held : Ptr → Option LogFile → Fml
held p None = feq Ptr p null_ptr
held p (Some c) = box_owns (ghosts.dealloc_token heap) the_row p c
