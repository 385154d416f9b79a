-- Why a file isn't recalled, and why a host doesn't go on with it.
use Rattle.std.proofs.Common.{◌≡◌, ◌⊎◌, ◌∙◌, inl, inr, ℕ, List, Result, Ok, refl, sym, ap, true≢false}
use Rattle.share_file.specs.declared.fault.OpenFault.{OpenFault}
use Rattle.share_file.specs.declared.fault.OpenFault.TheVariants as file_fault
use Rattle.share_file.specs.declared.contents.Expected.{Expected}
use Rattle.share_file.specs.Contents.{FileView, Refuses, contents_of}
use Rattle.app_logs.specs.declared.fault.LogFault.{LogFault}
use Rattle.app_logs.specs.declared.fault.LogFault.TheVariants.{Memory}
use Rattle.app_logs.specs.Beginning.{IsNotBegun, IsNotResumed}
use Rattle.app_logs.specs.Faults.{open_fault_of}
use Rattle.app_logs.specs.Recalling.{IsNoLog, log_in}
use Rattle.app_logs.proofs.Heads.{found_fits}

-- a file in memory that isn't opened
pub memory_refused : (file : List ℕ) (why : OpenFault) (fault : LogFault) → Refuses (log_in file) why → (why ≡ file_fault.Device → fault ≡ Memory)
    → (fault ≡ Memory) ⊎ (fault ≡ open_fault_of why) → (fault ≡ Memory) ⊎ IsNoLog file fault
memory_refused file why fault (inl device) d o = inl (d device)
memory_refused file why fault (inr (inl memory)) d (inl m) = inl m
memory_refused file why fault (inr (inl memory)) d (inr is) = inl (is ∙ ap open_fault_of memory)
memory_refused file why fault (inr (inr is)) d (inl m) = inl m
memory_refused file why fault (inr (inr is)) d (inr same) = inr (inl (why, is, same))

module _ (expected : Expected) (file : List ℕ) (v : FileView) (fault : LogFault) (is : contents_of expected file ≡ Ok v) where
  -- a log that was found, and whose entries no host wrote
  pub not_resumed : IsNotResumed v.head.viewers v.base v.entries fault → IsNotBegun (contents_of expected file) fault
  not_resumed (inl memory) = inr (inl memory)
  not_resumed (inr (inl broken)) = inr (inr (inr (v, broken.0, is, broken.1, broken.2)))
  not_resumed (inr (inr bad)) = absurd (true≢false (sym (found_fits expected file v is) ∙ bad.1))

pub not_written : (file : List ℕ) (v : FileView) (fault : LogFault) → log_in file ≡ Ok v → IsNotResumed v.head.viewers v.base v.entries fault
    → (fault ≡ Memory) ⊎ IsNoLog file fault
not_written file v fault is (inl memory) = inl memory
not_written file v fault is (inr (inl broken)) = inr (inr (v, broken.0, is, broken.1, broken.2))
not_written file v fault is (inr (inr bad)) = absurd (true≢false (sym (found_fits _ file v is) ∙ bad.1))

-- a file that isn't opened
pub not_opened : (answer : Result FileView OpenFault) (why : OpenFault) → Refuses answer why → IsNotBegun answer (open_fault_of why)
not_opened answer why (inl device) = inl (ap open_fault_of device)
not_opened answer why (inr (inl memory)) = inr (inl (ap open_fault_of memory))
not_opened answer why (inr (inr is)) = inr (inr (inl (why, is, refl)))
