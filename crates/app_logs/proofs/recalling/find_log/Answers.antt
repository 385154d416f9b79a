use Rattle.std.proofs.Common.{◌≡◌, refl, ℕ, List, Ok, subst}
use Rattle.std.specs.Prelude.{None}
use Rattle.sqlite_disk.specs.Memory.{memory_bytes}
use Rattle.share_file.specs.Contents.{FileView, contents_of}
use Rattle.app_logs.proofs.recalling.find_log.Goals as goal

pub returns-in-Ok-clause-found : goal.returns-in-Ok-clause-found
returns-in-Ok-clause-found c =
    let found : FileView = record { head = c.in-Ok.found.head; base = c.in-Ok.found.base; entries = c.in-Ok.found.entries.items; cut = c.in-Ok.found.cut } in (
      found,
      subst (λ (m : List ℕ). contents_of (record { mark = m; viewers = None }) (memory_bytes c.args.file) ≡ Ok found) c.requires.mark (c.in-Ok.ensures.found refl),
      refl,
      refl,
      refl,
      refl,
    )
