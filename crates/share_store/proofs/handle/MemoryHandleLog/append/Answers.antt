use Rattle.std.proofs.Common.{◌++◌, List, refl, ◌∙◌, ap}
use Rattle.std.proofs.lemmas.List.{append_assoc}
use Rattle.share_entries.specs.Entry.{EntryView}
use Rattle.share_store.specs.Memory.{known_by}
use Rattle.share_store.proofs.handle.MemoryHandleLog.append.Goals as goal

pub returns-clause-crash : goal.returns-clause-crash
returns-clause-crash c = λ last clean left is.
    let old = c.args.self.now.log.now in
    let first = last old.entries refl in
    let grown = c.append_by.ensures.grows in
    (first.0 ++ grown.0, is ∙ grown.1 ∙ ap (λ (es : List EntryView). es ++ grown.0) first.1 ∙ append_assoc (known_by old c.args.self.now.number) first.0 grown.0)
