use Rattle.std.proofs.Common.{List, sym, ◌∙◌, ap}
use Rattle.share_entries.specs.Entry.{EntryView}
use Rattle.share_entries.specs.Chain.{chain_after}
use Rattle.share_log.specs.Frames.{frames_of}
use Rattle.share_entries.specs.declared.start.Start.{Start}
use Rattle.share_file.proofs.Keeping.{begun, read_of, to_old}
use Rattle.share_file.proofs.Bases.{none_behind, starts_at_base}
use Rattle.share_file.proofs.basing.append_base.Goals as goal

pub new-requires-in-Ok-clause-named : goal.new-requires-in-Ok-clause-named
new-requires-in-Ok-clause-named g c = λ clean.
    let head = c.args.head.now in
    let old = c.args.log.disk in
    let new = c.append.new.self.disk in
    let before = to_old (g.D.Disk.is_clean new) (g.D.Disk.is_clean old) c.append.ensures.clean clean in
    starts_at_base head c.args.base.now c.args.payload.now c.requires.text c.requires.again (frames_of (g.D.Disk.seen old)) (frames_of (g.D.Disk.seen new)) (c.requires.made before) (c.in-Ok.ensures.seen clean) c.requires.seats
    ∙ ap (λ (s : Start). begun s) (sym (c.start_at.ensures.value head))

pub new-requires-in-Ok-clause-reads : goal.new-requires-in-Ok-clause-reads
new-requires-in-Ok-clause-reads g c = λ clean.
    let old = c.args.log.disk in
    let new = c.append.new.self.disk in
    let before = to_old (g.D.Disk.is_clean new) (g.D.Disk.is_clean old) c.append.ensures.clean clean in
    none_behind c.args.head.now c.args.base.now c.args.payload.now c.requires.text c.requires.again (frames_of (g.D.Disk.seen old)) (frames_of (g.D.Disk.seen new)) (c.requires.made before) (c.in-Ok.ensures.seen clean) c.start_at.result
    ∙ ap (λ (es : List EntryView). read_of es) (sym c.new.ensures.items)

pub new-requires-in-Ok-clause-chain : goal.new-requires-in-Ok-clause-chain
new-requires-in-Ok-clause-chain g c =
    c.chain.ensures.value ∙ ap (λ (s : Start). s.chain) (sym (c.start_at.ensures.value c.args.head.now))
    ∙ ap (λ (es : List EntryView). chain_after c.start_at.result.chain es) (sym c.new.ensures.items)

pub returns-in-Ok-clause-start : goal.returns-in-Ok-clause-start
returns-in-Ok-clause-start g c = c.new-in-Ok.ensures.start ∙ c.start_at.ensures.value c.args.head.now
