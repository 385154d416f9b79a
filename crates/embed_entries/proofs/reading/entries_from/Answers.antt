use Rattle.std.proofs.Common.{rules, ◌≡◌, [], ◌∷◌, ◌++◌}
use Rattle.embed_entries.specs.Appends.{lines_from}
use Rattle.embed_entries.proofs.LineTexts.{one-more, read-line}
use Rattle.embed_entries.proofs.reading.entries_from.Goals as goal

pub loop-number-preserved : goal.loop-number-preserved
loop-number-preserved c =
    let so_far = c.loop-number.invariant in
    let e = c.in-Some-entry_of.entry in
    let numbered = c.in-Some.ensures.found in
    let lines = read-line c.args.first c.args.bytes.now c.loop-number.entries.items e c.loop-number.number c.loop-number.rest.now c.in-Some.line.now c.in-Some-entry_of.behind.now
    so_far.text so_far.count numbered c.in-Some-entry_of.ensures.found in
    let grown : c.push.new.self.items ≡ c.loop-number.entries.items ++ e ∷ [] = search rules in
    let both = one-more c.args.first c.args.bytes.now c.loop-number.entries.items e c.loop-number.number c.push.new.self.items c.in-Some-entry_of.behind.now grown so_far.count lines in
    let text : c.args.bytes.now ≡ lines_from c.args.first c.push.new.self.items ++ c.in-Some-entry_of.behind.now = both.0 in
    record { text = search rules; count = both.1 }
