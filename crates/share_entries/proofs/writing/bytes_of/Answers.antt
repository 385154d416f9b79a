use Rattle.std.proofs.Common.{◌≡◌, ◌++◌, ℕ, List, true, ap, ◌∙◌, rules}
use Rattle.byte_codec.proofs.Laws.{and_true}
use Rattle.x3d_values.specs.Ranges.{is_input_time}
use Rattle.share_entries.specs.Entry.{entry_codec, source_fits}
use Rattle.share_entries.proofs.EntryLaws.{entry_exact}
use Rattle.share_entries.proofs.writing.bytes_of.Goals as goal

pub returns-clause-fits : goal.returns-clause-fits
unfolding entry_codec
returns-clause-fits c =
    let time : is_input_time c.args.entry.now.time ≡ true = search rules in
    let source : source_fits c.args.entry.now.source ≡ true = search rules in
    and_true _ _ time source

pub returns-clause-again : goal.returns-clause-again
unfolding entry_codec
returns-clause-again c = λ rest.
    let e = c.args.entry.now in
    let text : c.push_source.new.out.items ≡ entry_codec.write e = search rules in
    ap (λ (t : List ℕ). entry_codec.read (t ++ rest)) text ∙ entry_exact.again e rest (returns-clause-fits c)
