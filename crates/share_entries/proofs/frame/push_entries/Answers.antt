use Rattle.std.proofs.Common.{◌≡◌, ◌++◌, ◌+◌, ℕ, List, length, get_or, ap, sym, ◌∙◌, arith, length-append}
use Rattle.share_entries.specs.Entry.{EntryView, entry_codec}
use Rattle.share_entries.proofs.Loops.{one_more, fits_one_more}
use Rattle.share_entries.proofs.frame.push_entries.Goals as goal

pub loop-entry-preserved : goal.loop-entry-preserved
loop-entry-preserved c =
    let e = c.entry-item.result in
    let i = c.loop-entry.entry-index in
    let entries = c.args.entries.now in
    let now = c.loop-entry.out.items in
    let so_far = c.loop-entry.invariant in
    let here : e ≡ get_or entries i e = c.entry-item.is in
    let grown : c.extend_from_slice.new.self.items ≡ now ++ c.as_slice.result.now = c.in_ok-extend_from_slice.ensures.items in
    let bytes : c.as_slice.result.now ≡ entry_codec.write e = c.as_slice.ensures.value ∙ c.bytes_of.ensures.text in
    let new : c.extend_from_slice.new.self.items ≡ now ++ entry_codec.write (get_or entries i e) = grown ∙ ap (λ (l : List ℕ). now ++ l) (bytes ∙ ap (λ (x : EntryView). entry_codec.write x) here) in
    let len : length c.extend_from_slice.new.self.items ≡ length now + length c.as_slice.result.now = ap length grown ∙ length-append now c.as_slice.result.now in
    record {
      text = one_more entry_codec.write entries i e c.args.out.now.items now c.extend_from_slice.new.self.items c.loop-entry-test.true so_far.text new;
      most = omega (arith, so_far.most, len, ap length c.as_slice.ensures.value, c.bytes_of.ensures.most);
      fit = fits_one_more entry_codec entries i e c.loop-entry-test.true so_far.fit (ap (λ (x : EntryView). entry_codec.fits x) (sym here) ∙ c.bytes_of.ensures.fits);
    }
