use Rattle.std.proofs.Common.{◌≡◌, ◌++◌, ◌+◌, ◌-◌, ◌∷◌, [], ℕ, List, Option, None, Some, inr, ap, arith, rules}
use Rattle.std.specs.Option.{ok_or}
use Rattle.std.proofs.lemmas.Grind.{common_steps}
use Rattle.byte_codec.specs.Codec.{many_at}
use Rattle.share_entries.specs.declared.frame.FrameFault.TheVariants.{BadEntry}
use Rattle.share_entries.specs.Entry.{EntryView, entry_codec}
use Rattle.share_entries.proofs.Loops.{after_those, goes_on, stops, is_done}
use Rattle.share_entries.proofs.frame.entries_in.Goals as goal

pub returns-in_default : goal.returns-in_default
returns-in_default c =
    let total = many_at entry_codec c.args.count c.args.bytes.now in
    let none : entry_codec.read c.loop.rest.now ≡ None = search rules in
    inr (ap (λ (o : Option (List EntryView × List ℕ)). ok_or o BadEntry)
    (stops entry_codec c.loop.entries.items c.args.count c.loop.counter c.loop.rest.now total c.loop.invariant c.loop-test.true none))

pub loop-preserved : goal.loop-preserved
loop-preserved c =
    let total = many_at entry_codec c.args.count c.args.bytes.now in
    let items = c.push.new.self.items in
    let pushed : items ≡ c.loop.entries.items ++ c.in-Some.entry ∷ [] = search rules in
    let step : (after : List ℕ) → entry_codec.read c.loop.rest.now ≡ Some (c.in-Some.entry, after)
    → after_those items (many_at entry_codec (c.args.count - (c.loop.counter + 1)) after) ≡ total =
    λ after read.
    goes_on entry_codec c.loop.entries.items c.args.count c.loop.counter c.loop.rest.now total c.loop.invariant c.in-Some.entry after items pushed c.loop-test.true read in
    first_of (search (rules, step), grind (arith, common_steps, step))

pub returns : goal.returns
returns c =
    let total = many_at entry_codec c.args.count c.args.bytes.now in
    ap (λ (o : Option (List EntryView × List ℕ)). ok_or o BadEntry)
    (is_done entry_codec c.loop.entries.items c.args.count c.loop.counter c.loop.rest.now total c.loop.invariant c.loop-test.false)
