use Rattle.std.proofs.Common.{◌≡◌, ◌++◌, ◌+◌, ◌-◌, ◌∷◌, [], ℕ, List, None, Some, sym, arith, rules}
use Rattle.std.proofs.lemmas.Grind.{common_steps}
use Rattle.byte_codec.specs.Codec.{many_at}
use Rattle.share_entries.specs.Base.{seat_codec}
use Rattle.share_entries.proofs.Loops.{after_those, goes_on, stops, is_done}
use Rattle.share_entries.proofs.base.seats_of.Goals as goal

pub returns-in_default-clause-read : goal.returns-in_default-clause-read
returns-in_default-clause-read c =
    let total = many_at seat_codec c.args.count c.args.bytes.now in
    let none : seat_codec.read c.loop.rest.now ≡ None = search rules in
    sym (stops seat_codec c.loop.kept.items c.args.count c.loop.counter c.loop.rest.now total c.loop.invariant.read c.loop-test.true none)

pub loop-preserved : goal.loop-preserved
loop-preserved c =
    let total = many_at seat_codec c.args.count c.args.bytes.now in
    let items = c.push.new.self.items in
    let pushed : items ≡ c.loop.kept.items ++ c.in-Some.seat ∷ [] = c.push.ensures.items in
    let step : (after : List ℕ) → seat_codec.read c.loop.rest.now ≡ Some (c.in-Some.seat, after)
    → after_those items (many_at seat_codec (c.args.count - (c.loop.counter + 1)) after) ≡ total =
    λ after read.
    goes_on seat_codec c.loop.kept.items c.args.count c.loop.counter c.loop.rest.now total c.loop.invariant.read c.in-Some.seat after items pushed c.loop-test.true read in
    record {
      read = first_of (search (rules, step), grind (arith, common_steps, step));
      len = omega (arith, c.push.ensures.len, c.loop.invariant.len);
    }

pub returns-clause-read : goal.returns-clause-read
returns-clause-read c =
    let total = many_at seat_codec c.args.count c.args.bytes.now in
    sym (is_done seat_codec c.loop.kept.items c.args.count c.loop.counter c.loop.rest.now total c.loop.invariant.read c.loop-test.false)
