use Rattle.std.proofs.Common.{rules, ◌≡◌, ◌-◌, ◌∙◌, ap}
use Rattle.std.specs.Prelude.{slice_get, Some}
use Rattle.share_welcomes.specs.Learned.{LearnedView, entries_of, input_at}
use Rattle.share_welcomes.proofs.Links.{input_is, read_at, viewed}
use Rattle.share_welcomes.proofs.learned.Learned.input.Goals as goal

pub returns : goal.returns
returns c =
    let old = c.self.inside in
    let links = old.links.items in
    let place = c.args.number - 1 - old.dropped in
    let known = c.in-Some.known.now in
    let l = c.in-Some.ensures.lookup in
    let got : slice_get links place ≡ Some known = read_at c.deref.result.now links place known (search rules) l.3.0 l.1 in
    input_is (viewed old.run old.dropped old.before (entries_of links) old.boots) links c.args.number c.new.result known (search rules) c.self.invariant.0 c.if-number-self.false got
    ∙ ap (λ (v : LearnedView). input_at v c.args.number) c.self.view_is
