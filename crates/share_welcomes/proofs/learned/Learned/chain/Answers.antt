use Rattle.std.proofs.Common.{rules, arith, ◌≡◌, ◌≤◌, ◌-◌, ◌∙◌, ap, length}
use Rattle.std.specs.Prelude.{slice_get, Some}
use Rattle.std.proofs.lemmas.List.{length-map}
use Rattle.share_welcomes.specs.declared.learned.Link.{Link}
use Rattle.share_welcomes.specs.Learned.{LearnedView, chain_at, entries_of}
use Rattle.share_welcomes.proofs.Links.{chain_of_link, read_at, viewed}
use Rattle.share_welcomes.proofs.learned.Learned.chain.Goals as goal

pub returns-in-Some : goal.returns-in-Some
returns-in-Some c =
    let old = c.self.inside in
    let links = old.links.items in
    let place = c.args.count - old.dropped in
    let known = c.in-Some.known.now in
    let l = c.in-Some.ensures.lookup in
    let got : slice_get links place ≡ Some known = read_at c.deref.result.now links place known (search rules) l.3.0 l.1 in
    let within : place ≤ length (entries_of links) = omega (arith, length-map links (λ (l : Link). l.entry)) in
    chain_of_link (viewed old.run old.dropped old.before (entries_of links) old.boots) links c.args.count known c.self.invariant.0 c.if-count-self.false within got
    ∙ ap (λ (v : LearnedView). chain_at v c.args.count) c.self.view_is
