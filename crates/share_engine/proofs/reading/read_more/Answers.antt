use Rattle.std.proofs.Common.{Option, IfSome, sym, subst}
use Rattle.share_etcd.specs.declared.contents.Contents.{Contents}
use Rattle.share_etcd.specs.Keys.{text_of}
use Rattle.share_etcd.specs.Views.{contents_view}
use Rattle.share_engine.proofs.Readings.{Reads, has_if, all_if}
use Rattle.share_engine.proofs.reading.read_more.Goals as goal

pub returns-clause-has : goal.returns-clause-has
returns-clause-has g c =
    let world = text_of c.args.name.now in
    let old = g.E.Engine.told c.args.engine.now in
    let new = g.E.Engine.told c.read_from.new.engine in
    let first = c.next_number-first.result in
    let reads : Reads world old new first (contents_view c.in-Some.contents) =
    subst (λ (o : Option Contents). IfSome o (λ v. Reads world old new first (contents_view v))) c.in-Some.is c.in_ok-contents.ensures.read in
    has_if world old new (contents_view c.in-Some.contents) c.args.known.now.start c.args.known.now.entries c.add_contents.new.known.entries first c.add_contents.result
    (sym c.next_number-first.ensures) reads c.add_contents.ensures.read

pub returns-clause-all : goal.returns-clause-all
returns-clause-all g c =
    let world = text_of c.args.name.now in
    let old = g.E.Engine.told c.args.engine.now in
    let new = g.E.Engine.told c.read_from.new.engine in
    let first = c.next_number-first.result in
    let reads : Reads world old new first (contents_view c.in-Some.contents) =
    subst (λ (o : Option Contents). IfSome o (λ v. Reads world old new first (contents_view v))) c.in-Some.is c.in_ok-contents.ensures.read in
    all_if world old new (contents_view c.in-Some.contents) c.args.known.now.start c.args.known.now.entries c.add_contents.new.known.entries first _ c.add_contents.result
    (sym c.next_number-first.ensures) reads c.add_contents.ensures.read c.add_contents.ensures.all
