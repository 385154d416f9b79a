use Rattle.share_etcd.specs.Keys.{text_of}
use Rattle.share_etcd.specs.Views.{contents_view}
use Rattle.share_engine.proofs.Openings.{found_all, found_more}
use Rattle.share_engine.proofs.opening.read_found.Goals as goal

pub returns-in-Some-clause-all : goal.returns-in-Some-clause-all
returns-in-Some-clause-all g c =
    found_all (text_of c.args.name.now) (g.E.Engine.told c.args.engine.now) (contents_view c.args.contents.now) c.args.known.now.start c.args.known.now.entries c.add_contents.new.known.entries
    c.in_ok-revisions.ensures.read _ c.in_ok-revisions.field-0 c.in-Some.revisions c.in-Some.is c.in_ok-revisions.ensures.all

pub returns-clause-all : goal.returns-clause-all
returns-clause-all g c =
    found_more (text_of c.args.name.now) (g.E.Engine.told c.args.engine.now) (contents_view c.args.contents.now) c.args.known.now.start c.args.known.now.entries c.add_contents.new.known.entries
    c.in_ok-revisions.ensures.read (g.E.Engine.told c.read_all.new.engine) c.add_contents.new.known.start c.read_all.new.known.entries c.read_all.result
    c.add_contents.ensures.start c.read_all.ensures.all
