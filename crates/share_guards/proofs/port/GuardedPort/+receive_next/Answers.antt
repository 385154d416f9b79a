use Rattle.std.proofs.Common.{inl, inr}
use Rattle.share_guards.specs.Passing.{moment}
use Rattle.share_guards.specs.declared.coming.Coming.TheVariants as coming
use Rattle.share_guards.proofs.Arriving.{cut, dropped_then, ended_by, failed_by}
use Rattle.share_guards.proofs.port.GuardedPort.+receive_next.Goals as goal

pub returns-in-Ok-Dropped-clause-guard : goal.returns-in-Ok-Dropped-clause-guard
returns-in-Ok-Dropped-clause-guard g t c =
    dropped_then g.P.Port.told g.P.Placed.place_of c.args.left
    (moment c.args.self.now.guard c.args.self.now.port) (moment c.receive_one.new.self.guard c.receive_one.new.self.port)
    (moment c.receive_next.new.self.guard c.receive_next.new.self.port)
    c.receive_one.new.into c.receive_next.new.into c.receive_one.result c.in-Ok-Dropped.field-0 c.receive_next.result
    c.if-left-eq0.false c.in-Ok-Dropped.is c.in-Ok-Dropped.field-0-is c.receive_one.ensures.guard c.receive_next.ensures.guard

pub returns-in-Ok-Handed-clause-guard : goal.returns-in-Ok-Handed-clause-guard
returns-in-Ok-Handed-clause-guard g t c =
    ended_by g.P.Port.told g.P.Placed.place_of c.args.left
    (moment c.args.self.now.guard c.args.self.now.port) (moment c.receive_one.new.self.guard c.receive_one.new.self.port)
    c.receive_one.new.into c.receive_one.result c.in-Ok-Handed.field-0 (coming.Handed c.in-Ok-Handed.from c.in-Ok-Handed.count)
    c.if-left-eq0.false c.in-Ok-Handed.is c.in-Ok-Handed.field-0-is c.receive_one.ensures.guard

pub returns-in-Ok-Nothing-clause-guard : goal.returns-in-Ok-Nothing-clause-guard
returns-in-Ok-Nothing-clause-guard g t c =
    inl (ended_by g.P.Port.told g.P.Placed.place_of c.args.left
    (moment c.args.self.now.guard c.args.self.now.port) (moment c.receive_one.new.self.guard c.receive_one.new.self.port)
    c.receive_one.new.into c.receive_one.result c.in-Ok-Nothing.field-0 coming.Nothing
    c.if-left-eq0.false c.in-Ok-Nothing.is c.in-Ok-Nothing.field-0-is c.receive_one.ensures.guard)

pub returns-in-Err-clause-guard : goal.returns-in-Err-clause-guard
returns-in-Err-clause-guard g t c =
    failed_by g.P.Port.told g.P.Placed.place_of c.args.left
    (moment c.args.self.now.guard c.args.self.now.port) (moment c.receive_one.new.self.guard c.receive_one.new.self.port)
    c.receive_one.new.into c.receive_one.result c.in-Err.fault c.if-left-eq0.false c.in-Err.is c.receive_one.ensures.guard

pub returns-then-left-eq0-clause-guard : goal.returns-then-left-eq0-clause-guard
returns-then-left-eq0-clause-guard g t c =
    inr (cut g.P.Port.told g.P.Placed.place_of c.args.left (moment c.args.self.now.guard c.args.self.now.port) c.if-left-eq0.true)
