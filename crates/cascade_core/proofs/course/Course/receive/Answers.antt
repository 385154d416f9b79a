use Rattle.std.proofs.Common.{rules, ◌≡◌, ◌∙◌, sym, arith, true, false, Some, None}
use Rattle.std.specs.Prelude.{is_some}
use Rattle.script_running.specs.Acting.{call_of, receive}
use Rattle.cascade_core.specs.Course.{wiring_at, ports_of, script_of, seen}
use Rattle.cascade_core.proofs.Arrivals.{here-received, here-replies, missed-course, nowhere-course, nowhere-received, nowhere-replies, taken-course}
use Rattle.cascade_core.proofs.SoundLemmas.{has_scripts-counted, has_scripts-many, script-below}
use Rattle.cascade_core.proofs.course.Course.receive.Goals as goal

pub ports-ports-requires : goal.ports-ports-requires
ports-ports-requires g c = script-below (wiring_at c.args.routed.now) c.args.target.node c.in-Some.k (sym c.in-Some.ensures)

pub receive-requires-clause-there : goal.receive-requires-clause-there
receive-requires-clause-there g c =
    omega (
      arith,
      script-below (wiring_at c.args.routed.now) c.args.target.node c.in-Some.k (sym c.in-Some.ensures),
      has_scripts-many (wiring_at c.args.routed.now) (seen c.args.self.now) c.requires.has_scripts,
    )

pub receive-requires-2 : goal.receive-requires-2
receive-requires-2 g c =
    omega (
      arith,
      script-below (wiring_at c.args.routed.now) c.args.target.node c.in-Some.k (sym c.in-Some.ensures),
      has_scripts-many (wiring_at c.args.routed.now) (seen c.args.self.now) c.requires.has_scripts,
      has_scripts-counted (wiring_at c.args.routed.now) (seen c.args.self.now) c.requires.has_scripts,
    )

pub returns-in_default-clause-received : goal.returns-in_default-clause-received
returns-in_default-clause-received g c =
    let none : script_of (wiring_at c.args.routed.now) c.args.target.node ≡ None = search rules in
    nowhere-received (wiring_at c.args.routed.now) (seen c.args.self.now) c.args.target c.args.value.now none

pub returns-in_default-clause-course : goal.returns-in_default-clause-course
returns-in_default-clause-course g c =
    let none : script_of (wiring_at c.args.routed.now) c.args.target.node ≡ None = search rules in
    nowhere-course (wiring_at c.args.routed.now) (seen c.args.self.now) c.args.target c.args.value.now none

pub returns-in_default-clause-replies : goal.returns-in_default-clause-replies
returns-in_default-clause-replies g c =
    let none : script_of (wiring_at c.args.routed.now) c.args.target.node ≡ None = search rules in
    c.requires.empty ∙ nowhere-replies (wiring_at c.args.routed.now) (seen c.args.self.now) c.args.target c.args.value.now none

pub returns-then-not-receive-clause-received : goal.returns-then-not-receive-clause-received
returns-then-not-receive-clause-received g c =
    let here : script_of (wiring_at c.args.routed.now) c.args.target.node ≡ Some c.in-Some.k = search rules in
    let is : is_some (call_of (ports_of (wiring_at c.args.routed.now) c.in-Some.k) c.in-Some.k c.args.target.field c.args.value.now c.args.self.now.scripts) ≡ false = search rules in
    here-received (wiring_at c.args.routed.now) (seen c.args.self.now) c.args.target c.args.value.now c.in-Some.k here false (sym is)

pub returns-then-not-receive-clause-course : goal.returns-then-not-receive-clause-course
returns-then-not-receive-clause-course g c =
    let here : script_of (wiring_at c.args.routed.now) c.args.target.node ≡ Some c.in-Some.k = search rules in
    let is : is_some (call_of (ports_of (wiring_at c.args.routed.now) c.in-Some.k) c.in-Some.k c.args.target.field c.args.value.now c.args.self.now.scripts) ≡ false = search rules in
    let scripts : c.receive.new.self ≡ (receive (ports_of (wiring_at c.args.routed.now) c.in-Some.k) c.in-Some.k c.args.target.field c.args.value.now c.args.self.now.scripts).scripts = search rules in
    missed-course (wiring_at c.args.routed.now) (seen c.args.self.now) c.args.target c.args.value.now c.in-Some.k here c.receive.new.self scripts is

pub returns-then-not-receive-clause-replies : goal.returns-then-not-receive-clause-replies
returns-then-not-receive-clause-replies g c =
    let here : script_of (wiring_at c.args.routed.now) c.args.target.node ≡ Some c.in-Some.k = search rules in
    let sent : c.receive.new.out.items ≡ (receive (ports_of (wiring_at c.args.routed.now) c.in-Some.k) c.in-Some.k c.args.target.field c.args.value.now c.args.self.now.scripts).replies = search rules in
    here-replies (wiring_at c.args.routed.now) (seen c.args.self.now) c.args.target c.args.value.now c.in-Some.k here c.receive.new.out.items sent

pub returns-clause-received : goal.returns-clause-received
returns-clause-received g c =
    let here : script_of (wiring_at c.args.routed.now) c.args.target.node ≡ Some c.in-Some.k = search rules in
    let is : is_some (call_of (ports_of (wiring_at c.args.routed.now) c.in-Some.k) c.in-Some.k c.args.target.field c.args.value.now c.args.self.now.scripts) ≡ true = search rules in
    here-received (wiring_at c.args.routed.now) (seen c.args.self.now) c.args.target c.args.value.now c.in-Some.k here true (sym is)

pub returns-clause-course : goal.returns-clause-course
returns-clause-course g c =
    let here : script_of (wiring_at c.args.routed.now) c.args.target.node ≡ Some c.in-Some.k = search rules in
    let is : is_some (call_of (ports_of (wiring_at c.args.routed.now) c.in-Some.k) c.in-Some.k c.args.target.field c.args.value.now c.args.self.now.scripts) ≡ true = search rules in
    let scripts : c.receive.new.self ≡ (receive (ports_of (wiring_at c.args.routed.now) c.in-Some.k) c.in-Some.k c.args.target.field c.args.value.now c.args.self.now.scripts).scripts = search rules in
    taken-course (wiring_at c.args.routed.now) (seen c.args.self.now) c.args.target c.args.value.now c.in-Some.k here c.receive.new.self c.receive-2.new.self scripts c.in_ok-receive.ensures.ok is

pub returns-clause-replies : goal.returns-clause-replies
returns-clause-replies g c =
    let here : script_of (wiring_at c.args.routed.now) c.args.target.node ≡ Some c.in-Some.k = search rules in
    let sent : c.receive.new.out.items ≡ (receive (ports_of (wiring_at c.args.routed.now) c.in-Some.k) c.in-Some.k c.args.target.field c.args.value.now c.args.self.now.scripts).replies = search rules in
    here-replies (wiring_at c.args.routed.now) (seen c.args.self.now) c.args.target c.args.value.now c.in-Some.k here c.receive.new.out.items sent
