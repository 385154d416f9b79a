-- An event that comes to the script of its target, by what is found of it.
use Rattle.std.proofs.Common.{◌≡◌, ◌∙◌, ap, sym, refl, ℕ, Bool, true, false, List, [], Option, Some, None}
use Rattle.std.specs.Prelude.{is_some}
use Rattle.std.specs.Option.{option_and_then, option_map}
use Rattle.x3d_values.specs.declared.value.Value.{Value}
use Rattle.react_core.specs.declared.outbox.SentEvent.{SentEvent}
use Rattle.scene_core.specs.declared.scene.End.{End}
use Rattle.script_host.specs.Behaviour.{Call}
use Rattle.script_host.specs.Hosting.{SlotView}
use Rattle.script_slots.specs.Settling.{DueScriptsView, with_received}
use Rattle.script_running.specs.Acting.{Acted, call_of, receive, receiving}
use Rattle.cascade_core.specs.Cascade.{Arrival, Reacted, arrival, received_by}
use Rattle.cascade_core.specs.Course.{CourseView, Wiring, ports_of, script_of}

-- a call of that script
abbrev made : ℕ → Call → Arrival
made k call = record { number = k; call = call }

module _ (wiring : Wiring) (c : CourseView) (target : End) (v : Value) where
  -- what a call of that script is
  abbrev call_at : ℕ → Option Call
  call_at k = call_of (ports_of wiring k) k target.field v c.scripts

  abbrev arrive : ℕ → Option Arrival
  arrive k = option_map (made k) (call_at k)

  abbrev acted_at : ℕ → Acted
  acted_at k = receive (ports_of wiring k) k target.field v c.scripts

  -- the node has no script
  pub arrival-nowhere : script_of wiring target.node ≡ None → None ≡ arrival wiring c target v
  arrival-nowhere none = sym (ap (option_and_then arrive) none)

  pub nowhere-received : script_of wiring target.node ≡ None → false ≡ is_some (arrival wiring c target v)
  nowhere-received none = ap is_some (arrival-nowhere none)

  pub nowhere-course : script_of wiring target.node ≡ None → c ≡ (received_by wiring c (arrival wiring c target v)).course
  nowhere-course none = ap (λ (a : Option Arrival). (received_by wiring c a).course) (arrival-nowhere none)

  pub nowhere-replies : script_of wiring target.node ≡ None → [] ≡ (received_by wiring c (arrival wiring c target v)).replies
  nowhere-replies none = ap (λ (a : Option Arrival). (received_by wiring c a).replies) (arrival-nowhere none)

  module _ (k : ℕ) (here : script_of wiring target.node ≡ Some k) where
    arrival-here : arrive k ≡ arrival wiring c target v
    arrival-here = sym (ap (option_and_then arrive) here)

    reached-here : received_by wiring c (arrive k) ≡ received_by wiring c (arrival wiring c target v)
    reached-here = ap (received_by wiring c) arrival-here

    as-call : (call : Option Call) → is_some call ≡ is_some (option_map (made k) call)
    as-call None = refl
    as-call (Some call) = refl

    -- whether the script receives
    pub here-received : (received : Bool) → received ≡ is_some (call_at k) → received ≡ is_some (arrival wiring c target v)
    here-received received is = is ∙ as-call (call_at k) ∙ ap is_some arrival-here

    answers : (call : Option Call) →
        (receiving (ports_of wiring k) k c.scripts call).replies ≡ (received_by wiring c (option_map (made k) call)).replies
    answers None = refl
    answers (Some call) = refl

    pub here-replies : (replies : List SentEvent) → replies ≡ (acted_at k).replies → replies ≡ (received_by wiring c (arrival wiring c target v)).replies
    here-replies replies is = is ∙ answers (call_at k) ∙ ap (λ (r : Reacted). r.replies) reached-here

    misses : (call : Option Call) → is_some call ≡ false →
        record c { scripts = (receiving (ports_of wiring k) k c.scripts call).scripts } ≡ (received_by wiring c (option_map (made k) call)).course
    misses None h = refl
    misses (Some call) h = cc

    -- it doesn't
    pub missed-course : (scripts : List SlotView) → scripts ≡ (acted_at k).scripts → is_some (call_at k) ≡ false →
        record c { scripts = scripts } ≡ (received_by wiring c (arrival wiring c target v)).course
    missed-course scripts is none =
        ap (λ (s : List SlotView). record c { scripts = s }) is ∙ misses (call_at k) none ∙ ap (λ (r : Reacted). r.course) reached-here

    takes : (call : Option Call) → is_some call ≡ true →
        record c { scripts = (receiving (ports_of wiring k) k c.scripts call).scripts; settling = with_received c.settling k }
        ≡ (received_by wiring c (option_map (made k) call)).course
    takes None h = cc
    takes (Some call) h = refl

    -- it does
    pub taken-course : (scripts : List SlotView) (settling : DueScriptsView) → scripts ≡ (acted_at k).scripts → settling ≡ with_received c.settling k →
        is_some (call_at k) ≡ true → record c { scripts = scripts; settling = settling } ≡ (received_by wiring c (arrival wiring c target v)).course
    taken-course scripts settling is noted some =
        ap (λ (s : List SlotView). record c { scripts = s; settling = settling }) is
        ∙ ap (λ (t : DueScriptsView). record c { scripts = (acted_at k).scripts; settling = t }) noted
        ∙ takes (call_at k) some
        ∙ ap (λ (r : Reacted). r.course) reached-here
