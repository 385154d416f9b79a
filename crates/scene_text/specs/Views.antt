-- The code's plans and shown fields, with their references resolved.
use Rattle.std.specs.Option.{option_copied}
use Rattle.scene_text.specs.declared.plan.Plan.{Plan}
use Rattle.scene_text.specs.declared.plan.ShownField.{ShownField}
use Rattle.scene_text.specs.declared.plan.ShownField.TheVariants as shown
use Rattle.scene_text.specs.Tree.{PlanView, Shown, Plain, Declared}

abbrev pub plan_of : Plan → PlanView
plan_of p = record {
  scene = p.scene.now;
  routes = p.routes.now;
  state = p.state.now;
  named = p.named.now;
}

abbrev pub shown_of : ShownField → Shown
shown_of (shown.Plain name value) = Plain name.now value.now
shown_of (shown.Declared d held) = Declared d.now (option_copied held)
