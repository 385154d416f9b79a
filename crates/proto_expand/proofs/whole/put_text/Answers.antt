use Rattle.std.proofs.Common.{◌≡◌, ◌∙◌, [], Ok, ap, rules, subst, sym}
use Rattle.proto_parts.specs.Settled.{doing}
use Rattle.proto_parts.specs.Put as put
use Rattle.proto_nodes.specs.Shown.{before, shown}
use Rattle.proto_nodes.specs.Frames.{FramesSound}
use Rattle.proto_expand.specs.Whole.{all_of, roots_do}
use Rattle.proto_expand.proofs.Together.{content-fails, gathered, same-parts}
use Rattle.proto_expand.proofs.whole.put_text.Goals as goal

pub put_all-made-requires-clause-machine : goal.put_all-made-requires-clause-machine
put_all-made-requires-clause-machine c =
    let none : c.new-frames.result.items ≡ [] = search rules in record { walker = c.new-walker.ensures.sound; frames = subst FramesSound (sym none) tt }

pub returns-in-Ok : goal.returns-in-Ok
returns-in-Ok c =
    λ ps k sized. gathered (all_of (doing (roots_do ps c.args.statements.now []) before)) c.gather.result c.or_memory.result c.in-Ok.made.roots c.in-Ok.made.routes (put.shown c.put_in-put.result) c.or_memory.ensures c.gather.ensures
    (ap (λ s. all_of (doing (roots_do ps c.args.statements.now []) s)) (sym c.new-walker.ensures.shown) ∙ c.in-Ok.ensures ps k sized ∙ ap (λ p. Ok (c.in-Ok.made.roots, c.in-Ok.made.routes, put.shown p)) (sym c.put_in-put.ensures))

pub returns-in-Err : goal.returns-in-Err
returns-in-Err c =
    λ ps k sized. content-fails (all_of (doing (roots_do ps c.args.statements.now []) before)) c.in-Err.fault
    (same-parts (all_of (doing (roots_do ps c.args.statements.now []) before)) (all_of (doing (roots_do ps c.args.statements.now []) (shown c.new-walker.result))) c.in-Err.fault
    (ap (λ s. all_of (doing (roots_do ps c.args.statements.now []) s)) (sym c.new-walker.ensures.shown)) (c.in-Err.ensures ps k sized))
