-- An input adds to the trace a line for each output that sends, and each output sends once.
use Rattle.std.proofs.Common.{◌≡◌, Bool, true, false, not, ◌&&◌, ◌||◌, List, [], ◌∷◌, ◌++◌, ◌∙◌, ap, sym, refl, append_assoc}
use Rattle.x3d_values.specs.Pointing.{PointerView}
use Rattle.std.proofs.lemmas.List.{map-append, append-nil}
use Rattle.std.proofs.lemmas.List.Folds.{list_any-append}
use Rattle.cascade_trace.specs.Ends.{all_differ, has_sent, same_end}
use Rattle.cascade_world.specs.World.{record_event}
use Rattle.cascade_world.specs.Answers.{with_answer, NodeAnswer}
use Rattle.cascade_core.specs.Apply.{with_button}
use Rattle.cascade_core.specs.Work.{sources_of}
use Rattle.cascade_trace.proofs.SameEnds.{same_end-is, same_end-self}
use Rattle.x3d_values.specs.declared.value.Value.{Value}
use Rattle.scene_core.specs.declared.scene.End.{End}
use Rattle.cascade_trace.specs.declared.trace.TraceLine.{TraceLine}
use Rattle.cascade_world.specs.declared.world.Live.{Live}

-- the trace is the one at the start and a line for each output that has sent, all different
pub record IsGain (start : List TraceLine) (live : Live) : Type 0 where
  pub lines : List TraceLine
  pub gained : live.world.trace ≡ start ++ lines
  pub sources : sources_of lines ≡ live.sent
  pub differ : all_differ live.sent ≡ true

and_true : (a b : Bool) → a ≡ true → b ≡ true → (a && b) ≡ true
and_true a b p q = rw (p, q) refl

split : (a b : Bool) → (not a && b) ≡ true → (a ≡ false) × (b ≡ true)
split true b h = cc
split false b h = (refl, h)

neither : (a b : Bool) → (a || b) ≡ false → (a ≡ false) × (b ≡ false)
neither true b h = cc
neither false b h = (refl, h)

-- the test goes both ways
other_way : (a b : End) → same_end a b ≡ false → same_end b a ≡ false
other_way a b h = cases (same_end b a) refl
  where
    cases : (t : Bool) → same_end b a ≡ t → same_end b a ≡ false
    cases false e = e
    cases true e =
        let same : b ≡ a = same_end-is b a e in
        let no : same_end a b ≡ true = rw same (same_end-self a) in
        cc

differ-push : (es : List End) (e : End) → all_differ es ≡ true → has_sent es e ≡ false → all_differ (es ++ e ∷ []) ≡ true
differ-push [] e d h = refl
differ-push (x ∷ es) e d h =
    let (first, rest) = split (has_sent es x) (all_differ es) d in
    let (apart, later) = neither (same_end x e) (has_sent es e) h in
    let more : has_sent (es ++ e ∷ []) x ≡ false = rw (list_any-append (λ y. same_end y x) es (e ∷ []), first, other_way x e apart) refl in
    rw more (differ-push es e rest later)

pub gain-record : (start : List TraceLine) (live : Live) (source : End) (v : Value) → has_sent live.sent source ≡ false → IsGain start live → IsGain start (record_event live source v)
gain-record start live source v h g =
    let line : TraceLine = record { input = live.world.applied; time = live.world.last_time; source = source; value = v } in
    record {
      lines = g.lines ++ line ∷ [];
      gained = rw (g.gained) (append_assoc start g.lines (line ∷ []));
      sources = map-append (λ (l : TraceLine). l.source) g.lines (line ∷ []) ∙ ap (λ (es : List End). es ++ source ∷ []) g.sources;
      differ = differ-push live.sent source g.differ h;
    }

pub gain-state : (start : List TraceLine) (live : Live) (a : NodeAnswer) → IsGain start live → IsGain start (with_answer live a)
gain-state start live a g = record { lines = g.lines; gained = g.gained; sources = g.sources; differ = g.differ }

pub gain-button : (start : List TraceLine) (live : Live) (p : PointerView) → IsGain start live → IsGain start (with_button live p)
gain-button start live p g = record { lines = g.lines; gained = g.gained; sources = g.sources; differ = g.differ }

-- an input that begins
pub gain-begin : (start : List TraceLine) (live : Live) → live.world.trace ≡ start → live.sent ≡ [] → IsGain start live
gain-begin start live t s = record { lines = []; gained = t ∙ sym (append-nil start); sources = sym s; differ = rw s refl }
