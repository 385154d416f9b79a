-- The texts of outputs in a buffer that grows.
use Rattle.std.proofs.Common.{arith, ◌≡◌, ◌+◌, ◌-◌, ◌∙◌, ap, sym, ℕ, zero, suc, List, [], ◌∷◌, ◌++◌, length, take, drop, subst}
use Rattle.std.specs.Prelude.{All, Some, slice_get, true}
use Rattle.std.proofs.lemmas.List.{drop-append-le, length-append, length-drop, take-append-le, take_all}
use Rattle.std.proofs.lemmas.List.Elements.{All-append, All-get_or}
use Rattle.std.proofs.lemmas.Option.{get_or_from_slice_get, slice_get_within}
use Rattle.std.proofs.Math.ListN.{drop_of_length-le}
use Rattle.x3d_lists.specs.Extends.{Extends}
use Rattle.scene_core.specs.Scene.{SceneView}
use Rattle.scene_core.specs.declared.scene.End.{End}
use Rattle.cascade_trace.specs.Ends.{same_end}
use Rattle.cascade_trace.specs.LineText.{head_text}
use Rattle.cascade_trace.specs.Spans.{IsHead}
use Rattle.cascade_trace.specs.declared.labels.Span.{Span}
use Rattle.cascade_trace.proofs.SameEnds.{same_end-is}

abbrev pub span-of : End → ℕ → ℕ → Span
span-of source start end = record { source = source; start = start; end = end }

module _ (scene : SceneView) where
  -- what stands in a buffer stands there when it has grown
  stays : (old new : List ℕ) (span : Span) → Extends old new → IsHead scene old span → IsHead scene new span
  stays old new span grown head =
      let long : length new ≡ length old + length grown.more = ap length grown.is ∙ length-append old grown.more in
      record {
        ordered = head.ordered;
        within = omega (arith, long, head.within);
        is =
            ap (λ (t : List ℕ). take (span.end - span.start) (drop span.start t)) grown.is
            ∙ ap (λ (t : List ℕ). take (span.end - span.start) t) (drop-append-le span.start old grown.more (omega (arith, head.ordered, head.within)))
            ∙ take-append-le (span.end - span.start) (drop span.start old) grown.more (omega (arith, length-drop span.start old, head.ordered, head.within))
            ∙ head.is;
      }

  pub all-stay : (old new : List ℕ) (spans : List Span) → Extends old new → All (IsHead scene old) spans → All (IsHead scene new) spans
  all-stay old new spans grown all k d below = stays old new _ grown (all k d below)

  behind : (old head : List ℕ) → drop (length old) (old ++ head) ≡ head
  behind old head =
      drop-append-le (length old) old head (omega arith)
      ∙ ap (λ (t : List ℕ). t ++ head) (drop_of_length-le old (omega arith))

  made : (source : End) (old new : List ℕ) → new ≡ old ++ head_text scene source → IsHead scene new (span-of source (length old) (length new))
  made source old new is =
      let head : List ℕ = head_text scene source in
      let long : length new ≡ length old + length head = ap length is ∙ length-append old head in
      record {
        ordered = omega (arith, long);
        within = omega arith;
        is =
            ap (λ (t : List ℕ). take (length new - length old) (drop (length old) t)) is
            ∙ ap (λ (t : List ℕ). take (length new - length old) t) (behind old head)
            ∙ take_all (length new - length old) head (omega (arith, long));
      }

  one : (text : List ℕ) (span : Span) → IsHead scene text span → All (IsHead scene text) (span ∷ [])
  one text span head zero d below = head
  one text span head (suc k) d below = absurd (omega (arith, below))

  -- the text of one more output behind the others
  pub all-made : (source : End) (old new : List ℕ) (spans all : List Span) → Extends old new → new ≡ old ++ head_text scene source →
      all ≡ spans ++ span-of source (length old) (length new) ∷ [] →
      All (IsHead scene old) spans → All (IsHead scene new) all
  all-made source old new spans all grown is added heads =
      subst (λ (xs : List Span). All (IsHead scene new) xs) (sym added)
      (All-append (IsHead scene new) spans (span-of source (length old) (length new) ∷ [])
      (all-stay old new spans grown heads) (one new (span-of source (length old) (length new)) (made source old new is)))

  -- the span that was found
  pub head-at : (text : List ℕ) (spans : List Span) (number : ℕ) (span : Span) → slice_get spans number ≡ Some span →
      All (IsHead scene text) spans → IsHead scene text span
  head-at text spans number span found heads =
      subst (λ (s : Span). IsHead scene text s) (get_or_from_slice_get spans number span span found)
      (All-get_or (IsHead scene text) spans number span (slice_get_within spans number span found) heads)

  pub head-of : (text part : List ℕ) (span : Span) (source : End) → IsHead scene text span → same_end span.source source ≡ true →
      part ≡ take (span.end - span.start) (drop span.start text) → part ≡ head_text scene source
  head-of text part span source head same is =
      is ∙ head.is ∙ ap (λ (e : End). head_text scene e) (same_end-is span.source source same)
