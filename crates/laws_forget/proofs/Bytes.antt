-- Two snapshots of one length hold the same trace, whatever was forgotten.
use Rattle.std.proofs.Common.{◌≡◌, ℕ, ◌+◌, ◌≤◌, Bool, true, false, List, [], ◌∷◌, ◌++◌, length, take, map, ltb-true, ltb-false, refl, ap, sym, ◌∙◌, arith, length-append}
use Rattle.std.specs.Prelude.{nat_lt}
use Rattle.std.specs.Int.{w32, w64}
use Rattle.std.specs.List.{flat_map}
use Rattle.std.proofs.lemmas.List.{map-append}
use Rattle.std.proofs.lemmas.List.Concat.{flat_map-append}
use Rattle.sha2.proofs.Facts256.{length-sha256}
use Rattle.sha2.specs.Sha256.{sha256}
use Rattle.byte_codec.specs.Codec.{number_text}
use Rattle.byte_codec.proofs.Laws.{wide64}
use Rattle.x3d_values.specs.Stamp.{StampedView}
use Rattle.scene_core.specs.declared.scene.Route.{Route}
use Rattle.scene_core.specs.Scene.{SceneView, shapes_of}
use Rattle.scene_core.specs.Shape.{Shape}
use Rattle.snapshot_codec.specs.Head.{front, sealed}
use Rattle.snapshot_codec.specs.Inputs.{applied_codec, input_codec}
use Rattle.snapshot_codec.specs.Parts.{states_codec}
use Rattle.snapshot_codec.specs.Trace.{entry_codec, moment_codec, sent_at_codec}
use Rattle.cascade_trace.specs.declared.trace.TraceLine.{TraceLine}
use Rattle.cascade_core.specs.Apply.{world}
use Rattle.cascade_core.specs.Course.{Scripted}
use Rattle.cascade_core.specs.Forgetting.{forget}
use Rattle.cascade_core.specs.Scripts.{kinds_in}
use Rattle.snapshot_core.specs.Nodes.{nodes_codec}
use Rattle.snapshot_core.specs.Opening.{newest, numbers_of, version_number}
use Rattle.snapshot_core.specs.Shot.{shot}
use Rattle.snapshot_core.specs.WorldCodec.{buttons_codec, entry_of, lines_codec, lists_in, output_type, parts_codec, world_codec}
use Rattle.share_law.specs.Cascade.{cascade}
use Rattle.share_law.specs.Machine.{Machine}
use Rattle.laws_forget.specs.Agreement.{ForgetfulBytes, IsLeft, IsSameButOld, ShorterIsEnd}
use Rattle.laws_forget.specs.Forget.{IsEndOf}
use Rattle.laws_forget.proofs.Agreement.{forgetful_shots, same_but_old}

-- ---- more lines, more bytes

module _ (shapes : List Shape) where
  -- the bytes of an event
  abbrev bytes_of : TraceLine → List ℕ
  bytes_of line = (entry_codec (numbers_of newest) (output_type shapes)).write (entry_of line)

  abbrev lines_text : List TraceLine → List ℕ
  lines_text lines = flat_map ((entry_codec (numbers_of newest) (output_type shapes)).write) (map entry_of lines)

  some-bytes : (l : TraceLine) → 1 ≤ length (bytes_of l)
  unfolding entry_codec sent_at_codec input_codec number_text
  some-bytes l = omega arith

  -- lines in front of others, as many bytes: there are none
  no-more : (front lines : List TraceLine) → length (lines_text (front ++ lines)) ≡ length (lines_text lines) → front ≡ []
  no-more [] lines e = refl
  no-more (l ∷ front) lines e =
      let all : lines_text (l ∷ front ++ lines) ≡ bytes_of l ++ (lines_text front ++ lines_text lines) =
      ap (λ (bs : List ℕ). bytes_of l ++ bs) (ap (flat_map ((entry_codec (numbers_of newest) (output_type shapes)).write)) (map-append entry_of front lines)
      ∙ flat_map-append ((entry_codec (numbers_of newest) (output_type shapes)).write) (map entry_of front) (map entry_of lines)) in
      absurd (omega (
        arith,
        ap length all,
        length-append (bytes_of l) (lines_text front ++ lines_text lines),
        length-append (lines_text front) (lines_text lines),
        some-bytes l,
        e,
      ))

  as-long : (xs ys : List TraceLine) → IsEndOf xs ys → length (lines_text xs) ≡ length (lines_text ys) → xs ≡ ys
  as-long xs ys (front, is) e =
      let none : front ≡ [] = no-more front xs (ap (λ (ls : List TraceLine). length (lines_text ls)) is ∙ sym e) in
      ap (λ (ls : List TraceLine). ls ++ xs) (sym none) ∙ is

  -- of two traces with as many bytes, one the end of the other, each is the other
  pub same-lines : (xs ys : List TraceLine) → ShorterIsEnd xs ys → length (lines_text xs) ≡ length (lines_text ys) → xs ≡ ys
  same-lines xs ys ends e = by (nat_lt (length ys) (length xs)) refl
    where
      by : (b : Bool) → nat_lt (length ys) (length xs) ≡ b → xs ≡ ys
      by true more = sym (as-long ys xs (ends.1 (omega (arith, ltb-true (length ys) (length xs) more))) (sym e))
      by false under = as-long xs ys (ends.0 (ltb-false (length ys) (length xs) under)) e

-- ---- the bytes of a snapshot are those before its lines, the lines, and a digest

-- what is around the bytes of the lines
abbrev around : (a b c d e f g : List ℕ) → (lines : List ℕ) → List ℕ
around a b c d e f g lines = sealed (a ++ (b ++ (c ++ (d ++ (e ++ (f ++ (g ++ lines)))))))

long-around : (a b c d e f g lines : List ℕ) → length (around a b c d e f g lines)
    ≡ length a + length b + length c + length d + length e + length f + length g + length lines + 32
long-around a b c d e f g lines = omega (
  arith,
  length-append (a ++ (b ++ (c ++ (d ++ (e ++ (f ++ (g ++ lines))))))) (sha256 (a ++ (b ++ (c ++ (d ++ (e ++ (f ++ (g ++ lines)))))))),
  length-sha256 (a ++ (b ++ (c ++ (d ++ (e ++ (f ++ (g ++ lines))))))),
  length-append a (b ++ (c ++ (d ++ (e ++ (f ++ (g ++ lines)))))),
  length-append b (c ++ (d ++ (e ++ (f ++ (g ++ lines))))),
  length-append c (d ++ (e ++ (f ++ (g ++ lines)))),
  length-append d (e ++ (f ++ (g ++ lines))),
  length-append e (f ++ (g ++ lines)),
  length-append f (g ++ lines),
  length-append g lines,
)

length8 : (n : ℕ) → length (number_text w64 n) ≡ 8
unfolding number_text
length8 n = wide64.len n

module _ (mark : List ℕ) (boot : ℕ) (scene : SceneView) where
  -- the bytes of these lines in a snapshot: their count, and then each
  abbrev counted_text : List TraceLine → List ℕ
  counted_text lines = number_text w64 (length (map entry_of lines)) ++ lines_text (shapes_of scene) lines

  -- a snapshot of a world of these states
  abbrev with_lines : Scripted → List ℕ → List ℕ
  with_lines w lines =
      around (front (version_number newest) mark) (number_text w32 boot) ((applied_codec (numbers_of newest)).write w.world.applied) (moment_codec.write w.world.last_time)
      ((nodes_codec newest scene).write (lists_in w.world)) ((buttons_codec newest).write w.world.buttons)
      ((states_codec (length (kinds_in scene))).write w.states) lines

  shot-is : (w : Scripted) → shot mark boot scene w ≡ with_lines w (counted_text w.world.trace)
  unfolding world_codec parts_codec lines_codec
  shot-is w = refl

  long-shot : (w : Scripted) (lines : List TraceLine) → length (with_lines w (counted_text lines)) ≡ length (with_lines w []) + 8 + length (lines_text (shapes_of scene) lines)
  long-shot w lines = omega (
    arith,
    long-around (front (version_number newest) mark) (number_text w32 boot) ((applied_codec (numbers_of newest)).write w.world.applied) (moment_codec.write w.world.last_time)
        ((nodes_codec newest scene).write (lists_in w.world)) ((buttons_codec newest).write w.world.buttons)
        ((states_codec (length (kinds_in scene))).write w.states) (counted_text lines),
    long-around (front (version_number newest) mark) (number_text w32 boot) ((applied_codec (numbers_of newest)).write w.world.applied) (moment_codec.write w.world.last_time)
        ((nodes_codec newest scene).write (lists_in w.world)) ((buttons_codec newest).write w.world.buttons)
        ((states_codec (length (kinds_in scene))).write w.states) [],
    length-append (number_text w64 (length (map entry_of lines))) (lines_text (shapes_of scene) lines),
    length8 (length (map entry_of lines)),
  )

  -- two worlds that differ in what they forgot alone
  pub same-shots : (routes : List Route) (inputs : List StampedView) (a b : ℕ) →
      length (shot mark boot scene (forget a (world scene routes inputs))) ≡ length (shot mark boot scene (forget b (world scene routes inputs))) →
      shot mark boot scene (forget a (world scene routes inputs)) ≡ shot mark boot scene (forget b (world scene routes inputs))
  same-shots routes inputs a b e =
      let w : Scripted = world scene routes inputs in
      let xs : List TraceLine = (forget a w).world.trace in
      let ys : List TraceLine = (forget b w).world.trace in
      let x : length (shot mark boot scene (forget a w)) ≡ length (with_lines w []) + 8 + length (lines_text (shapes_of scene) xs) =
      ap length (shot-is (forget a w)) ∙ long-shot w xs in
      let y : length (shot mark boot scene (forget b w)) ≡ length (with_lines w []) + 8 + length (lines_text (shapes_of scene) ys) =
      ap length (shot-is (forget b w)) ∙ long-shot w ys in
      let s : IsSameButOld scene routes (forget a w) (forget b w) = same_but_old scene routes inputs a b in
      let lines : xs ≡ ys = same-lines (shapes_of scene) xs ys s.lines (omega (arith, x, y, e)) in
      shot-is (forget a w) ∙ ap (λ (ls : List TraceLine). with_lines w (counted_text ls)) lines ∙ sym (shot-is (forget b w))

pub forgetful_bytes : (mark : List ℕ) (scene : SceneView) (routes : List Route) → ForgetfulBytes mark scene routes
forgetful_bytes mark scene routes net reached s t one other at other-at boots counts long =
    let m : Machine Scripted = cascade mark scene routes in
    let a : IsLeft m forget net.host.list one.state = forgetful_shots mark scene routes net reached s one at in
    let b : IsLeft m forget net.host.list other.state = forgetful_shots mark scene routes net reached t other other-at in
    let inputs : List StampedView = take one.state.world.applied net.host.list in
    let over : other.state ≡ forget b.below (world scene routes inputs) = b.is ∙ ap (λ (n : ℕ). forget b.below (world scene routes (take n net.host.list))) (sym counts) in
    let mine : shot mark one.boot scene one.state ≡ shot mark one.boot scene (forget a.below (world scene routes inputs)) = ap (shot mark one.boot scene) a.is in
    let theirs : shot mark other.boot scene other.state ≡ shot mark one.boot scene (forget b.below (world scene routes inputs)) =
    ap (λ (n : ℕ). shot mark n scene other.state) (sym boots) ∙ ap (shot mark one.boot scene) over in
    mine ∙ same-shots mark one.boot scene routes inputs a.below b.below (sym (ap length mine) ∙ long ∙ ap length theirs) ∙ sym theirs
