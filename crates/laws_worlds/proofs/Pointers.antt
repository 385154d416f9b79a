-- What a TouchSensor does keeps its ranges.
use Rattle.std.proofs.Common.{◌≡◌, ℕ, ℤ, Bool, true, false, ◌++◌, if◌then◌else◌, List, [], ◌∷◌, length, Option, Some, None, is_some, is_none, ◌||◌, refl, ◌∙◌, length-set}
use Rattle.std.specs.Option.{option_map_or}
use Rattle.std.specs.List.{list_all}
use Rattle.byte_codec.proofs.Laws.{both, and_true}
use Rattle.x3d_values.specs.declared.node_type.NodeType.TheVariants.{TouchSensor}
use Rattle.x3d_values.specs.declared.ranges.TheConstants.{MAX_VIEWERS}
use Rattle.x3d_values.specs.declared.value.Value.TheVariants.{SFBool, SFVec3f}
use Rattle.x3d_values.specs.declared.vector.Vec3.{Vec3}
use Rattle.x3d_values.specs.Ranges.{is_viewer}
use Rattle.x3d_values.specs.Tables.{FieldRowView}
use Rattle.react_core.specs.declared.outbox.SentEvent.{SentEvent}
use Rattle.react_core.specs.Reaction.{reply}
use Rattle.sensor_core.specs.declared.touch_numbers.TheConstants.{IS_OVER, HIT_POINT_CHANGED, IS_PRESSED}
use Rattle.sensor_core.specs.Touches.{TouchStateView, is_over, is_pressed_by, over_after, over_replies, hit_replies, presses, releases, time_replies, press_replies, touch_after, pointer, point, disable}
use Rattle.snapshot_codec.specs.Trace.{is_moment}
use Rattle.snapshot_codec.specs.Values.{vector3, value_fits}
use Rattle.laws_worlds.specs.Answers.{TouchFit}
use Rattle.laws_worlds.specs.Ranges.{replies_fit}
use Rattle.laws_worlds.proofs.Reactions.{moment_fits}

-- two lists of events that fit
pub all_append : {X : Type 0} (p : X → Bool) (xs ys : List X) → list_all p xs ≡ true → list_all p ys ≡ true → list_all p (xs ++ ys) ≡ true
all_append p [] ys f g = g
all_append p (x ∷ xs) ys f g = let b = both (p x) (list_all p xs) f in and_true _ _ b.0 (all_append p xs ys b.1 g)

abbrev pub Viewer : Option ℕ → Type 0
Viewer presser = option_map_or is_viewer presser true ≡ true

viewer_if : (b : Bool) (one other : Option ℕ) → Viewer one → Viewer other → Viewer (if b then one else other)
viewer_if true one other f g = f
viewer_if false one other f g = g

module _ (ds : List FieldRowView) where
  abbrev pub Sent : List SentEvent → Type 0
  Sent replies = replies_fit TouchSensor ds replies ≡ true

  sent_append : (xs ys : List SentEvent) → Sent xs → Sent ys → Sent (xs ++ ys)
  sent_append xs ys f g = all_append _ xs ys f g

  sent_if : (b : Bool) (xs ys : List SentEvent) → Sent xs → Sent ys → Sent (if b then xs else ys)
  sent_if true xs ys f g = f
  sent_if false xs ys f g = g

  -- ---- a pointer

  over_sent : (was is : Bool) → Sent (over_replies was is)
  unfolding value_fits
  over_sent true true = refl
  over_sent true false = refl
  over_sent false true = refl
  over_sent false false = refl

  time_sent : (inside : Option Vec3) (now : ℤ) → is_moment now ≡ true → Sent (time_replies inside now)
  time_sent None now m = refl
  time_sent (Some p) now m = and_true _ _ (moment_fits now m) refl

  module _ (touch : TouchStateView) (who : ℕ) (before down : Bool) where
    hit_sent : (at inside : Option Vec3) → option_map_or vector3.fits inside true ≡ true → Sent (hit_replies touch (pointer who before down at) inside)
    unfolding value_fits
    hit_sent at None f = refl
    hit_sent at (Some p) f = sent_if (is_none touch.presser || is_pressed_by touch who) (reply HIT_POINT_CHANGED (SFVec3f p) ∷ []) [] (and_true _ _ f refl) refl

    press_sent : (inside : Option Vec3) (now : ℤ) → is_moment now ≡ true → Sent (press_replies touch (pointer who before down inside) now)
    unfolding value_fits
    press_sent inside now m =
        sent_if (presses touch (pointer who before down inside)) _ _ refl
        (sent_if (releases touch (pointer who before down inside)) _ [] (time_sent inside now m) refl)

  pub all_points_fit : (touch : TouchStateView) (who : ℕ) (before down : Bool) (inside : Option Vec3) (now : ℤ) → length touch.over ≡ MAX_VIEWERS → Viewer touch.presser → is_viewer who ≡ true → option_map_or vector3.fits inside true ≡ true → is_moment now ≡ true → TouchFit ds (point touch (pointer who before down inside) now)
  unfolding point
  all_points_fit touch who before down inside now f g v i m =
      let long : length (over_after touch (pointer who before down inside)) ≡ MAX_VIEWERS = length-set touch.over who (is_some inside) ∙ f in
      let after : Bool = is_over (touch_after touch (pointer who before down inside)) in
      record {
        in_over = long;
        in_presser = viewer_if (presses touch (pointer who before down inside)) (Some who) _ v
            (viewer_if (releases touch (pointer who before down inside)) None touch.presser refl g);
        in_replies = sent_append (over_replies (is_over touch) after ++ hit_replies touch (pointer who before down inside) inside) _
            (sent_append (over_replies (is_over touch) after) _ (over_sent (is_over touch) after) (hit_sent touch who before down inside inside i))
            (press_sent touch who before down inside now m);
      }

  -- ---- it is turned off

  pub all_disables_fit : (touch : TouchStateView) → TouchFit ds (disable touch)
  unfolding disable value_fits
  all_disables_fit touch = record {
    in_over = refl;
    in_presser = refl;
    in_replies = sent_append
        (if is_over touch then reply IS_OVER (SFBool false) ∷ [] else [])
        (if is_some touch.presser then reply IS_PRESSED (SFBool false) ∷ [] else [])
        (sent_if (is_over touch) (reply IS_OVER (SFBool false) ∷ []) [] refl refl)
        (sent_if (is_some touch.presser) (reply IS_PRESSED (SFBool false) ∷ []) [] refl refl);
  }
