-- Steps one after another, with the lines of their answers; and the start.
use Rattle.std.proofs.Common.{◌≡◌, ℕ, zero, suc, ◌+◌, ◌<◌, List, [], ◌∷◌, ◌++◌, length, map, take, replicate, refl, ap, sym, ◌∙◌, subst, arith, append-nil, append_assoc, zero-add}
use Rattle.std.specs.Prelude.{slice_get, Some}
use Rattle.std.proofs.Math.Nat.{add-zero}
use Rattle.std.proofs.Math.Numerals.{suc-eq-add-one}
use Rattle.std.specs.Option.{option_map}
use Rattle.std.proofs.lemmas.Option.{same_Some, none-some}
use Rattle.std.proofs.lemmas.List.{length-replicate, length-take-le}
use Rattle.scene_core.specs.declared.scene.Route.{Route}
use Rattle.scene_core.specs.Scene.{SceneView}
use Rattle.cascade_core.specs.Held.{StageView}
use Rattle.share_law.specs.declared.step.Step.{Step}
use Rattle.share_law.specs.Cascade.{cascade}
use Rattle.share_law.specs.Parts.{new_part}
use Rattle.share_law.specs.Network.{seated, start}
use Rattle.share_core.specs.Host.{HostView}
use Rattle.share_core.specs.Viewer.{ViewerView}
use Rattle.share_rehearsal.specs.declared.answer.Answer.{Answer}
use Rattle.share_rehearsal.specs.Calls.{Seen, IsCall, AreCalls, viewers_from, begun_with}
use Rattle.share_rehearsal.specs.Log.{line_text, lines_from, ending_text, endings_from}
use Rattle.share_rehearsal.specs.Stands.{StandFor, viewer_at}
use Rattle.share_rehearsal.specs.Loaded.{AreOf}
use Rattle.share_rehearsal.specs.Rehearsed.{IsPlayed}

-- ---- one step more

calls-push : (old : Seen) (steps : List Step) (answers : List Answer) (mid : Seen) (s : Step) (a : Answer) (new : Seen) → AreCalls old steps answers mid → IsCall mid s a new → AreCalls old (steps ++ s ∷ []) (answers ++ a ∷ []) new
calls-push old [] [] mid s a new calls call = (new, subst (λ (z : Seen). IsCall z s a new) calls call, refl)
calls-push old (t ∷ steps) (b ∷ answers) mid s a new calls call = (calls.0, calls.1, calls-push calls.0 steps answers mid s a new calls.2 call)
calls-push old [] (b ∷ answers) mid s a new calls call = absurd calls
calls-push old (t ∷ steps) [] mid s a new calls call = absurd calls

calls-length : (old : Seen) (steps : List Step) (answers : List Answer) (new : Seen) → AreCalls old steps answers new → length answers ≡ length steps
calls-length old [] [] new calls = refl
calls-length old (t ∷ steps) (b ∷ answers) new calls = ap suc (calls-length calls.0 steps answers new calls.2)
calls-length old [] (b ∷ answers) new calls = absurd calls
calls-length old (t ∷ steps) [] new calls = absurd calls

lines-push : (n : ℕ) (answers : List Answer) (a : Answer) → lines_from n (answers ++ a ∷ []) ≡ lines_from n answers ++ line_text (n + length answers) a
lines-push n [] a = append-nil (line_text n a) ∙ ap (λ (k : ℕ). line_text k a) (sym (add-zero n))
lines-push n (b ∷ answers) a =
    ap (λ (l : List ℕ). line_text n b ++ l) (lines-push (suc n) answers a)
    ∙ ap (λ (k : ℕ). line_text n b ++ (lines_from (suc n) answers ++ line_text k a)) (let e : suc n + length answers ≡ n + suc (length answers) = omega arith in e)
    ∙ sym (append_assoc (line_text n b) (lines_from (suc n) answers) (line_text (n + suc (length answers)) a))

take-more : {X : Type 0} (xs : List X) (i : ℕ) (x : X) → slice_get xs i ≡ Some x → take (suc i) xs ≡ take i xs ++ x ∷ []
take-more [] i x at = absurd (none-some x at)
take-more (y ∷ xs) zero x at = ap (λ z. z ∷ []) (same_Some y x at)
take-more (y ∷ xs) (suc i) x at = ap (λ zs. y ∷ zs) (take-more xs i x at)

take-one : {X : Type 0} (xs : List X) (i : ℕ) (x : X) → slice_get xs i ≡ Some x → take (i + 1) xs ≡ take i xs ++ x ∷ []
take-one xs i x at = ap (λ (k : ℕ). take k xs) (sym (suc-eq-add-one i)) ∙ take-more xs i x at

pub played-none : (old : Seen) (steps : List Step) (out : List ℕ) → IsPlayed old (take 0 steps) out out old
played-none old steps out = record { answers = []; calls = refl; lines = sym (append-nil out) }

pub played-more : (old : Seen) (steps : List Step) (i : ℕ) (before out after : List ℕ) (mid : Seen) (s : Step) (a : Answer) (new : Seen)
    → IsPlayed old (take i steps) before out mid → i < length steps → slice_get steps i ≡ Some s → IsCall mid s a new → after ≡ out ++ line_text (i + 1) a → IsPlayed old (take (i + 1) steps) before after new
played-more old steps i before out after mid s a new played within at call line =
    let long : length played.answers ≡ i = calls-length old (take i steps) played.answers mid played.calls ∙ length-take-le i steps (omega (arith, within)) in
    let number : 1 + length played.answers ≡ i + 1 = omega (arith, long) in
    record {
      answers = played.answers ++ a ∷ [];
      calls = subst (λ (z : List Step). AreCalls old z (played.answers ++ a ∷ []) new) (sym (take-one steps i s at)) (calls-push old (take i steps) played.answers mid s a new played.calls call);
      lines =
          line
          ∙ ap (λ (l : List ℕ). l ++ line_text (i + 1) a) played.lines
          ∙ append_assoc before (lines_from 1 played.answers) (line_text (i + 1) a)
          ∙ ap (λ (k : ℕ). before ++ (lines_from 1 played.answers ++ line_text k a)) (sym number)
          ∙ ap (λ (l : List ℕ). before ++ l) (sym (lines-push 1 played.answers a));
    }

-- ---- the endings

endings-push : (n : ℕ) (viewers : List ViewerView) (v : ViewerView) → endings_from n (viewers ++ v ∷ []) ≡ endings_from n viewers ++ ending_text (n + length viewers) v
endings-push n [] v = append-nil (ending_text n v) ∙ ap (λ (k : ℕ). ending_text k v) (sym (add-zero n))
endings-push n (u ∷ viewers) v =
    ap (λ (l : List ℕ). ending_text n u ++ l) (endings-push (suc n) viewers v)
    ∙ ap (λ (k : ℕ). ending_text n u ++ (endings_from (suc n) viewers ++ ending_text k v)) (let e : suc n + length viewers ≡ n + suc (length viewers) = omega arith in e)
    ∙ sym (append_assoc (ending_text n u) (endings_from (suc n) viewers) (ending_text (n + suc (length viewers)) v))

pub endings-more : (viewers : List ViewerView) (i : ℕ) (v : ViewerView) → i < length viewers → slice_get viewers i ≡ Some v → endings_from 0 (take (i + 1) viewers) ≡ endings_from 0 (take i viewers) ++ ending_text i v
endings-more viewers i v within at =
    ap (λ (l : List ViewerView). endings_from 0 l) (take-one viewers i v at)
    ∙ endings-push 0 (take i viewers) v
    ∙ ap (λ (k : ℕ). endings_from 0 (take i viewers) ++ ending_text k v) (zero-add (length (take i viewers)) ∙ length-take-le i viewers (omega (arith, within)))

pub ended-more : (viewers : List ViewerView) (i : ℕ) (v : ViewerView) (before out after : List ℕ) → out ≡ before ++ endings_from 0 (take i viewers) → i < length viewers → slice_get viewers i ≡ Some v → after ≡ out ++ ending_text i v
    → after ≡ before ++ endings_from 0 (take (i + 1) viewers)
ended-more viewers i v before out after so_far within at told =
    told
    ∙ ap (λ (l : List ℕ). l ++ ending_text i v) so_far
    ∙ append_assoc before (endings_from 0 (take i viewers)) (ending_text i v)
    ∙ ap (λ (l : List ℕ). before ++ l) (sym (endings-more viewers i v within at))

-- ---- the start

seated-viewers : (mark : List ℕ) (scene : SceneView) (routes : List Route) (n : ℕ) (stages : List StageView) (v : ℕ) → AreOf scene routes stages
    → slice_get (viewers_from mark n stages) v ≡ option_map (viewer_at mark scene routes (n + v)) (slice_get (map (seated (cascade mark scene routes)) (replicate (length stages) 1)) v)
seated-viewers mark scene routes n [] v are = refl
seated-viewers mark scene routes n (stage ∷ stages) zero are = rw (add-zero n) (rw are.0 (rw are.1 refl))
seated-viewers mark scene routes n (stage ∷ stages) (suc v) are =
    seated-viewers mark scene routes (suc n) stages v are.2
    ∙ ap (λ (k : ℕ). option_map (viewer_at mark scene routes k) (slice_get (map (seated (cascade mark scene routes)) (replicate (length stages) 1)) v)) (let e : suc n + v ≡ n + suc v = omega arith in e)

pub stand-begun : (mark : List ℕ) (scene : SceneView) (routes : List Route) (stages : List StageView) → AreOf scene routes stages → StandFor mark scene routes (begun_with mark stages) (start (cascade mark scene routes) (replicate (length stages) 1))
stand-begun mark scene routes stages are =
    let one : ℕ = 1 in
    record {
      host = ap (λ (k : ℕ). let h : HostView = record { mark = mark; part = new_part k } in h) (sym (length-replicate (length stages) one));
      viewers = λ v.
          seated-viewers mark scene routes 0 stages v are
          ∙ ap (λ (k : ℕ). option_map (viewer_at mark scene routes k) (slice_get (map (seated (cascade mark scene routes)) (replicate (length stages) 1)) v)) (zero-add v);
      packets = refl;
      shots = refl;
    }
