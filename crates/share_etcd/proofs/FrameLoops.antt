-- Frames that are read and compared one after the other, as loops do.
use Rattle.std.proofs.Common.{◌≡◌, ℕ, suc, ◌+◌, ◌<◌, ◌≤◌, ◌⊎◌, Bool, true, false, List, [], ◌∷◌, ◌++◌, map, length, get_or, drop, Option, Some, None, Ok, Err, refl, sym, ap, ◌∙◌, append_assoc, add-one}
use Rattle.std.specs.Prelude.{◌&&◌, nat_lt}
use Rattle.std.specs.Option.{ok_or}
use Rattle.std.proofs.Math.Seq.{drop-cons}
use Rattle.std.proofs.lemmas.Bool.{lt-ltb, le-ltb}
use Rattle.std.proofs.lemmas.List.{append-nil, drop_all}
use Rattle.serde_json.specs.Data.{Data}
use Rattle.share_etcd.specs.declared.fault.AnswerFault.{AnswerFault}
use Rattle.share_etcd.specs.declared.fault.AnswerFault.TheVariants.{Malformed, Memory}
use Rattle.share_etcd.proofs.Failing.{some_of, fails_on}
use Rattle.share_etcd.specs.Contents.{FrameView, pair_in, frame_by, frames_in, joined, rises_after}

drop_next : {X : Type 0} (xs : List X) (i : ℕ) (x : X) → i < length xs → x ≡ get_or xs i x → drop i xs ≡ x ∷ drop (i + 1) xs
drop_next xs i x lt is =
    drop-cons xs i x lt ∙ ap (λ y. y ∷ drop (suc i) xs) (sym is) ∙ ap (λ k. x ∷ drop k xs) (sym (add-one i))

-- ---- order

module _ {X : Type 0} (view : X → FrameView) (xs : List X) (i last : ℕ) (total : Bool) (so_far : rises_after last (map view (drop i xs)) ≡ total) where
  after : (x : X) → i < length xs → x ≡ get_or xs i x → (nat_lt last (view x).first && rises_after (view x).first (map view (drop (i + 1) xs))) ≡ total
  after x lt is = sym (ap (λ ys. rises_after last (map view ys)) (drop_next xs i x lt is)) ∙ so_far

  pub rise_stops : (x : X) → i < length xs → x ≡ get_or xs i x → (view x).first ≤ last → false ≡ total
  rise_stops x lt is le =
      let test : nat_lt last (view x).first ≡ false = le-ltb _ _ le in
      sym (ap (λ b. b && rises_after (view x).first (map view (drop (i + 1) xs))) test) ∙ after x lt is

  pub rise_goes_on : (x : X) → i < length xs → x ≡ get_or xs i x → last < (view x).first → rises_after (view x).first (map view (drop (i + 1) xs)) ≡ total
  rise_goes_on x lt is gt =
      let test : nat_lt last (view x).first ≡ true = lt-ltb _ _ gt in
      sym (ap (λ b. b && rises_after (view x).first (map view (drop (i + 1) xs))) test) ∙ after x lt is

  pub rise_ends : length xs ≤ i → true ≡ total
  rise_ends le = sym (ap (λ ys. rises_after last (map view ys)) (drop_all i xs le)) ∙ so_far

-- ---- reading

-- the frames that were read before, and those that are read there
abbrev pub after_those : List FrameView → Option (List FrameView) → Option (List FrameView)
after_those done None = None
after_those done (Some frames) = Some (done ++ frames)

regroup : (done : List FrameView) (f : FrameView) (r : Option (List FrameView)) → after_those done (joined (Some f) r) ≡ after_those (done ++ f ∷ []) r
regroup done f None = refl
regroup done f (Some fs) = ap (λ gs. let o : Option (List FrameView) = Some gs in o) (sym (append_assoc done (f ∷ []) fs))

module _ {X : Type 0} (front : List ℕ) (data_of : X → Data) (xs : List X) (i : ℕ) (done : List FrameView) (total : Option (List FrameView)) (so_far : after_those done (frames_in front (map data_of (drop i xs))) ≡ total) where
  step : (x : X) (r : Option FrameView) → i < length xs → x ≡ get_or xs i x → frame_by front (pair_in (data_of x)) ≡ r → after_those done (joined r (frames_in front (map data_of (drop (i + 1) xs)))) ≡ total
  step x r lt is read =
      sym (ap (λ ys. after_those done (frames_in front (map data_of ys))) (drop_next xs i x lt is)
      ∙ ap (λ o. after_those done (joined o (frames_in front (map data_of (drop (i + 1) xs))))) read) ∙ so_far

  pub frame_goes_on : (x : X) (f : FrameView) (new : List FrameView) → i < length xs → x ≡ get_or xs i x → new ≡ done ++ f ∷ [] → ok_or (frame_by front (pair_in (data_of x))) Malformed ≡ Ok f → after_those new (frames_in front (map data_of (drop (i + 1) xs))) ≡ total
  frame_goes_on x f new lt is pushed read =
      ap (λ fs. after_those fs (frames_in front (map data_of (drop (i + 1) xs)))) pushed
      ∙ sym (regroup done f (frames_in front (map data_of (drop (i + 1) xs))))
      ∙ step x (Some f) lt is (some_of (frame_by front (pair_in (data_of x))) f read)

  pub frame_fails : (x : X) (e : AnswerFault) → i < length xs → x ≡ get_or xs i x → (e ≡ Memory) ⊎ (ok_or (frame_by front (pair_in (data_of x))) Malformed ≡ Err e) → (e ≡ Memory) ⊎ (ok_or total Malformed ≡ Err e)
  frame_fails x e lt is failed =
      fails_on (frame_by front (pair_in (data_of x))) total e (λ none. sym (step x None lt is none)) failed

  pub frames_end : length xs ≤ i → ok_or total Malformed ≡ Ok done
  frames_end le =
      ap (λ o. ok_or o Malformed) (sym so_far ∙ ap (λ ys. after_those done (frames_in front (map data_of ys))) (drop_all i xs le)
      ∙ ap (λ fs. let o : Option (List FrameView) = Some fs in o) (append-nil done))
