-- What a viewer does, one thing after another.
use Rattle.std.proofs.Common.{◌≡◌, inl, inr, ℕ, List, [], ◌∷◌, ◌++◌, true, false, Bool, refl, ap, sym, ◌∙◌, subst, append-nil, append_assoc}
use Rattle.std.specs.Prelude.{Option}
use Rattle.share_wire.specs.declared.message.Body.{Body}
use Rattle.share_core.specs.Viewer.{ViewerView}
use Rattle.share_turns.specs.declared.traffic.Traffic.{Traffic}
use Rattle.share_turns.specs.declared.traffic.Traffic.TheVariants.{Nothing, Sent}
use Rattle.share_turns.specs.Exchanges.{IsEnd, IsSentOf, sent_to}
use Rattle.share_turns.specs.HostTurn.{datagram_of, datagrams_of}
use Rattle.share_turns.specs.Told.{Grows}
use Rattle.share_turns.proofs.Sending.{grows_none, grows_then}
use Rattle.laws_turns.specs.ViewerDoings.{ViewerDoing, IsViewerDoing, AreViewerDoings, ViewerDoes, all_viewer_traffic, viewer_traffic}
use Rattle.laws_turns.specs.ViewerDoings as doing

-- doings with this traffic
abbrev pub Did : ViewerView → ViewerView → List Traffic → Type 0
Did old new passed = (ds : List ViewerDoing) × AreViewerDoings old ds new × (all_viewer_traffic ds ≡ passed)

doings-append : (a : ViewerView) (xs : List ViewerDoing) (b : ViewerView) (ys : List ViewerDoing) (c : ViewerView) → AreViewerDoings a xs b → AreViewerDoings b ys c → AreViewerDoings a (xs ++ ys) c
doings-append a [] b ys c same rest = subst (λ (v : ViewerView). AreViewerDoings v ys c) same rest
doings-append a (d ∷ xs) b ys c first rest = (first.0, first.1, doings-append first.0 xs b ys c first.2 rest)

traffic-append : (xs ys : List ViewerDoing) → all_viewer_traffic (xs ++ ys) ≡ all_viewer_traffic xs ++ all_viewer_traffic ys
traffic-append [] ys = refl
traffic-append (d ∷ xs) ys = ap (λ (t : List Traffic). viewer_traffic d ++ t) (traffic-append xs ys) ∙ sym (append_assoc (viewer_traffic d) (all_viewer_traffic xs) (all_viewer_traffic ys))

pub did_none : (a b : ViewerView) → b ≡ a → Did a b []
did_none a b same = ([], same, refl)

pub did_then : (a b c : ViewerView) (t u : List Traffic) → Did a b t → Did b c u → Did a c (t ++ u)
did_then a b c t u x y = (
  x.0 ++ y.0,
  doings-append a x.0 b y.0 c x.1 y.1,
  traffic-append x.0 y.0 ∙ ap (λ (z : List Traffic). z ++ all_viewer_traffic y.0) x.2 ∙ ap (λ (z : List Traffic). t ++ z) y.2,
)

pub does_did : (a b : Option (List Traffic)) (old new : ViewerView) (t : List Traffic) → Did old new t → Grows a b t → ViewerDoes a b old new
does_did a b old new t x told = record { doings = x.0; calls = x.1; told = subst (λ (u : List Traffic). Grows a b u) (sym x.2) told }

pub does_then : (a b c : Option (List Traffic)) (x y z : ViewerView) → ViewerDoes a b x y → ViewerDoes b c y z → ViewerDoes a c x z
does_then a b c x y z one two =
    does_did a c x z _ (did_then x y z _ _ (one.doings, one.calls, refl) (two.doings, two.calls, refl)) (grows_then a b c _ _ one.told two.told)

pub does_none : (a b : Option (List Traffic)) (x y : ViewerView) → b ≡ a → y ≡ x → ViewerDoes a b x y
does_none a b x y told same = does_did a b x y [] (did_none x y same) (subst (λ (c : Option (List Traffic)). Grows a c []) (sym told) (grows_none a))

-- ---- the end of what arrives

waited : (v : ViewerView) (rest : List Traffic) → rest ≡ Nothing ∷ [] → Did v v rest
waited v rest e = (doing.Waits ∷ [], (v, refl, refl), sym e)

pub not_waited : (v : ViewerView) (rest : List Traffic) → rest ≡ [] → Did v v rest
not_waited v rest e = ([], refl, sym e)

pub ended : (v : ViewerView) (all : Bool) (came : ℕ) (rest : List Traffic) → IsEnd all came rest → Did v v rest
ended v true came rest (inl nothing) = waited v rest nothing
ended v true came rest (inr most) = not_waited v rest most.0
ended v false came rest none = not_waited v rest none

-- ---- datagrams that are sent

-- each body is one that the viewer sends, by some doing
abbrev pub Made : ViewerView → List Body → Type 0
Made v [] = Unit {0}
Made v (b ∷ bs) = ((peer : ℕ) (bytes : List ℕ) → bytes ≡ datagram_of v.mark b → (d : ViewerDoing) × IsViewerDoing v d v × (viewer_traffic d ≡ Sent (record { peer = peer; bytes = bytes }) ∷ [])) × Made v bs

pub made_append : (v : ViewerView) (xs ys : List Body) → Made v xs → Made v ys → Made v (xs ++ ys)
made_append v [] ys a b = b
made_append v (x ∷ xs) ys a b = (a.0, made_append v xs ys a.1 b)

first-of : (x y : List ℕ) (xs ys : List (List ℕ)) → x ∷ xs ≡ y ∷ ys → x ≡ y
first-of x y xs ys e = cc

rest-of : (x y : List ℕ) (xs ys : List (List ℕ)) → x ∷ xs ≡ y ∷ ys → xs ≡ ys
rest-of x y xs ys e = cc

no-first : (x : List ℕ) (xs : List (List ℕ)) → x ∷ xs ≡ [] → ⊥
no-first x xs e = cc

pub sends : (peer : ℕ) (v : ViewerView) (bodies : List Body) → Made v bodies → (sent lost : List (List ℕ)) → sent ++ lost ≡ datagrams_of v.mark bodies → Did v v (sent_to peer sent)
sends peer v bodies made [] lost e = ([], refl, refl)
sends peer v [] made (x ∷ xs) lost e = absurd (no-first x (xs ++ lost) e)
sends peer v (b ∷ bs) made (x ∷ xs) lost e =
    let more = sends peer v bs made.1 xs lost (rest-of x (datagram_of v.mark b) (xs ++ lost) (datagrams_of v.mark bs) e) in
    let one = made.0 peer x (first-of x (datagram_of v.mark b) (xs ++ lost) (datagrams_of v.mark bs) e) in (
      one.0 ∷ more.0,
      (v, one.1, more.1),
      ap (λ (t : List Traffic). t ++ all_viewer_traffic more.0) one.2 ∙ ap (λ (t : List Traffic). Sent (record { peer = peer; bytes = x }) ∷ t) more.2,
    )

pub front : (whole : Bool) (sent wanted : List (List ℕ)) → IsSentOf whole sent wanted → (lost : List (List ℕ)) × (sent ++ lost ≡ wanted)
front true sent wanted e = ([], append-nil sent ∙ e)
front false sent wanted e = e
