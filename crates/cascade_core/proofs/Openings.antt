-- Input 0: all scripts are initialized, and what they send is sent by outputs.
use Rattle.std.proofs.Common.{◌≡◌, ℕ, ◌+◌, ◌-◌, ◌<◌, Bool, true, false, ◌&&◌, List, [], ◌∷◌, ◌++◌, Option, Some, None, zero, suc, refl, ap, subst, sym, ◌∙◌, arith, length, map, reverse, take}
use Rattle.std.specs.Prelude.{slice_get, slice_set}
use Rattle.std.specs.List.{AllByRecursion, fold, list_all, range_with_len}
use Rattle.std.proofs.lemmas.List.{length-map, reverse-append}
use Rattle.x3d_values.specs.declared.script.Kind.{Kind}
use Rattle.react_core.specs.declared.outbox.SentEvent.{SentEvent}
use Rattle.scene_core.specs.Scene.{SceneView, shapes_of}
use Rattle.scene_core.specs.Shape.{Shape}
use Rattle.script_running.specs.declared.run.Run.{Run}
use Rattle.script_host.specs.Behaviour.{Initialize}
use Rattle.script_host.specs.Hosting.{SlotView, after_call}
use Rattle.script_slots.specs.Settling.{DueScriptsView, unsettled}
use Rattle.script_running.specs.Acting.{act, acting, kinds_of}
use Rattle.script_running.specs.Ports.{PortsView}
use Rattle.script_running.proofs.CallLemmas.{kinds_stand}
use Rattle.cascade_core.specs.Apply.{SendingView, Started, opening, sent_by_all, start_one, started, untold}
use Rattle.cascade_core.specs.Cascade.{send_replies}
use Rattle.cascade_core.specs.Course.{CourseView, Wiring, Scripted, course, ended, node_of, wiring_at, wiring_of, ports_of}
use Rattle.cascade_core.specs.Outputs.{is_scene_output}
use Rattle.cascade_core.specs.Scripts.{are_begun, scripts_in}
use Rattle.cascade_core.specs.Settles.{settle}
use Rattle.cascade_core.specs.Sound.{HasScriptsOf, RunsItsScripts, IsSound, are_outputs, are_sent}
use Rattle.cascade_core.specs.Stack.{IsReady}
use Rattle.cascade_core.specs.Replies.{send_by}
use Rattle.cascade_core.specs.declared.routed.RoutedScene.{RoutedScene}
use Rattle.cascade_world.specs.declared.world.Live.{Live}
use Rattle.cascade_core.proofs.Keeping.{replies-of}
use Rattle.cascade_core.proofs.SceneOutputs.{AllOutputs}
use Rattle.cascade_core.proofs.SoundLemmas.{act-sends}

both : (x y : Bool) → (x && y) ≡ true → (x ≡ true) × (y ≡ true)
both true true h = (refl, refl)
both true false h = (refl, h)
both false y h = cc

-- ---- what is sent

fields-sent : (shapes : List Shape) (node : ℕ) (replies : List SentEvent) → AllOutputs shapes node replies → are_outputs shapes node (map (λ (r : SentEvent). r.field) replies) ≡ true
fields-sent shapes node [] h = refl
fields-sent shapes node (r ∷ replies) h = rw h.0 (fields-sent shapes node replies h.1)

ready-append : (shapes : List Shape) (node : ℕ) (replies : List SentEvent) (r : SentEvent) → AllByRecursion (IsReady shapes) (map (send_by node) replies) →
    is_scene_output shapes (record { node = node; field = r.field }) ≡ true → AllByRecursion (IsReady shapes) (map (send_by node) (replies ++ r ∷ []))
ready-append shapes node [] r h is = (is, tt)
ready-append shapes node (x ∷ replies) r h is = (h.0, ready-append shapes node replies r h.1 is)

-- what leaves by outputs may be sent, the first of it last
pub replies_ready : (shapes : List Shape) (node : ℕ) (replies : List SentEvent) → are_outputs shapes node (map (λ (r : SentEvent). r.field) replies) ≡ true →
    AllByRecursion (IsReady shapes) (map (send_by node) (reverse replies))
replies_ready shapes node [] h = tt
replies_ready shapes node (r ∷ replies) h =
    let (one, rest) = both (is_scene_output shapes (record { node = node; field = r.field })) (are_outputs shapes node (map (λ (x : SentEvent). x.field) replies)) h in
    rw (reverse-append (r ∷ []) replies) (ready-append shapes node (reverse replies) r (replies_ready shapes node replies rest) one)

sent-more : (shapes : List Shape) (sendings : List SendingView) (s : SendingView) → list_all (are_sent shapes) sendings ≡ true → are_sent shapes s ≡ true →
    list_all (are_sent shapes) (sendings ++ s ∷ []) ≡ true
sent-more shapes [] s h is = rw is refl
sent-more shapes (x ∷ sendings) s h is =
    let (one, rest) = both (are_sent shapes x) (list_all (are_sent shapes) sendings) h in
    rw one (sent-more shapes sendings s rest is)

-- ---- scripts that are initialized

begun-more : (rs : List SlotView) (k : ℕ) (r after : SlotView) → slice_get rs k ≡ Some r → after.initialized ≡ true → are_begun (take k rs) ≡ true →
    are_begun (take (suc k) (slice_set rs k after)) ≡ true
begun-more [] k r after here is h = cc
begun-more (x ∷ rs) zero r after here is h = rw is refl
begun-more (x ∷ rs) (suc k) r after here is h =
    let (one, rest) = both x.initialized (are_begun (take k rs)) h in
    rw one (begun-more rs k r after here is rest)

nothing-there : (rs : List SlotView) (k : ℕ) → slice_get rs k ≡ None → k < length rs → ⊥
nothing-there [] k h below = omega (arith, below)
nothing-there (x ∷ rs) zero h below = cc
nothing-there (x ∷ rs) (suc k) h below = nothing-there rs k h (omega (arith, below))

begun-act : (ports : PortsView) (k : ℕ) (rs : List SlotView) → k < length rs → are_begun (take k rs) ≡ true → are_begun (take (suc k) (act ports Initialize k rs).scripts) ≡ true
unfolding act
begun-act ports k rs below h = by-place (slice_get rs k) refl
  where
    by-place : (place : Option SlotView) → slice_get rs k ≡ place → are_begun (take (suc k) (acting ports Initialize k rs place).scripts) ≡ true
    by-place None here = absurd (nothing-there rs k here below)
    by-place (Some r) here = begun-more rs k r (after_call Initialize r) here refl h

take-all : (rs : List SlotView) (k : ℕ) → k ≡ length rs → take k rs ≡ rs
take-all [] zero e = refl
take-all [] (suc k) e = refl
take-all (r ∷ rs) zero e = absurd (omega (arith, e))
take-all (r ∷ rs) (suc k) e = ap (λ (xs : List SlotView). r ∷ xs) (take-all rs k (omega (arith, e)))

lengths : (xs ys : List SlotView) → kinds_of xs ≡ kinds_of ys → length xs ≡ length ys
lengths xs ys e = sym (length-map xs (λ (r : SlotView). r.kind)) ∙ ap length e ∙ length-map ys (λ (r : SlotView). r.kind)

module _ (wiring : Wiring) where
  kinds-one : (s : Started) (k : ℕ) → kinds_of (start_one wiring s k).scripts ≡ kinds_of s.scripts
  kinds-one s k = kinds_stand (ports_of wiring k) Initialize k s.scripts

  kinds-all : (s : Started) (ks : List ℕ) → kinds_of (fold (start_one wiring) s ks).scripts ≡ kinds_of s.scripts
  kinds-all s [] = refl
  kinds-all s (k ∷ ks) = kinds-all (start_one wiring s k) ks ∙ kinds-one s k

  sent-all : (s : Started) (ks : List ℕ) → IsSound wiring (kinds_of s.scripts) → list_all (are_sent wiring.shapes) s.sendings ≡ true →
      list_all (are_sent wiring.shapes) (fold (start_one wiring) s ks).sendings ≡ true
  sent-all s [] sound h = h
  sent-all s (k ∷ ks) sound h =
      let a = act (ports_of wiring k) Initialize k s.scripts in
      let one : are_sent wiring.shapes (record { node = node_of wiring k; replies = a.replies }) ≡ true =
      fields-sent wiring.shapes (node_of wiring k) a.replies (act-sends wiring s.scripts sound k Initialize) in
      sent-all (start_one wiring s k) ks (subst (λ (kinds : List Kind). IsSound wiring kinds) (sym (kinds-one s k)) sound)
      (sent-more wiring.shapes s.sendings (record { node = node_of wiring k; replies = a.replies }) h one)

  begun-all : (n k : ℕ) (s : Started) → k + n ≡ length s.scripts → are_begun (take k s.scripts) ≡ true → are_begun (fold (start_one wiring) s (range_with_len k n)).scripts ≡ true
  begun-all zero k s e h = rw (take-all s.scripts k (omega (arith, e))) at h
  begun-all (suc n) k s e h =
      let next : k + 1 ≡ suc k = omega arith in
      let many : length (start_one wiring s k).scripts ≡ length s.scripts = lengths (start_one wiring s k).scripts s.scripts (kinds-one s k) in
      begun-all n (k + 1) (start_one wiring s k) (omega (arith, e, many))
      (ap (λ (j : ℕ). are_begun (take j (start_one wiring s k).scripts)) next ∙ begun-act (ports_of wiring k) k s.scripts (omega (arith, e)) h)

  -- one script more is initialized
  pub next_started : (s : Started) (k n : ℕ) → k < n →
      fold (start_one wiring) (start_one wiring s k) (range_with_len (k + 1) (n - (k + 1))) ≡ fold (start_one wiring) s (range_with_len k (n - k))
  next_started s k n h =
      let e : n - k ≡ suc (n - (k + 1)) = omega (arith, h) in
      ap (λ (m : ℕ). fold (start_one wiring) s (range_with_len k m)) (sym e)

  pub started_kinds : (rs : List SlotView) → kinds_of (started wiring rs).scripts ≡ kinds_of rs
  unfolding started
  started_kinds rs = kinds-all (record { scripts = rs; sendings = [] }) (range_with_len 0 (length rs))

  pub started_many : (rs : List SlotView) → length (started wiring rs).scripts ≡ length rs
  started_many rs = lengths (started wiring rs).scripts rs (started_kinds rs)

  pub started_sent : (rs : List SlotView) → IsSound wiring (kinds_of rs) → list_all (are_sent wiring.shapes) (started wiring rs).sendings ≡ true
  unfolding started
  started_sent rs sound = sent-all (record { scripts = rs; sendings = [] }) (range_with_len 0 (length rs)) sound refl

  pub started_begun : (rs : List SlotView) → are_begun (started wiring rs).scripts ≡ true
  unfolding started
  started_begun rs = begun-all (length rs) 0 (record { scripts = rs; sendings = [] }) (omega arith) refl

  -- ---- what they send is sent

  -- no script settles by it
  pub sent_unsettled : (c : CourseView) (sendings : List SendingView) → c.settling.settled ≡ [] → (sent_by_all wiring c sendings).settling.settled ≡ []
  sent_unsettled c [] none = none
  sent_unsettled c (x ∷ xs) none =
      sent_unsettled (send_replies wiring x.node c x.replies) xs
      (replies-of wiring (λ (d : CourseView). d.settling.settled ≡ []) (λ d s v h p. p) (λ d a p. p) (λ d q p. p) (λ d k call p. p) x.node c x.replies none)

-- ---- the whole of input 0

abbrev opened-from : SceneView → Wiring → List SlotView → Scripted
opened-from scene wiring given =
    let s = started wiring given in
    ended (settle wiring (sent_by_all wiring (course (record { world = untold scene; sent = [] }) s.scripts) s.sendings))

routed-plan : (g : RoutedScene) → RunsItsScripts g → wiring_at g ≡ wiring_of g.scene g.routes
routed-plan g routed = ap made routed
  where
    made : List Run → Wiring
    made runs = record { shapes = shapes_of g.scene; routes = g.routes; runs = runs }

opened-routed : (g : RoutedScene) → RunsItsScripts g → opened-from g.scene (wiring_at g) (scripts_in g.scene) ≡ opening g.scene g.routes
unfolding opening
opened-routed g routed = ap (λ (wiring : Wiring). opened-from g.scene wiring (scripts_in g.scene)) (routed-plan g routed)

-- the course behind the initialization of all scripts
abbrev starts : Live → List SlotView → DueScriptsView → CourseView
starts live rs settling = record { live = live; scripts = rs; settling = settling }

-- a world in which nothing has happened, and nothing has sent
pub live_untold : (live : Live) (scene : SceneView) → live.world ≡ untold scene → live.sent ≡ [] → live ≡ record { world = untold scene; sent = [] }
live_untold live scene world unsent = ap (λ w. record { world = w; sent = live.sent }) world ∙ ap (λ s. record { world = untold scene; sent = s }) unsent

starts-same : (live : Live) (scene : SceneView) (rs given : List SlotView) (settling : DueScriptsView) (many : ℕ) → live.world ≡ untold scene → live.sent ≡ [] → rs ≡ given →
    settling ≡ unsettled many → many ≡ length given → starts live rs settling ≡ course (record { world = untold scene; sent = [] }) given
starts-same live scene rs given settling many world unsent e is counted =
    let same : live ≡ record { world = untold scene; sent = [] } = live_untold live scene world unsent in
    let all : settling ≡ unsettled (length given) = is ∙ ap unsettled counted in
    ap (λ (t : Live). starts t rs settling) same
    ∙ ap (λ (xs : List SlotView). starts (record { world = untold scene; sent = [] }) xs settling) e
    ∙ ap (λ (s : DueScriptsView). starts (record { world = untold scene; sent = [] }) given s) all

-- how input 0 ends
pub opened_same : (g : RoutedScene) → RunsItsScripts g → (live : Live) (given rs : List SlotView) (settling : DueScriptsView) (many : ℕ) (sendings : List SendingView) (before after : CourseView) →
    given ≡ scripts_in g.scene → live.world ≡ untold g.scene → live.sent ≡ [] →
    rs ≡ (started (wiring_at g) given).scripts → settling ≡ unsettled many → many ≡ length given → sendings ≡ (started (wiring_at g) given).sendings →
    before ≡ sent_by_all (wiring_at g) (record { live = live; scripts = rs; settling = settling }) sendings → after ≡ settle (wiring_at g) before →
    ended after ≡ opening g.scene g.routes
opened_same g routed live given rs settling many sendings before after same world unsent scripts is counted sent was done =
    let wiring = wiring_at g in
    let all : many ≡ length (started wiring given).scripts = counted ∙ sym (started_many wiring given) in
    ap ended done
    ∙ ap (λ (c : CourseView). ended (settle wiring c)) was
    ∙ ap (λ (c : CourseView). ended (settle wiring (sent_by_all wiring c sendings))) (starts-same live g.scene rs (started wiring given).scripts settling many world unsent scripts is all)
    ∙ ap (λ (xs : List SendingView). ended (settle wiring (sent_by_all wiring (course (record { world = untold g.scene; sent = [] }) (started wiring given).scripts) xs))) sent
    ∙ ap (λ (xs : List SlotView). opened-from g.scene wiring xs) same
    ∙ opened-routed g routed

-- nothing was settled before
pub sent_fresh : (wiring : Wiring) (live : Live) (rs : List SlotView) (settling : DueScriptsView) (after : CourseView) (sendings : List SendingView) (many : ℕ) →
    after ≡ sent_by_all wiring (record { live = live; scripts = rs; settling = settling }) sendings → settling ≡ unsettled many → after.settling.settled ≡ []
sent_fresh wiring live rs settling after sendings many is none =
    ap (λ (c : CourseView). c.settling.settled) is ∙ sent_unsettled wiring (record { live = live; scripts = rs; settling = settling }) sendings (ap (λ (s : DueScriptsView). s.settled) none)

-- ---- the scripts of the course

-- a script that there is is run
pub script_run : (wiring : Wiring) (rs : List SlotView) (k : ℕ) → IsSound wiring (kinds_of rs) → k < length rs → k < length wiring.runs
script_run wiring rs k sound below = omega (arith, below, sound.many, length-map rs (λ (r : SlotView). r.kind))

pub started_first : (wiring : Wiring) (rs : List SlotView) (sendings : List SendingView) (n : ℕ) → sendings ≡ [] → n ≡ length rs →
    fold (start_one wiring) (record { scripts = rs; sendings = sendings }) (range_with_len 0 (n - 0)) ≡ started wiring rs
unfolding started
started_first wiring rs sendings n none e =
    let all : n - 0 ≡ length rs = omega (arith, e) in
    ap (λ (xs : List SendingView). fold (start_one wiring) (record { scripts = rs; sendings = xs }) (range_with_len 0 (n - 0))) none
    ∙ ap (λ (m : ℕ). fold (start_one wiring) (record { scripts = rs; sendings = [] }) (range_with_len 0 m)) all

-- one script more was initialized
pub started_more : (wiring : Wiring) (whole : Started) (rs after : List SlotView) (sendings more : List SendingView) (one : SendingView) (k n : ℕ) → k < n →
    after ≡ (act (ports_of wiring k) Initialize k rs).scripts → one ≡ record { node = node_of wiring k; replies = (act (ports_of wiring k) Initialize k rs).replies } → more ≡ sendings ++ one ∷ [] →
    fold (start_one wiring) (record { scripts = rs; sendings = sendings }) (range_with_len k (n - k)) ≡ whole →
    fold (start_one wiring) (record { scripts = after; sendings = more }) (range_with_len (k + 1) (n - (k + 1))) ≡ whole
started_more wiring whole rs after sendings more one k n below scripts sent pushed e =
    let s : Started = record { scripts = rs; sendings = sendings } in
    let same : record { scripts = after; sendings = more } ≡ start_one wiring s k =
    ap (λ (xs : List SlotView). pair xs more) scripts ∙ ap (λ (ys : List SendingView). pair (start_one wiring s k).scripts ys) (pushed ∙ ap (λ (x : SendingView). sendings ++ x ∷ []) sent) in
    ap (λ (x : Started). fold (start_one wiring) x (range_with_len (k + 1) (n - (k + 1)))) same ∙ next_started wiring s k n below ∙ e
  where
    pair : List SlotView → List SendingView → Started
    pair xs ys = record { scripts = xs; sendings = ys }

-- scripts that were all initialized are of the kinds that they were of, and as many
pub opening-has_scripts : (wiring : Wiring) (given rs : List SlotView) (live : Live) (settling : DueScriptsView) (many : ℕ) → IsSound wiring (kinds_of given) →
    kinds_of rs ≡ kinds_of given → settling ≡ unsettled many → many ≡ length given → HasScriptsOf wiring (record { live = live; scripts = rs; settling = settling })
opening-has_scripts wiring given rs live settling many sound kinds is counted = record {
  sound = subst (λ (ks : List Kind). IsSound wiring ks) (sym kinds) sound;
  counted = ap (λ (s : DueScriptsView). s.count) is ∙ counted ∙ sym (length-map given (λ (r : SlotView). r.kind)) ∙ ap length (sym kinds);
}
