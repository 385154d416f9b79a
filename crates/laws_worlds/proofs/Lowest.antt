-- The sensors of a hit are those of the lowest list that has some, in the order of their numbers.
use Rattle.std.proofs.Common.{◌≡◌, ℕ, suc, ◌+◌, ◌<◌, ◌≤◌, Bool, true, false, List, [], ◌∷◌, ◌++◌, length, take, drop, get_or, Option, Some, None, slice_get, refl, sym, ap, subst, ◌∙◌, arith, if◌then◌else◌}
use Rattle.std.specs.Prelude.{◌==◌, ◌||◌, ◌&&◌, cond, nat_lt}
use Rattle.std.specs.List.{fold, insert, list_all, list_any, prefix_len}
use Rattle.std.specs.Option.{option_map_or}
use Rattle.std.proofs.lemmas.Bool.{eqb-true, eq-eqb, ltb-true, ltb-false, lt-ltb, or_left, or_right, or_parts, and_from, true≢false}
use Rattle.std.proofs.lemmas.List.{take-append-drop, take_all}
use Rattle.std.proofs.lemmas.List.Folds.{list_all-append, list_any-append}
use Rattle.std.proofs.lemmas.List.Sums.{fold_more}
use Rattle.byte_codec.proofs.Laws.{both}
use Rattle.x3d_values.specs.declared.fields.Fields.{Fields}
use Rattle.scene_core.proofs.LimitLemmas.{uncrowded}
use Rattle.scene_core.specs.Places.{any_crowded, is_crowded}
use Rattle.scene_core.specs.Scene.{SceneView}
use Rattle.pick_core.proofs.Few.{room, siblings_uncrowded}
use Rattle.pick_core.specs.Sensors.{enabled_in, inserted, is_enabled, list_of, or_else, sensors_along, siblings_in, with_sensor}
use Rattle.laws_worlds.specs.Sensors.{has, are_rising, lists_along, is_listed, IsLowest, SensorsAreFew, SensorsAreLowest, SensorsRise}
use Rattle.laws_worlds.proofs.Openings.{scene_limited}

-- ---- a number that is put in

or_none : (a : Bool) → a ≡ (a || false)
or_none true = refl
or_none false = refl

or_swapped : (a b c : Bool) → (a || (b || c)) ≡ (b || (a || c))
or_swapped true true c = refl
or_swapped true false c = refl
or_swapped false b c = refl

and_swapped : (a b c : Bool) → (a && (b && c)) ≡ (b && (a && c))
and_swapped true b c = refl
and_swapped false true c = refl
and_swapped false false c = refl

has_inserted : (k : ℕ) (ns : List ℕ) (n : ℕ) → has k (inserted ns n) ≡ ((n == k) || has k ns)
has_inserted k ns n =
    let i : ℕ = prefix_len (λ m. nat_lt m n) ns in
    list_any-append (λ (m : ℕ). m == k) (take i ns) (n ∷ drop i ns)
    ∙ (or_swapped (has k (take i ns)) (n == k) (has k (drop i ns))
    ∙ ap (λ b. (n == k) || b) (sym (list_any-append (λ (m : ℕ). m == k) (take i ns) (drop i ns)) ∙ ap (has k) (take-append-drop i ns)))

all_inserted : (p : ℕ → Bool) (ns : List ℕ) (n : ℕ) → list_all p (inserted ns n) ≡ (p n && list_all p ns)
all_inserted p ns n =
    let i : ℕ = prefix_len (λ m. nat_lt m n) ns in
    list_all-append p (take i ns) (n ∷ drop i ns)
    ∙ (and_swapped (list_all p (take i ns)) (p n) (list_all p (drop i ns))
    ∙ ap (λ b. p n && b) (sym (list_all-append p (take i ns) (drop i ns)) ∙ ap (list_all p) (take-append-drop i ns)))

behind : (m n : ℕ) (ns : List ℕ) → nat_lt m n ≡ true → inserted (m ∷ ns) n ≡ m ∷ inserted ns n
behind m n ns h =
    let l : ℕ = prefix_len (λ k. nat_lt k n) ns in
    let one : 1 + l ≡ suc l = omega arith in
    ap (λ b. insert (m ∷ ns) (cond b (1 + l) 0) n) h ∙ ap (λ i. insert (m ∷ ns) i n) one

before : (m n : ℕ) (ns : List ℕ) → nat_lt m n ≡ false → inserted (m ∷ ns) n ≡ n ∷ m ∷ ns
before m n ns h = ap (λ b. insert (m ∷ ns) (cond b (1 + prefix_len (λ k. nat_lt k n) ns) 0) n) h

-- ---- rising

greater : (m n : ℕ) → nat_lt m n ≡ false → (m == n) ≡ false → nat_lt n m ≡ true
greater m n l d = by (nat_lt n m) refl where
  by : (b : Bool) → nat_lt n m ≡ b → b ≡ true
  by true e = refl
  by false e =
      let same : m ≡ n = omega (arith, ltb-false m n l, ltb-false n m e) in
      absurd (true≢false (sym (eq-eqb m n same) ∙ d))

further : (m n : ℕ) (ns : List ℕ) → nat_lt n m ≡ true → list_all (λ k. nat_lt m k) ns ≡ true → list_all (λ k. nat_lt n k) ns ≡ true
further m n [] l h = refl
further m n (k ∷ ns) l h =
    let b = both (nat_lt m k) (list_all (λ j. nat_lt m j) ns) h in
    and_from (nat_lt n k) (list_all (λ j. nat_lt n j) ns) (lt-ltb n k (omega (arith, ltb-true n m l, ltb-true m k b.0))) (further m n ns l b.1)

rise : (ns : List ℕ) (n : ℕ) → are_rising ns ≡ true → has n ns ≡ false → are_rising (inserted ns n) ≡ true
rise [] n h a = refl
rise (m ∷ ns) n h a = by (nat_lt m n) refl (rise ns n split.1 other.1) where
  split : (list_all (λ k. nat_lt m k) ns ≡ true) × (are_rising ns ≡ true)
  split = both (list_all (λ k. nat_lt m k) ns) (are_rising ns) h

  other : ((m == n) ≡ false) × (has n ns ≡ false)
  other = or_parts (m == n) (has n ns) a

  by : (b : Bool) → nat_lt m n ≡ b → are_rising (inserted ns n) ≡ true → are_rising (inserted (m ∷ ns) n) ≡ true
  by true l r =
      ap are_rising (behind m n ns l)
      ∙ and_from (list_all (λ k. nat_lt m k) (inserted ns n)) (are_rising (inserted ns n))
      (all_inserted (λ k. nat_lt m k) ns n ∙ and_from (nat_lt m n) (list_all (λ k. nat_lt m k) ns) l split.0) r
  by false l r =
      let less = greater m n l other.0 in
      ap are_rising (before m n ns l)
      ∙ and_from (nat_lt n m && list_all (λ k. nat_lt n k) ns) (are_rising (m ∷ ns))
      (and_from (nat_lt n m) (list_all (λ k. nat_lt n k) ns) less (further m n ns less split.0)) h

-- ---- one list

or_absorbed : (a b c e : Bool) → ((a || (b && e)) || (c && e)) ≡ (a || ((b || c) && e))
or_absorbed true b c e = refl
or_absorbed false true c true = refl
or_absorbed false true true false = refl
or_absorbed false true false false = refl
or_absorbed false false c e = refl

module _ (scene : SceneView) (state : List Fields) where
  has_with : (ns : List ℕ) (n k : ℕ) → has k (with_sensor scene state ns n) ≡ (has k ns || ((n == k) && is_enabled scene state k))
  has_with ns n k = by (is_enabled scene state n) refl (has n ns) refl (n == k) refl where
    by : (e : Bool) → is_enabled scene state n ≡ e → (a : Bool) → has n ns ≡ a → (b : Bool) → (n == k) ≡ b
        → has k (if e then (if a then ns else inserted ns n) else ns) ≡ (has k ns || (b && is_enabled scene state k))
    by false on a q false z = or_none (has k ns)
    by true on true q false z = or_none (has k ns)
    by true on false q false z = has_inserted k ns n ∙ (ap (λ b. b || has k ns) z ∙ or_none (has k ns))
    by false on a q true z =
        or_none (has k ns) ∙ ap (λ b. has k ns || b) (sym (ap (is_enabled scene state) (sym (eqb-true n k z)) ∙ on))
    by true on true q true z =
        let is : has k ns ≡ true = ap (λ m. has m ns) (sym (eqb-true n k z)) ∙ q in
        is ∙ sym (or_left (has k ns) (is_enabled scene state k) is)
    by true on false q true z =
        has_inserted k ns n ∙ (or_left (n == k) (has k ns) z
        ∙ sym (or_right (has k ns) (is_enabled scene state k) (ap (is_enabled scene state) (sym (eqb-true n k z)) ∙ on)))

  has_all : (k : ℕ) (list ns : List ℕ) → has k (fold (with_sensor scene state) ns list) ≡ (has k ns || (has k list && is_enabled scene state k))
  has_all k [] ns = or_none (has k ns)
  has_all k (n ∷ list) ns =
      has_all k list (with_sensor scene state ns n)
      ∙ (ap (λ b. b || (has k list && is_enabled scene state k)) (has_with ns n k)
      ∙ or_absorbed (has k ns) (n == k) (has k list) (is_enabled scene state k))

  -- the sensors of a list are its enabled ones
  has_enabled : (k : ℕ) (list : List ℕ) → has k (enabled_in scene state list) ≡ is_listed scene state k list
  unfolding enabled_in
  has_enabled k list = has_all k list []

  rise_with : (ns : List ℕ) (n : ℕ) → are_rising ns ≡ true → are_rising (with_sensor scene state ns n) ≡ true
  rise_with ns n h = by (is_enabled scene state n) (has n ns) refl where
    by : (e a : Bool) → has n ns ≡ a → are_rising (if e then (if a then ns else inserted ns n) else ns) ≡ true
    by true true q = h
    by true false q = rise ns n h q
    by false a q = h

  rise_all : (list ns : List ℕ) → are_rising ns ≡ true → are_rising (fold (with_sensor scene state) ns list) ≡ true
  rise_all [] ns h = h
  rise_all (n ∷ list) ns h = rise_all list (with_sensor scene state ns n) (rise_with ns n h)

  rise_enabled : (list : List ℕ) → are_rising (enabled_in scene state list) ≡ true
  unfolding enabled_in
  rise_enabled list = rise_all list [] refl

  few_enabled : (list : List ℕ) → is_crowded scene.nodes list ≡ false → length (enabled_in scene state list) ≤ 64
  unfolding enabled_in
  few_enabled [] h = omega arith
  few_enabled (n ∷ list) h =
      let whole : List ℕ = n ∷ list in
      let i : ℕ = length list in
      let f : List ℕ → ℕ → List ℕ = with_sensor scene state in
      let within : i < length whole = omega arith in
      let all : fold f [] whole ≡ f (fold f [] (take i whole)) (get_or whole i 0) =
      ap (fold f []) (sym (take_all (i + 1) whole (omega arith))) ∙ fold_more f [] whole i 0 within in
      subst (λ (ns : List ℕ). length ns ≤ 64) (sym all) (room scene state whole (fold f [] (take i whole)) i 0 within h refl)

  -- ---- the lowest of some lists

  abbrev lowest : List (List ℕ) → List ℕ
  lowest [] = []
  lowest (list ∷ lists) = or_else (lowest lists) (enabled_in scene state list)

  either : (P : List ℕ → Type 0) (ns ms : List ℕ) → P ns → P ms → P (or_else ns ms)
  either P [] ms p q = q
  either P (n ∷ ns) ms p q = p

  along : (owner : Option ℕ) (path : List ℕ) → sensors_along scene state owner path ≡ lowest (lists_along scene owner path)
  unfolding sensors_along
  along owner [] = refl
  along owner (p ∷ ps) = by (slice_get (list_of scene owner) p) (λ child. along (Some child) ps) where
    by : (o : Option ℕ) → ((child : ℕ) → sensors_along scene state (Some child) ps ≡ lowest (lists_along scene (Some child) ps))
        → or_else (option_map_or (λ child. sensors_along scene state (Some child) ps) o []) (enabled_in scene state (siblings_in scene owner))
        ≡ or_else (lowest (option_map_or (λ child. lists_along scene (Some child) ps) o [])) (enabled_in scene state (siblings_in scene owner))
    by None below = refl
    by (Some child) below = ap (λ ns. or_else ns (enabled_in scene state (siblings_in scene owner))) (below child)

  rises : (lists : List (List ℕ)) → are_rising (lowest lists) ≡ true
  rises [] = refl
  rises (list ∷ lists) = either (λ ns. are_rising ns ≡ true) (lowest lists) (enabled_in scene state list) (rises lists) (rise_enabled list)

  few_along : any_crowded scene.nodes scene.roots ≡ false → (owner : Option ℕ) (path : List ℕ) → length (sensors_along scene state owner path) ≤ 64
  unfolding sensors_along
  few_along h owner [] = omega arith
  few_along h owner (p ∷ ps) =
      either (λ ns. length ns ≤ 64) (option_map_or (λ child. sensors_along scene state (Some child) ps) (slice_get (list_of scene owner) p) []) (enabled_in scene state (siblings_in scene owner))
      (by (slice_get (list_of scene owner) p) (λ child. few_along h (Some child) ps))
      (few_enabled (siblings_in scene owner) (siblings_uncrowded scene owner h)) where
        by : (o : Option ℕ) → ((child : ℕ) → length (sensors_along scene state (Some child) ps) ≤ 64)
            → length (option_map_or (λ child. sensors_along scene state (Some child) ps) o []) ≤ 64
        by None below = omega arith
        by (Some child) below = below child

  -- ---- it has what is listed lowest

  abbrev HaveNone : List (List ℕ) → Type 0
  HaveNone lists = (m : ℕ) → list_any (is_listed scene state m) lists ≡ false

  -- where it is empty, no list has any
  have_none : (lists : List (List ℕ)) → lowest lists ≡ [] → HaveNone lists
  have_none [] e m = refl
  have_none (list ∷ lists) e m = by (lowest lists) refl e (λ z. have_none lists z m) where
    by : (ns : List ℕ) → lowest lists ≡ ns → or_else ns (enabled_in scene state list) ≡ []
        → (lowest lists ≡ [] → list_any (is_listed scene state m) lists ≡ false)
        → (is_listed scene state m list || list_any (is_listed scene state m) lists) ≡ false
    by [] z own deeper = ap (λ b. b || list_any (is_listed scene state m) lists) (sym (has_enabled m list) ∙ ap (has m) own) ∙ deeper z
    by (n ∷ ns) z own deeper = absurd cc

  nothing : (ns : List ℕ) → ((m : ℕ) → has m ns ≡ false) → ns ≡ []
  nothing [] h = refl
  nothing (n ∷ ns) h = absurd (true≢false (sym (or_left (n == n) (has n ns) (eq-eqb n n refl)) ∙ h n))

  -- and where none has, it is empty
  is_empty : (lists : List (List ℕ)) → HaveNone lists → lowest lists ≡ []
  is_empty [] h = refl
  is_empty (list ∷ lists) h =
      let below = is_empty lists (λ m. (or_parts (is_listed scene state m list) (list_any (is_listed scene state m) lists) (h m)).1) in
      let own = nothing (enabled_in scene state list) (λ m. has_enabled m list ∙ (or_parts (is_listed scene state m list) (list_any (is_listed scene state m) lists) (h m)).0) in
      ap (λ ns. or_else ns (enabled_in scene state list)) below ∙ own

  found : (n : ℕ) (lists : List (List ℕ)) → has n (lowest lists) ≡ true → IsLowest scene state lists n
  found n [] h = absurd cc
  found n (list ∷ lists) h = by (lowest lists) refl h (λ k. found n lists k) where
    by : (ns : List ℕ) → lowest lists ≡ ns → has n (or_else ns (enabled_in scene state list)) ≡ true
        → (has n (lowest lists) ≡ true → IsLowest scene state lists n) → IsLowest scene state (list ∷ lists) n
    by [] z own deeper = record {
      above = [];
      list = list;
      below = lists;
      stands = refl;
      listed = sym (has_enabled n list) ∙ own;
      lowest = have_none lists z;
    }
    by (k ∷ ns) z own deeper =
        let r = deeper (ap (has n) z ∙ own) in
        record {
          above = list ∷ r.above;
          list = r.list;
          below = r.below;
          stands = ap (λ (ls : List (List ℕ)). list ∷ ls) r.stands;
          listed = r.listed;
          lowest = r.lowest;
        }

  not_lost : (n : ℕ) (ns own : List ℕ) → has n ns ≡ true → has n (or_else ns own) ≡ true
  not_lost n [] own h = absurd cc
  not_lost n (m ∷ ns) own h = h

  stays : (n : ℕ) (above : List (List ℕ)) (list : List ℕ) (below : List (List ℕ)) → is_listed scene state n list ≡ true → HaveNone below → has n (lowest (above ++ list ∷ below)) ≡ true
  stays n [] list below l h =
      ap (λ ns. has n (or_else ns (enabled_in scene state list))) (is_empty below h) ∙ (has_enabled n list ∙ l)
  stays n (own ∷ above) list below l h =
      not_lost n (lowest (above ++ list ∷ below)) (enabled_in scene state own) (stays n above list below l h)

pub are_lowest : SensorsAreLowest
are_lowest scene state path n =
    let lists : List (List ℕ) = lists_along scene None path in
    let same = along scene state None path in (
      (λ h. found scene state n lists (ap (has n) (sym same) ∙ h)),
      (λ r. ap (has n) same ∙ (ap (λ ls. has n (lowest scene state ls)) r.stands ∙ stays scene state n r.above r.list r.below r.listed r.lowest)),
    )

pub all_rise : SensorsRise
all_rise scene state path = ap are_rising (along scene state None path) ∙ rises scene state (lists_along scene None path)

pub are_few : SensorsAreFew
are_few flat scene state path h = few_along scene state (uncrowded scene.nodes scene.roots (scene_limited flat scene h)) None path
