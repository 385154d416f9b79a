-- What the first of two walks comes to beside the second, and limits.
use Rattle.std.proofs.Common.{◌≡◌, ℕ, Bool, true, false, not, ◌&&◌, if◌then◌else◌, nat_lt, List, ◌++◌, Result, Ok, Err, refl, ap, sym, ◌∙◌, arith, ◌≤◌}
use Rattle.std.specs.List.{list_all, sum_by}
use Rattle.std.proofs.lemmas.Bool.{ltb-true, lt-ltb}
use Rattle.proto_flat.specs.Fault.{fault}
use Rattle.proto_flat.specs.declared.fault.ExpandFault.{ExpandFault}
use Rattle.proto_flat.specs.declared.fault.ExpandFaultKind.TheVariants.{TooLarge}
use Rattle.proto_flat.specs.declared.flat.Flat.{Flat}
use Rattle.proto_flat.specs.declared.flat.FlatNode.{FlatNode}
use Rattle.proto_meaning.specs.Limits.{Met, Outcome, behind, follow, and_then, nodes_met, instances_met, items_met, all_met, has_room, is_within, with_few_routes, limited}
use Rattle.proto_meaning.specs.Names.{Field, Filled}
use Rattle.proto_meaning.specs.Sight.{Sight}
use Rattle.proto_meaning.specs.Flat.{Walk}
use Rattle.laws_documents.proofs.InPlaceParts.{never, both_true}
use Rattle.laws_documents.proofs.WithFieldsWalks.{Fewer, fewer_behind, EndAlike, ComeAlike}
use Rattle.laws_documents.proofs.WithFieldsGiven.{EndsIn, Leads}

-- ---- what the first leads to, beside the second

module _ (one two : Sight) (names : List Field) (values : List Filled) (helpers : List ℕ) (firsts seconds : List FlatNode) where
  pub leads_alike : {A C D : Type 0} (P : A → Type 0) (R : C → D → Type 0) (o : Outcome A) (f : A → Outcome (C × Walk)) (p : Outcome (D × Walk)) → Leads o P → ((a : A) → P a → ComeAlike one two names values helpers firsts seconds R (f a) p) → ComeAlike one two names values helpers firsts seconds R (and_then o f) p
  leads_alike {A} {C} {D} P R o f p h k = on o.met o.comes h where
    more : (met : List Met) (q : Outcome (C × Walk)) → ComeAlike one two names values helpers firsts seconds R q p → ComeAlike one two names values helpers firsts seconds R (behind met q) p
    more met q l = put q.met q.comes p.met p.comes l where
      put : (ms : List Met) (c : Result (C × Walk) ExpandFault) (ns : List Met) (d : Result (D × Walk) ExpandFault) → EndAlike one two names values helpers firsts seconds R ms c ns d → EndAlike one two names values helpers firsts seconds R (met ++ ms) c ns d
      put ms (Err x) ns d l = tt
      put ms (Ok a) ns (Ok b) l = (fewer_behind ns ms met l.0, l.1, l.2)
      put ms (Ok a) ns (Err y) l = absurd l

    on : (met : List Met) (c : Result A ExpandFault) → EndsIn P c → ComeAlike one two names values helpers firsts seconds R (follow met c f) p
    on met (Ok a) e = more met (f a) (k a e)
    on met (Err x) e = tt

-- ---- limits

pub few : (n a c : ℕ) → c ≤ a → not (nat_lt n a) ≡ true → not (nat_lt n c) ≡ true
few n a c h e = on (nat_lt n c) refl where
  on : (b : Bool) → nat_lt n c ≡ b → not b ≡ true
  on false is = refl
  on true is = sym (ap not (lt-ltb n a (omega (arith, h, ltb-true n c is)))) ∙ e

all_five : (a b c d e p q r s t : Bool) → (a ≡ true → p ≡ true) → (b ≡ true → q ≡ true) → (c ≡ true → r ≡ true) → (d ≡ true → s ≡ true) → (e ≡ true → t ≡ true)
    → (a && b && c && d && e) ≡ true → (p && q && r && s && t) ≡ true
all_five a b c d e p q r s t f g h i j k =
    let one = both_true (a && b && c && d) e k in
    let two = both_true (a && b && c) d one.0 in
    let three = both_true (a && b) c two.0 in
    let four = both_true a b three.0 in
    ap (λ x. x && q && r && s && t) (f four.0) ∙ ap (λ x. x && r && s && t) (g four.1) ∙ ap (λ x. x && s && t) (h three.1) ∙ ap (λ x. x && t) (i two.1) ∙ j one.1

pub fewer_within : (met more : List Met) → Fewer more met → is_within met ≡ true → is_within more ≡ true
fewer_within met more k e =
    all_five (not (nat_lt 65536 (sum_by nodes_met met))) (not (nat_lt 8388608 (sum_by instances_met met))) (not (nat_lt 8388608 (sum_by items_met met))) (not (nat_lt 4194304 (sum_by all_met met))) (list_all has_room met)
    (not (nat_lt 65536 (sum_by nodes_met more))) (not (nat_lt 8388608 (sum_by instances_met more))) (not (nat_lt 8388608 (sum_by items_met more))) (not (nat_lt 4194304 (sum_by all_met more))) (list_all has_room more)
    (few 65536 (sum_by nodes_met met) (sum_by nodes_met more) (k.sums nodes_met))
    (few 8388608 (sum_by instances_met met) (sum_by instances_met more) (k.sums instances_met))
    (few 8388608 (sum_by items_met met) (sum_by items_met more) (k.sums items_met))
    (few 4194304 (sum_by all_met met) (sum_by all_met more) (k.sums all_met))
    k.room e

abbrev pub is_fine : Result Flat ExpandFault → Bool
is_fine (Ok f) = true
is_fine (Err e) = false

pub limits_alike : (met more : List Met) (c d : Result Flat ExpandFault) (f : Flat) → Fewer more met → d ≡ c → limited (record { met = met; comes = c }) ≡ Ok f → limited (record { met = more; comes = d }) ≡ Ok f
limits_alike met more c d f fewer same e = on (is_within met) refl e where
  on : (b : Bool) → is_within met ≡ b → (if b then with_few_routes c else Err (fault TooLarge 0)) ≡ Ok f → limited (record { met = more; comes = d }) ≡ Ok f
  on true is k = ap (λ b. if b then with_few_routes d else Err (fault TooLarge 0)) (fewer_within met more fewer is) ∙ ap with_few_routes same ∙ k
  on false is k = never (ap is_fine k)

pub refused : (met : List Met) (x : ExpandFault) (f : Flat) → limited (record { met = met; comes = Err x }) ≡ Ok f → ⊥
refused met x f e = on (is_within met) e where
  on : (b : Bool) → (if b then with_few_routes (Err x) else Err (fault TooLarge 0)) ≡ Ok f → ⊥
  on true k = never (ap is_fine k)
  on false k = never (ap is_fine k)
