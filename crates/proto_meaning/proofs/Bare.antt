-- An instance that is given nothing comes to the same anywhere.
use Rattle.std.proofs.Common.{◌≡◌, ◌⊎◌, inl, inr, ℕ, Bool, true, false, if◌then◌else◌, List, [], ◌∷◌, ◌++◌, length, Option, Result, Ok, Err, refl, ap, sym, ◌∙◌, subst}
use Rattle.proto_flat.specs.Fault.{fault}
use Rattle.proto_flat.specs.declared.fault.ExpandFault.{ExpandFault}
use Rattle.proto_flat.specs.declared.fault.ExpandFaultKind.TheVariants.{FieldTwice}
use Rattle.proto_meaning.specs.Limits.{Met, AnInstance, Outcome, behind, follow, and_then}
use Rattle.proto_meaning.specs.Names.{Name, Field}
use Rattle.proto_meaning.specs.Sight.{Instance, Prototype, OfProto}
use Rattle.proto_meaning.specs.Flat.{Walk, Does, ◌>>=◌, close_instance, comes, inside, is_one, refuse, unless_twice}
use Rattle.proto_meaning.specs.Sizes.{ComeAlike, EndAlike, IsSized}
use Rattle.proto_meaning.specs.Rows.{MetIn, bare}
use Rattle.proto_meaning.specs.SizeLaws.{BareInstancesComeAlike}
use Rattle.proto_meaning.proofs.SizeNodes.{finish, opened}

-- ---- the interface is right or wrong, wherever the walk stands

abbrev Asked : Does (Unit {0}) → Type 0
Asked m = ((w : Walk) → m w ≡ comes (Ok (tt, w))) ⊎ ((e : ExpandFault) × ((w : Walk) → m w ≡ comes (Err e)))

asked_if : (b : Bool) (m n : Does (Unit {0})) → Asked m → Asked n → Asked (if b then m else n)
asked_if true m n h k = h
asked_if false m n h k = k

asked : (seen : List Name) (fs : List Field) → Asked (unless_twice seen fs)
asked seen [] = inl (λ w. refl)
asked seen (f ∷ fs) = asked_if (is_one f.name seen) (refuse FieldTwice f.line) (unless_twice (f.name ∷ seen) fs) (inr (fault FieldTwice f.line, λ w. refl)) (asked (f.name ∷ seen) fs)

-- ---- what then follows

-- the same is in sight behind it
abbrev pub Keeps : Walk → Result (ℕ × Walk) ExpandFault → Type 0
Keeps w (Ok q) = q.1.sight ≡ w.sight
Keeps w (Err e) = Unit {0}

abbrev after : Walk → Option Name → Walk
after w name = record w { scope = opened name w.scope }

abbrev closes : Prototype → Option Name → Walk → List Met → Result Instance ExpandFault → Outcome (ℕ × Walk)
closes p name w met made = follow met made (finish name (length w.scope.braces) p.interface (after w name))

closes_alike : (p : Prototype) (name called : Option Name) (w v : Walk) (m n : List Met) (r q : Result Instance ExpandFault) → n ≡ m → EndAlike r q → ComeAlike (closes p name w m r) (closes p called v n q)
closes_alike p name called w v m n (Ok a) (Ok b) e h = record { met = ap (λ x. x ++ []) e; ends = tt }
closes_alike p name called w v m n (Err x) (Err y) e h = record { met = e; ends = h }
closes_alike p name called w v m n (Ok a) (Err y) e h = absurd h
closes_alike p name called w v m n (Err x) (Ok b) e h = absurd h

closes_keeps : (p : Prototype) (name : Option Name) (w : Walk) (m : List Met) (r : Result Instance ExpandFault) → Keeps w (closes p name w m r).comes
closes_keeps p name w m (Ok a) = refl
closes_keeps p name w m (Err e) = tt

abbrev rest : Prototype → Option Name → Walk → Outcome (ℕ × Walk)
rest p name w = closes p name w (p.instance [] w.put).met (p.instance [] w.put).comes

-- ---- an instance

abbrev wrong : ExpandFault → Outcome (ℕ × Walk)
wrong e = record { met = AnInstance ∷ []; comes = Err e }

module _ (p : Prototype) where
  bare_is : ((w : Walk) → unless_twice [] p.interface w ≡ comes (Ok (tt, w))) → (line : ℕ) (name : Option Name) (w : Walk) → bare p line name w ≡ behind (AnInstance ∷ []) (rest p name w)
  bare_is h line name w = ap (λ (o : Outcome (Unit {0} × Walk)). behind (AnInstance ∷ []) (and_then o (λ q. (inside name (OfProto p) p.interface [] >>= close_instance name p) q.1))) (h w)

  bare_wrong : (e : ExpandFault) → ((w : Walk) → unless_twice [] p.interface w ≡ comes (Err e)) → (line : ℕ) (name : Option Name) (w : Walk) → bare p line name w ≡ wrong e
  bare_wrong e h line name w = ap (λ (o : Outcome (Unit {0} × Walk)). behind (AnInstance ∷ []) (and_then o (λ q. (inside name (OfProto p) p.interface [] >>= close_instance name p) q.1))) (h w)

  by_asked : Asked (unless_twice [] p.interface) → (line other : ℕ) (name called : Option Name) (w v : Walk) → IsSized p → ComeAlike (bare p line name w) (bare p other called v)
  by_asked (inl h) line other name called w v k =
      let c = k [] [] w.put v.put refl in
      let d = closes_alike p name called w v (p.instance [] w.put).met (p.instance [] v.put).met (p.instance [] w.put).comes (p.instance [] v.put).comes c.met c.ends in
      subst (λ (o : Outcome (ℕ × Walk)). ComeAlike o (bare p other called v)) (sym (bare_is h line name w))
      (subst (λ q. ComeAlike (behind (AnInstance ∷ []) (rest p name w)) q) (sym (bare_is h other called v))
      (record { met = ap (λ ms. AnInstance ∷ ms) d.met; ends = d.ends }))
  by_asked (inr f) line other name called w v k =
      subst (λ (o : Outcome (ℕ × Walk)). ComeAlike o (bare p other called v)) (sym (bare_wrong f.0 f.1 line name w))
      (subst (λ (q : Outcome (ℕ × Walk)). ComeAlike (wrong f.0) q) (sym (bare_wrong f.0 f.1 other called v)) (record { met = refl; ends = refl }))

  keeps_by : Asked (unless_twice [] p.interface) → (line : ℕ) (name : Option Name) (w : Walk) → Keeps w (bare p line name w).comes
  keeps_by (inl h) line name w = subst (λ (o : Outcome (ℕ × Walk)). Keeps w o.comes) (sym (bare_is h line name w)) (closes_keeps p name w (p.instance [] w.put).met (p.instance [] w.put).comes)
  keeps_by (inr f) line name w = subst (λ (o : Outcome (ℕ × Walk)). Keeps w o.comes) (sym (bare_wrong f.0 f.1 line name w)) tt

  -- ---- where one was put in, each is

  abbrev pub IsPut : List Met → Walk → Outcome (ℕ × Walk) → Type 0
  IsPut met w o = (number : ℕ) × (v : Walk) × (v.sight ≡ w.sight) × (o ≡ record { met = met; comes = Ok (number, v) })

  put_by : (met ms : List Met) (first : ℕ × Walk) (w : Walk) (c : Result (ℕ × Walk) ExpandFault) → ms ≡ met → EndAlike (Ok first) c → Keeps w c → IsPut met w (record { met = ms; comes = c })
  put_by met ms first w (Ok q) e h k = (q.0, q.1, k, ap (λ x. record { met = x; comes = Ok q }) e)
  put_by met ms first w (Err f) e h k = absurd h

  pub is_put : (met : List Met) → IsSized p → MetIn p met → (line : ℕ) (name : Option Name) (w : Walk) → IsPut met w (bare p line name w)
  is_put met k m line name w =
      let c = by_asked (asked [] p.interface) m.line line m.name name m.walk w k in
      put_by met (bare p line name w).met m.first w (bare p line name w).comes (c.met ∙ ap (λ (o : Outcome (ℕ × Walk)). o.met) m.was)
      (subst (λ (o : Outcome (ℕ × Walk)). EndAlike o.comes (bare p line name w).comes) m.was c.ends) (keeps_by (asked [] p.interface) line name w)

pub bare_instances_come_alike : BareInstancesComeAlike
bare_instances_come_alike p line other name called w v k = by_asked p (asked [] p.interface) line other name called w v k
