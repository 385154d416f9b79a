-- How long a secret makes cookies that are known.
use Rattle.std.proofs.Common.{◌≡◌, ◌⊎◌, ◌<◌, ◌≤◌, ℕ, ◌+◌, ◌-◌, List, [], ◌∷◌, nat_lt, refl, sym, subst, inl, inr, arith}
use Rattle.std.proofs.lemmas.Bool.{cases_Bool, ltb-true, ltb-false}
use Rattle.share_cookies.specs.declared.secrets.Secrets.{Secrets}
use Rattle.share_cookies.specs.Secrets.{IsFresh, SecretsChange, Time, all_passed, millis_of, passed}

-- ---- one time

abbrev secrets : (current former : List ℕ) → (age : ℕ) → Secrets
secrets current former age = record { current = current; former = former; age = age }

data Passes (s : Secrets) (t : Time) : Type 0 where
  young : s.age + t.0 < 120000 → passed s t.0 t.1 ≡ secrets s.current s.former (s.age + t.0) → Passes s t
  old : 120000 ≤ s.age + t.0 → s.age + t.0 < 240000 → passed s t.0 t.1 ≡ secrets t.1 s.current (s.age + t.0 - 120000) → Passes s t
  gone : 240000 ≤ s.age + t.0 → passed s t.0 t.1 ≡ secrets t.1 t.1 0 → Passes s t

passes : (s : Secrets) (t : Time) → Passes s t
passes s t = elim (cases_Bool (nat_lt (s.age + t.0) 120000)) [
  | inl low ↦ young (ltb-true (s.age + t.0) 120000 low) (rw low refl)
  | inr high ↦ elim (cases_Bool (nat_lt (s.age + t.0) 240000)) [
    | inl low ↦ old (ltb-false (s.age + t.0) 120000 high) (ltb-true (s.age + t.0) 240000 low) (rw (high, low) refl)
    | inr more ↦ gone (ltb-false (s.age + t.0) 240000 more) (rw (high, more) refl)
  ]
]

-- ---- what is left of the secrets

record Leaves (s : Secrets) (ts : List Time) (z : Secrets) : Type 0 where
  -- none is replaced before its time
  early : s.age + millis_of ts < 120000 → (z.current ≡ s.current) × (z.former ≡ s.former)
  known : s.age + millis_of ts < 240000 → (s.current ≡ z.current) ⊎ (s.current ≡ z.former)
  current : (z.current ≡ s.current) ⊎ IsFresh ts z.current
  former : (z.former ≡ s.former) ⊎ ((z.former ≡ s.current) ⊎ IsFresh ts z.former)
  later : 120000 ≤ s.age + millis_of ts → IsFresh ts z.current × ((z.former ≡ s.current) ⊎ IsFresh ts z.former)
  late : 240000 ≤ s.age + millis_of ts → IsFresh ts z.current × IsFresh ts z.former

none_left : (s : Secrets) → s.age < 120000 → Leaves s [] s
none_left s low = record {
  early = λ h. (refl, refl);
  known = λ h. inl refl;
  current = inl refl;
  former = inl refl;
  later = λ h. absurd (omega (arith, low, h));
  late = λ h. absurd (omega (arith, low, h));
}

module _ (s : Secrets) (t : Time) (ts : List Time) (z : Secrets) where
  or_more : (c x : List ℕ) → (x ≡ c) ⊎ IsFresh ts x → (x ≡ c) ⊎ IsFresh (t ∷ ts) x
  or_more c x (inl e) = inl e
  or_more c x (inr f) = inr (inr f)

  or_both : (b c x : List ℕ) → (x ≡ b) ⊎ ((x ≡ c) ⊎ IsFresh ts x) → (x ≡ b) ⊎ ((x ≡ c) ⊎ IsFresh (t ∷ ts) x)
  or_both b c x (inl e) = inl e
  or_both b c x (inr h) = inr (or_more c x h)

  young_left : s.age + t.0 < 120000 → Leaves (secrets s.current s.former (s.age + t.0)) ts z → Leaves s (t ∷ ts) z
  young_left low l = record {
    early = λ h. l.early (omega (arith, h));
    known = λ h. l.known (omega (arith, h));
    current = or_more s.current z.current l.current;
    former = or_both s.former s.current z.former l.former;
    later = λ h. let r = l.later (omega (arith, h)) in (inr r.0, or_more s.current z.former r.1);
    late = λ h. let r = l.late (omega (arith, h)) in (inr r.0, inr r.1);
  }

  -- the former one is the one that was current, or fresh
  old_former : (z.former ≡ s.current) ⊎ ((z.former ≡ t.1) ⊎ IsFresh ts z.former) → (z.former ≡ s.current) ⊎ IsFresh (t ∷ ts) z.former
  old_former (inl e) = inl e
  old_former (inr f) = inr f

  old_left : 120000 ≤ s.age + t.0 → s.age + t.0 < 240000 → Leaves (secrets t.1 s.current (s.age + t.0 - 120000)) ts z → Leaves s (t ∷ ts) z
  old_left high low l = record {
    early = λ h. absurd (omega (arith, high, h));
    known = λ h. inr (sym (l.early (omega (arith, h, high))).1);
    current = inr l.current;
    former = inr (old_former l.former);
    later = λ h. (l.current, old_former l.former);
    late = λ h. let r = l.later (omega (arith, h, high)) in (inr r.0, r.1);
  }

  gone_former : (z.former ≡ t.1) ⊎ ((z.former ≡ t.1) ⊎ IsFresh ts z.former) → IsFresh (t ∷ ts) z.former
  gone_former (inl e) = inl e
  gone_former (inr f) = f

  gone_left : 240000 ≤ s.age + t.0 → Leaves (secrets t.1 t.1 0) ts z → Leaves s (t ∷ ts) z
  gone_left high l = record {
    early = λ h. absurd (omega (arith, high, h));
    known = λ h. absurd (omega (arith, high, h));
    current = inr l.current;
    former = inr (inr (gone_former l.former));
    later = λ h. (l.current, inr (gone_former l.former));
    late = λ h. (l.current, gone_former l.former);
  }

left : (s : Secrets) (ts : List Time) → s.age < 120000 → Leaves s ts (all_passed s ts)
left s [] low = none_left s low
left s (t ∷ ts) low = by (passes s t) (λ p small. left p ts small)
  where
    by : Passes s t → ((p : Secrets) → p.age < 120000 → Leaves p ts (all_passed p ts)) → Leaves s (t ∷ ts) (all_passed (passed s t.0 t.1) ts)
    by (young h e) later = subst (λ (p : Secrets). Leaves s (t ∷ ts) (all_passed p ts)) (sym e) (young_left s t ts _ h (later (secrets s.current s.former (s.age + t.0)) h))
    by (old h k e) later = subst (λ (p : Secrets). Leaves s (t ∷ ts) (all_passed p ts)) (sym e) (old_left s t ts _ h k (later (secrets t.1 s.current (s.age + t.0 - 120000)) (omega (arith, h, k))))
    by (gone h e) later = subst (λ (p : Secrets). Leaves s (t ∷ ts) (all_passed p ts)) (sym e) (gone_left s t ts _ h (later (secrets t.1 t.1 0) (omega arith)))

pub secrets_change : SecretsChange
secrets_change s ts low =
    let l = left s ts low in
    (λ h. l.known (omega (arith, h, low)), λ h. l.late (omega (arith, h)))
