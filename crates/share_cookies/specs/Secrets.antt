-- The secrets that cookies are made by, and how long one is known (our choice).
use Rattle.std.specs.Prelude.{◌≡◌, ◌<◌, ◌≤◌, ◌⊎◌, ℕ, ◌+◌, ◌*◌, ◌-◌, List, [], ◌∷◌}
use Rattle.std.specs.Prelude.{Bool, nat_le, nat_lt, if◌then◌else◌}
use Rattle.share_cookies.specs.Cookies.{cookie_of}
use Rattle.share_cookies.specs.declared.secrets.Secrets.{Secrets}

-- two minutes, in milliseconds
abbrev pub period : ℕ
period = 120000

abbrev pub begun : (first : List ℕ) → Secrets
begun first = record { current = first; former = first; age = 0 }

-- a cookie is known by the current secret or the one before it
abbrev pub IsKnown : Secrets → (cookie address : List ℕ) → (port who : ℕ) → Type 0
IsKnown s cookie address port who =
    (cookie ≡ cookie_of s.current address port who) ⊎ (cookie ≡ cookie_of s.former address port who)

-- a fresh secret is due once the current one is two minutes old
abbrev pub is_due : Secrets → (millis : ℕ) → Bool
is_due s millis = nat_le period (s.age + millis)

-- once the current secret is two minutes old, a fresh one replaces it; if four minutes have passed,
-- a fresh one replaces both
abbrev pub at_age : Secrets → (age : ℕ) → (fresh : List ℕ) → Secrets
at_age s age fresh =
    if nat_lt age period then record { current = s.current; former = s.former; age = age }
    else if nat_lt age (2 * period)
    then record { current = fresh; former = s.current; age = age - period }
    else record { current = fresh; former = fresh; age = 0 }

abbrev pub passed : Secrets → (millis : ℕ) → (fresh : List ℕ) → Secrets
passed s millis fresh = at_age s (s.age + millis) fresh

-- ---- times one after another, each with the secret that was fresh at its end

abbrev pub Time : Type 0
Time = ℕ × List ℕ

abbrev pub all_passed : Secrets → List Time → Secrets
all_passed s [] = s
all_passed s (t ∷ ts) = all_passed (passed s t.0 t.1) ts

abbrev pub millis_of : List Time → ℕ
millis_of [] = 0
millis_of (t ∷ ts) = t.0 + millis_of ts

abbrev pub IsFresh : List Time → (secret : List ℕ) → Type 0
IsFresh [] secret = ⊥
IsFresh (t ∷ ts) secret = (secret ≡ t.1) ⊎ IsFresh ts secret

-- For two minutes a cookie is known, whatever times pass one after another; after four minutes only
-- secrets that were fresh since make cookies that are known.
abbrev pub SecretsChange : Type 0
SecretsChange =
    (s : Secrets) (ts : List Time) → s.age < period
    → (millis_of ts < period
    → (s.current ≡ (all_passed s ts).current) ⊎ (s.current ≡ (all_passed s ts).former))
    × (2 * period ≤ millis_of ts
    → IsFresh ts (all_passed s ts).current × IsFresh ts (all_passed s ts).former)
