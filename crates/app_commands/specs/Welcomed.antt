-- How a viewer meets its host (our choice).
use Rattle.std.specs.Prelude.{◌≡◌, ℕ, ◌-◌, Bool, true, List, Option, None, Some, nat_le}
use Rattle.share_session.specs.declared.message.Hello.{Hello}
use Rattle.share_session.specs.Welcomes.{answers}
use Rattle.share_runs.specs.Greetings.{next_nonce}
use Rattle.app_commands.specs.declared.welcomed.Meeting.{Meeting}
use Rattle.app_commands.specs.declared.welcomed.Met.{Met}

-- a viewer that began at one time doesn't try again at another one; nor if the clock fails
abbrev pub is_late : (most : ℕ) → (began now : Option ℕ) → Bool
is_late most None now = true
is_late most (Some began) None = true
is_late most (Some began) (Some now) = nat_le most (now - began)

abbrev pub with_nonce : Hello → (nonce : List ℕ) → Hello
with_nonce h nonce = record h { nonce = nonce }

-- the Hello with the next nonce
abbrev pub again : Hello → (seed : List ℕ) → Hello
again h seed = with_nonce h (next_nonce seed h.nonce)

-- a Welcome answers a Hello of the viewer; only its nonce may be another than that of the first one
pub record IsMet (meeting : Meeting) (m : Met) : Type 0 where
  pub answered : answers m.hello m.welcome ≡ true
  pub same : m.hello ≡ with_nonce meeting.hello m.hello.nonce
