-- What holds of datagrams of version 2.
use Rattle.std.specs.Prelude.{◌≡◌, ◌<◌, ◌⊎◌, ℕ, List, true, Some, length}
use Rattle.share_wire.specs.declared.message.Message.{Message}
use Rattle.share_entries.specs.Chain.{Collide}
use Rattle.share_session.specs.declared.message.Body2.{Body2}
use Rattle.share_session.specs.declared.message.Hello.{Hello as AHello}
use Rattle.share_session.specs.declared.message.Welcome.{Welcome as AWelcome}
use Rattle.share_session.specs.declared.message.Message2.TheVariants.{Said, Hello, Welcome}
use Rattle.share_session.specs.Runs.{session_of}
use Rattle.share_session.specs.Datagram.{datagram, message_fits, body_fits}
use Rattle.share_session.specs.Heard.{heard}

-- what a peer of one run hears was said in that run of that scene, or two texts collide
abbrev pub HearsItsRun : Type 0
HearsItsRun =
    (mark other_mark run other : List ℕ) → length mark ≡ 32 → length other_mark ≡ 32
    → (body : Body2) (m : Message)
    → heard (session_of mark run) mark (Said (session_of other_mark other) body) ≡ Some m
    → ((mark ≡ other_mark) × (run ≡ other)) ⊎ Collide

-- no datagram is of two runs, or two texts collide
abbrev pub DatagramsTell : Type 0
DatagramsTell =
    (mark other_mark run other : List ℕ) → length mark ≡ 32 → length other_mark ≡ 32
    → (body other_body : Body2) → body_fits body ≡ true → body_fits other_body ≡ true
    → datagram (Said (session_of mark run) body)
    ≡ datagram (Said (session_of other_mark other) other_body)
    → ((mark ≡ other_mark) × (run ≡ other)) ⊎ Collide

-- a Welcome has fewer bytes than any Hello
abbrev pub WelcomesAreShorter : Type 0
WelcomesAreShorter =
    (h : AHello) (w : AWelcome)
    → message_fits (Hello h) ≡ true → message_fits (Welcome w) ≡ true
    → length (datagram (Welcome w)) < length (datagram (Hello h))
