-- Which Welcome answers a Hello.
use Rattle.std.specs.Prelude.{◌&&◌, ◌==◌, Bool, nat_eq}
use Rattle.std.specs.Cmp.Lexicographic.{pointwise}
use Rattle.share_session.specs.declared.message.Hello.{Hello}
use Rattle.share_session.specs.declared.message.Welcome.{Welcome}

-- it has the Hello's nonce, mark and viewer
abbrev pub answers : Hello → Welcome → Bool
answers h w =
    pointwise nat_eq w.nonce h.nonce && (pointwise nat_eq w.mark h.mark && (w.who == h.who))
