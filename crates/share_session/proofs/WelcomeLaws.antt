-- A Welcome with a Hello's nonce, mark and viewer answers it.
use Rattle.std.proofs.Common.{◌≡◌, true, eq-eqb}
use Rattle.std.specs.Cmp.Lexicographic.{bytes_decides}
use Rattle.byte_codec.proofs.Laws.{and_true}
use Rattle.share_session.specs.declared.message.Hello.{Hello}
use Rattle.share_session.specs.declared.message.Welcome.{Welcome}
use Rattle.share_session.specs.Welcomes.{answers}

pub answers_it : (h : Hello) (w : Welcome) → w.nonce ≡ h.nonce → w.mark ≡ h.mark → w.who ≡ h.who → answers h w ≡ true
answers_it h w nonce mark who =
    and_true _ _ ((bytes_decides w.nonce h.nonce).1 nonce) (and_true _ _ ((bytes_decides w.mark h.mark).1 mark) (eq-eqb w.who h.who who))
