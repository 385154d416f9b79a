-- A text with zeros after it is a name.
use Rattle.std.proofs.Common.{◌≡◌, ℕ, zero, suc, ◌-◌, true, leb, List, ◌++◌, length, replicate, refl, ap, ◌∙◌}
use Rattle.std.specs.List.{list_all}
use Rattle.std.proofs.lemmas.List.{take_at, drop_at}
use Rattle.byte_codec.proofs.Laws.{and_true}
use Rattle.share_session.specs.Names.{is_name_byte, is_zero_byte, is_name}

zeros : (n : ℕ) → list_all is_zero_byte (replicate n 0) ≡ true
zeros zero = refl
zeros (suc n) = zeros n

pub named : (text : List ℕ) → leb (length text) 64 ≡ true → list_all is_name_byte text ≡ true → is_name (length text) (text ++ replicate (64 - length text) 0) ≡ true
named text short fine =
    let pad : List ℕ = replicate (64 - length text) 0 in
    and_true _ _ short (and_true _ _
    (ap (λ (l : List ℕ). list_all is_name_byte l) (take_at text pad (length text) refl) ∙ fine)
    (ap (λ (l : List ℕ). list_all is_zero_byte l) (drop_at text pad (length text) refl) ∙ zeros (64 - length text)))
