-- A request of parts that are its parts.
use Rattle.std.proofs.Common.{◌≡◌, ℕ, List, [], ◌++◌, ◌∙◌, append_assoc, refl}
use Rattle.std.proofs.lemmas.List.{append-nil}
use Rattle.share_etcd.specs.Requests.{joined, guarded, three}

pub same_transaction : (a b c d p q r s : List ℕ) → a ≡ p → b ≡ q → c ≡ r → d ≡ s → guarded (joined a b) (joined c d) ≡ guarded (joined p q) (joined r s)
same_transaction a b c d p q r s e f g h = rw (e, f, g, h) refl

pub same_three : (a b c p q r : List ℕ) → a ≡ p → b ≡ q → c ≡ r → three a b c ≡ three p q r
same_three a b c p q r e f g = rw (e, f, g) refl

-- ---- what was appended piece by piece

pub five_pieces : (out old front x middle y back p q : List ℕ) → out ≡ old ++ (front ++ (x ++ (middle ++ (y ++ (back ++ []))))) → old ≡ [] → x ≡ p → y ≡ q → out ≡ front ++ p ++ middle ++ q ++ back
five_pieces out old front x middle y back p q e o f g = e ∙ rw (o, f, g) (simp (append_assoc, append-nil))

pub three_pieces : (out old x middle y p q : List ℕ) → out ≡ old ++ (x ++ (middle ++ (y ++ []))) → old ≡ [] → x ≡ p → y ≡ q → out ≡ p ++ middle ++ q
three_pieces out old x middle y p q e o f g = e ∙ rw (o, f, g) (simp (append_assoc, append-nil))
