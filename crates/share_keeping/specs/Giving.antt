-- The pieces that are sent at a rest.
use Rattle.std.specs.Prelude.{ℕ, zero, suc, ◌++◌, List, [], Option, None, Some}
use Rattle.std.specs.List.{flat_map}
use Rattle.share_core.specs.Pieces.{piece_of}
use Rattle.share_turns.specs.Exchanges.{sent_to}
use Rattle.share_turns.specs.HostTurn.{datagrams_of, listed}
use Rattle.share_turns.specs.declared.traffic.Traffic.{Traffic}
use Rattle.share_keeping.specs.declared.joiners.Joiner.{Joiner}
use Rattle.share_keeping.specs.Joiners.{in_a_row, piece_after}
use Rattle.share_keeping.specs.Shots.{ShotView, pieces_in}

-- the datagram of a piece, by its number, if there is such a piece
abbrev pub piece_text : (mark bytes : List ℕ) → (number : ℕ) → List (List ℕ)
piece_text mark bytes number = datagrams_of mark (listed (piece_of bytes number))

-- the datagrams of the next n pieces after the first `next`, in order, round and round
abbrev pub texts_from : (mark : List ℕ) → ShotView → (next n : ℕ) → List (List ℕ)
texts_from mark s next zero = []
texts_from mark s next (suc n) =
    texts_from mark s next n ++ piece_text mark s.bytes (piece_after (pieces_in s.bytes) next n)

abbrev pub texts_for : (mark : List ℕ) → ShotView → Joiner → List (List ℕ)
texts_for mark s j = texts_from mark s j.next (in_a_row (pieces_in s.bytes))

-- what a seat gets at a rest
abbrev pub given_to : (mark : List ℕ) → ShotView → Option Joiner → List Traffic
given_to mark s None = []
given_to mark s (Some j) = sent_to j.peer (texts_for mark s j)

-- what all that join get at a rest, seat by seat
abbrev pub given : (mark : List ℕ) → ShotView → List (Option Joiner) → List Traffic
given mark s js = flat_map (given_to mark s) js
