-- Spaces for the statements that are left out, so that all else keeps its place and its line.
use Rattle.std.specs.Prelude.{ℕ, List, ◌++◌, map, length, take, drop, ◌==◌, slice_range, if◌then◌else◌}
use Rattle.std.specs.List.{fold}
use Rattle.classic_lenient.specs.declared.scan.Unread.{Unread}
use Rattle.classic_lenient.specs.Pieces.{is_place}

-- a line end stays
abbrev pub spaced : ℕ → ℕ
spaced b = if b == 10 then 10 else 32

abbrev pub blank : List ℕ → Unread → List ℕ
blank text u =
    if is_place (length text) u.start u.end
    then take u.start text ++ map spaced (slice_range text u.start u.end) ++ drop u.end text
    else text

abbrev pub blanked : List ℕ → List Unread → List ℕ
blanked text unread = fold blank text unread
