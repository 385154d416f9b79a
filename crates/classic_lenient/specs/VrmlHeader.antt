-- The header of VRML 97 (ISO/IEC 14772-1, 5.2.2), which is read as that of X3D 3.0 (our choice).
use Rattle.std.specs.Prelude.{ℕ, ◌+◌, List, ◌++◌, take, drop, nat_eq, codes, if◌then◌else◌}
use Rattle.std.specs.List.{starts_with}
use Rattle.classic_lex.specs.Header.{mark_len}

-- the header of X3D 3.0 and a space have as many bytes as that of VRML 97
unfoldable pub relabelled : ℕ → List ℕ → List ℕ
relabelled mark text = take mark text ++ codes "#X3D V3.0 utf8 " ++ drop (mark + 15) text

abbrev pub as_x3d : List ℕ → List ℕ
as_x3d text =
    if starts_with nat_eq (drop (mark_len text) text) (codes "#VRML V2.0 utf8")
    then relabelled (mark_len text) text
    else text
