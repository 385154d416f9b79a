-- How deep nodes may nest, and where declarations and `IS` may appear (ISO/IEC 19776-2, grammar).
use Rattle.std.specs.Prelude.{ℕ, Bool, true, false, List, codes}
use Rattle.std.specs.Str.{bytes_eq}
use Rattle.classic_rules.specs.declared.declared.DeclaredIn.{DeclaredIn}
use Rattle.classic_rules.specs.declared.declared.DeclaredIn.TheVariants.{Script, Interface}

-- `IS name` may appear in the declarations of a Script, not in an interface
abbrev pub takes_is : DeclaredIn → Bool
takes_is Script = true
takes_is Interface = false

-- fields are declared only in the body of a Script
unfoldable pub is_script : List ℕ → Bool
is_script word = bytes_eq word (codes "Script")
