use Rattle.std.proofs.Common.{inl, refl}
use Rattle.app_program.proofs.Made.{on_written, if_refused, if_nothing}
use Rattle.app_program.proofs.format.format_text.Goals as goal

pub returns-clause-ok : goal.returns-clause-ok
returns-clause-ok g c =
    on_written (λ v. v.items) c.read_text.result c.write_made.result _ _ _ _ c.write_made.ensures c.read_text.ensures.text
    (λ v made took. record {
      document = made.0;
      read = made.1;
      written = rw made.2 at took;
      again = made.3;
    })

pub returns-clause-refused : goal.returns-clause-refused
returns-clause-refused g c =
    if_refused (λ v. v.items) c.read_text.result c.write_made.result _ _ _ c.write_made.ensures c.read_text.ensures.refused (inl (inl refl))

pub returns-clause-nothing : goal.returns-clause-nothing
returns-clause-nothing g c =
    if_nothing (λ v. v.items) c.read_text.result c.write_made.result _ _ _ _ c.write_made.ensures c.read_text.ensures.text (λ v made. (made.0, made.1))
