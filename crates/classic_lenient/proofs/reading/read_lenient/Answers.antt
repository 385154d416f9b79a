use Rattle.std.proofs.Common.{◌≡◌, ◌⊎◌, ℕ, List, true, false, Result, Ok, Err, IfOk, IfErr, inl, inr, sym, ap, ◌∙◌}
use Rattle.classic_text.specs.Reading.{memory, read_text}
use Rattle.classic_text.specs.declared.fault.ReadFault.{ReadFault}
use Rattle.classic_lenient.specs.Lenient.{IsLenient, IsMended, IsUnmended, IsUnreadable, says_memory}
use Rattle.classic_lenient.specs.VrmlHeader.{as_x3d}
use Rattle.classic_lenient.specs.declared.reading.Lenient.{Lenient}
use Rattle.classic_lenient.proofs.reading.read_lenient.Goals as goal

first : (text : List ℕ) (fault : ReadFault) → (fault ≡ memory) ⊎ (read_text text ≡ Err fault) → says_memory fault.kind ≡ false → read_text text ≡ Err fault
first text fault (inl is) other = absurd (differ (sym (ap (λ f. says_memory f.kind) is) ∙ other))
  where
    differ : true ≡ false → ⊥
    differ e = cc
first text fault (inr told) other = told

taken : (text : List ℕ) (fault : ReadFault) (r : Result Lenient ReadFault) → read_text text ≡ Err fault → IfOk r (IsMended (as_x3d text)) → IfOk r (IsLenient text)
taken text fault (Ok made) told mended = inr (fault, told, mended)
taken text fault (Err e) told mended = tt

refused : (text : List ℕ) (fault : ReadFault) (r : Result Lenient ReadFault) → read_text text ≡ Err fault → IfErr r (λ f. (f ≡ memory) ⊎ IsUnmended (as_x3d text) f) → IfErr r (λ f. (f ≡ memory) ⊎ IsUnreadable text f)
refused text fault (Ok made) told why = tt
refused text fault (Err e) told (inl is) = inl is
refused text fault (Err e) told (inr why) = inr (fault, told, why)

pub returns-else-is_memory-clause-read : goal.returns-else-is_memory-clause-read
returns-else-is_memory-clause-read c =
    let told : read_text c.args.text.now ≡ Err c.in-Err.fault = first c.args.text.now c.in-Err.fault c.in-Err.ensures.exact (sym c.is_memory.ensures ∙ c.if-is_memory.false) in
    taken c.args.text.now c.in-Err.fault c.mended_text.result told c.mended_text.ensures.read

pub returns-else-is_memory-clause-refused : goal.returns-else-is_memory-clause-refused
returns-else-is_memory-clause-refused c =
    let told : read_text c.args.text.now ≡ Err c.in-Err.fault = first c.args.text.now c.in-Err.fault c.in-Err.ensures.exact (sym c.is_memory.ensures ∙ c.if-is_memory.false) in
    refused c.args.text.now c.in-Err.fault c.mended_text.result told c.mended_text.ensures.refused
