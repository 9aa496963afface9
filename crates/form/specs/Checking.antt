-- What a check of a line answers.
use Rattle.std.specs.Prelude.{ℕ, cond, List, is_some, Ok, Err, Result}
use Rattle.form.specs.Reading.{form_of}
use Rattle.form.specs.Viewing.{plain}
use Rattle.form.specs.declared.fault.Fault.{Fault}
use Rattle.form.specs.declared.fault.Fault.TheVariants.{Byte, Shape}

-- the bytes are asked first, then the shape
abbrev pub checked : List ℕ → Result (Unit {0}) Fault
checked t = cond (plain t) (cond (is_some (form_of t)) (Ok tt) (Err Shape)) (Err Byte)
