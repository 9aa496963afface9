-- What an answer of the check says of the text.
use Rattle.std.proofs.Common.{◌≡◌, ℕ, Bool, true, false, cond, List, is_some, Some, None, Ok, Err, Option, Result, refl, arith}
use Rattle.form.specs.declared.fault.Fault.{Fault}
use Rattle.form.specs.declared.fault.Fault.TheVariants.{Byte, Shape}
use Rattle.form.specs.Reading.{form_of}
use Rattle.form.specs.Viewing.{plain, Reads}
use Rattle.form.specs.Checking.{checked}

-- the answer by the two tests
abbrev answer : Bool → Bool → Result (Unit {0}) Fault
answer p q = cond p (cond q (Ok tt) (Err Shape)) (Err Byte)

both : (p q : Bool) (u : Unit {0}) → answer p q ≡ Ok u → (p ≡ true) × (q ≡ true)
both true true u e = (refl, refl)
both true false u e = let z : ◌≡◌ {A = ℕ} 0 1 = cc in absurd (omega arith)
both false q u e = let z : ◌≡◌ {A = ℕ} 0 1 = cc in absurd (omega arith)

byte_told : (p q : Bool) → answer p q ≡ Err Byte → p ≡ false
byte_told true true e = let z : ◌≡◌ {A = ℕ} 0 1 = cc in absurd (omega arith)
byte_told true false e = let z : ◌≡◌ {A = ℕ} 0 1 = cc in absurd (omega arith)
byte_told false q e = refl

shape_told : (p q : Bool) → answer p q ≡ Err Shape → (p ≡ true) × (q ≡ false)
shape_told true true e = let z : ◌≡◌ {A = ℕ} 0 1 = cc in absurd (omega arith)
shape_told true false e = (refl, refl)
shape_told false q e = let z : ◌≡◌ {A = ℕ} 0 1 = cc in absurd (omega arith)

none_of : {X : Type 0} (o : Option X) → is_some o ≡ false → o ≡ None
none_of (Some x) e = let z : ◌≡◌ {A = ℕ} 0 1 = cc in absurd (omega arith)
none_of None e = refl

pub checked_ok : (t : List ℕ) (u : Unit {0}) → checked t ≡ Ok u → (plain t ≡ true) × (is_some (form_of t) ≡ true)
checked_ok t u e = both (plain t) (is_some (form_of t)) u e

pub checked_err : (t : List ℕ) (f : Fault) → checked t ≡ Err f → Reads t (Err f)
checked_err t Byte e = byte_told (plain t) (is_some (form_of t)) e
checked_err t Shape e = let p = shape_told (plain t) (is_some (form_of t)) e in (p.0, none_of (form_of t) p.1)
