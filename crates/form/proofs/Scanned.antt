-- The scan follows the reading.
use Rattle.std.proofs.Common.{◌≡◌, ℕ, suc, ◌-◌, Bool, true, false, cond, ◌&&◌, eqb, ltb, List, [], ◌∷◌, length, take, drop, fold, is_some, Some, None, Ok, Err, Option, Result, sym, refl, ap, ◌∙◌, arith}
use Rattle.std.specs.List.{list_all}
use Rattle.std.specs.Option.{option_and_then}
use Rattle.std.proofs.lemmas.Bool.{cond-false, ne_eqb}
use Rattle.std.proofs.lemmas.List.{take-append-drop}
use Rattle.std.proofs.lemmas.List.Recursion.{same_from_clauses}
use Rattle.std.proofs.lemmas.List.Sums.{fold-append}
use Rattle.form.specs.declared.fault.Fault.{Fault}
use Rattle.form.specs.declared.fault.Fault.TheVariants.{Byte, Shape}
use Rattle.form.specs.declared.scan.Scan.{Scan}
use Rattle.form.specs.declared.scan.Scan.TheVariants.{Opened, After, Done}
use Rattle.form.specs.Checking.{checked}
use Rattle.form.specs.Forms.{Parts, none, number, letter}
use Rattle.form.specs.Reading.{with, Frame, State, start, heading, gap, counting, after, done, bad, digit, closed, ended, step, made, form_of}
use Rattle.form.specs.Scanning.{stopped, moved, named, viewed}
use Rattle.form.specs.Viewing.{plain, printed}

cond_like : (b : Bool) (u v : State) (x y : Option Scan) → viewed u ≡ x → viewed v ≡ y → viewed (cond b u v) ≡ cond b x y
cond_like true u v x y p q = p
cond_like false u v x y p q = q

closed_viewed : (fs : List Frame) (h : List ℕ) (ps : Parts) → viewed (closed fs h ps) ≡ cond (eqb (length fs) 0) (Some Done) (Some (After (length fs - 1)))
closed_viewed [] h ps = refl
closed_viewed (f ∷ fs) h ps =
    ap (λ n. Some (After n)) (omega arith) ∙ sym (cond-false (eqb (suc (length fs)) 0) (Some Done) (Some (After (suc (length fs) - 1))) (ne_eqb _ _ (λ e. omega arith)))

ended_viewed : (b : ℕ) (fs : List Frame) (h : List ℕ) (ps : Parts) → viewed (ended b fs h ps) ≡ stopped (length fs) b
ended_viewed b fs h ps = cond_like (eqb b 32) _ _ _ _ refl (cond_like (eqb b 41) _ _ _ _ (closed_viewed fs h ps) refl)

heading_viewed : (fs : List Frame) (h : List ℕ) (b : ℕ) → viewed (step (heading fs h) b) ≡ moved (named h (length fs)) b
heading_viewed fs [] b = cond_like (letter b) _ _ _ _ refl refl
heading_viewed fs (x ∷ h) b = cond_like (letter b) _ _ _ _ refl (ended_viewed b fs (x ∷ h) none)

pub step_viewed : (s : State) (b : ℕ) → viewed (step s b) ≡ option_and_then (λ c. moved c b) (viewed s)
step_viewed start b = cond_like (eqb b 40) _ _ _ _ refl refl
step_viewed (heading fs h) b = heading_viewed fs h b
step_viewed (gap fs h ps) b =
    cond_like (digit b) _ _ _ _ refl (cond_like (eqb b 40 && ltb (length fs) 15) _ _ _ _ (ap (λ n. Some (Opened n)) (omega arith)) refl)
step_viewed (counting fs h ps n) b =
    cond_like (digit b && (ltb 0 n && ltb n 100000)) _ _ _ _ refl (ended_viewed b fs h (with ps (number n none)))
step_viewed (after fs h ps) b = ended_viewed b fs h ps
step_viewed (done h ps) b = refl
step_viewed bad b = refl

-- a scan that went wrong stays so
stuck : (s : State) (bs : List ℕ) → viewed s ≡ None → viewed (fold step s bs) ≡ None
stuck s [] e = e
stuck s (b ∷ bs) e = stuck (step s b) bs (step_viewed s b ∙ ap (option_and_then (λ c. moved c b)) e)

nothing_made : (s : State) → viewed s ≡ None → is_some (made s) ≡ false
nothing_made start e = refl
nothing_made (heading fs h) e = refl
nothing_made (gap fs h ps) e = refl
nothing_made (counting fs h ps n) e = refl
nothing_made (after fs h ps) e = refl
nothing_made (done h ps) e = let z : ◌≡◌ {A = ℕ} 0 1 = cc in let w : ⊥ = omega arith in absurd w
nothing_made bad e = refl

-- where it goes wrong anywhere, the text is no form
pub wrong_is : (t : List ℕ) (i : ℕ) → viewed (fold step start (take i t)) ≡ None → is_some (form_of t) ≡ false
wrong_is t i e =
    nothing_made (fold step start t)
    (ap viewed (ap (fold step start) (sym (take-append-drop i t)) ∙ fold-append step start (take i t) (drop i t))
    ∙ stuck (fold step start (take i t)) (drop i t) e)

told_wrong : (p s : Bool) → s ≡ false → ◌≡◌ {A = Result (Unit {0}) Fault} (Err (cond p Shape Byte)) (cond p (cond s (Ok tt) (Err Shape)) (Err Byte))
told_wrong true s e = sym (cond-false s _ _ e)
told_wrong false s e = refl

-- and what is then answered is what the check is to answer
pub wrong_told : (t : List ℕ) (f : Fault) → is_some (form_of t) ≡ false → f ≡ cond (plain t) Shape Byte → ◌≡◌ {A = Result (Unit {0}) Fault} (Err f) (checked t)
wrong_told t f wrong e = ap Err e ∙ told_wrong (plain t) (is_some (form_of t)) wrong

-- the bytes one by one, as a test of each
pub plain_all : (t : List ℕ) → list_all printed t ≡ plain t
plain_all t = same_from_clauses (list_all printed) plain (λ b r. printed b && r) refl (λ _ _. refl) (λ b r. and_is (printed b) (plain r)) t where
  and_is : (p q : Bool) → cond p q false ≡ (p && q)
  and_is true q = refl
  and_is false q = refl
