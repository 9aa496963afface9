-- The temporal operators of a formula, and its bits of the end forecast, from its list of operators.
use Rattle.std.proofs.Common.{◌≡◌, ℕ, ◌+◌, ◌^◌, ◌<◌, ◌≤◌, Bool, true, false, List, [], ◌∷◌, ◌++◌, length, Some, sym, refl, ap, ◌∙◌, append_assoc, arith, pow_mono}
use Rattle.ltlf.specs.Ltlf.{Ltlf}
use Rattle.ltlf.specs.Bits.{number}
use Rattle.ltlf.specs.Forecasts.{temporal, end_bits, ending}
use Rattle.ltlf.specs.declared.operator.Operator.{Operator}
use Rattle.ltlf.specs.declared.operator.Operator.TheVariants.{True, Mark, Not, And, Or, Next, Weak, Until, Eventually, Always}
use Rattle.ltlf.specs.Operators.{is_temporal}
use Rattle.ltlf.specs.Prefix.{formula, temporals}
use Rattle.ltlf.specs.Grammar.{Writes, is_true, is_mark, is_not, is_and, is_or, is_next, is_weak, is_until, is_eventually, is_always}
use Rattle.ltlf.proofs.Packs.{number_lt}
use Rattle.ltlf.proofs.Reading.{reads_grammar}

pub temporals_append : (os ps : List Operator) → temporals (os ++ ps) ≡ temporals os + temporals ps
temporals_append [] ps = omega arith
temporals_append (o ∷ os) ps = omega (arith, temporals_append os ps)

temporals_written : {os : List Operator} {f : Ltlf} → Writes os f → temporal f ≡ temporals os
temporals_written is_true = refl
temporals_written (is_mark m) = refl
temporals_written (is_not w) = omega (arith, temporals_written w)
temporals_written (is_and {os} {ps} w v) = omega (arith, temporals_append os ps, temporals_written w, temporals_written v)
temporals_written (is_or {os} {ps} w v) = omega (arith, temporals_append os ps, temporals_written w, temporals_written v)
temporals_written (is_next w) = omega (arith, temporals_written w)
temporals_written (is_weak w) = omega (arith, temporals_written w)
temporals_written (is_until {os} {ps} w v) = omega (arith, temporals_append os ps, temporals_written w, temporals_written v)
temporals_written (is_eventually w) = omega (arith, temporals_written w)
temporals_written (is_always w) = omega (arith, temporals_written w)

pub temporals_formula : (os : List Operator) (f : Ltlf) → formula os ≡ Some f → temporal f ≡ temporals os
temporals_formula os f e = temporals_written ((reads_grammar os f).0 e)

-- the bit of an operator in the end forecast, if it has one
abbrev pub end_bit : Operator → List Bool
end_bit True = []
end_bit (Mark m) = []
end_bit Not = []
end_bit And = []
end_bit Or = []
end_bit Next = false ∷ []
end_bit Weak = true ∷ []
end_bit Until = false ∷ []
end_bit Eventually = false ∷ []
end_bit Always = false ∷ []

abbrev pub ends_of : List Operator → List Bool
ends_of [] = []
ends_of (o ∷ os) = end_bit o ++ ends_of os

ends_append : (os ps : List Operator) → ends_of (os ++ ps) ≡ ends_of os ++ ends_of ps
ends_append [] ps = refl
ends_append (o ∷ os) ps = ap (λ x. end_bit o ++ x) (ends_append os ps) ∙ sym (append_assoc (end_bit o) (ends_of os) (ends_of ps))

ends_two : (os ps : List Operator) (bs cs : List Bool) → bs ≡ ends_of os → cs ≡ ends_of ps → bs ++ cs ≡ ends_of (os ++ ps)
ends_two os ps bs cs e d = ap (λ x. x ++ cs) e ∙ (ap (λ x. ends_of os ++ x) d ∙ sym (ends_append os ps))

ends_written : {os : List Operator} {f : Ltlf} → Writes os f → end_bits f ≡ ends_of os
ends_written is_true = refl
ends_written (is_mark m) = refl
ends_written (is_not w) = ends_written w
ends_written (is_and {os} {ps} w v) = ends_two os ps _ _ (ends_written w) (ends_written v)
ends_written (is_or {os} {ps} w v) = ends_two os ps _ _ (ends_written w) (ends_written v)
ends_written (is_next w) = ap (λ x. false ∷ x) (ends_written w)
ends_written (is_weak w) = ap (λ x. true ∷ x) (ends_written w)
ends_written (is_until {os} {ps} w v) = ap (λ x. false ∷ x) (ends_two os ps _ _ (ends_written w) (ends_written v))
ends_written (is_eventually w) = ap (λ x. false ∷ x) (ends_written w)
ends_written (is_always w) = ap (λ x. false ∷ x) (ends_written w)

pub ends_formula : (os : List Operator) (f : Ltlf) → formula os ≡ Some f → number (ends_of os) ≡ ending f
ends_formula os f e = ap number (sym (ends_written ((reads_grammar os f).0 e)))

bit_length : (o : Operator) (bs : List Bool) (n : ℕ) → length bs ≡ n → length (end_bit o ++ bs) ≡ temporals (o ∷ []) + n
bit_length True bs n e = omega arith
bit_length (Mark m) bs n e = omega arith
bit_length Not bs n e = omega arith
bit_length And bs n e = omega arith
bit_length Or bs n e = omega arith
bit_length Next bs n e = omega arith
bit_length Weak bs n e = omega arith
bit_length Until bs n e = omega arith
bit_length Eventually bs n e = omega arith
bit_length Always bs n e = omega arith

ends_length : (os : List Operator) → length (ends_of os) ≡ temporals os
ends_length [] = refl
ends_length (o ∷ os) = omega (arith, bit_length o (ends_of os) (temporals os) (ends_length os))

-- with at most six temporal operators the number stays below 64
pub ends_small : (os : List Operator) → temporals os ≤ 6 → number (ends_of os) < 64
ends_small os h =
    let low : 2 ^ temporals os ≤ 2 ^ 6 = pow_mono h in
    omega (arith, number_lt (ends_of os) (temporals os) (ends_length os), low)

-- the bit of an operator that is no weak, by whether it is temporal
pub end_temporal : (o : Operator) → (o ≡ Weak → ⊥) → is_temporal o ≡ true → end_bit o ≡ false ∷ []
end_temporal True n e = cc
end_temporal (Mark m) n e = cc
end_temporal Not n e = cc
end_temporal And n e = cc
end_temporal Or n e = cc
end_temporal Next n e = refl
end_temporal Weak n e = absurd (n refl)
end_temporal Until n e = refl
end_temporal Eventually n e = refl
end_temporal Always n e = refl
