-- Forecasts: a number with a bit for each temporal operator (next, weak, until), numbered from 0 in prefix order.
-- The bit of a next or weak says that the operator holds here; that of an until, that a next position exists and it holds there.
use Rattle.std.specs.Prelude.{ℕ, suc, ◌+◌, Bool, true, false, not, ◌&&◌, ◌||◌, List, [], ◌∷◌, ◌++◌}
use Rattle.ltlf.specs.Bits.{bit, number}
use Rattle.ltlf.specs.Ltlf.{Ltlf, top, mark, neg, conj, disj, next, weak, until}

-- how many temporal operators a formula has
abbrev pub temporal : Ltlf → ℕ
temporal top = 0
temporal (mark m) = 0
temporal (neg f) = temporal f
temporal (conj f g) = temporal f + temporal g
temporal (disj f g) = temporal f + temporal g
temporal (next f) = suc (temporal f)
temporal (weak f) = suc (temporal f)
temporal (until f g) = suc (temporal f + temporal g)

-- the truth here, under a letter a and a forecast w, of a formula whose temporal operators are numbered from n
abbrev pub truth : Ltlf → ℕ → ℕ → ℕ → Bool
truth top n a w = true
truth (mark m) n a w = bit m a
truth (neg f) n a w = not (truth f n a w)
truth (conj f g) n a w = truth f n a w && truth g (n + temporal f) a w
truth (disj f g) n a w = truth f n a w || truth g (n + temporal f) a w
truth (next f) n a w = bit n w
truth (weak f) n a w = bit n w
truth (until f g) n a w = truth g (suc n + temporal f) a w || (truth f (suc n) a w && bit n w)

-- the bits of the forecast one position earlier: the truth here of the argument of each next and weak, and of each until
abbrev pub earlier_bits : Ltlf → ℕ → ℕ → ℕ → List Bool
earlier_bits top n a w = []
earlier_bits (mark m) n a w = []
earlier_bits (neg f) n a w = earlier_bits f n a w
earlier_bits (conj f g) n a w = earlier_bits f n a w ++ earlier_bits g (n + temporal f) a w
earlier_bits (disj f g) n a w = earlier_bits f n a w ++ earlier_bits g (n + temporal f) a w
earlier_bits (next f) n a w = truth f (suc n) a w ∷ earlier_bits f (suc n) a w
earlier_bits (weak f) n a w = truth f (suc n) a w ∷ earlier_bits f (suc n) a w
earlier_bits (until f g) n a w =
    truth (until f g) n a w ∷ (earlier_bits f (suc n) a w ++ earlier_bits g (suc n + temporal f) a w)

-- the bits of the end forecast, which comes true at the last position: 1 for each weak
abbrev pub end_bits : Ltlf → List Bool
end_bits top = []
end_bits (mark m) = []
end_bits (neg f) = end_bits f
end_bits (conj f g) = end_bits f ++ end_bits g
end_bits (disj f g) = end_bits f ++ end_bits g
end_bits (next f) = false ∷ end_bits f
end_bits (weak f) = true ∷ end_bits f
end_bits (until f g) = false ∷ (end_bits f ++ end_bits g)

-- the forecast one position earlier
abbrev pub earlier : Ltlf → ℕ → ℕ → ℕ
earlier f a w = number (earlier_bits f 0 a w)

-- the end forecast
abbrev pub ending : Ltlf → ℕ
ending f = number (end_bits f)
