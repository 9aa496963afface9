-- The automaton accepts exactly the letters that satisfy the formula.
use Rattle.std.proofs.Common.{◌≡◌, ℕ, zero, suc, ◌+◌, ◌^◌, ◌<◌, ◌≤◌, Bool, true, false, ◌⊎◌, List, [], ◌∷◌, ◌++◌, length, get_or, drop, Decides, refl, ap, ◌∙◌, inl, inr, add-zero, zero-add, arith, length-append, drop_of_length-le, drop-cons, get_or-append-add}
use Rattle.std.proofs.lemmas.List.{get_or_append_left}
use Rattle.std.proofs.lemmas.Bool.{cases_lt, cases_eq, both_ways}
use Rattle.std.proofs.lemmas.Bool.Decides.{Decides-at, Decides-like, Decides-not, Decides-and, Decides-or}
use Rattle.ltlf.specs.Bits.{bit, number}
use Rattle.ltlf.specs.Ltlf.{Ltlf, top, mark, neg, conj, disj, next, weak, until, Holds}
use Rattle.ltlf.specs.Forecasts.{temporal, truth, earlier_bits, end_bits, earlier, ending}
use Rattle.ltlf.specs.Automaton.{first, step, steps, accepts}
use Rattle.ltlf.specs.Theorems.{AcceptsSatisfying}
use Rattle.ltlf.proofs.Packs.{bit_pack, bit_number, number_lt}

-- a forecast has a bit for each temporal operator
joined : (bs cs : List Bool) (m n : ℕ) → length bs ≡ m → length cs ≡ n → length (bs ++ cs) ≡ m + n
joined bs cs m n h k = omega (arith, length-append bs cs)

pub earlier_length : (f : Ltlf) (n a w : ℕ) → length (earlier_bits f n a w) ≡ temporal f
earlier_length top n a w = refl
earlier_length (mark m) n a w = refl
earlier_length (neg f) n a w = earlier_length f n a w
earlier_length (conj f g) n a w = joined _ _ _ _ (earlier_length f n a w) (earlier_length g (n + temporal f) a w)
earlier_length (disj f g) n a w = joined _ _ _ _ (earlier_length f n a w) (earlier_length g (n + temporal f) a w)
earlier_length (next f) n a w = ap suc (earlier_length f (suc n) a w)
earlier_length (weak f) n a w = ap suc (earlier_length f (suc n) a w)
earlier_length (until f g) n a w = ap suc (joined _ _ _ _ (earlier_length f (suc n) a w) (earlier_length g (suc n + temporal f) a w))

pub end_length : (f : Ltlf) → length (end_bits f) ≡ temporal f
end_length top = refl
end_length (mark m) = refl
end_length (neg f) = end_length f
end_length (conj f g) = joined _ _ _ _ (end_length f) (end_length g)
end_length (disj f g) = joined _ _ _ _ (end_length f) (end_length g)
end_length (next f) = ap suc (end_length f)
end_length (weak f) = ap suc (end_length f)
end_length (until f g) = ap suc (joined _ _ _ _ (end_length f) (end_length g))

-- the bits of w from n on begin with bs
Part : ℕ → ℕ → List Bool → Type 0
Part w n bs = (k : ℕ) → k < length bs → bit (n + k) w ≡ get_or bs k false

part_whole : (bs : List Bool) → Part (number bs) 0 bs
unfolding Part
part_whole bs k h = rw zero-add (bit_number bs k)

part_left : (w n : ℕ) (bs cs : List Bool) → Part w n (bs ++ cs) → Part w n bs
unfolding Part
part_left w n bs cs p k h = p k (omega (arith, length-append bs cs)) ∙ get_or_append_left bs cs false k h

part_right : (w n m : ℕ) (bs cs : List Bool) → length bs ≡ m → Part w n (bs ++ cs) → Part w (n + m) cs
unfolding Part
part_right w n m bs cs e p k h =
    let at : n + m + k ≡ n + (length bs + k) = omega arith in
    rw at (p (length bs + k) (omega (arith, length-append bs cs)) ∙ get_or-append-add bs cs k false)

part_head : (w n : ℕ) (b : Bool) (bs : List Bool) → Part w n (b ∷ bs) → bit n w ≡ b
unfolding Part
part_head w n b bs p = rw add-zero at (p 0 (omega arith))

part_tail : (w n : ℕ) (b : Bool) (bs : List Bool) → Part w n (b ∷ bs) → Part w (suc n) bs
unfolding Part
part_tail w n b bs p k h =
    let at : suc n + k ≡ n + suc k = omega arith in
    rw at (p (suc k) (omega arith))

-- f, numbered from n, is a part of the whole formula: its bits stand in the whole's forecasts from n on
record Within (whole f : Ltlf) (n : ℕ) : Type 0 where
  before : (a w : ℕ) → Part (earlier whole a w) n (earlier_bits f n a w)
  at_end : Part (ending whole) n (end_bits f)

within_whole : (f : Ltlf) → Within f f 0
within_whole f = record {
  before = λ a w. part_whole (earlier_bits f 0 a w);
  at_end = part_whole (end_bits f);
}

-- a run of the automaton, read backwards: the forecast before the letters, from the one after them
back : Ltlf → List ℕ → ℕ → ℕ
back f [] w = w
back f (a ∷ xs) w = earlier f a (back f xs w)

back_lt : (f : Ltlf) (xs : List ℕ) (w : ℕ) → w < 2 ^ temporal f → back f xs w < 2 ^ temporal f
unfolding back
back_lt f [] w h = h
back_lt f (a ∷ xs) w h = number_lt _ _ (earlier_length f 0 a (back f xs w))

steps_back : (f : Ltlf) (xs : List ℕ) (s w : ℕ) → w < 2 ^ temporal f → bit w (steps f s xs) ≡ bit (back f xs w) s
unfolding back
steps_back f [] s w h = refl
steps_back f (a ∷ xs) s w h =
    steps_back f xs (step f s a) w h ∙ bit_pack (2 ^ temporal f) (λ v. bit (earlier f a v) s) (back f xs w) (back_lt f xs w h)

-- an until holds if its second operand does, or if its first does and the until holds at a next position
Unrolled : Ltlf → Ltlf → List ℕ → ℕ → Type 0
Unrolled f g xs i = Holds g xs i ⊎ (Holds f xs i × ((suc i < length xs) × Holds (until f g) xs (suc i)))

unroll : (f g : Ltlf) (xs : List ℕ) (i : ℕ) → Holds (until f g) xs i → Unrolled f g xs i
unfolding Unrolled
unroll f g xs i (k, low, high, there, before) = elim (cases_eq i k) [
  | inl e ↦ inl (rw e there)
  | inr ne ↦
      let more : i < k = omega arith in
      inr (before i (omega arith) more, (omega arith, (k, more, high, there, λ j l h. before j (omega arith) h)))
]

roll : (f g : Ltlf) (xs : List ℕ) (i : ℕ) → i < length xs → Unrolled f g xs i → Holds (until f g) xs i
unfolding Unrolled
roll f g xs i within (inl here) = (i, omega arith, within, here, λ j l h. let z : ⊥ = omega arith in elim z [ ])
roll f g xs i within (inr (now, (more, (k, low, high, there, before)))) = (
  k,
  omega arith,
  high,
  there,
  λ j l h. elim (cases_eq j i) [
    | inl e ↦ rw e now
    | inr ne ↦ before j (omega arith) h
  ],
)

module _ (whole : Ltlf) (xs : List ℕ) where
  -- the forecast that comes true at position i
  forecast : ℕ → ℕ
  forecast i = back whole (drop (suc i) xs) (ending whole)

  forecast_step : (i : ℕ) → suc i < length xs → forecast i ≡ earlier whole (get_or xs (suc i) 0) (forecast (suc i))
  unfolding forecast back
  forecast_step i h = ap (λ t. back whole t (ending whole)) (drop-cons xs (suc i) 0 h)

  forecast_end : (i : ℕ) → length xs ≤ suc i → forecast i ≡ ending whole
  unfolding forecast back
  forecast_end i h = ap (λ t. back whole t (ending whole)) (drop_of_length-le xs h)

  -- the truth of a formula under the forecast that comes true tells whether the formula holds, at i and at every position
  RightAt : Ltlf → ℕ → ℕ → Type 0
  RightAt f n i = Decides (truth f n (get_or xs i 0) (forecast i)) (Holds f xs i)

  RightThroughout : Ltlf → ℕ → Type 0
  RightThroughout f n = (i : ℕ) → i < length xs → RightAt f n i

  -- the bit of a next and of a weak
  next_right : (f : Ltlf) (n : ℕ) → Within whole (next f) n → RightThroughout f (suc n) → RightThroughout (next f) n
  unfolding RightThroughout RightAt
  next_right f n win right i h = elim (cases_lt (suc i) (length xs)) [
    | inl more ↦
        let is : bit n (forecast i) ≡ truth f (suc n) (get_or xs (suc i) 0) (forecast (suc i))
        = ap (bit n) (forecast_step i more) ∙ part_head _ n _ _ (win.before (get_or xs (suc i) 0) (forecast (suc i))) in
        Decides-at _ _ is (Decides-like _ (λ p. (more, p)) (λ q. q.1) (right (suc i) more))
    | inr done ↦
        let is : bit n (forecast i) ≡ false = ap (bit n) (forecast_end i done) ∙ part_head _ n _ _ win.at_end in
        Decides-at _ _ is (λ e. elim (both_ways _ refl e) [ ], λ q. let z : ⊥ = omega (arith, q.0) in elim z [ ])
  ]

  weak_right : (f : Ltlf) (n : ℕ) → Within whole (weak f) n → RightThroughout f (suc n) → RightThroughout (weak f) n
  unfolding RightThroughout RightAt
  weak_right f n win right i h = elim (cases_lt (suc i) (length xs)) [
    | inl more ↦
        let is : bit n (forecast i) ≡ truth f (suc n) (get_or xs (suc i) 0) (forecast (suc i))
        = ap (bit n) (forecast_step i more) ∙ part_head _ n _ _ (win.before (get_or xs (suc i) 0) (forecast (suc i))) in
        Decides-at _ _ is (Decides-like _ (λ p q. p) (λ p. p more) (right (suc i) more))
    | inr done ↦
        let is : bit n (forecast i) ≡ true = ap (bit n) (forecast_end i done) ∙ part_head _ n _ _ win.at_end in
        Decides-at _ _ is (λ e q. let z : ⊥ = omega arith in elim z [ ], λ q. refl)
  ]

  module _ (f g : Ltlf) (n : ℕ) (win : Within whole (until f g) n)
      (left : RightThroughout f (suc n)) (right : RightThroughout g (suc n + temporal f)) where
    -- the bit of an until says that a next position exists and the until holds there
    Ahead : ℕ → Type 0
    Ahead i = Decides (bit n (forecast i)) ((suc i < length xs) × Holds (until f g) xs (suc i))

    until_here : (i : ℕ) → i < length xs → Ahead i → RightAt (until f g) n i
    unfolding RightThroughout RightAt Ahead Unrolled
    until_here i h ahead =
        Decides-like _ (roll f g xs i h) (unroll f g xs i)
        (Decides-or _ _ (right i h) (Decides-and _ _ (left i h) ahead))

    ahead_from : (i : ℕ) → (suc i < length xs → RightAt (until f g) n (suc i)) → Ahead i
    unfolding RightAt Ahead
    ahead_from i after = elim (cases_lt (suc i) (length xs)) [
      | inl more ↦
          let is : bit n (forecast i) ≡ truth (until f g) n (get_or xs (suc i) 0) (forecast (suc i))
          = ap (bit n) (forecast_step i more) ∙ part_head _ n _ _ (win.before (get_or xs (suc i) 0) (forecast (suc i))) in
          Decides-at _ _ is (Decides-like _ (λ p. (more, p)) (λ q. q.1) (after more))
      | inr done ↦
          let is : bit n (forecast i) ≡ false = ap (bit n) (forecast_end i done) ∙ part_head _ n _ _ win.at_end in
          Decides-at _ _ is (λ e. elim (both_ways _ refl e) [ ], λ q. let z : ⊥ = omega (arith, q.0) in elim z [ ])
    ]

    until_within : (d i : ℕ) → length xs ≤ i + d → i < length xs → RightAt (until f g) n i
    until_within zero i far h = let z : ⊥ = omega arith in elim z [ ]
    until_within (suc d) i far h = until_here i h (ahead_from i (λ more. until_within d (suc i) (omega arith) more))

    until_right : RightThroughout (until f g) n
    unfolding RightThroughout
    until_right i h = until_within (length xs) i (omega arith) h

  -- the operands of a part are parts
  inner_next : (f : Ltlf) (n : ℕ) → Within whole (next f) n → Within whole f (suc n)
  inner_next f n win = record {
    before = λ a w. part_tail _ n _ _ (win.before a w);
    at_end = part_tail _ n _ _ win.at_end;
  }

  inner_weak : (f : Ltlf) (n : ℕ) → Within whole (weak f) n → Within whole f (suc n)
  inner_weak f n win = record {
    before = λ a w. part_tail _ n _ _ (win.before a w);
    at_end = part_tail _ n _ _ win.at_end;
  }

  inner_left : (f g : Ltlf) (n : ℕ) → Within whole (conj f g) n → Within whole f n
  inner_left f g n win = record {
    before = λ a w. part_left _ n _ _ (win.before a w);
    at_end = part_left _ n _ _ win.at_end;
  }

  inner_right : (f g : Ltlf) (n : ℕ) → Within whole (conj f g) n → Within whole g (n + temporal f)
  inner_right f g n win = record {
    before = λ a w. part_right _ n (temporal f) _ _ (earlier_length f n a w) (win.before a w);
    at_end = part_right _ n (temporal f) _ _ (end_length f) win.at_end;
  }

  inner_until : (f g : Ltlf) (n : ℕ) → Within whole (until f g) n → Within whole f (suc n) × Within whole g (suc n + temporal f)
  inner_until f g n win = (
    record {
      before = λ a w. part_left _ (suc n) _ _ (part_tail _ n _ _ (win.before a w));
      at_end = part_left _ (suc n) _ _ (part_tail _ n _ _ win.at_end);
    },
    record {
      before = λ a w. part_right _ (suc n) (temporal f) _ _ (earlier_length f (suc n) a w) (part_tail _ n _ _ (win.before a w));
      at_end = part_right _ (suc n) (temporal f) _ _ (end_length f) (part_tail _ n _ _ win.at_end);
    },
  )

  -- so it is for every part of the whole formula
  all_right : (f : Ltlf) (n : ℕ) → Within whole f n → RightThroughout f n
  unfolding RightThroughout RightAt
  all_right top n win i h = (λ e. tt, λ u. refl)
  all_right (mark m) n win i h = (λ e. e, λ e. e)
  all_right (neg f) n win i h = Decides-not _ (all_right f n (record { before = win.before; at_end = win.at_end }) i h)
  all_right (conj f g) n win i h =
      Decides-and _ _ (all_right f n (inner_left f g n win) i h) (all_right g (n + temporal f) (inner_right f g n win) i h)
  all_right (disj f g) n win i h =
      let both : Within whole (conj f g) n = record { before = win.before; at_end = win.at_end } in
      Decides-or _ _ (all_right f n (inner_left f g n both) i h) (all_right g (n + temporal f) (inner_right f g n both) i h)
  all_right (next f) n win i h = next_right f n win (all_right f (suc n) (inner_next f n win)) i h
  all_right (weak f) n win i h = weak_right f n win (all_right f (suc n) (inner_weak f n win)) i h
  all_right (until f g) n win i h =
      let parts = inner_until f g n win in
      until_right f g n win (all_right f (suc n) parts.0) (all_right g (suc n + temporal f) parts.1) i h

-- the automaton answers the truth of the formula at the first position
accepts_truth : (f : Ltlf) (a : ℕ) (xs : List ℕ) → accepts f (a ∷ xs) ≡ truth f 0 a (back f xs (ending f))
accepts_truth f a xs =
    let low : ending f < 2 ^ temporal f = number_lt _ _ (end_length f) in
    steps_back f xs (first f a) (ending f) low ∙ bit_pack (2 ^ temporal f) (λ w. truth f 0 a w) (back f xs (ending f)) (back_lt f xs (ending f) low)

pub accepts_satisfying : AcceptsSatisfying
unfolding RightThroughout RightAt forecast
accepts_satisfying f [] = (λ e. elim (both_ways _ refl e) [ ], λ q. let z : ⊥ = omega (arith, q.0) in elim z [ ])
accepts_satisfying f (a ∷ xs) =
    let some : 0 < length (a ∷ xs) = omega arith in
    Decides-at _ _ (accepts_truth f a xs) (Decides-like _ (λ p. (some, p)) (λ q. q.1) (all_right f (a ∷ xs) f 0 (within_whole f) 0 some))
