use Rattle.std.proofs.Common.{◌≡◌, ℕ, ◌<◌, ◌≤◌, cond, ◌&&◌, ltb, leb, List, [], length, get_or, take, sym, ap, ◌∙◌, inl, inr, arith, length-take}
use Rattle.std.proofs.lemmas.List.{get_or-take, get_or_past, length-take-le}
use Rattle.std.proofs.lemmas.Bool.{cases_lt}
use Rattle.ltlf.specs.Bits.{bit}
use Rattle.ltlf.specs.Numbering.{states, accepts_number, next_number}
use Rattle.task.specs.Rows.{entry}
use Rattle.task.proofs.Stating.{distance_tests}
use Rattle.task.proofs.tables.Tables.distances.Goals as goal

-- the first of numbers that fit do
front_fits : (n : ℕ) (xs : List ℕ) → ((p : ℕ) → get_or xs p 0 ≤ 4294967295) → (p : ℕ) → get_or (take n xs) p 0 ≤ 4294967295
front_fits n xs fits p = elim (cases_lt p n) [
  | inl l ↦ omega (arith, get_or-take n xs p 0 l, fits p)
  | inr g ↦ omega (arith, get_or_past (take n xs) p 0 (omega (arith, length-take n xs)))
]

pub returns : goal.returns
returns c f right end q k h =
    let me = c.args.self.now in
    let m = me.numbered in
    let a = c.args.letters in
    let rows = take m.count me.next in
    let n = length rows in
    let many : n ≡ m.count = length-take-le m.count me.next (omega (arith, m.fits, me.nexts)) in
    let seeds = c.seeds-distances.result in
    let ds = c.nearest.new.values in
    let long : length (take n seeds) ≡ n = length-take-le n seeds (omega (arith, many, m.fits, c.seeds-distances.ensures.whole)) in
    let steps : (p b : ℕ) → p < n → b < a → entry rows p b ≡ next_number f a p b
    = λ p b l r. ap (λ row. get_or row b 0) (get_or-take m.count me.next p [] (omega (arith, many))) ∙ right.steps p b (omega (arith, many)) r in
    let at : (p : ℕ) → p < m.count → get_or m.states p 0 ≡ get_or (states f a) p 0
    = λ p l. sym (get_or-take m.count m.states p 0 l) ∙ ap (λ ss. get_or ss p 0) right.lists in
    let seeded : (p : ℕ) → p < n → get_or (take n seeds) p 4294967295 ≡ cond (accepts_number f a p) 0 4294967295
    = λ p l. let known : p < m.count = omega (arith, many) in
    get_or-take n seeds p 4294967295 l
    ∙ (c.seeds-distances.ensures.each p known
    ∙ (ap (λ s. cond (bit c.args.ending s) 0 4294967295) (at p known) ∙ ap (λ w. cond (bit w (get_or (states f a) p 0)) 0 4294967295) end)) in
    let fit : (p : ℕ) → get_or (take n ds) p 0 ≤ 4294967295 = front_fits n ds c.nearest.ensures.fit in
    let l : q < n = omega (arith, many) in
    distance_tests f a rows steps c.requires.inside (omega (arith, many, m.fits)) (take n seeds) (take n ds) long seeded c.nearest.ensures.best fit q k l
    ∙ (ap (λ d. ltb d 4294967295 && leb d k) (get_or-take n ds q 0 l))
