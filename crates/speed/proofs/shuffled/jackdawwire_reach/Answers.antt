use Rattle.std.proofs.Common.{◌≡◌, ℕ, suc, Bool, true, false, List, ◌∷◌, length, take, replicate, ap, ◌∙◌, arith}
use Rattle.std.proofs.lemmas.List.{take_all, length-replicate}
use Rattle.best.specs.Kinds.{answers}
use Rattle.best.specs.Paths.{Meaning, IsBest}
use Rattle.speed.specs.Shuffled.{shuffled}
use Rattle.speed.proofs.shuffled.jackdawwire_reach.Goals as goal

-- of memory that is just long enough the first places are all
whole : (m : Meaning Unit) (n : ℕ) (xs ys : List Bool) → length xs ≡ n → length ys ≡ n → IsBest answers m (take n xs) (take n ys) → IsBest answers m xs ys
whole m n xs ys p q b = rw (take_all n xs (omega arith), take_all n ys (omega arith)) at b

pub returns : goal.returns
returns c =
    let ys = c.best.new.values in
    let long : length (true ∷ replicate 16383 false) ≡ 16384 = ap suc (length-replicate 16383 false) in
    (ys, whole shuffled 16384 _ ys long (c.best.auto.values ∙ long) (c.best.ensures.best (omega (arith, long))), c.count_yes.ensures)
