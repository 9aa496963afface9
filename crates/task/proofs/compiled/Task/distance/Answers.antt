use Rattle.std.proofs.Common.{◌≡◌, ℕ, ◌&&◌, ltb, leb, get_or, inl, inr, arith}
use Rattle.std.proofs.lemmas.Bool.{cases_Bool, ltb-true, ltb-false}
use Rattle.ltlf.specs.Distance.{within}
use Rattle.ltlf.proofs.Distances.{distance_none, distance_some}
use Rattle.task.specs.Compiled.{task_formula, letters_of}
use Rattle.task.proofs.Compiling.{states_count}
use Rattle.task.proofs.compiled.Task.distance.Goals as goal

pub returns-clause-answer : goal.returns-clause-answer
returns-clause-answer c h =
    let me = c.args.self.now in
    let q = c.args.state in
    let d = get_or me.distances q 0 in
    let tests : (k : ℕ) → within (task_formula me) (letters_of me) k q ≡ (ltb d 4294967295 && leb d k) = λ k. me.tests q k (omega (arith, h, states_count me)) in
    rw (c.then_some.ensures, c.from.ensures)
    (elim (cases_Bool (ltb d 4294967295)) [
      | inl e ↦ rw e (distance_some (task_formula me) (letters_of me) q d 4294967295 tests (ltb-true d 4294967295 e))
      | inr e ↦ rw e (distance_none (task_formula me) (letters_of me) q d 4294967295 tests (ltb-false d 4294967295 e))
    ])
