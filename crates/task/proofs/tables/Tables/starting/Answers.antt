use Rattle.std.proofs.Common.{ℕ, List, length, get_or, sym, subst, rules}
use borrow.Author.Tests.{tests}
use Rattle.ltlf.specs.Automaton.{first}
use Rattle.task.specs.Listed.{listed}
use Rattle.task.specs.Tables.{Tabled}
use Rattle.task.proofs.tables.Tables.starting.Goals as goal

pub returns-in_err-follow_each : goal.returns-in_err-follow_each
returns-in_err-follow_each c f acts =
    rw (c.from_residual.ensures, sym c.none-numbered.ensures)
    (c.in_err-follow_each.ensures (first f) (λ a s d h returned. let here = acts a d h in search (rules, tests)))

pub returns : goal.returns
returns c f acts =
    let P : List ℕ → Type 0 = λ ss. Tabled (first f) (length c.args.letters.now) ss (listed c.follow_each.new.numbered) (λ a. get_or c.follow_each.new.row a 0) in
    subst P c.none-numbered.ensures
    (c.in_ok-follow_each.ensures (first f) (λ a s d h returned. let here = acts a d h in search (rules, tests)))
