use Rattle.std.proofs.Common.{◌≡◌, ◌<◌, cond, get_or, arith, rules}
use borrow.Author.Tests.{tests}
use Rattle.ltlf.specs.Bits.{bit}
use Rattle.task.proofs.Filled.{filled}
use Rattle.task.proofs.tables.Tables.seeds.Goals as goal

pub returns-clause-each : goal.returns-clause-each
returns-clause-each c q h =
    let m = c.args.self.now.numbered in
    filled _ (λ q x. q < m.count → x ≡ cond (bit c.args.ending (get_or m.states q 0)) 0 4294967295) _ c.from_fn.result 64
    (λ q x s l k. search (rules, tests)) c.from_fn.ensures.items.each q 4294967295 (omega (arith, h, m.fits)) h
