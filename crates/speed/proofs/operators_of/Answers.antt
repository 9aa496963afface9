use Rattle.std.proofs.Common.{◌≡◌, ◌<◌, map, length, take, get_or, sym, ◌∙◌, arith, rules}
use Rattle.std.proofs.lemmas.List.{ext_get_or, get_or-map, get_or-take, length-map, length-take-le}
use borrow.Author.Tests.{tests}
use Rattle.speed.specs.Codes.{operator_at}
use Rattle.task.proofs.Filled.{filled}
use Rattle.speed.proofs.operators_of.Goals as goal

pub returns-clause-same : goal.returns-clause-same
returns-clause-same c =
    let codes = c.args.codes.now in
    let n = length codes in
    let made = c.from_fn.result in
    let d = operator_at 0 in
    let long = length-take-le n made (omega (arith, c.requires, c.from_fn.ensures.items.long)) in
    ext_get_or d (take n made) (map operator_at codes) (long ∙ sym (length-map codes operator_at)) (λ i h.
    let low : i < n = omega (arith, h, long) in
    let at = filled _ (λ j x. x ≡ operator_at (get_or codes j 0)) _ made 80 (λ j x s l k. search (rules, tests)) c.from_fn.ensures.items.each i d (omega (arith, low, c.requires)) in
    get_or-take n made i d low ∙ (at ∙ sym (get_or-map operator_at codes i 0 d low)))
