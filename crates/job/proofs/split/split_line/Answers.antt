use borrow.Author.Tests.{tests}
use Rattle.std.proofs.Common.{◌≡◌, ℕ, rules, subst}
use Rattle.std.proofs.lemmas.Iterator.{YieldsList-from_slice, IsFirst-from_position}
use Rattle.job.proofs.Unbroken.{Cuts, first_cut}
use Rattle.job.proofs.split.split_line.Goals as goal

pub returns-in_err-end : goal.returns-in_err-end
returns-in_err-end c =
    let t = c.args.text.now in
    let cut = first_cut t _ (IsFirst-from_position _ _ _ (λ (b : ℕ). b ≡ 10) (λ (b : ℕ). b ≡ 10 → ⊥) c.position.ensures.ran
    (YieldsList-from_slice t cc) (λ x q k. search (rules, tests)) (λ x q k. search (rules, tests))) in
    rw c.from_residual.ensures (subst (Cuts t) c.in_err-end.was cut)

pub returns : goal.returns
returns c =
    let t = c.args.text.now in
    let cut = first_cut t _ (IsFirst-from_position _ _ _ (λ (b : ℕ). b ≡ 10) (λ (b : ℕ). b ≡ 10 → ⊥) c.position.ensures.ran
    (YieldsList-from_slice t cc) (λ x q k. search (rules, tests)) (λ x q k. search (rules, tests))) in
    subst (Cuts t) c.in_ok-end.was cut
