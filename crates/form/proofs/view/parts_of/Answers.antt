use Rattle.std.proofs.Common.{◌∷◌, length, ap, ◌∙◌, arith}
use Rattle.form.specs.Viewing.{piece}
use Rattle.form.proofs.Viewed.{at_none, at_some}
use Rattle.form.proofs.view.parts_of.Goals as goal

pub returns-in_default : goal.returns-in_default
returns-in_default c ps o e = at_none ps _ o e c.in_default.ensures

pub returns-in_default-next_part : goal.returns-in_default-next_part
returns-in_default-next_part c ps o e =
    let a = at_some ps _ _ _ o e c.in-Some.ensures in
    let z = at_none a.rest _ a.sound a.left c.in_default-next_part.ensures in
    a.whole ∙ ap (λ x. piece c.in-Some.a ∷ x) z

pub returns-in_default-next_part-2 : goal.returns-in_default-next_part-2
returns-in_default-next_part-2 c ps o e =
    let a = at_some ps _ _ _ o e c.in-Some.ensures in
    let b = at_some a.rest _ _ _ a.sound a.left c.in-Some-next_part.ensures in
    let z = at_none b.rest _ b.sound b.left c.in_default-next_part-2.ensures in
    a.whole ∙ ap (λ x. piece c.in-Some.a ∷ x) (b.whole ∙ ap (λ x. piece c.in-Some-next_part.b ∷ x) z)

pub returns-in-None : goal.returns-in-None
returns-in-None c ps o e =
    let a = at_some ps _ _ _ o e c.in-Some.ensures in
    let b = at_some a.rest _ _ _ a.sound a.left c.in-Some-next_part.ensures in
    let d = at_some b.rest _ _ _ b.sound b.left c.in-Some-next_part-2.ensures in
    let z = at_none d.rest _ d.sound d.left c.in-None.ensures in
    a.whole ∙ ap (λ x. piece c.in-Some.a ∷ x) (b.whole ∙ ap (λ x. piece c.in-Some-next_part.b ∷ x) (d.whole ∙ ap (λ x. piece c.in-Some-next_part-2.c ∷ x) z))

pub returns-in-Some-next_part-3 : goal.returns-in-Some-next_part-3
returns-in-Some-next_part-3 c ps o e =
    let a = at_some ps _ _ _ o e c.in-Some.ensures in
    let b = at_some a.rest _ _ _ a.sound a.left c.in-Some-next_part.ensures in
    let d = at_some b.rest _ _ _ b.sound b.left c.in-Some-next_part-2.ensures in
    let f = at_some d.rest _ _ _ d.sound d.left c.in-Some-next_part-3.ensures in
    omega (arith, ap length a.whole, ap length b.whole, ap length d.whole, ap length f.whole)
