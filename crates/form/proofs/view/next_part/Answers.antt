use Rattle.std.proofs.Common.{length, ap, arith}
use Rattle.form.proofs.Viewed.{enclosed_le}
use Rattle.form.proofs.view.next_part.Goals as goal

pub overflow_add-span : goal.overflow_add-span
overflow_add-span c =
    omega (arith, c.span.ensures, enclosed_le c.in-Some.inside.now 0, ap length c.in-Some.ensures, ap length c.in_ok-rest.ensures, c.well_formed.0.0)

pub split_at-requires : goal.split_at-requires
split_at-requires c = omega (arith, c.span.ensures, enclosed_le c.in-Some.inside.now 0, ap length c.in-Some.ensures)
