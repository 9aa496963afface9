use Rattle.std.proofs.Common.{◌∷◌, decimal, sym, ap, ◌∙◌}
use Rattle.std.proofs.lemmas.List.{append-nil}
use Rattle.form.specs.Forms.{written}
use Rattle.form.proofs.Put.{wrote_as, wrote_then}
use Rattle.taskform.specs.Spelling.{leaf_parts}
use Rattle.taskform.proofs.writing.put_mark.Goals as goal

pub returns-in-Mark : goal.returns-in-Mark
returns-in-Mark c =
    wrote_as (ap (λ n. 32 ∷ decimal n) c.from.ensures ∙ (ap (λ x. 32 ∷ x) (sym (append-nil (decimal c.in-Mark.mark))) ∙ ap (λ o. written (leaf_parts o)) (sym c.in-Mark.is)))
    (wrote_then c.put_byte.ensures c.put_number.ensures)
