use Rattle.std.proofs.Common.{arith}
use Rattle.std.proofs.lemmas.List.Sums.{prefix_len-le-length}
use Rattle.form.specs.Forms.{letter}
use Rattle.form.proofs.cursor.word.Goals as goal

pub split_at-requires : goal.split_at-requires
split_at-requires c = omega (arith, c.letters.ensures, prefix_len-le-length letter c.args.text.now)
