use Rattle.std.proofs.Common.{length, arith}
use Rattle.ls_update.proofs.Exact.{one_row}
use Rattle.ls_update.proofs.ReadBack.{read_back, length_before}
use Rattle.ls_update.proofs.law.a_written_row_is_read.Goals as goal

pub returns : goal.returns
returns c = record {
  read = λ prev row able. read_back prev row able;
  alone = λ prev row other able reads.
      let n = length_before prev (length row) able.before in
      one_row _ other row _ (omega (arith, n, able.most)) reads (read_back prev row able);
}
